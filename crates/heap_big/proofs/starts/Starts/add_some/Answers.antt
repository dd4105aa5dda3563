use Rattle.std.proofs.Common.{◌≡◌, ◌⊎◌, ◌-◌, ◌<◌, ◌^◌, ◌*◌, ◌%◌, ◌↔◌, ℕ, List, [], length, get_or, set, subst, ◌∙◌, arith, w64, bit_or}
use Rattle.std.specs.Prelude.{Contains}
use Rattle.std.proofs.lemmas.List.{get_or_default}
use Rattle.std.proofs.lemmas.Nat.Bits.{bit_at_set_same, bit_at_set_other}
use Rattle.heap_big.specs.Pages.{GainsOne}
use Rattle.heap_big.specs.Starts.{HasRun}
use Rattle.heap_big.proofs.Lengths.{added, marked_by, gains-some}
use Rattle.heap_big.proofs.starts.Starts.add_some.Goals as goal

-- the set of a length, as it is read
read : (sets : List (List ℕ)) (at : ℕ) (now : List ℕ) → at < 64 → length sets ≡ 64 → now ≡ get_or sets at now → now ≡ get_or sets at []
read sets at now small size is = is ∙ get_or_default sets at now [] (omega (arith, small, size))

gain : (sets : List (List ℕ)) (at : ℕ) (now : List ℕ) (first : ℕ) (new : List ℕ) → at < 64 → length sets ≡ 64 → now ≡ get_or sets at now → GainsOne now first new → GainsOne (get_or sets at []) first new
gain sets at now first new small size is g = subst (λ (l : List ℕ). GainsOne l first new) (read sets at now small size is) g

pub insert-requires-clause-new : goal.insert-requires-clause-new
insert-requires-clause-new c has =
    let same = read c.self.inside.sets.items (c.args.run.pages - 1) c.index_mut-set.result.now (omega arith) (omega (arith, c.self.invariant.size)) c.index_mut-set.ensures.value in
    c.requires.new (subst (λ (l : List (List ℕ)). HasRun l c.args.run) c.self.view_is
    (let r : HasRun c.self.inside.sets.items c.args.run = record { some = c.requires.some; begins = subst (λ (l : List ℕ). Contains l c.args.run.first) same has } in r))

pub invariant_of-self : goal.invariant_of-self
invariant_of-self c =
    let sets = c.self.inside.sets.items in
    let at = c.args.run.pages - 1 in
    let used = c.self.inside.used in
    let small : at < 64 = omega arith in
    let size : length sets ≡ 64 = omega (arith, c.self.invariant.size) in
    let one = bit_at_set_same w64 used at small in
    let some = gains-some (get_or sets at []) c.args.run.first c.insert.new.self (gain sets at c.index_mut-set.result.now c.args.run.first c.insert.new.self small size c.index_mut-set.ensures.value c.insert.ensures.gains) in
    record {
      size = omega (arith, c.self.invariant.size);
      used = marked_by sets used at c.insert.new.self size small c.self.invariant.used (bit_or used (1 * 2 ^ at % 2 ^ 64))
          (λ k lt apart. bit_at_set_other w64 used at small k apart)
          (λ none. absurd (omega (arith, one, none)), λ none. absurd (some none));
    }

pub returns : goal.returns
returns c other =
    let sets = c.self.inside.sets.items in
    let at = c.args.run.pages - 1 in
    let size : length sets ≡ 64 = omega (arith, c.self.invariant.size) in
    subst (λ (l : List (List ℕ)). HasRun (set sets at c.insert.new.self) other ↔ (HasRun l other ⊎ (other ≡ c.args.run))) c.self.view_is
    (added sets c.args.run c.insert.new.self size c.requires.some c.requires.short
    (gain sets at c.index_mut-set.result.now c.args.run.first c.insert.new.self (omega arith) size c.index_mut-set.ensures.value c.insert.ensures.gains) other)
