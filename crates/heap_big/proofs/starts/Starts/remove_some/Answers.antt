use Rattle.std.proofs.Common.{◌≡◌, ◌≢◌, ◌-◌, ◌<◌, ◌^◌, ◌*◌, ◌%◌, ◌↔◌, ℕ, List, [], length, get_or, set, refl, sym, subst, ◌∙◌, arith, w64, bit_and}
use Rattle.std.specs.Prelude.{Contains}
use Rattle.std.specs.Int.{bit_not}
use Rattle.std.proofs.lemmas.List.{get_or_default}
use Rattle.std.proofs.lemmas.Nat.Bits.{bit_at_clear_same, bit_at_clear_other}
use Rattle.heap_big.specs.declared.run.Run.{Run}
use Rattle.heap_big.specs.Pages.{GainsOne}
use Rattle.heap_big.specs.Starts.{HasRun}
use Rattle.heap_big.proofs.Lengths.{taken_out, marked_by, has_run-short, marked}
use Rattle.heap_big.proofs.starts.Starts.remove_some.Goals as goal

-- the set of a length, as it is read
read : (sets : List (List ℕ)) (at : ℕ) (now : List ℕ) → at < 64 → length sets ≡ 64 → now ≡ get_or sets at now → now ≡ get_or sets at []
read sets at now small size is = is ∙ get_or_default sets at now [] (omega (arith, small, size))

module _ (sets view : List (List ℕ)) (run : Run) (size : length sets ≡ 64) (is : sets ≡ view) (has : HasRun view run) where
  there : HasRun sets run
  there = subst (λ (l : List (List ℕ)). HasRun l run) (sym is) has

  small : run.pages - 1 < 64
  small = has_run-short sets run size there

  read_has : (now : List ℕ) → now ≡ get_or sets (run.pages - 1) now → Contains now run.first
  read_has now value = subst (λ (l : List ℕ). Contains l run.first) (sym (read sets (run.pages - 1) now small size value)) there.begins

  loses : (now new : List ℕ) → now ≡ get_or sets (run.pages - 1) now → GainsOne new run.first now → GainsOne new run.first (get_or sets (run.pages - 1) [])
  loses now new value g = subst (λ (l : List ℕ). GainsOne new run.first l) (read sets (run.pages - 1) now small size value) g

  after : (now new : List ℕ) → now ≡ get_or sets (run.pages - 1) now → GainsOne new run.first now → (Contains new run.first → ⊥) → (other : Run) → HasRun (set sets (run.pages - 1) new) other ↔ (HasRun view other × (other ≢ run))
  after now new value g gone other = subst (λ (l : List (List ℕ)). HasRun (set sets (run.pages - 1) new) other ↔ (HasRun l other × (other ≢ run))) is
      (taken_out sets run new size has.some (omega (arith, small, has.some)) (loses now new value g) gone other)

pub index_mut-set-requires : goal.index_mut-set-requires
index_mut-set-requires c =
    let less = small c.self.inside.sets.items c.args.self.now c.args.run (omega (arith, c.self.invariant.size)) c.self.view_is c.requires in
    omega (arith, less, c.self.invariant.size)

pub remove-requires : goal.remove-requires
remove-requires c = read_has c.self.inside.sets.items c.args.self.now c.args.run (omega (arith, c.self.invariant.size)) c.self.view_is c.requires c.index_mut-set.result.now c.index_mut-set.ensures.value

pub invariant_of-self : goal.invariant_of-self
invariant_of-self c =
    let sets = c.self.inside.sets.items in
    let at = c.args.run.pages - 1 in
    let used = c.self.inside.used in
    let size : length sets ≡ 64 = omega (arith, c.self.invariant.size) in
    let less = small sets c.args.self.now c.args.run size c.self.view_is c.requires in
    let empty : c.remove.new.self ≡ [] = c.is_empty.ensures.0 c.if-is_empty.true in
    record {
      size = omega (arith, c.self.invariant.size);
      used = marked_by sets used at c.remove.new.self size less c.self.invariant.used (bit_and used (bit_not w64 (1 * 2 ^ at % 2 ^ 64)))
          (λ k lt apart. bit_at_clear_other w64 used at less k lt apart)
          (λ none. empty, λ none. bit_at_clear_same w64 used at less);
    }

pub invariant_of-self-else-is_empty : goal.invariant_of-self-else-is_empty
invariant_of-self-else-is_empty c =
    let sets = c.self.inside.sets.items in
    let at = c.args.run.pages - 1 in
    let used = c.self.inside.used in
    let size : length sets ≡ 64 = omega (arith, c.self.invariant.size) in
    let less = small sets c.args.self.now c.args.run size c.self.view_is c.requires in
    let some : c.remove.new.self ≢ [] = λ none. let hit = c.is_empty.ensures.1 none in let miss = c.if-is_empty.false in (cc) in
    record {
      size = omega (arith, c.self.invariant.size);
      used = marked_by sets used at c.remove.new.self size less c.self.invariant.used used (λ k lt apart. refl)
          (λ none. absurd (marked sets used c.args.run size c.self.invariant.used (there sets c.args.self.now c.args.run size c.self.view_is c.requires) none), λ none. absurd (some none));
    }

pub returns-then-is_empty : goal.returns-then-is_empty
returns-then-is_empty c other =
    after c.self.inside.sets.items c.args.self.now c.args.run (omega (arith, c.self.invariant.size)) c.self.view_is c.requires c.index_mut-set.result.now c.remove.new.self c.index_mut-set.ensures.value c.remove.ensures.loses c.remove.ensures.gone other

pub returns-else-is_empty : goal.returns-else-is_empty
returns-else-is_empty c other =
    after c.self.inside.sets.items c.args.self.now c.args.run (omega (arith, c.self.invariant.size)) c.self.view_is c.requires c.index_mut-set.result.now c.remove.new.self c.index_mut-set.ensures.value c.remove.ensures.loses c.remove.ensures.gone other
