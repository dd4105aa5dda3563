-- A part of several changes: which of its stores are needed, taken from the last one on.
use Rattle.std.proofs.Common.{◌≡◌, ◌≢◌, ⊎_elim, ℕ, ◌+◌, ◌-◌, ◌<◌, ◌≤◌, Bool, true, false, not, ◌||◌, eqb, List, [], ◌∷◌, ◌++◌, length, get_or, set, drop, map, refl, sym, ◌∙◌, ap, subst, append_assoc, arith}
use Rattle.std.specs.Prelude.{reverse}
use Rattle.std.specs.Ordering.{nat_cmp}
use Rattle.std.specs.BTreeSet.{BTreeSet, IsEmpty, Updates, contains}
use Rattle.std.specs.BTreeMap.{is_at}
use Rattle.std.proofs.lemmas.Bool.{cases_eq, eq-eqb, ne_eqb, or_from, or_left, or_right, cond-true, cond-false}
use Rattle.std.proofs.lemmas.List.{reverse-append, drop_more, drop_all, length-append, length-map, append-nil}
use Rattle.std.proofs.lemmas.Grind.{common_steps}
use Rattle.std.proofs.Math.Seq.{drop-append_seam}
use Rattle.pm_model.specs.declared.action.Action.TheVariants.{Flush, Fence}
use Rattle.pm_model.specs.Plans.{Part, store, words_after, footprint, finished, lines_of, part_end, part_actions, plan_of, unless_empty}
use Rattle.pm_model.specs.Needed.{needed_stores}
use Rattle.pm_model.proofs.Lines.{length-lines_of}
use Rattle.pmem_recover.specs.declared.change.WordChange.{WordChange}
use Rattle.pmem_recover.specs.Changes.{change_part, change_parts}

-- The needed stores of the end of a part are taken, the last one first, and the places that it stores to are known.
pub record IsTaken (words : List ℕ) (part kept : List WordChange) (stored : BTreeSet ℕ) : Type 0 where
  pub needed : change_part (reverse kept) ≡ needed_stores words (change_part part)
  pub places : (w : ℕ) → contains nat_cmp stored w ≡ footprint (change_part part) w

-- ── one store more ──

not-not : (b : Bool) → not (not b) ≡ b
not-not true = refl
not-not false = refl

contains-more : (stored next : BTreeSet ℕ) (place : ℕ) → Updates nat_cmp stored next place true → (w : ℕ) → contains nat_cmp next w ≡ (eqb w place || contains nat_cmp stored w)
contains-more stored next place updates w = ⊎_elim
    (λ (here : w ≡ place). ap (contains nat_cmp next) here ∙ updates.1 ∙ sym (ap (λ (b : Bool). b || contains nat_cmp stored w) (eq-eqb w place here)))
    (λ apart. updates.2 w (unequal apart) ∙ sym (ap (λ (b : Bool). b || contains nat_cmp stored w) (ne_eqb w place apart)))
    (cases_eq w place)
  where
    unequal : w ≢ place → is_at (nat_cmp place) w ≡ false
    unequal apart = grind (arith, common_steps)

module _ (words : List ℕ) (part : List WordChange) (c : WordChange) (kept : List WordChange) (stored next : BTreeSet ℕ) (is_last : Bool) (taken : IsTaken words part kept stored)
    (updates : Updates nat_cmp stored next c.place.0 true) (last_is : is_last ≡ not (contains nat_cmp stored c.place.0)) where
  later : footprint (change_part part) c.place.0 ≡ not is_last
  later = sym (ap not last_is ∙ not-not (contains nat_cmp stored c.place.0) ∙ taken.places c.place.0)

  places_next : (w : ℕ) → contains nat_cmp next w ≡ footprint (change_part (c ∷ part)) w
  places_next w = contains-more stored next c.place.0 updates w ∙ ap (λ (b : Bool). eqb w c.place.0 || b) (taken.places w)

  pub taken-kept : (after : List WordChange) → after ≡ kept ++ c ∷ [] → is_last ≡ true → get_or words c.place.0 0 ≢ c.value → IsTaken words (c ∷ part) after next
  taken-kept after is last apart = record {
    needed = ap (λ (cs : List WordChange). change_part (reverse cs)) is ∙ ap change_part (reverse-append kept (c ∷ []))
        ∙ ap (λ (p : Part). store c.place.0 c.value ∷ p) taken.needed
        ∙ sym (cond-false (footprint (change_part part) c.place.0 || eqb (get_or words c.place.0 0) c.value) (needed_stores words (change_part part)) (store c.place.0 c.value ∷ needed_stores words (change_part part))
        (or_from (footprint (change_part part) c.place.0) (eqb (get_or words c.place.0 0) c.value) (later ∙ ap not last) (ne_eqb (get_or words c.place.0 0) c.value apart)));
    places = places_next;
  }

  passed_over : (footprint (change_part part) c.place.0 || eqb (get_or words c.place.0 0) c.value) ≡ true → IsTaken words (c ∷ part) kept next
  passed_over skip = record {
    needed = taken.needed ∙ sym (cond-true (footprint (change_part part) c.place.0 || eqb (get_or words c.place.0 0) c.value) (needed_stores words (change_part part)) (store c.place.0 c.value ∷ needed_stores words (change_part part)) skip);
    places = places_next;
  }

  pub taken-later : (after : List WordChange) → after ≡ kept → is_last ≡ false → IsTaken words (c ∷ part) after next
  taken-later after is not_last = subst (λ (cs : List WordChange). IsTaken words (c ∷ part) cs next) (sym is) (passed_over (or_left (footprint (change_part part) c.place.0) (eqb (get_or words c.place.0 0) c.value) (later ∙ ap not not_last)))

  pub taken-there : (after : List WordChange) → after ≡ kept → get_or words c.place.0 0 ≡ c.value → IsTaken words (c ∷ part) after next
  taken-there after is there = subst (λ (cs : List WordChange). IsTaken words (c ∷ part) cs next) (sym is) (passed_over (or_right (footprint (change_part part) c.place.0) (eqb (get_or words c.place.0 0) c.value) (eq-eqb (get_or words c.place.0 0) c.value there)))

-- ── from none to all ──

pub taken-none : (words : List ℕ) (part kept : List WordChange) (stored : BTreeSet ℕ) → kept ≡ [] → IsEmpty stored → IsTaken words (drop (length part - 0) part) kept stored
taken-none words part kept stored none empty =
    let e : length part - 0 ≡ length part = omega arith in
    let all : drop (length part - 0) part ≡ [] = ap (λ (n : ℕ). drop n part) e ∙ drop_all (length part) part (omega arith) in
    subst (λ (p : List WordChange). IsTaken words p kept stored) (sym all) (record { needed = ap (λ (cs : List WordChange). change_part (reverse cs)) none; places = λ w. grind (arith, common_steps) })

pub taken-next : (words : List ℕ) (part : List WordChange) (done : ℕ) (d : WordChange) (kept : List WordChange) (stored : BTreeSet ℕ) → done < length part
    → IsTaken words (get_or part (length part - 1 - done) d ∷ drop (length part - done) part) kept stored → IsTaken words (drop (length part - (done + 1)) part) kept stored
taken-next words part done d kept stored lt is = subst (λ (p : List WordChange). IsTaken words p kept stored) (sym drop-back) is
  where
    drop-back : drop (length part - (done + 1)) part ≡ get_or part (length part - 1 - done) d ∷ drop (length part - done) part
    drop-back =
        let a : length part - (done + 1) ≡ length part - 1 - done = omega (arith, lt) in
        let b : length part - 1 - done + 1 ≡ length part - done = omega (arith, lt) in
        ap (λ (n : ℕ). drop n part) a ∙ drop_more part (length part - 1 - done) d (omega (arith, lt)) ∙ ap (λ (n : ℕ). get_or part (length part - 1 - done) d ∷ drop n part) b

pub taken-all : (words : List ℕ) (part : List WordChange) (done : ℕ) (kept : List WordChange) (stored : BTreeSet ℕ) → length part ≤ done → IsTaken words (drop (length part - done) part) kept stored → change_part (reverse kept) ≡ needed_stores words (change_part part)
taken-all words part done kept stored le is = let e : length part - done ≡ 0 = omega (arith, le) in (subst (λ (n : ℕ). IsTaken words (drop n part) kept stored) e is).needed

-- ── the words once changes were made ──

pub parts-one : (changes : List WordChange) (words : List ℕ) → finished (change_parts changes) words ≡ words_after (change_part changes) words
parts-one [] words = refl
parts-one (c ∷ changes) words = parts-one changes (set words c.place.0 c.value)

pub word-one : (changes : List WordChange) (words : List ℕ) (at word : ℕ) → word ≡ get_or (finished (change_parts changes) words) at 0 → get_or (words_after (change_part changes) words) at 0 ≡ word
word-one changes words at word is = sym (is ∙ ap (λ (ws : List ℕ). get_or ws at 0) (parts-one changes words))

-- ── the end of a part ──

pub length-part : (changes : List WordChange) → length (change_part changes) ≡ length changes
length-part changes = length-map changes (λ c. store c.place.0 c.value)

-- changes that were pushed onto a plan, as its last actions
module _ (before left part : Part) (count : ℕ) (is : left ≡ before ++ part) (count_is : count ≡ length part) where
  last-actions : drop (length left - count) left ≡ part
  last-actions =
      let len = ap length is ∙ length-append before part in
      let e : length left - count ≡ length before = omega (arith, len, count_is) in
      ap (λ (n : ℕ). drop n left) e ∙ ap (drop (length before)) is ∙ drop-append_seam before part

  pub end-room : (spare : ℕ) → length part < spare → length (lines_of (drop (length left - count) left)) < spare
  end-room spare lt = let same = ap (λ (p : Part). length (lines_of p)) last-actions in let le = length-lines_of part in omega (arith, same, le, lt)

  pub end-length : length (part_end (drop (length left - count) left)) ≤ length part + 1
  end-length =
      let le = length-lines_of part in
      let same : length (part_end (drop (length left - count) left)) ≡ length (lines_of part) + 1 =
      ap (λ (p : Part). length (part_end p)) last-actions ∙ length-append (map (λ line. Flush line) (lines_of part)) (Fence ∷ []) ∙ ap (λ (n : ℕ). n + 1) (length-map (lines_of part) (λ line. Flush line)) in
      omega (arith, le, same)

  pub ended : (after : Part) → after ≡ left ++ part_end (drop (length left - count) left) → length part ≢ 0 → after ≡ before ++ plan_of (unless_empty part)
  ended after after_is some =
      after_is ∙ ap (λ (p : Part). left ++ part_end p) last-actions ∙ ap (λ (p : Part). p ++ part_end part) is ∙ append_assoc before part (part_end part)
      ∙ ap (λ (p : Part). before ++ p) (whole part some)
    where
      whole : (p : Part) → length p ≢ 0 → part_actions p ≡ plan_of (unless_empty p)
      whole [] none = absurd (none refl)
      whole (x ∷ p) more = sym (append-nil (part_actions (x ∷ p)))

pub nothing-left : (before part : Part) → length part ≡ 0 → before ≡ before ++ plan_of (unless_empty part)
nothing-left before [] none = sym (append-nil before)
nothing-left before (x ∷ part) none = absurd (omega (arith, none))
