-- One more entry behind those that stand keeps the checks of an object's entries.
use Rattle.std.proofs.Common.{◌≡◌, ◌≢◌, ⊎_elim, ℕ, zero, suc, ◌<◌, Bool, true, false, not, ◌&&◌, ◌||◌, eqb, List, [], ◌∷◌, length, get_or, refl, sym, ◌∙◌, ap, subst, arith}
use Rattle.std.specs.Prelude.{All, Contains}
use Rattle.std.proofs.lemmas.Bool.{and_from, and_parts, both_ways, eqb-true, ne_eqb, or_cases, or_right}
use Rattle.std.proofs.lemmas.Grind.{get_or_default_zero}
use Rattle.std.proofs.lemmas.List.Elements.{All-cons, All-head, All-tail}
use Rattle.image_layout.specs.Checks.{Check, check}
use Rattle.image_layout.specs.EntryRules.{entry_checks, is_entry}
use Rattle.image_layout.proofs.Faults.{Holds}
use Rattle.image_layout.proofs.Members.{Contains-cons, Contains-nil}
use Rattle.opening_steps.proofs.Silent.{zero_checks}

-- the check of one word, by what stands before it
abbrev one_check : List ℕ → ℕ → ℕ → ℕ → Check
one_check words before at word = check at ((eqb word 0) || (not (eqb before 0) && is_entry words word))

-- behind a word that is none, all are
none_behind : (words : List ℕ) (places : List ℕ) → All Holds (entry_checks words 0 places) → (at : ℕ) → Contains places at → get_or words at 0 ≡ 0
none_behind words [] holds at is = absurd (Contains-nil at is)
none_behind words (first ∷ places) holds at is =
    let word = get_or words first 0 in
    let none : word ≡ 0 = ⊎_elim (λ zero_word. eqb-true word 0 zero_word) (λ both. absurd (both_ways false refl (and_parts false (is_entry words word) both).0)) (or_cases (eqb word 0) (false && is_entry words word) (All-head Holds (one_check words 0 first word) (entry_checks words word places) holds)) in
    ⊎_elim
    (λ (here : first ≡ at). ap (λ (p : ℕ). get_or words p 0) (sym here) ∙ none)
    (λ there. none_behind words places (subst (λ (before : ℕ). All Holds (entry_checks words before places)) none (All-tail Holds (one_check words 0 first word) (entry_checks words word places) holds)) at there)
    (Contains-cons first at places is)

-- The words at these places, before the new one none is missing, and it is missing itself; then it is stored.
pub record AddsOne (old new : List ℕ) (value : ℕ) (places : List ℕ) (nth : ℕ) : Type 0 where
  pub room : nth < length places
  pub before : (i : ℕ) → i < nth → get_or old (get_or places i 0) 0 ≢ 0
  pub free : get_or old (get_or places nth 0) 0 ≡ 0
  pub here : get_or new (get_or places nth 0) 0 ≡ value
  pub others : (i : ℕ) → i < length places → i ≢ nth → get_or new (get_or places i 0) 0 ≡ get_or old (get_or places i 0) 0

pub checks_enter : (old new : List ℕ) (value before : ℕ) (places : List ℕ) (nth : ℕ) → before ≢ 0 → AddsOne old new value places nth → is_entry new value ≡ true → ((word : ℕ) → is_entry new word ≡ is_entry old word)
    → All Holds (entry_checks old before places) → All Holds (entry_checks new before places)
checks_enter old new value before [] nth some adds says same holds = let room = adds.room in absurd (omega (arith, room))
checks_enter old new value before (at ∷ places) zero some adds says same holds =
    let here = adds.here in
    let first : Holds (one_check new before at value) = or_right (eqb value 0) (not (eqb before 0) && is_entry new value) (and_from (not (eqb before 0)) (is_entry new value) (ap not (ne_eqb before 0 some)) says) in
    let rest : All Holds (entry_checks old 0 places) = subst (λ (word : ℕ). All Holds (entry_checks old word places)) adds.free (All-tail Holds (one_check old before at (get_or old at 0)) (entry_checks old (get_or old at 0) places) holds) in
    let later : (place : ℕ) → Contains places place → get_or new place 0 ≡ 0 = λ place is.
    let (i, lt, same_place) = is in
    let given : get_or places i 0 ≡ place = sym (get_or_default_zero places i place lt) ∙ same_place in
    let kept = adds.others (suc i) (omega (arith, lt)) (λ e. omega (arith, e)) in
    ap (λ (p : ℕ). get_or new p 0) (sym given) ∙ kept ∙ ap (λ (p : ℕ). get_or old p 0) given ∙ none_behind old places rest place is in
    subst (λ (word : ℕ). All Holds (one_check new before at word ∷ entry_checks new word places)) (sym here)
    (All-cons Holds (one_check new before at value) (entry_checks new value places) first (zero_checks new value places later))
checks_enter old new value before (at ∷ places) (suc nth) some adds says same holds =
    let word = get_or old at 0 in
    let kept : get_or new at 0 ≡ word = adds.others 0 (omega arith) (λ e. omega (arith, e)) in
    let named : word ≢ 0 = adds.before 0 (omega arith) in
    let first : Holds (one_check new before at word) = ap (λ (b : Bool). (eqb word 0) || (not (eqb before 0) && b)) (same word) ∙ All-head Holds (one_check old before at word) (entry_checks old word places) holds in
    let room = adds.room in
    let rest = checks_enter old new value word places nth named (record {
      room = omega (arith, room);
      before = λ i lt. adds.before (suc i) (omega (arith, lt));
      free = adds.free;
      here = adds.here;
      others = λ i lt apart. adds.others (suc i) (omega (arith, lt)) (λ e. apart (omega (arith, e)));
    }) says same (All-tail Holds (one_check old before at word) (entry_checks old word places) holds) in
    subst (λ (w : ℕ). All Holds (one_check new before at w ∷ entry_checks new w places)) (sym kept) (All-cons Holds (one_check new before at word) (entry_checks new word places) first rest)
