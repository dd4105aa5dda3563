-- Closing the object of a transaction that is committed keeps what fits, and shows the same.
use Rattle.std.proofs.Common.{◌≡◌, ◌≢◌, inl, inr, ⊎_elim, ℕ, ◌+◌, ◌<◌, Bool, true, false, not, ◌&&◌, eqb, List, [], ◌∷◌, length, get_or, set, sym, ◌∙◌, ap, arith}
use Rattle.std.proofs.lemmas.Bool.{and_from, both_ways, cases_Bool, cases_eq, cond-false, cond-true, eq-eqb, eqb-true}
use Rattle.std.proofs.lemmas.List.{get_or-set_other, get_or-set_same, length-set}
use Rattle.pm_model.specs.Needed.{AllStores}
use Rattle.pm_model.specs.Plans.{one_store}
use Rattle.pm_model.proofs.Cuts.{cut-one_store}
use Rattle.image_layout.specs.Fixed.{commit_word_at, last_at, state_at}
use Rattle.image_layout.specs.Objects.{commit_word, is_open}
use Rattle.shown_state.specs.Fits.{Fits, is_undecided}
use Rattle.shown_state.specs.Mending.{close_mending}
use Rattle.shown_state.specs.OpeningParts.{IsImage}
use Rattle.shown_state.specs.StepLaws.{AreClosed, ClosesKeep}
use Rattle.opening_steps.specs.QuietImages.{StaysQuiet}
use Rattle.opening_steps.proofs.Closer.{closer_stays, IsCloser, last_same, state_low, undecided_same}
use Rattle.opening_steps.proofs.Beside.{KeepsStamps, MayChange}
use Rattle.opening_steps.proofs.NoneNew.{entry_apart, none_new}
use Rattle.opening_steps.proofs.ObjectWords.{IsObjectWord, objects_keep_stamps, objects_may_change, objects_only, of_own}
use Rattle.opening_steps.proofs.Steps.{as_it_is, step_by, step_keeps, StepStays}

module _ (words : List ℕ) (object : ℕ) (image : IsImage words) (number : object < 16) (fits : Fits words) (has : AreClosed object words) where
  abbrev at : ℕ
  at = state_at object

  abbrev stored : List ℕ
  stored = set words at 0

  inside : at < length words
  inside = let large = image.one_or_more in omega (arith, large, number)

  other : (w : ℕ) → w ≢ at → get_or stored w 0 ≡ get_or words w 0
  other w apart = get_or-set_other words at w 0 0 apart

  here : get_or stored at 0 ≡ 0
  here = get_or-set_same words at 0 0 inside

  state_other : (one : ℕ) → one ≢ object → get_or stored (state_at one) 0 ≡ get_or words (state_at one) 0
  state_other one apart = other (state_at one) (λ e. apart (omega (arith, e)))

  -- a closed object isn't open
  open_other : (one : ℕ) → is_open stored one ≡ true → one ≢ object
  open_other one opened same =
      let state = eqb-true (get_or stored (state_at one) 0) 1 opened in
      let zero_state = ap (λ (o : ℕ). get_or stored (state_at o) 0) same ∙ here in
      omega (arith, state, zero_state)

  none_undecided : (one : ℕ) → one < 16 → is_undecided words one ≡ true → ⊥
  none_undecided one lt is = both_ways (is_undecided words one) (has.0.2 one lt) is

  closer : IsCloser (IsObjectWord words) words stored
  closer = record {
    only = objects_only words fits stored (length-set words at 0)
        (λ w. ⊎_elim (λ e. inr (of_own object 0 number (omega arith) (λ two. omega (arith, two)) (λ three. omega (arith, three)) e)) (λ apart. inl (other w apart)) (cases_eq w at));
    last = other last_at (λ e. omega (arith, e)) ∙ has.0.1;
    states = λ one lt. ⊎_elim (λ (e : one ≡ object). inr (ap (λ (o : ℕ). get_or stored (state_at o) 0) e ∙ here)) (λ apart. inl (state_other one apart)) (cases_eq one object);
    commits = λ one lt. inl (other (commit_word_at one) (λ e. omega (arith, e)));
    opens = λ one lt opened. (
      ap (λ (state : ℕ). eqb state 1) (sym (state_other one (open_other one opened))) ∙ opened,
      other (commit_word_at one) (λ e. omega (arith, e)),
      λ place is. other place (entry_apart words fits one place object 0 lt is number (omega arith)),
    );
    undecided = λ one lt is. absurd (none_undecided one lt is);
  }

  may : MayChange words (IsObjectWord words)
  may = objects_may_change words fits

  stamps : KeepsStamps words (IsObjectWord words)
  stamps = objects_keep_stamps words fits

  still : StaysQuiet words stored
  still = closer_stays words stored (IsObjectWord words) image fits has.0.0 may stamps closer

  closed : AreClosed (object + 1) stored
  closed = (
    (
      none_new words stored (IsObjectWord words) image fits has.0.0 may closer.only,
      closer.last ∙ sym (last_same words stored (IsObjectWord words) image fits has.0.0 may stamps closer),
      λ one lt. undecided_same words stored (IsObjectWord words) image fits has.0.0 may stamps closer one lt ∙ has.0.2 one lt,
    ),
    λ one lt. ⊎_elim (λ (e : one ≡ object). ap (λ (o : ℕ). get_or stored (state_at o) 0) e ∙ here)
        (λ apart. state_other one apart ∙ has.1 one (omega (arith, lt, apart))) (cases_eq one object),
  )

  stores : AllStores (length words) (one_store at 0 ∷ [])
  stores = ((inside, tt), tt)

  abbrev test : Bool
  test = is_open words object && not (eqb (commit_word words object) 0)

  -- an object that isn't closed by this was closed before
  was_closed : test ≡ false → get_or words at 0 ≡ 0
  was_closed miss = ⊎_elim
      (λ (opened : is_open words object ≡ true). ⊎_elim
      (λ (none : eqb (commit_word words object) 0 ≡ true). absurd (none_undecided object number (and_from (is_open words object) (eqb (commit_word words object) 0) opened none)))
      (λ (some : eqb (commit_word words object) 0 ≡ false). absurd (both_ways test miss (and_from (is_open words object) (not (eqb (commit_word words object) 0)) opened (ap not some))))
      (cases_Bool (eqb (commit_word words object) 0)))
      (λ (shut : is_open words object ≡ false).
      let low = state_low words fits object number in
      ⊎_elim (λ (one : get_or words at 0 ≡ 1). absurd (both_ways (is_open words object) shut (eq-eqb (get_or words at 0) 1 one))) (λ apart. omega (arith, low, apart)) (cases_eq (get_or words at 0) 1))
      (cases_Bool (is_open words object))

  as_before : test ≡ false → AreClosed (object + 1) words
  as_before miss = (
    has.0,
    λ one lt. ⊎_elim (λ (e : one ≡ object). ap (λ (o : ℕ). get_or words (state_at o) 0) e ∙ was_closed miss) (λ apart. has.1 one (omega (arith, lt, apart))) (cases_eq one object),
  )

pub closes_stay : (words : List ℕ) (object : ℕ) → IsImage words → object < 16 → Fits words → AreClosed object words → StepStays (AreClosed (object + 1)) (close_mending object) words
closes_stay words object image number fits has =
    let at = state_at object in
    let test = is_open words object && not (eqb (commit_word words object) 0) in
    ⊎_elim
    (λ (hit : test ≡ true). step_by (AreClosed (object + 1)) (close_mending object) words (one_store at 0 ∷ []) (cond-true test (one_store at 0 ∷ []) [] hit)
    (stores words object image number fits has) (
      cut-one_store (StaysQuiet words) at 0 words (as_it_is words fits has.0.0) (still words object image number fits has),
      still words object image number fits has,
    )
    (closed words object image number fits has))
    (λ (miss : test ≡ false). step_by (AreClosed (object + 1)) (close_mending object) words [] (cond-false test (one_store at 0 ∷ []) [] miss) tt
    (as_it_is words fits has.0.0)
    (as_before words object image number fits has miss))
    (cases_Bool test)

pub closes_keep : ClosesKeep
closes_keep words object image number fits has = step_keeps (AreClosed (object + 1)) (close_mending object) words (closes_stay words object image number fits has)
