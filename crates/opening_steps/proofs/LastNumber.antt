-- Storing the number of the last commit keeps what fits, and shows the same.
use Rattle.std.proofs.Common.{◌≡◌, ◌≢◌, inl, inr, ⊎_elim, ℕ, ◌<◌, eqb, List, length, get_or, set, sym, ◌∙◌, ap, subst, arith}
use Rattle.std.proofs.lemmas.Bool.{and_parts, cases_eq}
use Rattle.std.proofs.lemmas.List.{get_or-set_other, get_or-set_same, length-set}
use Rattle.pm_model.specs.Needed.{AllStores}
use Rattle.pm_model.proofs.Cuts.{cut-one_store}
use Rattle.pm_model.proofs.NeededStores.{needed-cuts, needed-finished, needed-plan}
use Rattle.image_layout.specs.Fixed.{commit_word_at, last_at, state_at}
use Rattle.image_layout.specs.Objects.{commit_word, is_open, last_commit}
use Rattle.shown_state.specs.Fits.{Fits}
use Rattle.shown_state.specs.Mending.{last_mending}
use Rattle.shown_state.specs.OpeningParts.{IsImage}
use Rattle.shown_state.specs.StepLaws.{AreUndone, HaveNoNew, LastKeeps}
use Rattle.opening_steps.specs.QuietImages.{StaysQuiet}
use Rattle.opening_steps.proofs.Closer.{closer_stays, IsCloser, last_same}
use Rattle.opening_steps.proofs.Beside.{KeepsStamps, MayChange}
use Rattle.opening_steps.proofs.NoneNew.{entry_behind, none_new}
use Rattle.opening_steps.proofs.ObjectWords.{IsObjectWord, objects_keep_stamps, objects_may_change, objects_only, the_last}
use Rattle.opening_steps.proofs.Steps.{as_it_is, step_keeps, StepStays}

module _ (words : List ℕ) (image : IsImage words) (fits : Fits words) (clear : HaveNoNew 512 words) where
  abbrev number : ℕ
  number = last_commit words

  abbrev stored : List ℕ
  stored = set words last_at number

  inside : last_at < length words
  inside = let large = image.one_or_more in omega (arith, large)

  other : (w : ℕ) → w ≢ last_at → get_or stored w 0 ≡ get_or words w 0
  other w apart = get_or-set_other words last_at w number 0 apart

  state_other : (object : ℕ) → get_or stored (state_at object) 0 ≡ get_or words (state_at object) 0
  state_other object = other (state_at object) (λ e. omega (arith, e))

  commit_other : (object : ℕ) → commit_word stored object ≡ commit_word words object
  commit_other object = other (commit_word_at object) (λ e. omega (arith, e))

  open_other : (object : ℕ) → is_open stored object ≡ is_open words object
  open_other object = ap (λ (state : ℕ). eqb state 1) (state_other object)

  closer : IsCloser (IsObjectWord words) words stored
  closer = record {
    only = objects_only words fits stored (length-set words last_at number)
        (λ w. ⊎_elim (λ here. inr (the_last here)) (λ apart. inl (other w apart)) (cases_eq w last_at));
    last = get_or-set_same words last_at number 0 inside;
    states = λ object lt. inl (state_other object);
    commits = λ object lt. inl (commit_other object);
    opens = λ object lt opened. (
      sym (open_other object) ∙ opened,
      commit_other object,
      λ at is. other at (λ e. let behind = entry_behind words fits object at lt is in omega (arith, behind, e)),
    );
    undecided = λ object lt is. open_other object ∙ (and_parts (is_open words object) (eqb (commit_word words object) 0) is).0;
  }

  may : MayChange words (IsObjectWord words)
  may = objects_may_change words fits

  stamps : KeepsStamps words (IsObjectWord words)
  stamps = objects_keep_stamps words fits

  still : StaysQuiet words stored
  still = closer_stays words stored (IsObjectWord words) image fits clear may stamps closer

  stores : AllStores (length words) (last_mending words)
  stores = ((inside, tt), tt)

  undone : AreUndone 0 stored
  undone = (
    none_new words stored (IsObjectWord words) image fits clear may closer.only,
    closer.last ∙ sym (last_same words stored (IsObjectWord words) image fits clear may stamps closer),
    λ object none. absurd (omega (arith, none)),
  )

pub last_stays : (words : List ℕ) → IsImage words → Fits words → HaveNoNew 512 words → StepStays (AreUndone 0) last_mending words
last_stays words image fits clear = record {
  plan = needed-plan (length words) (last_mending words) words (stores words image fits clear);
  cuts = needed-cuts (StaysQuiet words) (λ place value. place < length words) (last_mending words) words (stores words image fits clear) (
    cut-one_store (StaysQuiet words) last_at (last_commit words) words (as_it_is words fits clear) (still words image fits clear),
    still words image fits clear,
  );
  goes_on = subst (AreUndone 0) (sym (needed-finished (λ place value. place < length words) (last_mending words) words (stores words image fits clear))) (undone words image fits clear);
}

pub last_keeps : LastKeeps
last_keeps words image fits clear = step_keeps (AreUndone 0) last_mending words (last_stays words image fits clear)
