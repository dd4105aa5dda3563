-- The clearing of a closed object keeps what fits together, and shows the same.
use Rattle.std.proofs.Common.{◌≡◌, ◌≢◌, ◌⊎◌, inl, inr, ⊎_elim, ℕ, ◌<◌, Bool, true, false, cond, eqb, List, [], length, get_or, take, refl, sym, ◌∙◌, ap, arith}
use Rattle.std.specs.Prelude.{Contains}
use Rattle.std.proofs.lemmas.Bool.{cases_eq, cases_lt, eqb-true}
use Rattle.std.proofs.lemmas.List.{get_or_past}
use Rattle.pm_model.specs.Device.{IsBetween}
use Rattle.pm_model.specs.Needed.{Stores}
use Rattle.pm_model.specs.Plans.{EachCut, one_store, stores, unless_empty, words_after}
use Rattle.pm_model.proofs.Cuts.{each_cut-unless_empty}
use Rattle.pm_model.proofs.NeededStores.{cut-written, stores-append}
use Rattle.image_layout.specs.Fixed.{commit_word_at, last_at, state_at}
use Rattle.image_layout.specs.Objects.{commit_word, entry_places, is_open}
use Rattle.shown_state.specs.OpeningParts.{FitsStill}
use Rattle.opening_steps.proofs.Clearing.{stores_each}
use Rattle.opening_steps.proofs.Closer.{state_low}
use Rattle.opening_steps.proofs.NoneNew.{entry_apart, entry_behind, entry_word}
use Rattle.opening_steps.proofs.ObjectWords.{IsObjectWord, objects_only, of_own}
use Rattle.opening_steps.proofs.OwnerPlaces.{Contains-take}
use Rattle.opening_steps.proofs.Silent.{IsSilent, silent, silent_still, stays}
use Rattle.txn_object.specs.Object.{clear_part}
use Rattle.fitting_plans.specs.Transactions.{IsObjectOf, MayClear}
use Rattle.fitting_plans.proofs.EntriesApart.{entries_once}

module _ (words : List ℕ) (object count : ℕ) (word : Bool) (may : MayClear words object) where
  abbrev its : IsObjectOf words object
  its = may.its

  abbrev spots : List ℕ
  spots = entry_places words object

  -- a place that the part writes, and what it writes
  record IsCleared (place value : ℕ) : Type 0 where
    pub none : value ≡ 0
    pub which : Contains (entry_places words object) place ⊎ (place ≡ commit_word_at object)

  are_cleared : Stores IsCleared (clear_part words object count word)
  unfolding clear_part
  are_cleared = stores-append IsCleared (stores 0 (take count spots)) (cond word (one_store (commit_word_at object) 0) [])
      (stores_each IsCleared 0 (take count spots) (λ place is. record { none = refl; which = inl (Contains-take count spots place is) }))
      (last word)
    where
      last : (word : Bool) → Stores IsCleared (cond word (one_store (commit_word_at object) 0) [])
      last true = (record { none = refl; which = inr refl }, tt)
      last false = tt

  module _ (cut : List ℕ) (between : IsBetween words (words_after (clear_part words object count word) words) cut) where
    word_of_cut : (w : ℕ) → (get_or cut w 0 ≡ get_or words w 0) ⊎ IsCleared w (get_or cut w 0)
    word_of_cut w = ⊎_elim
        (λ lt. cut-written IsCleared (clear_part words object count word) words cut w are_cleared lt between)
        (λ past. let size = between.size in inl (get_or_past cut w 0 (omega (arith, past, size)) ∙ sym (get_or_past words w 0 past)))
        (cases_lt w (length words))

    kept : (w : ℕ) → (Contains spots w → ⊥) → w ≢ commit_word_at object → get_or cut w 0 ≡ get_or words w 0
    kept w no_entry no_commit = ⊎_elim (λ e. e) (λ cleared. absurd (⊎_elim no_entry no_commit cleared.which)) (word_of_cut w)

    state_kept : (one : ℕ) → one < 16 → get_or cut (state_at one) 0 ≡ get_or words (state_at one) 0
    state_kept one lt = kept (state_at one) (λ is. entry_apart words its.fits object (state_at one) one 0 its.number is lt (omega arith) refl) (λ e. omega (arith, e))

    commit_kept : (one : ℕ) → one < 16 → one ≢ object → commit_word cut one ≡ commit_word words one
    commit_kept one lt apart = kept (commit_word_at one) (λ is. entry_apart words its.fits object (commit_word_at one) one 1 its.number is lt (omega arith) refl) (λ e. apart (omega (arith, e)))

    entry_kept : (one at : ℕ) → one < 16 → one ≢ object → Contains (entry_places words one) at → get_or cut at 0 ≡ get_or words at 0
    entry_kept one at lt apart is = kept at
        (λ own. apart (entries_once words its.fits one object at lt its.number is own))
        (entry_apart words its.fits one at object 1 lt is its.number (omega arith))

    own_word : (w : ℕ) → Contains spots w ⊎ (w ≡ commit_word_at object) → IsObjectWord words w
    own_word w which = ⊎_elim (λ entry. entry_word words object w its.number entry)
        (λ commit. of_own object 1 its.number (omega arith) (λ two. omega (arith, two)) (λ three. omega (arith, three)) commit) which

    shut : (one : ℕ) → one ≡ object → is_open words one ≡ true → ⊥
    shut one same opens =
        let state = eqb-true (get_or words (state_at one) 0) 1 opens in
        let closed = ap (λ (o : ℕ). get_or words (state_at o) 0) same in
        let none = may.closed in
        omega (arith, state, closed, none)

    cleared : IsSilent words cut
    cleared = record {
      only = objects_only words its.fits cut between.size (λ w. ⊎_elim (λ e. inl e) (λ cleared. inr (own_word w cleared.which)) (word_of_cut w));
      last = kept last_at (λ is. let behind = entry_behind words its.fits object last_at its.number is in omega (arith, behind)) (λ e. omega (arith, e));
      states = λ one lt. let same = state_kept one lt in let low = state_low words its.fits one lt in omega (arith, same, low);
      commits = λ one lt. ⊎_elim (λ e. inl e) (λ cleared. inr cleared.none) (word_of_cut (commit_word_at one));
      each = λ one lt. ⊎_elim
          (λ (e : one ≡ object). silent (λ opens. absurd (shut one e opens)) (λ opens. absurd (shut one e (ap (λ (state : ℕ). eqb state 1) (sym (state_kept one lt)) ∙ opens))))
          (λ apart. stays (ap (λ (state : ℕ). eqb state 1) (state_kept one lt)) (λ opens. (commit_kept one lt apart, λ at is. entry_kept one at lt apart is)))
          (cases_eq one object);
    }

    pub cleared_still : FitsStill words cut
    cleared_still = silent_still words cut its.image its.fits cleared

pub clear_keeps : (words : List ℕ) (object count : ℕ) (word : Bool) → MayClear words object → EachCut (FitsStill words) (unless_empty (clear_part words object count word)) words
clear_keeps words object count word may = each_cut-unless_empty (FitsStill words) (clear_part words object count word) words (cleared_still words object count word may)
