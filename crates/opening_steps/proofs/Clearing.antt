-- Clearing the entries and the commit word of an object that is closed keeps what fits, and shows the same.
use Rattle.std.proofs.Common.{◌≡◌, ◌≢◌, ◌⊎◌, inl, inr, ⊎_elim, ℕ, ◌+◌, ◌<◌, true, false, eqb, List, [], ◌∷◌, ◌++◌, length, get_or, refl, sym, ◌∙◌, ap, subst, arith}
use Rattle.std.specs.Prelude.{All, Contains}
use Rattle.std.proofs.lemmas.Bool.{both_ways, cases_eq, cases_lt, eq-eqb, eqb-true, or_left, or_right}
use Rattle.std.proofs.lemmas.List.{get_or_past}
use Rattle.std.proofs.lemmas.List.Elements.{All-contains}
use Rattle.pm_model.specs.Device.{IsBetween}
use Rattle.pm_model.specs.Needed.{AllStores, Stores}
use Rattle.pm_model.specs.Plans.{footprint, one_store, Part, stores, words_after}
use Rattle.pm_model.proofs.Cuts.{between-end}
use Rattle.pm_model.proofs.NeededStores.{after-written, cut-written, stores-append, stores-map}
use Rattle.image_layout.specs.Fixed.{commit_word_at, last_at, state_at}
use Rattle.image_layout.specs.Objects.{commit_word, entry_places, is_open}
use Rattle.image_layout.proofs.Members.{Contains-cons, Contains-here, Contains-nil, Contains-there}
use Rattle.image_layout.proofs.OwnersApart.{all_from}
use Rattle.shown_state.specs.Fits.{Fits, is_undecided}
use Rattle.shown_state.specs.Mending.{clear_mending}
use Rattle.shown_state.specs.OpeningParts.{IsImage}
use Rattle.shown_state.specs.StepLaws.{AreClear, ClearsKeep}
use Rattle.shown_state.proofs.ReadsStand.{reads_keep_off}
use Rattle.opening_steps.specs.QuietImages.{StaysQuiet}
use Rattle.opening_steps.proofs.Closer.{closer_stays, IsCloser, last_same, undecided_same}
use Rattle.opening_steps.proofs.Beside.{KeepsStamps, MayChange, places}
use Rattle.opening_steps.proofs.NoneNew.{entry_apart, entry_behind, entry_word, none_new}
use Rattle.opening_steps.proofs.ObjectWords.{IsObjectWord, objects_keep_stamps, objects_may_change, objects_only, of_own}
use Rattle.opening_steps.proofs.Objects.{entry_places_same}
use Rattle.opening_steps.proofs.Steps.{step_by, step_keeps, StepStays}

-- ── one value at many places ──

pub stores_each : (Q : ℕ → ℕ → Type 0) (value : ℕ) (spots : List ℕ) → ((place : ℕ) → Contains spots place → Q place value) → Stores Q (stores value spots)
stores_each Q value [] each = tt
stores_each Q value (place ∷ spots) each = (each place (Contains-here place spots), stores_each Q value spots (λ other is. each other (Contains-there place other spots is)))

-- they are written, and so is a place behind them
written : (value : ℕ) (spots : List ℕ) (rest : Part) (w : ℕ) → Contains spots w → footprint (stores value spots ++ rest) w ≡ true
written value [] rest w is = absurd (Contains-nil w is)
written value (place ∷ spots) rest w is = ⊎_elim
    (λ (here : place ≡ w). or_left (eqb w place) (footprint (stores value spots ++ rest) w) (eq-eqb w place (sym here)))
    (λ there. or_right (eqb w place) (footprint (stores value spots ++ rest) w) (written value spots rest w there))
    (Contains-cons place w spots is)

written_last : (value : ℕ) (spots : List ℕ) (place other : ℕ) → footprint (stores value spots ++ one_store place other) place ≡ true
written_last value [] place other = or_left (eqb place place) false (eq-eqb place place refl)
written_last value (first ∷ spots) place other = or_right (eqb place first) (footprint (stores value spots ++ one_store place other) place) (written_last value spots place other)

module _ (words : List ℕ) (object : ℕ) (image : IsImage words) (number : object < 16) (fits : Fits words) (has : AreClear object words) where
  abbrev spots : List ℕ
  spots = entry_places words object

  abbrev part : Part
  part = stores 0 spots ++ one_store (commit_word_at object) 0

  -- a place that the part writes, and what it writes
  record IsCleared (place value : ℕ) : Type 0 where
    pub within : place < length words
    pub none : value ≡ 0
    pub which : Contains spots place ⊎ (place ≡ commit_word_at object)

  may : MayChange words (IsObjectWord words)
  may = objects_may_change words fits

  stamps : KeepsStamps words (IsObjectWord words)
  stamps = objects_keep_stamps words fits

  own : (place : ℕ) → Contains spots place ⊎ (place ≡ commit_word_at object) → IsObjectWord words place
  own place which = ⊎_elim (λ entry. entry_word words object place number entry)
      (λ commit. of_own object 1 number (omega arith) (λ two. omega (arith, two)) (λ three. omega (arith, three)) commit) which

  inside : (place : ℕ) → Contains spots place ⊎ (place ≡ commit_word_at object) → place < length words
  inside place which = let spot = (reads_keep_off words image fits place (may.read place (own place which))).0 in spot.in_image

  are_cleared : Stores IsCleared part
  are_cleared = stores-append IsCleared (stores 0 spots) (one_store (commit_word_at object) 0)
      (stores_each IsCleared 0 spots (λ place is. record { within = inside place (inl is); none = refl; which = inl is }))
      (record { within = inside (commit_word_at object) (inr refl); none = refl; which = inr refl }, tt)

  module _ (cut : List ℕ) (between : IsBetween words (words_after part words) cut) where
    word_of_cut : (w : ℕ) → (get_or cut w 0 ≡ get_or words w 0) ⊎ IsCleared w (get_or cut w 0)
    word_of_cut w = ⊎_elim
        (λ lt. cut-written IsCleared part words cut w are_cleared lt between)
        (λ past. let size = between.size in inl (get_or_past cut w 0 (omega (arith, past, size)) ∙ sym (get_or_past words w 0 past)))
        (cases_lt w (length words))

    -- a word that isn't cleared
    other : (w : ℕ) → (Contains spots w → ⊥) → w ≢ commit_word_at object → get_or cut w 0 ≡ get_or words w 0
    other w no_entry no_commit = ⊎_elim (λ e. e) (λ cleared. absurd (⊎_elim no_entry no_commit cleared.which)) (word_of_cut w)

    state_other : (one : ℕ) → one < 16 → get_or cut (state_at one) 0 ≡ get_or words (state_at one) 0
    state_other one lt = other (state_at one) (λ is. entry_apart words fits object (state_at one) one 0 number is lt (omega arith) refl) (λ e. omega (arith, e))

    none_open : (one : ℕ) → one < 16 → is_open cut one ≡ true → ⊥
    none_open one lt opened =
        let state = eqb-true (get_or cut (state_at one) 0) 1 opened in
        let same = state_other one lt in
        let shut = has.0.1 one lt in
        omega (arith, state, same, shut)

    closer : IsCloser (IsObjectWord words) words cut
    closer = record {
      only = objects_only words fits cut between.size (λ w. ⊎_elim (λ e. inl e) (λ cleared. inr (own w cleared.which)) (word_of_cut w));
      last = other last_at low (λ e. omega (arith, e)) ∙ has.0.0.1;
      states = λ one lt. inl (state_other one lt);
      commits = λ one lt. ⊎_elim (λ e. inl e) (λ cleared. inr cleared.none) (word_of_cut (commit_word_at one));
      opens = λ one lt opened. absurd (none_open one lt opened);
      undecided = λ one lt is. absurd (both_ways (is_undecided words one) (has.0.0.2 one lt) is);
    }
      where
        low : Contains spots last_at → ⊥
        low is = let behind = entry_behind words fits object last_at number is in omega (arith, behind)

    pub still : StaysQuiet words cut
    still = closer_stays words cut (IsObjectWord words) image fits has.0.0.0 may stamps closer

  abbrev cleared_words : List ℕ
  cleared_words = words_after part words

  at_end : IsBetween words cleared_words cleared_words
  at_end = between-end part words

  commit_zero : (one : ℕ) → one < object + 1 → commit_word cleared_words one ≡ 0
  commit_zero one lt = ⊎_elim
      (λ (e : one ≡ object). ap (commit_word cleared_words) e
      ∙ (after-written IsCleared part words (commit_word_at object) are_cleared (inside (commit_word_at object) (inr refl)) (written_last 0 spots (commit_word_at object) 0)).none)
      (λ apart. ⊎_elim (λ same. same ∙ (has.1 one (omega (arith, lt, apart))).0) (λ cleared. cleared.none) (word_of_cut cleared_words at_end (commit_word_at one)))
      (cases_eq one object)

  entry_zero : (one at : ℕ) → one < object + 1 → Contains (entry_places words one) at → get_or cleared_words at 0 ≡ 0
  entry_zero one at lt is = ⊎_elim
      (λ (e : one ≡ object).
      let own_entry : Contains spots at = subst (λ (o : ℕ). Contains (entry_places words o) at) e is in
      (after-written IsCleared part words at are_cleared (inside at (inl own_entry)) (written 0 spots (one_store (commit_word_at object) 0) at own_entry)).none)
      (λ apart. ⊎_elim
      (λ same. same ∙ All-contains (λ a. get_or words a 0 ≡ 0) (entry_places words one) at (has.1 one (omega (arith, lt, apart))).1 is)
      (λ cleared. cleared.none) (word_of_cut cleared_words at_end at))
      (cases_eq one object)

  cleared : AreClear (object + 1) cleared_words
  cleared =
      let now = closer cleared_words at_end in
      let same = places words cleared_words (IsObjectWord words) image fits may now.only in (
        (
          (
            none_new words cleared_words (IsObjectWord words) image fits has.0.0.0 may now.only,
            now.last ∙ sym (last_same words cleared_words (IsObjectWord words) image fits has.0.0.0 may stamps now),
            λ one lt. undecided_same words cleared_words (IsObjectWord words) image fits has.0.0.0 may stamps now one lt ∙ has.0.0.2 one lt,
          ),
          λ one lt. state_other cleared_words at_end one lt ∙ has.0.1 one lt,
        ),
        λ one lt. (
          commit_zero one lt,
          subst (All (λ (at : ℕ). get_or cleared_words at 0 ≡ 0)) (sym (entry_places_same words cleared_words same one (omega (arith, lt, number))))
              (all_from (λ (at : ℕ). get_or cleared_words at 0 ≡ 0) (entry_places words one) (λ at is. entry_zero one at lt is)),
        ),
      )

  all_stores : AllStores (length words) (part ∷ [])
  all_stores = (stores-map IsCleared (λ place value. place < length words) part (λ place value is. is.within) are_cleared, tt)

pub clears_stay : (words : List ℕ) (object : ℕ) → IsImage words → object < 16 → Fits words → AreClear object words → StepStays (AreClear (object + 1)) (clear_mending object) words
clears_stay words object image number fits has =
    let part : Part = stores 0 (entry_places words object) ++ one_store (commit_word_at object) 0 in
    step_by (AreClear (object + 1)) (clear_mending object) words (part ∷ []) refl (all_stores words object image number fits has)
    (still words object image number fits has, still words object image number fits has (words_after part words) (between-end part words))
    (cleared words object image number fits has)

pub clears_keep : ClearsKeep
clears_keep words object image number fits has = step_keeps (AreClear (object + 1)) (clear_mending object) words (clears_stay words object image number fits has)
