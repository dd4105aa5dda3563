-- One transaction with one entry, over a formatted image.
use Rattle.std.proofs.Common.{◌≡◌, inr, ℕ, suc, ◌+◌, ◌<◌, ◌≤◌, List, [], ◌∷◌, length, map, get_or, refl, ◌∙◌, ap, arith}
use Rattle.std.proofs.lemmas.List.{get_or-map, length-map}
use Rattle.image_layout.specs.Fixed.{state_at, commit_word_at, ready_at}
use Rattle.image_layout.specs.Fresh.{fresh_words}
use Rattle.image_layout.specs.Objects as objects
use Rattle.image_layout.specs.Objects.{ready_count, entry_places}
use Rattle.image_layout.specs.SoundRules.{IsSound}
use Rattle.image_layout.proofs.FreshImage.{length-fresh_words}
use Rattle.image_layout.proofs.SoundApart.{intact_apart}
use Rattle.shown_state.proofs.FormattedImage.{formatted_is_sound}
use Rattle.txn_object.specs.declared.entry.Entry.{Entry}
use Rattle.txn_object.specs.Changes.{begun, with_entry, no_transaction, ClearsAll, ClearsCommit, IsBegun, IsBeginBefore, IsEntered, IsEntryBefore, IsObjectOf, IsRetiredBy, IsSpelt}
use Rattle.txn_object.specs.Entries.{entry_of}
use Rattle.txn_object.specs.Object.{NoEntryFollowsZero}
use Rattle.txn_object.specs.Shown.{HasObject, MayAddEntry, Shows}
use Rattle.txn_object.proofs.ChangesHold.{begin_holds, entry_holds, retire_holds, retired_shows, retired_begins, own_segments, place_object}
use Rattle.txn_object.proofs.Places.{length-entry_places, own_place}
use Rattle.txn_object.proofs.Runs.{set_words, set-no}
use Rattle.txn_object.proofs.Walk.{words_at}
use Rattle.law_instances.specs.OneTransaction.{IsFresh, begun_words, entered_words, first_entry, one_retired, retired_words}
use Rattle.law_instances.proofs.FreshWords.{fresh_zero}

-- words that are all 0 are no entries
zeros-none : (words : List ℕ) → ((k : ℕ) → k < length words → get_or words k 0 ≡ 0) → set_words words ≡ []
zeros-none [] none = refl
zeros-none (word ∷ words) none = set-no word words (none 0 (omega arith)) ∙ zeros-none words (λ k lt. none (suc k) (omega (arith, lt)))

module _ (segments object : ℕ) (is : IsFresh segments object) where
  number : object < 16
  number = let n = is.number in omega (arith, n)

  zero_at : (w : ℕ) → 514 ≤ w → w < 2048 → get_or (fresh_words segments) w 0 ≡ 0
  zero_at = fresh_zero segments is.some

  none_ready : ready_count (fresh_words segments) object ≡ 0
  none_ready = zero_at (ready_at object) (omega arith) (omega (arith, number))

  places_count : length (entry_places (fresh_words segments) object) ≡ 60
  places_count = omega (arith, length-entry_places (fresh_words segments) object, none_ready)

  place_zero : (k : ℕ) → k < 60 → get_or (fresh_words segments) (get_or (entry_places (fresh_words segments) object) k 0) 0 ≡ 0
  place_zero k lt =
      let at = own_place (fresh_words segments) object k lt in
      zero_at (get_or (entry_places (fresh_words segments) object) k 0) (omega (arith, at)) (omega (arith, at, number, lt))

  no_entries : objects.entries (fresh_words segments) object ≡ []
  no_entries = zeros-none (words_at (fresh_words segments) (entry_places (fresh_words segments) object)) (λ k lt.
      let size = length-map (entry_places (fresh_words segments) object) (λ w. get_or (fresh_words segments) w 0) in
      let there : k < length (entry_places (fresh_words segments) object) = omega (arith, lt, size) in
      get_or-map (λ w. get_or (fresh_words segments) w 0) (entry_places (fresh_words segments) object) k 0 0 there
      ∙ place_zero k (omega (arith, there, places_count)))

  packed : NoEntryFollowsZero (fresh_words segments) object
  packed nth lt none = place_zero (nth + 1) (omega (arith, lt, places_count))

  sound : IsSound (fresh_words segments)
  sound = formatted_is_sound segments is.some

  is_object : IsObjectOf (fresh_words segments) object
  is_object = record { number = is.number; rules = sound.intact.entry; owners = intact_apart (fresh_words segments) sound.intact }

  has_object : HasObject (fresh_words segments) object
  has_object = place_object (fresh_words segments) object
      (record {
        number = is.number;
        size = let some = is.some in omega (arith, some, length-fresh_words segments);
        whole = omega (arith, length-fresh_words segments);
      })
      (own_segments (fresh_words segments) object is_object)

  none_shown : Shows (fresh_words segments) object no_transaction
  none_shown = record {
    state = zero_at (state_at object) (omega arith) (omega (arith, number));
    commit_word = zero_at (commit_word_at object) (omega arith) (omega (arith, number));
    entries = ap (λ (l : List ℕ). map entry_of l) no_entries;
  }

  pub begins : IsBeginBefore (fresh_words segments) object no_transaction []
  begins = record { is_object = has_object; shows = none_shown; spares = λ w of. refl }

  is_begun : IsBegun object (fresh_words segments) (begun_words segments object)
  is_begun = (begin_holds object).end (fresh_words segments) has_object

  begun_shown : Shows (begun_words segments object) object (begun no_transaction)
  begun_shown = is_begun.shows no_transaction none_shown

  module _ (entry : Entry) (spelt : IsSpelt entry) where
    may_enter : MayAddEntry (begun_words segments object) object 0 entry
    may_enter = is_begun.next 0 entry (record {
      is_object = has_object;
      count = ap (λ (l : List ℕ). length l) no_entries;
      room = omega (arith, places_count);
      packed = packed;
      table = spelt.table;
      row = spelt.row;
    })

    pub enters : IsEntryBefore (begun_words segments object) (first_entry object entry) (begun no_transaction) []
    enters = record { may = may_enter; shows = begun_shown; spares = λ w of. refl }

    is_entered : IsEntered (first_entry object entry) (begun_words segments object) (entered_words segments object entry)
    is_entered = (entry_holds (first_entry object entry)).end (begun_words segments object) may_enter

    pub entered_shown : Shows (entered_words segments object entry) object (with_entry (begun no_transaction) entry)
    entered_shown = is_entered.shows (begun no_transaction) begun_shown

    pub clears : ClearsAll (entered_words segments object entry) (one_retired object)
    clears = record {
      may = record {
        is_object = is_entered.is_object;
        most = let size = length-entry_places (entered_words segments object entry) object in omega (arith, size);
      };
      all = let count = ap (λ (l : List Entry). length l) entered_shown.entries in omega (arith, count);
      packed = is_entered.packed;
    }

    pub commit : ClearsCommit (entered_words segments object entry) (one_retired object)
    commit = inr entered_shown.commit_word

    is_retired : IsRetiredBy (one_retired object) (entered_words segments object entry) (retired_words segments object entry)
    is_retired = (retire_holds (one_retired object)).end (entered_words segments object entry) clears.may

    pub over : Shows (retired_words segments object entry) object no_transaction
    over = retired_shows (one_retired object) (entered_words segments object entry) (retired_words segments object entry) clears is_retired commit

    pub again : (other : Entry) → IsSpelt other → MayAddEntry (retired_words segments object entry) object 0 other
    again other says = retired_begins (one_retired object) (entered_words segments object entry) (retired_words segments object entry) clears is_retired other says
