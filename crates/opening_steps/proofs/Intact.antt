-- In an intact image nothing is left to mend but the version, and so the step to version 2 keeps what it shows.
use Rattle.std.proofs.Common.{◌≡◌, ℕ, List, ◌∷◌, get_or, refl, sym}
use Rattle.std.specs.Prelude.{All, take}
use Rattle.std.specs.List.{flat_map}
use Rattle.std.proofs.lemmas.List.Elements.{Contains-append_right}
use Rattle.image_layout.specs.Fixed.{commit_word_at, last_at, state_at}
use Rattle.image_layout.specs.Objects.{entry_places, last_commit}
use Rattle.image_layout.specs.Owners.{next_table_slots, next_text_slots}
use Rattle.image_layout.specs.Records.{new_leaf_at, split_leaf_at}
use Rattle.image_layout.specs.SoundRules.{IsIntact}
use Rattle.image_layout.specs.Tables.{all_columns}
use Rattle.image_layout.proofs.Members.{Contains-here, Contains-there, flat_map-Contains}
use Rattle.image_layout.proofs.OwnersApart.{all_from}
use Rattle.shown_state.specs.Fits.{BeginFirst}
use Rattle.shown_state.specs.Mending.{version_mending}
use Rattle.shown_state.specs.OpeningParts.{IsImage, StepKeeps}
use Rattle.shown_state.specs.StepLaws.{AreClear, AreMended, NoneHasEntries, NoneIsOpen, NoneIsSplit, NoneIsUndecided, NoTableIsNew, NoTextIsNew}
use Rattle.shown_state.proofs.Opening.{lane_is_idle, last_is, log_is_empty, not_open, object_is_closed, slot_is_null}
use Rattle.shown_state.proofs.Sounds.{intact_fits, slot_zero}
use Rattle.opening_steps.specs.QuietImages.{IsQuiet}
use Rattle.opening_steps.proofs.OwnerPlaces.{Contains-take}
use Rattle.opening_steps.proofs.VersionStep.{version_keeps}

module _ (words : List ℕ) (intact : IsIntact words) where
  none_split : NoneIsSplit 512 words
  none_split = all_from
      (λ column. (get_or words (split_leaf_at column) 0 ≡ 0) × (get_or words (new_leaf_at column) 0 ≡ 0))
      (take 512 (all_columns words))
      (λ column is. log_is_empty words intact column (Contains-take 512 (all_columns words) column is))

  no_table : NoTableIsNew words
  no_table = all_from (λ at. get_or words at 0 ≡ 0) (next_table_slots words) (λ at is. slot_is_null words intact at is)

  no_text : NoTextIsNew 512 words
  no_text = all_from (λ column. All (λ at. get_or words at 0 ≡ 0) (next_text_slots words column))
      (take 512 (all_columns words)) (λ column is.
      all_from (λ at. get_or words at 0 ≡ 0) (next_text_slots words column) (λ at here.
      slot_zero words intact at (Contains-append_right (next_table_slots words) (flat_map (next_text_slots words) (all_columns words)) at
      (flat_map-Contains (next_text_slots words) (all_columns words) column at (Contains-take 512 (all_columns words) column is) here))))

  none_undecided : NoneIsUndecided 16 words
  none_undecided object lt = rw (not_open words intact object lt) refl

  abbrev object_places : ℕ → List ℕ
  object_places object = state_at object ∷ commit_word_at object ∷ entry_places words object

  none_open : NoneIsOpen 16 words
  none_open object lt = object_is_closed words intact object (state_at object) lt
      (Contains-here (state_at object) (commit_word_at object ∷ entry_places words object))

  none_has_entries : NoneHasEntries 16 words
  none_has_entries object lt =
      let places = entry_places words object in (
        object_is_closed words intact object (commit_word_at object) lt
            (Contains-there (state_at object) (commit_word_at object) (commit_word_at object ∷ places) (Contains-here (commit_word_at object) places)),
        all_from (λ at. get_or words at 0 ≡ 0) places (λ at is. object_is_closed words intact object at lt
            (Contains-there (state_at object) at (commit_word_at object ∷ places) (Contains-there (commit_word_at object) at places is))),
      )

  intact_is_clear : AreClear 16 words
  intact_is_clear = (((((lane_is_idle words intact, none_split), no_table, no_text), last_number, none_undecided), none_open), none_has_entries)
    where
      last_number : get_or words last_at 0 ≡ last_commit words
      last_number = sym (last_is words intact)

pub intact_keeps : (words : List ℕ) → IsImage words → IsIntact words → BeginFirst words → StepKeeps AreMended version_mending words
intact_keeps words image intact first = version_keeps words image (intact_fits words image intact first) (intact_is_clear words intact)

-- such an image is quiet
pub intact_quiet : (words : List ℕ) → IsImage words → IsIntact words → BeginFirst words → IsQuiet words
intact_quiet words image intact first = record {
  image = image;
  fits = intact_fits words image intact first;
  quiet = none_split words intact;
}
