-- What an undecided transaction takes back, in one part of stores, keeps what fits together, and shows the same.
use Rattle.std.proofs.Common.{◌≡◌, ◌⊎◌, inl, inr, ⊎_elim, ℕ, ◌<◌, ◌≤◌, max, List, [], ◌∷◌, length, get_or, sym, ◌∙◌, subst, arith}
use Rattle.std.specs.Prelude.{Contains}
use Rattle.std.proofs.lemmas.Bool.{cases_lt}
use Rattle.std.proofs.lemmas.List.{get_or_past}
use Rattle.pm_model.specs.Device.{IsBetween}
use Rattle.pm_model.specs.Plans.{EachCut, Part, words_after}
use Rattle.pm_model.proofs.Cuts.{between-end}
use Rattle.pm_model.proofs.NeededStores.{cut-written}
use Rattle.image_layout.specs.Arrays.{capacity}
use Rattle.image_layout.specs.Fixed.{state_at}
use Rattle.image_layout.specs.Objects.{entries, entry_word, last_commit}
use Rattle.image_layout.specs.Records.{created_header, ended_header, high_at}
use Rattle.image_layout.specs.SoundRules.{no_commit}
use Rattle.image_layout.specs.Tables.{table_block, table_count}
use Rattle.shown_state.specs.LogicalState.{created_rows, row_bound}
use Rattle.shown_state.specs.OpeningParts.{FitsStill}
use Rattle.opening_steps.proofs.StampWords.{a_bound, a_creator, an_ender, bound_behind, bounds_once, creators, enders, IsUndoWord, stamp_behind, stamp_or_bound, stamps_once, undo_only}
use Rattle.opening_steps.proofs.Undone.{birth_at, end_at, IsTaken, taken_still}
use Rattle.fitting_plans.specs.Transactions.{frees, IsObjectOf, IsTakenBack, kills, raises, TakesBack}

module _ (words : List ℕ) (object : ℕ) (part : Part) (takes : TakesBack words object part) where
  abbrev its : IsObjectOf words object
  its = takes.its

  stored_word : (place value : ℕ) → IsTakenBack words object place value → IsUndoWord words place
  stored_word place value (kills table row k) = a_creator table row k.published k.has_word k.there
  stored_word place value (frees table row f) = an_ender table row f.published f.has_word f.there
  stored_word place value (raises table r) = a_bound table r.published r.there

  killed_there : (table row value : ℕ) → table < table_count words → row < capacity words (created_header (table_block words table)) → IsTakenBack words object (birth_at words table row) value
      → (value ≡ no_commit) × ((get_or words (birth_at words table row) 0 ≡ 0) ⊎ (last_commit words < get_or words (birth_at words table row) 0)) × Contains (entries words object) (entry_word 1 table row)
  killed_there table row value lt published (kills other before k) =
      let found = stamps_once words its.fits table 8 (created_header (table_block words table)) row other 8 (created_header (table_block words other)) before
      (creators words its.fits table lt) (creators words its.fits other k.published) published k.has_word k.there in (
        k.dead,
        subst (λ (place : ℕ). (get_or words place 0 ≡ 0) ⊎ (last_commit words < get_or words place 0)) (sym k.there) k.uncommitted,
        subst (λ (r : ℕ). Contains (entries words object) (entry_word 1 table r)) (sym found.row_is) (subst (λ (t : ℕ). Contains (entries words object) (entry_word 1 t before)) (sym found.table_is) k.entry),
      )
  killed_there table row value lt published (frees other before k) =
      let found = stamps_once words its.fits table 8 (created_header (table_block words table)) row other 24 (ended_header (table_block words other)) before
      (creators words its.fits table lt) (enders words its.fits other k.published) published k.has_word k.there in
      let bases = found.base_is in absurd (omega (arith, bases))
  killed_there table row value lt published (raises other k) =
      absurd (stamp_or_bound words its.fits table 8 (created_header (table_block words table)) row other (creators words its.fits table lt) published k.published k.there)

  freed_there : (table row value : ℕ) → table < table_count words → row < capacity words (ended_header (table_block words table)) → IsTakenBack words object (end_at words table row) value
      → (value ≡ 0) × (last_commit words < get_or words (end_at words table row) 0)
  freed_there table row value lt published (frees other before k) = (k.none, subst (λ (place : ℕ). last_commit words < get_or words place 0) (sym k.there) k.uncommitted)
  freed_there table row value lt published (kills other before k) =
      let found = stamps_once words its.fits table 24 (ended_header (table_block words table)) row other 8 (created_header (table_block words other)) before
      (enders words its.fits table lt) (creators words its.fits other k.published) published k.has_word k.there in
      let bases = found.base_is in absurd (omega (arith, bases))
  freed_there table row value lt published (raises other k) =
      absurd (stamp_or_bound words its.fits table 24 (ended_header (table_block words table)) row other (enders words its.fits table lt) published k.published k.there)

  raised_there : (table value : ℕ) → table < table_count words → IsTakenBack words object (high_at (table_block words table)) value
      → (get_or words (high_at (table_block words table)) 0 ≤ value) × (value ≤ max (get_or words (high_at (table_block words table)) 0) (row_bound (created_rows words object table)))
  raised_there table value lt (raises other k) =
      let one = bounds_once words its.fits table other lt k.published k.there in
      (k.least, subst (λ (t : ℕ). value ≤ max (get_or words (high_at (table_block words table)) 0) (row_bound (created_rows words object t))) (sym one) k.most)
  raised_there table value lt (kills other before k) =
      absurd (stamp_or_bound words its.fits other 8 (created_header (table_block words other)) before table (creators words its.fits other k.published) k.has_word lt (sym k.there))
  raised_there table value lt (frees other before k) =
      absurd (stamp_or_bound words its.fits other 24 (ended_header (table_block words other)) before table (enders words its.fits other k.published) k.has_word lt (sym k.there))

  stored_behind : (place value : ℕ) → IsTakenBack words object place value → 2048 ≤ place
  stored_behind place value (kills other before k) =
      let behind = stamp_behind words its.fits other 8 (created_header (table_block words other)) before (creators words its.fits other k.published) k.has_word in let at = k.there in omega (arith, behind, at)
  stored_behind place value (frees other before k) =
      let behind = stamp_behind words its.fits other 24 (ended_header (table_block words other)) before (enders words its.fits other k.published) k.has_word in let at = k.there in omega (arith, behind, at)
  stored_behind place value (raises other k) = let behind = bound_behind words its.fits other k.published in let at = k.there in omega (arith, behind, at)

  module _ (cut : List ℕ) (between : IsBetween words (words_after part words) cut) where
    each : (w : ℕ) → (get_or cut w 0 ≡ get_or words w 0) ⊎ IsTakenBack words object w (get_or cut w 0)
    each w = ⊎_elim
        (λ lt. cut-written (IsTakenBack words object) part words cut w takes.stores lt between)
        (λ past. let size = between.size in inl (get_or_past cut w 0 (omega (arith, past, size)) ∙ sym (get_or_past words w 0 past)))
        (cases_lt w (length words))

    bound_is : (table : ℕ) → table < table_count words → (get_or words (high_at (table_block words table)) 0 ≤ get_or cut (high_at (table_block words table)) 0)
        × (get_or cut (high_at (table_block words table)) 0 ≤ max (get_or words (high_at (table_block words table)) 0) (row_bound (created_rows words object table)))
    bound_is table lt = ⊎_elim
        (λ kept. (omega (arith, kept), omega (arith, kept)))
        (λ stored. raised_there table (get_or cut (high_at (table_block words table)) 0) lt stored)
        (each (high_at (table_block words table)))

    taken : IsTaken words cut object
    taken = record {
      only = undo_only words its.fits cut (λ w. ⊎_elim (λ e. inl e) (λ stored. inr (stored_word w (get_or cut w 0) stored)) (each w)) between.size;
      creators = λ table row lt published. ⊎_elim (λ kept. inl kept)
          (λ stored. let found = killed_there table row (get_or cut (birth_at words table row) 0) lt published stored in inr (record { dead = found.0; was = found.1; entry = found.2 }))
          (each (birth_at words table row));
      enders = λ table row lt published. ⊎_elim (λ kept. inl kept)
          (λ stored. let found = freed_there table row (get_or cut (end_at words table row) 0) lt published stored in inr (record { none = found.0; was = found.1 }))
          (each (end_at words table row));
      rises = λ table lt. (bound_is table lt).0;
      most = λ table lt. (bound_is table lt).1;
      states = λ one lt. ⊎_elim (λ kept. inl kept)
          (λ stored. let behind = stored_behind (state_at one) (get_or cut (state_at one) 0) stored in absurd (omega (arith, behind, lt)))
          (each (state_at one));
    }

    pub taken_back : FitsStill words cut
    taken_back = taken_still words cut object its.image its.number its.fits takes.undecided taken

pub takes_back : (words : List ℕ) (object : ℕ) (part : Part) → TakesBack words object part → EachCut (FitsStill words) (part ∷ []) words
takes_back words object part takes =
    (taken_back words object part takes, taken_back words object part takes (words_after part words) (between-end part words))
