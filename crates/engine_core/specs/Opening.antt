-- What opening does to the words of an image: one plan after the other, each made from the words before it. A cut may
-- come in any of them, and the next opening begins anew.
use Rattle.std.specs.Prelude.{ℕ, max, not, ◌&&◌, ◌||◌, ◌==◌, nat_lt, if◌then◌else◌, List, [], ◌∷◌, ◌++◌, map, slice_index, Option}
use Rattle.std.specs.List.{flat_map}
use Rattle.image_layout.specs.Fixed.{last_at, state_at, commit_word_at, entry_at}
use Rattle.image_layout.specs.Places.{below}
use Rattle.pm_model.specs.Needed.{needed_parts, Mending}
use Rattle.pm_model.specs.Plans.{Part, one_store, stores, finished}
use Rattle.image_layout.specs.Checks.{Fault, or_else, first_fault}
use Rattle.txn_object.specs.declared.entry.Entry.{Entry}
use Rattle.txn_object.specs.declared.entry.EntryKind.{EntryKind}
use Rattle.txn_object.specs.declared.entry.EntryKind.TheVariants.{Created, Ended}
use Rattle.stage_object.specs.Object.{entries_in}
pub use Rattle.stage_view.specs.StageWords.{is_open, past_created}
use Rattle.engine_core.specs.Stage.{high_at, born_at, ended_at}
use Rattle.engine_core.specs.LogicalState.{commit_count}
use Rattle.engine_core.specs.ImageRules.{dead, entry_rules, closing_rules}

-- ── what is mended ──

-- the last commit number is that of the last commit word that is durable
abbrev pub last_mending : Mending
last_mending words = one_store last_at (commit_count words) ∷ []

-- The stamp of an entry's row is taken back, unless it is that of a commit: a row that was created is dead, and one
-- that was ended isn't.
abbrev pub undo_entry : List ℕ → Entry → Part
undo_entry words entry = undo_stamp words entry.kind entry.row
  where
    undo_stamp : List ℕ → EntryKind → ℕ → Part
    undo_stamp words Created row =
        let born = slice_index words (born_at row) in
        if (born == 0) || nat_lt (slice_index words last_at) born then one_store (born_at row) dead else []
    undo_stamp words Ended row =
        if nat_lt (slice_index words last_at) (slice_index words (ended_at row)) then one_store (ended_at row) 0 else []

-- the stamps of the object's entries are taken back, in their order, and their rows are used up
abbrev pub undo_part : List ℕ → ℕ → Part
undo_part words object =
    flat_map (undo_entry words) (entries_in words object)
    ++ one_store high_at (max (slice_index words high_at) (past_created words object))

-- a transaction that is open and has no commit word is undone, and then its object is idle
abbrev pub undo_mending : ℕ → Mending
undo_mending object words =
    if is_open words object && (slice_index words (commit_word_at object) == 0)
    then undo_part words object ∷ one_store (state_at object) 0 ∷ [] else []

-- the object of a transaction that has its commit word is idle
abbrev pub close_mending : ℕ → Mending
close_mending object words =
    if is_open words object && not (slice_index words (commit_word_at object) == 0)
    then one_store (state_at object) 0 ∷ [] else []

-- 0 over an object's entries and its commit word
abbrev pub clear_mending : ℕ → Mending
clear_mending object words = (stores 0 (map (entry_at object) (below 60)) ++ one_store (commit_word_at object) 0) ∷ []

-- all that opening mends, in order: the last commit number, and then each object in three rounds
abbrev pub mendings : List Mending
mendings = last_mending ∷ map undo_mending (below 16) ++ map close_mending (below 16) ++ map clear_mending (below 16)

-- the parts of these, each made from the words that those before it leave
abbrev pub parts_of : List Mending → List ℕ → List Part
parts_of [] words = []
parts_of (mending ∷ later) words =
    let parts = needed_parts words (mending words) in
    parts ++ parts_of later (finished parts words)

-- all parts that opening plays on these words
unfoldable pub opening_parts : List ℕ → List Part
opening_parts words = parts_of mendings words

-- the words once they were opened
unfoldable pub recovered : List ℕ → List ℕ
recovered words = finished (opening_parts words) words

-- why an image is refused: the first of rules 1 to 15 that it breaks, and then the first of the other rules that it
-- breaks once it was opened
abbrev pub opening_fault : List ℕ → Option Fault
opening_fault words = or_else (first_fault entry_rules words) (first_fault closing_rules (recovered words))
