-- The plans of a transaction on a stage image. Session 1 has object 0.
use Rattle.std.specs.Prelude.{ℕ, ◌+◌, List, [], ◌∷◌, ◌++◌, true, false}
use Rattle.std.specs.List.{range_with_len}
use Rattle.image_layout.specs.Fixed.{last_at}
use Rattle.pm_model.specs.Plans.{Part, one_store}
use Rattle.txn_object.specs.declared.entry.Entry.{Entry}
use Rattle.txn_object.specs.declared.entry.EntryKind.TheVariants.{Created}
use Rattle.txn_object.specs.Entries.{entry_word}
use Rattle.stage_object.specs.Object.{retire_parts}
use Rattle.stage_view.specs.StageCommit as commit
use Rattle.stage_view.specs.StageWords as stage

-- the entry of a row that the transaction creates
abbrev pub created_entry : ℕ → Entry
created_entry row = record { kind = Created; table = 0; row = row }

-- an insert: the entry, and then the key word of the value
abbrev pub insert_parts : ℕ → ℕ → ℕ → List Part
insert_parts nth row word = stage.insert_parts 0 nth (entry_word (created_entry row)) row word

-- the stamps of so many rows from the first on, and then how many rows are used up
abbrev pub stamp_part : ℕ → ℕ → ℕ → Part
stamp_part first count number = commit.stamp_part number (range_with_len first count) [] (first + count)

-- A commit up to the fence at which it is decided: the stamps, and then the commit word.
abbrev pub commit_early : ℕ → ℕ → ℕ → List Part
commit_early first count number = commit.commit_early 0 number (range_with_len first count) [] (first + count)

-- The rest of it: the last commit number, and then the object is idle and cleared.
abbrev pub commit_late : ℕ → ℕ → List Part
commit_late count number = one_store last_at number ∷ retire_parts 0 count true

abbrev pub commit_parts : ℕ → ℕ → ℕ → List Part
commit_parts first count number = commit_early first count number ++ commit_late count number

-- the end of a transaction that wrote nothing
abbrev pub close_parts : List Part
close_parts = retire_parts 0 0 false
