-- An entry of a transaction, as a word.
use Rattle.std.specs.Prelude.{ℕ, ◌==◌, if◌then◌else◌}
use Rattle.image_layout.specs.Objects as objects
use Rattle.image_layout.specs.Objects.{entry_kind, entry_table, entry_row}
use Rattle.txn_object.specs.declared.entry.Entry.{Entry}
use Rattle.txn_object.specs.declared.entry.EntryKind.{EntryKind}
use Rattle.txn_object.specs.declared.entry.EntryKind.TheVariants.{Created, Ended}

-- the number of a kind
abbrev pub kind_number : EntryKind → ℕ
kind_number Created = 1
kind_number Ended = 2

-- the word of an entry
abbrev pub entry_word : Entry → ℕ
entry_word entry = objects.entry_word (kind_number entry.kind) entry.table entry.row

-- the entry that a word spells
abbrev pub entry_of : ℕ → Entry
entry_of word = record {
  kind = if entry_kind word == 1 then Created else Ended;
  table = entry_table word;
  row = entry_row word;
}
