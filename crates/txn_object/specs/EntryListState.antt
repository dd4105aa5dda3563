use Rattle.std.specs.Prelude.{ℕ, List}
use Rattle.txn_object.specs.declared.entry.Entry.{Entry}

-- the entries of a list, in order, and how many more it has room for
pub record EntryListState : Type 0 where
  pub entries : List Entry
  pub spare : ℕ
