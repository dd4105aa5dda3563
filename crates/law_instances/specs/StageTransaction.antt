-- One transaction with one entry in an object of a stage image: the words after each of its plans. Its begin is that of
-- any transaction object.
use Rattle.std.specs.Prelude.{ℕ, false, List}
use Rattle.pm_model.specs.Plans.{finished}
use Rattle.txn_object.specs.declared.entry.Entry.{Entry}
use Rattle.stage_object.specs.Changes.{entry_parts}
use Rattle.stage_object.specs.Object.{retire_parts}
use Rattle.law_instances.specs.OneTransaction.{begun_words, first_entry}

-- the words once it has its entry
abbrev pub staged_words : ℕ → ℕ → Entry → List ℕ
staged_words segments object entry = finished (entry_parts (first_entry object entry)) (begun_words segments object)

-- the words once it is retired
abbrev pub unstaged_words : ℕ → ℕ → Entry → List ℕ
unstaged_words segments object entry = finished (retire_parts object 1 false) (staged_words segments object entry)
