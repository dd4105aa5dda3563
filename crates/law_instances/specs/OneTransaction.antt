-- One transaction with one entry, over a formatted image: the words after each of its plans.
use Rattle.std.specs.Prelude.{ℕ, ◌<◌, false, List}
use Rattle.image_layout.specs.declared.layout.TheConstants.{OBJECTS}
use Rattle.image_layout.specs.Fresh.{fresh_words}
use Rattle.pm_model.specs.Plans.{finished}
use Rattle.txn_object.specs.declared.entry.Entry.{Entry}
use Rattle.txn_object.specs.Changes.{NewEntry, Retirement, entry_parts}
use Rattle.txn_object.specs.Object.{begin_parts, retire_parts}

-- there are segments, and there is such an object
pub record IsFresh (segments object : ℕ) : Type 0 where
  pub some : 0 < segments
  pub number : object < OBJECTS

-- the entry is the first one of its object
abbrev pub first_entry : ℕ → Entry → NewEntry
first_entry object entry = record { object = object; nth = 0; entry = entry }

-- one entry is cleared, and no commit word
abbrev pub one_retired : ℕ → Retirement
one_retired object = record { object = object; entries = 1; word = false }

-- the words once the transaction is begun
abbrev pub begun_words : ℕ → ℕ → List ℕ
begun_words segments object = finished (begin_parts object) (fresh_words segments)

-- the words once it has its entry
abbrev pub entered_words : ℕ → ℕ → Entry → List ℕ
entered_words segments object entry =
    finished (entry_parts (begun_words segments object) (first_entry object entry)) (begun_words segments object)

-- the words once it is retired
abbrev pub retired_words : ℕ → ℕ → Entry → List ℕ
retired_words segments object entry =
    finished (retire_parts (entered_words segments object entry) object 1 false) (entered_words segments object entry)
