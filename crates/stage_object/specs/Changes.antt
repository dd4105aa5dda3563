-- The plans of a stage image's transaction object as changes: a begin, an entry and a retire.
use Rattle.std.specs.Prelude.{◌≡◌, ◌≢◌, ◌⊎◌, ℕ, ◌+◌, ◌<◌, ◌≤◌, IsTrue, List, [], ◌∷◌, ◌++◌, length, slice_index}
use Rattle.image_layout.specs.Fixed.{state_at, commit_word_at, entry_at}
use Rattle.pm_model.specs.Changes.{Change}
use Rattle.pm_model.specs.Plans.{Part}
use Rattle.txn_object.specs.declared.entry.Entry.{Entry}
use Rattle.txn_object.specs.Changes.{IsSpelt, NewEntry, Retirement}
use Rattle.txn_object.specs.Entries.{entry_word}
use Rattle.txn_object.specs.Object.{begin_parts}
use Rattle.stage_object.specs.Object.{entries_in, entry_part, retire_parts}
use Rattle.stage_object.specs.Shown.{Transaction, Shows, HasObject, NoEntryFollowsZero, MayAddEntry, IsRetiring, IsRetired}

-- what the plans of an object read is the same: its words
pub record SameObjectRead (object : ℕ) (old new : List ℕ) : Type 0 where
  pub size : length new ≡ length old
  pub state : slice_index new (state_at object) ≡ slice_index old (state_at object)
  pub commit_word : slice_index new (commit_word_at object) ≡ slice_index old (commit_word_at object)
  pub entries : (nth : ℕ) → nth < 60 → slice_index new (entry_at object nth) ≡ slice_index old (entry_at object nth)

-- ── a begin ──

-- the transaction, once it is begun
abbrev pub begun : Transaction → Transaction
begun transaction = record transaction { state = 1 }

-- The object is open, and each other word is that of the base. So its entries stay, and an entry that might be entered
-- may be so still.
pub record IsBegun (object : ℕ) (base words : List ℕ) : Type 0 where
  pub size : length words ≡ length base
  pub state : slice_index words (state_at object) ≡ 1
  pub others : (w : ℕ) → w ≢ state_at object → slice_index words w ≡ slice_index base w
  pub shows : (t : Transaction) → Shows base object t → Shows words object (begun t)
  pub next : (nth : ℕ) (entry : Entry) → MayAddEntry base object nth entry → MayAddEntry words object nth entry

abbrev pub beginning : ℕ → Change
beginning object = record {
  asks = λ base. HasObject base object;
  parts = λ base. begin_parts object;
  shows = λ base image. (image ≡ base) ⊎ IsBegun object base image;
  ends = IsBegun object;
  reads = SameObjectRead object;
}

-- ── an entry ──

-- the transaction, with one entry more
abbrev pub with_entry : Transaction → Entry → Transaction
with_entry transaction entry = record transaction { entries = transaction.entries ++ entry ∷ [] }

abbrev pub entry_parts : NewEntry → List Part
entry_parts n = entry_part n.object n.nth n.entry ∷ []

-- The entry stands at its place, and each other word is that of the base. So the transaction has it behind the others,
-- no entry follows a word that is 0, and the next one may be entered.
pub record IsEntered (n : NewEntry) (base words : List ℕ) : Type 0 where
  pub size : length words ≡ length base
  pub word : slice_index words (entry_at n.object n.nth) ≡ entry_word n.entry
  pub others : (w : ℕ) → w ≢ entry_at n.object n.nth → slice_index words w ≡ slice_index base w
  pub shows : (t : Transaction) → Shows base n.object t → Shows words n.object (with_entry t n.entry)
  pub packed : NoEntryFollowsZero words n.object
  pub next : (other : Entry) → n.nth + 1 < 60 → IsSpelt other → MayAddEntry words n.object (n.nth + 1) other

abbrev pub entering : NewEntry → Change
entering n = record {
  asks = λ base. MayAddEntry base n.object n.nth n.entry;
  parts = λ base. entry_parts n;
  shows = λ base image. (image ≡ base) ⊎ IsEntered n base image;
  ends = IsEntered n;
  reads = SameObjectRead n.object;
}

-- ── a retire ──

-- there is such an object, and it has so many entry words
pub record MayBeRetired (words : List ℕ) (r : Retirement) : Type 0 where
  pub is_object : HasObject words r.object
  pub most : r.entries ≤ 60

abbrev pub IsRetiringBy : Retirement → List ℕ → List ℕ → Type 0
IsRetiringBy r old words = IsRetiring old r.object r.entries r.word words

-- the object is idle, and the words to clear are 0
abbrev pub IsRetiredBy : Retirement → List ℕ → List ℕ → Type 0
IsRetiredBy r old words = IsRetired old r.object r.entries r.word words

-- no fewer entries are cleared than the transaction has
abbrev pub ClearsAll : List ℕ → Retirement → Type 0
ClearsAll old r = length (entries_in old r.object) ≤ r.entries

-- the commit word is cleared, or was 0
abbrev pub ClearsCommit : List ℕ → Retirement → Type 0
ClearsCommit old r = IsTrue r.word ⊎ (slice_index old (commit_word_at r.object) ≡ 0)

-- a transaction that is over
abbrev pub no_transaction : Transaction
no_transaction = record { state = 0; commit_word = 0; entries = [] }

abbrev pub retiring : Retirement → Change
retiring r = record {
  asks = λ base. MayBeRetired base r;
  parts = λ base. retire_parts r.object r.entries r.word;
  shows = λ base image. (image ≡ base) ⊎ IsRetiringBy r base image;
  ends = IsRetiredBy r;
  reads = SameObjectRead r.object;
}
