-- What the words of a transaction object show, and what the plans of a transaction may rest on.
use Rattle.std.specs.Prelude.{◌≡◌, ◌≢◌, ◌⊎◌, ℕ, ◌+◌, ◌^◌, ◌<◌, ◌≤◌, Bool, IsTrue, List, length, slice_index}
use Rattle.image_layout.specs.Fixed.{state_at, commit_word_at, entry_at}
use Rattle.txn_object.specs.declared.entry.Entry.{Entry}
use Rattle.stage_object.specs.Object.{entries_in}

-- a transaction as its object has it: its state, its commit word and its entries
pub record Transaction : Type 0 where
  pub state : ℕ
  pub commit_word : ℕ
  pub entries : List Entry

-- the words of an object show a transaction
pub record Shows (words : List ℕ) (object : ℕ) (transaction : Transaction) : Type 0 where
  pub state : slice_index words (state_at object) ≡ transaction.state
  pub commit_word : slice_index words (commit_word_at object) ≡ transaction.commit_word
  pub entries : entries_in words object ≡ transaction.entries

-- there is such an object, and the words have it
pub record HasObject (words : List ℕ) (object : ℕ) : Type 0 where
  pub number : object < 16
  pub size : 2048 ≤ length words

-- no entry of the object follows a word that is 0
abbrev pub NoEntryFollowsZero : List ℕ → ℕ → Type 0
NoEntryFollowsZero words object =
    (nth : ℕ) → nth + 1 < 60 → slice_index words (entry_at object nth) ≡ 0
    → slice_index words (entry_at object (nth + 1)) ≡ 0

-- the object has so many entries, and this one may be the next
pub record MayAddEntry (words : List ℕ) (object nth : ℕ) (entry : Entry) : Type 0 where
  pub is_object : HasObject words object
  pub count : length (entries_in words object) ≡ nth
  pub room : nth < 60
  pub packed : NoEntryFollowsZero words object
  pub table : entry.table < 2 ^ 24
  pub row : entry.row < 2 ^ 32

-- the entry words of the object are the same
abbrev pub HasSameEntries : List ℕ → List ℕ → ℕ → Type 0
HasSameEntries old new object =
    (nth : ℕ) → nth < 60 → slice_index new (entry_at object nth) ≡ slice_index old (entry_at object nth)

-- the words that the second part of a retire clears: the first entries and, where it is set, the commit word
abbrev pub IsCleared : ℕ → ℕ → Bool → ℕ → Type 0
IsCleared object entries word w = ((entry_at object 0 ≤ w) × (w < entry_at object entries))
    ⊎ (IsTrue word × (w ≡ commit_word_at object))

-- The object is idle, of the words to clear each is the old one or 0, and all other words are the old ones.
pub record IsRetiring (old : List ℕ) (object entries : ℕ) (word : Bool) (words : List ℕ) : Type 0 where
  pub size : length words ≡ length old
  pub state : slice_index words (state_at object) ≡ 0
  pub cleared : (w : ℕ) → IsCleared object entries word w → (slice_index words w ≡ slice_index old w)
      ⊎ (slice_index words w ≡ 0)
  pub others : (w : ℕ) → w ≢ state_at object → ¬ IsCleared object entries word w
      → slice_index words w ≡ slice_index old w

-- The object is idle, the words to clear are 0, and all other words are the old ones.
pub record IsRetired (old : List ℕ) (object entries : ℕ) (word : Bool) (words : List ℕ) : Type 0 where
  pub size : length words ≡ length old
  pub state : slice_index words (state_at object) ≡ 0
  pub cleared : (w : ℕ) → IsCleared object entries word w → slice_index words w ≡ 0
  pub others : (w : ℕ) → w ≢ state_at object → ¬ IsCleared object entries word w
      → slice_index words w ≡ slice_index old w
