-- What the words of a transaction object show, and what the plans of a transaction may rest on.
use Rattle.std.specs.Prelude.{◌≡◌, ◌≢◌, ◌⊎◌, ℕ, ◌+◌, ◌%◌, ◌^◌, ◌<◌, ◌≤◌, Bool, IsTrue, List, [], ◌∷◌, ◌++◌, length, slice_index}
use Rattle.image_layout.specs.Fixed.{state_at, commit_word_at, ready_at}
use Rattle.image_layout.specs.Pointer.{pointer_word}
use Rattle.image_layout.specs.Blocks.{live_blocks}
use Rattle.pm_model.specs.Plans.{finished}
use Rattle.image_layout.specs.HeapLaws.{AreApart}
use Rattle.image_layout.specs.Checks.{Keeps}
use Rattle.image_layout.specs.Objects.{ready_count, segment_of, pointer_after, ready_segments, entry_places, entries}
use Rattle.image_layout.specs.EntryRules.{object_rule}
use Rattle.txn_object.specs.declared.entry.Entry.{Entry}
use Rattle.txn_object.specs.Object.{entries_in, nth_place, NoEntryFollowsZero}
use Rattle.txn_object.specs.Extension.{Source, owned, allocated, Extension, new_segment, extension_parts, segment_block}
use Rattle.heap_palloc.specs.Law.{IsElsewhere}
use Rattle.heap_palloc.specs.Choice.{choice_page, choice_pages}

-- a transaction as its object has it: its state, its commit word and its entries
pub record Transaction : Type 0 where
  pub state : ℕ
  pub commit_word : ℕ
  pub entries : List Entry

-- the words of an object and of its segments show a transaction
pub record Shows (words : List ℕ) (object : ℕ) (transaction : Transaction) : Type 0 where
  pub state : slice_index words (state_at object) ≡ transaction.state
  pub commit_word : slice_index words (commit_word_at object) ≡ transaction.commit_word
  pub entries : entries_in words object ≡ transaction.entries

-- There is such an object, its rule holds, and its ready segments share no word with one another or with the fixed
-- pages.
pub record HasObject (words : List ℕ) (object : ℕ) : Type 0 where
  pub number : object < 16
  pub size : 2048 ≤ length words
  pub whole : length words % 32768 ≡ 0
  pub rule : Keeps words (object_rule object)
  pub behind : (segment : ℕ) → segment < ready_count words object → 2048 ≤ segment_of words object segment
  pub apart : (segment other : ℕ) → segment < other → other < ready_count words object
      → AreApart (segment_block (segment_of words object segment)) (segment_block (segment_of words object other))

-- the object has so many entries, and this one may be the next
pub record MayAddEntry (words : List ℕ) (object nth : ℕ) (entry : Entry) : Type 0 where
  pub is_object : HasObject words object
  pub count : length (entries words object) ≡ nth
  pub room : nth < length (entry_places words object)
  pub packed : NoEntryFollowsZero words object
  pub table : entry.table < 2 ^ 24
  pub row : entry.row < 2 ^ 32

-- ── a retire ──

-- the words that the second part of a retire clears: the first entries and, where it is set, the commit word
abbrev pub IsCleared : List ℕ → ℕ → ℕ → Bool → ℕ → Type 0
IsCleared words object entries word w =
    ((nth : ℕ) × (nth < entries) × (w ≡ nth_place words object nth)) ⊎ (IsTrue word × (w ≡ commit_word_at object))

-- The object is idle, of the words to clear each is the old one or 0, and all other words are the old ones.
pub record IsRetiring (old : List ℕ) (object entries : ℕ) (word : Bool) (words : List ℕ) : Type 0 where
  pub size : length words ≡ length old
  pub state : slice_index words (state_at object) ≡ 0
  pub cleared : (w : ℕ) → IsCleared old object entries word w → (slice_index words w ≡ slice_index old w)
      ⊎ (slice_index words w ≡ 0)
  pub others : (w : ℕ) → w ≢ state_at object → ¬ IsCleared old object entries word w
      → slice_index words w ≡ slice_index old w

-- The object is idle, the words to clear are 0, and all other words are the old ones.
pub record IsRetired (old : List ℕ) (object entries : ℕ) (word : Bool) (words : List ℕ) : Type 0 where
  pub size : length words ≡ length old
  pub state : slice_index words (state_at object) ≡ 0
  pub cleared : (w : ℕ) → IsCleared old object entries word w → slice_index words w ≡ 0
  pub others : (w : ℕ) → w ≢ state_at object → ¬ IsCleared old object entries word w
      → slice_index words w ≡ slice_index old w

-- ── an extension ──

-- a word that the allocation of a segment doesn't write
abbrev pub IsElsewhereOf : List ℕ → ℕ → Source → ℕ → Type 0
IsElsewhereOf words object (owned segment) w = Unit {0}
IsElsewhereOf words object (allocated choice) w =
    IsElsewhere object (pointer_after words object) (choice_page choice) (choice_pages choice) w

-- a place outside the words of a segment
abbrev pub IsOutside : ℕ → ℕ → Type 0
IsOutside segment w = (w < segment) ⊎ (segment + 256 ≤ w)

-- The object's rule holds, it has the state, the commit word and the entries as before, and each word that the
-- extension doesn't write stays.
pub record KeepsEntries (base : List ℕ) (e : Extension) (words : List ℕ) : Type 0 where
  pub size : length words ≡ length base
  pub rule : Keeps words (object_rule e.object)
  pub state : slice_index words (state_at e.object) ≡ slice_index base (state_at e.object)
  pub commit_word : slice_index words (commit_word_at e.object) ≡ slice_index base (commit_word_at e.object)
  pub entries : entries words e.object ≡ entries base e.object
  pub others : (w : ℕ) → IsElsewhereOf base e.object e.source w → IsOutside (new_segment e) w → w ≢ ready_at e.object
      → slice_index words w ≡ slice_index base w

-- the live blocks are those after the extension, and the segment's pointer stands behind the ready ones
pub record HasSegment (base : List ℕ) (e : Extension) (words : List ℕ) : Type 0 where
  pub blocks_are : live_blocks words ≡ live_blocks (finished (extension_parts base e) base)
  pub named : slice_index words (pointer_after base e.object) ≡ pointer_word (new_segment e)

-- the live blocks and that pointer are those before the extension
pub record HasNoSegment (base : List ℕ) (e : Extension) (words : List ℕ) : Type 0 where
  pub blocks_are : live_blocks words ≡ live_blocks base
  pub named : slice_index words (pointer_after base e.object) ≡ slice_index base (pointer_after base e.object)

-- the ready segments before, and a segment behind them that the object owns or doesn't
pub record IsUnextended (base : List ℕ) (e : Extension) (words : List ℕ) : Type 0 where
  pub keeps : KeepsEntries base e words
  pub segments : ready_segments words e.object ≡ ready_segments base e.object
  pub segment : HasNoSegment base e words ⊎ HasSegment base e words

-- one ready segment more, whose words are 0
pub record IsExtended (base : List ℕ) (e : Extension) (words : List ℕ) : Type 0 where
  pub keeps : KeepsEntries base e words
  pub segments : ready_segments words e.object ≡ ready_segments base e.object ++ new_segment e ∷ []
  pub new_words : (w : ℕ) → new_segment e ≤ w → w < new_segment e + 256 → slice_index words w ≡ 0
  pub segment : HasSegment base e words
