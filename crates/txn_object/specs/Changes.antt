-- The plans of a transaction object as changes: a begin, an entry, an extension and a retire.
use Rattle.std.specs.Prelude.{◌≡◌, ◌≢◌, ◌⊎◌, ℕ, ◌+◌, ◌*◌, ◌%◌, ◌^◌, ◌<◌, ◌≤◌, Bool, IsTrue, List, [], ◌∷◌, ◌++◌, Contains, length, slice_index}
use Rattle.pm_model.specs.Changes.{Change}
use Rattle.pm_model.specs.Plans.{Part, finished}
use Rattle.image_layout.specs.declared.layout.TheConstants.{CLOSED, FIXED_PAGES, OBJECTS, OPEN, PAGE_WORDS, SEGMENT_WORDS}
use Rattle.image_layout.specs.Fixed.{last_at, lane_op_at, state_at, commit_word_at}
use Rattle.image_layout.specs.Blocks.{live_blocks}
use Rattle.image_layout.specs.Checks.{Keeps}
use Rattle.image_layout.specs.EntryRules.{KeepsEntryRules, object_rule}
use Rattle.image_layout.specs.Owners.{OwnersAreApart}
use Rattle.image_layout.specs.Objects.{ready_count, segment_of, pointer_after, entry_places, entries}
use Rattle.heap_palloc.specs.Calls.{KeepsHeapRules, OwnsBlock}
use Rattle.heap_palloc.specs.Changes.{SameChoiceRead}
use Rattle.heap_palloc.specs.Index.{HeapIndex, IsIndexOf}
use Rattle.heap_palloc.specs.Lane.{mended_lane}
use Rattle.heap_palloc.specs.Shown.{GainsOne}
use Rattle.txn_object.specs.declared.entry.Entry.{Entry}
use Rattle.txn_object.specs.Calls.{MayPlanExtension}
use Rattle.txn_object.specs.Entries.{entry_word}
use Rattle.txn_object.specs.Extension.{Source, owned, allocated, Extension, new_segment, source_parts, extension_parts, segment_block, HasSegments, MayExtend}
use Rattle.txn_object.specs.Object.{entries_in, nth_place, begin_parts, entry_part, retire_parts, NoEntryFollowsZero}
use Rattle.txn_object.specs.Shown.{Transaction, Shows, HasObject, MayAddEntry, IsUnextended, IsExtended, IsRetiring, IsRetired}
use Rattle.txn_object.specs.Spared.{KeepsObject, SparesObject}

-- What the plans of an object read is the same: its words. No number was taken back.
pub record SameObjectRead (object : ℕ) (old new : List ℕ) : Type 0 where
  pub keeps : KeepsObject old object new
  pub last : slice_index old last_at ≤ slice_index new last_at

-- the ready segments go on to be blocks of the heap, and the next extension may be planned as before
pub record GoesOn (object : ℕ) (base words : List ℕ) : Type 0 where
  pub segments : HasSegments base object → HasSegments words object
  pub extends : (index : HeapIndex) → MayPlanExtension base index object → MayPlanExtension words index object

-- there is such an object, in an image that keeps the rules which every image keeps, and whose owner words are apart
pub record IsObjectOf (words : List ℕ) (object : ℕ) : Type 0 where
  pub number : object < OBJECTS
  pub rules : KeepsEntryRules words
  pub owners : OwnersAreApart words

-- the image shows the transaction as it was, or as it is then
abbrev pub IsOneOf : ℕ → Transaction → Transaction → List ℕ → Type 0
IsOneOf object before after image = Shows image object before ⊎ Shows image object after

-- there is such an object, in an image of whole segments
pub record IsObjectPlace (words : List ℕ) (object : ℕ) : Type 0 where
  pub number : object < OBJECTS
  pub size : FIXED_PAGES * PAGE_WORDS ≤ length words
  pub whole : length words % SEGMENT_WORDS ≡ 0

-- ── a begin ──

-- the transaction, once it is begun
abbrev pub begun : Transaction → Transaction
begun transaction = record transaction { state = OPEN }

-- The object is open, and each other word is that of the base. So its entries stay, its rule goes on to hold, and an
-- entry that might be entered may be so still.
pub record IsBegun (object : ℕ) (base words : List ℕ) : Type 0 where
  pub size : length words ≡ length base
  pub state : slice_index words (state_at object) ≡ OPEN
  pub others : (w : ℕ) → w ≢ state_at object → slice_index words w ≡ slice_index base w
  pub shows : (t : Transaction) → Shows base object t → Shows words object (begun t)
  pub is_object : HasObject words object
  pub next : (nth : ℕ) (entry : Entry) → MayAddEntry base object nth entry → MayAddEntry words object nth entry
  pub goes_on : GoesOn object base words

abbrev pub beginning : ℕ → Change
beginning object = record {
  asks = λ base. HasObject base object;
  parts = λ base. begin_parts object;
  shows = λ base image. (image ≡ base) ⊎ IsBegun object base image;
  ends = IsBegun object;
  reads = SameObjectRead object;
}

-- the object may be opened where it shows this transaction, before parts that leave its words
pub record IsBeginBefore (base : List ℕ) (object : ℕ) (t : Transaction) (parts : List Part) : Type 0 where
  pub is_object : HasObject base object
  pub shows : Shows base object t
  pub spares : SparesObject base object parts

-- ── an entry ──

-- the entry's table and row are numbers that its word has room for
pub record IsSpelt (entry : Entry) : Type 0 where
  pub table : entry.table < 2 ^ 24
  pub row : entry.row < 2 ^ 32

-- the transaction, with one entry more
abbrev pub with_entry : Transaction → Entry → Transaction
with_entry transaction entry = record transaction { entries = transaction.entries ++ entry ∷ [] }

-- an entry that is to be the one at this place of the transaction in an object
pub record NewEntry : Type 0 where
  pub object : ℕ
  pub nth : ℕ
  pub entry : Entry

abbrev pub entry_parts : List ℕ → NewEntry → List Part
entry_parts words n = entry_part words n.object n.nth n.entry ∷ []

-- The entry stands at its place, and each other word is that of the base. So the transaction has it behind the others,
-- its rule goes on to hold, no entry follows a word that is 0, and the next one may be entered.
pub record IsEntered (n : NewEntry) (base words : List ℕ) : Type 0 where
  pub size : length words ≡ length base
  pub word : slice_index words (nth_place base n.object n.nth) ≡ entry_word n.entry
  pub others : (w : ℕ) → w ≢ nth_place base n.object n.nth → slice_index words w ≡ slice_index base w
  pub places : entry_places words n.object ≡ entry_places base n.object
  pub shows : (t : Transaction) → Shows base n.object t → Shows words n.object (with_entry t n.entry)
  pub is_object : HasObject words n.object
  pub packed : NoEntryFollowsZero words n.object
  pub next : (other : Entry) → n.nth + 1 < length (entry_places base n.object) → IsSpelt other
      → MayAddEntry words n.object (n.nth + 1) other
  pub goes_on : GoesOn n.object base words

abbrev pub entering : NewEntry → Change
entering n = record {
  asks = λ base. MayAddEntry base n.object n.nth n.entry;
  parts = λ base. entry_parts base n;
  shows = λ base image. (image ≡ base) ⊎ IsEntered n base image;
  ends = IsEntered n;
  reads = SameObjectRead n.object;
}

-- the entry may be entered into this transaction, before parts that leave the object's words
pub record IsEntryBefore (base : List ℕ) (n : NewEntry) (t : Transaction) (parts : List Part) : Type 0 where
  pub may : MayAddEntry base n.object n.nth n.entry
  pub shows : Shows base n.object t
  pub spares : SparesObject base n.object parts

-- ── an extension ──

-- the words after it
abbrev pub extended_words : List ℕ → Extension → List ℕ
extended_words base e = finished (extension_parts base e) base

-- the words once the object owns the new segment
abbrev pub source_words : List ℕ → Extension → List ℕ
source_words base e = finished (source_parts base e.source) base

-- the object doesn't own a segment behind its ready ones
abbrev pub HasNoNext : List ℕ → ℕ → Type 0
HasNoNext words object = slice_index words (pointer_after words object) ≡ 0

-- what a cut of an extension shows once its lane is mended
abbrev pub ShowsExtension : Extension → List ℕ → List ℕ → Type 0
ShowsExtension e base image =
    IsUnextended base e (mended_lane e.object image) ⊎ IsExtended base e (mended_lane e.object image)

-- What the words after an extension show: one ready segment more, whose words are 0. It allocates the segment, unless
-- the object owned it, and the pointer behind the ready ones owns it as a block. Mending the lane leaves them, and the
-- ready segments are blocks of the heap which share no word. The next entry may be entered, and the next extension
-- planned.
pub record EndsExtension (e : Extension) (base words : List ℕ) : Type 0 where
  pub extended : IsExtended base e words
  pub allocates : HasNoNext base e.object
      → GainsOne (live_blocks base) (segment_block (new_segment e)) (live_blocks words)
  pub owned : ¬ HasNoNext base e.object → live_blocks words ≡ live_blocks base
  pub owns : OwnsBlock words (pointer_after base e.object) (segment_block (new_segment e))
  pub mended : mended_lane e.object words ≡ words
  pub segments : HasSegments words e.object
  pub next : HasObject base e.object → NoEntryFollowsZero base e.object → (entry : Entry) → IsSpelt entry
      → MayAddEntry words e.object (length (entries base e.object)) entry
  pub again : (index : HeapIndex) → IsIndexOf words index → MayPlanExtension words index e.object

-- what the source of a segment reads is the same: that it is a block of the heap, or what its allocation reads
abbrev pub SameSourceRead : Source → List ℕ → List ℕ → Type 0
SameSourceRead (owned segment) old new = Contains (live_blocks new) (segment_block segment)
SameSourceRead (allocated choice) old new = SameChoiceRead choice old new

-- What an extension reads is the same: the object's words and the lane's op. The rules of the heap and of the object go
-- on to hold, and the ready segments to be blocks of the heap.
pub record SameExtensionRead (e : Extension) (old new : List ℕ) : Type 0 where
  pub object : KeepsObject old e.object new
  pub op : slice_index new (lane_op_at e.object) ≡ slice_index old (lane_op_at e.object)
  pub rules : KeepsHeapRules new
  pub rule : Keeps new (object_rule e.object)
  pub live : (segment : ℕ) → segment < ready_count old e.object
      → Contains (live_blocks new) (segment_block (segment_of old e.object segment))
  pub source : SameSourceRead e.source old new

abbrev pub extending : Extension → Change
extending e = record {
  asks = λ base. MayExtend base e;
  parts = λ base. extension_parts base e;
  shows = ShowsExtension e;
  ends = EndsExtension e;
  reads = SameExtensionRead e;
}

-- ── a retire ──

-- a retire that clears so many entries, and the commit word where it is set
pub record Retirement : Type 0 where
  pub object : ℕ
  pub entries : ℕ
  pub word : Bool

-- the object has so many entry words
pub record MayBeRetired (words : List ℕ) (r : Retirement) : Type 0 where
  pub is_object : HasObject words r.object
  pub most : r.entries ≤ length (entry_places words r.object)

-- the words are the old ones or the object is idle, whatever its entries are; its rule holds
pub record ShowsRetire (r : Retirement) (base image : List ℕ) : Type 0 where
  pub words : (image ≡ base) ⊎ IsRetiring base r.object r.entries r.word image
  pub is_object : HasObject image r.object
  pub goes_on : GoesOn r.object base image

-- the object is idle, and the words to clear are 0
abbrev pub IsRetiredBy : Retirement → List ℕ → List ℕ → Type 0
IsRetiredBy r old words = IsRetired old r.object r.entries r.word words

-- no fewer entries are cleared than the transaction has
pub record ClearsAll (old : List ℕ) (r : Retirement) : Type 0 where
  pub may : MayBeRetired old r
  pub all : length (entries_in old r.object) ≤ r.entries
  pub packed : NoEntryFollowsZero old r.object

-- the commit word is cleared, or was 0
abbrev pub ClearsCommit : List ℕ → Retirement → Type 0
ClearsCommit old r = IsTrue r.word ⊎ (slice_index old (commit_word_at r.object) ≡ 0)

-- a transaction that is over
abbrev pub no_transaction : Transaction
no_transaction = record { state = CLOSED; commit_word = 0; entries = [] }

abbrev pub retiring : Retirement → Change
retiring r = record {
  asks = λ base. MayBeRetired base r;
  parts = λ base. retire_parts base r.object r.entries r.word;
  shows = ShowsRetire r;
  ends = IsRetiredBy r;
  reads = SameObjectRead r.object;
}
