-- A transaction object and its segments: what stands in its words, and the parts that change them.
use Rattle.std.specs.Prelude.{◌≡◌, ℕ, ◌+◌, ◌-◌, ◌<◌, Bool, ◌==◌, if◌then◌else◌, List, [], ◌∷◌, ◌++◌, length, take, map, count_by, slice_index}
use Rattle.image_layout.specs.Fixed.{state_at, commit_word_at}
use Rattle.pm_model.specs.Plans.{Part, stores, one_store, unless_empty}
use Rattle.image_layout.specs.Objects.{entries, entry_places}
use Rattle.txn_object.specs.declared.entry.Entry.{Entry}
use Rattle.txn_object.specs.Entries.{entry_word, entry_of}

-- the object of a session, of which the first is session 1
abbrev pub own_object : ℕ → ℕ
own_object session = session - 1

-- the entries of an object, in order
abbrev pub entries_in : List ℕ → ℕ → List Entry
entries_in words object = map entry_of (entries words object)

-- how many of its entry words are 0
abbrev pub free_entries_in : List ℕ → ℕ → ℕ
free_entries_in words object = count_by (λ at. slice_index words at == 0) (entry_places words object)

-- the place of one of its entries, and its word
abbrev pub nth_place : List ℕ → ℕ → ℕ → ℕ
nth_place words object nth = slice_index (entry_places words object) nth

abbrev pub nth_word : List ℕ → ℕ → ℕ → ℕ
nth_word words object nth = slice_index words (nth_place words object nth)

-- no entry of the object follows a word that is 0
abbrev pub NoEntryFollowsZero : List ℕ → ℕ → Type 0
NoEntryFollowsZero words object =
    (nth : ℕ) → nth + 1 < length (entry_places words object) → nth_word words object nth ≡ 0
    → nth_word words object (nth + 1) ≡ 0

-- a begin: the object is open
abbrev pub begin_parts : ℕ → List Part
begin_parts object = one_store (state_at object) 1 ∷ []

-- one more entry, at its place
abbrev pub entry_part : List ℕ → ℕ → ℕ → Entry → Part
entry_part words object nth entry = one_store (nth_place words object nth) (entry_word entry)

-- 0 over so many entries, in order, and then over the commit word where it is set
unfoldable pub clear_part : List ℕ → ℕ → ℕ → Bool → Part
clear_part words object entries word =
    stores 0 (take entries (entry_places words object)) ++ (if word then one_store (commit_word_at object) 0 else [])

-- a retire: the object is idle, and then its entries and its commit word are cleared
abbrev pub retire_parts : List ℕ → ℕ → ℕ → Bool → List Part
retire_parts words object entries word =
    one_store (state_at object) 0 ∷ unless_empty (clear_part words object entries word)
