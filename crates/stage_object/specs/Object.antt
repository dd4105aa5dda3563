-- A transaction object of a stage image: what stands in its words, and the parts that change it. Its begin is that of
-- any transaction object.
use Rattle.std.specs.Prelude.{ℕ, zero, suc, ◌+◌, ◌/◌, Bool, ◌==◌, if◌then◌else◌, List, [], ◌∷◌, ◌++◌, map, slice_index}
use Rattle.std.specs.List.{range_with_len}
use Rattle.image_layout.specs.Fixed.{state_at, commit_word_at, entry_at}
use Rattle.pm_model.specs.Plans.{Part, store, one_store, unless_empty}
use Rattle.txn_object.specs.declared.entry.Entry.{Entry}
use Rattle.txn_object.specs.Entries.{entry_word, entry_of}

-- the entries of an object from one of its places on, of so many places at most, up to the first word that is 0
abbrev pub entries_from : List ℕ → ℕ → ℕ → ℕ → List Entry
entries_from words object nth zero = []
entries_from words object nth (suc places) =
    if slice_index words (entry_at object nth) == 0 then []
    else entry_of (slice_index words (entry_at object nth)) ∷ entries_from words object (nth + 1) places

-- the entries of an object, in order, up to the first word that is 0
unfoldable pub entries_in : List ℕ → ℕ → List Entry
entries_in words object = entries_from words object 0 60

-- how many of the first entry words of an object are 0
abbrev pub free_among : List ℕ → ℕ → ℕ → ℕ
free_among words object zero = 0
free_among words object (suc places) = free_among words object places
    + (if slice_index words (entry_at object places) == 0 then 1 else 0)

-- how many entry words of an object are 0
unfoldable pub free_entries_in : List ℕ → ℕ → ℕ
free_entries_in words object = free_among words object 60

-- one more entry, at its place
abbrev pub entry_part : ℕ → ℕ → Entry → Part
entry_part object nth entry = one_store (entry_at object nth) (entry_word entry)

-- 0 over so many entries, in order
abbrev pub entry_clears : ℕ → ℕ → Part
entry_clears object entries = map (λ nth. store (entry_at object nth) 0) (range_with_len 0 entries)

-- the same, and then over the commit word where it is set
unfoldable pub clear_part : ℕ → ℕ → Bool → Part
clear_part object entries word = entry_clears object entries
    ++ (if word then one_store (commit_word_at object) 0 else [])

-- a retire: the object is idle, and then its entries and its commit word are cleared
abbrev pub retire_parts : ℕ → ℕ → Bool → List Part
retire_parts object entries word = one_store (state_at object) 0 ∷ unless_empty (clear_part object entries word)

-- How many actions a retire has. Its second part has a store for each word that it clears, one flush for each line of
-- the object up to that of the last entry, and a fence.
abbrev pub clear_length : ℕ → Bool → ℕ
clear_length entries word = entries + (if word then 1 else 0) + (entries + 3) / 8 + 2

abbrev pub retire_length : ℕ → Bool → ℕ
retire_length entries word = 3 + (if word then clear_length entries word
    else if entries == 0 then 0 else clear_length entries word)
