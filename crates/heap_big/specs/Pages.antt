-- Sets of pages, seen as lists in ascending place.
use Rattle.std.specs.Prelude.{◌≡◌, ◌↔◌, ℕ, ◌+◌, ◌*◌, ◌/◌, ◌%◌, ◌<◌, ◌≤◌, Bool, ◌==◌, List, [], ◌∷◌, ◌++◌, length, filter, slice_index}
use Rattle.std.specs.List.{range_with_len}
use Rattle.std.specs.Int.{bit_at}
use Rattle.heap_big.specs.declared.page_set.PageSet.TheInside.{Inside}

-- One element more, anywhere in the list.
pub record GainsOne {A : Type 0} (old : List A) (one : A) (new : List A) : Type 0 where
  pub front : List A
  pub back : List A
  pub old_is : old ≡ front ++ back
  pub new_is : new ≡ front ++ one ∷ back

-- they rise, from `low` on and below `high`
abbrev pub IsRising : ℕ → List ℕ → ℕ → Type 0
IsRising low [] high = low ≤ high
IsRising low (number ∷ numbers) high = (low ≤ number) × IsRising (number + 1) numbers high

-- the bit of the page is 1, of 64 pages a word
abbrev pub has_page : List ℕ → ℕ → Bool
has_page words page = bit_at (slice_index words (page / 64)) (page % 64) == 1

-- the pages whose bit is 1, in ascending place
unfoldable pub pages_of : List ℕ → List ℕ
pages_of words = filter (has_page words) (range_with_len 0 (64 * length words))

abbrev pub pages_in : Inside → List ℕ
pages_in set = pages_of set.words

-- the bit of a word is 0 exactly where the word is
abbrev pub IsPageSet : Inside → Type 0
IsPageSet set = (word : ℕ) → word < 128 → (bit_at set.used word ≡ 0) ↔ (slice_index set.words word ≡ 0)
