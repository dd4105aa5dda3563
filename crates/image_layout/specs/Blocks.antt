-- The heap of an image: what its descriptors and bitmaps say is free, and what is allocated.
-- Pages are counted over the whole image, 64 in a segment. All is said page by page, so that a change of one page's
-- words leaves what is said of the other pages as it is.
use Rattle.std.specs.Prelude.{ℕ, zero, suc, ◌+◌, ◌-◌, ◌*◌, ◌/◌, ◌%◌, ◌^◌, max, Bool, not, ◌&&◌, ◌||◌, ◌==◌, nat_lt, nat_le, if◌then◌else◌, List, [], ◌∷◌, map, filter, count_by, fold, slice_index}
use Rattle.std.specs.List.{list_any, flat_map}
use Rattle.std.specs.Int.{bit_at}
use Rattle.image_layout.specs.Fixed.{descriptor_at}
use Rattle.image_layout.specs.Places.{below, page_of, page_at, page_count, place_in, is_pointer}

-- a block: its first word's place, and how many words it has
pub record Block : Type 0 where
  pub first : ℕ
  pub words : ℕ

-- Classes of small blocks, 0 to 5: the words of a slot, 8, 16, 32, 64, 128 or 256, and how many slots a page has behind
-- its first line, 63, 31, 15, 7, 3 or 1.
abbrev pub slot_words : ℕ → ℕ
slot_words class = 8 * 2 ^ class

abbrev pub slots_of : ℕ → ℕ
slots_of class = (512 - 8) / slot_words class

-- the least class that holds so many words, up to 256: as many classes are too small for them
abbrev pub class_for : ℕ → ℕ
class_for count = count_by (λ class. nat_lt (slot_words class) count) (below 6)

-- the least number of pages that holds so many words
abbrev pub pages_for : ℕ → ℕ
pages_for count = (count + 511) / 512

-- the words of the block that so many words are given
abbrev pub block_words : ℕ → ℕ
block_words count = if nat_le count 256 then slot_words (class_for count) else 512 * pages_for count

abbrev pub descriptor_of : List ℕ → ℕ → ℕ
descriptor_of words page = slice_index words (descriptor_at page)

-- a small page has the descriptor 2 + class, the head of a big block 16 + its pages
abbrev pub says_small : ℕ → Bool
says_small descriptor = nat_le 2 descriptor && nat_le descriptor 7

abbrev pub says_big : ℕ → Bool
says_big descriptor = nat_le 17 descriptor && nat_le descriptor 79

-- how many pages of a big block are left behind a page
abbrev pub inside_after : ℕ → ℕ → ℕ
inside_after zero descriptor = descriptor - 17
inside_after (suc inside) descriptor = inside

-- how many pages are left, from this page of the segment on, of a big block that began before it
abbrev pub inside_at : List ℕ → ℕ → ℕ → ℕ
inside_at words segment zero = 0
inside_at words segment (suc page) =
    inside_after (inside_at words segment page) (slice_index words (segment * 32768 + page))

-- the page stands inside a big block, behind its head: its descriptor isn't read
unfoldable pub is_inside : List ℕ → ℕ → Bool
is_inside words page = nat_lt 0 (inside_at words (page / 64) (page % 64))

abbrev pub is_free_page : List ℕ → ℕ → Bool
is_free_page words page = not (is_inside words page) && nat_le (descriptor_of words page) 1

-- a free page that was given back
abbrev pub is_given_back : List ℕ → ℕ → Bool
is_given_back words page = not (is_inside words page) && (descriptor_of words page == 1)

abbrev pub is_small_page : List ℕ → ℕ → Bool
is_small_page words page = not (is_inside words page) && says_small (descriptor_of words page)

abbrev pub is_big_head : List ℕ → ℕ → Bool
is_big_head words page = not (is_inside words page) && says_big (descriptor_of words page)

-- the first page of each segment, and the first four of the image
abbrev pub is_reserved : ℕ → Bool
is_reserved page = (page % 64 == 0) || nat_lt page 4

-- the class of a small page, and its bitmap, which is its first word
abbrev pub class_of : List ℕ → ℕ → ℕ
class_of words page = descriptor_of words page - 2

abbrev pub bitmap_of : List ℕ → ℕ → ℕ
bitmap_of words page = slice_index words (page_at page)

-- the place of a slot of a page of this class
abbrev pub slot_at : ℕ → ℕ → ℕ → ℕ
slot_at page class slot = page_at page + 8 + slot * slot_words class

-- the slot of a small page in which a place stands
abbrev pub slot_in : ℕ → ℕ → ℕ
slot_in class place = (place % 512 - 8) / slot_words class

-- the block of a slot, and the big block that begins at a page
abbrev pub small_block : List ℕ → ℕ → ℕ → Block
small_block words page slot =
    record { first = slot_at page (class_of words page) slot; words = slot_words (class_of words page) }

abbrev pub big_block : List ℕ → ℕ → Block
big_block words page = record { first = page_at page; words = 512 * (descriptor_of words page - 16) }

-- the slots of a small page whose bit is set
abbrev pub used_slots : List ℕ → ℕ → List ℕ
used_slots words page =
    filter (λ slot. bit_at (bitmap_of words page) slot == 1) (below (slots_of (class_of words page)))

-- the live blocks that begin in a page, by whether it is a small page, and whether it is a big block's head
abbrev pub blocks_if : Bool → Bool → List ℕ → ℕ → List Block
blocks_if small big words page =
    (if small then map (small_block words page) (used_slots words page)
    else if big then big_block words page ∷ [] else [])

unfoldable pub blocks_of_page : List ℕ → ℕ → List Block
blocks_of_page words page = blocks_if (is_small_page words page) (is_big_head words page) words page

-- what is allocated, in ascending place
abbrev pub live_blocks : List ℕ → List Block
live_blocks words = flat_map (blocks_of_page words) (below (page_count words))

-- whether a live block of so many words begins at the place
abbrev pub is_live : List ℕ → ℕ → ℕ → Bool
is_live words place count = list_any (λ block. (block.first == place) && (block.words == count)) (live_blocks words)

-- how many neighbouring pages up to a page of a segment are free
abbrev pub free_up_to : List ℕ → ℕ → ℕ → ℕ
free_up_to words segment zero = 0
free_up_to words segment (suc page) =
    (if is_free_page words (segment * 64 + page) then free_up_to words segment page + 1 else 0)

-- the greatest number of neighbouring free pages of one segment
abbrev pub longest_free_run : List ℕ → ℕ
longest_free_run words =
    fold max 0 (map (λ page. free_up_to words (page / 64) (page % 64 + 1)) (below (page_count words)))

-- whether a place is that of a slot of a small page
abbrev pub is_slot : List ℕ → ℕ → Bool
is_slot words place =
    is_small_page words (page_of place)
    && nat_lt (slot_in (class_of words (page_of place)) place) (slots_of (class_of words (page_of place)))
    && (slot_at (page_of place) (class_of words (page_of place)) (slot_in (class_of words (page_of place)) place)
    == place)

-- A pointer that can be a block's: to a slot of a small page, or to the first word of a page that isn't reserved.
-- A place that 512 divides is that of a big block.
abbrev pub is_block_pointer : List ℕ → ℕ → Bool
is_block_pointer words word =
    is_pointer words word && not (is_reserved (page_of (place_in word)))
    && ((place_in word % 512 == 0) || is_slot words (place_in word))
