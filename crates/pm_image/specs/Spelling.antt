-- How the words of an image are spelled as the bytes of a file.
use Rattle.std.specs.Prelude.{◌≡◌, ◌==◌, ◌<◌, ◌≤◌, ◌+◌, ◌*◌, ◌/◌, ◌%◌, ◌^◌, ℕ, zero, suc, Bool, List, [], ◌∷◌, ◌++◌, length, take, drop, All, codes, if◌then◌else◌}
use Rattle.std.specs.List.{flat_map, list_all}
use Rattle.byteorder.specs.Endian.{little_bytes}

-- as many words as 1 to 128 whole segments have
pub record IsWhole (words : List ℕ) : Type 0 where
  pub segments : length words % 32768 ≡ 0
  pub some : 0 < length words
  pub limit : length words ≤ 128 * 32768

-- the words of an image: whole segments of words of 64 bits
pub record IsImage (words : List ℕ) : Type 0 where
  pub whole : IsWhole words
  pub each : All (λ word. word < 2 ^ 64) words

-- whether the words are all 0
abbrev pub is_blank : List ℕ → Bool
is_blank words = list_all (λ word. word == 0) words

-- a page with its number
pub record Page : Type 0 where
  pub number : ℕ
  pub words : List ℕ

-- those of the first `count` pages that aren't blank; a page is 512 words, and the first is page `number`
unfoldable pub stored : ℕ → ℕ → List ℕ → List Page
stored zero number words = []
stored (suc count) number words =
    if is_blank (take 512 words) then stored count (number + 1) (drop 512 words)
    else record { number = number; words = take 512 words } ∷ stored count (number + 1) (drop 512 words)

-- the pages of an image that are stored: all but the blank ones, in ascending place
abbrev pub stored_pages : List ℕ → List Page
stored_pages words = stored (length words / 512) 0 words

-- a number in four bytes, the lowest first
unfoldable pub number_spelling : ℕ → List ℕ
number_spelling number = little_bytes 4 number

-- a word in eight bytes, the lowest first
unfoldable pub word_spelling : ℕ → List ℕ
word_spelling word = little_bytes 8 word

-- words one after the other
abbrev pub words_spelling : List ℕ → List ℕ
words_spelling words = flat_map word_spelling words

-- the number of a page, and its words
unfoldable pub page_spelling : Page → List ℕ
page_spelling page = number_spelling page.number ++ words_spelling page.words

-- stored pages one after the other
abbrev pub pages_spelling : List Page → List ℕ
pages_spelling pages = flat_map page_spelling pages

-- the bytes that each image file begins with
unfoldable pub magic : List ℕ
magic = codes "SOFORTPM"

-- the magic, version 1, and the numbers of segments and of stored pages
unfoldable pub header_spelling : ℕ → ℕ → List ℕ
header_spelling segments pages = magic ++ number_spelling 1 ++ number_spelling segments ++ number_spelling pages

-- the one spelling of an image
unfoldable pub spelling : List ℕ → List ℕ
spelling words =
    header_spelling (length words / 32768) (length (stored_pages words)) ++ pages_spelling (stored_pages words)
