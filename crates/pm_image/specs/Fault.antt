-- The first fault of bytes that are read as an image, from left to right.
use Rattle.std.specs.Prelude.{◌≡◌, ◌≤◌, ◌==◌, ◌&&◌, ◌+◌, ◌*◌, ℕ, zero, suc, Bool, true, not, nat_eq, nat_lt, nat_le, List, [], ◌∷◌, length, drop, Option, Some, None, Result, Ok, Err, if◌then◌else◌}
use Rattle.std.specs.List.{starts_with}
use Rattle.std.specs.Global.{Vec}
use Rattle.byteorder.specs.Endian.{little_number}
use Rattle.pm_image.specs.declared.error.ImageError.{ImageError}
use Rattle.pm_image.specs.declared.error.ImageError.TheVariants.{BadMagic, BadVersion, BadSize, BadPage, Truncated, Trailing, NoMemory}
use Rattle.pm_image.specs.Spelling.{is_blank, magic}

-- the number in the four bytes from a place on
unfoldable pub number_at : ℕ → List ℕ → ℕ
number_at place bytes = little_number 4 (drop place bytes)

-- the words that the first bytes spell
unfoldable pub words_in : ℕ → List ℕ → List ℕ
words_in zero bytes = []
words_in (suc count) bytes = little_number 8 bytes ∷ words_in count (drop 8 bytes)

-- whether the item at the front has a page number from `low` to below `limit`, and words that aren't all 0
unfoldable pub is_page : ℕ → ℕ → List ℕ → Bool
is_page low limit bytes =
    nat_le low (number_at 0 bytes) && nat_lt (number_at 0 bytes) limit && not (is_blank (words_in 512 (drop 4 bytes)))

-- The first fault of bytes that are to be `count` items and nothing more. The first is the item `at` of the
-- file, and its page number is to be `low` or above. Page numbers rise, and all are below `limit`.
unfoldable pub items_fault : ℕ → ℕ → ℕ → ℕ → List ℕ → Option ImageError
items_fault zero at low limit bytes = if length bytes == 0 then None else Some (Trailing (20 + 4100 * at))
items_fault (suc count) at low limit bytes =
    if nat_lt (length bytes) 4100 then Some Truncated
    else if is_page low limit bytes then items_fault count (at + 1) (number_at 0 bytes + 1) limit (drop 4100 bytes)
    else Some (BadPage at)

-- The first fault of the file, field by field. A field that isn't whole is truncated before it is judged.
unfoldable pub first_fault : List ℕ → Option ImageError
first_fault bytes =
    if nat_lt (length bytes) 8 then Some Truncated
    else if not (starts_with nat_eq bytes magic) then Some BadMagic
    else if nat_lt (length bytes) 12 then Some Truncated
    else if not (number_at 8 bytes == 1) then Some BadVersion
    else if nat_lt (length bytes) 16 then Some Truncated
    else if not (nat_le 1 (number_at 12 bytes) && nat_le (number_at 12 bytes) 128) then Some BadSize
    else if nat_lt (length bytes) 20 then Some Truncated
    else if nat_lt (64 * number_at 12 bytes) (number_at 16 bytes) then Some BadSize
    else items_fault (number_at 16 bytes) 0 0 (64 * number_at 12 bytes) (drop 20 bytes)

-- the header is whole and has no fault: what is left to judge are the items
pub record HasHeader (bytes : List ℕ) : Type 0 where
  pub whole : 20 ≤ length bytes
  pub begins : starts_with nat_eq bytes magic ≡ true
  pub version : number_at 8 bytes ≡ 1
  pub some_segments : 1 ≤ number_at 12 bytes
  pub most_segments : number_at 12 bytes ≤ 128
  pub pages : number_at 16 bytes ≤ 64 * number_at 12 bytes

-- The result is a value where there is no fault, and else the fault, unless memory ran out.
abbrev pub Answers : {A : Type 0} → Result A ImageError → Option ImageError → Type 0
Answers (Ok value) fault = fault ≡ None
Answers (Err NoMemory) fault = Unit {0}
Answers (Err error) fault = fault ≡ Some error

-- The result is these words, unless memory ran out.
abbrev pub Reads : Result (Vec ℕ) ImageError → List ℕ → Type 0
Reads (Ok found) words = found.items ≡ words
Reads (Err NoMemory) words = Unit {0}
Reads (Err error) words = ⊥
