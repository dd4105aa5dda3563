-- The words of arrays by the places where they stand.
use Rattle.std.specs.Prelude.{ℕ, Bool, ◌&&◌, ◌==◌, nat_lt, if◌then◌else◌, Option, None, Some, List}
use Rattle.image_layout.specs.Records.{codes_header, dictionary_header}
use Rattle.image_layout.specs.Arrays.{array_rule, capacity, place_of}
use Rattle.image_layout.specs.Trees.{dictionary_word}
use Rattle.image_layout.specs.Checks.{Keeps}

-- where a word of an array stands, if it is published
abbrev pub word_place : List ℕ → ℕ → ℕ → Option ℕ
word_place words header index =
    (if nat_lt index (capacity words header) then Some (place_of words header index) else None)

-- A column's two arrays keep the rule of arrays.
pub record HasArrays (words : List ℕ) (column : ℕ) : Type 0 where
  pub codes : Keeps words (array_rule (codes_header column))
  pub dictionary : Keeps words (array_rule (dictionary_header column))

-- a key word stands in the published dictionary slot of a code
abbrev pub is_word_at : List ℕ → ℕ → ℕ → ℕ → Bool
is_word_at words column code key =
    nat_lt code (capacity words (dictionary_header column)) && (dictionary_word words column code == key)
