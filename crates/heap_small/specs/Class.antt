-- Classes by their numbers, 0 to 5.
use Rattle.std.specs.Prelude.{ℕ, ◌-◌, ◌*◌, ◌/◌, ◌^◌, ◌<◌, ◌≤◌}

-- the words of a slot: 8, 16, 32, 64, 128 or 256
abbrev pub slot_words : ℕ → ℕ
slot_words class = 8 * 2 ^ class

-- how many slots fit in a page of 512 words behind its first line of 8: 63, 31, 15, 7, 3 or 1
abbrev pub slots_of : ℕ → ℕ
slots_of class = (512 - 8) / slot_words class

-- a slot of the class holds so many words, and one of a lower class doesn't
pub record IsLeastFor (words class : ℕ) : Type 0 where
  pub holds : words ≤ slot_words class
  pub least : (lower : ℕ) → lower < class → slot_words lower < words
