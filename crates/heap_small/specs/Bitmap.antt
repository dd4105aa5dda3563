-- The bitmap of a small page: slot `s` is set exactly where bit `s` of the word is 1.
use Rattle.std.specs.Prelude.{◌≡◌, ◌≢◌, ℕ, ◌^◌, ◌<◌, bit_or, bit_xor}
use Rattle.std.specs.Int.{bit_at}

abbrev pub IsSet : ℕ → ℕ → Type 0
IsSet bitmap slot = bit_at bitmap slot ≡ 1

abbrev pub IsClear : ℕ → ℕ → Type 0
IsClear bitmap slot = bit_at bitmap slot ≡ 0

-- each slot below `count` is set
abbrev pub AreSetBelow : ℕ → ℕ → Type 0
AreSetBelow count bitmap = (slot : ℕ) → slot < count → IsSet bitmap slot

-- the slot is clear, and each slot below it is set
pub record IsFirstClear (bitmap slot : ℕ) : Type 0 where
  pub clear : IsClear bitmap slot
  pub below : AreSetBelow slot bitmap

-- every slot but this one is as it was
abbrev pub SameBut : ℕ → ℕ → ℕ → Type 0
SameBut slot old new = (other : ℕ) → other ≢ slot → bit_at new other ≡ bit_at old other

-- the bitmap with the slot set
abbrev pub with_bit : ℕ → ℕ → ℕ
with_bit bitmap slot = bit_or bitmap (2 ^ slot)

-- the bitmap with the slot clear: set first, and then turned
abbrev pub without_bit : ℕ → ℕ → ℕ
without_bit bitmap slot = bit_xor (with_bit bitmap slot) (2 ^ slot)
