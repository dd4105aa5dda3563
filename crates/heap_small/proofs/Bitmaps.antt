-- One slot of a bitmap set or clear.
use Rattle.std.proofs.Common.{◌≡◌, ⊎_elim, ℕ, ◌^◌, sym, ◌∙◌, ap, arith}
use Rattle.std.specs.Int.{bit_at}
use Rattle.std.proofs.lemmas.Bool.{cases_eq}
use Rattle.std.proofs.lemmas.Nat.Bits.{bit_at_or, bit_at_xor, bit_at-pow_same, bit_at-pow_other, bit_at-lt, same_from_bits}
use Rattle.heap_small.specs.Bitmap.{IsSet, IsClear, SameBut, with_bit, without_bit}

pub with_bit-same : (bitmap slot : ℕ) → IsSet (with_bit bitmap slot) slot
with_bit-same bitmap slot = let one = bit_at-pow_same slot in let small = bit_at-lt bitmap slot in bit_at_or bitmap (2 ^ slot) slot ∙ omega (arith, one, small)

pub with_bit-other : (bitmap slot : ℕ) → SameBut slot bitmap (with_bit bitmap slot)
with_bit-other bitmap slot other apart = let none = bit_at-pow_other slot other apart in bit_at_or bitmap (2 ^ slot) other ∙ omega (arith, none)

pub without_bit-same : (bitmap slot : ℕ) → IsClear (without_bit bitmap slot) slot
without_bit-same bitmap slot =
    let one = bit_at-pow_same slot in let set = with_bit-same bitmap slot in bit_at_xor (with_bit bitmap slot) (2 ^ slot) slot ∙ omega (arith, one, set)

pub without_bit-other : (bitmap slot : ℕ) → SameBut slot bitmap (without_bit bitmap slot)
without_bit-other bitmap slot other apart =
    let none = bit_at-pow_other slot other apart in
    let kept = with_bit-other bitmap slot other apart in
    let small = bit_at-lt bitmap other in
    bit_at_xor (with_bit bitmap slot) (2 ^ slot) other ∙ omega (arith, none, kept, small)

-- two bitmaps that differ in no slot are one
same_slots : (slot one other : ℕ) → bit_at one slot ≡ bit_at other slot → SameBut slot other one → one ≡ other
same_slots slot one other here elsewhere = same_from_bits one other (λ i. ⊎_elim
    (λ (is : i ≡ slot). ap (bit_at one) is ∙ here ∙ ap (bit_at other) (sym is))
    (λ apart. elsewhere i apart) (cases_eq i slot))

-- a bitmap is settled by the slot and by the others being as they were
pub with_bit-is : (bitmap slot new : ℕ) → IsSet new slot → SameBut slot bitmap new → new ≡ with_bit bitmap slot
with_bit-is bitmap slot new set others =
    same_slots slot new (with_bit bitmap slot) (set ∙ sym (with_bit-same bitmap slot)) (λ other apart. others other apart ∙ sym (with_bit-other bitmap slot other apart))

pub without_bit-is : (bitmap slot new : ℕ) → IsClear new slot → SameBut slot bitmap new → new ≡ without_bit bitmap slot
without_bit-is bitmap slot new clear others =
    same_slots slot new (without_bit bitmap slot) (clear ∙ sym (without_bit-same bitmap slot)) (λ other apart. others other apart ∙ sym (without_bit-other bitmap slot other apart))

-- what was clear is so again after it was set, and what was set after it was cleared
pub without_bit-with : (bitmap slot : ℕ) → IsClear bitmap slot → without_bit (with_bit bitmap slot) slot ≡ bitmap
without_bit-with bitmap slot clear =
    same_slots slot (without_bit (with_bit bitmap slot) slot) bitmap (without_bit-same (with_bit bitmap slot) slot ∙ sym clear)
    (λ other apart. without_bit-other (with_bit bitmap slot) slot other apart ∙ with_bit-other bitmap slot other apart)

pub with_bit-without : (bitmap slot : ℕ) → IsSet bitmap slot → with_bit (without_bit bitmap slot) slot ≡ bitmap
with_bit-without bitmap slot set =
    same_slots slot (with_bit (without_bit bitmap slot) slot) bitmap (with_bit-same (without_bit bitmap slot) slot ∙ sym set)
    (λ other apart. with_bit-other (without_bit bitmap slot) slot other apart ∙ without_bit-other bitmap slot other apart)
