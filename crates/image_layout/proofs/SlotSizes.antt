-- The class of the slot that so many words are given.
use Rattle.std.proofs.Common.{◌≡◌, ⊎_elim, ℕ, ◌<◌, ◌≤◌, ltb, sym, arith}
use Rattle.std.proofs.Math.Pow.{pow_mono}
use Rattle.std.proofs.lemmas.Bool.{cases_lt, lt-ltb, le-ltb}
use Rattle.image_layout.specs.Blocks.{slot_words, class_for}
use Rattle.image_layout.proofs.ChunkSizes.{count_threshold}

slot_words-mono : (c k : ℕ) → c ≤ k → slot_words c ≤ slot_words k
slot_words-mono c k le = let more = pow_mono {i = c} {j = k} le in omega (arith, more)

-- one that holds them, and no lower one does
pub least_is : (words class : ℕ) → class < 6 → words ≤ slot_words class → ((lower : ℕ) → lower < class → slot_words lower < words) → class ≡ class_for words
least_is words class lt holds least =
    sym (count_threshold (λ c. ltb (slot_words c) words) class 6 (omega (arith, lt)) (λ k under. lt-ltb (slot_words k) words (least k under))
    (λ k over. le-ltb (slot_words k) words (omega (arith, holds, slot_words-mono class k over))))

pub least_low : (words class : ℕ) → words ≤ 256 → ((lower : ℕ) → lower < class → slot_words lower < words) → class < 6
least_low words class le least = ⊎_elim (λ lt. lt) (λ more. absurd (let big : 256 < words = least 5 (omega (arith, more)) in omega (arith, big, le))) (cases_lt class 6)
