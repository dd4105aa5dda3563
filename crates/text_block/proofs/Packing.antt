-- Bytes that are packed into a word, and those of a word.
use Rattle.std.proofs.Common.{◌≡◌, ⊎_elim, ℕ, zero, suc, ◌+◌, ◌*◌, ◌/◌, ◌%◌, ◌^◌, ◌<◌, ◌≤◌, List, [], ◌∷◌, length, drop, get_or, set, refl, sym, ◌∙◌, ap, arith}
use Rattle.std.specs.Int.{w64, from_le_bytes, to_le_bytes}
use Rattle.std.proofs.lemmas.List.{get_or-drop, get_or_past, get_or-set_same, get_or-set_other}
use Rattle.std.proofs.lemmas.Bool.{cases_eq}
use Rattle.std.proofs.lemmas.Nat.{le_bytes_8}
use Rattle.shown_state.specs.Packed.{packed_word}
use Rattle.text_block.proofs.Bytes.{AreBytes}

-- eight bytes that are the same are one word
same_word : (xs ys : List ℕ) → ((k : ℕ) → k < 8 → get_or xs k 0 ≡ get_or ys k 0) → from_le_bytes w64 xs ≡ from_le_bytes w64 ys
same_word xs ys each =
    let a = each 0 (omega arith) in
    let b = each 1 (omega arith) in
    let c = each 2 (omega arith) in
    let d = each 3 (omega arith) in
    let e = each 4 (omega arith) in
    let f = each 5 (omega arith) in
    let g = each 6 (omega arith) in
    let h = each 7 (omega arith) in
    rw (a, b, c, d, e, f, g, h) refl

pub packed_is : (bytes eight : List ℕ) (word : ℕ) → ((k : ℕ) → k < 8 → get_or eight k 0 ≡ get_or (drop (8 * word) bytes) k 0) → from_le_bytes w64 eight ≡ packed_word bytes word
packed_is bytes eight word each = same_word eight (drop (8 * word) bytes) each

module _ (bytes eight : List ℕ) (word byte : ℕ) (done : (k : ℕ) → k < byte → get_or eight k 0 ≡ get_or (drop (8 * word) bytes) k 0) where
  -- one byte more, where there is one
  pub packed_byte-here : length eight ≡ 8 → byte < 8 → (k : ℕ) → k < byte + 1 → get_or (set eight byte (get_or bytes (8 * word + byte) 0)) k 0 ≡ get_or (drop (8 * word) bytes) k 0
  packed_byte-here size lt k within = ⊎_elim
      (λ (same : k ≡ byte). ap (λ (n : ℕ). get_or (set eight byte (get_or bytes (8 * word + byte) 0)) n 0) same
      ∙ get_or-set_same eight byte (get_or bytes (8 * word + byte) 0) 0 (omega (arith, size, lt)) ∙ sym (get_or-drop (8 * word) bytes byte 0) ∙ ap (λ (n : ℕ). get_or (drop (8 * word) bytes) n 0) (sym same))
      (λ apart. get_or-set_other eight byte k (get_or bytes (8 * word + byte) 0) 0 apart ∙ done k (omega (arith, within, apart)))
      (cases_eq k byte)

  -- and where there is none
  pub packed_byte-past : length bytes ≤ 8 * word + byte → get_or eight byte 0 ≡ 0 → (k : ℕ) → k < byte + 1 → get_or eight k 0 ≡ get_or (drop (8 * word) bytes) k 0
  packed_byte-past past none k within = ⊎_elim
      (λ (same : k ≡ byte). ap (λ (n : ℕ). get_or eight n 0) same ∙ none ∙ sym (get_or-drop (8 * word) bytes byte 0 ∙ get_or_past bytes (8 * word + byte) 0 past) ∙ ap (λ (n : ℕ). get_or (drop (8 * word) bytes) n 0) (sym same))
      (λ apart. done k (omega (arith, within, apart)))
      (cases_eq k byte)

-- ── the bytes of a word ──

abbrev first_eight : List ℕ → List ℕ
first_eight xs = get_or xs 0 0 ∷ get_or xs 1 0 ∷ get_or xs 2 0 ∷ get_or xs 3 0 ∷ get_or xs 4 0 ∷ get_or xs 5 0 ∷ get_or xs 6 0 ∷ get_or xs 7 0 ∷ []

eight_small : (xs : List ℕ) → AreBytes xs → AreBytes (first_eight xs)
eight_small xs small zero = small 0
eight_small xs small (suc zero) = small 1
eight_small xs small (suc (suc zero)) = small 2
eight_small xs small (suc (suc (suc zero))) = small 3
eight_small xs small (suc (suc (suc (suc zero)))) = small 4
eight_small xs small (suc (suc (suc (suc (suc zero))))) = small 5
eight_small xs small (suc (suc (suc (suc (suc (suc zero)))))) = small 6
eight_small xs small (suc (suc (suc (suc (suc (suc (suc zero))))))) = small 7
eight_small xs small (suc (suc (suc (suc (suc (suc (suc (suc i)))))))) = omega arith

-- a byte of the word that eight bytes are packed into
byte_back : (xs : List ℕ) → AreBytes xs → (k : ℕ) → k < 8 → from_le_bytes w64 xs / 2 ^ (8 * k) % 256 ≡ get_or xs k 0
byte_back xs small k lt = by k lt
  where
    all : to_le_bytes w64 (from_le_bytes w64 xs) ≡ first_eight xs
    all = le_bytes_8 (first_eight xs) (from_le_bytes w64 xs) refl (eight_small xs small) refl

    one : (n : ℕ) → n / 1 % 256 ≡ n % 256
    one n = omega arith

    by : (j : ℕ) → j < 8 → from_le_bytes w64 xs / 2 ^ (8 * j) % 256 ≡ get_or xs j 0
    by zero in_word = one (from_le_bytes w64 xs) ∙ ap (λ (l : List ℕ). get_or l 0 0) all
    by (suc zero) in_word = ap (λ (l : List ℕ). get_or l 1 0) all
    by (suc (suc zero)) in_word = ap (λ (l : List ℕ). get_or l 2 0) all
    by (suc (suc (suc zero))) in_word = ap (λ (l : List ℕ). get_or l 3 0) all
    by (suc (suc (suc (suc zero)))) in_word = ap (λ (l : List ℕ). get_or l 4 0) all
    by (suc (suc (suc (suc (suc zero))))) in_word = ap (λ (l : List ℕ). get_or l 5 0) all
    by (suc (suc (suc (suc (suc (suc zero)))))) in_word = ap (λ (l : List ℕ). get_or l 6 0) all
    by (suc (suc (suc (suc (suc (suc (suc zero))))))) in_word = ap (λ (l : List ℕ). get_or l 7 0) all
    by (suc (suc (suc (suc (suc (suc (suc (suc j)))))))) in_word = absurd (omega (arith, in_word))

-- a byte of packed bytes
pub packed_back : (bytes : List ℕ) → AreBytes bytes → (k : ℕ) → packed_word bytes (k / 8) / 2 ^ (8 * (k % 8)) % 256 ≡ get_or bytes k 0
packed_back bytes small k =
    let is : 8 * (k / 8) + k % 8 ≡ k = omega arith in
    byte_back (drop (8 * (k / 8)) bytes) (λ j. omega (arith, small (8 * (k / 8) + j), get_or-drop (8 * (k / 8)) bytes j 0)) (k % 8) (omega arith)
    ∙ get_or-drop (8 * (k / 8)) bytes (k % 8) 0
    ∙ ap (λ (n : ℕ). get_or bytes n 0) is
