-- The bytes of UTF-8 are bytes.
use Rattle.std.proofs.Common.{◌≡◌, ℕ, zero, suc, ◌+◌, ◌/◌, ◌%◌, ◌<◌, ◌≤◌, ⊎_elim, true, List, [], ◌∷◌, ◌++◌, get_or, sym, ◌∙◌, subst, arith, lt-ltb, le-ltb}
use Rattle.std.specs.Prelude.{IsUtf8}
use Rattle.std.specs.Char.{encode_utf8}
use Rattle.std.proofs.lemmas.Bool.{and_parts, cond-true, cond-false, cases_lt}
use Rattle.std.proofs.lemmas.Str.{encode_ascii}
use Rattle.std.proofs.Math.Utf8.{scalar, scalars, scalar_cases, encodes}

-- all items of the list are bytes
abbrev pub AreBytes : List ℕ → Type 0
AreBytes bytes = (k : ℕ) → get_or bytes k 0 < 256

no_bytes : AreBytes []
no_bytes k = omega arith

byte_more : (byte : ℕ) (bytes : List ℕ) → byte < 256 → AreBytes bytes → AreBytes (byte ∷ bytes)
byte_more byte bytes small each zero = small
byte_more byte bytes small each (suc k) = each k

bytes_append : (xs ys : List ℕ) → AreBytes xs → AreBytes ys → AreBytes (xs ++ ys)
bytes_append [] ys here there = there
bytes_append (x ∷ xs) ys here there = byte_more x (xs ++ ys) (here 0) (bytes_append xs ys (λ k. here (suc k)) there)

one_byte : (c : ℕ) → c < 128 → AreBytes (encode_utf8 c)
one_byte c low = subst AreBytes (sym (encode_ascii c low)) (byte_more c [] (omega (arith, low)) no_bytes)

two_bytes : (c : ℕ) → 128 ≤ c → c < 2048 → AreBytes (encode_utf8 c)
unfolding encode_utf8
two_bytes c low high =
    let is : encode_utf8 c ≡ (192 + c / 64) ∷ (128 + c % 64) ∷ [] = cond-false _ _ _ (le-ltb c 128 low) ∙ cond-true _ _ _ (lt-ltb c 2048 high) in
    subst AreBytes (sym is) (byte_more (192 + c / 64) ((128 + c % 64) ∷ []) (omega (arith, high)) (byte_more (128 + c % 64) [] (omega arith) no_bytes))

three_bytes : (c : ℕ) → 2048 ≤ c → c < 65536 → AreBytes (encode_utf8 c)
unfolding encode_utf8
three_bytes c low high =
    let is : encode_utf8 c ≡ (224 + c / 4096) ∷ (128 + (c / 64) % 64) ∷ (128 + c % 64) ∷ [] =
    cond-false _ _ _ (le-ltb c 128 (omega (arith, low))) ∙ cond-false _ _ _ (le-ltb c 2048 low) ∙ cond-true _ _ _ (lt-ltb c 65536 high) in
    subst AreBytes (sym is) (byte_more (224 + c / 4096) ((128 + (c / 64) % 64) ∷ (128 + c % 64) ∷ []) (omega (arith, high))
    (byte_more (128 + (c / 64) % 64) ((128 + c % 64) ∷ []) (omega arith) (byte_more (128 + c % 64) [] (omega arith) no_bytes)))

four_bytes : (c : ℕ) → 65536 ≤ c → c < 1114112 → AreBytes (encode_utf8 c)
unfolding encode_utf8
four_bytes c low high =
    let is : encode_utf8 c ≡ (240 + c / 262144) ∷ (128 + (c / 4096) % 64) ∷ (128 + (c / 64) % 64) ∷ (128 + c % 64) ∷ [] =
    cond-false _ _ _ (le-ltb c 128 (omega (arith, low))) ∙ cond-false _ _ _ (le-ltb c 2048 (omega (arith, low))) ∙ cond-false _ _ _ (le-ltb c 65536 low) in
    subst AreBytes (sym is) (byte_more (240 + c / 262144) ((128 + (c / 4096) % 64) ∷ (128 + (c / 64) % 64) ∷ (128 + c % 64) ∷ []) (omega (arith, high))
    (byte_more (128 + (c / 4096) % 64) ((128 + (c / 64) % 64) ∷ (128 + c % 64) ∷ []) (omega arith)
    (byte_more (128 + (c / 64) % 64) ((128 + c % 64) ∷ []) (omega arith) (byte_more (128 + c % 64) [] (omega arith) no_bytes))))

character_bytes : (c : ℕ) → scalar c ≡ true → AreBytes (encode_utf8 c)
character_bytes c is =
    let most : c < 1114112 = ⊎_elim (λ low. omega (arith, low)) (λ high. high.1) (scalar_cases c is) in
    ⊎_elim (λ low. one_byte c low)
    (λ second. ⊎_elim (λ low. two_bytes c second low)
    (λ third. ⊎_elim (λ low. three_bytes c third low) (λ fourth. four_bytes c fourth most) (cases_lt c 65536))
    (cases_lt c 2048))
    (cases_lt c 128)

characters_bytes : (cs : List ℕ) → scalars cs ≡ true → AreBytes (encodes cs)
characters_bytes [] are = no_bytes
characters_bytes (c ∷ cs) are =
    let parts = and_parts (scalar c) (scalars cs) are in
    bytes_append (encode_utf8 c) (encodes cs) (character_bytes c parts.0) (characters_bytes cs parts.1)

pub utf8_bytes : (bytes : List ℕ) → IsUtf8 bytes → AreBytes bytes
utf8_bytes bytes is = subst AreBytes is.1.1 (characters_bytes is.0 is.1.0)
