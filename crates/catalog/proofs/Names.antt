-- The bytes of a name without its padding.
use Rattle.std.proofs.Common.{◌≡◌, ◌≢◌, ⊎_elim, ℕ, zero, suc, ◌+◌, ◌<◌, ◌≤◌, Bool, true, not, ◌&&◌, ◌||◌, eqb, leb, List, [], ◌∷◌, length, get_or, take, refl, sym, ◌∙◌, ap, arith}
use Rattle.std.specs.List.{prefix_len, list_all}
use Rattle.std.specs.Str.{IsAscii, IsUtf8}
use Rattle.std.specs.Char.{is_ascii_lowercase, is_ascii_digit}
use Rattle.std.proofs.lemmas.Bool.{ne_eqb, eq-eqb, eqb-true, and_parts, leb-true, or_cases}
use Rattle.std.proofs.lemmas.List.{take_all}
use Rattle.std.proofs.lemmas.Str.{IsUtf8-from_ascii}
use Rattle.mv_model.specs.Name.{is_name, is_name_byte, begins_with_lowercase}

abbrev pub some_byte : ℕ → Bool
some_byte byte = not (eqb byte 0)

-- up to the first byte that is 0
pub prefix_is : (bytes : List ℕ) (i : ℕ) → ((k : ℕ) → k < i → get_or bytes k 0 ≢ 0) → i ≤ length bytes → (i < length bytes → get_or bytes i 0 ≡ 0) → prefix_len some_byte bytes ≡ i
prefix_is [] zero some le none = refl
prefix_is [] (suc i) some le none = absurd (omega (arith, le))
prefix_is (byte ∷ bytes) zero some le none = let e = eq-eqb byte 0 (none (omega arith)) in rw e refl
prefix_is (byte ∷ bytes) (suc i) some le none =
    let e = ne_eqb byte 0 (some 0 (omega arith)) in
    let rest = prefix_is bytes i (λ k lt. some (suc k) (omega (arith, lt))) (omega (arith, le)) (λ lt. none (omega (arith, lt))) in
    rw (e, rest) (one i)
  where
    one : (n : ℕ) → 1 + n ≡ suc n
    one n = omega arith

pub unpadded_here : (bytes : List ℕ) (i : ℕ) → ((k : ℕ) → k < i → get_or bytes k 0 ≢ 0) → i < length bytes → get_or bytes i 0 ≡ 0 → take i bytes ≡ take (prefix_len some_byte bytes) bytes
unpadded_here bytes i some lt none = ap (λ (n : ℕ). take n bytes) (sym (prefix_is bytes i some (omega (arith, lt)) (λ _. none)))

pub unpadded_all : (bytes : List ℕ) (i : ℕ) → ((k : ℕ) → k < i → get_or bytes k 0 ≢ 0) → length bytes ≤ i → bytes ≡ take (prefix_len some_byte bytes) bytes
unpadded_all bytes i some le =
    sym (take_all (length bytes) bytes (omega arith))
    ∙ ap (λ (n : ℕ). take n bytes) (sym (prefix_is bytes (length bytes) (λ k lt. some k (omega (arith, lt, le))) (omega arith) (λ lt. absurd (omega (arith, lt)))))

-- a name is ASCII
byte_ascii : (byte : ℕ) → is_name_byte byte ≡ true → byte < 128
byte_ascii byte is = ⊎_elim
    (λ either. ⊎_elim
    (λ letter. let high = leb-true byte 122 (and_parts (leb 97 byte) (leb byte 122) letter).1 in omega (arith, high))
    (λ digit. let high = leb-true byte 57 (and_parts (leb 48 byte) (leb byte 57) digit).1 in omega (arith, high))
    (or_cases (is_ascii_lowercase byte) (is_ascii_digit byte) either))
    (λ line. let same = eqb-true byte 95 line in omega (arith, same))
    (or_cases (is_ascii_lowercase byte || is_ascii_digit byte) (eqb byte 95) is)

bytes_ascii : (bytes : List ℕ) → list_all is_name_byte bytes ≡ true → IsAscii bytes
bytes_ascii [] is i = omega arith
bytes_ascii (byte ∷ bytes) is zero = byte_ascii byte (and_parts (is_name_byte byte) (list_all is_name_byte bytes) is).0
bytes_ascii (byte ∷ bytes) is (suc i) = bytes_ascii bytes (and_parts (is_name_byte byte) (list_all is_name_byte bytes) is).1 i

pub name_utf8 : (bytes : List ℕ) → is_name bytes ≡ true → IsUtf8 bytes
name_utf8 bytes is = IsUtf8-from_ascii bytes (bytes_ascii bytes
    (and_parts (leb (length bytes) 24) (list_all is_name_byte bytes) (and_parts (leb (length bytes) 24 && list_all is_name_byte bytes) (begins_with_lowercase bytes) is).0).1)
