-- The number of digits that are read in two parts.
use Rattle.std.proofs.Common.{◌≡◌, ℕ, ◌+◌, ◌-◌, ◌*◌, ◌^◌, ◌<◌, ◌≤◌, Bool, true, false, ltb, leb, List, [], ◌∷◌, ◌++◌, length, refl, ap, arith}
use Rattle.std.specs.Prelude.{Option, None, Some, if◌then◌else◌}
use Rattle.std.proofs.lemmas.Bool.Decides.{nat_tests}
use Rattle.std.proofs.lemmas.List.Folds.{list_all-append}
use Rattle.std.proofs.Math.Nat.{add-mul, mul_assoc, pow-succ'}
use Rattle.std.specs.Char.{is_ascii_digit, digit_value}
use Rattle.std.specs.List.{list_all}
use Rattle.std.specs.Str.Parse.{digits_value, digits_value_after}
use Rattle.sf_value.specs.Number.{number_of}

-- the number that the digits spell, where all of them are digits
abbrev pub spelled_by : List ℕ → Option ℕ
spelled_by digits = if list_all is_ascii_digit digits then Some (digits_value 10 digits) else None

told : (all : Bool) (number value : ℕ) → Some number ≡ (if all then Some value else None) → (all ≡ true) × (number ≡ value)
told true number value is = (refl, cc)
told false number value is = cc

value_after-append : (n : ℕ) (front back : List ℕ) → digits_value_after 10 n (front ++ back) ≡ digits_value_after 10 (digits_value_after 10 n front) back
value_after-append n [] back = refl
value_after-append n (digit ∷ front) back = value_after-append (n * 10 + digit_value digit) front back

-- digits behind a number
value_after-number : (n : ℕ) (digits : List ℕ) → digits_value_after 10 n digits ≡ n * 10 ^ length digits + digits_value 10 digits
value_after-number n [] = omega arith
value_after-number n (digit ∷ rest) =
    let power = 10 ^ length rest in
    let value = digit_value digit in
    omega (
      arith,
      value_after-number (n * 10 + value) rest,
      value_after-number (0 * 10 + value) rest,
      add-mul (n * 10) value power,
      add-mul (0 * 10) value power,
      mul_assoc n 10 power,
      ap (λ (x : ℕ). n * x) (pow-succ' 10 (length rest)),
    )

-- 19 digits behind those of the front, or no front
pub number-joined : (front back : List ℕ) (high low : ℕ) → length front ≡ (length front + length back) - 19
    → high ≡ digits_value 10 front → low ≡ digits_value 10 back
    → high * 10000000000000000000 + low ≡ digits_value 10 (front ++ back)
number-joined [] back high low long is_high is_low = omega arith
number-joined (digit ∷ front) back high low long is_high is_low =
    let number = digits_value 10 (digit ∷ front) in
    let full : length back ≡ 19 = omega arith in
    let powers : 10 ^ length back ≡ 10000000000000000000 = ap (λ (places : ℕ). 10 ^ places) full in
    let joined = value_after-append 0 (digit ∷ front) back in
    let behind = value_after-number number back in
    omega (arith, joined, behind, ap (λ (power : ℕ). number * power) powers)

ltb-from : {a b : ℕ} → a < b → ltb a b ≡ true
ltb-from {a} {b} h = grind (arith, nat_tests)

leb-from : {a b : ℕ} → a ≤ b → leb a b ≡ true
leb-from {a} {b} h = grind (arith, nat_tests)

-- what the two parts spell is what the digits do
pub reads-both : (most : ℕ) (digits front back : List ℕ) (high low : ℕ) → digits ≡ front ++ back
    → 0 < length digits → length digits ≤ most → length front ≡ length digits - 19 → length back + length front ≡ length digits
    → Some high ≡ spelled_by front → Some low ≡ spelled_by back
    → Some (high * 10000000000000000000 + low) ≡ number_of most digits
reads-both most digits front back high low is there short long whole is_high is_low =
    let high_told = told (list_all is_ascii_digit front) high (digits_value 10 front) is_high in
    let low_told = told (list_all is_ascii_digit back) low (digits_value 10 back) is_low in
    let digit : list_all is_ascii_digit digits ≡ true =
    rw (is, list_all-append is_ascii_digit front back, high_told.0, low_told.0) refl in
    let value : high * 10000000000000000000 + low ≡ digits_value 10 digits =
    rw is (number-joined front back high low (omega arith) high_told.1 low_told.1) in
    rw (ltb-from there, leb-from short, digit) (ap Some value)
