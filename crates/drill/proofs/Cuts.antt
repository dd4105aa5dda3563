-- How many cuts there are.
use Rattle.std.proofs.Common.{◌≡◌, ℕ, zero, suc, ◌+◌, ◌-◌, Bool, true, false, refl, inl, inr, arith}
use Rattle.std.specs.Prelude.{◌/◌, ◌%◌, ◌==◌, nat_lt, if◌then◌else◌}
use Rattle.std.proofs.lemmas.Bool.{cases_Bool}
use Rattle.std.proofs.lemmas.Bool.Decides.{nat_tests}
use Rattle.drill.specs.Summary.{cuts_in, is_cut_turn}

later : (turn : ℕ) → nat_lt 0 (suc turn) ≡ true
later turn = grind (arith, nat_tests)

whole : (turn : ℕ) → is_cut_turn (suc turn) ≡ true → suc turn % 1024 ≡ 0
whole turn cut = elim (cases_Bool (suc turn % 1024 == 0)) [
  | inl same ↦ grind (arith, nat_tests, same)
  | inr other ↦ absurd (let e : false ≡ true = rw (later turn, other) at cut in cc)
]

part : (turn : ℕ) → is_cut_turn (suc turn) ≡ false → suc turn % 1024 ≡ 0 → ⊥
part turn none is = elim (cases_Bool (suc turn % 1024 == 0)) [
  | inl same ↦ absurd (let e : true ≡ false = rw (later turn, same) at none in cc)
  | inr other ↦ absurd (grind (arith, nat_tests, other, is))
]

one-more : (turn cuts : ℕ) (cut : Bool) → cuts ≡ turn / 1024 → is_cut_turn (suc turn) ≡ cut → (if cut then cuts + 1 else cuts) ≡ suc turn / 1024
one-more turn cuts true before is = let e = whole turn is in omega arith
one-more turn cuts false before is = let e = part turn is in omega arith

counted : (turns : ℕ) → cuts_in (suc turns) ≡ turns / 1024
counted zero = refl
counted (suc turns) = one-more turns (cuts_in (suc turns)) (is_cut_turn (suc turns)) (counted turns) refl

pub cuts-are : (turns result : ℕ) → result ≡ (turns - 1) / 1024 → result ≡ cuts_in turns
cuts-are zero result is = is
cuts-are (suc turns) result is = let all = counted turns in omega arith
