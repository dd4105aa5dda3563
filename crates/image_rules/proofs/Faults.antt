-- The first check of a rule that fails, found by going through the numbers that the rule speaks of.
use Rattle.std.proofs.Common.{◌≡◌, ◌≢◌, ⊎_elim, ℕ, zero, suc, ◌+◌, ◌/◌, ◌%◌, ◌<◌, ◌≤◌, Bool, true, false, not, cond, eqb, List, [], ◌∷◌, map, get_or, refl, sym, ◌∙◌, ap, arith}
use Rattle.std.specs.Prelude.{None, Some, option_map, filter, find}
use Rattle.std.specs.List.{range_with_len}
use Rattle.std.proofs.lemmas.Bool.{cases_Bool, cases_eq, eqb-true, eqb-false, cond-true, cond-false}
use Rattle.image_layout.specs.Fixed.{descriptor_at}
use Rattle.image_layout.specs.Places.{below}
use Rattle.image_layout.specs.Blocks.{inside_after, inside_at}
use Rattle.image_layout.specs.Checks.{Check, check, first_failing}

module _ (at : ℕ → ℕ) (holds speaks : ℕ → Bool) where
  abbrev check_of : ℕ → Check
  check_of x = check (at x) (holds x)

  abbrev checks : ℕ → ℕ → List Check
  checks from n = map check_of (filter speaks (range_with_len from n))

  -- a check that holds is passed, and so is a number that the rule doesn't speak of
  pass-one : (n from : ℕ) → (speaks from ≡ true → holds from ≡ true) → first_failing (checks from (suc n)) ≡ first_failing (checks (from + 1) n)
  pass-one n from has = by_test (speaks from) has
    where
      by_test : (s : Bool) → (s ≡ true → holds from ≡ true)
          → first_failing (map check_of (cond s (from ∷ filter speaks (range_with_len (from + 1) n)) (filter speaks (range_with_len (from + 1) n)))) ≡ first_failing (checks (from + 1) n)
      by_test true has = ap (λ (h : Bool). option_map (λ (c : Check). c.place) (cond (not h) (Some (check_of from)) (find (λ (c : Check). not c.holds) (checks (from + 1) n)))) (has refl)
      by_test false has = refl

  none_from : (n from : ℕ) → ((x : ℕ) → from ≤ x → x < from + n → speaks x ≡ true → holds x ≡ true) → first_failing (checks from n) ≡ None
  none_from zero from each = refl
  none_from (suc n) from each = pass-one n from (each from (omega arith) (omega arith)) ∙ none_from n (from + 1) (λ x low high. each x (omega arith) (omega arith))

  found-one : (n from : ℕ) → speaks from ≡ true → holds from ≡ false → first_failing (checks from (suc n)) ≡ Some (at from)
  found-one n from spoken fails =
      ap (λ (s : Bool). first_failing (map check_of (cond s (from ∷ filter speaks (range_with_len (from + 1) n)) (filter speaks (range_with_len (from + 1) n))))) spoken
      ∙ ap (λ (h : Bool). option_map (λ (c : Check). c.place) (cond (not h) (Some (check_of from)) (find (λ (c : Check). not c.holds) (checks (from + 1) n)))) fails

  some_from : (n from k : ℕ) → from ≤ k → k < from + n → ((x : ℕ) → from ≤ x → x < k → speaks x ≡ true → holds x ≡ true) → speaks k ≡ true → holds k ≡ false → first_failing (checks from n) ≡ Some (at k)
  some_from zero from k low high each spoken fails = absurd (omega arith)
  some_from (suc n) from k low high each spoken fails = ⊎_elim
      (λ (e : from ≡ k). found-one n from (ap speaks e ∙ spoken) (ap holds e ∙ fails) ∙ ap (λ (x : ℕ). Some (at x)) e)
      (λ apart. pass-one n from (each from (omega arith) (omega (arith, apart)))
      ∙ some_from n (from + 1) k (omega (arith, apart)) (omega arith) (λ x above high. each x (omega arith) high) spoken fails)
      (cases_eq from k)

  pub first_none : (n : ℕ) → ((x : ℕ) → x < n → speaks x ≡ true → holds x ≡ true) → first_failing (map check_of (filter speaks (below n))) ≡ None
  first_none n each = none_from n 0 (λ x low high. each x (omega arith))

  pub first_some : (n k : ℕ) → k < n → ((x : ℕ) → x < k → speaks x ≡ true → holds x ≡ true) → speaks k ≡ true → holds k ≡ false → first_failing (map check_of (filter speaks (below n))) ≡ Some (at k)
  first_some n k lt each spoken fails = some_from n 0 k (omega arith) (omega arith) (λ x low high. each x high) spoken fails

  -- one number more
  pub each_more : (k : ℕ) → ((x : ℕ) → x < k → speaks x ≡ true → holds x ≡ true) → (speaks k ≡ true → holds k ≡ true) → (x : ℕ) → x < k + 1 → speaks x ≡ true → holds x ≡ true
  each_more k each here x lt spoken = ⊎_elim (λ (e : x ≡ k). ap holds e ∙ here (ap speaks (sym e) ∙ spoken)) (λ apart. each x (omega (arith, apart)) spoken) (cases_eq x k)

-- all numbers, where a rule speaks of each
pub filter-all : (xs : List ℕ) → filter (λ x. true) xs ≡ xs
filter-all [] = refl
filter-all (x ∷ xs) = ap (λ (ys : List ℕ). x ∷ ys) (filter-all xs)

-- how many pages of a big block are left from the next page on
pub inside-next : (words : List ℕ) (page : ℕ)
    → inside_at words ((page + 1) / 64) ((page + 1) % 64) ≡ cond (eqb ((page + 1) % 64) 0) 0 (inside_after (inside_at words (page / 64) (page % 64)) (get_or words (descriptor_at page) 0))
inside-next words page = ⊎_elim
    (λ first. ap (inside_at words ((page + 1) / 64)) (eqb-true ((page + 1) % 64) 0 first) ∙ sym (cond-true (eqb ((page + 1) % 64) 0) 0 _ first))
    (λ other. next (same_segment page (eqb-false ((page + 1) % 64) 0 other)) ∙ sym (cond-false (eqb ((page + 1) % 64) 0) 0 _ other))
    (cases_Bool (eqb ((page + 1) % 64) 0))
  where
    same_segment : (page : ℕ) → (page + 1) % 64 ≢ 0 → ((page + 1) / 64 ≡ page / 64) × ((page + 1) % 64 ≡ suc (page % 64))
    same_segment page some = (grind arith, grind arith)

    next : ((page + 1) / 64 ≡ page / 64) × ((page + 1) % 64 ≡ suc (page % 64)) → inside_at words ((page + 1) / 64) ((page + 1) % 64) ≡ inside_after (inside_at words (page / 64) (page % 64)) (get_or words (descriptor_at page) 0)
    next same = ap (λ (s : ℕ). inside_at words s ((page + 1) % 64)) same.0 ∙ ap (inside_at words (page / 64)) same.1
