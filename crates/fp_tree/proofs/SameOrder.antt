-- The same items in the order of a key are the same list.
use Rattle.std.proofs.Common.{◌≡◌, ⊎_elim, ℕ, suc, ◌<◌, ◌≤◌, Bool, true, cond, eqb, ltb, List, [], ◌∷◌, refl, sym, ◌∙◌, ap, ap₂, arith}
use Rattle.std.specs.Prelude.{sum_by}
use Rattle.std.specs.List.Sorted.{IsNonDecreasingBy}
use Rattle.std.proofs.lemmas.Bool.{cases_Bool, cases_lt, eq-eqb, le-ltb, lt-ltb, ne_eqb}
use Rattle.std.proofs.lemmas.List.Sums.{sum_by-cons}
use Rattle.tree_cuts.specs.Lists.{Each, Pairwise}
use Rattle.tree_cuts.proofs.Lists.{each-map}
use Rattle.fp_tree.proofs.Around.{each_from}

pub pairwise_from : {X : Type 0} (n : X → ℕ) (xs : List X) → IsNonDecreasingBy n xs → Pairwise (λ a b. n a ≤ n b) xs
pairwise_from n [] order = tt
pairwise_from n (x ∷ xs) order = (
  each_from (λ b. n x ≤ n b) x xs (λ k lt. order 0 (suc k) x (omega arith) (omega (arith, lt))),
  pairwise_from n xs (λ i j d le lt. order (suc i) (suc j) d (omega (arith, le)) (omega (arith, lt))),
)

pub none_counted : {X : Type 0} (f : X → ℕ) (xs : List X) → Each (λ x. f x ≡ 0) xs → sum_by f xs ≡ 0
none_counted f [] each = refl
none_counted f (x ∷ xs) each = let sum = sum_by-cons f x xs in let rest = none_counted f xs each.1 in let here = each.0 in omega (arith, sum, rest, here)

pub first_counted : {X : Type 0} (f : X → ℕ) (x : X) (xs : List X) → sum_by f (x ∷ xs) ≡ 0 → f x ≡ 0
first_counted f x xs none = let sum = sum_by-cons f x xs in omega (arith, sum, none)

abbrev one_if : Bool → ℕ
one_if b = cond b 1 0

-- 1 where only the second holds
abbrev one_unless : Bool → Bool → ℕ
one_unless s t = cond s 0 (one_if t)

below_one : (a b : ℕ) → one_if (ltb a b) ≡ 0 → b ≤ a
below_one a b none = ⊎_elim (λ less. absurd (let one = ap (λ (t : Bool). one_if t) (lt-ltb a b less) in omega (arith, one, none))) (λ from. from) (cases_lt a b)

not_below : (a b : ℕ) → b ≤ a → one_if (ltb a b) ≡ 0
not_below a b from = ap (λ (t : Bool). one_if t) (le-ltb a b from)

-- items that a test tells apart, each with its key
module _ {X : Type 0} (same : X → X → Bool) (is_same : (x y : X) → same x y ≡ true → x ≡ y) (itself : (x : X) → same x x ≡ true) (key : X → ℕ) where
  abbrev other_with : X → X → ℕ
  other_with x z = one_unless (same z x) (eqb (key z) (key x))

  same_first : (x : X) (xs : List X) (y : X) (ys : List X) → Each (λ t. key x < key t) xs → Each (λ t. key y ≤ key t) ys → ((f : X → ℕ) → sum_by f (x ∷ xs) ≡ sum_by f (y ∷ ys)) → x ≡ y
  same_first x xs y ys rising order all =
      let under : key y ≤ key x = below_one (key x) (key y) (first_counted (λ z. one_if (ltb (key z) (key y))) x xs (all (λ z. one_if (ltb (key z) (key y)))
      ∙ none_counted (λ z. one_if (ltb (key z) (key y))) (y ∷ ys) (not_below (key y) (key y) (omega arith), each-map (λ t. key y ≤ key t) (λ z. one_if (ltb (key z) (key y)) ≡ 0) (λ z from. not_below (key z) (key y) from) ys order))) in
      let over : key x ≤ key y = below_one (key y) (key x) (first_counted (λ z. one_if (ltb (key z) (key x))) y ys (sym (all (λ z. one_if (ltb (key z) (key x))))
      ∙ none_counted (λ z. one_if (ltb (key z) (key x))) (x ∷ xs) (not_below (key x) (key x) (omega arith), each-map (λ t. key x < key t) (λ z. one_if (ltb (key z) (key x)) ≡ 0) (λ z from. not_below (key z) (key x) (omega (arith, from))) xs rising))) in
      let no_other : other_with x y ≡ 0 = first_counted (other_with x) y ys (sym (all (other_with x)) ∙ none_counted (other_with x) (x ∷ xs) (
        ap (λ (t : Bool). one_unless t (eqb (key x) (key x))) (itself x),
        each-map (λ t. key x < key t) (λ z. other_with x z ≡ 0) (λ z above. apart z above) xs rising,
      )) in
      ⊎_elim (λ is. sym (is_same y x is)) (λ not_same. absurd (let one = ap₂ (λ (s t : Bool). one_unless s t) not_same (eq-eqb (key y) (key x) (omega (arith, under, over))) in omega (arith, one, no_other))) (cases_Bool (same y x))
    where
      apart : (z : X) → key x < key z → other_with x z ≡ 0
      apart z above = ⊎_elim
          (λ is. ap (λ (t : Bool). one_unless t (eqb (key z) (key x))) is)
          (λ not_same. ap₂ (λ (s t : Bool). one_unless s t) not_same (ne_eqb (key z) (key x) (λ e. omega (arith, e, above))))
          (cases_Bool (same z x))

  pub same_order : (xs ys : List X) → Pairwise (λ s t. key s < key t) xs → Pairwise (λ s t. key s ≤ key t) ys → ((f : X → ℕ) → sum_by f xs ≡ sum_by f ys) → xs ≡ ys
  same_order [] [] rising order all = refl
  same_order [] (y ∷ ys) rising order all = absurd (let sum = sum_by-cons (λ (z : X). 1) y ys in let count = all (λ (z : X). 1) in omega (arith, sum, count))
  same_order (x ∷ xs) [] rising order all = absurd (let sum = sum_by-cons (λ (z : X). 1) x xs in let count = all (λ (z : X). 1) in omega (arith, sum, count))
  same_order (x ∷ xs) (y ∷ ys) rising order all =
      let first = same_first x xs y ys rising.0 order.0 all in
      ap₂ (λ (z : X) (zs : List X). z ∷ zs) first (same_order xs ys rising.1 order.1 (λ f.
      let both = all f in let left = sum_by-cons f x xs in let right = sum_by-cons f y ys in let head = ap f first in omega (arith, both, left, right, head)))
