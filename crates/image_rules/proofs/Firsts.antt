-- The first check that fails among checks that are put together.
use Rattle.std.proofs.Common.{◌≡◌, ⊎_elim, ℕ, zero, suc, ◌+◌, ◌<◌, ◌≤◌, Bool, true, false, not, cond, List, [], ◌∷◌, ◌++◌, map, refl, sym, ◌∙◌, ap, subst, append-nil, arith}
use Rattle.std.specs.Prelude.{Option, None, Some, filter, All}
use Rattle.std.specs.Option.{is_some}
use Rattle.std.specs.Bool.{then_some}
use Rattle.std.specs.List.{range_with_len, flat_map}
use Rattle.std.proofs.lemmas.Bool.{cases_Bool, cases_eq, true≢false, false≢true}
use Rattle.std.proofs.lemmas.List.{map-append}
use Rattle.std.proofs.lemmas.Option.{none-some}
use Rattle.std.proofs.lemmas.List.Concat.{flat_map_single, flat_map-append}
use Rattle.std.proofs.lemmas.List.FromFn.{length-map-range_with_len, get_or-map-range_with_len}
use Rattle.image_layout.specs.Places.{below}
use Rattle.image_layout.specs.Checks.{Check, check, Rule, Keeps, first_failing}
use Rattle.image_layout.proofs.Faults.{Holds, all_hold, passes, fails, pass-all, fail-first}

-- a check alone
pub lone : (place : ℕ) (holds : Bool) → then_some (not holds) place ≡ first_failing (check place holds ∷ [])
lone place true = refl
lone place false = refl

-- where none fails, none of the first ones does, and none of the others
pub none-append : (xs ys : List Check) → first_failing (xs ++ ys) ≡ None → (first_failing xs ≡ None) × (first_failing ys ≡ None)
none-append [] ys none = (refl, none)
none-append (c ∷ xs) ys none =
    ⊎_elim (λ hit. let parts = none-append xs ys (sym (passes c (xs ++ ys) hit) ∙ none) in (passes c xs hit ∙ parts.0, parts.1))
    (λ miss. absurd (none-some c.place (sym none ∙ fails c (xs ++ ys) miss)))
    (cases_Bool c.holds)

pub none-head : (c : Check) (xs : List Check) → first_failing (c ∷ xs) ≡ None → (c.holds ≡ true) × (first_failing xs ≡ None)
none-head c xs none =
    ⊎_elim (λ hit. (hit, sym (passes c xs hit) ∙ none))
    (λ miss. absurd (none-some c.place (sym none ∙ fails c xs miss)))
    (cases_Bool c.holds)

-- what was found in the first ones, or else in the others
pub first_of : (xs ys : List Check) (found : Option ℕ) → found ≡ first_failing xs → is_some found ≡ true → found ≡ first_failing (xs ++ ys)
first_of xs ys None here some = absurd (false≢true some)
first_of xs ys (Some p) here some = sym (fail-first xs ys p (sym here))

pub then_rest : (xs ys : List Check) (found rest : Option ℕ) → found ≡ first_failing xs → is_some found ≡ false → rest ≡ first_failing ys → rest ≡ first_failing (xs ++ ys)
then_rest xs ys None rest here none after = after ∙ sym (pass-all xs ys (sym here))
then_rest xs ys (Some p) rest here none after = absurd (true≢false none)

pub then_last : (xs : List Check) (found : Option ℕ) → found ≡ first_failing xs → found ≡ first_failing (xs ++ [])
then_last xs found here = here ∙ ap first_failing (sym (append-nil xs))

-- ── checks for each number below a bound ──

module _ (f : ℕ → List Check) where
  none_from : (n from : ℕ) → ((x : ℕ) → from ≤ x → x < from + n → first_failing (f x) ≡ None) → first_failing (flat_map f (range_with_len from n)) ≡ None
  none_from zero from each = refl
  none_from (suc n) from each =
      pass-all (f from) (flat_map f (range_with_len (from + 1) n)) (each from (omega arith) (omega arith))
      ∙ none_from n (from + 1) (λ x low high. each x (omega arith) (omega arith))

  some_from : (n from k p : ℕ) → from ≤ k → k < from + n → ((x : ℕ) → from ≤ x → x < k → first_failing (f x) ≡ None) → first_failing (f k) ≡ Some p
      → first_failing (flat_map f (range_with_len from n)) ≡ Some p
  some_from zero from k p low high each found = absurd (omega arith)
  some_from (suc n) from k p low high each found = ⊎_elim
      (λ (e : from ≡ k). fail-first (f from) (flat_map f (range_with_len (from + 1) n)) p (ap (λ (x : ℕ). first_failing (f x)) e ∙ found))
      (λ apart. pass-all (f from) (flat_map f (range_with_len (from + 1) n)) (each from (omega arith) (omega (arith, apart)))
      ∙ some_from n (from + 1) k p (omega (arith, apart)) (omega arith) (λ x above high_x. each x (omega arith) high_x) found)
      (cases_eq from k)

  pub flat_none : (n : ℕ) → ((x : ℕ) → x < n → first_failing (f x) ≡ None) → first_failing (flat_map f (below n)) ≡ None
  flat_none n each = none_from n 0 (λ x low high. each x (omega arith))

  pub flat_some : (n k p : ℕ) → k < n → ((x : ℕ) → x < k → first_failing (f x) ≡ None) → first_failing (f k) ≡ Some p → first_failing (flat_map f (below n)) ≡ Some p
  flat_some n k p lt each found = some_from n 0 k p (omega arith) (omega arith) (λ x low high. each x high) found

  -- where none of them fails, none of those for one number does
  none_at : (n from k : ℕ) → from ≤ k → k < from + n → first_failing (flat_map f (range_with_len from n)) ≡ None → first_failing (f k) ≡ None
  none_at zero from k low high none = absurd (omega arith)
  none_at (suc n) from k low high none =
      let parts = none-append (f from) (flat_map f (range_with_len (from + 1) n)) none in
      ⊎_elim (λ (e : from ≡ k). ap (λ (x : ℕ). first_failing (f x)) (sym e) ∙ parts.0)
      (λ apart. none_at n (from + 1) k (omega (arith, apart)) (omega arith) parts.1)
      (cases_eq from k)

  pub flat_part : (n k : ℕ) → k < n → first_failing (flat_map f (below n)) ≡ None → first_failing (f k) ≡ None
  flat_part n k lt none = none_at n 0 k (omega arith) (omega arith) none

  -- what was found for one number, where nothing was for those before it
  pub flat_found : (n k : ℕ) (found : Option ℕ) → k < n → ((x : ℕ) → x < k → first_failing (f x) ≡ None) → found ≡ first_failing (f k) → is_some found ≡ true
      → found ≡ first_failing (flat_map f (below n))
  flat_found n k None lt each here some = absurd (false≢true some)
  flat_found n k (Some p) lt each here some = sym (flat_some n k p lt each (sym here))

-- nothing was found
pub found_none : (found here : Option ℕ) → found ≡ here → is_some found ≡ false → here ≡ None
found_none None here is none = sym is
found_none (Some p) here is none = absurd (true≢false none)

-- ── one check for each number below a bound ──

module _ (f : ℕ → Check) where
  abbrev single : ℕ → List Check
  single x = f x ∷ []

  as_flat : (xs : List ℕ) → first_failing (map f xs) ≡ first_failing (flat_map single xs)
  as_flat xs = ap first_failing (sym (flat_map_single f xs))

  pub map_none_from : (n from : ℕ) → ((x : ℕ) → from ≤ x → x < from + n → (f x).holds ≡ true) → first_failing (map f (range_with_len from n)) ≡ None
  map_none_from n from each = as_flat (range_with_len from n) ∙ none_from single n from (λ x low high. passes (f x) [] (each x low high))

  pub map_some_from : (n from k : ℕ) → from ≤ k → k < from + n → ((x : ℕ) → from ≤ x → x < k → (f x).holds ≡ true) → (f k).holds ≡ false → first_failing (map f (range_with_len from n)) ≡ Some (f k).place
  map_some_from n from k low high each miss =
      as_flat (range_with_len from n) ∙ some_from single n from k ((f k).place) low high (λ x above under. passes (f x) [] (each x above under)) (fails (f k) [] miss)

  pub map_none : (n : ℕ) → ((x : ℕ) → x < n → (f x).holds ≡ true) → first_failing (map f (below n)) ≡ None
  map_none n each = as_flat (below n) ∙ flat_none single n (λ x lt. passes (f x) [] (each x lt))

  pub map_some : (n k : ℕ) → k < n → ((x : ℕ) → x < k → (f x).holds ≡ true) → (f k).holds ≡ false → first_failing (map f (below n)) ≡ Some (f k).place
  map_some n k lt each miss =
      as_flat (below n) ∙ flat_some single n k ((f k).place) lt (λ x low. passes (f x) [] (each x low)) (fails (f k) [] miss)

  -- where all of them hold, each does
  pub map_holds : (n : ℕ) → All Holds (map f (below n)) → (k : ℕ) → k < n → (f k).holds ≡ true
  map_holds n all k lt = subst (λ (c : Check). c.holds ≡ true) (get_or-map-range_with_len f 0 n k k (f k) lt (omega arith)) (all k (f k) (rw (length-map-range_with_len f 0 n) lt))

-- checks of those that pass a test
pub flat_map-filter : {X A : Type 0} (f : X → List A) (test : X → Bool) (xs : List X) → flat_map f (filter test xs) ≡ flat_map (λ x. cond (test x) (f x) []) xs
flat_map-filter f test [] = refl
flat_map-filter f test (x ∷ xs) =
    ⊎_elim (λ (hit : test x ≡ true). rw hit (ap (λ (ys : List _). f x ++ ys) (flat_map-filter f test xs)))
    (λ (miss : test x ≡ false). rw miss (flat_map-filter f test xs))
    (cases_Bool (test x))

-- checks of the parts of parts
pub flat_map-flat_map : {X Y A : Type 0} (h : Y → List A) (g : X → List Y) (xs : List X) → flat_map h (flat_map g xs) ≡ flat_map (λ x. flat_map h (g x)) xs
flat_map-flat_map h g [] = refl
flat_map-flat_map h g (x ∷ xs) = flat_map-append h (g x) (flat_map g xs) ∙ ap (λ (ys : List _). flat_map h (g x) ++ ys) (flat_map-flat_map h g xs)

-- numbers from one on
pub map-range : (f : ℕ → ℕ) (n a b : ℕ) → ((k : ℕ) → k < n → f (a + k) ≡ b + k) → map f (range_with_len a n) ≡ range_with_len b n
map-range f zero a b each = refl
map-range f (suc n) a b each =
    let first : f a ≡ b = ap f (omega arith) ∙ each 0 (omega arith) ∙ omega arith in
    ap (λ (x : ℕ). x ∷ map f (range_with_len (a + 1) n)) first
    ∙ ap (λ (xs : List ℕ). b ∷ xs) (map-range f n (a + 1) (b + 1) (λ k lt. ap f (omega arith) ∙ each (k + 1) (omega (arith, lt)) ∙ omega arith))

pub map-flat_map : {X Y A : Type 0} (h : Y → A) (g : X → List Y) (xs : List X) → map h (flat_map g xs) ≡ flat_map (λ x. map h (g x)) xs
map-flat_map h g [] = refl
map-flat_map h g (x ∷ xs) = map-append h (g x) (flat_map g xs) ∙ ap (λ (ys : List _). map h (g x) ++ ys) (map-flat_map h g xs)

-- a rule of which no check was found to fail is kept
pub kept_rule : (words : List ℕ) (rule : Rule) (found : Option ℕ) → found ≡ first_failing (rule words) → found ≡ None → Keeps words rule
kept_rule words rule found here none = record { checks = all_hold (rule words) (sym here ∙ none) }
