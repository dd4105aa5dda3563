-- Lists made of the numbers of a range, as the range grows.
use Rattle.std.proofs.Common.{◌≡◌, ⊎_elim, ℕ, zero, suc, ◌+◌, ◌<◌, ◌≤◌, Bool, true, false, cond, List, [], ◌∷◌, ◌++◌, map, refl, sym, ◌∙◌, ap, arith, append_assoc, append-nil}
use Rattle.std.specs.List.{range_with_len, filter}
use Rattle.std.proofs.lemmas.List.{map-append}
use Rattle.std.proofs.lemmas.List.Elements.{filter-append}
use Rattle.std.proofs.lemmas.Bool.{cases_Bool, cond-true, cond-false}
use Rattle.image_layout.specs.Places.{below}

-- a range is one up to a place and one from there on
pub range_append : (a m n : ℕ) → range_with_len a (m + n) ≡ range_with_len a m ++ range_with_len (a + m) n
range_append a zero n = ap (λ (k : ℕ). range_with_len a k) (add_zero n) ∙ ap (λ (k : ℕ). range_with_len k n) (zero_add a)
  where
    add_zero : (k : ℕ) → 0 + k ≡ k
    add_zero k = omega arith

    zero_add : (k : ℕ) → k ≡ k + 0
    zero_add k = omega arith
range_append a (suc m) n = ap (λ (k : ℕ). range_with_len a k) (next m n) ∙ ap (λ (xs : List ℕ). a ∷ xs) (range_append (a + 1) m n) ∙ ap (λ (k : ℕ). a ∷ (range_with_len (a + 1) m ++ range_with_len k n)) (further a m)
  where
    next : (m n : ℕ) → suc m + n ≡ suc (m + n)
    next m n = omega arith

    further : (a m : ℕ) → a + 1 + m ≡ a + suc m
    further a m = omega arith

pub map_append : {A : Type 0} (f : ℕ → A) (a m n : ℕ) → map f (range_with_len a (m + n)) ≡ map f (range_with_len a m) ++ map f (range_with_len (a + m) n)
map_append f a m n = ap (map f) (range_append a m n) ∙ map-append f (range_with_len a m) (range_with_len (a + m) n)

pub filter_append : (p : ℕ → Bool) (a m n : ℕ) → filter p (range_with_len a (m + n)) ≡ filter p (range_with_len a m) ++ filter p (range_with_len (a + m) n)
filter_append p a m n = ap (filter p) (range_append a m n) ∙ filter-append p (range_with_len a m) (range_with_len (a + m) n)

-- one number more
pub range_more : (a n : ℕ) → range_with_len a (n + 1) ≡ range_with_len a n ++ (a + n) ∷ []
range_more a n = range_append a n 1

pub below_more : (n : ℕ) → below (n + 1) ≡ below n ++ n ∷ []
below_more n = range_more 0 n ∙ ap (λ (k : ℕ). below n ++ k ∷ []) (first n)
  where
    first : (k : ℕ) → 0 + k ≡ k
    first k = omega arith

pub map_more : {A : Type 0} (f : ℕ → A) (a n : ℕ) → map f (range_with_len a (n + 1)) ≡ map f (range_with_len a n) ++ f (a + n) ∷ []
map_more f a n = map_append f a n 1

pub filter_hit : (p : ℕ → Bool) (a n : ℕ) → p (a + n) ≡ true → filter p (range_with_len a (n + 1)) ≡ filter p (range_with_len a n) ++ (a + n) ∷ []
filter_hit p a n hit = filter_append p a n 1 ∙ ap (λ (xs : List ℕ). filter p (range_with_len a n) ++ xs) (cond-true (p (a + n)) ((a + n) ∷ []) [] hit)

pub filter_miss : (p : ℕ → Bool) (a n : ℕ) → p (a + n) ≡ false → filter p (range_with_len a (n + 1)) ≡ filter p (range_with_len a n)
filter_miss p a n miss = filter_append p a n 1 ∙ ap (λ (xs : List ℕ). filter p (range_with_len a n) ++ xs) (cond-false (p (a + n)) ((a + n) ∷ []) [] miss) ∙ append-nil (filter p (range_with_len a n))

-- a test that asks more than another
pub filter-filter : (p q : ℕ → Bool) (xs : List ℕ) → ((x : ℕ) → p x ≡ true → q x ≡ true) → filter p (filter q xs) ≡ filter p xs
filter-filter p q [] asks = refl
filter-filter p q (x ∷ xs) asks = ⊎_elim
    (λ hit. ap (filter p) (cond-true (q x) (x ∷ filter q xs) (filter q xs) hit) ∙ ap (λ (ys : List ℕ). cond (p x) (x ∷ ys) ys) (filter-filter p q xs asks))
    (λ miss. ap (filter p) (cond-false (q x) (x ∷ filter q xs) (filter q xs) miss) ∙ filter-filter p q xs asks
    ∙ sym (cond-false (p x) (x ∷ filter p xs) (filter p xs) (⊎_elim (λ (pass : p x ≡ true). absurd (no miss (asks x pass))) (λ fail. fail) (cases_Bool (p x)))))
    (cases_Bool (q x))
  where
    no : {b : Bool} → b ≡ false → b ≡ true → ⊥
    no f t = cc

-- the last number of a list that is filtered
pub filter_last : (p : ℕ → Bool) (xs rest : List ℕ) (x : ℕ) → filter p (xs ++ x ∷ []) ++ rest ≡ filter p xs ++ cond (p x) (x ∷ rest) rest
filter_last p xs rest x =
    ap (λ (ys : List ℕ). ys ++ rest) (filter-append p xs (x ∷ [])) ∙ append_assoc (filter p xs) (filter p (x ∷ [])) rest
    ∙ ap (λ (ys : List ℕ). filter p xs ++ ys) (one (p x))
  where
    one : (b : Bool) → cond b (x ∷ []) [] ++ rest ≡ cond b (x ∷ rest) rest
    one true = refl
    one false = refl

-- the same of each number
pub map_same : {A : Type 0} (f g : ℕ → A) (a n : ℕ) → ((k : ℕ) → a ≤ k → k < a + n → f k ≡ g k) → map f (range_with_len a n) ≡ map g (range_with_len a n)
map_same f g a zero same = refl
map_same f g a (suc n) same =
    ap (λ (x : _). x ∷ map f (range_with_len (a + 1) n)) (same a (omega arith) (omega arith))
    ∙ ap (λ (l : List _). g a ∷ l) (map_same f g (a + 1) n (λ k le lt. same k (omega (arith, le)) (omega (arith, lt))))
