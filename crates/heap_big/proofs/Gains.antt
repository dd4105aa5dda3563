-- One element more in a list, where one place of a range gives one more.
use Rattle.std.proofs.Common.{◌≡◌, ◌≢◌, ◌⊎◌, inl, inr, ℕ, zero, suc, ◌+◌, ◌<◌, ◌≤◌, Bool, true, false, cond, List, [], ◌∷◌, ◌++◌, map, refl, sym, ◌∙◌, ap, subst, append_assoc, arith}
use Rattle.std.specs.List.{range_with_len, flat_map, filter}
use Rattle.std.proofs.lemmas.List.{map-append}
use Rattle.std.proofs.lemmas.Bool.{cases_eq}
use Rattle.heap_big.specs.Pages.{GainsOne}

pub gains-front : {A : Type 0} (xs old : List A) (one : A) (new : List A) → GainsOne old one new → GainsOne (xs ++ old) one (xs ++ new)
gains-front xs old one new g = record {
  front = xs ++ g.front;
  back = g.back;
  old_is = ap (λ (ys : List _). xs ++ ys) g.old_is ∙ sym (append_assoc xs g.front g.back);
  new_is = ap (λ (ys : List _). xs ++ ys) g.new_is ∙ sym (append_assoc xs g.front (one ∷ g.back));
}

pub gains-back : {A : Type 0} (xs old : List A) (one : A) (new : List A) → GainsOne old one new → GainsOne (old ++ xs) one (new ++ xs)
gains-back xs old one new g = record {
  front = g.front;
  back = g.back ++ xs;
  old_is = ap (λ (ys : List _). ys ++ xs) g.old_is ∙ append_assoc g.front g.back xs;
  new_is = ap (λ (ys : List _). ys ++ xs) g.new_is ∙ append_assoc g.front (one ∷ g.back) xs;
}

pub gains-map : {A B : Type 0} (f : A → B) (old : List A) (one : A) (new : List A) → GainsOne old one new → GainsOne (map f old) (f one) (map f new)
gains-map f old one new g = record {
  front = map f g.front;
  back = map f g.back;
  old_is = ap (map f) g.old_is ∙ map-append f g.front g.back;
  new_is = ap (map f) g.new_is ∙ map-append f g.front (one ∷ g.back);
}

-- what a function gives at each number of a range
pub flat_map-same : {A : Type 0} (f g : ℕ → List A) (n a : ℕ) → ((k : ℕ) → a ≤ k → k < a + n → f k ≡ g k) → flat_map f (range_with_len a n) ≡ flat_map g (range_with_len a n)
flat_map-same f g zero a same = refl
flat_map-same f g (suc n) a same = ap (λ (xs : List _). xs ++ flat_map f (range_with_len (a + 1) n)) (same a (omega arith) (omega arith))
    ∙ ap (λ (ys : List _). g a ++ ys) (flat_map-same f g n (a + 1) (λ k above below. same k (omega arith) (omega arith)))

pub flat_map-gains : {A : Type 0} (f g : ℕ → List A) (at : ℕ) (one : A) → GainsOne (f at) one (g at) → (n a : ℕ) → a ≤ at → at < a + n
    → ((k : ℕ) → a ≤ k → k < a + n → k ≢ at → f k ≡ g k) → GainsOne (flat_map f (range_with_len a n)) one (flat_map g (range_with_len a n))
flat_map-gains f g at one gain zero a above below same = absurd (omega arith)
flat_map-gains f g at one gain (suc n) a above below same =
    first (cases_eq a at) (λ x y. flat_map-gains f g at one gain n (a + 1) x y (λ k u v apart. same k (omega arith) (omega arith) apart))
  where
    first : (a ≡ at) ⊎ (a ≡ at → ⊥) → (a + 1 ≤ at → at < a + 1 + n → GainsOne (flat_map f (range_with_len (a + 1) n)) one (flat_map g (range_with_len (a + 1) n)))
        → GainsOne (flat_map f (range_with_len a (suc n))) one (flat_map g (range_with_len a (suc n)))
    first (inl is) later =
        subst (λ (xs : List _). GainsOne (f a ++ xs) one (g a ++ flat_map g (range_with_len (a + 1) n)))
        (sym (flat_map-same f g n (a + 1) (λ k x y. same k (omega arith) (omega arith) (λ e. omega (arith, e, is)))))
        (gains-back (flat_map g (range_with_len (a + 1) n)) (f a) one (g a) (subst (λ (k : ℕ). GainsOne (f k) one (g k)) (sym is) gain))
    first (inr apart) later =
        subst (λ (xs : List _). GainsOne (f a ++ flat_map f (range_with_len (a + 1) n)) one (xs ++ flat_map g (range_with_len (a + 1) n)))
        (same a (omega arith) (omega arith) apart)
        (gains-front (f a) (flat_map f (range_with_len (a + 1) n)) one (flat_map g (range_with_len (a + 1) n)) (later (omega arith) (omega arith)))

-- a test that one more number of a range passes
abbrev passing : (ℕ → Bool) → ℕ → List ℕ
passing p k = cond (p k) (k ∷ []) []

filter-flat_map : (p : ℕ → Bool) (xs : List ℕ) → filter p xs ≡ flat_map (passing p) xs
filter-flat_map p [] = refl
filter-flat_map p (x ∷ xs) = head (p x) ∙ ap (λ (ys : List ℕ). passing p x ++ ys) (filter-flat_map p xs)
  where
    head : (b : Bool) → cond b (x ∷ filter p xs) (filter p xs) ≡ cond b (x ∷ []) [] ++ filter p xs
    head true = refl
    head false = refl

pub filter-gains : (p q : ℕ → Bool) (at : ℕ) → p at ≡ false → q at ≡ true → (n a : ℕ) → a ≤ at → at < a + n → ((k : ℕ) → k ≢ at → p k ≡ q k)
    → GainsOne (filter p (range_with_len a n)) at (filter q (range_with_len a n))
filter-gains p q at misses passes n a above below same =
    subst (λ (xs : List ℕ). GainsOne xs at (filter q (range_with_len a n))) (sym (filter-flat_map p (range_with_len a n)))
    (subst (λ (xs : List ℕ). GainsOne (flat_map (passing p) (range_with_len a n)) at xs) (sym (filter-flat_map q (range_with_len a n)))
    (flat_map-gains (passing p) (passing q) at at one n a above below (λ k x y apart. ap (λ (b : Bool). cond b (k ∷ []) []) (same k apart))))
  where
    one : GainsOne (passing p at) at (passing q at)
    one = record {
      front = [];
      back = [];
      old_is = ap (λ (b : Bool). cond b (at ∷ []) []) misses;
      new_is = ap (λ (b : Bool). cond b (at ∷ []) []) passes;
    }
