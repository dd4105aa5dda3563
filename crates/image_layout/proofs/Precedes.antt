-- An element of a list that stands before another one.
use Rattle.std.proofs.Common.{◌≡◌, ◌⊎◌, inl, inr, ⊎_elim, ℕ, zero, suc, ◌+◌, ◌<◌, ◌≤◌, Bool, true, List, [], ◌∷◌, ◌++◌, ◌-◌, map, sym, ◌∙◌, subst, ap, arith}
use Rattle.std.specs.Prelude.{AllPairs, Contains, filter}
use Rattle.std.specs.List.{flat_map, range_with_len}
use Rattle.std.proofs.lemmas.Bool.{cases_Bool, cases_lt}
use Rattle.std.proofs.lemmas.List.FromFn.{length-range_with_len, get_or-range_with_len}
use Rattle.std.proofs.lemmas.List.Elements.{Contains-append_left, Contains-append_right}
use Rattle.image_layout.proofs.Members.{Contains-cons, Contains-nil, flat_map-Contains, map-Contains, filter-Contains}

-- x stands in the list, and y behind it
abbrev pub Precedes : {X : Type 0} → List X → X → X → Type 0
Precedes [] x y = ⊥
Precedes (z ∷ zs) x y = ((z ≡ x) × Contains zs y) ⊎ Precedes zs x y

pub precedes_left : {X : Type 0} (xs ys : List X) (x y : X) → Precedes xs x y → Precedes (xs ++ ys) x y
precedes_left [] ys x y is = absurd is
precedes_left (z ∷ xs) ys x y is =
    ⊎_elim (λ here. inl (here.0, Contains-append_left xs ys y here.1)) (λ later. inr (precedes_left xs ys x y later)) is

pub precedes_right : {X : Type 0} (xs ys : List X) (x y : X) → Precedes ys x y → Precedes (xs ++ ys) x y
precedes_right [] ys x y is = is
precedes_right (z ∷ xs) ys x y is = inr (precedes_right xs ys x y is)

pub precedes_across : {X : Type 0} (xs ys : List X) (x y : X) → Contains xs x → Contains ys y → Precedes (xs ++ ys) x y
precedes_across [] ys x y first second = absurd (Contains-nil x first)
precedes_across (z ∷ xs) ys x y first second =
    ⊎_elim (λ here. inl (here, Contains-append_right xs ys y second)) (λ there. inr (precedes_across xs ys x y there second)) (Contains-cons z x xs first)

pub precedes_map : {X Y : Type 0} (f : X → Y) (xs : List X) (x y : X) → Precedes xs x y → Precedes (map f xs) (f x) (f y)
precedes_map f [] x y is = absurd is
precedes_map f (z ∷ xs) x y is =
    ⊎_elim (λ here. inl (ap f here.0, map-Contains f xs y here.1)) (λ later. inr (precedes_map f xs x y later)) is

pub precedes_filter : {X : Type 0} (p : X → Bool) (xs : List X) (x y : X) → p x ≡ true → p y ≡ true → Precedes xs x y → Precedes (filter p xs) x y
precedes_filter p [] x y first second is = absurd is
precedes_filter {X} p (z ∷ xs) x y first second is =
    let P : X → Type 0 = λ w. p w ≡ true in
    ⊎_elim
    (λ here. rw (subst P (sym here.0) first) (inl (here.0, filter-Contains p xs y here.1 second)))
    (λ later. let rest = precedes_filter p xs x y first second later in ⊎_elim (λ hit. rw hit (inr rest)) (λ miss. rw miss rest) (cases_Bool (p z)))
    is

-- what two elements give, and what one of them gives
pub precedes_parts : {X Y : Type 0} (f : X → List Y) (xs : List X) (a b : X) (x y : Y) → Precedes xs a b → Contains (f a) x → Contains (f b) y → Precedes (flat_map f xs) x y
precedes_parts f [] a b x y is first second = absurd is
precedes_parts {X} {Y} f (z ∷ xs) a b x y is first second =
    let P : X → Type 0 = λ w. Contains (f w) x in
    ⊎_elim
    (λ here. precedes_across (f z) (flat_map f xs) x y (subst P (sym here.0) first) (flat_map-Contains f xs b y here.1 second))
    (λ later. precedes_right (f z) (flat_map f xs) x y (precedes_parts f xs a b x y later first second))
    is

pub precedes_within : {X Y : Type 0} (f : X → List Y) (xs : List X) (a : X) (x y : Y) → Contains xs a → Precedes (f a) x y → Precedes (flat_map f xs) x y
precedes_within f [] a x y is both = absurd (Contains-nil a is)
precedes_within {X} {Y} f (z ∷ xs) a x y is both =
    let P : X → Type 0 = λ w. Precedes (f w) x y in
    ⊎_elim
    (λ here. precedes_left (f z) (flat_map f xs) x y (subst P (sym here) both))
    (λ there. precedes_right (f z) (flat_map f xs) x y (precedes_within f xs a x y there both))
    (Contains-cons z a xs is)

pub precedes_below : (from count i j : ℕ) → from ≤ i → i < j → j < from + count → Precedes (range_with_len from count) i j
precedes_below from zero i j low order high = absurd (omega (arith, low, order, high))
precedes_below from (suc count) i j low order high =
    ⊎_elim
    (λ (lt : from < i). inr (precedes_below (from + 1) count i j (omega (arith, lt)) order (omega (arith, high))))
    (λ ge. inl (
      omega (arith, low, ge),
      (
        j - (from + 1),
        omega (arith, low, order, high, length-range_with_len (from + 1) count),
        omega (arith, low, order, high, get_or-range_with_len (from + 1) count (j - (from + 1)) j (omega (arith, low, order, high))),
      ),
    ))
    (cases_lt from i)

-- what holds of all pairs holds of these two
pub pair_of : {X : Type 0} (R : X → X → Type 0) (xs : List X) (x y : X) → AllPairs R xs → Precedes xs x y → R x y
pair_of R [] x y all is = absurd is
pair_of {X} R (z ∷ xs) x y all is =
    ⊎_elim
    (λ here. let P : X → Type 0 = λ w. R w y in let Q : X → Type 0 = λ w. R z w in
    let (k, lt, at) = here.1 in
    subst P here.0 (subst Q at (all 0 (suc k) y (omega arith) (omega (arith, lt)))))
    (λ later. pair_of R xs x y (λ i j d order lt. all (suc i) (suc j) d (omega (arith, order)) (omega (arith, lt))) later)
    is

-- of two elements that differ one stands before the other
pub either_first : {X : Type 0} (xs : List X) (x y : X) → Contains xs x → Contains xs y → (x ≡ y → ⊥) → Precedes xs x y ⊎ Precedes xs y x
either_first [] x y one two apart = absurd (Contains-nil x one)
either_first (z ∷ xs) x y one two apart =
    ⊎_elim
    (λ first. ⊎_elim (λ second. absurd (apart (sym first ∙ second))) (λ there. inl (inl (first, there))) (Contains-cons z y xs two))
    (λ later. ⊎_elim (λ second. inr (inl (second, later)))
    (λ there. ⊎_elim (λ before. inl (inr before)) (λ after. inr (inr after)) (either_first xs x y later there apart)) (Contains-cons z y xs two))
    (Contains-cons z x xs one)
