-- The elements of the lists that definitions make.
use Rattle.std.proofs.Common.{◌≡◌, ◌⊎◌, inl, inr, ⊎_elim, ℕ, zero, suc, ◌<◌, Bool, true, List, [], ◌∷◌, map, refl, sym, subst, ap, arith}
use Rattle.std.specs.Prelude.{Contains, filter}
use Rattle.std.specs.List.{flat_map}
use Rattle.std.proofs.lemmas.Bool.{cases_Bool}
use Rattle.std.proofs.lemmas.List.FromFn.{length-range_with_len, get_or-range_with_len}
use Rattle.std.proofs.lemmas.List.Elements.{Contains-append_left, Contains-append_right, Contains-append_cases}
use Rattle.image_layout.specs.Places.{below}

pub Contains-below : (n x : ℕ) → Contains (below n) x → x < n
Contains-below n x (k, lt, is) =
    let in_range : k < n = omega (arith, length-range_with_len 0 n) in
    omega (arith, get_or-range_with_len 0 n k x in_range)

pub below-Contains : (n x : ℕ) → x < n → Contains (below n) x
below-Contains n x lt = (x, omega (arith, length-range_with_len 0 n), omega (arith, get_or-range_with_len 0 n x x lt))

pub Contains-here : {X : Type 0} (x : X) (xs : List X) → Contains (x ∷ xs) x
Contains-here x xs = (0, omega arith, refl)

pub Contains-there : {X : Type 0} (x y : X) (xs : List X) → Contains xs y → Contains (x ∷ xs) y
Contains-there x y xs (k, lt, is) = (suc k, omega arith, is)

pub Contains-cons : {X : Type 0} (x y : X) (xs : List X) → Contains (x ∷ xs) y → (x ≡ y) ⊎ Contains xs y
Contains-cons x y xs (zero, lt, is) = inl is
Contains-cons x y xs (suc k, lt, is) = inr (k, omega arith, is)

pub Contains-nil : {X : Type 0} (y : X) → Contains [] y → ⊥
Contains-nil y (k, lt, is) = omega arith

pub Contains-flat_map : {X Y : Type 0} (f : X → List Y) (xs : List X) (y : Y) → Contains (flat_map f xs) y → (x : X) × Contains xs x × Contains (f x) y
Contains-flat_map f [] y is = absurd (Contains-nil y is)
Contains-flat_map f (x ∷ xs) y is =
    ⊎_elim (λ first. (x, Contains-here x xs, first))
    (λ later. let rest = Contains-flat_map f xs y later in (rest.0, Contains-there x rest.0 xs rest.1, rest.2))
    (Contains-append_cases (f x) (flat_map f xs) y is)

pub flat_map-Contains : {X Y : Type 0} (f : X → List Y) (xs : List X) (x : X) (y : Y) → Contains xs x → Contains (f x) y → Contains (flat_map f xs) y
flat_map-Contains f [] x y is of = absurd (Contains-nil x is)
flat_map-Contains {X} {Y} f (first ∷ xs) x y is of =
    let P : X → Type 0 = λ z. Contains (f z) y in
    ⊎_elim (λ here. Contains-append_left (f first) (flat_map f xs) y (subst P (sym here) of))
    (λ there. Contains-append_right (f first) (flat_map f xs) y (flat_map-Contains f xs x y there of))
    (Contains-cons first x xs is)

pub Contains-map : {X Y : Type 0} (f : X → Y) (xs : List X) (y : Y) → Contains (map f xs) y → (x : X) × Contains xs x × (f x ≡ y)
Contains-map f [] y is = absurd (Contains-nil y is)
Contains-map f (x ∷ xs) y is =
    ⊎_elim (λ here. (x, Contains-here x xs, here))
    (λ there. let rest = Contains-map f xs y there in (rest.0, Contains-there x rest.0 xs rest.1, rest.2))
    (Contains-cons (f x) y (map f xs) is)

pub map-Contains : {X Y : Type 0} (f : X → Y) (xs : List X) (x : X) → Contains xs x → Contains (map f xs) (f x)
map-Contains f [] x is = absurd (Contains-nil x is)
map-Contains {X} {Y} f (first ∷ xs) x is =
    let P : Y → Type 0 = λ y. Contains (f first ∷ map f xs) y in
    ⊎_elim (λ here. subst P (ap f here) (Contains-here (f first) (map f xs)))
    (λ there. Contains-there (f first) (f x) (map f xs) (map-Contains f xs x there)) (Contains-cons first x xs is)

pub Contains-filter : {X : Type 0} (p : X → Bool) (xs : List X) (x : X) → Contains (filter p xs) x → Contains xs x × (p x ≡ true)
Contains-filter p [] x is = absurd (Contains-nil x is)
Contains-filter {X} p (first ∷ xs) x is =
    let P : X → Type 0 = λ z. p z ≡ true in
    ⊎_elim
    (λ hit. let kept = rw hit at is in
    ⊎_elim (λ here. let Q : X → Type 0 = λ z. Contains (first ∷ xs) z in (subst Q here (Contains-here first xs), subst P here hit))
    (λ there. let rest = Contains-filter p xs x there in (Contains-there first x xs rest.0, rest.1)) (Contains-cons first x (filter p xs) kept))
    (λ miss. let rest = Contains-filter p xs x (rw miss at is) in (Contains-there first x xs rest.0, rest.1))
    (cases_Bool (p first))

pub filter-Contains : {X : Type 0} (p : X → Bool) (xs : List X) (x : X) → Contains xs x → p x ≡ true → Contains (filter p xs) x
filter-Contains p [] x is pass = absurd (Contains-nil x is)
filter-Contains {X} p (first ∷ xs) x is pass =
    let P : X → Type 0 = λ z. p z ≡ true in
    let Q : X → Type 0 = λ z. Contains (first ∷ filter p xs) z in
    ⊎_elim (λ here. let hit : p first ≡ true = subst P (sym here) pass in rw hit (subst Q here (Contains-here first (filter p xs))))
    (λ there. let rest = filter-Contains p xs x there pass in
    ⊎_elim (λ hit. rw hit (Contains-there first x (filter p xs) rest)) (λ miss. rw miss rest) (cases_Bool (p first))) (Contains-cons first x xs is)
