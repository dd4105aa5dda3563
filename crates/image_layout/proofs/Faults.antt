-- The first fault of an image: there is none exactly where each check of each rule holds.
use Rattle.std.proofs.Common.{◌≡◌, ⊎_elim, ℕ, true, false, List, [], ◌∷◌, ◌++◌, map, get_or, refl, sym, ◌∙◌}
use Rattle.std.specs.Prelude.{◌↔◌, All, Contains, IsTrue, Option, None, Some, option_map}
use Rattle.std.proofs.lemmas.Bool.{cases_Bool}
use Rattle.std.proofs.lemmas.List.Elements.{All-nil, All-cons, All-head, All-tail, All-map, Contains-get_or}
use Rattle.std.proofs.lemmas.Option.{none-some}
use Rattle.image_layout.specs.Checks.{Check, Keeps, Numbered, Fault, first_failing, or_else, first_fault}

-- the check holds
abbrev pub Holds : Check → Type 0
Holds c = IsTrue c.holds

-- each check holds where the checks of a list are made one from each element
pub mapped_hold : (f : ℕ → Check) (xs : List ℕ) → ((x : ℕ) → Contains xs x → IsTrue (f x).holds) → All Holds (map f xs)
mapped_hold f xs hold = All-map Holds f xs (λ k d lt. hold (get_or xs k d) (Contains-get_or xs k d lt))

-- ── the first check that fails ──

pub passes : (c : Check) (checks : List Check) → c.holds ≡ true → first_failing (c ∷ checks) ≡ first_failing checks
passes c checks hit = rw hit refl

pub fails : (c : Check) (checks : List Check) → c.holds ≡ false → first_failing (c ∷ checks) ≡ Some c.place
fails c checks miss = rw miss refl

-- of checks that are put together, it is one of the others where none of the first ones fails
pub pass-all : (xs ys : List Check) → first_failing xs ≡ None → first_failing (xs ++ ys) ≡ first_failing ys
pass-all [] ys none = refl
pass-all (c ∷ xs) ys none =
    ⊎_elim (λ hit. passes c (xs ++ ys) hit ∙ pass-all xs ys (sym (passes c xs hit) ∙ none))
    (λ miss. absurd (none-some c.place (sym none ∙ fails c xs miss)))
    (cases_Bool c.holds)

pub fail-first : (xs ys : List Check) (p : ℕ) → first_failing xs ≡ Some p → first_failing (xs ++ ys) ≡ Some p
fail-first [] ys p some = absurd (none-some p some)
fail-first (c ∷ xs) ys p some =
    ⊎_elim (λ hit. passes c (xs ++ ys) hit ∙ fail-first xs ys p (sym (passes c xs hit) ∙ some))
    (λ miss. fails c (xs ++ ys) miss ∙ sym (fails c xs miss) ∙ some)
    (cases_Bool c.holds)

-- checks that all hold have no first one that fails
pub first_failing-none : (checks : List Check) → All Holds checks → first_failing checks ≡ None
first_failing-none [] hold = refl
first_failing-none (c ∷ checks) hold =
    let first : c.holds ≡ true = All-head Holds c checks hold in
    rw first (first_failing-none checks (All-tail Holds c checks hold))

pub all_hold : (checks : List Check) → first_failing checks ≡ None → All Holds checks
all_hold [] none = All-nil Holds
all_hold (c ∷ checks) none =
    ⊎_elim (λ hit. All-cons Holds c checks hit (all_hold checks (rw hit at none)))
    (λ miss. absurd (no_place c checks miss none)) (cases_Bool c.holds)
  where
    no_place : (c : Check) (checks : List Check) → c.holds ≡ false → first_failing (c ∷ checks) ≡ None → ⊥
    no_place c checks miss none = let e = rw miss at none in cc

or_else-none : (number : ℕ) (place : Option ℕ) (rest : Option Fault) → or_else (option_map (λ p. record { rule = number; place = p }) place) rest ≡ None → (place ≡ None) × (rest ≡ None)
or_else-none number None rest none = (refl, none)
or_else-none number (Some p) rest none = absurd (cc)

pub or_else-parts : (first rest : Option Fault) → or_else first rest ≡ None → (first ≡ None) × (rest ≡ None)
or_else-parts None rest none = (refl, none)
or_else-parts (Some fault) rest none = absurd (cc)

-- the image keeps a rule of a list
abbrev pub KeepsNumbered : List ℕ → Numbered → Type 0
KeepsNumbered words rule = Keeps words rule.rule

pub keeps_all : (rules : List Numbered) (words : List ℕ) → first_fault rules words ≡ None → All (KeepsNumbered words) rules
keeps_all [] words none = All-nil (KeepsNumbered words)
keeps_all (rule ∷ rules) words none =
    let both = or_else-none rule.number (first_failing (rule.rule words)) (first_fault rules words) none in
    All-cons (KeepsNumbered words) rule rules (record { checks = all_hold (rule.rule words) both.0 }) (keeps_all rules words both.1)

pub first_fault-none : (rules : List Numbered) (words : List ℕ) → All (KeepsNumbered words) rules → first_fault rules words ≡ None
first_fault-none [] words keeps = refl
first_fault-none (rule ∷ rules) words keeps =
    let none = first_failing-none (rule.rule words) (All-head (KeepsNumbered words) rule rules keeps).checks in
    rw none (first_fault-none rules words (All-tail (KeepsNumbered words) rule rules keeps))

pub no_fault : (rules : List Numbered) (words : List ℕ) → (first_fault rules words ≡ None) ↔ All (λ rule. Keeps words rule.rule) rules
no_fault rules words = (keeps_all rules words, first_fault-none rules words)
