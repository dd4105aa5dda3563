-- The first fault among numbered rules, by the parts of their list.
use Rattle.std.proofs.Common.{◌≡◌, ℕ, true, false, List, [], ◌∷◌, ◌++◌, refl, sym, ◌∙◌, ap}
use Rattle.std.specs.Prelude.{Option, None, Some, option_map}
use Rattle.std.specs.Option.{is_some, option_or}
use Rattle.std.proofs.lemmas.Bool.{true≢false, false≢true}
use Rattle.image_layout.specs.Checks.{Fault, Numbered, first_failing, or_else, fault_of, first_fault}
use Rattle.image_rules.specs.declared.numbered_rules.RuleFault.{RuleFault}
use Rattle.image_rules.specs.NumberedRules.{told}

or_else-nothing : (a : Option Fault) → or_else a None ≡ a
or_else-nothing None = refl
or_else-nothing (Some f) = refl

or_else-assoc : (a b c : Option Fault) → or_else (or_else a b) c ≡ or_else a (or_else b c)
or_else-assoc None b c = refl
or_else-assoc (Some f) b c = refl

pub append : (xs ys : List Numbered) (words : List ℕ) → first_fault (xs ++ ys) words ≡ or_else (first_fault xs words) (first_fault ys words)
append [] ys words = refl
append (x ∷ xs) ys words =
    ap (λ (rest : Option Fault). or_else (fault_of words x) rest) (append xs ys words) ∙ sym (or_else-assoc (fault_of words x) (first_fault xs words) (first_fault ys words))

told-or : (a b : Option RuleFault) → told (option_or a b) ≡ or_else (told a) (told b)
told-or None b = refl
told-or (Some f) b = refl

-- what one rule is told of
pub one : (rule : Numbered) (words : List ℕ) (found : Option ℕ) (fault : Option RuleFault) → told fault ≡ option_map (λ at. record { rule = rule.number; place = at }) found
    → found ≡ first_failing (rule.rule words) → told fault ≡ first_fault (rule ∷ []) words
one rule words found fault is here =
    is ∙ ap (λ (at : Option ℕ). option_map (λ (p : ℕ). record { rule = rule.number; place = p }) at) here ∙ sym (or_else-nothing (fault_of words rule))

-- what is told of some rules, or else of others behind them
pub both : (xs ys : List Numbered) (words : List ℕ) (a b c : Option RuleFault) → c ≡ option_or a b → told a ≡ first_fault xs words → told b ≡ first_fault ys words → told c ≡ first_fault (xs ++ ys) words
both xs ys words a b c is first rest =
    ap told is ∙ told-or a b ∙ ap (λ (x : Option Fault). or_else x (told b)) first ∙ ap (λ (x : Option Fault). or_else (first_fault xs words) x) rest ∙ sym (append xs ys words)

-- the rules of which nothing is told are kept
pub told-none : (xs : List Numbered) (words : List ℕ) (found : Option RuleFault) → told found ≡ first_fault xs words → is_some found ≡ false → first_fault xs words ≡ None
told-none xs words None is none = sym is
told-none xs words (Some f) is none = absurd (true≢false none)

pub told-first : (xs ys : List Numbered) (words : List ℕ) (found : Option RuleFault) → told found ≡ first_fault xs words → is_some found ≡ true → told found ≡ first_fault (xs ++ ys) words
told-first xs ys words None is some = absurd (false≢true some)
told-first xs ys words (Some f) is some = ap (λ (x : Option Fault). or_else x (first_fault ys words)) is ∙ sym (append xs ys words)

pub told-rest : (xs ys : List Numbered) (words : List ℕ) (found rest : Option RuleFault) → told found ≡ first_fault xs words → is_some found ≡ false → told rest ≡ first_fault ys words
    → told rest ≡ first_fault (xs ++ ys) words
told-rest xs ys words found rest is none here =
    here ∙ sym (append xs ys words ∙ ap (λ (x : Option Fault). or_else x (first_fault ys words)) (told-none xs words found is none))
