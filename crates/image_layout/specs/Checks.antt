-- A rule of an image is a list of checks, in the order in which they are tried. Each is at a word.
use Rattle.std.specs.Prelude.{ℕ, Bool, not, IsTrue, List, [], ◌∷◌, Option, None, Some, option_map, All, find}

-- a word's place, and whether what the rule says of the word holds
pub record Check : Type 0 where
  pub place : ℕ
  pub holds : Bool

abbrev pub check : ℕ → Bool → Check
check place holds = record { place = place; holds = holds }

-- a rule, as a function of the words
abbrev pub Rule : Type 0
Rule = List ℕ → List Check

-- each check of the rule holds
pub record Keeps (words : List ℕ) (rule : Rule) : Type 0 where
  pub checks : All (λ c. IsTrue c.holds) (rule words)

-- the place of the first check that fails
abbrev pub first_failing : List Check → Option ℕ
first_failing checks = option_map (λ c. c.place) (find (λ c. not c.holds) checks)

-- a rule and its number
pub record Numbered : Type 0 where
  pub number : ℕ
  pub rule : Rule

abbrev pub numbered : ℕ → Rule → Numbered
numbered number rule = record { number = number; rule = rule }

-- a rule's number, and the place of its first check that fails
pub record Fault : Type 0 where
  pub rule : ℕ
  pub place : ℕ

abbrev pub or_else : Option Fault → Option Fault → Option Fault
or_else None other = other
or_else (Some fault) other = Some fault

-- the fault of a rule, where one of its checks fails
abbrev pub fault_of : List ℕ → Numbered → Option Fault
fault_of words rule =
    option_map (λ place. record { rule = rule.number; place = place }) (first_failing (rule.rule words))

-- the first fault among rules that are tried in this order
abbrev pub first_fault : List Numbered → List ℕ → Option Fault
first_fault [] words = None
first_fault (rule ∷ rules) words = or_else (fault_of words rule) (first_fault rules words)
