-- What stands on a command line, by its words and not by the walk over them.
use Rattle.std.specs.Prelude.{ℕ, ◌≡◌, ◌⊎◌, ◌↔◌, true, false, List, [], ◌∷◌, None, Some}
use Rattle.std.specs.List.{list_all}
use Rattle.command_line.specs.Parts.{Part, has_minus, is_known, may_stand, option_name, option_value, parts_of, path}

-- the word names this option, which is known
pub record NamesOption (known : List (List ℕ)) (name word : List ℕ) : Type 0 where
  pub minus : has_minus word ≡ true
  pub name_is : option_name word ≡ name
  pub known_is : is_known known name ≡ true

-- the words begin with a path, and these follow it
pub record IsPath (part : Part) (words rest : List (List ℕ)) : Type 0 where
  pub words_are : words ≡ part.value ∷ rest
  pub plain : has_minus part.value ≡ false
  pub name_is : part.name ≡ path

-- the words begin with an option whose value stands in its word, behind an equals sign
pub record IsOneWord (known : List (List ℕ)) (part : Part) (words rest : List (List ℕ)) : Type 0 where
  pub word : List ℕ
  pub words_are : words ≡ word ∷ rest
  pub names : NamesOption known part.name word
  pub value_is : option_value word ≡ Some part.value

-- the words begin with an option and its value, which is the next word and begins with no minus
pub record IsTwoWords (known : List (List ℕ)) (part : Part) (words rest : List (List ℕ)) : Type 0 where
  pub word : List ℕ
  pub words_are : words ≡ word ∷ part.value ∷ rest
  pub names : NamesOption known part.name word
  pub no_value : option_value word ≡ None
  pub plain : has_minus part.value ≡ false

-- the words are these parts, one behind the other
abbrev pub ArePartsOf : List (List ℕ) → List Part → List (List ℕ) → Type 0
ArePartsOf known [] words = words ≡ []
ArePartsOf known (part ∷ parts) words =
    (rest : List (List ℕ))
    × (IsPath part words rest ⊎ IsOneWord known part words rest ⊎ IsTwoWords known part words rest)
    × ArePartsOf known parts rest

-- the parts of words are exactly those that stand there; each word is one that may stand
abbrev pub ReadsEachPart : Type 0
ReadsEachPart = (known words : List (List ℕ)) (parts : List Part)
    → (parts_of known words ≡ Some parts) ↔ ((list_all may_stand words ≡ true) × ArePartsOf known parts words)
