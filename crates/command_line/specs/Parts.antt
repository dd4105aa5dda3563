-- What stands on a command line: paths, and options with their values.
use Rattle.std.specs.Prelude.{ℕ, ◌==◌, ◌&&◌, nat_lt, Bool, List, [], ◌∷◌, length, codes, drop, slice_index, Option, None, Some, if◌then◌else◌, option_map}
use Rattle.std.specs.List.{after_first, before_first, flat_map, list_all, list_any}
use Rattle.std.specs.Str.{bytes_eq}

-- a value, and the name of its option; a path is the value of the name `path`
pub record Part : Type 0 where
  pub name : List ℕ
  pub value : List ℕ

-- what paths are called
abbrev pub path : List ℕ
path = codes "path"

-- the word begins with a minus
abbrev pub has_minus : List ℕ → Bool
has_minus word = slice_index word 0 == 45

-- The word is not empty. If it begins with a minus it is an option's: a second minus follows, and something else.
abbrev pub may_stand : List ℕ → Bool
may_stand word =
    if has_minus word then slice_index word 1 == 45 && nat_lt 2 (length word) else nat_lt 0 (length word)

-- an equals sign
abbrev pub is_equals : ℕ → Bool
is_equals byte = byte == 61

-- the name in an option's word, and the value that stands there behind an equals sign
abbrev pub option_name : List ℕ → List ℕ
option_name word = before_first is_equals (drop 2 word)

abbrev pub option_value : List ℕ → Option (List ℕ)
option_value word =
    if list_any is_equals (drop 2 word) then Some (after_first is_equals (drop 2 word)) else None

-- there is an option with this name
abbrev pub is_known : List (List ℕ) → List ℕ → Bool
is_known known name = list_any (λ option. bytes_eq option name) known

-- one more value of this name
abbrev pub with_part : List ℕ → List ℕ → Option (List Part) → Option (List Part)
with_part name value = option_map (λ parts. record { name = name; value = value } ∷ parts)

-- an option whose value stands in its word, before these others, or else one that awaits it
abbrev pub with_option : List ℕ → Option (List ℕ) → Option (List Part) → Option (List Part) → Option (List Part)
with_option name (Some value) others awaiting = with_part name value others
with_option name None others awaiting = awaiting

-- The parts of these words, from left to right, where the option that is named first awaits its value. There are
-- none where an option is unknown, or is followed by no word or by one that begins with a minus.
abbrev pub parts_from : List (List ℕ) → Option (List ℕ) → List (List ℕ) → Option (List Part)
parts_from known None [] = Some []
parts_from known (Some name) [] = None
parts_from known None (word ∷ words) =
    if has_minus word
    then (if is_known known (option_name word)
    then with_option (option_name word) (option_value word) (parts_from known None words)
    (parts_from known (Some (option_name word)) words)
    else None)
    else with_part path word (parts_from known None words)
parts_from known (Some name) (word ∷ words) =
    if has_minus word then None else with_part name word (parts_from known None words)

-- the parts of these words, where the options have these names
abbrev pub parts_of : List (List ℕ) → List (List ℕ) → Option (List Part)
parts_of known words = if list_all may_stand words then parts_from known None words else None

-- the value of the part, where it has this name
abbrev pub value_in : List ℕ → Part → List (List ℕ)
value_in name part = if bytes_eq part.name name then part.value ∷ [] else []

-- the values of this name, in their order
abbrev pub given : List ℕ → List Part → List (List ℕ)
given name = flat_map (value_in name)
