-- What a reading of words returned.
use Rattle.std.specs.Prelude.{ℕ, ◌≡◌, List, [], Option, None, Some, Result, Ok, Err, option_map, unwrap_or}
use Rattle.clap.specs.Words.{found_of, matched_of, raw_values}
use Rattle.command_line.specs.declared.arguments.Arguments.{Arguments}
use Rattle.command_line.specs.declared.arguments.WordsError.{WordsError}
use Rattle.command_line.specs.declared.arguments.WordsError.TheVariants as error
use Rattle.command_line.specs.Parts.{Part, given}

-- the values that the arguments have of this name, if they have some
abbrev pub values_in : Arguments → List ℕ → Option (List (List ℕ))
values_in arguments name = option_map raw_values (matched_of (found_of arguments.matches) name)

-- the arguments have the values of these parts
abbrev pub Has : List Part → Arguments → Type 0
Has parts arguments = (name : List ℕ) → unwrap_or (values_in arguments name) [] ≡ given name parts

-- the words were refused where they have no parts, or memory ran out
abbrev pub Refuses : WordsError → Option (List Part) → Type 0
Refuses error.Usage said = said ≡ None
Refuses error.NoMemory said = Unit {0}

-- the words were read as their parts, or refused
abbrev pub Reads : Result Arguments WordsError → Option (List Part) → Type 0
Reads (Ok arguments) said = (parts : List Part) × (said ≡ Some parts) × Has parts arguments
Reads (Err refusal) said = Refuses refusal said
