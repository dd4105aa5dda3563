-- The words of the command line.
use Rattle.std.specs.Prelude.{ℕ, take, drop, length, ◌≡◌, ◌&&◌, ◌||◌, true, ◌^◌, ◌≤◌, nat_eq, nat_le, nat_lt, Bool, List, [], ◌∷◌, codes, Option, None, Some, option_map, option_and_then, unwrap_or, Result, Ok, Err, if◌then◌else◌, map}
use Rattle.std.specs.Borrow.{Bor}
use Rattle.std.specs.List.{list_all}
use Rattle.std.specs.Cmp.Lexicographic.{pointwise}
use Rattle.pm_model.specs.declared.action.Keep.{Keep}
use Rattle.pm_model.specs.declared.action.Keep.TheVariants as keep
use Rattle.sf_value.specs.Number.{number_of}
use Rattle.command_line.specs.declared.arguments.WordsError.{WordsError}
use Rattle.command_line.specs.declared.arguments.WordsError.TheVariants as error
use Rattle.command_line.specs.declared.words.Command.{Command}
use Rattle.command_line.specs.declared.words.Command.TheVariants.{Run}
use Rattle.command_line.specs.declared.words.Job.{Job}
use Rattle.command_line.specs.declared.words.Job.TheVariants as job
use Rattle.command_line.specs.declared.words.Paths.{Paths}
use Rattle.command_line.specs.Parts.{given, may_stand, parts_of, path}

-- the word is this one
abbrev pub is_word : List ℕ → List ℕ → Bool
is_word word this = pointwise nat_eq word this

-- what follows these words, where the line begins with them
abbrev pub after_words : List ℕ → List ℕ → Option (List ℕ)
after_words words bytes =
    if pointwise nat_eq (take (length words) bytes) words then Some (drop (length words) bytes) else None

-- ── the values of options ──

-- a number that 64 bits hold
abbrev pub word_of : ℕ → Option ℕ
word_of number = if nat_lt number (2 ^ 64) then Some number else None

-- the number that a word spells: 1 to 20 digits, and 64 bits hold it
abbrev pub option_number : List ℕ → Option ℕ
option_number word = option_and_then word_of (number_of 20 word)

-- how many segments an image has: 1 to 128
abbrev pub from_1_to_128 : ℕ → Option ℕ
from_1_to_128 number = if nat_le 1 number && nat_le number 128 then Some number else None

abbrev pub segments_of : List ℕ → Option ℕ
segments_of word = option_and_then from_1_to_128 (number_of 20 word)

-- when the power is cut: once so many actions were played
abbrev pub cut_of : List ℕ → Option (Option ℕ)
cut_of word = option_map Some (option_number word)

-- what a cut keeps: `nothing`, `all`, or `mix:` and a number
abbrev pub keep_of : List ℕ → Option Keep
keep_of word =
    if is_word word (codes "nothing") then Some keep.Nothing
    else if is_word word (codes "all") then Some keep.All
    else option_map keep.Mix (option_and_then option_number (after_words (codes "mix:") word))

-- an option stands at most once: what its value says, or this where it stands nowhere
abbrev pub at_most_once : {T : Type 0} → T → (List ℕ → Option T) → List (List ℕ) → Option T
at_most_once default read [] = Some default
at_most_once default read (word ∷ []) = read word
at_most_once default read other = None

-- ── commands ──

abbrev pub paths_of_format : List ℕ → Paths
paths_of_format out = record { image = None; input = None; image_out = Some out }

abbrev pub paths_of_script : List ℕ → List ℕ → List ℕ → Paths
paths_of_script image input out =
    record { image = Some image; input = Some input; image_out = Some out }

-- `format` with these paths and segments: OUT, and 32 segments by default
abbrev pub format_with : List (List ℕ) → List (List ℕ) → Option Command
format_with (out ∷ []) segments =
    option_map (λ count. Run (job.Format count) (paths_of_format out)) (at_most_once 32 segments_of segments)
format_with paths segments = None

-- `script` with these paths, cuts and choices: IMAGE SCRIPT OUT, no cut by default, and nothing is kept by default
abbrev pub script_with : List (List ℕ) → List (List ℕ) → List (List ℕ) → Option Command
script_with (image ∷ input ∷ out ∷ []) cuts choices =
    option_and_then (λ cut. option_map (λ kept. Run (job.Script cut kept) (paths_of_script image input out))
    (at_most_once keep.Nothing keep_of choices))
    (at_most_once None cut_of cuts)
script_with paths cuts choices = None

-- the options of the commands
abbrev pub format_options : List (List ℕ)
format_options = codes "segments" ∷ []

abbrev pub script_options : List (List ℕ)
script_options = codes "cut" ∷ codes "keep" ∷ []

-- what follows `format`
abbrev pub format_command : List (List ℕ) → Option Command
format_command words =
    option_and_then (λ parts. format_with (given path parts) (given (codes "segments") parts))
    (parts_of format_options words)

-- what follows `script`
abbrev pub script_command : List (List ℕ) → Option Command
script_command words =
    option_and_then (λ parts. script_with (given path parts) (given (codes "cut") parts) (given (codes "keep") parts))
    (parts_of script_options words)

-- the command of these words
abbrev pub command_of : List (List ℕ) → Option Command
command_of [] = None
command_of (name ∷ words) =
    if is_word name (codes "format") then format_command words
    else if is_word name (codes "script") then script_command words
    else None

-- the names of commands
abbrev pub is_command_name : List ℕ → Bool
is_command_name word = is_word word (codes "format") || is_word word (codes "script")

-- Memory may run out at these words: the first is the name of a command, and each other one may stand. Before both are
-- known no memory is asked for.
abbrev pub MayLackMemory : List (List ℕ) → Type 0
MayLackMemory [] = ⊥
MayLackMemory (name ∷ words) = (is_command_name name ≡ true) × (list_all may_stand words ≡ true)

-- the job of a command
abbrev pub job_in : Command → Job
job_in (Run job paths) = job

-- the job of these words
abbrev pub job_of : List (List ℕ) → Option Job
job_of words = option_map job_in (command_of words)

-- an image that is formatted has 1 to 128 segments
abbrev pub HasSegments : Job → Type 0
HasSegments (job.Format segments) = (1 ≤ segments) × (segments ≤ 128)
HasSegments (job.Script cut kept) = Unit {0}

-- ── what a reading returned ──

-- the words that were given to an option, or none
abbrev pub words_in : Option (Bor (List (Bor (List ℕ)))) → List (List ℕ)
words_in found = unwrap_or (option_map (λ words. map (λ word. word.now) words.now) found) []

-- the words are refused exactly where they are no command, or memory ran out
abbrev pub RefusesWords : {T : Type 0} → WordsError → Option T → Type 0
RefusesWords error.Usage said = said ≡ None
RefusesWords error.NoMemory said = Unit {0}

-- the words were read as what they say
abbrev pub ReadsWords : {T : Type 0} → Result T WordsError → Option T → Type 0
ReadsWords (Ok read) said = said ≡ Some read
ReadsWords (Err refusal) said = RefusesWords refusal said
