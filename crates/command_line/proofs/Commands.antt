-- Commands that were read have 1 to 128 segments; words that were refused are no command.
use Rattle.std.proofs.Common.{inl, inr, ◌≤◌, ◌&&◌, Bool, true, false, cond, ℕ, List, [], ◌∷◌, Option, None, Some, subst, arith, leb-true}
use Rattle.std.specs.Prelude.{codes, nat_le, IfOk, IfSome, Ok, Err, Result, option_and_then, option_map}
use Rattle.clap.proofs.WalkLemmas.{both}
use Rattle.pm_model.specs.declared.action.Keep.TheVariants as keep
use Rattle.sf_value.specs.Number.{number_of}
use Rattle.command_line.specs.declared.arguments.WordsError.{WordsError}
use Rattle.command_line.specs.declared.words.Command.{Command}
use Rattle.command_line.specs.declared.words.Command.TheVariants.{Run}
use Rattle.command_line.specs.declared.words.Job.TheVariants as job
use Rattle.command_line.specs.Parts.{given, parts_of, path}
use Rattle.command_line.specs.Words.{HasSegments, ReadsWords, at_most_once, command_of, cut_of, format_command, format_options, format_with, from_1_to_128, is_word, job_in, keep_of, paths_of_format, paths_of_script, script_command, script_options, script_with, segments_of}
use Rattle.command_line.proofs.Rules.{cases}

abbrev RightSize : Command → Type 0
RightSize command = HasSegments (job_in command)

if-some : {A : Type 0} (P : A → Type 0) (test : Bool) (first second : Option A) → IfSome first P → IfSome second P → IfSome (cond test first second) P
if-some P true first second a b = a
if-some P false first second a b = b

map-some : {A B : Type 0} (P : B → Type 0) (f : A → B) (from : Option A) → IfSome from (λ x. P (f x)) → IfSome (option_map f from) P
map-some P f None each = tt
map-some P f (Some x) each = each

then-some : {A B : Type 0} (P : B → Type 0) (f : A → Option B) (from : Option A) → ((x : A) → IfSome (f x) P) → IfSome (option_and_then f from) P
then-some P f None each = tt
then-some P f (Some x) each = each x

abbrev IsSize : ℕ → Type 0
IsSize count = (1 ≤ count) × (count ≤ 128)

in-range : (number : ℕ) → IfSome (from_1_to_128 number) IsSize
in-range number = elim (cases (nat_le 1 number && nat_le number 128)) [
  | inl is ↦ let bounds = both (nat_le 1 number) (nat_le number 128) is in
      rw is (leb-true 1 number bounds.0, leb-true number 128 bounds.1)
  | inr not ↦ rw not tt
]

sizes : (words : List (List ℕ)) → IfSome (at_most_once 32 segments_of words) IsSize
sizes [] = (omega arith, omega arith)
sizes (word ∷ []) = then-some IsSize from_1_to_128 (number_of 20 word) in-range
sizes (word ∷ more ∷ words) = tt

format-sizes : (paths segments : List (List ℕ)) → IfSome (format_with paths segments) RightSize
format-sizes [] segments = tt
format-sizes (out ∷ []) segments = map-some RightSize (λ count. Run (job.Format count) (paths_of_format out)) (at_most_once 32 segments_of segments) (sizes segments)
format-sizes (out ∷ more ∷ paths) segments = tt

any : {A : Type 0} (from : Option A) → IfSome from (λ x. Unit {0})
any None = tt
any (Some x) = tt

script-sizes : (paths cuts choices : List (List ℕ)) → IfSome (script_with paths cuts choices) RightSize
script-sizes [] cuts choices = tt
script-sizes (image ∷ []) cuts choices = tt
script-sizes (image ∷ input ∷ []) cuts choices = tt
script-sizes (image ∷ input ∷ out ∷ []) cuts choices =
    then-some RightSize (λ cut. option_map (λ kept. Run (job.Script cut kept) (paths_of_script image input out)) (at_most_once keep.Nothing keep_of choices)) (at_most_once None cut_of cuts)
    (λ cut. map-some RightSize (λ kept. Run (job.Script cut kept) (paths_of_script image input out)) (at_most_once keep.Nothing keep_of choices) (any (at_most_once keep.Nothing keep_of choices)))
script-sizes (image ∷ input ∷ out ∷ more ∷ paths) cuts choices = tt

command-sizes : (words : List (List ℕ)) → IfSome (command_of words) RightSize
command-sizes [] = tt
command-sizes (name ∷ words) =
    if-some RightSize (is_word name (codes "format")) (format_command words) _
    (then-some RightSize _ (parts_of format_options words) (λ parts. format-sizes (given path parts) (given (codes "segments") parts)))
    (if-some RightSize (is_word name (codes "script")) (script_command words) None
    (then-some RightSize _ (parts_of script_options words) (λ parts. script-sizes (given path parts) (given (codes "cut") parts) (given (codes "keep") parts))) tt)

-- a command that was read
pub read-sizes : (words : List (List ℕ)) (read : Result Command WordsError) → ReadsWords read (command_of words) → IfOk read (λ command. HasSegments (job_in command))
read-sizes words (Ok read) is = subst (λ (command : Option Command). IfSome command RightSize) is (command-sizes words)
read-sizes words (Err error) is = tt
