-- One word of clap's walk.
use Rattle.std.proofs.Common.{◌≡◌, inl, inr, ◌==◌, ℕ, true, false, List, [], ◌∷◌, refl, Option, None, Some}
use Rattle.std.specs.List.{after_first, list_any}
use Rattle.std.specs.Str.{bytes_eq}
use Rattle.std.proofs.Math.Bool.{and-false}
use Rattle.clap.specs.Walk.{Row, Text, Waiting, Walk, idle, positional, option, settled_rows, walked, with_values}
use Rattle.clap.specs.Simple.{Shape, built}
use Rattle.clap.specs.Faults.{settle_fault, turn_fault}
use Rattle.clap.specs.Values.{reading_of}
use Rattle.clap.specs.declared.builder.value_parser.ValueParser.TheVariants as vp
use Rattle.clap.specs.declared.parser.matches.ValueSource.TheVariants.{CommandLine}
use Rattle.clap.specs.declared.error.kind.ErrorKind.TheVariants as kind
use Rattle.command_line.specs.Command.{app_for}
use Rattle.command_line.specs.Parts.{Part, is_equals, is_known, option_name, path}
use Rattle.command_line.proofs.Rules.{IsName, by_id, by_long, cases, equals_itself, rules_for}

-- the command, as clap builds it
abbrev pub shape : List Text → Shape
shape known = record (built (app_for [])).top { rules = rules_for known }

-- the walk between two words, with these rows and what is pending
abbrev pub at : List Row → Option (Text × List Text) → Waiting → Walk
at rows pending waiting = record {
  held = record { rows = rows; pending = pending; skip = 0 };
  waiting = waiting;
  position = 1;
  is_trailing = false;
  stopped = None;
}

-- the last part was read, and is not in the rows yet
abbrev pub done : Option Part → Option (Text × List Text)
done None = None
done (Some part) = Some (part.name, part.value ∷ [])

abbrev pub IsLast : List Text → Option Part → Type 0
IsLast known None = Unit {0}
IsLast known (Some part) = IsName known part.name

-- the part in the rows
abbrev pub add : Part → List Row → List Row
add part rows = with_values part.name (reading_of vp.String) CommandLine (part.value ∷ []) rows

abbrev pub put : Option Part → List Row → List Row
put None rows = rows
put (Some part) rows = add part rows

-- no option awaits its value
abbrev pub IsReady : Waiting → Type 0
IsReady idle = Unit {0}
IsReady positional = Unit {0}
IsReady (option id) = ⊥

-- ── what is pending ──

pub settles : (known : List Text) (last : Option Part) (rows : List Row) → IsLast known last
    → settle_fault (rules_for known) false (record { rows = rows; pending = done last; skip = 0 }) ≡ []
settles known None rows is = refl
settles known (Some part) rows is = let found = by_id known part.name is in rw found.2 refl

pub settled-as : (known : List Text) (last : Option Part) (rows : List Row) → IsLast known last → settled_rows (rules_for known) (done last) rows ≡ put last rows
settled-as known None rows is = refl
settled-as known (Some part) rows is = let found = by_id known part.name is in rw found.2 refl

-- an option without its value
pub unsettled : (known : List Text) (name : Text) (rows : List Row) → IsName known name
    → settle_fault (rules_for known) false (record { rows = rows; pending = Some (name, []); skip = 0 }) ≡ kind.InvalidValue ∷ []
unsettled known name rows is = let found = by_id known name is in rw found.2 refl

-- ── a word that does not begin with a minus ──

abbrev PlainPasses : List Text → List Row → Option Part → Waiting → ℕ → List ℕ → Type 0
PlainPasses known rows last waiting b bs = turn_fault (shape known) [] (at rows (done last) waiting) (b ∷ bs) ≡ []

pub path-passes : (known : List Text) (rows : List Row) (last : Option Part) (waiting : Waiting) (b : ℕ) (bs : List ℕ)
    → IsReady waiting → IsLast known last → (b == 45) ≡ false → PlainPasses known rows last waiting b bs
path-passes known rows None idle b bs ready is e = rw (e, e) refl
path-passes known rows (Some part) idle b bs ready is e = rw (e, e, and-false (bytes_eq part.name path)) (settles known (Some part) rows is)
path-passes known rows None positional b bs ready is e = rw (e, e) refl
path-passes known rows (Some part) positional b bs ready is e = rw (e, e, and-false (bytes_eq part.name path)) (settles known (Some part) rows is)
path-passes known rows last (option id) b bs ready is e = absurd ready

abbrev pub part_of : Text → Text → Part
part_of name value = record { name = name; value = value }

pub path-goes : (known : List Text) (rows : List Row) (last : Option Part) (waiting : Waiting) (b : ℕ) (bs : List ℕ)
    → IsReady waiting → IsLast known last → (b == 45) ≡ false
    → walked (rules_for known) [] (at rows (done last) waiting) (b ∷ bs) ≡ at (put last rows) (done (Some (part_of path (b ∷ bs)))) positional
unfolding walked
path-goes known rows None idle b bs ready is e = rw (e, e) refl
path-goes known rows (Some part) idle b bs ready is e = rw (e, e, and-false (bytes_eq part.name path), settled-as known (Some part) rows is) refl
path-goes known rows None positional b bs ready is e = rw (e, e) refl
path-goes known rows (Some part) positional b bs ready is e = rw (e, e, and-false (bytes_eq part.name path), settled-as known (Some part) rows is) refl
path-goes known rows last (option id) b bs ready is e = absurd ready

-- the value of an option that awaits it
pub value-passes : (known : List Text) (rows : List Row) (name : Text) (b : ℕ) (bs : List ℕ) → (b == 45) ≡ false
    → turn_fault (shape known) [] (at rows (Some (name, [])) (option name)) (b ∷ bs) ≡ []
value-passes known rows name b bs e = rw (e, e) refl

pub value-goes : (known : List Text) (rows : List Row) (name : Text) (b : ℕ) (bs : List ℕ) → IsName known name → (b == 45) ≡ false
    → walked (rules_for known) [] (at rows (Some (name, [])) (option name)) (b ∷ bs) ≡ at rows (done (Some (part_of name (b ∷ bs)))) idle
unfolding walked
value-goes known rows name b bs is e = let found = by_id known name is in rw (e, e, found.2, equals_itself name) refl

-- ── a word that begins with a minus ──

-- an option's word
abbrev pub word_of : ℕ → List ℕ → List ℕ
word_of x xs = 45 ∷ 45 ∷ x ∷ xs

abbrev name_in : ℕ → List ℕ → List ℕ
name_in x xs = option_name (word_of x xs)

-- an option that is not known
pub unknown-fails : (known : List Text) (rows : List Row) (pending : Option (Text × List Text)) (waiting : Waiting) (x : ℕ) (xs : List ℕ)
    → is_known known (name_in x xs) ≡ false → turn_fault (shape known) [] (at rows pending waiting) (word_of x xs) ≡ kind.UnknownArgument ∷ []
unknown-fails known rows pending idle x xs k = rw (by_long known (name_in x xs), k) refl
unknown-fails known rows pending positional x xs k = rw (by_long known (name_in x xs), k) refl
unknown-fails known rows pending (option id) x xs k = rw (by_long known (name_in x xs), k) refl

-- an option with its value behind an equals sign
pub attached-passes : (known : List Text) (rows : List Row) (last : Option Part) (waiting : Waiting) (x : ℕ) (xs : List ℕ)
    → IsReady waiting → IsLast known last → is_known known (name_in x xs) ≡ true → list_any is_equals (x ∷ xs) ≡ true
    → turn_fault (shape known) [] (at rows (done last) waiting) (word_of x xs) ≡ []
attached-passes known rows None idle x xs ready is k has = rw (by_long known (name_in x xs), k, has) refl
attached-passes known rows (Some part) idle x xs ready is k has = let found = by_id known part.name is in rw (by_long known (name_in x xs), k, has, found.2) refl
attached-passes known rows None positional x xs ready is k has = rw (by_long known (name_in x xs), k, has) refl
attached-passes known rows (Some part) positional x xs ready is k has = let found = by_id known part.name is in rw (by_long known (name_in x xs), k, has, found.2) refl
attached-passes known rows last (option id) x xs ready is k has = absurd ready

pub attached-goes : (known : List Text) (rows : List Row) (last : Option Part) (waiting : Waiting) (x : ℕ) (xs : List ℕ)
    → IsReady waiting → IsLast known last → is_known known (name_in x xs) ≡ true → list_any is_equals (x ∷ xs) ≡ true
    → walked (rules_for known) [] (at rows (done last) waiting) (word_of x xs) ≡ at (add (part_of (name_in x xs) (after_first is_equals (x ∷ xs))) (put last rows)) None idle
unfolding walked
attached-goes known rows None idle x xs ready is k has = rw (by_long known (name_in x xs), k, has) refl
attached-goes known rows (Some part) idle x xs ready is k has = let found = by_id known part.name is in rw (by_long known (name_in x xs), k, has, found.2) refl
attached-goes known rows None positional x xs ready is k has = rw (by_long known (name_in x xs), k, has) refl
attached-goes known rows (Some part) positional x xs ready is k has = let found = by_id known part.name is in rw (by_long known (name_in x xs), k, has, found.2) refl
attached-goes known rows last (option id) x xs ready is k has = absurd ready

-- an option that awaits its value
pub alone-passes : (known : List Text) (rows : List Row) (last : Option Part) (waiting : Waiting) (x : ℕ) (xs : List ℕ)
    → IsReady waiting → IsLast known last → is_known known (name_in x xs) ≡ true → list_any is_equals (x ∷ xs) ≡ false
    → turn_fault (shape known) [] (at rows (done last) waiting) (word_of x xs) ≡ []
alone-passes known rows None idle x xs ready is k has = rw (by_long known (name_in x xs), k, has) refl
alone-passes known rows (Some part) idle x xs ready is k has = let found = by_id known part.name is in rw (by_long known (name_in x xs), k, has, found.2) refl
alone-passes known rows None positional x xs ready is k has = rw (by_long known (name_in x xs), k, has) refl
alone-passes known rows (Some part) positional x xs ready is k has = let found = by_id known part.name is in rw (by_long known (name_in x xs), k, has, found.2) refl
alone-passes known rows last (option id) x xs ready is k has = absurd ready

pub alone-goes : (known : List Text) (rows : List Row) (last : Option Part) (waiting : Waiting) (x : ℕ) (xs : List ℕ)
    → IsReady waiting → IsLast known last → is_known known (name_in x xs) ≡ true → list_any is_equals (x ∷ xs) ≡ false
    → walked (rules_for known) [] (at rows (done last) waiting) (word_of x xs) ≡ at (put last rows) (Some (name_in x xs, [])) (option (name_in x xs))
unfolding walked
alone-goes known rows None idle x xs ready is k has = rw (by_long known (name_in x xs), k, has) refl
alone-goes known rows (Some part) idle x xs ready is k has = let found = by_id known part.name is in rw (by_long known (name_in x xs), k, has, found.2) refl
alone-goes known rows None positional x xs ready is k has = rw (by_long known (name_in x xs), k, has) refl
alone-goes known rows (Some part) positional x xs ready is k has = let found = by_id known part.name is in rw (by_long known (name_in x xs), k, has, found.2) refl
alone-goes known rows last (option id) x xs ready is k has = absurd ready

-- an option that awaited its value
pub awaiting-fails : (known : List Text) (rows : List Row) (name : Text) (x : ℕ) (xs : List ℕ) → IsName known name → is_known known (name_in x xs) ≡ true
    → turn_fault (shape known) [] (at rows (Some (name, [])) (option name)) (word_of x xs) ≡ kind.InvalidValue ∷ []
awaiting-fails known rows name x xs is k =
    let found = by_id known name is in
    elim (cases (list_any is_equals (x ∷ xs))) [
      | inl has ↦ rw (by_long known (name_in x xs), k, has, found.2) refl
      | inr has ↦ rw (by_long known (name_in x xs), k, has, found.2) refl
    ]
