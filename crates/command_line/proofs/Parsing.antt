-- What clap's clauses say of the command with paths and options of given names.
use Rattle.std.proofs.Common.{◌≡◌, inl, inr, ◌&&◌, ◌||◌, not, ℕ, Bool, true, false, cond, List, [], ◌∷◌, map, refl, ap, ap₂, sym, subst, ◌∙◌, Option, None, Some}
use Rattle.std.specs.Prelude.{IfOk, fold, count_by, is_some, option_map, unwrap_or, Result, Ok, Err}
use Rattle.std.specs.List.{list_all, list_any}
use Rattle.clap.specs.Walk.{Held, Row, Rule, Text, all_of, finished, has_row, idle, is_early_multiple, nothing_held, rows_after, rows_of, settled, with_default}
use Rattle.clap.specs.Simple.{App, HasMatchesOf, built, filled_from, is_buildable, is_ready, is_ready_leaf, is_simple, matches_of, names_of}
use Rattle.clap.specs.Faults.{built_fault, check_fault, defaults_fault, fault_of, is_free_app, is_simple_and_free, level_fault, settle_fault, walk_fault}
use Rattle.clap.specs.Takes.{is_given}
use Rattle.clap.specs.Kinds.{FailsBy, HasKind, Kinds, or_else}
use Rattle.clap.specs.Matches.{found_of, matched_of, raw_values}
use Rattle.clap.specs.declared.parser.matches.ArgMatches.{ArgMatches}
use Rattle.clap.specs.declared.error.Error.{Error}
use Rattle.clap.specs.Values.{kind_of}
use Rattle.clap.specs.declared.error.kind.ErrorKind.TheVariants as kind
use Rattle.clap.proofs.FaultLemmas.{leaf_fault}
use Rattle.clap.proofs.WalkLemmas.{both, raw_values-rows}
use Rattle.command_line.specs.Command.{app_for, option_rule}
use Rattle.command_line.specs.Parts.{Part, given, may_stand, parts_from, parts_of}
use Rattle.command_line.proofs.Rules.{as_option, as_path, rules_for}
use Rattle.command_line.proofs.Turns.{at, shape}
use Rattle.command_line.proofs.Walking.{Agrees, agrees, ends, faults, rows_left}
use Rattle.command_line.proofs.Values.{all_added}

-- ── the built command ──

filled-options : (i : ℕ) (known : List Text) → filled_from i (map option_rule known) ≡ map as_option known
filled-options i [] = refl
filled-options i (name ∷ known) = ap (λ (rules : List Rule). as_option name ∷ rules) (filled-options i known)

-- the built command with these rules
abbrev app_with : List Rule → App
app_with rules = record { top = record (shape []) { rules = rules }; subs = [] }

built-as : (known : List Text) → built (app_for known) ≡ app_with (rules_for known)
built-as known = ap (λ (rules : List Rule). app_with (as_path ∷ rules)) (filled-options 2 known)

-- ── the command is simple ──

all-options : (test : Rule → Bool) (wrap : Text → Rule) → ((name : Text) → test (wrap name) ≡ true) → (known : List Text) → list_all test (map wrap known) ≡ true
all-options test wrap each [] = refl
all-options test wrap each (name ∷ known) = rw (each name) (all-options test wrap each known)

no-option : (test : Rule → Bool) → ((name : Text) → test (as_option name) ≡ false) → (known : List Text) → list_any test (map as_option known) ≡ false
no-option test each [] = refl
no-option test each (name ∷ known) = rw (each name) (no-option test each known)

one-indexed : (known : List Text) → count_by (λ (a : Rule). is_some a.index) (rules_for known) ≡ 1
one-indexed [] = refl
one-indexed (name ∷ known) = one-indexed known

abbrev is_early : List Text → ℕ → Bool
is_early known n = list_any (is_early_multiple n) (rules_for known)

in-order : (known : List Text) → is_early known (count_by (λ (a : Rule). is_some a.index) (rules_for known)) ≡ false
in-order known = ap (is_early known) (one-indexed known) ∙ no-option (is_early_multiple 1) (λ name. refl) known

-- the test of a command by what it is built to
abbrev is_simple_by : App → App → Bool
is_simple_by app made = is_buildable app && (is_ready made.top && list_all is_ready_leaf made.subs) && is_free_app made

abbrev is_simple_rule : Rule → Bool
is_simple_rule a = a.is_simple

abbrev is_free_rule : Rule → Bool
is_free_rule a = a.is_free

pub simple : (known : List Text) → is_simple_and_free (app_for known) ≡ true
simple known =
    ap (is_simple_by (app_for known)) (built-as known)
    ∙ rw (
      all-options is_simple_rule option_rule (λ name. refl) known,
      all-options is_simple_rule as_option (λ name. refl) known,
      in-order known,
      all-options is_free_rule as_option (λ name. refl) known,
    ) refl

-- ── after the walk ──

or-true : (b : Bool) → (b || true) ≡ true
or-true true = refl
or-true false = refl

or-nothing : (kinds : Kinds) → or_else kinds [] ≡ kinds
or-nothing [] = refl
or-nothing (k ∷ ks) = refl

no-options-default : (known : List Text) (rows : List Row) → defaults_fault rows (map as_option known) ≡ []
unfolding defaults_fault
no-options-default [] rows = refl
no-options-default (name ∷ known) rows = rw (or-true (has_row name rows)) (no-options-default known (with_default rows (as_option name)))

no-defaults : (known : List Text) (rows : List Row) → defaults_fault rows (rules_for known) ≡ []
unfolding defaults_fault
no-defaults known rows = rw (or-true (has_row as_path.id rows)) (no-options-default known (with_default rows as_path))

none-required : (known : List Text) (rows : List Row) → check_fault (shape known) rows false ≡ []
none-required known rows = rw (no-option (λ (a : Rule). a.required && not (is_given a.id rows)) (λ name. refl) known) refl

either : (b : Bool) (rows : List Row) → cond b rows rows ≡ rows
either true rows = refl
either false rows = refl

options-kept : (known : List Text) (rows : List Row) → fold with_default rows (map as_option known) ≡ rows
options-kept [] rows = refl
options-kept (name ∷ known) rows =
    ap (λ (left : List Row). fold with_default left (map as_option known)) (either (has_row name rows) rows) ∙ options-kept known rows

rows-kept : (known : List Text) (rows : List Row) → fold with_default rows (rules_for known) ≡ rows
rows-kept known rows =
    ap (λ (left : List Row). fold with_default left (map as_option known)) (either (has_row as_path.id rows) rows) ∙ options-kept known rows

abbrev start : List Text → List Text → Kinds
start known words = faults known (at [] None idle) words

abbrev last_rows : List Text → List Text → List Row
last_rows known words = rows_left known (at [] None idle) words

-- where the walk ends
abbrev end : List Text → List Text → Held
end known words = (ends known (at [] None idle) words).held

level-is : (known words : List Text) → level_fault (shape known) [] nothing_held words false [] ≡ start known words
level-is known words =
    let walking = walk_fault (shape known) [] (at [] None idle) words in
    let settling = settle_fault (rules_for known) false (end known words) in
    ap₂ (λ (defaults checks : Kinds). or_else walking (or_else settling (or_else defaults checks)))
    (no-defaults known (settled (rules_for known) (end known words)).rows) (none-required known (finished (rules_for known) (end known words)))
    ∙ ap (or_else walking) (or-nothing settling)

faults-are : (known words : List Text) → fault_of (app_for known) words ≡ start known words
faults-are known words =
    ap (λ (made : App). built_fault made nothing_held words) (built-as known)
    ∙ leaf_fault (app_with (rules_for known)) nothing_held words refl ∙ level-is known words

rows-are : (known words : List Text) → matches_of (app_for known) words ≡ last_rows known words
rows-are known words =
    ap (λ (made : App). rows_after made.top.rules (names_of made) words) (built-as known)
    ∙ rows-kept known (settled (rules_for known) (end known words)).rows

-- ── what a parse returned ──

-- the matches have the values of the parts
abbrev HasParts : List Part → ArgMatches → Type 0
HasParts parts m = (name : Text) → unwrap_or (option_map raw_values (matched_of (found_of m) name)) [] ≡ given name parts

agreed : (known words : List Text) → list_all may_stand words ≡ true → Agrees (parts_from known None words) (start known words) [] (last_rows known words)
agreed known words may = agrees known words may None (at [] None idle) [] ([], None, idle, refl, tt, tt, refl)

abbrev ReadOk : List Text → List Text → ArgMatches → Option (List Part) → Type 0
ReadOk known words m said = (parts : List Part) × (said ≡ Some parts) × HasParts parts m

ok-by : (known words : List Text) (m : ArgMatches) (said : Option (List Part)) → fault_of (app_for known) words ≡ []
    → rows_of (found_of m) ≡ matches_of (app_for known) words → Agrees said (start known words) [] (last_rows known words) → ReadOk known words m said
ok-by known words m None none rows is = absurd (is (sym (faults-are known words) ∙ none))
ok-by known words m (Some parts) none rows is = (
  parts,
  refl,
  λ name. ap (λ (found : Option (List Text)). unwrap_or found [])
      (raw_values-rows (found_of m) name ∙ ap (all_of name) (rows ∙ rows-are known words ∙ is.1)) ∙ all_added name parts [],
)

-- words that were parsed
pub read-ok : (known words : List Text) (m : ArgMatches) → list_all may_stand words ≡ true → fault_of (app_for known) words ≡ [] → HasMatchesOf (app_for known) words m
    → ReadOk known words m (parts_of known words)
read-ok known words m may none has =
    let easy = both (is_simple (app_for known)) (is_free_app (built (app_for known))) (simple known) in
    rw may (ok-by known words m (parts_from known None words) none (has easy.0).0 (agreed known words may))

err-by : (known words : List Text) (error : Error) (said : Option (List Part)) → HasKind (fault_of (app_for known) words) error → (kind_of error ≡ kind.OutOfMemory → ⊥)
    → Agrees said (start known words) [] (last_rows known words) → said ≡ None
err-by known words error None has other is = refl
err-by known words error (Some parts) has other is =
    let among : HasKind [] error = subst (λ (kinds : Kinds). HasKind kinds error) (faults-are known words ∙ is.0) has in
    elim among [
      | inl memory ↦ absurd (other memory)
      | inr none ↦ absurd none
    ]

-- words that were refused
pub read-err : (known words : List Text) (error : Error) → list_all may_stand words ≡ true → HasKind (fault_of (app_for known) words) error → (kind_of error ≡ kind.OutOfMemory → ⊥)
    → parts_of known words ≡ None
read-err known words error may has other = rw may (err-by known words error (parts_from known None words) has other (agreed known words may))

-- words that may not stand
pub read-none : (known words : List Text) → list_all may_stand words ≡ false → parts_of known words ≡ None
read-none known words may = rw may refl

-- ── the same of what the call returned ──

abbrev Parse : Type 0
Parse = Result ArgMatches Error

abbrev IsKinds : App → List Text → Parse → Type 0
IsKinds app words r = is_simple_and_free app ≡ true → FailsBy (fault_of app words) r

kinds-of : (app : App) (known words : List Text) (r : Parse) → app ≡ app_for known → IsKinds app words r → FailsBy (fault_of (app_for known) words) r
kinds-of app known words r is kinds = subst (λ (one : App). IsKinds one words r) is kinds (simple known)

pub ok-from : (app : App) (known words : List Text) (r : Parse) (m : ArgMatches) → app ≡ app_for known → IsKinds app words r → IfOk r (HasMatchesOf app words) → r ≡ Ok m
    → list_all may_stand words ≡ true → ReadOk known words m (parts_of known words)
ok-from app known words r m is kinds has made may =
    read-ok known words m may (subst (λ (one : Parse). FailsBy (fault_of (app_for known) words) one) made (kinds-of app known words r is kinds))
    (subst (λ (one : Parse). IfOk one (HasMatchesOf (app_for known) words)) made (subst (λ (one : App). IfOk r (HasMatchesOf one words)) is has))

pub err-from : (app : App) (known words : List Text) (r : Parse) (error : Error) → app ≡ app_for known → IsKinds app words r → r ≡ Err error
    → (kind_of error ≡ kind.OutOfMemory → ⊥) → list_all may_stand words ≡ true → parts_of known words ≡ None
err-from app known words r error is kinds made other may =
    read-err known words error may (subst (λ (one : Parse). FailsBy (fault_of (app_for known) words) one) made (kinds-of app known words r is kinds)) other
