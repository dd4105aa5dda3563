-- The rules of the command that clap builds: one for the paths, and one for each option.
use Rattle.std.proofs.Common.{◌≡◌, ◌⊎◌, inl, inr, ◌&&◌, not, ℕ, Bool, true, false, cond, List, [], ◌∷◌, map, refl, sym, subst, true≢false, Option, None, Some}
use Rattle.std.specs.Prelude.{find, is_some}
use Rattle.std.specs.Str.{bytes_eq}
use Rattle.std.proofs.lemmas.Slice.Eq.{bytes_eq-Decides}
use Rattle.clap.specs.Walk.{Rule, Text, arg_by_id, arg_by_long, has_long}
use Rattle.clap.specs.Simple.{new_rule}
use Rattle.clap.specs.declared.builder.action.ArgAction.TheVariants.{Append}
use Rattle.clap.specs.declared.builder.value_parser.ValueParser.TheVariants as vp
use Rattle.command_line.specs.Parts.{is_known, path}

pub cases : (b : Bool) → (b ≡ true) ⊎ (b ≡ false)
cases true = inl refl
cases false = inr refl

pub same_text : (a b : Text) → bytes_eq a b ≡ true → a ≡ b
same_text a b e = (bytes_eq-Decides a b).0 e

pub equals_itself : (a : Text) → bytes_eq a a ≡ true
equals_itself a = (bytes_eq-Decides a a).1 refl

-- a rule as it stands in the built command: it takes one value at each use, and keeps them all
abbrev pub rule : Option ℕ → Option Text → Text → Rule
rule index long id = record (new_rule id) {
  long = long;
  index = index;
  action = Some Append;
  parser = Some vp.String;
  range = Some (record { start_inclusive = 1; end_inclusive = 1 });
}

abbrev pub as_path : Rule
as_path = rule (Some 1) None path

abbrev pub as_option : Text → Rule
as_option name = rule None (Some name) name

abbrev pub rules_for : List Text → List Rule
rules_for known = as_path ∷ map as_option known

-- ── the rule with a long name ──

long-among : (known : List Text) (name : Text) → find (λ a. not (is_some a.index) && has_long a name) (map as_option known) ≡ cond (is_known known name) (Some (as_option name)) None
long-among [] name = refl
long-among (first ∷ known) name = elim (cases (bytes_eq first name)) [
  | inl e ↦ rw (e, same_text first name e) refl
  | inr e ↦ rw e (long-among known name)
]

pub by_long : (known : List Text) (name : Text) → arg_by_long (rules_for known) name ≡ cond (is_known known name) (Some (as_option name)) None
by_long known name = long-among known name

-- ── the rule with an id ──

-- the id is that of the paths or of an option
abbrev pub IsName : List Text → Text → Type 0
IsName known id = (id ≡ path) ⊎ (is_known known id ≡ true)

id-among : (known : List Text) (id : Text) → is_known known id ≡ true → find (λ a. bytes_eq a.id id) (map as_option known) ≡ Some (as_option id)
id-among [] id is = absurd (true≢false (sym is))
id-among (first ∷ known) id is = elim (cases (bytes_eq first id)) [
  | inl e ↦ rw (e, same_text first id e) refl
  | inr e ↦ rw e (id-among known id (rw e at is))
]

abbrev HasRule : List Text → Text → Type 0
HasRule known id = (index : Option ℕ) × (long : Option Text) × (arg_by_id (rules_for known) id ≡ Some (rule index long id))

of-path : (known : List Text) (id : Text) → path ≡ id → HasRule known id
of-path known id e = subst (λ (one : Text). HasRule known one) e (Some 1, None, refl)

pub by_id : (known : List Text) (id : Text) → IsName known id → HasRule known id
by_id known id (inl is) = of-path known id (sym is)
by_id known id (inr is) = elim (cases (bytes_eq path id)) [
  | inl e ↦ of-path known id (same_text path id e)
  | inr e ↦ (None, Some id, rw e (id-among known id is))
]
