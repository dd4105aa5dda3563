-- The values that rows have of a name.
use Rattle.std.proofs.Common.{◌≡◌, inl, inr, true, false, List, [], ◌∷◌, ◌++◌, refl, ap, sym, subst, ◌∙◌, true≢false, append-nil, append_assoc}
use Rattle.std.specs.Prelude.{unwrap_or}
use Rattle.std.specs.Str.{bytes_eq}
use Rattle.clap.specs.Walk.{Row, Text, all_of}
use Rattle.command_line.specs.Parts.{Part, given, value_in}
use Rattle.command_line.proofs.Rules.{cases, equals_itself, same_text}
use Rattle.command_line.proofs.Turns.{add}
use Rattle.command_line.proofs.Walking.{put_all}

abbrev pub values : Text → List Row → List Text
values name rows = unwrap_or (all_of name rows) []

other : (a b : Text) → bytes_eq a b ≡ false → a ≡ b → ⊥
other a b e is = true≢false (sym (equals_itself b) ∙ subst (λ (t : Text). bytes_eq t b ≡ false) is e)

added : (name : Text) (part : Part) (rows : List Row) → values name (add part rows) ≡ values name rows ++ value_in name part
added name part [] = elim (cases (bytes_eq part.name name)) [
  | inl e ↦ rw e refl
  | inr e ↦ rw e refl
]
added name part (row ∷ rows) = elim (cases (bytes_eq row.id part.name)) [
  | inl mine ↦ elim (cases (bytes_eq row.id name)) [
    | inl here ↦
        let also : bytes_eq part.name name ≡ true = subst (λ (t : Text). bytes_eq t name ≡ true) (same_text row.id part.name mine) here in
        rw (mine, here, also) refl
    | inr there ↦
        let also : bytes_eq part.name name ≡ false = subst (λ (t : Text). bytes_eq t name ≡ false) (same_text row.id part.name mine) there in
        rw (mine, there, also) (sym (append-nil (values name rows)))
  ]
  | inr theirs ↦ elim (cases (bytes_eq row.id name)) [
    | inl here ↦ elim (cases (bytes_eq part.name name)) [
      | inl also ↦ absurd (other row.id part.name theirs (same_text row.id name here ∙ sym (same_text part.name name also)))
      | inr also ↦ rw (theirs, here, also) (sym (append-nil row.values))
    ]
    | inr there ↦ rw (theirs, there) (added name part rows)
  ]
]

pub all_added : (name : Text) (parts : List Part) (rows : List Row) → values name (put_all parts rows) ≡ values name rows ++ given name parts
all_added name [] rows = sym (append-nil (values name rows))
all_added name (part ∷ parts) rows =
    all_added name parts (add part rows) ∙ ap (λ (front : List Text). front ++ given name parts) (added name part rows)
    ∙ append_assoc (values name rows) (value_in name part) (given name parts)
