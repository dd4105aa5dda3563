-- Each column's name is a name, as far as the columns were gone over.
use Rattle.std.proofs.Common.{◌≡◌, ⊎_elim, ℕ, zero, suc, ◌+◌, ◌<◌, true, List, [], ◌∷◌, length, get_or, refl, sym, ◌∙◌, ap, arith}
use Rattle.std.proofs.lemmas.Bool.{cases_eq}
use Rattle.mv_model.specs.declared.shape.Column.{Column}
use Rattle.mv_model.specs.Name.{is_name}

-- an element of a list is the same whatever stands behind its end
any_default : (xs : List Column) (k : ℕ) (d e : Column) → k < length xs → get_or xs k d ≡ get_or xs k e
any_default [] k d e lt = absurd (omega (arith, lt))
any_default (x ∷ xs) zero d e lt = refl
any_default (x ∷ xs) (suc k) d e lt = any_default xs k d e (omega (arith, lt))

pub named_next : (columns : List Column) (n : ℕ) (column : Column) → n < length columns → column ≡ get_or columns n column → is_name column.name ≡ true
    → ((k : ℕ) (other : Column) → k < n → k < length columns → is_name (get_or columns k other).name ≡ true)
    → (k : ℕ) (other : Column) → k < n + 1 → k < length columns → is_name (get_or columns k other).name ≡ true
named_next columns n column lt is named before k other within in_columns = ⊎_elim
    (λ (here : k ≡ n). ap (λ (c : Column). is_name c.name) (any_default columns k other column in_columns ∙ ap (λ (j : ℕ). get_or columns j column) here ∙ sym is) ∙ named)
    (λ apart. before k other (omega (arith, within, apart)) in_columns)
    (cases_eq k n)
