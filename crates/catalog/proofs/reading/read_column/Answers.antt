use Rattle.std.proofs.Common.{◌≡◌, ◌∙◌, ℕ, List, get_or, sym, ap, subst}
use Rattle.std.specs.Prelude.{IsTrue}
use Rattle.mv_model.specs.Name.{is_name}
use Rattle.shown_state.specs.LogicalState.{name_at, kind_of}
use Rattle.image_layout.specs.Tables.{is_text}
use Rattle.catalog.proofs.Lists.{column_same, kind_text, kind_int}
use Rattle.catalog.proofs.reading.read_column.Goals as goal
use Rattle.catalog.proofs.reading.read_column.Goals.{then-load-eq-TEXT, else-load-eq-TEXT}

pub read_name-requires-clause-name : goal.read_name-requires-clause-name
read_name-requires-clause-name g c = subst (λ (p : ℕ). IsTrue (is_name (name_at (g.M.Memory.device c.args.mem.now).cached p))) (sym c.column_name.ensures) c.requires.name

pub returns : goal.returns
returns g c =
    let words : List ℕ = (g.M.Memory.device c.args.mem.now).cached in
    let loaded : c.load.result ≡ get_or words c.args.at.0 0 = c.load.ensures ∙ ap (λ (w : ℕ). get_or words w 0) c.column_kind.ensures in
    let kind : c.if-load-eq-TEXT.kind ≡ kind_of (is_text words c.args.at.0) = elim c.if-load-eq-TEXT.branch [
      | then-load-eq-TEXT w ↦ w.kind-is ∙ kind_text (get_or words c.args.at.0 0) (sym loaded ∙ w.if-load-eq-TEXT.true)
      | else-load-eq-TEXT w ↦ w.kind-is ∙ kind_int (get_or words c.args.at.0 0) (λ e. w.if-load-eq-TEXT.false (loaded ∙ e))
    ] in
    column_same _ _ _ _ (c.read_name.ensures ∙ ap (name_at words) c.column_name.ensures) kind
