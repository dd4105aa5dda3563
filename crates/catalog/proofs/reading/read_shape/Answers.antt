use Rattle.std.proofs.Common.{◌∙◌, ℕ, ◌++◌, [], ◌∷◌, List, length, map, get_or, sym, ap, subst, arith}
use Rattle.std.specs.Prelude.{IsTrue}
use Rattle.mv_model.specs.Name.{is_name}
use Rattle.mv_model.specs.declared.shape.Column.{Column}
use Rattle.image_layout.specs.Places.{below}
use Rattle.image_layout.specs.Records.{column_name_at}
use Rattle.image_layout.specs.Tables.{column_record}
use Rattle.shown_state.specs.LogicalState.{column_of, name_at}
use Rattle.catalog.proofs.Lists.{mapped_next, mapped_count}
use Rattle.catalog.proofs.reading.read_shape.Goals as goal

pub read_column-requires-clause-name : goal.read_column-requires-clause-name
read_column-requires-clause-name g c =
    let words : List ℕ = (g.M.Memory.device c.args.mem.now).cached in
    let count = c.load-count.ensures ∙ ap (λ (w : ℕ). get_or words w 0) c.column_count.ensures in
    subst (λ (p : ℕ). IsTrue (is_name (name_at words (column_name_at p)))) (sym c.column_place.ensures.place) (c.requires.names c.loop-number.number (omega (arith, count, c.loop-number-test.true)))

pub push-requires : goal.push-requires
push-requires g c =
    let words : List ℕ = (g.M.Memory.device c.args.mem.now).cached in
    let count = c.load-count.ensures ∙ ap (λ (w : ℕ). get_or words w 0) c.column_count.ensures in
    let size = ap (length {A = Column}) c.loop-number.invariant ∙ mapped_count (column_of words) (column_record words c.args.block.0) c.loop-number.number in
    (omega arith, omega (arith, size, count, c.loop-number-test.true, c.requires.records.most))

pub loop-number-preserved : goal.loop-number-preserved
loop-number-preserved g c =
    let words : List ℕ = (g.M.Memory.device c.args.mem.now).cached in
    c.push.ensures.items
    ∙ ap (λ (xs : List Column). xs ++ c.read_column.result ∷ []) c.loop-number.invariant
    ∙ ap (λ (x : Column). map (column_of words) (map (column_record words c.args.block.0) (below c.loop-number.number)) ++ x ∷ []) (c.read_column.ensures ∙ ap (column_of words) c.column_place.ensures.place)
    ∙ sym (mapped_next (column_of words) (column_record words c.args.block.0) c.loop-number.number)
