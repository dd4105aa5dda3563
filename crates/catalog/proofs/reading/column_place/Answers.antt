use Rattle.std.proofs.Common.{◌-◌, ℕ, List, sym, ◌∙◌, ap, arith}
use Rattle.image_layout.specs.Records.{extension_column_at}
use Rattle.image_layout.specs.Tables.{extension_of}
use Rattle.image_layout.proofs.TableParts.{inner_record, outer_record}
use Rattle.catalog.proofs.reading.column_place.Goals as goal

pub returns-then-number-inner-clause-place : goal.returns-then-number-inner-clause-place
returns-then-number-inner-clause-place g c =
    let words : List ℕ = (g.M.Memory.device c.args.mem.now).cached in
    c.column.ensures ∙ sym (inner_record words c.args.block.0 c.args.number (omega (arith, c.if-number-inner.true, c.inner_count-inner.ensures)))

pub returns-clause-place : goal.returns-clause-place
returns-clause-place g c =
    let words : List ℕ = (g.M.Memory.device c.args.mem.now).cached in
    c.extension_column.ensures
    ∙ ap extension_column_at (c.extension.ensures.place ∙ ap (λ (n : ℕ). extension_of words c.args.block.0 (c.args.number - n)) c.inner_count-inner.ensures)
    ∙ sym (outer_record words c.args.block.0 c.args.number (omega (arith, c.if-number-inner.false, c.inner_count-inner.ensures)))
