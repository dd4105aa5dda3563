use Rattle.std.proofs.Common.{◌-◌, ℕ, sym, ◌∙◌, ap, arith}
use Rattle.image_layout.specs.Records.{extension_column_at}
use Rattle.image_layout.specs.Tables.{extension_of}
use Rattle.image_layout.proofs.TableParts.{inner_record, outer_record}
use Rattle.image_rules.proofs.extensions.column_record.Goals as goal

pub returns-then-number-inner-clause-place : goal.returns-then-number-inner-clause-place
returns-then-number-inner-clause-place c =
    c.column.ensures ∙ sym (inner_record c.args.words.now c.args.block.0 c.args.number (omega (arith, c.if-number-inner.true, c.columns_in_block-inner.ensures.count)))

pub returns-clause-place : goal.returns-clause-place
returns-clause-place c =
    c.extension_column.ensures
    ∙ ap extension_column_at (c.extension.ensures.place ∙ ap (λ (n : ℕ). extension_of c.args.words.now c.args.block.0 (c.args.number - n)) c.columns_in_block-inner.ensures.count)
    ∙ sym (outer_record c.args.words.now c.args.block.0 c.args.number (omega (arith, c.if-number-inner.false, c.columns_in_block-inner.ensures.count)))
