use Rattle.std.proofs.Common.{◌-◌, ℕ, get_or, sym, ◌∙◌, ap}
use Rattle.image_layout.specs.Checks.{first_failing}
use Rattle.image_rules.specs.Parts.{pointer_checks}
use Rattle.image_rules.proofs.Columns.{checks_first, checks_later}
use Rattle.image_rules.proofs.extensions.extensions_fault.Goals as goal

pub returns-then-is_first_version : goal.returns-then-is_first_version
returns-then-is_first_version c = sym (ap first_failing (checks_first c.args.words.now c.args.block.0 (sym c.is_first_version.ensures ∙ c.if-is_first_version.true)))

pub returns : goal.returns
returns c =
    let count = ap (λ (n : ℕ). get_or c.args.words.now n 0 - c.inner_count.result) c.column_count.ensures ∙ ap (λ (n : ℕ). get_or c.args.words.now c.args.block.0 0 - n) c.inner_count.ensures in
    c.pointers_fault.ensures
    ∙ ap (λ (n : ℕ). first_failing (pointer_checks c.args.words.now c.args.block.0 n)) count
    ∙ sym (ap first_failing (checks_later c.args.words.now c.args.block.0 (sym c.is_first_version.ensures ∙ c.if-is_first_version.false)))
