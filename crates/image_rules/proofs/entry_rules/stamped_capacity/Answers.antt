use Rattle.std.proofs.Common.{ℕ, ◌≤◌, get_or, sym, ◌∙◌, ap, subst, arith}
use Rattle.image_layout.specs.Records.{created_header, ended_header}
use Rattle.image_rules.proofs.ArrayChecks.{table_kept, created_kept, ended_kept}
use Rattle.image_layout.proofs.TableSlots.{few_tables}
use Rattle.image_rules.proofs.entry_rules.stamped_capacity.Goals as goal

pub table_block-block-requires-clause-table : goal.table_block-block-requires-clause-table
table_block-block-requires-clause-table c = let most = few_tables c.args.words.now c.requires.tables in omega (arith, most, c.requires.published)

pub capacity-created-requires-clause-rule : goal.capacity-created-requires-clause-rule
capacity-created-requires-clause-rule c =
    subst (λ (h : ℕ). get_or c.args.words.now h 0 ≤ 12) (sym (c.created_header.ensures ∙ ap created_header c.table_block-block.ensures.place))
    (created_kept c.args.words.now _ (table_kept c.args.words.now c.requires.arrays c.args.table c.requires.published))

pub capacity-requires-clause-rule : goal.capacity-requires-clause-rule
capacity-requires-clause-rule c =
    subst (λ (h : ℕ). get_or c.args.words.now h 0 ≤ 12) (sym (c.ended_header.ensures ∙ ap ended_header c.table_block-block.ensures.place))
    (ended_kept c.args.words.now _ (table_kept c.args.words.now c.requires.arrays c.args.table c.requires.published))
