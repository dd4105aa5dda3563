use Rattle.std.proofs.Common.{◌≡◌, ℕ, ◌++◌, ◌∙◌, ap, arith}
use Rattle.image_layout.specs.Records.{table_words}
use Rattle.image_layout.specs.Owners.{array_owners}
use Rattle.image_rules.specs.BuiltOwners.{built_column_owners}
use Rattle.image_rules.proofs.OwnerWalk.{read, parts, numbered_columns, parts_next, table_read}
use Rattle.image_rules.proofs.owner_words.push_table_owners.Goals as goal

pub loop-number-preserved : goal.loop-number-preserved
loop-number-preserved c =
    parts_next c.args.words.now (numbered_columns c.args.words.now c.table_block-block.result.0) c.loop-number.number c.push_array_owners-2.new.owners.items c.loop-number.owners.items c.push_column_owners.new.owners.items
    c.loop-number.invariant (c.in_ok-push_column_owners.ensures ∙ ap (λ (p : ℕ). c.loop-number.owners.items ++ read c.args.words.now (built_column_owners c.args.words.now p)) c.column_record.ensures.place)

pub returns : goal.returns
returns c =
    let block = c.table_block-block.result.0 in
    let last : c.loop-number.number ≡ c.columns_of-number-end.result = omega (arith, c.loop-number-test.false, c.loop-number.auto.number-end) in
    table_read c.args.words.now c.args.table c.table_block-block.result.0 c.table_slot.result.0 c.table_words.result c.args.owners.now.items c.push_owner.new.owners.items c.push_extension_owners.new.owners.items c.push_array_owners.new.owners.items c.push_array_owners-2.new.owners.items
    c.loop-number.owners.items c.table_block-block.ensures.place c.table_slot.ensures (c.table_words.ensures ∙ ap table_words c.columns_in_block-inner.ensures.count)
    c.in_ok-push_owner.ensures c.in_ok-push_extension_owners.ensures
    (c.in_ok-push_array_owners.ensures ∙ ap (λ (h : ℕ). c.push_extension_owners.new.owners.items ++ read c.args.words.now (array_owners c.args.words.now h)) c.created_header.ensures)
    (c.in_ok-push_array_owners-2.ensures ∙ ap (λ (h : ℕ). c.push_array_owners.new.owners.items ++ read c.args.words.now (array_owners c.args.words.now h)) c.ended_header.ensures)
    (c.loop-number.invariant ∙ ap (λ (k : ℕ). c.push_array_owners-2.new.owners.items ++ read c.args.words.now (parts c.args.words.now (numbered_columns c.args.words.now c.table_block-block.result.0) k)) (last ∙ c.columns_of-number-end.ensures.count))
