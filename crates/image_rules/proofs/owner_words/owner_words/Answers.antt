use Rattle.std.proofs.Common.{◌≡◌, ℕ, ◌++◌, [], ◌∙◌, ap, arith}
use Rattle.image_layout.specs.Tables.{table_count}
use Rattle.image_layout.specs.Owners.{object_owners}
use Rattle.image_rules.specs.BuiltOwners.{built_table_owners}
use Rattle.image_rules.proofs.OwnerWalk.{read, parts, parts_next, all_read}
use Rattle.image_rules.proofs.owner_words.owner_words.Goals as goal

pub loop-table-preserved : goal.loop-table-preserved
loop-table-preserved c = parts_next c.args.words.now (built_table_owners c.args.words.now) c.loop-table.table [] c.loop-table.owners.items c.push_table_owners.new.owners.items c.loop-table.invariant c.in_ok-push_table_owners.ensures

pub loop-object-preserved : goal.loop-object-preserved
loop-object-preserved c =
    parts_next c.args.words.now (object_owners c.args.words.now) c.loop-object.object c.loop-table.owners.items c.loop-object.owners.items c.push_object_owners.new.owners.items c.loop-object.invariant c.in_ok-push_object_owners.ensures

pub returns : goal.returns
returns c =
    let tables : c.loop-table.table ≡ table_count c.args.words.now = omega (arith, c.loop-table-test.false, c.loop-table.auto.table-end, c.published_tables-table-end.ensures.count) in
    let objects : c.loop-object.object ≡ 16 = omega (arith, c.loop-object-test.false, c.loop-object.auto.object-end) in
    all_read c.args.words.now c.loop-table.owners.items c.loop-object.owners.items
    (c.loop-table.invariant ∙ ap (λ (k : ℕ). read c.args.words.now (parts c.args.words.now (built_table_owners c.args.words.now) k)) tables)
    (c.loop-object.invariant ∙ ap (λ (k : ℕ). c.loop-table.owners.items ++ read c.args.words.now (parts c.args.words.now (object_owners c.args.words.now) k)) objects)
