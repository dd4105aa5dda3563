use Rattle.std.proofs.Common.{◌∙◌, ◌+◌, List, length, ap, arith}
use Rattle.mv_model.specs.declared.shape.Column.{Column}
use Rattle.image_layout.specs.Records.{table_words}
use Rattle.catalog.proofs.Planning.{state_is, table_is, shape_some, slot_empty, few_actions, block_place, create_planned}
use Rattle.catalog.proofs.tables.Catalog.plan_create.Goals as goal

pub plan_allocate-requires-clause-empty : goal.plan_allocate-requires-clause-empty
plan_allocate-requires-clause-empty g c = slot_empty (g.M.Memory.device c.args.mem.now) (g.met.M.Memory.whole c.args.mem.now) c.args.heap.now c.args.self.now.tables c.args.lane c.requires c.count-count.result c.table_slot.result.0 c.count-count.ensures.count c.if-count-eq-TABLES.false c.table_slot.ensures

pub append-requires : goal.append-requires
append-requires g c =
    let few = few_actions (g.M.Memory.device c.args.mem.now) (g.met.M.Memory.whole c.args.mem.now) c.args.heap.now c.args.self.now.tables c.args.lane c.requires c.count-count.result c.table_slot.result.0 c.count-count.ensures.count c.if-count-eq-TABLES.false c.table_slot.ensures c.args.name.now c.args.shape.now (shape_some c.args.shape.now c.columns.ensures.shape) c.columns.ensures.most c.table_words-words.result (c.table_words-words.ensures ∙ ap (λ (cs : List Column). table_words (length cs)) c.columns.ensures.columns) c.plan_allocate.new.heap c.in_ok-allocation.allocation.left c.in_ok-allocation.block.first.0 c.in_ok-allocation.block.words c.in_ok-allocation.ensures.allocated in
    omega (arith, few, c.in_ok-plan.ensures.room)

pub push_table-requires-clause-place : goal.push_table-requires-clause-place
push_table-requires-clause-place g c = block_place (g.M.Memory.device c.args.mem.now) (g.met.M.Memory.whole c.args.mem.now) c.args.heap.now c.args.self.now.tables c.args.lane c.requires c.count-count.result c.table_slot.result.0 c.count-count.ensures.count c.if-count-eq-TABLES.false c.table_slot.ensures c.args.name.now c.args.shape.now (shape_some c.args.shape.now c.columns.ensures.shape) c.columns.ensures.most c.table_words-words.result (c.table_words-words.ensures ∙ ap (λ (cs : List Column). table_words (length cs)) c.columns.ensures.columns) c.plan_allocate.new.heap c.in_ok-allocation.allocation.left c.in_ok-allocation.block.first.0 c.in_ok-allocation.block.words c.in_ok-allocation.ensures.allocated

pub push_table-requires-clause-room : goal.push_table-requires-clause-room
push_table-requires-clause-room g c =
    let few = few_actions (g.M.Memory.device c.args.mem.now) (g.met.M.Memory.whole c.args.mem.now) c.args.heap.now c.args.self.now.tables c.args.lane c.requires c.count-count.result c.table_slot.result.0 c.count-count.ensures.count c.if-count-eq-TABLES.false c.table_slot.ensures c.args.name.now c.args.shape.now (shape_some c.args.shape.now c.columns.ensures.shape) c.columns.ensures.most c.table_words-words.result (c.table_words-words.ensures ∙ ap (λ (cs : List Column). table_words (length cs)) c.columns.ensures.columns) c.plan_allocate.new.heap c.in_ok-allocation.allocation.left c.in_ok-allocation.block.first.0 c.in_ok-allocation.block.words c.in_ok-allocation.ensures.allocated in
    let words = c.table_words-words.ensures ∙ ap (λ (cs : List Column). table_words (length cs)) c.columns.ensures.columns in
    omega (arith, few, words, c.in_ok-plan.ensures.room, c.append.ensures.spare)

pub push_store-requires : goal.push_store-requires
push_store-requires g c =
    let few = few_actions (g.M.Memory.device c.args.mem.now) (g.met.M.Memory.whole c.args.mem.now) c.args.heap.now c.args.self.now.tables c.args.lane c.requires c.count-count.result c.table_slot.result.0 c.count-count.ensures.count c.if-count-eq-TABLES.false c.table_slot.ensures c.args.name.now c.args.shape.now (shape_some c.args.shape.now c.columns.ensures.shape) c.columns.ensures.most c.table_words-words.result (c.table_words-words.ensures ∙ ap (λ (cs : List Column). table_words (length cs)) c.columns.ensures.columns) c.plan_allocate.new.heap c.in_ok-allocation.allocation.left c.in_ok-allocation.block.first.0 c.in_ok-allocation.block.words c.in_ok-allocation.ensures.allocated in
    let words = c.table_words-words.ensures ∙ ap (λ (cs : List Column). table_words (length cs)) c.columns.ensures.columns in
    omega (arith, few, words, c.in_ok-plan.ensures.room, c.append.ensures.spare, c.push_table.ensures.spare)

pub returns-clause-planned : goal.returns-clause-planned
returns-clause-planned g c = (
  c.in_ok-allocation.block.first.0,
  create_planned (g.M.Memory.device c.args.mem.now) (g.met.M.Memory.whole c.args.mem.now) c.args.heap.now c.args.self.now.tables c.args.lane c.requires c.count-count.result c.table_slot.result.0 c.count-count.ensures.count c.if-count-eq-TABLES.false c.table_slot.ensures c.args.name.now c.args.shape.now (shape_some c.args.shape.now c.columns.ensures.shape) c.columns.ensures.most c.table_words-words.result (c.table_words-words.ensures ∙ ap (λ (cs : List Column). table_words (length cs)) c.columns.ensures.columns) c.plan_allocate.new.heap c.in_ok-allocation.allocation.left c.in_ok-allocation.block.first.0 c.in_ok-allocation.block.words c.in_ok-allocation.ensures.allocated
      c.in_ok-plan.plan.left c.append.new.self.left c.push_table.new.plan.left c.push_store.new.self.left c.table_count.result.0 (c.from.result + 1)
      c.in_ok-plan.ensures.empty c.append.ensures.left c.push_table.ensures.left c.table_count.ensures (ap (λ (n : _). n + 1) c.from.ensures) c.push_store.ensures.left,
  state_is c.plan-2.new.self c.args.self.now.tables _ c.plan-2.ensures.tables (c.plan-2.ensures.planned ∙ table_is c.args.name.now c.copy-2.result c.args.shape.now c.in_ok-shape_kept.shape_kept c.in_ok-allocation.block.first.0 c.copy-2.ensures c.in_ok-shape_kept.ensures),
)
