use Rattle.std.proofs.Common.{◌∙◌, List, ℕ, get_or, ap, arith}
use Rattle.object_tests.proofs.Created.{tested_may, tested_parts, tested_settled}
use Rattle.object_tests.proofs.Grown.{published_block, tested_header}
use Rattle.object_tests.proofs.tables.create.Goals as goal
use Rattle.object_tests.proofs.tables.create.Goals.{then-count-lt32+else-assert_eq-3, else-count-lt32}

pub plan_create-requires : goal.plan_create-requires
plan_create-requires g c =
    let words : List ℕ = (g.M.Memory.device c.args.memory.now).cached in
    let stored = c.load-2.ensures ∙ ap (λ (w : ℕ). get_or words w 0) c.table_count.ensures in
    tested_may (g.M.Memory.device c.args.memory.now) (g.met.M.Memory.whole c.args.memory.now) c.args.heap.now c.requires c.args.catalog.now.tables c.count-count.result c.count-count.ensures.count c.count-count.ensures.most
    (omega (arith, c.load.ensures)) (omega (arith, stored, c.from.ensures))
    (λ lt. elim c.if-count-lt32.branch [
      | then-count-lt32+else-assert_eq-3 w ↦ let slot = w.load-then-count-lt32.ensures ∙ ap (λ (at : ℕ). get_or words at 0) w.table_slot.ensures in omega (arith, slot)
      | else-count-lt32 w ↦ absurd (omega (arith, lt))
    ])

pub play_whole-requires-clause-planned : goal.play_whole-requires-clause-planned
play_whole-requires-clause-planned g c = tested_parts (g.M.Memory.device c.args.memory.now) (g.met.M.Memory.whole c.args.memory.now) c.args.heap.now c.requires c.plan_create.new.heap c.name-table.result c.one_column-shape.result c.in_ok-plan.ensures.planned.0 c.in_ok-plan.plan.left c.in_ok-plan.ensures.planned.1

pub returns-clause-settled : goal.returns-clause-settled
returns-clause-settled g c = tested_settled (g.M.Memory.device c.args.memory.now) (g.met.M.Memory.whole c.args.memory.now) c.args.heap.now c.requires c.plan_create.new.heap c.name-table.result c.one_column-shape.result c.in_ok-plan.ensures.planned.0 c.in_ok-plan.plan.left c.in_ok-plan.ensures.planned.1 (g.M.Memory.device c.play_whole.new.memory) c.play_whole.ensures.words c.play_whole.ensures.clean

pub returns-clause-headers : goal.returns-clause-headers
returns-clause-headers g c = λ array room.
    let (first, creation, made) = c.in_ok-plan.ensures.planned in
    let is = published_block c.args.catalog.now c.plan_create.new.self c.published.new.self c.name-table.result c.one_column-shape.result first c.count-count.result c.block.result.0 made c.published.ensures.tables c.count-count.ensures.count c.block.ensures in
    tested_header (g.M.Memory.device c.args.memory.now) (g.met.M.Memory.whole c.args.memory.now) c.args.heap.now c.requires c.plan_create.new.heap c.name-table.result c.one_column-shape.result first c.in_ok-plan.plan.left creation
    (g.M.Memory.device c.play_whole.new.memory) c.play_whole.ensures.words c.one_column-shape.ensures c.block.result.0 array is room
