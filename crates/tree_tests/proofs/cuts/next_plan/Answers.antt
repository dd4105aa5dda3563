use Rattle.std.proofs.Common.{◌+◌}
use Rattle.fp_tree.proofs.Ranged.{ok_map}
use Rattle.fp_inner.specs.declared.probe.Probe.TheVariants.{Int}
use Rattle.fp_tree.specs.Planned.{IsFirstPlanned, IsSplitPlanned}
use Rattle.pm_model.specs.Plans.{MayPlay}
use Rattle.tree_ground.proofs.Played.{first_parts, insertion_parts_are, key_itself, split_parts}
use Rattle.tree_tests.proofs.Playing.{may_play}
use Rattle.tree_tests.proofs.cuts.next_plan.Goals as goal

pub plan_insert-requires-clause-key : goal.plan_insert-requires-clause-key
plan_insert-requires-clause-key g c = key_itself (g.M.Memory.device c.args.memory.now).cached (9223372036854775808 + c.from-key.result)

pub returns-in-NoLeaf : goal.returns-in-NoLeaf
returns-in-NoLeaf g c =
    ok_map (λ plan. IsFirstPlanned (g.M.Memory.device c.args.memory.now).cached c.args.heap.now c.plan_first.new.heap 0 c.args.tree.now c.plan_first.new.self plan.left) (λ plan. MayPlay 1 plan.left (g.M.Memory.device c.args.memory.now)) c.plan_first.result
    (λ plan planned. may_play (g.M.Memory.device c.args.memory.now) (g.met.M.Memory.whole c.args.memory.now) c.requires.clean plan.left
    (first_parts (g.M.Memory.device c.args.memory.now) c.args.heap.now c.args.tree.now c.requires c.plan_first.new.heap c.plan_first.new.self plan.left planned)) c.plan_first.ensures.planned

pub returns-in-LeafFull : goal.returns-in-LeafFull
returns-in-LeafFull g c =
    ok_map (λ plan. IsSplitPlanned (g.M.Memory.device c.args.memory.now).cached c.args.heap.now c.plan_split.new.heap 0 c.args.tree.now c.plan_split.new.self (Int (9223372036854775808 + c.from-key.result)) plan.left) (λ plan. MayPlay 1 plan.left (g.M.Memory.device c.args.memory.now)) c.plan_split.result
    (λ plan planned. may_play (g.M.Memory.device c.args.memory.now) (g.met.M.Memory.whole c.args.memory.now) c.requires.clean plan.left
    (split_parts (g.M.Memory.device c.args.memory.now) c.args.heap.now c.args.tree.now c.requires c.plan_split.new.heap c.plan_split.new.self (Int (9223372036854775808 + c.from-key.result)) plan.left planned)) c.plan_split.ensures.planned

pub returns-in_ok-plan_insert-in-Free : goal.returns-in_ok-plan_insert-in-Free
returns-in_ok-plan_insert-in-Free g c =
    may_play (g.M.Memory.device c.args.memory.now) (g.met.M.Memory.whole c.args.memory.now) c.requires.clean c.in_ok-plan_insert-in-Free.field-0.left
    (insertion_parts_are (g.M.Memory.device c.args.memory.now) c.args.heap.now c.args.tree.now c.requires (9223372036854775808 + c.from-key.result) c.args.number c.in_ok-plan_insert-in-Free.field-0.left c.in_ok-plan_insert-in-Free.ensures)
