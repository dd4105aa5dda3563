use Rattle.tree_ground.proofs.Played.{split_parts, split_ready, split_room}
use Rattle.tree_ground.proofs.pairs.play_split.Goals as goal

pub play_whole-requires-clause-planned : goal.play_whole-requires-clause-planned
play_whole-requires-clause-planned g c = split_parts (g.M.Memory.device c.args.memory.now) c.args.heap.now c.args.tree.now c.requires.ready c.plan_split.new.heap c.plan_split.new.self c.args.probe.now c.in_ok-plan.plan.left c.in_ok-plan.ensures.planned

pub returns-clause-ready : goal.returns-clause-ready
returns-clause-ready g c = split_ready (g.M.Memory.device c.args.memory.now) c.args.heap.now c.args.tree.now c.requires.ready c.plan_split.new.heap c.plan_split.new.self c.args.probe.now c.in_ok-plan.plan.left c.in_ok-plan.ensures.planned (g.M.Memory.device c.play_whole.new.memory) c.play_whole.ensures.words c.play_whole.ensures.clean

pub returns-clause-room : goal.returns-clause-room
returns-clause-room g c = split_room (g.M.Memory.device c.args.memory.now) c.args.heap.now c.args.tree.now c.requires.ready c.plan_split.new.heap c.plan_split.new.self c.args.probe.now c.in_ok-plan.plan.left c.in_ok-plan.ensures.planned (g.M.Memory.device c.play_whole.new.memory) c.play_whole.ensures.words
