use Rattle.std.proofs.Common.{arith}
use Rattle.object_tests.proofs.Grown.{grown_parts, header_within, tested_may_grow, zeros_more}
use Rattle.object_tests.proofs.growths.grow.Goals as goal

pub loop-word-init : goal.loop-word-init
loop-word-init g c = λ k lt. absurd (omega (arith, lt))

pub overflow_add-header : goal.overflow_add-header
overflow_add-header g c =
    let whole = g.met.M.Memory.whole c.args.memory.now in
    let most = whole.most in
    let within = header_within (g.M.Memory.device c.args.memory.now) whole c.args.heap.now c.requires.settled c.args.header.0 c.requires.header c.loop-word.word (omega (arith, c.loop-word-test.true)) in
    omega (arith, within, most)

pub load-requires-in-loop-word : goal.load-requires-in-loop-word
load-requires-in-loop-word g c = header_within (g.M.Memory.device c.args.memory.now) (g.met.M.Memory.whole c.args.memory.now) c.args.heap.now c.requires.settled c.args.header.0 c.requires.header c.loop-word.word (omega (arith, c.loop-word-test.true))

pub loop-word-preserved : goal.loop-word-preserved
loop-word-preserved g c = zeros_more (g.M.Memory.device c.args.memory.now).cached c.args.header.0 c.loop-word.word c.load-in-loop-word.result c.loop-word.invariant c.load-in-loop-word.ensures (omega arith)

pub plan_grow-requires : goal.plan_grow-requires
plan_grow-requires g c =
    tested_may_grow (g.M.Memory.device c.args.memory.now) (g.met.M.Memory.whole c.args.memory.now) c.args.heap.now c.requires.settled c.args.header.0 c.requires.header (omega (arith, c.load.ensures))
    (λ k lt. c.loop-word.invariant k (omega (arith, lt, c.loop-word-test.false)))

pub play_whole-requires-clause-planned : goal.play_whole-requires-clause-planned
play_whole-requires-clause-planned g c = grown_parts (g.M.Memory.device c.args.memory.now) (g.met.M.Memory.whole c.args.memory.now) c.args.heap.now c.requires.settled c.args.header.0 c.requires.header c.plan_grow.new.heap c.in_ok-plan.plan.left c.in_ok-plan.ensures.planned
