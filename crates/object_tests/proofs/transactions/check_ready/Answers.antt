use Rattle.std.proofs.Common.{get_or, sym, ◌∙◌, ap}
use Rattle.txn_object.proofs.TestEntries.{filled}
use Rattle.object_tests.proofs.transactions.check_ready.Goals as goal

pub returns : goal.returns
returns g c =
    filled (g.M.Memory.device c.args.memory.now) c.args._heap.now c.requires (g.met.M.Memory.whole c.args.memory.now) 32
    (sym (c.load.ensures ∙ ap (λ (w : _). get_or (g.M.Memory.device c.args.memory.now).cached w 0) c.ready_segments.ensures) ∙ c.if-load-ne32.false)
