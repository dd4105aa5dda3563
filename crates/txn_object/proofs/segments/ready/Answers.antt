use Rattle.std.proofs.Common.{◌∙◌, ap, get_or, arith, ℕ}
use Rattle.txn_object.proofs.Rule.{at_most_32}
use Rattle.txn_object.proofs.segments.ready.Goals as goal

pub overflow_cast-result : goal.overflow_cast-result
overflow_cast-result g c =
    let most = at_most_32 (g.M.Memory.device c.args.mem.now).cached c.args.object c.requires.rule in
    let is = c.load.ensures ∙ ap (λ (at : ℕ). get_or (g.M.Memory.device c.args.mem.now).cached at 0) c.ready_segments.ensures in
    omega (arith, most, is)

pub returns-clause-most : goal.returns-clause-most
returns-clause-most g c =
    let most = at_most_32 (g.M.Memory.device c.args.mem.now).cached c.args.object c.requires.rule in
    let is = c.load.ensures ∙ ap (λ (at : ℕ). get_or (g.M.Memory.device c.args.mem.now).cached at 0) c.ready_segments.ensures in
    omega (arith, most, is)
