use Rattle.std.proofs.Common.{◌≡◌, ℕ, ◌∙◌, ap, arith}
use Rattle.stage_object.specs.Object.{free_among, free_entries_in}
use Rattle.stage_object.proofs.object.free_entries.Goals as goal

pub returns : goal.returns
unfolding free_entries_in
returns g c =
    let end : c.loop-nth.nth ≡ 60 = omega (arith, c.loop-nth.auto.nth-end, c.loop-nth-test.false) in
    c.loop-nth.invariant.counted ∙ ap (λ (n : ℕ). free_among (g.M.Memory.device c.args.mem.now).cached c.object_of-object.result n) end
    ∙ ap (λ (o : ℕ). free_among (g.M.Memory.device c.args.mem.now).cached o 60) c.object_of-object.ensures
