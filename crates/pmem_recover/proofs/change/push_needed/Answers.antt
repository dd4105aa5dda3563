use Rattle.std.proofs.Common.{sym, ◌∙◌, ap, arith}
use Rattle.pmem_recover.proofs.Changes.{pushed, passed}
use Rattle.pmem_recover.proofs.change.push_needed.Goals as goal
use Rattle.pmem_recover.proofs.change.push_needed.Goals.{then-word_after-change, else-word_after-change}

pub loop-done-preserved : goal.loop-done-preserved
loop-done-preserved g c =
    let words = (g.M.Memory.device c.args.mem.now).cached in
    let inv = c.loop-done.invariant in
    elim c.if-word_after-change.branch [
      | then-word_after-change w ↦ record {
        left = ap (λ plan. plan.left) w.plan-is ∙ pushed c.args.changes.now c.loop-done.done _ c.loop-done-test.true words c.args.plan.now.left c.loop-done.plan.left w.push_store.new.self.left
            inv.left (λ e. w.if-word_after-change.true (c.word_after.ensures ∙ e)) w.push_store.ensures.left;
        room = omega (arith, ap (λ plan. plan.spare) w.plan-is, w.push_store.ensures.spare, inv.room);
      }
      | else-word_after-change w ↦ record {
        left = ap (λ plan. plan.left) w.plan-is ∙ passed c.args.changes.now c.loop-done.done _ c.loop-done-test.true words c.args.plan.now.left c.loop-done.plan.left
            inv.left (sym c.word_after.ensures ∙ w.if-word_after-change.false);
        room = omega (arith, ap (λ plan. plan.spare) w.plan-is, inv.room);
      }
    ]
