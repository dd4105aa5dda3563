use Rattle.std.proofs.Common.{◌+◌, ◌++◌, sym, ◌∙◌, ap, arith}
use Rattle.std.proofs.lemmas.List.{length-take}
use Rattle.pmem_recover.proofs.PartByPart.{rest_of, rest-first, rest-pushed, rest-passed}
use Rattle.pmem_recover.proofs.part.push_parts.Goals as goal
use Rattle.pmem_recover.proofs.part.push_parts.Goals.{then-word_after-change, else-word_after-change}

pub loop-done-init : goal.loop-done-init
loop-done-init g c = record {
  left = rest-first (g.M.Memory.device c.args.mem.now).cached c.args.changes.now c.args.first c.args.plan.now.left c.push_part.new.plan.left c.in_ok-push_part.ensures.left;
  room = omega (arith, c.in_ok-push_part.ensures.spare, c.requires.room, c.requires.first, length-take c.args.first c.args.changes.now);
}

pub loop-done-preserved : goal.loop-done-preserved
loop-done-preserved g c =
    let words = (g.M.Memory.device c.args.mem.now).cached in
    let inv = c.loop-done.invariant in
    elim c.if-word_after-change.branch [
      | then-word_after-change w ↦ record {
        left = rest-pushed words c.args.changes.now c.loop-done.done _ c.loop-done-test.true c.loop-done.plan.left c.if-word_after-change.plan.left _ inv.left
            (λ e. w.if-word_after-change.true (c.word_after.ensures ∙ e)) (ap (λ plan. plan.left) w.plan-is ∙ w.push_store.ensures.left);
        room = omega (arith, ap (λ plan. plan.spare) w.plan-is, w.push_store.ensures.spare, inv.room);
      }
      | else-word_after-change w ↦ record {
        left = ap (λ plan. plan.left ++ rest_of words c.args.changes.now (c.loop-done.done + 1)) w.plan-is
            ∙ rest-passed words c.args.changes.now c.loop-done.done _ c.loop-done-test.true c.loop-done.plan.left _ inv.left (sym c.word_after.ensures ∙ w.if-word_after-change.false);
        room = omega (arith, ap (λ plan. plan.spare) w.plan-is, inv.room);
      }
    ]
