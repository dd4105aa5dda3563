use Rattle.std.proofs.Common.{◌+◌, sym, ◌∙◌, ap, arith}
use Rattle.heap_palloc.proofs.Forgetting.{pushed_hit, pushed_miss}
use Rattle.heap_palloc.proofs.parts.push_given_back.Goals as goal
use Rattle.heap_palloc.proofs.parts.push_given_back.Goals.{then-load-eq-GIVEN_BACK, else-load-eq-GIVEN_BACK}

pub loop-page-preserved : goal.loop-page-preserved
loop-page-preserved g c =
    let inv = c.loop-page.invariant in
    elim c.if-load-eq-GIVEN_BACK.branch [
      | then-load-eq-GIVEN_BACK w ↦
          let step = pushed_hit (g.M.Memory.device c.args.mem.now).cached c.args.run.first c.loop-page.page c.descriptor-place.result.0 c.loop-page.count c.args.plan.now.left c.loop-page.plan.left w.push.new.self.left
          inv.left w.push.ensures.left c.descriptor-place.ensures (sym c.load.ensures ∙ w.if-load-eq-GIVEN_BACK.true) inv.count in
          record {
            left = ap (λ plan. plan.left) w.plan-is ∙ step.0;
            count = w.count-is ∙ step.1;
            most = omega (arith, w.count-is, inv.most);
            spare = ap (λ plan. plan.spare + c.if-load-eq-GIVEN_BACK.count) w.plan-is ∙ omega (arith, w.count-is, w.push.ensures.spare, inv.spare);
            room = inv.room;
          }
      | else-load-eq-GIVEN_BACK w ↦
          let step = pushed_miss (g.M.Memory.device c.args.mem.now).cached c.args.run.first c.loop-page.page c.descriptor-place.result.0 c.loop-page.count c.args.plan.now.left c.loop-page.plan.left
          inv.left c.descriptor-place.ensures (λ e. w.if-load-eq-GIVEN_BACK.false (c.load.ensures ∙ e)) inv.count in
          record {
            left = ap (λ plan. plan.left) w.plan-is ∙ step.0;
            count = w.count-is ∙ step.1;
            most = omega (arith, w.count-is, inv.most);
            spare = ap (λ plan. plan.spare + c.if-load-eq-GIVEN_BACK.count) w.plan-is ∙ omega (arith, w.count-is, inv.spare);
            room = inv.room;
          }
    ]
