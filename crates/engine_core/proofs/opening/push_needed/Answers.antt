use Rattle.std.proofs.Common.{◌∙◌, ap, arith}
use Rattle.pm_model.specs.Plans.{Part, plan_of, unless_empty}
use Rattle.engine_core.proofs.OpeningPlans.{pushed, end-room, needed-pushed, needed-nothing, end-spare, some-of, none-of}
use Rattle.engine_core.proofs.opening.push_needed.Goals as goal

pub end_part-requires-clause-room : goal.end_part-requires-clause-room
end_part-requires-clause-room g c = end-room c.push_stores.new.plan.left c.in_ok-needed.needed.items c.len.result c.push_stores.new.plan.spare c.args.plan.now.spare
    (pushed c.push_stores.new.plan.left c.args.plan.now.left c.deref.result.now c.in_ok-needed.needed.items c.push_stores.ensures.left c.requires.empty c.deref.ensures.value)
    (omega (arith, c.len.ensures)) (omega (arith, c.push_stores.ensures.spare, c.deref.ensures.len)) (omega (arith, c.in_ok-needed.ensures.few)) c.requires.room

pub returns-clause-left : goal.returns-clause-left
returns-clause-left g c = needed-pushed c.in_ok-needed.needed.items c.push_stores.new.plan.left c.end_part.new.self.left c.len.result (some-of c.is_empty.result c.in_ok-needed.needed.items c.in_ok-needed.needed.len (omega arith) c.is_empty.ensures c.if-is_empty.false)
    (pushed c.push_stores.new.plan.left c.args.plan.now.left c.deref.result.now c.in_ok-needed.needed.items c.push_stores.ensures.left c.requires.empty c.deref.ensures.value)
    (omega (arith, c.len.ensures)) c.end_part.ensures.left
    ∙ ap (λ (p : Part). plan_of (unless_empty p)) c.in_ok-needed.ensures.needed

pub returns-clause-spare : goal.returns-clause-spare
returns-clause-spare g c = end-spare c.push_stores.new.plan.left c.in_ok-needed.needed.items c.len.result c.push_stores.new.plan.spare c.args.plan.now.spare c.end_part.new.self.spare
    (pushed c.push_stores.new.plan.left c.args.plan.now.left c.deref.result.now c.in_ok-needed.needed.items c.push_stores.ensures.left c.requires.empty c.deref.ensures.value)
    (omega (arith, c.len.ensures)) (omega (arith, c.push_stores.ensures.spare, c.deref.ensures.len)) (omega (arith, c.in_ok-needed.ensures.few)) c.requires.room c.end_part.ensures.spare

pub returns-then-is_empty-clause-left : goal.returns-then-is_empty-clause-left
returns-then-is_empty-clause-left g c = needed-nothing c.in_ok-needed.needed.items c.args.plan.now.left (none-of c.is_empty.result c.in_ok-needed.needed.items c.in_ok-needed.needed.len (omega arith) c.is_empty.ensures c.if-is_empty.true) c.requires.empty ∙ ap (λ (p : Part). plan_of (unless_empty p)) c.in_ok-needed.ensures.needed
