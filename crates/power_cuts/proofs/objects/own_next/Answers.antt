use Rattle.std.proofs.Common.{get_or, sym, ◌∙◌, ap}
use Rattle.power_cuts.proofs.Extending.{own_may_call, own_plan, own_played}
use Rattle.power_cuts.proofs.objects.own_next.Goals as goal

pub plan_allocate-requires-clause-may : goal.plan_allocate-requires-clause-may
plan_allocate-requires-clause-may g c =
    own_may_call (g.M.Memory.device c.args.memory.now) c.args.heap.now c.requires c.first_segment-owner.result.0
    (sym (c.load.ensures ∙ ap (λ (w : _). get_or (g.M.Memory.device c.args.memory.now).cached w 0) c.ready_segments.ensures) ∙ c.if-load-ne1.false) c.first_segment-owner.ensures.place

pub play_whole-requires-clause-planned : goal.play_whole-requires-clause-planned
play_whole-requires-clause-planned g c =
    own_plan (g.M.Memory.device c.args.memory.now) c.args.heap.now c.requires c.first_segment-owner.result.0
    (sym (c.load.ensures ∙ ap (λ (w : _). get_or (g.M.Memory.device c.args.memory.now).cached w 0) c.ready_segments.ensures) ∙ c.if-load-ne1.false) c.first_segment-owner.ensures.place
    c.plan_allocate.new.heap c.in_ok-plan.plan.left c.in_ok-plan.field-0-1.first.0 c.in_ok-plan.field-0-1.words c.in_ok-plan.ensures.allocated

pub returns : goal.returns
returns g c =
    own_played (g.M.Memory.device c.args.memory.now) c.args.heap.now c.requires c.first_segment-owner.result.0
    (sym (c.load.ensures ∙ ap (λ (w : _). get_or (g.M.Memory.device c.args.memory.now).cached w 0) c.ready_segments.ensures) ∙ c.if-load-ne1.false) c.first_segment-owner.ensures.place
    c.plan_allocate.new.heap c.in_ok-plan.plan.left c.in_ok-plan.field-0-1.first.0 c.in_ok-plan.field-0-1.words c.in_ok-plan.ensures.allocated
    (g.M.Memory.device c.play_whole.new.memory) c.play_whole.ensures.words c.play_whole.ensures.clean
