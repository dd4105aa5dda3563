use Rattle.std.proofs.Common.{◌∙◌, Some, ap, sym, refl}
use Rattle.session_serve.proofs.Events.{both_ways, cut_now, in_call-begin, still_before}
use Rattle.session_serve.proofs.playing.step_to_reply.Goals as goal

pub loop-cut-init : goal.loop-cut-init
loop-cut-init g c = record {
  opened = refl;
  started = refl;
  in_call = λ said is. in_call-begin _ said _ _ is;
  counted = c.requires.counted;
  before = c.requires.before;
}

pub loop-cut-preserved : goal.loop-cut-preserved
loop-cut-preserved g c =
    let kept = c.loop-cut.invariant in
    record {
      opened = c.go_on.ensures.opened ∙ kept.opened;
      started = c.go_on.ensures.started ∙ kept.started;
      in_call = λ said is. c.go_on.ensures.in_call said _ _ kept.opened (kept.in_call said is);
      counted = c.played.ensures.counted;
      before = still_before c.args.cut _ _ kept.before c.go_on.ensures.most
          (λ e. both_ways c.is_cut_at.result (c.is_cut_at.ensures.1 (e ∙ ap Some (sym c.played.ensures.played))) c.if-is_cut_at.false);
    }

pub returns-then-is_cut_at-clause-opened : goal.returns-then-is_cut_at-clause-opened
returns-then-is_cut_at-clause-opened g c = c.go_on.ensures.opened ∙ c.loop-cut.invariant.opened

pub returns-then-is_cut_at-clause-started : goal.returns-then-is_cut_at-clause-started
returns-then-is_cut_at-clause-started g c = c.go_on.ensures.started ∙ c.loop-cut.invariant.started

pub returns-then-is_cut_at-clause-in_call : goal.returns-then-is_cut_at-clause-in_call
returns-then-is_cut_at-clause-in_call g c =
    λ said is. c.go_on.ensures.in_call said _ _ c.loop-cut.invariant.opened (c.loop-cut.invariant.in_call said is)

pub returns-then-is_cut_at-clause-ends : goal.returns-then-is_cut_at-clause-ends
returns-then-is_cut_at-clause-ends g c =
    let now = c.is_cut_at.ensures.0 c.if-is_cut_at.true ∙ ap Some c.played.ensures.played in
    (c.go_on.ensures.in_flight (cut_now c.args.cut _ _ c.loop-cut.invariant.before now), now)

pub returns-clause-opened : goal.returns-clause-opened
returns-clause-opened g c = c.loop-cut.invariant.opened

pub returns-clause-started : goal.returns-clause-started
returns-clause-started g c = c.loop-cut.invariant.started

pub returns-clause-in_call : goal.returns-clause-in_call
returns-clause-in_call g c = c.loop-cut.invariant.in_call

pub returns-clause-counted : goal.returns-clause-counted
returns-clause-counted g c = c.loop-cut.invariant.counted

pub returns-clause-ends : goal.returns-clause-ends
returns-clause-ends g c =
    let idle = c.in_flight.ensures.some.0 c.loop-cut-test.false in
    (idle, (c.in_flight.ensures.idle idle).0, (c.in_flight.ensures.idle idle).1, c.loop-cut.invariant.before)
