use Rattle.std.proofs.Common.{◌≡◌}
use Rattle.mv_model.specs.declared.call.Call.{Call}
use Rattle.engine_core.specs.CoreState.{Unplaced}
use Rattle.engine_core.specs.LogicalState.{logical_state}
use Rattle.session_serve.specs.Playing.{IsBefore, IsCounted, IsInCall}
use Rattle.session_serve.proofs.playing.step_to_reply.Given as goal

abbrev pub invariant-loop-cut : goal.invariant-loop-cut
invariant-loop-cut g l = record {
  opened : l.core.opened ≡ l.initial.core.opened;
  started : l.core.started ≡ l.initial.core.started;
  in_call : (said : Call) → l.initial.core.in_flight ≡ Unplaced said
      → IsInCall (logical_state l.initial.core.opened) said l.initial.core.history l.core.in_flight l.core.history;
  counted : IsCounted l.core;
  before : IsBefore l.cut l.core.played;
}

abbrev pub decreases-loop-cut : goal.decreases-loop-cut
decreases-loop-cut g l = l.core.events_left
