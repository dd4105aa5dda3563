use Rattle.std.proofs.Common.{◌≡◌, ◌≢◌, []}
use Rattle.session_serve.specs.Playing.{HasRun, IsBefore}
use Rattle.session_serve.proofs.playing.answer_lines.Given as goal

abbrev pub invariant-loop-line : goal.invariant-loop-line
invariant-loop-line g l = record {
  opened : l.core.opened ≡ l.initial.core.opened;
  run : HasRun l.yielded l.core;
  before : l.fn.lines.items ≢ [] → IsBefore l.cut l.core.played;
}
