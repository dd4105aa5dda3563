use Rattle.std.proofs.Common.{◌≡◌}
use Rattle.drill.specs.Script.{drafted}
use Rattle.drill.proofs.script.script_of.Given as goal

abbrev pub invariant-loop : goal.invariant-loop
invariant-loop l = l.draft ≡ drafted l.number l.counter
