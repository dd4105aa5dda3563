use Rattle.std.proofs.Common.{◌-◌, arith}
use Rattle.engine_core.proofs.OpeningPlans.{nth-undo, nth-close, nth-clear}
use Rattle.engine_core.proofs.opening.Mending.nth.Goals as goal

pub returns-then-place-le-OBJECTS-clause-mending : goal.returns-then-place-le-OBJECTS-clause-mending
returns-then-place-le-OBJECTS-clause-mending c = nth-undo c.args.place (c.args.place - 1) (omega arith) (omega arith)

pub returns-then-place-clause-mending : goal.returns-then-place-clause-mending
returns-then-place-clause-mending c = nth-close c.args.place (c.args.place - 1 - 16) (omega arith) (omega arith)

pub returns-else-place-clause-mending : goal.returns-else-place-clause-mending
returns-else-place-clause-mending c = nth-clear c.args.place (c.args.place - 1 - 32) (omega arith) (omega arith)
