use Rattle.std.proofs.Common.{arith}
use Rattle.std.specs.Prelude.{◌/◌}
use Rattle.drill.proofs.Cuts.{cuts-are}
use Rattle.drill.proofs.summary.cuts_in.Goals as goal

pub returns : goal.returns
returns c = cuts-are c.args.turns (c.saturating_sub.result / 1024) (let less = c.saturating_sub.ensures in omega arith)
