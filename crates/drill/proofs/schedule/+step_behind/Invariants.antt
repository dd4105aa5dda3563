use Rattle.drill.proofs.schedule.+step_behind.Given as goal

abbrev pub decreases-step_behind : goal.decreases-step_behind
decreases-step_behind l = l.count
