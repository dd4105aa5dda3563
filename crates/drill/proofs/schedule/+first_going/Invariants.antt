use Rattle.drill.proofs.schedule.+first_going.Given as goal

abbrev pub decreases-first_going : goal.decreases-first_going
decreases-first_going l = l.count
