use Rattle.bench.proofs.tree.run_look.Given as goal

abbrev pub ghosts-look : goal.ghosts-look
ghosts-look a = record { name = a.blank.name; parts = a.blank.parts }
