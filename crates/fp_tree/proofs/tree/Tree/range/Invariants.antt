use Rattle.fp_tree.proofs.tree.Tree.range.Given as goal

abbrev pub ghosts-range_blank : goal.ghosts-range_blank
ghosts-range_blank g a = record { name = a.blank.name; parts = a.blank.parts }
