use Rattle.fp_tree.proofs.tree.Tree.leaf_number.Given as goal

abbrev pub ghosts-leaf_number_blank : goal.ghosts-leaf_number_blank
ghosts-leaf_number_blank g a = record { name = a.blank.name; parts = a.blank.parts }
