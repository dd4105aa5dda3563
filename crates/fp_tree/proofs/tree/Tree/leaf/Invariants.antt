use Rattle.fp_tree.proofs.tree.Tree.leaf.Given as goal

abbrev pub ghosts-leaf_blank : goal.ghosts-leaf_blank
ghosts-leaf_blank g a = record { name = a.blank.name; parts = a.blank.parts }
