use Rattle.std.proofs.Common.{◌≡◌, ◌++◌}
use Rattle.image_layout.specs.Owners.{object_owners}
use Rattle.image_rules.specs.BuiltOwners.{built_table_owners}
use Rattle.image_rules.proofs.OwnerWalk.{read, parts}
use Rattle.image_rules.proofs.owner_words.owner_words.Given as goal

abbrev pub invariant-loop-table : goal.invariant-loop-table
invariant-loop-table l = l.owners.items ≡ read l.words (parts l.words (built_table_owners l.words) l.table)

abbrev pub invariant-loop-object : goal.invariant-loop-object
invariant-loop-object l = l.owners.items ≡ l.initial.owners.items ++ read l.words (parts l.words (object_owners l.words) l.object)
