use Rattle.std.proofs.Common.{◌≡◌, ◌++◌}
use Rattle.image_rules.proofs.OwnerWalk.{read, parts, numbered_columns}
use Rattle.image_rules.proofs.owner_words.push_table_owners.Given as goal

abbrev pub invariant-loop-number : goal.invariant-loop-number
invariant-loop-number l = l.owners.items ≡ l.initial.owners.items ++ read l.words (parts l.words (numbered_columns l.words l.block.0) l.number)
