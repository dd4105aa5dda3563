use Rattle.std.proofs.Common.{◌≡◌, ◌++◌}
use Rattle.image_layout.specs.Owners.{extension_owner}
use Rattle.image_rules.proofs.OwnerWalk.{read, named}
use Rattle.image_rules.proofs.owner_words.push_extension_owners.Given as goal

abbrev pub invariant-loop-number : goal.invariant-loop-number
invariant-loop-number l = l.owners.items ≡ l.fn.owners.items ++ read l.words (named l.words (extension_owner l.words l.block.0) l.number)
