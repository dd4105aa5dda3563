use Rattle.std.proofs.Common.{◌≡◌, ◌++◌}
use Rattle.image_layout.specs.Owners.{chunk_owner}
use Rattle.image_rules.proofs.OwnerWalk.{read, named}
use Rattle.image_rules.proofs.owner_words.push_array_owners.Given as goal

abbrev pub invariant-loop-chunk : goal.invariant-loop-chunk
invariant-loop-chunk l = l.owners.items ≡ l.fn.owners.items ++ read l.words (named l.words (chunk_owner l.header.0) l.chunk)
