use Rattle.std.proofs.Common.{◌≡◌, ◌<◌, ◌++◌, length}
use Rattle.image_layout.specs.Objects.{segment_pointer_at}
use Rattle.image_layout.specs.Owners.{segment_owner}
use Rattle.image_rules.proofs.OwnerWalk.{read, named}
use Rattle.image_rules.proofs.owner_words.push_object_owners.Given as goal

abbrev pub invariant-loop-number : goal.invariant-loop-number
invariant-loop-number l = record {
  pointer : l.pointer.0 ≡ segment_pointer_at l.words l.object l.number;
  within : l.pointer.0 < length l.words;
  found : l.owners.items ≡ l.fn.owners.items ++ read l.words (named l.words (segment_owner l.words l.object) l.number);
}
