use Rattle.std.proofs.Common.{◌-◌, ◌<◌, ◌++◌, length, map}
use Rattle.image_layout.specs.Owners.{leaf_owner}
use Rattle.image_rules.specs.BuiltOwners.{as_read, leaf_links}
use Rattle.image_rules.proofs.LeafWalk.{Left}
use Rattle.image_rules.proofs.owner_words.push_leaf_owners.Given as goal

abbrev pub invariant-loop-step : goal.invariant-loop-step
invariant-loop-step l = record {
  within : l.pointer.0 < length l.words;
  left : Left l.words (l.fn.owners.items ++ map (as_read l.words) (map leaf_owner (leaf_links l.words l.fn.column.0))) l.owners.items (length l.words - l.step) l.pointer.0;
}
