use Rattle.std.proofs.Common.{◌≡◌, ◌+◌, ◌<◌, ◌≤◌, ◌++◌, length, map}
use Rattle.std.specs.Prelude.{All, filter}
use Rattle.image_layout.specs.Places.{below}
use Rattle.image_rules.specs.BuiltTrees.{is_used, leaf_slot}
use Rattle.image_rules.proofs.leaf_lists.push_used.Given as goal

abbrev pub invariant-loop-slot : goal.invariant-loop-slot
invariant-loop-slot l = record {
  used : l.used.items ≡ l.fn.used.items ++ map (leaf_slot l.leaf) (filter (is_used l.words l.leaf) (below l.slot));
  within : All (λ slot. (slot.leaf + 128 ≤ length l.words) × (slot.slot < 48)) l.fn.used.items → All (λ slot. (slot.leaf + 128 ≤ length l.words) × (slot.slot < 48)) l.used.items;
}
