use Rattle.std.proofs.Common.{◌≡◌, ◌+◌, ◌<◌, ◌≤◌, length, take}
use Rattle.std.specs.Prelude.{All}
use Rattle.std.specs.List.{flat_map}
use Rattle.image_rules.specs.BuiltTrees.{used_in}
use Rattle.image_rules.proofs.leaf_lists.used_slots.Given as goal

abbrev pub invariant-loop-leaf : goal.invariant-loop-leaf
invariant-loop-leaf l = record {
  used : l.used.items ≡ flat_map (used_in l.words) (take l.leaf-index l.leaf-items);
  within : All (λ slot. (slot.leaf + 128 ≤ length l.words) × (slot.slot < 48)) l.used.items;
}
