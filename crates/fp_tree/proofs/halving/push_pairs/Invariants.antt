use Rattle.std.proofs.Common.{◌≡◌, ◌+◌, ◌*◌, ◌++◌, drop}
use Rattle.std.specs.List.{flat_map, range_with_len}
use Rattle.fp_tree.specs.Halving.{pair_stores}
use Rattle.fp_tree.proofs.halving.push_pairs.Given as goal

abbrev pub invariant-loop-slot : goal.invariant-loop-slot
invariant-loop-slot l = record {
  left : l.plan.left ≡ l.fn.plan.left ++ flat_map (pair_stores (drop 24 l.sorted.pairs) l.new.0) (range_with_len 0 l.slot);
  spare : l.plan.spare + 2 * l.slot ≡ l.fn.plan.spare;
}
