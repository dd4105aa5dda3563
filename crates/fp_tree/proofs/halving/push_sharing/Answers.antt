use Rattle.std.proofs.Common.{◌∙◌, ℕ, List, refl}
use Rattle.fp_tree.proofs.Copied.{all_pairs, half_kept, shared, small_slots}
use Rattle.fp_tree.proofs.halving.push_sharing.Goals as goal

pub greater_half-requires-clause-full : goal.greater_half-requires-clause-full
greater_half-requires-clause-full g c = all_pairs (g.M.Memory.device c.args.mem.now).cached c.args.leaf.0 c.requires.full c.args.sorted.now.pairs c.requires.sorted

pub greater_half-requires-clause-slots : goal.greater_half-requires-clause-slots
greater_half-requires-clause-slots g c = small_slots (g.M.Memory.device c.args.mem.now).cached c.args.leaf.0 c.requires.full c.args.sorted.now.pairs c.requires.sorted

pub returns : goal.returns
returns g c =
    let words : List ℕ = (g.M.Memory.device c.args.mem.now).cached in
    shared words c.args.column.0 c.args.leaf.0 c.args.new.0 c.args.plan.now.left c.push_copy.new.plan.left c.push_store.new.self.left c.push_store-2.new.self.left c.push_store-3.new.self.left c.push_store-4.new.self.left
    _ _ _ _ _ c.push_copy.ensures.left c.push_store.ensures.left c.push_store-2.ensures.left c.push_store-3.ensures.left c.push_store-4.ensures.left
    (half_kept words c.args.leaf.0 c.requires.full c.args.sorted.now.pairs c.requires.sorted c.greater_half.result c.greater_half.ensures) refl (c.word.ensures ∙ c.of.ensures) c.new_leaf.ensures c.split_leaf.ensures
