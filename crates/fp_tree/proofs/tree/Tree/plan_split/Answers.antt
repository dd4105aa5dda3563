use Rattle.std.proofs.Common.{◌+◌, ◌∙◌, ℕ, List, ap, arith, sym}
use Rattle.std.specs.Prelude.{insert}
use Rattle.fp_inner.specs.Keys.{leaf_pointer}
use Rattle.image_layout.specs.Pointer.{pointer_word}
use Rattle.fp_tree.specs.TreeState.{TreeState}
use Rattle.fp_tree.proofs.Chosen.{none_from, pointer_at, pointer_some}
use Rattle.fp_tree.proofs.Copied.{all_pairs, noted_part}
use Rattle.fp_tree.proofs.Granted.{record_within}
use Rattle.fp_tree.proofs.PutIn.{some_of}
use Rattle.fp_tree.proofs.SplitPlanned.{has_leaves, leaf_distinct, leaf_fits, leaf_full, leaf_sound, low_number, named_leaf, new_fits, planned_split}
use Rattle.fp_tree.proofs.tree.Tree.plan_split.Goals as goal

pub leaf_number-at-requires-clause-some : goal.leaf_number-at-requires-clause-some
leaf_number-at-requires-clause-some g c = has_leaves (g.M.Memory.device c.args.mem.now).cached c.args.self.now c.requires.stands.0 c.requires.stands.1 c.args.probe.now c.requires.kind c.requires.full

pub unwrap-leaf-requires : goal.unwrap-leaf-requires
unwrap-leaf-requires g c =
    some_of ⊥ c.place.result
    (none_from c.place.result (λ none. pointer_some _ (sym (pointer_at (g.M.Memory.device c.args.mem.now).cached c.args.self.now c.requires.stands.0 c.requires.stands.1 c.leaf_number-at.result c.leaf_number-at.ensures.within)
    ∙ ap (λ (tree : TreeState). leaf_pointer tree.inner.leaves c.leaf_number-at.result) (sym c.self.view_is) ∙ sym c.leaf_at.ensures ∙ c.place.ensures.null.0 none)))
    (λ never. never)

pub sorted_pairs-requires-clause-within : goal.sorted_pairs-requires-clause-within
sorted_pairs-requires-clause-within g c =
    let named = named_leaf c.args.self.now _ c.leaf_number-at.result c.leaf_at.result c.place.result c.unwrap-leaf.result c.self.view_is c.leaf_at.ensures c.unwrap-leaf.ensures c.place.ensures.named in
    leaf_fits (g.M.Memory.device c.args.mem.now).cached c.args.self.now c.requires.stands.0 c.requires.stands.1 c.args.probe.now c.requires.kind c.requires.full c.leaf_number-at.result c.leaf_number-at.ensures c.unwrap-leaf.result.0 named

pub sorted_pairs-requires-clause-full : goal.sorted_pairs-requires-clause-full
sorted_pairs-requires-clause-full g c =
    let named = named_leaf c.args.self.now _ c.leaf_number-at.result c.leaf_at.result c.place.result c.unwrap-leaf.result c.self.view_is c.leaf_at.ensures c.unwrap-leaf.ensures c.place.ensures.named in
    leaf_full (g.M.Memory.device c.args.mem.now).cached c.args.self.now c.requires.stands.0 c.requires.stands.1 c.args.probe.now c.requires.kind c.requires.full c.leaf_number-at.result c.leaf_number-at.ensures c.unwrap-leaf.result.0 named

pub sorted_pairs-requires-clause-sound : goal.sorted_pairs-requires-clause-sound
sorted_pairs-requires-clause-sound g c =
    let named = named_leaf c.args.self.now _ c.leaf_number-at.result c.leaf_at.result c.place.result c.unwrap-leaf.result c.self.view_is c.leaf_at.ensures c.unwrap-leaf.ensures c.place.ensures.named in
    leaf_sound (g.M.Memory.device c.args.mem.now).cached c.args.self.now c.requires.stands.0 c.requires.stands.1 c.args.probe.now c.requires.kind c.requires.full c.leaf_number-at.result c.leaf_number-at.ensures c.unwrap-leaf.result.0 named

pub sorted_pairs-requires-clause-distinct : goal.sorted_pairs-requires-clause-distinct
sorted_pairs-requires-clause-distinct g c =
    let named = named_leaf c.args.self.now _ c.leaf_number-at.result c.leaf_at.result c.place.result c.unwrap-leaf.result c.self.view_is c.leaf_at.ensures c.unwrap-leaf.ensures c.place.ensures.named in
    leaf_distinct (g.M.Memory.device c.args.mem.now).cached c.args.self.now c.requires.stands.0 c.requires.stands.1 c.args.probe.now c.requires.kind c.requires.full c.leaf_number-at.result c.leaf_number-at.ensures c.unwrap-leaf.result.0 named

pub split_leaf-requires : goal.split_leaf-requires
split_leaf-requires g c =
    let words : List ℕ = (g.M.Memory.device c.args.mem.now).cached in
    let whole = g.met.M.Memory.whole c.args.mem.now in
    let within = record_within words whole.segments whole.one_or_more c.args.self.now.column c.args.heap.now c.args.lane c.requires.may in
    let same = ap (λ (tree : TreeState). tree.column) c.self.view_is in
    omega (arith, within, same, whole.most)

pub of-requires : goal.of-requires
of-requires g c =
    let whole = g.met.M.Memory.whole c.args.mem.now in
    let named = named_leaf c.args.self.now _ c.leaf_number-at.result c.leaf_at.result c.place.result c.unwrap-leaf.result c.self.view_is c.leaf_at.ensures c.unwrap-leaf.ensures c.place.ensures.named in
    let within = leaf_fits (g.M.Memory.device c.args.mem.now).cached c.args.self.now c.requires.stands.0 c.requires.stands.1 c.args.probe.now c.requires.kind c.requires.full c.leaf_number-at.result c.leaf_number-at.ensures c.unwrap-leaf.result.0 named in
    omega (arith, within, whole.most)

pub push_sharing-requires-clause-column : goal.push_sharing-requires-clause-column
push_sharing-requires-clause-column g c =
    let words : List ℕ = (g.M.Memory.device c.args.mem.now).cached in
    let whole = g.met.M.Memory.whole c.args.mem.now in
    let within = record_within words whole.segments whole.one_or_more c.args.self.now.column c.args.heap.now c.args.lane c.requires.may in
    let same = ap (λ (tree : TreeState). tree.column) c.self.view_is in
    omega (arith, within, same, whole.most)

pub push_sharing-requires-clause-leaf : goal.push_sharing-requires-clause-leaf
push_sharing-requires-clause-leaf g c =
    let named = named_leaf c.args.self.now _ c.leaf_number-at.result c.leaf_at.result c.place.result c.unwrap-leaf.result c.self.view_is c.leaf_at.ensures c.unwrap-leaf.ensures c.place.ensures.named in
    leaf_fits (g.M.Memory.device c.args.mem.now).cached c.args.self.now c.requires.stands.0 c.requires.stands.1 c.args.probe.now c.requires.kind c.requires.full c.leaf_number-at.result c.leaf_number-at.ensures c.unwrap-leaf.result.0 named

pub push_sharing-requires-clause-new : goal.push_sharing-requires-clause-new
push_sharing-requires-clause-new g c =
    let words : List ℕ = (g.M.Memory.device c.args.mem.now).cached in
    let whole = g.met.M.Memory.whole c.args.mem.now in
    let named = named_leaf c.args.self.now _ c.leaf_number-at.result c.leaf_at.result c.place.result c.unwrap-leaf.result c.self.view_is c.leaf_at.ensures c.unwrap-leaf.ensures c.place.ensures.named in
    let within = new_fits words c.args.self.now c.requires.stands.0 c.requires.stands.1 c.args.probe.now c.requires.kind c.requires.full c.leaf_number-at.result c.leaf_number-at.ensures c.unwrap-leaf.result.0 named
    whole.segments whole.one_or_more c.args.heap.now c.args.lane c.requires.may c.push_leaf.new.heap c.self.inside.column.0 c.in_ok-new.new.0 c.push_store.new.self.left c.push_leaf.new.plan.left (ap (λ (tree : TreeState). tree.column) c.self.view_is) c.in_ok-new.ensures.allocated in
    omega (arith, within, whole.most)

pub push_sharing-requires-clause-full : goal.push_sharing-requires-clause-full
push_sharing-requires-clause-full g c =
    let named = named_leaf c.args.self.now _ c.leaf_number-at.result c.leaf_at.result c.place.result c.unwrap-leaf.result c.self.view_is c.leaf_at.ensures c.unwrap-leaf.ensures c.place.ensures.named in
    leaf_full (g.M.Memory.device c.args.mem.now).cached c.args.self.now c.requires.stands.0 c.requires.stands.1 c.args.probe.now c.requires.kind c.requires.full c.leaf_number-at.result c.leaf_number-at.ensures c.unwrap-leaf.result.0 named

pub overflow_add-at : goal.overflow_add-at
overflow_add-at g c =
    let whole = g.met.M.Memory.whole c.args.mem.now in
    let named = named_leaf c.args.self.now _ c.leaf_number-at.result c.leaf_at.result c.place.result c.unwrap-leaf.result c.self.view_is c.leaf_at.ensures c.unwrap-leaf.ensures c.place.ensures.named in
    let low = low_number (g.M.Memory.device c.args.mem.now).cached c.args.self.now c.requires.stands.0 c.requires.stands.1 c.args.probe.now c.requires.kind c.requires.full c.leaf_number-at.result c.leaf_number-at.ensures c.unwrap-leaf.result.0 named in
    omega (arith, low, whole.most)

pub get-requires : goal.get-requires
get-requires g c =
    let words : List ℕ = (g.M.Memory.device c.args.mem.now).cached in
    let named = named_leaf c.args.self.now _ c.leaf_number-at.result c.leaf_at.result c.place.result c.unwrap-leaf.result c.self.view_is c.leaf_at.ensures c.unwrap-leaf.ensures c.place.ensures.named in
    let count = all_pairs words c.unwrap-leaf.result.0 (leaf_full words c.args.self.now c.requires.stands.0 c.requires.stands.1 c.args.probe.now c.requires.kind c.requires.full c.leaf_number-at.result c.leaf_number-at.ensures c.unwrap-leaf.result.0 named) c.in_ok-sorted.sorted.pairs c.in_ok-sorted.ensures in
    omega (arith, count)

pub of-requires-2 : goal.of-requires-2
of-requires-2 g c =
    let words : List ℕ = (g.M.Memory.device c.args.mem.now).cached in
    let whole = g.met.M.Memory.whole c.args.mem.now in
    let named = named_leaf c.args.self.now _ c.leaf_number-at.result c.leaf_at.result c.place.result c.unwrap-leaf.result c.self.view_is c.leaf_at.ensures c.unwrap-leaf.ensures c.place.ensures.named in
    let within = new_fits words c.args.self.now c.requires.stands.0 c.requires.stands.1 c.args.probe.now c.requires.kind c.requires.full c.leaf_number-at.result c.leaf_number-at.ensures c.unwrap-leaf.result.0 named
    whole.segments whole.one_or_more c.args.heap.now c.args.lane c.requires.may c.push_leaf.new.heap c.self.inside.column.0 c.in_ok-new.new.0 c.push_store.new.self.left c.push_leaf.new.plan.left (ap (λ (tree : TreeState). tree.column) c.self.view_is) c.in_ok-new.ensures.allocated in
    omega (arith, within, whole.most)

pub returns-clause-planned : goal.returns-clause-planned
returns-clause-planned g c =
    let words : List ℕ = (g.M.Memory.device c.args.mem.now).cached in
    let whole = g.met.M.Memory.whole c.args.mem.now in
    let named = named_leaf c.args.self.now _ c.leaf_number-at.result c.leaf_at.result c.place.result c.unwrap-leaf.result c.self.view_is c.leaf_at.ensures c.unwrap-leaf.ensures c.place.ensures.named in
    planned_split words c.args.self.now c.requires.stands.0 c.requires.stands.1 c.args.probe.now c.requires.kind c.requires.full c.leaf_number-at.result c.leaf_number-at.ensures c.unwrap-leaf.result.0 named
    whole.segments whole.one_or_more c.args.heap.now c.args.lane c.requires.may c.push_leaf.new.heap
    c.self.inside.column.0 c.in_ok-new.new.0 c.in_ok-plan.plan.left c.push_store.new.self.left c.push_leaf.new.plan.left c.push_sharing.new.plan.left (ap (λ (tree : TreeState). tree.column) c.self.view_is) c.in_ok-plan.ensures.empty
    (noted_part c.in_ok-plan.plan.left c.push_store.new.self.left c.split_leaf.result.0 c.word.result c.self.inside.column.0 c.unwrap-leaf.result.0 c.push_store.ensures.left c.split_leaf.ensures (c.word.ensures ∙ c.of.ensures))
    c.in_ok-new.ensures.allocated c.push_sharing.ensures c.in_ok-sorted.sorted.pairs c.in_ok-sorted.ensures c.get.result c.get.ensures
    c.insert.new.self (c.insert.ensures.kind ∙ c.in_ok-reserve.ensures.kind ∙ ap (λ (tree : TreeState). tree.inner.kind) c.self.view_is)
    (c.insert.ensures.leaves ∙ ap (λ (at : ℕ). insert c.reserve.new.self.leaves (c.leaf_number-at.result + 1) (c.get.result.key, at)) c.of-2.ensures
    ∙ ap (λ (entries : List (ℕ × ℕ)). insert entries (c.leaf_number-at.result + 1) (c.get.result.key, pointer_word c.in_ok-new.new.0)) (c.in_ok-reserve.ensures.leaves ∙ ap (λ (tree : TreeState). tree.inner.leaves) c.self.view_is))
