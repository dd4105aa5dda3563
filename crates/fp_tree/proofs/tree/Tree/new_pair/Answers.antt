use Rattle.std.proofs.Common.{◌≡◌, ◌<◌, ◌∙◌, ℕ, false, List, [], subst, arith}
use Rattle.fp_leaf.specs.Slots.{AreUsedBelow, is_used}
use Rattle.image_layout.specs.declared.place.Place.{Place}
use Rattle.fp_tree.specs.Searched.{IsLeafAt}
use Rattle.fp_tree.proofs.PutIn.{has_free_slot, has_leaf, leaf_fits, match_here, match_some, place_for, print_is, some_of}
use Rattle.fp_tree.proofs.tree.Tree.new_pair.Goals as goal

pub unwrap-leaf-requires : goal.unwrap-leaf-requires
unwrap-leaf-requires g c =
    some_of (c.args.self.now.inner.leaves ≡ []) c.leaf.result c.leaf.ensures.none (has_leaf (g.M.Memory.device c.args.mem.now).cached c.args.self.now c.requires.stands.0 c.requires.stands.1 c.args.probe.now c.requires.room)

pub load-requires : goal.load-requires
load-requires g c =
    let words : List ℕ = (g.M.Memory.device c.args.mem.now).cached in
    let at_leaf = match_here (Unit {0}) (λ (leaf : Place). IsLeafAt words c.args.self.now c.args.probe.now leaf.0) c.leaf.result c.unwrap-leaf.result c.unwrap-leaf.ensures c.leaf.ensures.leaf in
    let fits = leaf_fits words c.args.self.now c.requires.stands.0 c.requires.stands.1 c.args.probe.now c.requires.room c.requires.kind c.unwrap-leaf.result.0 at_leaf in
    omega (arith, fits)

pub unwrap-slot-requires : goal.unwrap-slot-requires
unwrap-slot-requires g c =
    let words : List ℕ = (g.M.Memory.device c.args.mem.now).cached in
    let at_leaf = match_here (Unit {0}) (λ (leaf : Place). IsLeafAt words c.args.self.now c.args.probe.now leaf.0) c.leaf.result c.unwrap-leaf.result c.unwrap-leaf.ensures c.leaf.ensures.leaf in
    match_some (AreUsedBelow c.load.result 48) (λ (slot : ℕ). (slot < 48) × (is_used c.load.result slot ≡ false) × AreUsedBelow c.load.result slot) c.free_slot.result c.free_slot.ensures
    (λ used. has_free_slot words c.args.self.now c.requires.stands.0 c.requires.stands.1 c.args.probe.now c.requires.room c.requires.kind c.unwrap-leaf.result.0 at_leaf
    (subst (λ (n : ℕ). AreUsedBelow n 48) c.load.ensures used))

pub returns-clause-place : goal.returns-clause-place
returns-clause-place g c =
    let words : List ℕ = (g.M.Memory.device c.args.mem.now).cached in
    let at_leaf = match_here (Unit {0}) (λ (leaf : Place). IsLeafAt words c.args.self.now c.args.probe.now leaf.0) c.leaf.result c.unwrap-leaf.result c.unwrap-leaf.ensures c.leaf.ensures.leaf in
    let at_slot = subst (λ (n : ℕ). (c.unwrap-slot.result < 48) × (is_used n c.unwrap-slot.result ≡ false) × AreUsedBelow n c.unwrap-slot.result) c.load.ensures
    (match_here (AreUsedBelow c.load.result 48) (λ (slot : ℕ). (slot < 48) × (is_used c.load.result slot ≡ false) × AreUsedBelow c.load.result slot) c.free_slot.result c.unwrap-slot.result c.unwrap-slot.ensures c.free_slot.ensures) in
    place_for words c.args.self.now c.requires.stands.0 c.requires.stands.1 c.args.probe.now c.requires.room c.requires.kind c.unwrap-leaf.result.0 at_leaf
    c.args.key c.requires.key c.requires.absent c.unwrap-slot.result at_slot.0 at_slot.1 at_slot.2

pub returns-clause-print : goal.returns-clause-print
returns-clause-print g c =
    let words : List ℕ = (g.M.Memory.device c.args.mem.now).cached in
    let at_leaf = match_here (Unit {0}) (λ (leaf : Place). IsLeafAt words c.args.self.now c.args.probe.now leaf.0) c.leaf.result c.unwrap-leaf.result c.unwrap-leaf.ensures c.leaf.ensures.leaf in
    c.fingerprint.ensures ∙ print_is words c.args.self.now c.requires.stands.0 c.requires.stands.1 c.args.probe.now c.requires.room c.requires.kind c.unwrap-leaf.result.0 at_leaf c.args.key c.requires.key
