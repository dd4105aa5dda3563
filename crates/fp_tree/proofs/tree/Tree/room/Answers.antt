use Rattle.std.proofs.Common.{◌∙◌, ℕ, Bool, List, cond, length, sym, ap}
use Rattle.tree_cuts.specs.Tree.{IsPlaced}
use Rattle.fp_tree.specs.declared.room.Room.TheVariants.{Free, LeafFull}
use Rattle.fp_tree.proofs.Chosen.{no_room, of_leaf, room_is}
use Rattle.fp_tree.proofs.tree.Tree.room.Goals as goal

pub is_full-requires : goal.is_full-requires
is_full-requires g c =
    let words : List ℕ = (g.M.Memory.device c.args.mem.now).cached in
    let stands = c.requires.stands.1 in
    record { within = (of_leaf words c.args.self.now c.requires.stands.0 stands c.args.probe.now c.requires.kind c.in-Some.leaf.0 c.in-Some.ensures.leaf (IsPlaced (length words) c.args.self.now.column) stands.in_words.tree_is.placed).within }

pub returns-in-None : goal.returns-in-None
returns-in-None g c = sym (no_room (g.M.Memory.device c.args.mem.now).cached c.args.self.now c.requires.stands.0 c.requires.stands.1 c.args.probe.now c.in-None.ensures.none)

pub returns-then-is_full : goal.returns-then-is_full
returns-then-is_full g c =
    sym (room_is (g.M.Memory.device c.args.mem.now).cached c.args.self.now c.requires.stands.0 c.requires.stands.1 c.args.probe.now c.requires.kind c.in-Some.leaf.0 c.in-Some.ensures.leaf
    ∙ ap (λ (b : Bool). cond b LeafFull Free) (sym c.is_full.ensures ∙ c.if-is_full.true))

pub returns-else-is_full : goal.returns-else-is_full
returns-else-is_full g c =
    sym (room_is (g.M.Memory.device c.args.mem.now).cached c.args.self.now c.requires.stands.0 c.requires.stands.1 c.args.probe.now c.requires.kind c.in-Some.leaf.0 c.in-Some.ensures.leaf
    ∙ ap (λ (b : Bool). cond b LeafFull Free) (sym c.is_full.ensures ∙ c.if-is_full.false))
