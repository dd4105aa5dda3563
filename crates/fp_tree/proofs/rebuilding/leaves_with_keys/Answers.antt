use Rattle.std.proofs.Common.{◌∙◌, inl, inr, ℕ, List, [], get_or, sym, ap, subst, arith}
use Rattle.fp_tree.proofs.Walk.{Walking, next_leaf, walk_begins, walk_ends, walks_on}
use Rattle.fp_tree.proofs.rebuilding.leaves_with_keys.Goals as goal

pub loop-turn-init : goal.loop-turn-init
loop-turn-init g c = λ tree.
    subst (λ (entries : List (ℕ × ℕ)). Walking (g.M.Memory.device c.args.mem.now).cached tree.0 c.first_leaf-at.result.0 0 entries) (sym c.new-leaves.ensures.items)
    (subst (λ (at : ℕ). Walking (g.M.Memory.device c.args.mem.now).cached tree.0 at 0 []) (sym c.first_leaf-at.ensures) (walk_begins (g.M.Memory.device c.args.mem.now).cached c.args.column.0 tree))

pub load-requires : goal.load-requires
load-requires g c = (c.loop-turn.invariant c.requires).within

pub returns-then-load-eq0 : goal.returns-then-load-eq0
returns-then-load-eq0 g c = walk_ends (g.M.Memory.device c.args.mem.now).cached c.args.column.0 c.loop-turn.at.0 c.loop-turn.turn c.loop-turn.leaves.items c.requires (c.loop-turn.invariant c.requires) (inl (sym c.load.ensures ∙ c.if-load-eq0.true))

pub named_place-leaf-requires-clause-pointer : goal.named_place-leaf-requires-clause-pointer
named_place-leaf-requires-clause-pointer g c =
    (next_leaf (g.M.Memory.device c.args.mem.now).cached c.args.column.0 c.loop-turn.at.0 c.loop-turn.turn c.loop-turn.leaves.items c.requires (c.loop-turn.invariant c.requires) (λ none. c.if-load-eq0.false (c.load.ensures ∙ none))).pointer

pub add_leaf-requires-clause-within : goal.add_leaf-requires-clause-within
add_leaf-requires-clause-within g c =
    let next = next_leaf (g.M.Memory.device c.args.mem.now).cached c.args.column.0 c.loop-turn.at.0 c.loop-turn.turn c.loop-turn.leaves.items c.requires (c.loop-turn.invariant c.requires) (λ none. c.if-load-eq0.false (c.load.ensures ∙ none)) in
    let room = next.room in
    omega (arith, room, c.named_place-leaf.ensures.place)

pub add_leaf-requires-clause-bitmap : goal.add_leaf-requires-clause-bitmap
add_leaf-requires-clause-bitmap g c =
    let words : List ℕ = (g.M.Memory.device c.args.mem.now).cached in
    let next = next_leaf words c.args.column.0 c.loop-turn.at.0 c.loop-turn.turn c.loop-turn.leaves.items c.requires (c.loop-turn.invariant c.requires) (λ none. c.if-load-eq0.false (c.load.ensures ∙ none)) in
    let bitmap = next.sound.bitmap in
    let same = ap (λ (l : ℕ). get_or words l 0) c.named_place-leaf.ensures.place in
    omega (arith, bitmap, same)

pub loop-turn-preserved : goal.loop-turn-preserved
loop-turn-preserved g c = λ tree.
    let words : List ℕ = (g.M.Memory.device c.args.mem.now).cached in
    let next = next_leaf words c.args.column.0 c.loop-turn.at.0 c.loop-turn.turn c.loop-turn.leaves.items tree (c.loop-turn.invariant tree) (λ none. c.if-load-eq0.false (c.load.ensures ∙ none)) in
    let room = next.room in
    walks_on words c.args.column.0 c.loop-turn.at.0 c.loop-turn.turn c.loop-turn.leaves.items tree (c.loop-turn.invariant tree) c.named_place-leaf.result.0 _ (λ none. c.if-load-eq0.false (c.load.ensures ∙ none)) c.named_place-leaf.ensures.place (omega (arith, room, c.named_place-leaf.ensures.place)) c.in_ok-add_leaf.ensures

pub returns : goal.returns
returns g c = walk_ends (g.M.Memory.device c.args.mem.now).cached c.args.column.0 c.loop-turn.at.0 c.loop-turn.turn c.loop-turn.leaves.items c.requires (c.loop-turn.invariant c.requires) (inr (omega (arith, c.loop-turn-test.false, c.len-turn-end.ensures)))
