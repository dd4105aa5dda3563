use Rattle.std.proofs.Common.{◌≡◌, ◌∙◌, ℕ, ◌+◌, ◌*◌, ◌-◌, List, [], ◌++◌, length, map, ap, subst, sym, arith}
use Rattle.fp_inner.specs.Keys.{AreAscending, IsLeafFor, rest_of}
use Rattle.fp_leaf.specs.PairListState.{PairListState}
use Rattle.tree_cuts.specs.Tree.{IsPlaced}
use Rattle.fp_tree.specs.Leaves.{without_slot}
use Rattle.fp_tree.specs.Ranges.{pairs_from_to}
use Rattle.fp_tree.specs.Standing.{IsSoundLeaf}
use Rattle.fp_tree.specs.TreeState.{TreeState}
use Rattle.fp_tree.proofs.Chosen.{ascending, size}
use Rattle.fp_tree.proofs.Ranged.{Ranging, few_leaves, kept_in, nothing_ranged, numbered, of_number, ok_map, range_begins, range_ends, range_goes_on}
use Rattle.fp_tree.proofs.tree.Tree.range_blank.Goals as goal

pub returns-then-is_empty : goal.returns-then-is_empty
returns-then-is_empty g c =
    let words : List ℕ = (g.M.Memory.device c.args.mem.now).cached in
    ok_map (λ (list : PairListState). list.pairs ≡ []) (λ list. map without_slot list.pairs ≡ pairs_from_to words c.args.self.now.column c.args.low.now c.args.high.now) c.with_room.result
    (λ list none. nothing_ranged words c.args.self.now c.requires.stands.0 c.requires.stands.1 c.args.low.now c.args.high.now c.requires.low c.requires.high list.pairs (sym (ap (λ (tree : TreeState). tree.inner.leaves) c.self.view_is) ∙ c.is_empty.ensures.0 c.if-is_empty.true) none)
    c.with_room.ensures.pairs

pub leaf_for-first-requires-clause-sorted : goal.leaf_for-first-requires-clause-sorted
leaf_for-first-requires-clause-sorted g c =
    subst (λ (tree : TreeState). AreAscending (g.M.Memory.device c.args.mem.now).cached tree.inner.kind (rest_of tree.inner.leaves)) (sym c.self.view_is)
    (ascending (g.M.Memory.device c.args.mem.now).cached c.args.self.now c.requires.stands.0 c.requires.stands.1)

pub leaf_for-end-requires-clause-sorted : goal.leaf_for-end-requires-clause-sorted
leaf_for-end-requires-clause-sorted g c =
    subst (λ (tree : TreeState). AreAscending (g.M.Memory.device c.args.mem.now).cached tree.inner.kind (rest_of tree.inner.leaves)) (sym c.self.view_is)
    (ascending (g.M.Memory.device c.args.mem.now).cached c.args.self.now c.requires.stands.0 c.requires.stands.1)

pub overflow_add-end : goal.overflow_add-end
overflow_add-end g c =
    let most = (g.met.M.Memory.whole c.args.mem.now).most in
    let few = few_leaves (g.M.Memory.device c.args.mem.now).cached c.args.self.now c.requires.stands.0 c.requires.stands.1 c.args.low.now c.args.high.now c.requires.low c.requires.high in
    let same = ap (λ (tree : TreeState). length tree.inner.leaves) c.self.view_is in
    let within = c.leaf_for-end.ensures.leaf.within in
    omega (arith, most, few, same, within)

pub overflow_cast-slots : goal.overflow_cast-slots
overflow_cast-slots g c =
    let most = (g.met.M.Memory.whole c.args.mem.now).most in
    let few = few_leaves (g.M.Memory.device c.args.mem.now).cached c.args.self.now c.requires.stands.0 c.requires.stands.1 c.args.low.now c.args.high.now c.requires.low c.requires.high in
    let same = ap (λ (tree : TreeState). length tree.inner.leaves) c.self.view_is in
    let within = c.leaf_for-end.ensures.leaf.within in
    omega (arith, most, few, same, within, c.saturating_sub.ensures)

pub overflow_mul-slots : goal.overflow_mul-slots
overflow_mul-slots g c =
    let most = (g.met.M.Memory.whole c.args.mem.now).most in
    let few = few_leaves (g.M.Memory.device c.args.mem.now).cached c.args.self.now c.requires.stands.0 c.requires.stands.1 c.args.low.now c.args.high.now c.requires.low c.requires.high in
    let same = ap (λ (tree : TreeState). length tree.inner.leaves) c.self.view_is in
    let within = c.leaf_for-end.ensures.leaf.within in
    let times : c.from.result * c.saturating_sub.result ≡ 48 * c.saturating_sub.result = ap (λ (n : ℕ). n * c.saturating_sub.result) c.from.ensures in
    omega (arith, most, few, same, within, c.saturating_sub.ensures, times)

pub loop-at-init : goal.loop-at-init
loop-at-init g c =
    let words : List ℕ = (g.M.Memory.device c.args.mem.now).cached in
    let times : c.from.result * c.saturating_sub.result ≡ 48 * (c.leaf_for-end.result + 1 - c.leaf_for-first.result) = ap (λ (n : ℕ). n * c.saturating_sub.result) c.from.ensures ∙ ap (λ (n : ℕ). 48 * n) c.saturating_sub.ensures in (
      λ stands.
          subst (Ranging words c.args.low.now c.args.high.now stands.0 c.leaf_for-first.result) (sym c.in_ok-list.ensures.pairs)
          (range_begins words c.args.self.now stands.0 stands.1 c.args.low.now c.args.high.now c.requires.low c.requires.high c.leaf_for-first.result c.leaf_for-end.result
          (subst (λ (tree : TreeState). IsLeafFor words tree.inner.leaves c.args.low.now c.leaf_for-first.result) c.self.view_is c.leaf_for-first.ensures.leaf)
          (subst (λ (tree : TreeState). IsLeafFor words tree.inner.leaves c.args.high.now c.leaf_for-end.result) c.self.view_is c.leaf_for-end.ensures.leaf)),
      let spare = c.in_ok-list.ensures.spare in omega (arith, spare, times),
    )

pub push_from_to-requires-clause-within : goal.push_from_to-requires-clause-within
push_from_to-requires-clause-within g c =
    let words : List ℕ = (g.M.Memory.device c.args.mem.now).cached in
    let same = ap (λ (tree : TreeState). length tree.inner.leaves) c.self.view_is in
    let inside = c.leaf_for-end.ensures.leaf.within in
    (of_number words c.args.self.now c.requires.stands.0 c.requires.stands.1 c.args.low.now c.args.high.now c.requires.low c.requires.high (IsPlaced (length words) c.args.self.now.column) c.requires.stands.1.in_words.tree_is.placed
    c.loop-at.at c.leaf_place-leaf.result.0 (omega (arith, same, inside, c.loop-at-test.true)) c.leaf_place-leaf.ensures).within

pub push_from_to-requires-clause-sound : goal.push_from_to-requires-clause-sound
push_from_to-requires-clause-sound g c =
    let words : List ℕ = (g.M.Memory.device c.args.mem.now).cached in
    let same = ap (λ (tree : TreeState). length tree.inner.leaves) c.self.view_is in
    let inside = c.leaf_for-end.ensures.leaf.within in
    of_number words c.args.self.now c.requires.stands.0 c.requires.stands.1 c.args.low.now c.args.high.now c.requires.low c.requires.high (IsSoundLeaf words) c.requires.stands.1.in_words.sound
    c.loop-at.at c.leaf_place-leaf.result.0 (omega (arith, same, inside, c.loop-at-test.true)) c.leaf_place-leaf.ensures

pub loop-at-preserved : goal.loop-at-preserved
loop-at-preserved g c =
    let words : List ℕ = (g.M.Memory.device c.args.mem.now).cached in
    let same = ap (λ (tree : TreeState). length tree.inner.leaves) c.self.view_is in
    let inside = c.leaf_for-end.ensures.leaf.within in
    let at : ℕ = c.loop-at.at in (
      λ stands.
          let leaf_is = numbered words c.args.self.now stands.0 stands.1 c.args.low.now c.args.high.now c.requires.low c.requires.high at c.leaf_place-leaf.result.0 (omega (arith, same, inside, c.loop-at-test.true)) c.leaf_place-leaf.ensures in
          let count = size words c.args.self.now stands.0 stands.1 in
          range_goes_on words c.args.low.now c.args.high.now stands.0 at c.loop-at.list.pairs c.push_from_to.new.list.pairs (omega (arith, same, inside, count, c.loop-at-test.true))
          (c.push_from_to.ensures.pairs ∙ ap (λ (leaf : ℕ). map without_slot c.loop-at.list.pairs ++ kept_in words c.args.low.now c.args.high.now leaf) leaf_is) (c.loop-at.invariant.0 stands),
      let spare = c.loop-at.invariant.1 in omega (arith, spare, c.push_from_to.ensures.spare, c.loop-at-test.true),
    )

pub returns : goal.returns
returns g c =
    let words : List ℕ = (g.M.Memory.device c.args.mem.now).cached in
    range_ends words c.args.self.now c.requires.stands.0 c.requires.stands.1 c.args.low.now c.args.high.now c.requires.low c.requires.high c.leaf_for-first.result c.leaf_for-end.result
    (subst (λ (tree : TreeState). IsLeafFor words tree.inner.leaves c.args.low.now c.leaf_for-first.result) c.self.view_is c.leaf_for-first.ensures.leaf)
    (subst (λ (tree : TreeState). IsLeafFor words tree.inner.leaves c.args.high.now c.leaf_for-end.result) c.self.view_is c.leaf_for-end.ensures.leaf)
    c.loop-at.at c.loop-at.list.pairs c.sort.new.self.pairs (omega (arith, c.loop-at-test.false)) (c.loop-at.invariant.0 c.requires.stands) c.sort.ensures.pairs c.sort.ensures.sorted
