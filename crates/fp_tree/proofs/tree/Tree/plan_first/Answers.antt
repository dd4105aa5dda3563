use Rattle.std.proofs.Common.{◌∙◌, ℕ, List, length, ap, arith}
use Rattle.std.specs.Prelude.{insert}
use Rattle.image_layout.specs.Pointer.{pointer_word}
use Rattle.fp_tree.specs.TreeState.{TreeState}
use Rattle.fp_tree.proofs.FirstStands.{first_within, none_indexed, planned_first}
use Rattle.fp_tree.proofs.Granted.{record_within}
use Rattle.fp_tree.proofs.tree.Tree.plan_first.Goals as goal

pub push_first-requires-clause-column : goal.push_first-requires-clause-column
push_first-requires-clause-column g c =
    let words : List ℕ = (g.M.Memory.device c.args.mem.now).cached in
    let whole = g.met.M.Memory.whole c.args.mem.now in
    let within = record_within words whole.segments whole.one_or_more c.args.self.now.column c.args.heap.now c.args.lane c.requires.may in
    let same = ap (λ (tree : TreeState). tree.column) c.self.view_is in
    omega (arith, within, same, whole.most)

pub push_first-requires-clause-leaf : goal.push_first-requires-clause-leaf
push_first-requires-clause-leaf g c =
    let words : List ℕ = (g.M.Memory.device c.args.mem.now).cached in
    let whole = g.met.M.Memory.whole c.args.mem.now in
    let within = first_within words whole.segments whole.one_or_more c.args.self.now c.requires.stands.0 c.requires.stands.1 c.requires.none c.args.heap.now c.args.lane c.requires.may c.push_leaf.new.heap
    c.self.inside.column.0 c.in_ok-leaf.leaf.0 c.in_ok-plan.plan.left c.push_leaf.new.plan.left (ap (λ (tree : TreeState). tree.column) c.self.view_is) c.in_ok-leaf.ensures.allocated in
    omega (arith, within, whole.most)

pub of-requires : goal.of-requires
of-requires g c =
    let words : List ℕ = (g.M.Memory.device c.args.mem.now).cached in
    let whole = g.met.M.Memory.whole c.args.mem.now in
    let within = first_within words whole.segments whole.one_or_more c.args.self.now c.requires.stands.0 c.requires.stands.1 c.requires.none c.args.heap.now c.args.lane c.requires.may c.push_leaf.new.heap
    c.self.inside.column.0 c.in_ok-leaf.leaf.0 c.in_ok-plan.plan.left c.push_leaf.new.plan.left (ap (λ (tree : TreeState). tree.column) c.self.view_is) c.in_ok-leaf.ensures.allocated in
    omega (arith, within, whole.most)

pub insert-requires-clause-behind_the_first : goal.insert-requires-clause-behind_the_first
insert-requires-clause-behind_the_first g c = λ some.
    let words : List ℕ = (g.M.Memory.device c.args.mem.now).cached in
    let whole = g.met.M.Memory.whole c.args.mem.now in
    let none = none_indexed words whole.segments whole.one_or_more c.args.self.now c.requires.stands.0 c.requires.stands.1 c.requires.none c.args.heap.now c.args.lane c.requires.may c.push_leaf.new.heap in
    let empty = ap length (c.in_ok-reserve.ensures.leaves ∙ ap (λ (tree : TreeState). tree.inner.leaves) c.self.view_is ∙ none) in
    omega (arith, empty, some)

pub returns-clause-planned : goal.returns-clause-planned
returns-clause-planned g c =
    let words : List ℕ = (g.M.Memory.device c.args.mem.now).cached in
    let whole = g.met.M.Memory.whole c.args.mem.now in
    planned_first words whole.segments whole.one_or_more c.args.self.now c.requires.stands.0 c.requires.stands.1 c.requires.none c.args.heap.now c.args.lane c.requires.may c.push_leaf.new.heap
    c.self.inside.column.0 c.in_ok-leaf.leaf.0 c.in_ok-plan.plan.left c.push_leaf.new.plan.left c.push_first.new.plan.left (ap (λ (tree : TreeState). tree.column) c.self.view_is) c.in_ok-leaf.ensures.allocated c.in_ok-plan.ensures.empty
    c.push_first.ensures c.insert.new.self (c.insert.ensures.kind ∙ c.in_ok-reserve.ensures.kind ∙ ap (λ (tree : TreeState). tree.inner.kind) c.self.view_is)
    (c.insert.ensures.leaves ∙ ap (λ (at : ℕ). insert c.reserve.new.self.leaves 0 (0, at)) c.of.ensures
    ∙ ap (λ (entries : List (ℕ × ℕ)). insert entries 0 (0, pointer_word c.in_ok-leaf.leaf.0)) (c.in_ok-reserve.ensures.leaves ∙ ap (λ (tree : TreeState). tree.inner.leaves) c.self.view_is))
