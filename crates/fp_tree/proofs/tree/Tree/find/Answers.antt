use Rattle.std.proofs.Common.{◌≡◌, ℕ, List, length, ap, arith}
use Rattle.tree_cuts.specs.Tree.{HasPrints, IsPlaced}
use Rattle.fp_tree.specs.Searched.{IsFoundIn}
use Rattle.fp_tree.specs.Standing.{HasPair, IsSoundLeaf, count_below, is_likely}
use Rattle.fp_tree.proofs.Chosen.{found_pair, no_key_in_none, no_pair, none_map, of_leaf, probe_leaf_is, some_map}
use Rattle.fp_tree.proofs.tree.Tree.find.Goals as goal

pub find_in_leaf-requires-clause-within : goal.find_in_leaf-requires-clause-within
find_in_leaf-requires-clause-within g c =
    let words : List ℕ = (g.M.Memory.device c.args.mem.now).cached in
    let stands = c.requires.stands.1 in
    (of_leaf words c.args.self.now c.requires.stands.0 stands c.args.probe.now c.requires.kind c.in-Some.leaf.0 c.in-Some.ensures.leaf (IsPlaced (length words) c.args.self.now.column) stands.in_words.tree_is.placed).within

pub find_in_leaf-requires-clause-prints : goal.find_in_leaf-requires-clause-prints
find_in_leaf-requires-clause-prints g c =
    let words : List ℕ = (g.M.Memory.device c.args.mem.now).cached in
    let stands = c.requires.stands.1 in
    of_leaf words c.args.self.now c.requires.stands.0 stands c.args.probe.now c.requires.kind c.in-Some.leaf.0 c.in-Some.ensures.leaf (HasPrints words) stands.in_words.prints

pub find_in_leaf-requires-clause-sound : goal.find_in_leaf-requires-clause-sound
find_in_leaf-requires-clause-sound g c =
    let words : List ℕ = (g.M.Memory.device c.args.mem.now).cached in
    let stands = c.requires.stands.1 in
    of_leaf words c.args.self.now c.requires.stands.0 stands c.args.probe.now c.requires.kind c.in-Some.leaf.0 c.in-Some.ensures.leaf (IsSoundLeaf words) stands.in_words.sound

pub returns-in-Some-clause-found : goal.returns-in-Some-clause-found
returns-in-Some-clause-found g c =
    let words : List ℕ = (g.M.Memory.device c.args.mem.now).cached in
    some_map (IsFoundIn words c.in-Some.leaf.0 c.args.probe.now) (HasPair words c.args.self.now.column c.args.probe.now) c.find_in_leaf.result
    (found_pair words c.args.self.now c.requires.stands.0 c.requires.stands.1 c.args.probe.now c.requires.kind c.in-Some.leaf.0 c.in-Some.ensures.leaf) c.find_in_leaf.ensures.found

pub returns-in-Some-clause-none : goal.returns-in-Some-clause-none
returns-in-Some-clause-none g c =
    let words : List ℕ = (g.M.Memory.device c.args.mem.now).cached in
    none_map c.find_in_leaf.result
    (no_pair words c.args.self.now c.requires.stands.0 c.requires.stands.1 c.args.probe.now c.requires.kind c.in-Some.leaf.0 c.in-Some.ensures.leaf) c.find_in_leaf.ensures.none

pub returns-in-Some-clause-steps : goal.returns-in-Some-clause-steps
returns-in-Some-clause-steps g c =
    let words : List ℕ = (g.M.Memory.device c.args.mem.now).cached in
    let same : count_below (is_likely words c.in-Some.leaf.0 c.args.probe.now) 48 ≡ _ = ap (λ (leaf : ℕ). count_below (is_likely words leaf c.args.probe.now) 48) (probe_leaf_is words c.args.self.now c.requires.stands.0 c.requires.stands.1 c.args.probe.now c.requires.kind c.in-Some.leaf.0 c.in-Some.ensures.leaf) in
    omega (arith, same, c.find_in_leaf.ensures.steps, c.in-Some.ensures.steps)

pub returns-in-None-clause-none : goal.returns-in-None-clause-none
returns-in-None-clause-none g c = no_key_in_none (g.M.Memory.device c.args.mem.now).cached c.args.self.now c.requires.stands.0 c.requires.stands.1 c.args.probe.now c.in-None.ensures.none
