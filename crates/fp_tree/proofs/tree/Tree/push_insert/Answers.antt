use Rattle.std.proofs.Common.{List, ℕ, refl, sym}
use Rattle.std.specs.Prelude.{None}
use Rattle.std.proofs.lemmas.List.{append-nil}
use Rattle.fp_tree.proofs.PutIn.{inserted, place_within}
use Rattle.fp_tree.proofs.tree.Tree.push_insert.Goals as goal

pub push_insertion-requires-clause-slot : goal.push_insertion-requires-clause-slot
push_insertion-requires-clause-slot g c = (c.new_pair.ensures.place.may 0).slot

pub push_insertion-requires-clause-within : goal.push_insertion-requires-clause-within
push_insertion-requires-clause-within g c =
    place_within (g.M.Memory.device c.args.mem.now).cached c.args.self.now.column c.args.probe.now c.args.key c.new_pair.result.leaf.0 c.new_pair.result.slot c.new_pair.ensures.place

pub returns : goal.returns
returns g c =
    let words : List ℕ = (g.M.Memory.device c.args.mem.now).cached in
    inserted words c.args.self.now.column None c.args.probe.now c.args.key c.args.code c.new_pair.result.leaf.0 c.new_pair.result.slot c.new_pair.ensures.place tt
    c.new_pair.result.key c.new_pair.result.code c.new_pair.ensures.key c.new_pair.ensures.code c.args.plan.now.left c.push_insertion.new.plan.left
    (c.push_insertion.ensures c.args.plan.now.left None (sym (append-nil c.args.plan.now.left)) refl)
