use Rattle.std.proofs.Common.{◌++◌, ◌∙◌, List, [], ℕ, ap}
use Rattle.pm_model.specs.declared.action.Action.{Action}
use Rattle.tree_cuts.specs.Insertion.{lead_part}
use Rattle.fp_tree.specs.Inserted.{lead_of}
use Rattle.fp_tree.proofs.PutIn.{inserted, place_within}
use Rattle.fp_tree.proofs.tree.Tree.plan_insert.Goals as goal

pub push_insertion-requires-clause-slot : goal.push_insertion-requires-clause-slot
push_insertion-requires-clause-slot g c = (c.new_pair-pair.ensures.place.may 0).slot

pub push_insertion-requires-clause-within : goal.push_insertion-requires-clause-within
push_insertion-requires-clause-within g c =
    place_within (g.M.Memory.device c.args.mem.now).cached c.args.self.now.column c.args.probe.now c.args.key c.new_pair-pair.result.leaf.0 c.new_pair-pair.result.slot c.new_pair-pair.ensures.place

pub returns : goal.returns
returns g c =
    let words : List ℕ = (g.M.Memory.device c.args.mem.now).cached in
    inserted words c.args.self.now.column (lead_of c.args.lead) c.args.probe.now c.args.key c.args.code c.new_pair-pair.result.leaf.0 c.new_pair-pair.result.slot c.new_pair-pair.ensures.place c.requires.lead
    c.new_pair-pair.result.key c.new_pair-pair.result.code c.new_pair-pair.ensures.key c.new_pair-pair.ensures.code [] c.push_insertion.new.plan.left
    (c.push_insertion.ensures [] (lead_of c.args.lead) (c.push_lead-led.ensures.left ∙ ap (λ (l : List Action). l ++ lead_part (lead_of c.args.lead)) c.in_ok-plan.ensures.empty) c.push_lead-led.ensures.count)
