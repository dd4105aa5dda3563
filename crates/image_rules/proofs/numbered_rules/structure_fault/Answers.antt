use Rattle.std.proofs.Common.{[], ◌∷◌}
use Rattle.image_layout.specs.Checks.{numbered}
use Rattle.image_layout.specs.EntryRules.{arrays_rule, name_rule, objects_rule, tree_rule}
use Rattle.image_rules.proofs.NumberedFaults.{one, both}
use Rattle.image_rules.proofs.numbered_rules.structure_fault.Goals as goal

pub returns : goal.returns
returns c =
    let words = c.args.words.now in
    let arrays = one (numbered 10 arrays_rule) words c.arrays_fault.result c.of-arrays.result c.of-arrays.ensures c.arrays_fault.ensures in
    let trees = one (numbered 11 tree_rule) words c.tree_fault.result c.of-trees.result c.of-trees.ensures c.tree_fault.ensures in
    let names = one (numbered 12 name_rule) words c.name_fault.result c.of-names.result c.of-names.ensures c.name_fault.ensures in
    let objects = one (numbered 14 objects_rule) words c.objects_fault.result c.of-objects.result c.of-objects.ensures c.objects_fault.ensures in
    both (numbered 10 arrays_rule ∷ numbered 11 tree_rule ∷ numbered 12 name_rule ∷ []) (numbered 14 objects_rule ∷ []) words c.or-2.result c.of-objects.result c.or-3.result c.or-3.ensures
    (both (numbered 10 arrays_rule ∷ numbered 11 tree_rule ∷ []) (numbered 12 name_rule ∷ []) words c.or.result c.of-names.result c.or-2.result c.or-2.ensures
    (both (numbered 10 arrays_rule ∷ []) (numbered 11 tree_rule ∷ []) words c.of-arrays.result c.of-trees.result c.or.result c.or.ensures arrays trees) names) objects
