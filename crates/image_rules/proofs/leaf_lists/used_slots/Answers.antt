use Rattle.std.proofs.Common.{◌∙◌, ap}
use Rattle.image_rules.specs.BuiltTrees.{used_along}
use Rattle.image_rules.proofs.Gathered.{along_all, along_more}
use Rattle.image_rules.proofs.leaf_lists.used_slots.Goals as goal

pub loop-leaf-preserved : goal.loop-leaf-preserved
loop-leaf-preserved c = record {
  used = along_more c.args.words.now c.deref-leaf-items.result.now c.loop-leaf.leaf-index c.loop-leaf.used.items c.push_used.new.used.items c.loop-leaf-test.true c.loop-leaf.invariant.used c.in_ok-push_used.ensures.used;
  within = c.in_ok-push_used.ensures.within c.loop-leaf.invariant.within;
}

pub returns-clause-used : goal.returns-clause-used
returns-clause-used c =
    along_all c.args.words.now c.deref-leaf-items.result.now c.loop-leaf.leaf-index c.loop-leaf.used.items c.loop-leaf-test.false c.loop-leaf.invariant.used
    ∙ ap (used_along c.args.words.now) (c.deref-leaf-items.ensures.value ∙ c.in_ok-leaves.ensures.leaves)
