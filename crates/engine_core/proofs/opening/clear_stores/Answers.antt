use Rattle.std.proofs.Common.{◌∙◌, arith}
use Rattle.engine_core.proofs.OpeningPlans.{cleared-next, cleared-all}
use Rattle.engine_core.proofs.opening.clear_stores.Goals as goal

pub loop-nth-preserved : goal.loop-nth-preserved
loop-nth-preserved c = record {
  items = c.push_reserved.ensures.items ∙ cleared-next c.args.object c.loop-nth.nth c.loop-nth.part.items c.entry_word.result c.entry_word.ensures c.loop-nth.invariant.items;
  len = omega (arith, c.push_reserved.ensures.len);
  room = omega (arith, c.push_reserved.ensures.capacity);
}

pub returns-clause-part : goal.returns-clause-part
returns-clause-part c = c.push_reserved-2.ensures.items ∙ cleared-all c.args.object c.loop-nth.nth c.loop-nth.part.items c.commit_word.result c.commit_word.ensures (omega arith) c.loop-nth.invariant.items
