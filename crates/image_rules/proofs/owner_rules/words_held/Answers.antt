use Rattle.image_rules.proofs.OwnerChecks.{held_none}
use Rattle.image_rules.proofs.OwnedChecks.{held_next, held_all}
use Rattle.image_rules.proofs.owner_rules.words_held.Goals as goal

pub loop-owner-init : goal.loop-owner-init
loop-owner-init c = held_none c.new-held.result c.new-held.ensures.empty

pub loop-owner-preserved : goal.loop-owner-preserved
loop-owner-preserved c = held_next c.args.owners.now c.loop-owner.owner-index c.loop-owner.held c.insert.new.self c.loop-owner-test.true c.loop-owner.invariant c.in_ok-insert.ensures.updates

pub returns : goal.returns
returns c = held_all c.args.owners.now c.loop-owner.owner-index c.loop-owner.held c.loop-owner-test.false c.loop-owner.invariant
