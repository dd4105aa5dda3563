use Rattle.std.proofs.Common.{arith}
use Rattle.txn_object.specs.declared.entry.EntryKind.TheVariants.{Created, Ended}
use Rattle.stage_object.proofs.Plays.{whole_may_play}
use Rattle.object_tests.proofs.stage.whole_transaction.Goals as goal

pub returns : goal.returns
returns c =
    whole_may_play 3 2 (record { kind = Created; table = 0; row = 7 }) (record { kind = Ended; table = 3; row = 5 })
    c.in_ok-plan.plan.left c.append.new.self.left c.push_entry.new.plan.left c.push_entry-2.new.plan.left c.push_retire.new.plan.left c.in_ok-plan_begin.field-0.left
    (omega arith) c.in_ok-plan.ensures.empty c.in_ok-plan_begin.ensures c.append.ensures.left c.push_entry.ensures.left c.push_entry-2.ensures.left c.push_retire.ensures.left
