use Rattle.std.proofs.Common.{sym, ◌∙◌, below_more, arith, rules}
use Rattle.image_rules.proofs.Firsts.{found_none}
use Rattle.image_rules.proofs.TableChecks.{slots_none, slots_found}
use Rattle.image_rules.proofs.table_rules.table_slot_fault.Goals as goal

pub loop-table-preserved : goal.loop-table-preserved
loop-table-preserved c = below_more _ _ c.loop-table.invariant (found_none c.slot_fault-found.result _ c.slot_fault-found.ensures (sym c.is_some.ensures ∙ c.if-is_some.false))

pub returns-then-is_some : goal.returns-then-is_some
returns-then-is_some c =
    slots_found c.args.words.now c.loop-table.table c.slot_fault-found.result (omega (arith, c.loop-table-test.true)) c.loop-table.invariant c.slot_fault-found.ensures (sym c.is_some.ensures ∙ c.if-is_some.true)

pub returns : goal.returns
returns c = slots_none c.args.words.now (λ x lt. c.loop-table.invariant x (omega (arith, lt, c.loop-table-test.false)))

pub loop-table-init : goal.loop-table-init
loop-table-init c = search rules
