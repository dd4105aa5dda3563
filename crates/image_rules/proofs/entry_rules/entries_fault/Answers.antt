use Rattle.std.proofs.Common.{sym, ◌∙◌, arith}
use Rattle.image_rules.proofs.EntryChecks.{open_found, entries_none}
use Rattle.image_rules.proofs.entry_rules.entries_fault.Goals as goal

pub returns-then-is_some : goal.returns-then-is_some
returns-then-is_some c =
    open_found c.args.words.now c.loop-object.object c.object_state.result.0 c.object_entries_fault-found.result (omega (arith, c.loop-object-test.true)) c.loop-object.invariant c.object_state.ensures
    c.if-words-object_state-eq-OPEN.true c.object_entries_fault-found.ensures (sym c.is_some.ensures ∙ c.if-is_some.true)

pub returns : goal.returns
returns c = entries_none c.args.words.now (λ x lt. c.loop-object.invariant x (omega (arith, lt, c.loop-object-test.false)))
