use Rattle.image_rules.proofs.EntryChecks.{EntriesBelow}
use Rattle.image_rules.proofs.entry_rules.entries_fault.Given as goal

abbrev pub invariant-loop-object : goal.invariant-loop-object
invariant-loop-object l = EntriesBelow l.words l.object
