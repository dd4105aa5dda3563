use Rattle.stage_object.proofs.EntryWords.{length-entries_in, entries_in-set, entries_in-each, entries_in-zero, entries_in-same, entries_in-rest, free_entries_in-rest}
use Rattle.stage_object.proofs.laws.entries_law.Goals as goal

pub returns-clause-most : goal.returns-clause-most
returns-clause-most c = length-entries_in

pub returns-clause-set : goal.returns-clause-set
returns-clause-set c = entries_in-set

pub returns-clause-each : goal.returns-clause-each
returns-clause-each c = entries_in-each

pub returns-clause-zero : goal.returns-clause-zero
returns-clause-zero c = entries_in-zero

pub returns-clause-same : goal.returns-clause-same
returns-clause-same c = entries_in-same

pub returns-clause-rest : goal.returns-clause-rest
returns-clause-rest c = entries_in-rest

pub returns-clause-free : goal.returns-clause-free
returns-clause-free c = free_entries_in-rest
