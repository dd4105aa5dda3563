use Rattle.script_text.proofs.History.{has-line-for-each, says-words}
use Rattle.script_text.proofs.laws.history_has_a_line_for_each.Goals as goal

pub returns-clause-lines : goal.returns-clause-lines
returns-clause-lines c = has-line-for-each

pub returns-clause-words : goal.returns-clause-words
returns-clause-words c = says-words
