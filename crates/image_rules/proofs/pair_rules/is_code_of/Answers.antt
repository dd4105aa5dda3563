use Rattle.std.proofs.Common.{◌∙◌}
use Rattle.image_rules.proofs.PairChecks.{code_over, code_under}
use Rattle.image_rules.proofs.pair_rules.is_code_of.Goals as goal

pub returns-then-code-count : goal.returns-then-code-count
returns-then-code-count c = c.is_word_at.ensures ∙ code_under c.args.words.now c.args.column c.args.count c.args.code c.args.key c.requires.count c.if-code-count.true

pub returns-else-code-count : goal.returns-else-code-count
returns-else-code-count c = code_over c.args.words.now c.args.column c.args.count c.args.code c.args.key c.requires.count c.if-code-count.false
