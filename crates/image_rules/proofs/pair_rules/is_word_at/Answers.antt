use Rattle.std.proofs.Common.{arith}
use Rattle.image_rules.proofs.ArrayWords.{word_beyond}
use Rattle.image_rules.proofs.pair_rules.is_word_at.Goals as goal

pub returns-then-code-from : goal.returns-then-code-from
returns-then-code-from c = word_beyond c.args.words.now c.args.column c.args.code c.args.key c.requires.arrays (omega (arith, c.if-code-from.true, c.from.ensures))
