use Rattle.image_rules.proofs.SplitChecks.{splits, adds}
use Rattle.image_rules.proofs.split_rules.column_log_fault.Goals as goal

pub returns-then-words-split-ne0 : goal.returns-then-words-split-ne0
returns-then-words-split-ne0 c = splits c.args.words.now c.args.column.0 c.split_leaf-split.result.0 c.split_leaf-split.ensures c.if-words-split-ne0.true

pub returns : goal.returns
returns c = adds c.args.words.now c.args.column.0 c.split_leaf-split.result.0 c.new_leaf-new.result.0 c.then_some.result c.split_leaf-split.ensures c.if-words-split-ne0.false c.new_leaf-new.ensures c.then_some.ensures
