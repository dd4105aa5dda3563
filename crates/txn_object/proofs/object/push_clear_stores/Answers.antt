use Rattle.txn_object.proofs.Clears.{cleared_word, cleared_entries}
use Rattle.txn_object.proofs.object.push_clear_stores.Goals as goal

pub returns-then-word-clause-left : goal.returns-then-word-clause-left
returns-then-word-clause-left g c =
    cleared_word (g.M.Memory.device c.args.mem.now).cached c.args.object c.args.entries c.args.plan.now.left c.push_entry_zeros.new.plan.left c.push.new.self.left c.args.word c.commit_word.result
    c.if-word.true c.commit_word.ensures c.push_entry_zeros.ensures.left c.push.ensures.left

pub returns-else-word-clause-left : goal.returns-else-word-clause-left
returns-else-word-clause-left g c =
    cleared_entries (g.M.Memory.device c.args.mem.now).cached c.args.object c.args.entries c.args.plan.now.left c.push_entry_zeros.new.plan.left c.args.word c.if-word.false c.push_entry_zeros.ensures.left
