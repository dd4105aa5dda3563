use Rattle.std.proofs.Common.{◌++◌, ◌∙◌, ap}
use Rattle.pm_model.specs.Plans.{part_actions, one_store}
use Rattle.txn_object.proofs.TestEntries.{commit_played, commit_plan}
use Rattle.object_tests.proofs.transactions.set_commit_word.Goals as goal

pub play_whole-requires-clause-planned : goal.play_whole-requires-clause-planned
play_whole-requires-clause-planned g c =
    commit_plan (g.M.Memory.device c.args.memory.now) 32 8220 c.requires c.in_ok-plan.plan.left c.push_store.new.self.left c.in_ok-plan.ensures.empty
    (c.push_store.ensures.left ∙ ap (λ (w : _). c.in_ok-plan.plan.left ++ part_actions (one_store w 1)) c.commit_word.ensures)

pub returns : goal.returns
returns g c =
    commit_played (g.M.Memory.device c.args.memory.now) 32 8220 c.requires c.in_ok-plan.plan.left c.push_store.new.self.left c.in_ok-plan.ensures.empty
    (c.push_store.ensures.left ∙ ap (λ (w : _). c.in_ok-plan.plan.left ++ part_actions (one_store w 1)) c.commit_word.ensures)
    (g.M.Memory.device c.play_whole.new.memory) c.play_whole.ensures.words c.play_whole.ensures.clean
