use Rattle.std.proofs.Common.{◌≡◌, ◌∙◌, ℕ, ◌++◌, ap, arith}
use Rattle.stage_object.specs.Object.{entry_clears}
use Rattle.stage_object.proofs.Clears.{cleared-next, cleared-word, cleared-entries}
use Rattle.stage_object.proofs.object.push_clear_stores.Goals as goal

pub loop-nth-preserved : goal.loop-nth-preserved
loop-nth-preserved c = record {
  spare = omega (arith, c.push.ensures.spare);
  left = cleared-next c.args.plan.now.left c.push.new.self.left c.loop-nth.plan.left c.args.object c.loop-nth.nth c.entry_word.result c.entry_word.ensures c.push.ensures.left c.loop-nth.invariant.left;
}

pub returns-then-word-clause-left : goal.returns-then-word-clause-left
returns-then-word-clause-left c =
    let end : c.loop-nth.nth ≡ c.args.entries = omega arith in
    cleared-word c.args.plan.now.left c.push-then-word.new.self.left c.loop-nth.plan.left c.args.object c.args.entries c.args.word c.commit_word.result c.if-word.true c.commit_word.ensures c.push-then-word.ensures.left
    (c.loop-nth.invariant.left ∙ ap (λ (n : ℕ). c.args.plan.now.left ++ entry_clears c.args.object n) end)

pub returns-else-word-clause-left : goal.returns-else-word-clause-left
returns-else-word-clause-left c =
    let end : c.loop-nth.nth ≡ c.args.entries = omega arith in
    cleared-entries c.args.plan.now.left c.loop-nth.plan.left c.args.object c.args.entries c.args.word c.if-word.false
    (c.loop-nth.invariant.left ∙ ap (λ (n : ℕ). c.args.plan.now.left ++ entry_clears c.args.object n) end)
