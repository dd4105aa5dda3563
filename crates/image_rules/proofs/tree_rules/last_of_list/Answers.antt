use Rattle.std.proofs.Common.{ℕ, ◌+◌, ◌≤◌, sym, ◌∙◌, ap, arith}
use Rattle.image_rules.specs.Parts.{next_of}
use Rattle.image_rules.proofs.Circles.{at-more}
use Rattle.image_rules.proofs.TreeChecks.{ahead_more, closes, met, missed_more}
use Rattle.image_rules.proofs.tree_rules.last_of_list.Goals as goal

start : (first size : ℕ) → first + 128 ≤ size → 1 ≤ size
start first size within = omega (arith, within)

pub returns-then-next-behind : goal.returns-then-next-behind
returns-then-next-behind c =
    let words = c.args.words.now in
    closes words c.args.first (omega (arith, c.requires.on.within)) (λ k lt. c.requires.on.each k) c.args.steps c.requires.circle c.loop-step.step c.loop-step.ahead c.loop-step.invariant.ahead
    (sym c.next_leaf-next.ensures.leaf ∙ c.if-next-behind.true ∙ c.loop-step.invariant.behind) c.loop-step.invariant.missed

pub loop-step-preserved : goal.loop-step-preserved
loop-step-preserved c =
    let words = c.args.words.now in
    record {
      behind = c.next_leaf-behind.ensures.leaf ∙ ap (next_of words) c.loop-step.invariant.behind ∙ sym (at-more (next_of words) c.args.first c.loop-step.step);
      ahead = ahead_more words c.args.first c.loop-step.step c.args.steps c.loop-step.ahead c.next_leaf-next.result c.loop-step.invariant.ahead c.next_leaf-next.ensures.leaf;
      behind_within = c.next_leaf-behind.ensures.within;
      ahead_within = c.next_leaf-next.ensures.within;
      missed = missed_more words c.args.first c.loop-step.step c.args.steps c.loop-step.ahead c.next_leaf-next.result c.loop-step.invariant.ahead c.next_leaf-next.ensures.leaf
          c.loop-step.behind c.requires.circle.some c.loop-step.invariant.behind c.if-next-behind.false c.loop-step.invariant.missed;
    }

pub returns : goal.returns
returns c =
    absurd (met c.args.words.now c.args.first (omega (arith, c.requires.on.within)) (λ k lt. c.requires.on.each k) c.args.steps c.requires.circle
    (λ x lt. c.loop-step.invariant.missed x (omega (arith, lt, c.loop-step-test.false))))
