use Rattle.std.proofs.Common.{ℕ, ◌≤◌, ◌∙◌, ap, get_or, below_more, arith}
use Rattle.image_layout.specs.Records.{created_header, ended_header, high_at, since_at}
use Rattle.image_layout.specs.Tables.{column_record}
use Rattle.image_rules.proofs.TableArrays.{count_few, created_rule, ended_rule}
use Rattle.image_rules.proofs.StampChecks.{created_short, ended_short, begins_late, all_reach, over, within}
use Rattle.image_rules.proofs.stamp_rules.is_bounded.Goals as goal

pub capacity-requires-clause-rule : goal.capacity-requires-clause-rule
capacity-requires-clause-rule c = count_few c.args.words.now c.created_header.result.0 (created_rule c.args.words.now c.args.block.0 c.requires.arrays c.created_header.result.0 c.created_header.ensures)

pub capacity-requires-2-clause-rule : goal.capacity-requires-2-clause-rule
capacity-requires-2-clause-rule c = count_few c.args.words.now c.ended_header.result.0 (ended_rule c.args.words.now c.args.block.0 c.requires.arrays c.ended_header.result.0 c.ended_header.ensures)

pub returns-then-bound-from : goal.returns-then-bound-from
returns-then-bound-from c =
    created_short c.args.words.now c.args.block.0 (over c.args.words.now c.args.block.0 c.high.result.0 c.created_header.result.0 (created_header c.args.block.0) c.capacity.result c.high.ensures c.created_header.ensures c.capacity.ensures.words (omega (arith, c.if-bound-from.true, c.from.ensures)))

pub returns-then-bound-from-2 : goal.returns-then-bound-from-2
returns-then-bound-from-2 c =
    ended_short c.args.words.now c.args.block.0
    (within c.args.words.now c.args.block.0 c.high.result.0 c.created_header.result.0 (created_header c.args.block.0) c.capacity.result c.high.ensures c.created_header.ensures c.capacity.ensures.words (omega (arith, c.if-bound-from.false, c.from.ensures)))
    (over c.args.words.now c.args.block.0 c.high.result.0 c.ended_header.result.0 (ended_header c.args.block.0) c.capacity-2.result c.high.ensures c.ended_header.ensures c.capacity-2.ensures.words (omega (arith, c.if-bound-from-2.true, c.from-2.ensures)))

pub returns-then-first-bound : goal.returns-then-first-bound
returns-then-first-bound c =
    let since = c.since.ensures ∙ ap since_at c.column_record.ensures.place in
    let word = ap (λ (p : ℕ). get_or c.args.words.now p 0) since in
    let bound = ap (λ (p : ℕ). get_or c.args.words.now p 0) c.high.ensures in
    begins_late c.args.words.now c.args.block.0 c.loop-number.number
    (within c.args.words.now c.args.block.0 c.high.result.0 c.created_header.result.0 (created_header c.args.block.0) c.capacity.result c.high.ensures c.created_header.ensures c.capacity.ensures.words (omega (arith, c.if-bound-from.false, c.from.ensures)))
    (within c.args.words.now c.args.block.0 c.high.result.0 c.ended_header.result.0 (ended_header c.args.block.0) c.capacity-2.result c.high.ensures c.ended_header.ensures c.capacity-2.ensures.words (omega (arith, c.if-bound-from-2.false, c.from-2.ensures)))
    (omega (arith, c.loop-number-test.true, c.columns_of-number-end.ensures.count))
    (omega (arith, word, bound, c.if-first-bound.true))

pub loop-number-preserved : goal.loop-number-preserved
loop-number-preserved c =
    let since = c.since.ensures ∙ ap since_at c.column_record.ensures.place in
    let word = ap (λ (p : ℕ). get_or c.args.words.now p 0) since in
    let bound = ap (λ (p : ℕ). get_or c.args.words.now p 0) c.high.ensures in
    below_more (λ x. get_or c.args.words.now (since_at (column_record c.args.words.now c.args.block.0 x)) 0 ≤ get_or c.args.words.now (high_at c.args.block.0) 0) _ c.loop-number.invariant
    (omega (arith, word, bound, c.if-first-bound.false))

pub returns : goal.returns
returns c =
    all_reach c.args.words.now c.args.block.0
    (within c.args.words.now c.args.block.0 c.high.result.0 c.created_header.result.0 (created_header c.args.block.0) c.capacity.result c.high.ensures c.created_header.ensures c.capacity.ensures.words (omega (arith, c.if-bound-from.false, c.from.ensures)))
    (within c.args.words.now c.args.block.0 c.high.result.0 c.ended_header.result.0 (ended_header c.args.block.0) c.capacity-2.result c.high.ensures c.ended_header.ensures c.capacity-2.ensures.words (omega (arith, c.if-bound-from-2.false, c.from-2.ensures)))
    (λ x lt. c.loop-number.invariant x (omega (arith, lt, c.loop-number-test.false, c.columns_of-number-end.ensures.count)))
