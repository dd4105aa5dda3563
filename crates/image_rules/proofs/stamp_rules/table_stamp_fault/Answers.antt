use Rattle.std.proofs.Common.{ℕ, ◌≡◌, max, get_or, sym, ◌∙◌, ap, below_more, arith}
use Rattle.image_layout.specs.Records.{created_header, ended_header}
use Rattle.image_rules.proofs.Firsts.{found_none}
use Rattle.image_rules.proofs.TableArrays.{count_few, created_rule, ended_rule}
use Rattle.image_rules.proofs.StampChecks.{high_fails, chunk_found, chunks_none, created_reaches}
use Rattle.image_rules.proofs.stamp_rules.table_stamp_fault.Goals as goal

pub returns-then-not-is_bounded : goal.returns-then-not-is_bounded
returns-then-not-is_bounded c = high_fails c.args.words.now c.args.block.0 c.high.result.0 c.is_bounded.result c.high.ensures c.is_bounded.ensures c.if-not-is_bounded.true

pub overflow_cast-created-2 : goal.overflow_cast-created-2
overflow_cast-created-2 c = let few = count_few c.args.words.now c.created_header.result.0 (created_rule c.args.words.now c.args.block.0 c.requires.arrays c.created_header.result.0 c.created_header.ensures) in omega (arith, few)

pub overflow_cast-ended-2 : goal.overflow_cast-ended-2
overflow_cast-ended-2 c = let few = count_few c.args.words.now c.ended_header.result.0 (ended_rule c.args.words.now c.args.block.0 c.requires.arrays c.ended_header.result.0 c.ended_header.ensures) in omega (arith, few)

pub chunk_stamp_fault-found-requires-clause-bounded : goal.chunk_stamp_fault-found-requires-clause-bounded
chunk_stamp_fault-found-requires-clause-bounded c = created_reaches c.args.words.now c.args.block.0 c.is_bounded.result c.is_bounded.ensures c.if-not-is_bounded.false

pub chunk_stamp_fault-found-requires-clause-chunk : goal.chunk_stamp_fault-found-requires-clause-chunk
chunk_stamp_fault-found-requires-clause-chunk c =
    let created = count_few c.args.words.now c.created_header.result.0 (created_rule c.args.words.now c.args.block.0 c.requires.arrays c.created_header.result.0 c.created_header.ensures) in
    let ended = count_few c.args.words.now c.ended_header.result.0 (ended_rule c.args.words.now c.args.block.0 c.requires.arrays c.ended_header.result.0 c.ended_header.ensures) in
    omega (arith, created, ended, c.max-chunk-end.ensures, c.loop-chunk-test.true)

count_of : (words_at : ℕ → ℕ) (created ended block count : ℕ) → created ≡ created_header block → ended ≡ ended_header block → count ≡ max (words_at created) (words_at ended) → count ≡ max (words_at (created_header block)) (words_at (ended_header block))
count_of words_at created ended block count first second is = is ∙ ap (λ (at : ℕ). max (words_at at) (words_at ended)) first ∙ ap (λ (at : ℕ). max (words_at (created_header block)) (words_at at)) second

pub returns-then-is_some : goal.returns-then-is_some
returns-then-is_some c =
    chunk_found c.args.words.now c.args.block.0 c.is_bounded.result c.max-chunk-end.result c.loop-chunk.chunk c.chunk_stamp_fault-found.result c.is_bounded.ensures c.if-not-is_bounded.false
    (count_of (λ at. get_or c.args.words.now at 0) c.created_header.result.0 c.ended_header.result.0 c.args.block.0 c.max-chunk-end.result c.created_header.ensures c.ended_header.ensures c.max-chunk-end.ensures)
    c.loop-chunk-test.true c.loop-chunk.invariant c.chunk_stamp_fault-found.ensures (sym c.is_some.ensures ∙ c.if-is_some.true)

pub loop-chunk-preserved : goal.loop-chunk-preserved
loop-chunk-preserved c =
    below_more _ _ c.loop-chunk.invariant (found_none c.chunk_stamp_fault-found.result _ c.chunk_stamp_fault-found.ensures (sym c.is_some.ensures ∙ c.if-is_some.false))

pub returns : goal.returns
returns c =
    chunks_none c.args.words.now c.args.block.0 c.is_bounded.result c.max-chunk-end.result c.is_bounded.ensures c.if-not-is_bounded.false
    (count_of (λ at. get_or c.args.words.now at 0) c.created_header.result.0 c.ended_header.result.0 c.args.block.0 c.max-chunk-end.result c.created_header.ensures c.ended_header.ensures c.max-chunk-end.ensures)
    (λ x lt. c.loop-chunk.invariant x (omega (arith, lt, c.loop-chunk-test.false)))
