use Rattle.std.proofs.Common.{sym, ◌∙◌, below_more, arith}
use Rattle.image_rules.proofs.ArrayChecks.{count_fails, chunk_fails, chunk_holds, chunks_none}
use Rattle.image_rules.proofs.array_rules.array_fault.Goals as goal

pub returns-then-count-from : goal.returns-then-count-from
returns-then-count-from c = count_fails c.args.words.now c.args.header.0 (omega (arith, c.if-count-from.true))

pub returns-then-not-is_chunk_pointer : goal.returns-then-not-is_chunk_pointer
returns-then-not-is_chunk_pointer c =
    chunk_fails c.args.words.now c.args.header.0 c.loop-chunk.chunk c.chunk_pointer-pointer.result.0 (omega (arith, c.loop-chunk-test.true)) (omega (arith, c.if-count-from.false)) c.loop-chunk.invariant c.chunk_pointer-pointer.ensures
    (sym c.is_chunk_pointer.ensures ∙ c.if-not-is_chunk_pointer.true)

pub loop-chunk-preserved : goal.loop-chunk-preserved
loop-chunk-preserved c =
    below_more _ _ c.loop-chunk.invariant
    (chunk_holds c.args.words.now c.args.header.0 c.loop-chunk.chunk c.chunk_pointer-pointer.result.0 c.chunk_pointer-pointer.ensures (sym c.is_chunk_pointer.ensures ∙ c.if-not-is_chunk_pointer.false))

pub returns : goal.returns
returns c = chunks_none c.args.words.now c.args.header.0 (omega (arith, c.if-count-from.false)) (λ x lt. c.loop-chunk.invariant x (omega (arith, lt, c.loop-chunk-test.false)))
