use Rattle.std.proofs.Common.{◌-◌, length, arith}
use Rattle.image_layout.specs.Arrays.{chunk_words}
use Rattle.image_rules.proofs.StampChecks.{place_inside}
use Rattle.image_rules.proofs.ArrayWords.{place_is, place_none, chunk_holds}
use Rattle.image_rules.proofs.array_words.word_place.Goals as goal

pub returns-then-index-chunk_capacity-clause-place : goal.returns-then-index-chunk_capacity-clause-place
returns-then-index-chunk_capacity-clause-place c =
    place_none c.args.words.now c.args.header.0 c.args.index c.requires.rule (omega (arith, c.chunk_capacity.ensures.words, c.if-index-chunk_capacity.true))

pub overflow_sub-offset : goal.overflow_sub-offset
overflow_sub-offset c =
    let holds = chunk_holds c.args.index c.chunk_capacity.result c.chunk_of-chunk.result c.chunk_capacity-2.result c.chunk_capacity.ensures.words (omega (arith, c.if-index-chunk_capacity.false)) c.chunk_of-chunk.ensures.chunk c.chunk_capacity-2.ensures.words in
    omega (arith, holds.0)

pub returns-clause-place : goal.returns-clause-place
returns-clause-place c =
    place_is c.args.words.now c.args.header.0 c.args.index c.chunk_of-chunk.result c.chunk_capacity-2.result c.published_chunk.result c.place_in_chunk.result
    (chunk_holds c.args.index c.chunk_capacity.result c.chunk_of-chunk.result c.chunk_capacity-2.result c.chunk_capacity.ensures.words (omega (arith, c.if-index-chunk_capacity.false)) c.chunk_of-chunk.ensures.chunk c.chunk_capacity-2.ensures.words)
    c.chunk_of-chunk.ensures.most c.chunk_capacity-2.ensures.words c.published_chunk.ensures.place c.place_in_chunk.ensures

pub returns-clause-within : goal.returns-clause-within
returns-clause-within c =
    let holds = chunk_holds c.args.index c.chunk_capacity.result c.chunk_of-chunk.result c.chunk_capacity-2.result c.chunk_capacity.ensures.words (omega (arith, c.if-index-chunk_capacity.false)) c.chunk_of-chunk.ensures.chunk c.chunk_capacity-2.ensures.words in
    place_inside c.published_chunk.result c.place_in_chunk.result (c.args.index - c.chunk_capacity-2.result) (chunk_words c.chunk_of-chunk.result) (length c.args.words.now) c.place_in_chunk.ensures c.published_chunk.ensures.within holds.1
