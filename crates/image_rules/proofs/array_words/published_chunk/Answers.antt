use Rattle.std.proofs.Common.{arith}
use Rattle.image_rules.proofs.StampChecks.{published}
use Rattle.image_rules.proofs.array_words.published_chunk.Goals as goal

pub returns-clause-place : goal.returns-clause-place
returns-clause-place c =
    published c.args.words.now c.args.header.0 c.args.chunk c.chunk_words.result c.chunk_pointer.result.0 c.pointed_words.result c.requires.rule c.requires.chunk c.chunk_words.ensures.words (omega (arith, c.if-from-words.false, c.from.ensures))
    c.chunk_pointer.ensures c.pointed_words.ensures.none c.pointed_words.ensures.place
