use Rattle.std.proofs.Common.{◌+◌, ◌<◌, length, sym, ◌∙◌, below_more, arith}
use Rattle.image_layout.specs.Arrays.{capacity_of, chunk_words}
use Rattle.image_layout.specs.Checks.{first_failing}
use Rattle.image_layout.specs.SoundRules.{row_checks}
use Rattle.image_rules.proofs.Firsts.{found_none}
use Rattle.image_rules.proofs.TableArrays.{created_rule, ended_rule}
use Rattle.image_rules.proofs.StampChecks.{place_fits, place_inside, row_at, row_found, rows_none, header_at}
use Rattle.image_rules.proofs.stamp_rules.chunk_stamp_fault.Goals as goal

pub published_chunk-created-requires-clause-rule : goal.published_chunk-created-requires-clause-rule
published_chunk-created-requires-clause-rule c = created_rule c.args.words.now c.args.block.0 c.requires.arrays c.created_header.result.0 c.created_header.ensures

pub published_chunk-ended-requires-clause-rule : goal.published_chunk-ended-requires-clause-rule
published_chunk-ended-requires-clause-rule c = ended_rule c.args.words.now c.args.block.0 c.requires.arrays c.ended_header.result.0 c.ended_header.ensures

pub place_in_chunk-requires : goal.place_in_chunk-requires
place_in_chunk-requires c =
    place_fits c.published_chunk-created.result c.loop-offset.offset (chunk_words c.args.chunk) (length c.args.words.now) c.published_chunk-created.ensures.within (omega (arith, c.loop-offset-test.true, c.chunk_words-rows.ensures.words)) c.requires.most

pub place_in_chunk-requires-in-loop-offset : goal.place_in_chunk-requires-in-loop-offset
place_in_chunk-requires-in-loop-offset c =
    place_fits c.published_chunk-ended.result c.loop-offset.offset (chunk_words c.args.chunk) (length c.args.words.now) c.published_chunk-ended.ensures.within (omega (arith, c.loop-offset-test.true, c.chunk_words-rows.ensures.words)) c.requires.most

pub row_fault-found-requires-clause-created : goal.row_fault-found-requires-clause-created
row_fault-found-requires-clause-created c =
    place_inside c.published_chunk-created.result c.place_in_chunk.result c.loop-offset.offset (chunk_words c.args.chunk) (length c.args.words.now) c.place_in_chunk.ensures c.published_chunk-created.ensures.within
    (omega (arith, c.loop-offset-test.true, c.chunk_words-rows.ensures.words))

pub row_fault-found-requires-clause-ended : goal.row_fault-found-requires-clause-ended
row_fault-found-requires-clause-ended c =
    place_inside c.published_chunk-ended.result c.place_in_chunk-in-loop-offset.result c.loop-offset.offset (chunk_words c.args.chunk) (length c.args.words.now) c.place_in_chunk-in-loop-offset.ensures c.published_chunk-ended.ensures.within
    (omega (arith, c.loop-offset-test.true, c.chunk_words-rows.ensures.words))

pub returns-then-is_some : goal.returns-then-is_some
returns-then-is_some c =
    let inside : c.loop-offset.offset < chunk_words c.args.chunk = omega (arith, c.loop-offset-test.true, c.chunk_words-rows.ensures.words) in
    row_found c.args.words.now c.args.block.0 c.args.chunk c.loop-offset.offset c.row_fault-found.result inside c.loop-offset.invariant
    (row_at c.args.words.now c.args.block.0 c.args.chunk c.loop-offset.offset c.chunk_capacity-first.result c.from.result c.high.result.0 c.place_in_chunk.result c.place_in_chunk-in-loop-offset.result
    c.published_chunk-created.result c.published_chunk-ended.result c.row_fault-found.result c.requires.chunk inside c.requires.bounded c.from.ensures c.chunk_capacity-first.ensures.words c.high.ensures
    (c.published_chunk-created.ensures.place ∙ header_at c.args.words.now c.args.chunk _ _ c.created_header.ensures) c.place_in_chunk.ensures
    (c.published_chunk-ended.ensures.place ∙ header_at c.args.words.now c.args.chunk _ _ c.ended_header.ensures) c.place_in_chunk-in-loop-offset.ensures c.row_fault-found.ensures)
    (sym c.is_some.ensures ∙ c.if-is_some.true)

pub loop-offset-preserved : goal.loop-offset-preserved
loop-offset-preserved c =
    let inside : c.loop-offset.offset < chunk_words c.args.chunk = omega (arith, c.loop-offset-test.true, c.chunk_words-rows.ensures.words) in
    below_more _ _ c.loop-offset.invariant
    (found_none c.row_fault-found.result (first_failing (row_checks c.args.words.now c.args.block.0 (capacity_of c.args.chunk + c.loop-offset.offset)))
    (row_at c.args.words.now c.args.block.0 c.args.chunk c.loop-offset.offset c.chunk_capacity-first.result c.from.result c.high.result.0 c.place_in_chunk.result c.place_in_chunk-in-loop-offset.result
    c.published_chunk-created.result c.published_chunk-ended.result c.row_fault-found.result c.requires.chunk inside c.requires.bounded c.from.ensures c.chunk_capacity-first.ensures.words c.high.ensures
    (c.published_chunk-created.ensures.place ∙ header_at c.args.words.now c.args.chunk _ _ c.created_header.ensures) c.place_in_chunk.ensures
    (c.published_chunk-ended.ensures.place ∙ header_at c.args.words.now c.args.chunk _ _ c.ended_header.ensures) c.place_in_chunk-in-loop-offset.ensures c.row_fault-found.ensures)
    (sym c.is_some.ensures ∙ c.if-is_some.false))

pub returns : goal.returns
returns c = rows_none c.args.words.now c.args.block.0 c.args.chunk (λ x lt. c.loop-offset.invariant x (omega (arith, lt, c.loop-offset-test.false, c.chunk_words-rows.ensures.words)))
