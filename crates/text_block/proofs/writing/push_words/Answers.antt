use Rattle.std.proofs.Common.{◌+◌, length, refl, arith}
use Rattle.shown_state.specs.Packed.{packed_word}
use Rattle.text_block.proofs.Filled.{filled_more}
use Rattle.text_block.proofs.writing.push_words.Goals as goal

pub loop-word-preserved : goal.loop-word-preserved
loop-word-preserved c = record {
  left = filled_more c.args.plan.now.left c.loop-word.plan.left c.push-in-loop-word.new.self.left (length c.args.bytes.now) (packed_word c.args.bytes.now) c.args.at.0 (c.args.at.0 + 1 + c.loop-word.word) c.loop-word.word c.packed.result
      c.loop-word.invariant.left c.push-in-loop-word.ensures.left refl c.packed.ensures;
  spare = omega (arith, c.push-in-loop-word.ensures.spare, c.loop-word.invariant.spare);
}
