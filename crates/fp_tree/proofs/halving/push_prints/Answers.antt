use Rattle.std.proofs.Common.{◌+◌, drop, refl, arith}
use Rattle.shown_state.specs.Packed.{packed_word}
use Rattle.fp_tree.specs.Halving.{key_prints}
use Rattle.fp_tree.proofs.Copied.{filled_more}
use Rattle.fp_tree.proofs.halving.push_prints.Goals as goal

pub loop-word-preserved : goal.loop-word-preserved
loop-word-preserved c = record {
  left = filled_more c.args.plan.now.left c.loop-word.plan.left c.push.new.self.left (packed_word (key_prints (drop 24 c.args.sorted.now.pairs))) (c.args.new.0 + 2) (c.args.new.0 + 2 + c.loop-word.word) c.loop-word.word c.prints.result
      c.loop-word.invariant.left c.push.ensures.left refl c.prints.ensures;
  spare = omega (arith, c.push.ensures.spare, c.loop-word.invariant.spare);
}
