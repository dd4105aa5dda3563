use Rattle.std.proofs.Common.{ℕ, ◌+◌, ◌∙◌, arith, get_or}
use Rattle.std.proofs.lemmas.List.{length-set}
use Rattle.fp_tree.proofs.Search.{copied_word}
use Rattle.fp_tree.proofs.reading.first_words.Goals as goal

pub loop-word-preserved : goal.loop-word-preserved
loop-word-preserved g c =
    let size = c.loop-word.invariant.size in
    record {
      size = length-set c.loop-word.words c.loop-word.word c.load.result ∙ size;
      done = copied_word (λ (k : ℕ). get_or (g.M.Memory.device c.args.mem.now).cached (c.args.leaf.0 + k) 0) c.loop-word.words c.loop-word.word c.load.result
          (omega (arith, size, c.loop-word-test.true, c.requires.count)) c.load.ensures c.loop-word.invariant.done;
    }
