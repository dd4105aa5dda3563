use Rattle.std.proofs.Common.{sym, ◌∙◌}
use Rattle.std.proofs.lemmas.Bool.{eqb-true, eqb-false}
use Rattle.pmem_recover.proofs.Changes.{word-hit, word-miss}
use Rattle.pmem_recover.proofs.change.word_after.Goals as goal
use Rattle.pmem_recover.proofs.change.word_after.Goals.{then-eq, else-eq}

pub loop-change-preserved : goal.loop-change-preserved
loop-change-preserved g c =
    let words = (g.M.Memory.device c.args.mem.now).cached in
    elim c.if-eq.branch [
      | then-eq w ↦ w.word-is
          ∙ word-hit c.args.changes.now c.loop-change.change-index _ c.loop-change-test.true words c.args.at.0 (eqb-true _ _ (sym c.eq.ensures ∙ w.if-eq.true)) c.requires
      | else-eq w ↦ w.word-is ∙ c.loop-change.invariant
          ∙ word-miss c.args.changes.now c.loop-change.change-index _ c.loop-change-test.true words c.args.at.0 (λ e. eqb-false _ _ (sym c.eq.ensures ∙ w.if-eq.false) (sym e))
    ]
