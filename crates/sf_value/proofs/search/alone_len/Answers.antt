use Rattle.std.proofs.Common.{rules}
use Rattle.sf_value.specs.Spelling.{IsSpelledAlone}
use Rattle.sf_value.proofs.Windows.{passes-more}
use Rattle.sf_value.proofs.search.alone_len.Goals as goal

pub returns-then-start-end-clause-alone : goal.returns-then-start-end-clause-alone
returns-then-start-end-clause-alone c =
    let found = c.alone_len_in-start.ensures in
    passes-more IsSpelledAlone c.args.bytes.now c.loop-start.start c.min-end.result _ found.within c.loop-start.invariant.alone found.alone

pub loop-start-preserved : goal.loop-start-preserved
loop-start-preserved c =
    let found = c.alone_len_in-start.ensures in
    record {
      within = search rules;
      alone = passes-more IsSpelledAlone c.args.bytes.now c.loop-start.start c.min-end.result _ found.within c.loop-start.invariant.alone found.alone;
    }
