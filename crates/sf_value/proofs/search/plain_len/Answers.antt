use Rattle.std.proofs.Common.{rules}
use Rattle.sf_value.specs.Literal.{IsPlain}
use Rattle.sf_value.proofs.Windows.{passes-more}
use Rattle.sf_value.proofs.search.plain_len.Goals as goal

pub returns-then-start-end-clause-plain : goal.returns-then-start-end-clause-plain
returns-then-start-end-clause-plain c =
    let found = c.plain_len_in-start.ensures in
    passes-more IsPlain c.args.bytes.now c.loop-start.start c.min-end.result _ found.within c.loop-start.invariant.plain found.plain

pub loop-start-preserved : goal.loop-start-preserved
loop-start-preserved c =
    let found = c.plain_len_in-start.ensures in
    record {
      within = search rules;
      plain = passes-more IsPlain c.args.bytes.now c.loop-start.start c.min-end.result _ found.within c.loop-start.invariant.plain found.plain;
    }
