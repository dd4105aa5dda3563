use Rattle.std.proofs.Common.{arith, ap, ◌∙◌}
use Rattle.std.specs.Prelude.{Some}
use Rattle.sf_value.proofs.Halves.{reads-both}
use Rattle.sf_value.proofs.number.read_number.Goals as goal

pub returns : goal.returns
returns c =
    reads-both c.args.most c.args.digits.now c.split_at.result.0.now c.split_at.result.1.now c.from.result c.from-2.result
    c.split_at.ensures.by_index.0 (grind arith) (omega arith) (omega arith) (omega arith)
    (ap Some c.from.ensures ∙ c.in_ok-front.ensures) (ap Some c.from-2.ensures ∙ c.in_ok-back.ensures)
