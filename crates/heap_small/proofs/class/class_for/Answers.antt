use Rattle.std.proofs.Common.{◌-◌, ◌/◌, subst, arith}
use Rattle.std.proofs.lemmas.Nat.{leading_length}
use Rattle.heap_small.specs.Class.{IsLeastFor}
use Rattle.heap_small.proofs.Classes.{least_by_bits, few_bits}
use Rattle.heap_small.proofs.class.class_for.Goals as goal

pub invariant_of-result : goal.invariant_of-result
invariant_of-result c =
    let (bits, sum, below, above) = leading_length 32 ((c.args.words - 1) / 8) (omega (arith, c.if-words-gt256.false)) in
    omega (arith, sum, few_bits c.args.words bits c.requires below above (omega (arith, c.if-words-gt256.false)))

pub returns-clause-least : goal.returns-clause-least
returns-clause-least c =
    let (bits, sum, below, above) = leading_length 32 ((c.args.words - 1) / 8) (omega (arith, c.if-words-gt256.false)) in
    subst (IsLeastFor c.args.words) (omega (arith, sum)) (least_by_bits c.args.words bits c.requires below above)
