use Rattle.std.proofs.Common.{◌≡◌, ⊎_elim, false, sym, ◌∙◌, ap, refl, arith}
use Rattle.std.proofs.lemmas.Bool.{cases_eq, both_ways}
use Rattle.shown_state.specs.Mending.{undo_mending}
use Rattle.pmem_recover.specs.Steps.{step_parts}
use Rattle.pmem_recover.proofs.Steps.{none-planned, some-planned}
use Rattle.pmem_recover.proofs.undo.next_undo.Goals as goal

pub returns-then-not-is_empty-clause-next : goal.returns-then-not-is_empty-clause-next
returns-then-not-is_empty-clause-next g c =
    let words = (g.M.Memory.device c.args.mem.now).cached in
    record {
      is_from = c.loop-number.auto.number;
      number_is = omega (arith, c.loop-number-test.true, c.from-number-end.ensures);
      some = some-planned (step_parts undo_mending words c.loop-number.number) c.in_ok-plan.plan.left c.is_empty.result c.in_ok-plan.ensures c.is_empty.ensures c.if-not-is_empty.true;
      plan_is = c.in_ok-plan.ensures;
      passed = c.loop-number.invariant;
    }

pub returns-then-not-is_empty-clause-none : goal.returns-then-not-is_empty-clause-none
returns-then-not-is_empty-clause-none g c = (
  λ e. absurd (both_ways false refl (sym e)),
  λ none. absurd (some-planned (step_parts undo_mending (g.M.Memory.device c.args.mem.now).cached c.loop-number.number) c.in_ok-plan.plan.left c.is_empty.result c.in_ok-plan.ensures c.is_empty.ensures c.if-not-is_empty.true
      (none c.loop-number.number c.loop-number.auto.number (omega (arith, c.loop-number-test.true, c.from-number-end.ensures)))),
)

pub loop-number-preserved : goal.loop-number-preserved
loop-number-preserved g c other from lt =
    let words = (g.M.Memory.device c.args.mem.now).cached in
    ⊎_elim (λ (e : other ≡ c.loop-number.number). ap (step_parts undo_mending words) e
    ∙ none-planned (step_parts undo_mending words c.loop-number.number) c.in_ok-plan.plan.left c.is_empty.result c.in_ok-plan.ensures c.is_empty.ensures c.if-not-is_empty.false)
    (λ apart. c.loop-number.invariant other from (omega (arith, apart, lt)))
    (cases_eq other c.loop-number.number)
