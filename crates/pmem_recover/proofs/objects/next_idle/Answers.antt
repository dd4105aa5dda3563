use Rattle.std.proofs.Common.{◌≡◌, ⊎_elim, false, sym, ◌∙◌, ap, refl, arith}
use Rattle.std.proofs.lemmas.Bool.{cases_eq, both_ways}
use Rattle.shown_state.specs.Mending.{close_mending}
use Rattle.pmem_recover.specs.Steps.{step_parts}
use Rattle.pmem_recover.proofs.Steps.{closing, no_closing, made-one, some-one}
use Rattle.pmem_recover.proofs.objects.next_idle.Goals as goal

pub returns-then-is_committed-clause-next : goal.returns-then-is_committed-clause-next
returns-then-is_committed-clause-next g c =
    let words = (g.M.Memory.device c.args.mem.now).cached in
    let parts = closing words c.loop-number.number c.is_committed.result c.is_committed.ensures c.if-is_committed.true in
    record {
      is_from = c.loop-number.auto.number;
      number_is = omega (arith, c.loop-number-test.true, c.from-number-end.ensures);
      some = some-one _ _ parts;
      plan_is = made-one _ _ _ _ c.in_ok-plan.plan.left c.push_store.new.self.left c.in_ok-plan.ensures.empty c.object_state.ensures c.push_store.ensures.left parts;
      passed = c.loop-number.invariant;
    }

pub returns-then-is_committed-clause-none : goal.returns-then-is_committed-clause-none
returns-then-is_committed-clause-none g c = (
  λ e. absurd (both_ways false refl (sym e)),
  λ none. absurd (some-one _ _ (closing (g.M.Memory.device c.args.mem.now).cached c.loop-number.number c.is_committed.result c.is_committed.ensures c.if-is_committed.true)
      (none c.loop-number.number c.loop-number.auto.number (omega (arith, c.loop-number-test.true, c.from-number-end.ensures)))),
)

pub loop-number-preserved : goal.loop-number-preserved
loop-number-preserved g c other from lt =
    let words = (g.M.Memory.device c.args.mem.now).cached in
    ⊎_elim (λ (e : other ≡ c.loop-number.number). ap (step_parts close_mending words) e ∙ no_closing words c.loop-number.number c.is_committed.result c.is_committed.ensures c.if-is_committed.false)
    (λ apart. c.loop-number.invariant other from (omega (arith, apart, lt)))
    (cases_eq other c.loop-number.number)
