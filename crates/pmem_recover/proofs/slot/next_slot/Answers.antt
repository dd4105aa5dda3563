use Rattle.std.proofs.Common.{◌≡◌, ◌∙◌, ap, refl, arith}
use Rattle.shown_state.specs.Mending.{slot_mending}
use Rattle.pmem_recover.specs.Steps.{step_parts}
use Rattle.pmem_recover.proofs.Steps.{none-planned}
use Rattle.pmem_recover.proofs.slot.next_slot.Goals as goal

pub returns-then-is_empty-clause-none : goal.returns-then-is_empty-clause-none
returns-then-is_empty-clause-none g c = (
  λ e number from lt. let parts = step_parts (λ n. slot_mending) (g.M.Memory.device c.args.mem.now).cached in let zero_is : number ≡ 0 = omega (arith, lt) in
      ap parts zero_is ∙ none-planned (parts 0) c.in_ok-plan.plan.left c.is_empty.result c.in_ok-plan.ensures c.is_empty.ensures c.if-is_empty.true,
  λ none. refl,
)
