use Rattle.std.proofs.Common.{true, length, ap, arith}
use Rattle.std.proofs.lemmas.List.{length-append}
use Rattle.pm_model.specs.declared.action.Action.{Action}
use Rattle.stage_object.proofs.Clears.{length-plan_of-retire}
use Rattle.engine_core.proofs.plans.plan_commit.Goals as goal

pub push_store-requires : goal.push_store-requires
push_store-requires c = omega (arith, c.push_stamps.ensures.spare, c.push_stamps.ensures.most, c.in_ok-plan.ensures.room)

pub push_store-requires-2 : goal.push_store-requires-2
push_store-requires-2 c = omega (arith, c.push_stamps.ensures.spare, c.push_stamps.ensures.most, c.in_ok-plan.ensures.room, c.push_store.ensures.spare)

pub push_retire-requires-clause-room : goal.push_retire-requires-clause-room
push_retire-requires-clause-room c =
    omega (arith, c.push_stamps.ensures.spare, c.push_stamps.ensures.most, c.in_ok-plan.ensures.room, c.push_store.ensures.spare, c.push_store-2.ensures.spare)

pub returns-clause-actions : goal.returns-clause-actions
returns-clause-actions c =
    omega (
      arith,
      c.requires.count,
      c.push_stamps.ensures.most,
      ap length c.push_store.ensures.left,
      ap length c.push_store-2.ensures.left,
      ap length c.push_retire.ensures.left,
      length-append {A = Action},
      length-plan_of-retire 0 c.args.count true,
    )

pub returns-clause-later : goal.returns-clause-later
returns-clause-later c =
    omega (arith, ap length c.push_store.ensures.left, ap length c.push_store-2.ensures.left, ap length c.push_retire.ensures.left, length-append {A = Action}, c.len-early.ensures, c.len.ensures)
