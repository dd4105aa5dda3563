use Rattle.std.proofs.Common.{◌≡◌, ◌≢◌, ⊎_elim, ℕ, ◌<◌, [], false, get_or, refl, sym, ◌∙◌, ap, arith}
use Rattle.std.proofs.lemmas.Bool.{cases_eq, both_ways}
use Rattle.image_layout.specs.Fixed.{lane_op_at}
use Rattle.shown_state.specs.Mending.{lane_mending}
use Rattle.shown_state.proofs.LaneMending.{at_work}
use Rattle.pmem_recover.specs.Steps.{step_parts}
use Rattle.pmem_recover.proofs.LaneChanges.{none-idle, some-parts}
use Rattle.pmem_recover.proofs.lanes.next_lane.Given as given
use Rattle.pmem_recover.proofs.lanes.next_lane.Goals as goal

-- the lane that is given has something to mend
found_some : (g : given.Over) (c : goal.In_ok-plan_lane g) → step_parts lane_mending (g.M.Memory.device c.args.mem.now).cached c.loop-lane.lane ≢ []
found_some g c =
    let words = (g.M.Memory.device c.args.mem.now).cached in
    let lt : c.loop-lane.lane < 16 = omega (arith, c.loop-lane-test.true, c.from-lane-end.ensures) in
    let some : get_or words (lane_op_at c.loop-lane.lane) 0 ≢ 0 = λ e. c.if-load-ne-IDLE.true (c.load.ensures ∙ ap (λ (at : ℕ). get_or words at 0) c.lane_op.ensures ∙ e) in
    let whole = g.met.M.Memory.whole c.args.mem.now in
    some-parts words c.loop-lane.lane (at_work words c.requires c.loop-lane.lane lt some) (omega (arith, whole.one_or_more, lt)) some

pub returns-then-load-ne-IDLE-clause-next : goal.returns-then-load-ne-IDLE-clause-next
returns-then-load-ne-IDLE-clause-next g c = record {
  is_from = c.loop-lane.auto.lane;
  number_is = omega (arith, c.loop-lane-test.true, c.from-lane-end.ensures);
  some = found_some g c;
  plan_is = c.in_ok-plan_lane.ensures;
  passed = c.loop-lane.invariant;
}

pub returns-then-load-ne-IDLE-clause-none : goal.returns-then-load-ne-IDLE-clause-none
returns-then-load-ne-IDLE-clause-none g c = (
  λ e. absurd (both_ways false refl (sym e)),
  λ none. absurd (found_some g c (none c.loop-lane.lane c.loop-lane.auto.lane (omega (arith, c.loop-lane-test.true, c.from-lane-end.ensures)))),
)

pub loop-lane-preserved : goal.loop-lane-preserved
loop-lane-preserved g c other from lt =
    let words = (g.M.Memory.device c.args.mem.now).cached in
    let idle : get_or words (lane_op_at c.loop-lane.lane) 0 ≡ 0 = sym (c.load.ensures ∙ ap (λ (at : ℕ). get_or words at 0) c.lane_op.ensures) ∙ c.if-load-ne-IDLE.false in
    ⊎_elim (λ (e : other ≡ c.loop-lane.lane). ap (step_parts lane_mending words) e ∙ none-idle words c.loop-lane.lane idle)
    (λ apart. c.loop-lane.invariant other from (omega (arith, apart, lt)))
    (cases_eq other c.loop-lane.lane)
