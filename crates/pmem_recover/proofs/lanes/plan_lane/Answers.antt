use Rattle.std.proofs.Common.{◌≡◌, ◌≢◌, ℕ, ◌%◌, get_or, sym, ◌∙◌, ap, subst}
use Rattle.std.specs.Prelude.{IsTrue}
use Rattle.image_layout.specs.Fixed.{lane_op_at, lane_dest_at, lane_block_at}
use Rattle.image_layout.specs.Places.{place_in, is_pointer}
use Rattle.image_layout.specs.Blocks.{is_slot}
use Rattle.pmem_recover.specs.Lanes.{release}
use Rattle.shown_state.proofs.LaneMending.{at_work, block_pointer, block_slot, work-other}
use Rattle.pmem_recover.proofs.LaneChanges.{planned-freeing, planned-done, planned-undone}
use Rattle.pmem_recover.proofs.lanes.plan_lane.Goals as goal
use Rattle.pmem_recover.proofs.lanes.plan_lane.Goals.{then-load-ne-ALLOCATING, else-load-ne-ALLOCATING+then-load, else-load-ne-ALLOCATING+else-load}

pub named_place-owner-requires-clause-pointer : goal.named_place-owner-requires-clause-pointer
named_place-owner-requires-clause-pointer g c =
    let words = (g.M.Memory.device c.args.mem.now).cached in
    let work = at_work words c.requires.rules c.args.lane c.requires.lane c.requires.at_work in
    subst (λ (at : ℕ). IsTrue (is_pointer words (get_or words at 0))) (sym c.lane_dest.ensures) work.dest

pub named_place-block-requires-clause-pointer : goal.named_place-block-requires-clause-pointer
named_place-block-requires-clause-pointer g c =
    let words = (g.M.Memory.device c.args.mem.now).cached in
    let work = at_work words c.requires.rules c.args.lane c.requires.lane c.requires.at_work in
    subst (λ (at : ℕ). IsTrue (is_pointer words (get_or words at 0))) (sym c.lane_block.ensures) (block_pointer words _ work.block)

pub release-release-requires-clause-slot : goal.release-release-requires-clause-slot
release-release-requires-clause-slot g c =
    let words = (g.M.Memory.device c.args.mem.now).cached in
    let work = at_work words c.requires.rules c.args.lane c.requires.lane c.requires.at_work in
    subst (λ (at : ℕ). at % 512 ≢ 0 → IsTrue (is_slot words at)) (sym (c.named_place-block.ensures.place ∙ ap (λ (at : ℕ). place_in (get_or words at 0)) c.lane_block.ensures))
    (block_slot words (get_or words (lane_block_at c.args.lane) 0) work.block)

pub returns : goal.returns
returns g c =
    let words = (g.M.Memory.device c.args.mem.now).cached in
    let work = at_work words c.requires.rules c.args.lane c.requires.lane c.requires.at_work in
    let owner_is : c.named_place-owner.result.0 ≡ place_in (get_or words (lane_dest_at c.args.lane) 0) = c.named_place-owner.ensures.place ∙ ap (λ (at : ℕ). place_in (get_or words at 0)) c.lane_dest.ensures in
    let block_is : c.named_place-block.result.0 ≡ place_in (get_or words (lane_block_at c.args.lane) 0) = c.named_place-block.ensures.place ∙ ap (λ (at : ℕ). place_in (get_or words at 0)) c.lane_block.ensures in
    let release_is : c.release-release.result ≡ release words (place_in (get_or words (lane_block_at c.args.lane) 0)) = c.release-release.ensures.change ∙ ap (release words) block_is in
    let op_is : c.load.result ≡ get_or words (lane_op_at c.args.lane) 0 = c.load.ensures ∙ ap (λ (at : ℕ). get_or words at 0) c.lane_op-2.ensures in
    elim c.if-load-ne-ALLOCATING.branch [
      | then-load-ne-ALLOCATING w ↦ ap (λ plan. plan.left) w.plan-is
          ∙ planned-freeing words c.args.lane c.named_place-owner.result c.lane_op.result c.release-release.result c.in_ok-plan.plan.left w.push_needed.new.plan.left
          owner_is c.lane_op.ensures release_is c.in_ok-plan.ensures.empty (work-other words c.args.lane work (λ one. w.if-load-ne-ALLOCATING.true (op_is ∙ one))) w.push_needed.ensures.left
      | else-load-ne-ALLOCATING+then-load w ↦ ap (λ plan. plan.left) w.plan-is
          ∙ planned-done words c.args.lane c.named_place-owner.result c.lane_op.result c.release-release.result c.in_ok-plan.plan.left w.push_needed-then-load.new.plan.left
          owner_is c.lane_op.ensures release_is c.in_ok-plan.ensures.empty (sym op_is ∙ w.if-load-ne-ALLOCATING.false)
          (sym w.load-else-load-ne-ALLOCATING.ensures ∙ w.if-load.true ∙ w.load-else-load-ne-ALLOCATING-2.ensures ∙ ap (λ (at : ℕ). get_or words at 0) w.lane_block-else-load-ne-ALLOCATING.ensures)
          w.push_needed-then-load.ensures.left
      | else-load-ne-ALLOCATING+else-load w ↦ ap (λ plan. plan.left) w.plan-is
          ∙ planned-undone words c.args.lane c.named_place-owner.result c.lane_op.result c.release-release.result c.in_ok-plan.plan.left w.push_needed-else-load.new.plan.left
          owner_is c.lane_op.ensures release_is c.in_ok-plan.ensures.empty (sym op_is ∙ w.if-load-ne-ALLOCATING.false)
          (λ e. w.if-load.false (w.load-else-load-ne-ALLOCATING.ensures ∙ e ∙ sym (w.load-else-load-ne-ALLOCATING-2.ensures ∙ ap (λ (at : ℕ). get_or words at 0) w.lane_block-else-load-ne-ALLOCATING.ensures)))
          w.push_needed-else-load.ensures.left
    ]
