use Rattle.std.proofs.Common.{◌≡◌, ◌<◌, ◌∙◌, ℕ, true, List, get_or, ap, sym, subst, arith}
use Rattle.pm_model.specs.declared.action.Action.{Action}
use Rattle.image_layout.specs.Places.{place_in, is_pointer}
use Rattle.image_layout.specs.Objects.{ready_count, segment_pointer_at}
use Rattle.txn_object.specs.Calls.{IsSegmentPlanned}
use Rattle.txn_object.proofs.Rule.{named_after}
use Rattle.txn_object.proofs.Planning.{owned_planned, allocated_planned, allocated_length, allocated_here}
use Rattle.txn_object.proofs.extend.push_segment.Goals as goal

pub named_place-requires-clause-pointer : goal.named_place-requires-clause-pointer
named_place-requires-clause-pointer g c =
    let words : List ℕ = (g.M.Memory.device c.args.mem.now).cached in
    let owner = c.pointer_to-owner.ensures.place ∙ ap (segment_pointer_at words c.args.object) c.requires.count in
    let is = named_after words c.args.object c.requires.may.segments.rule (λ e. c.if-load-ne0.true (c.load.ensures ∙ ap (λ (at : ℕ). get_or words at 0) owner ∙ e)) in
    subst (λ (at : ℕ). is_pointer words (get_or words at 0) ≡ true) (sym owner) is.is_one

pub returns-then-load-ne0-clause-planned : goal.returns-then-load-ne0-clause-planned
returns-then-load-ne0-clause-planned g c =
    let words : List ℕ = (g.M.Memory.device c.args.mem.now).cached in
    let owner = c.pointer_to-owner.ensures.place ∙ ap (segment_pointer_at words c.args.object) c.requires.count in
    let lt : ready_count (g.M.Memory.device c.args.mem.now).cached c.args.object < 32 = omega (arith, c.requires.count, c.requires.not_full) in
    owned_planned words c.args.heap.now c.args.object c.requires.may c.requires.object lt c.named_place.result.0 c.args.plan.now.left
    (c.named_place.ensures.place ∙ ap (λ (at : ℕ). place_in (get_or words at 0)) owner) (λ e. c.if-load-ne0.true (c.load.ensures ∙ ap (λ (at : ℕ). get_or words at 0) owner ∙ e))

pub append-requires : goal.append-requires
append-requires g c =
    let words : List ℕ = (g.M.Memory.device c.args.mem.now).cached in
    let owner = c.pointer_to-owner.ensures.place ∙ ap (segment_pointer_at words c.args.object) c.requires.count in
    let lt : ready_count (g.M.Memory.device c.args.mem.now).cached c.args.object < 32 = omega (arith, c.requires.count, c.requires.not_full) in
    let made = allocated_here words c.args.heap.now c.plan_allocate.new.heap c.args.object c.pointer_to-owner.result.0 c.in_ok-allocation.segment.first.0 c.in_ok-allocation.segment.words c.in_ok-allocation.allocation.left owner c.in_ok-allocation.ensures.allocated in
    let most = allocated_length words c.args.heap.now c.args.object c.requires.may c.requires.object lt c.plan_allocate.new.heap c.in_ok-allocation.allocation.left c.in_ok-allocation.segment.first.0 c.in_ok-allocation.segment.words made in
    omega (arith, most, c.requires.room)

pub returns-clause-planned : goal.returns-clause-planned
returns-clause-planned g c =
    let words : List ℕ = (g.M.Memory.device c.args.mem.now).cached in
    let owner = c.pointer_to-owner.ensures.place ∙ ap (segment_pointer_at words c.args.object) c.requires.count in
    let lt : ready_count (g.M.Memory.device c.args.mem.now).cached c.args.object < 32 = omega (arith, c.requires.count, c.requires.not_full) in
    let none = sym (ap (λ (at : ℕ). get_or words at 0) owner) ∙ sym c.load.ensures ∙ c.if-load-ne0.false in
    let made = allocated_here words c.args.heap.now c.plan_allocate.new.heap c.args.object c.pointer_to-owner.result.0 c.in_ok-allocation.segment.first.0 c.in_ok-allocation.segment.words c.in_ok-allocation.allocation.left owner c.in_ok-allocation.ensures.allocated in
    subst (λ (xs : List Action). IsSegmentPlanned words c.args.heap.now c.plan_allocate.new.heap c.args.object c.in_ok-allocation.segment.first.0 c.args.plan.now.left xs) (sym c.append.ensures.left)
    (allocated_planned words c.args.heap.now c.args.object c.requires.may c.requires.object lt c.plan_allocate.new.heap c.in_ok-allocation.allocation.left c.args.plan.now.left c.in_ok-allocation.segment.first.0 c.in_ok-allocation.segment.words none made)

pub returns-clause-spare : goal.returns-clause-spare
returns-clause-spare g c =
    let words : List ℕ = (g.M.Memory.device c.args.mem.now).cached in
    let owner = c.pointer_to-owner.ensures.place ∙ ap (segment_pointer_at words c.args.object) c.requires.count in
    let lt : ready_count (g.M.Memory.device c.args.mem.now).cached c.args.object < 32 = omega (arith, c.requires.count, c.requires.not_full) in
    let made = allocated_here words c.args.heap.now c.plan_allocate.new.heap c.args.object c.pointer_to-owner.result.0 c.in_ok-allocation.segment.first.0 c.in_ok-allocation.segment.words c.in_ok-allocation.allocation.left owner c.in_ok-allocation.ensures.allocated in
    let most = allocated_length words c.args.heap.now c.args.object c.requires.may c.requires.object lt c.plan_allocate.new.heap c.in_ok-allocation.allocation.left c.in_ok-allocation.segment.first.0 c.in_ok-allocation.segment.words made in
    omega (arith, most, c.append.ensures.spare)
