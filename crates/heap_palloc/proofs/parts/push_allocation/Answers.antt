use Rattle.std.proofs.Common.{List, [], ◌∷◌, ◌++◌, refl, ◌∙◌}
use Rattle.pm_model.specs.Plans.{Part, one_store}
use Rattle.image_layout.specs.Fixed.{lane_op_at}
use Rattle.image_layout.specs.Pointer.{pointer_word}
use Rattle.heap_palloc.specs.Lane.{mark_at}
use Rattle.heap_palloc.specs.Parts.{lane_part}
use Rattle.heap_palloc.proofs.Pushed.{pushed-first, pushed-store}
use Rattle.heap_palloc.proofs.parts.push_allocation.Goals as goal

pub returns-clause-left : goal.returns-clause-left
returns-clause-left c =
    let plan = c.args.plan.now.left in
    let lane = c.args.lane in
    let owner = c.args.owner.0 in
    let block = c.args.block.0 in
    let noted : List Part = lane_part (record { lane = lane; owner = owner; block = block; marked = 0 }) ∷ [] in
    let first = pushed-first plan c.push_lane.new.plan.left (lane_part (record { lane = lane; owner = owner; block = block; marked = 0 })) c.push_lane.ensures.left in
    let logged = pushed-store plan c.push_lane.new.plan.left c.push_store.new.self.left noted c.lane_op.result.0 1 (lane_op_at lane) 1 first c.push_store.ensures.left c.lane_op.ensures refl in
    let marked = pushed-store plan c.push_store.new.self.left c.push_store-2.new.self.left (noted ++ one_store (lane_op_at lane) 1 ∷ []) c.mark_of.result.0 c.args.marked (mark_at block) c.args.marked logged c.push_store-2.ensures.left c.mark_of.ensures refl in
    let named = pushed-store plan c.push_store-2.new.self.left c.push_store-3.new.self.left (noted ++ one_store (lane_op_at lane) 1 ∷ one_store (mark_at block) c.args.marked ∷ []) owner c.word.result owner (pointer_word block)
    marked c.push_store-3.ensures.left refl (c.word.ensures ∙ c.of.ensures) in
    pushed-store plan c.push_store-3.new.self.left c.push_store-4.new.self.left (noted ++ one_store (lane_op_at lane) 1 ∷ one_store (mark_at block) c.args.marked ∷ one_store owner (pointer_word block) ∷ []) c.lane_op-2.result.0 0 (lane_op_at lane) 0
    named c.push_store-4.ensures.left c.lane_op-2.ensures refl
