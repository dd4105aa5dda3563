use Rattle.std.proofs.Common.{[], ◌∷◌}
use Rattle.image_layout.specs.Checks.{numbered}
use Rattle.image_layout.specs.HeapRules.{reserved_rule, descriptor_rule, bitmap_rule, lane_rule}
use Rattle.image_rules.proofs.NumberedFaults.{one, both}
use Rattle.image_rules.proofs.numbered_rules.heap_fault.Goals as goal

pub returns : goal.returns
returns c =
    let words = c.args.words.now in
    let reserved = one (numbered 5 reserved_rule) words c.reserved_fault.result c.of-reserved.result c.of-reserved.ensures c.reserved_fault.ensures in
    let descriptor = one (numbered 6 descriptor_rule) words c.descriptor_fault.result c.of-descriptor.result c.of-descriptor.ensures c.descriptor_fault.ensures in
    let bitmap = one (numbered 7 bitmap_rule) words c.bitmap_fault.result c.of-bitmap.result c.of-bitmap.ensures c.bitmap_fault.ensures in
    let lane = one (numbered 8 lane_rule) words c.lane_fault.result c.of-lane.result c.of-lane.ensures c.lane_fault.ensures in
    both (numbered 5 reserved_rule ∷ numbered 6 descriptor_rule ∷ numbered 7 bitmap_rule ∷ []) (numbered 8 lane_rule ∷ []) words c.or-2.result c.of-lane.result c.or-3.result c.or-3.ensures
    (both (numbered 5 reserved_rule ∷ numbered 6 descriptor_rule ∷ []) (numbered 7 bitmap_rule ∷ []) words c.or.result c.of-bitmap.result c.or-2.result c.or-2.ensures
    (both (numbered 5 reserved_rule ∷ []) (numbered 6 descriptor_rule ∷ []) words c.of-reserved.result c.of-descriptor.result c.or.result c.or.ensures reserved descriptor) bitmap) lane
