use Rattle.std.proofs.Common.{◌+◌, drop, refl, arith}
use Rattle.pm_model.specs.Plans.{store}
use Rattle.fp_tree.specs.Halving.{pair_stores}
use Rattle.fp_tree.proofs.Copied.{moved_more, moved_pair}
use Rattle.fp_tree.proofs.halving.push_pairs.Goals as goal

pub loop-slot-preserved : goal.loop-slot-preserved
loop-slot-preserved c = record {
  left = moved_more c.args.plan.now.left c.loop-slot.plan.left c.push.new.self.left c.push-in-loop-slot.new.self.left (pair_stores (drop 24 c.args.sorted.now.pairs) c.args.new.0) c.loop-slot.slot
      (store c.key_place-at.result.0 c.get-pair.result.key) (store (c.key_place-at.result.0 + 1) c.from.result)
      c.loop-slot.invariant.left c.push.ensures.left c.push-in-loop-slot.ensures.left
      (moved_pair c.args.sorted.now.pairs c.args.new.0 c.loop-slot.slot (24 + c.loop-slot.slot) c.get-pair.result refl c.get-pair.ensures (omega (arith, c.requires.full, c.loop-slot-test.true))
      c.key_place-at.result.0 (c.key_place-at.result.0 + 1) c.from.result c.key_place-at.ensures refl c.from.ensures);
  spare = omega (arith, c.push.ensures.spare, c.push-in-loop-slot.ensures.spare, c.loop-slot.invariant.spare);
}
