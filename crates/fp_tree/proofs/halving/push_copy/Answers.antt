use Rattle.std.proofs.Common.{false, ℕ, List, drop, refl, arith}
use Rattle.pm_model.proofs.Lines.{part_has_room}
use Rattle.shown_state.specs.Mending.{slots_by_key}
use Rattle.fp_tree.proofs.Copied.{all_pairs, copied_part, copied_size, copy_is}
use Rattle.fp_tree.proofs.PutIn.{part_spare}
use Rattle.fp_tree.proofs.halving.push_copy.Goals as goal

pub push_pairs-requires-clause-full : goal.push_pairs-requires-clause-full
push_pairs-requires-clause-full g c = all_pairs (g.M.Memory.device c.args.mem.now).cached c.args.leaf.0 c.requires.full c.args.sorted.now.pairs c.requires.sorted

pub push_prints-requires-clause-full : goal.push_prints-requires-clause-full
push_prints-requires-clause-full g c = all_pairs (g.M.Memory.device c.args.mem.now).cached c.args.leaf.0 c.requires.full c.args.sorted.now.pairs c.requires.sorted

pub end_part-requires-clause-count : goal.end_part-requires-clause-count
end_part-requires-clause-count g c =
    let words : List ℕ = (g.M.Memory.device c.args.mem.now).cached in
    let all = copy_is words c.args.leaf.0 c.requires.full c.args.sorted.now.pairs c.requires.sorted c.args.new.0 c.args.plan.now.left c.push_pairs.new.plan.left c.push_prints.new.plan.left c.push.new.self.left c.push-2.new.self.left _ _ c.load.result
    c.push_pairs.ensures.left c.push_prints.ensures.left c.push.ensures.left c.push-2.ensures.left refl refl c.load.ensures in
    let size = copied_size words c.args.leaf.0 c.args.new.0 (drop 24 (slots_by_key words false c.args.leaf.0)) c.args.plan.now.left c.push-2.new.self.left all in
    omega (arith, size)

pub end_part-requires-clause-room : goal.end_part-requires-clause-room
end_part-requires-clause-room g c =
    part_has_room c.push-2.new.self.left 56 c.push-2.new.self.spare (end_part-requires-clause-count g c)
    (omega (arith, c.push_pairs.ensures.spare, c.push_prints.ensures.spare, c.push.ensures.spare, c.push-2.ensures.spare, c.requires.room))

pub returns-clause-left : goal.returns-clause-left
returns-clause-left g c =
    let words : List ℕ = (g.M.Memory.device c.args.mem.now).cached in
    let all = copy_is words c.args.leaf.0 c.requires.full c.args.sorted.now.pairs c.requires.sorted c.args.new.0 c.args.plan.now.left c.push_pairs.new.plan.left c.push_prints.new.plan.left c.push.new.self.left c.push-2.new.self.left _ _ c.load.result
    c.push_pairs.ensures.left c.push_prints.ensures.left c.push.ensures.left c.push-2.ensures.left refl refl c.load.ensures in
    copied_part words c.args.leaf.0 c.args.new.0 (drop 24 (slots_by_key words false c.args.leaf.0)) c.args.plan.now.left c.push-2.new.self.left c.end_part.new.self.left all c.end_part.ensures.left

pub returns-clause-spare : goal.returns-clause-spare
returns-clause-spare g c =
    let words : List ℕ = (g.M.Memory.device c.args.mem.now).cached in
    let all = copy_is words c.args.leaf.0 c.requires.full c.args.sorted.now.pairs c.requires.sorted c.args.new.0 c.args.plan.now.left c.push_pairs.new.plan.left c.push_prints.new.plan.left c.push.new.self.left c.push-2.new.self.left _ _ c.load.result
    c.push_pairs.ensures.left c.push_prints.ensures.left c.push.ensures.left c.push-2.ensures.left refl refl c.load.ensures in
    let size = copied_size words c.args.leaf.0 c.args.new.0 (drop 24 (slots_by_key words false c.args.leaf.0)) c.args.plan.now.left c.push-2.new.self.left all in
    let rest = part_spare c.push-2.new.self.left 56 c.push-2.new.self.spare c.end_part.new.self.spare (omega (arith, size)) c.end_part.ensures.spare in
    omega (arith, rest, c.push_pairs.ensures.spare, c.push_prints.ensures.spare, c.push.ensures.spare, c.push-2.ensures.spare)
