use Rattle.std.proofs.Common.{arith}
use Rattle.image_rules.proofs.lane_rules.is_lane.Goals as goal

pub bounds-words-lane_op : goal.bounds-words-lane_op
bounds-words-lane_op c = omega arith

pub bounds-words-lane_dest : goal.bounds-words-lane_dest
bounds-words-lane_dest c = omega arith

pub bounds-words-lane_block : goal.bounds-words-lane_block
bounds-words-lane_block c = omega arith
