use Rattle.std.proofs.Common.{rules}
use Rattle.image_rules.proofs.stamp_rules.is_ended.Goals as goal

pub returns-then-is_commit-2 : goal.returns-then-is_commit-2
returns-then-is_commit-2 c = search rules
