use Rattle.std.proofs.Common.{rules}
use Rattle.image_rules.proofs.stamp_rules.is_commit.Goals as goal

pub returns-then-stamp-ge1 : goal.returns-then-stamp-ge1
returns-then-stamp-ge1 c = search rules
