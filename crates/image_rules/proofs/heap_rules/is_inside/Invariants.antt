use Rattle.std.proofs.Common.{◌≡◌, ◌/◌, ◌%◌}
use Rattle.image_layout.specs.Blocks.{inside_at}
use Rattle.image_rules.proofs.heap_rules.is_inside.Given as goal

abbrev pub invariant-loop-before : goal.invariant-loop-before
invariant-loop-before l = l.inside ≡ inside_at l.words (l.before / 64) (l.before % 64)
