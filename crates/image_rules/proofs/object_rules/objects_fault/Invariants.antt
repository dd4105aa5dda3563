use Rattle.std.proofs.Common.{◌≡◌, ℕ, ◌<◌}
use Rattle.std.specs.Prelude.{None}
use Rattle.image_layout.specs.Checks.{first_failing}
use Rattle.image_layout.specs.EntryRules.{object_rule}
use Rattle.image_rules.proofs.object_rules.objects_fault.Given as goal

abbrev pub invariant-loop-object : goal.invariant-loop-object
invariant-loop-object l = (x : ℕ) → x < l.object → first_failing (object_rule x l.words) ≡ None
