use Rattle.std.proofs.Common.{◌≡◌, false}
use Rattle.std.specs.List.{list_any}
use Rattle.image_rules.specs.BuiltTrees.{has_key}
use Rattle.image_rules.specs.Parts.{before_of}
use Rattle.image_rules.proofs.pair_rules.is_key_before.Given as goal

abbrev pub invariant-loop-slot : goal.invariant-loop-slot
invariant-loop-slot l = list_any (has_key l.words l.leaf l.key) (before_of (λ slot. slot) l.slot) ≡ false
