use Rattle.std.proofs.Common.{◌≡◌, ℕ, ◌<◌, true, eqb, get_or}
use Rattle.image_layout.specs.Fixed.{descriptor_at}
use Rattle.image_layout.specs.Blocks.{is_reserved}
use Rattle.image_rules.proofs.heap_rules.reserved_fault.Given as goal

abbrev pub invariant-loop-page : goal.invariant-loop-page
invariant-loop-page l = (x : ℕ) → x < l.page → is_reserved x ≡ true → eqb (get_or l.words (descriptor_at x) 0) 8 ≡ true
