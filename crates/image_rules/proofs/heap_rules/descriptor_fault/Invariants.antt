use Rattle.std.proofs.Common.{◌≡◌, ℕ, ◌/◌, ◌%◌, ◌<◌, true, not, ◌&&◌, get_or}
use Rattle.image_layout.specs.Fixed.{descriptor_at}
use Rattle.image_layout.specs.Blocks.{inside_at, is_inside, is_reserved}
use Rattle.image_layout.specs.HeapRules.{is_descriptor}
use Rattle.image_rules.proofs.heap_rules.descriptor_fault.Given as goal

abbrev pub invariant-loop-page : goal.invariant-loop-page
invariant-loop-page l =
    record {
      inside : l.inside ≡ inside_at l.words (l.page / 64) (l.page % 64);
      each : (x : ℕ) → x < l.page → (not (is_reserved x) && not (is_inside l.words x)) ≡ true → is_descriptor x (get_or l.words (descriptor_at x) 0) ≡ true;
    }
