use Rattle.std.proofs.Common.{◌≡◌, ℕ, ◌/◌, ◌%◌, ◌^◌, ◌<◌, true, ltb}
use Rattle.image_layout.specs.Blocks.{inside_at, slots_of, is_small_page, class_of, bitmap_of}
use Rattle.image_rules.proofs.heap_rules.bitmap_fault.Given as goal

abbrev pub invariant-loop-page : goal.invariant-loop-page
invariant-loop-page l =
    record {
      inside : l.inside ≡ inside_at l.words (l.page / 64) (l.page % 64);
      each : (x : ℕ) → x < l.page → is_small_page l.words x ≡ true → ltb (bitmap_of l.words x) (2 ^ slots_of (class_of l.words x)) ≡ true;
    }
