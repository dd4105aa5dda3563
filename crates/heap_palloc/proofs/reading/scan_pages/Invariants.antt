use Rattle.std.proofs.Common.{◌≡◌, ◌*◌, ◌≤◌, map}
use Rattle.std.specs.List.{range_with_len, filter}
use Rattle.std.specs.Vec.{vec_len, vec_capacity}
use Rattle.image_layout.specs.Places.{page_count}
use Rattle.image_layout.specs.Blocks.{descriptor_of, is_small_page}
use Rattle.heap_palloc.proofs.reading.scan_pages.Given as goal

abbrev pub invariant-loop-segment : goal.invariant-loop-segment
invariant-loop-segment g l =
    record {
      descriptors : l.scan.descriptors.items ≡ map (descriptor_of (g.M.Memory.device l.mem).cached) (range_with_len 0 (64 * l.segment));
      small : l.scan.small.items ≡ filter (is_small_page (g.M.Memory.device l.mem).cached) (range_with_len 0 (64 * l.segment));
      length : vec_len l.scan.descriptors ≡ 64 * l.segment;
      more : vec_len l.scan.small ≤ 64 * l.segment;
      capacity : page_count (g.M.Memory.device l.mem).cached ≤ vec_capacity l.scan.descriptors;
      small_capacity : page_count (g.M.Memory.device l.mem).cached ≤ vec_capacity l.scan.small;
    }
