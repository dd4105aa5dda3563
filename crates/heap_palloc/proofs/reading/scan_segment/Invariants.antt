use Rattle.std.proofs.Common.{◌≡◌, ◌+◌, ◌*◌, ◌≤◌, ◌++◌, map}
use Rattle.std.specs.List.{range_with_len, filter}
use Rattle.std.specs.Vec.{vec_len, vec_capacity}
use Rattle.image_layout.specs.Blocks.{descriptor_of, inside_at, is_small_page}
use Rattle.heap_palloc.proofs.reading.scan_segment.Given as goal

abbrev pub invariant-loop-page : goal.invariant-loop-page
invariant-loop-page g l =
    record {
      inside : l.inside ≡ inside_at (g.M.Memory.device l.mem).cached l.segment l.page;
      descriptors : l.scan.descriptors.items ≡ l.fn.scan.descriptors.items ++ map (descriptor_of (g.M.Memory.device l.mem).cached) (range_with_len (64 * l.segment) l.page);
      small : l.scan.small.items ≡ l.fn.scan.small.items ++ filter (is_small_page (g.M.Memory.device l.mem).cached) (range_with_len (64 * l.segment) l.page);
      length : vec_len l.scan.descriptors ≡ vec_len l.fn.scan.descriptors + l.page;
      more : vec_len l.scan.small ≤ vec_len l.fn.scan.small + l.page;
      capacity : vec_capacity l.scan.descriptors ≡ vec_capacity l.fn.scan.descriptors;
      small_capacity : vec_capacity l.scan.small ≡ vec_capacity l.fn.scan.small;
    }
