use Rattle.std.proofs.Common.{◌≡◌, ℕ, ◌<◌, ◌++◌, true}
use Rattle.std.specs.Prelude.{Contains}
use Rattle.std.specs.List.{filter}
use Rattle.std.specs.Vec.{vec_len}
use Rattle.image_layout.specs.Places.{page_count}
use Rattle.image_layout.specs.Blocks.{is_small_page}
use Rattle.heap_big.specs.Pages.{IsRising}
use Rattle.heap_palloc.specs.Index.{has_room, rooms_of, pages_with_room}
use Rattle.heap_palloc.proofs.reading.add_rooms.Given as goal

abbrev pub invariant-loop-page : goal.invariant-loop-page
invariant-loop-page g l =
    record {
      bound : ℕ;
      small_rises : IsRising 0 l.small.items bound;
      rooms_rise : (class : ℕ) → class < 6 → IsRising bound (rooms_of l.heap class) 8192;
      rooms : (class : ℕ) → class < 6 → filter (has_room (g.M.Memory.device l.mem).cached class) l.small.items ++ rooms_of l.heap class ≡ pages_with_room (g.M.Memory.device l.mem).cached class;
      are_small : (page : ℕ) → Contains l.small.items page → (page < page_count (g.M.Memory.device l.mem).cached) × (is_small_page (g.M.Memory.device l.mem).cached page ≡ true);
      free : l.heap.free ≡ l.fn.heap.free;
    }

abbrev pub decreases-loop-page : goal.decreases-loop-page
decreases-loop-page g l = vec_len l.small
