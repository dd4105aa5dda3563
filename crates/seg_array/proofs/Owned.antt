-- Where owner words are apart, the arrays of a published table may grow.
use Rattle.std.proofs.Common.{◌≡◌, ℕ, ◌<◌, List, get_or, subst, arith}
use Rattle.std.specs.Prelude.{Contains}
use Rattle.image_layout.specs.Fixed.{lane_op_at}
use Rattle.image_layout.specs.Places.{place_in}
use Rattle.image_layout.specs.Arrays.{chunk_count, chunk_words}
use Rattle.image_layout.specs.Blocks.{Block, live_blocks}
use Rattle.image_layout.specs.EntryRules.{KeepsEntryRules}
use Rattle.image_layout.specs.Owners.{OwnersAreApart}
use Rattle.image_layout.specs.Tables.{table_count, table_block, array_headers}
use Rattle.image_layout.proofs.OwnersApart.{LiveAt}
use Rattle.image_layout.proofs.OwnedBlocks.{one_array, header_inside, chunk_live, chunk_apart}
use Rattle.heap_palloc.specs.Index.{HeapIndex, IsIndexOf}
use Rattle.seg_array.specs.Calls.{MayPlanGrowth}
use Rattle.seg_array.specs.Growth.{next_pointer_at}

-- the block as a record
pub is_live_block : (words : List ℕ) (place count : ℕ) → LiveAt words place count → Contains (live_blocks words) (record { first = place; words = count })
is_live_block words place count at =
    let same : at.block ≡ record { first = place; words = count } = λ i. record { first = at.first i; words = at.size i } in
    subst (λ (block : Block). Contains (live_blocks words) block) same at.live

pub may_grow : (words : List ℕ) (index : HeapIndex) (lane table header : ℕ) → KeepsEntryRules words → OwnersAreApart words → table < table_count words → Contains (array_headers words (table_block words table)) header
    → IsIndexOf words index → lane < 16 → get_or words (lane_op_at lane) 0 ≡ 0 → MayPlanGrowth words index lane header
may_grow words index lane table header entry apart published is index_of lane_is idle =
    let inside = header_inside words entry.reserved entry.descriptors entry.table_count entry.table_slots apart table header published is in
    let first = inside.live.first in let size = inside.live.size in let low = inside.low in let high = inside.high in
    let count = chunk_count words header in
    record {
      rules = record { reserved = entry.reserved; descriptors = entry.descriptors; bitmaps = entry.bitmaps };
      index_of = index_of;
      rule = one_array words table header entry.arrays published is;
      lane_is = lane_is;
      idle = idle;
      header_is = record { block = inside.live.block; live = inside.live.live; begins = omega (arith, first, low); ends = omega (arith, first, size, high) };
      owned = λ few some. record {
        live = is_live_block words (place_in (get_or words (next_pointer_at words header) 0)) (chunk_words count)
            (chunk_live words entry.reserved entry.descriptors entry.table_count entry.table_slots apart table header published is count (omega arith) few some);
        apart = chunk_apart words entry.reserved entry.descriptors entry.table_count entry.table_slots apart table header published is count (omega arith) few some;
      };
    }
