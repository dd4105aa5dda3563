-- Where owner words are apart, each transaction object has its segments, and may be extended.
use Rattle.std.proofs.Common.{◌≡◌, ℕ, ◌<◌, List, get_or, subst, arith}
use Rattle.std.specs.Prelude.{Contains}
use Rattle.image_layout.specs.Fixed.{lane_op_at}
use Rattle.image_layout.specs.Blocks.{Block, live_blocks}
use Rattle.image_layout.specs.EntryRules.{KeepsEntryRules}
use Rattle.image_layout.specs.Objects.{ready_count, segment_of}
use Rattle.image_layout.specs.Owners.{OwnersAreApart}
use Rattle.image_layout.proofs.OwnersApart.{LiveAt}
use Rattle.image_layout.proofs.OwnedBlocks.{one_object, ready_named, segment_live, segments_apart}
use Rattle.heap_palloc.specs.Index.{HeapIndex, IsIndexOf}
use Rattle.txn_object.specs.Calls.{MayPlanExtension}
use Rattle.txn_object.specs.Extension.{HasSegments, segment_block}

pub segment_is_live : (words : List ℕ) (place : ℕ) → LiveAt words place 256 → Contains (live_blocks words) (segment_block place)
segment_is_live words place at =
    let same : at.block ≡ segment_block place = λ i. record { first = at.first i; words = at.size i } in
    subst (λ (block : Block). Contains (live_blocks words) block) same at.live

pub has_segments : (words : List ℕ) (object : ℕ) → KeepsEntryRules words → OwnersAreApart words → object < 16 → HasSegments words object
has_segments words object entry apart number =
    let rule = one_object words object entry.objects number in
    record {
      rules = record { reserved = entry.reserved; descriptors = entry.descriptors; bitmaps = entry.bitmaps };
      rule = rule;
      live = λ segment lt. segment_is_live words (segment_of words object segment)
          (segment_live words entry.reserved entry.descriptors entry.table_count entry.table_slots apart object number rule segment (omega (arith, lt)) (ready_named words object segment rule lt));
    }

pub may_extend : (words : List ℕ) (index : HeapIndex) (object : ℕ) → KeepsEntryRules words → OwnersAreApart words → object < 16
    → IsIndexOf words index → get_or words (lane_op_at object) 0 ≡ 0 → MayPlanExtension words index object
may_extend words index object entry apart number index_of idle =
    let rule = one_object words object entry.objects number in
    let ready = ready_count words object in
    record {
      segments = has_segments words object entry apart number;
      index_of = index_of;
      idle = idle;
      owned = λ few some. record {
        live = segment_is_live words (segment_of words object ready)
            (segment_live words entry.reserved entry.descriptors entry.table_count entry.table_slots apart object number rule ready (omega arith) some);
        apart = λ segment lt. segments_apart words entry.reserved entry.descriptors entry.table_count entry.table_slots apart object number rule segment ready lt (omega arith) some;
      };
    }
