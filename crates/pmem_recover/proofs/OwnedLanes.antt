-- Where owner words are apart, each lane may be mended.
use Rattle.std.proofs.Common.{◌≡◌, ℕ, ◌%◌, ◌<◌, ◌≤◌, List, length, arith}
use Rattle.image_layout.specs.declared.layout.TheConstants.{LANES}
use Rattle.image_layout.specs.EntryRules.{KeepsEntryRules}
use Rattle.image_layout.specs.Owners.{lane_owner, OwnersAreApart}
use Rattle.heap_palloc.specs.Calls.{KeepsHeapRules}
use Rattle.heap_palloc.proofs.Dests.{dest_place}
use Rattle.heap_palloc.proofs.OwnedDests.{lane_dest}
use Rattle.shown_state.specs.LaneRules.{MayMend}
use Rattle.pmem_recover.specs.LaneStep.{IsApartImage}

pub may_mend : (words : List ℕ) (lane : ℕ) → KeepsEntryRules words → OwnersAreApart words → length words % 32768 ≡ 0 → 32768 ≤ length words → lane < 16 → MayMend words lane
may_mend words lane entry apart whole some lt =
    let rules : KeepsHeapRules words = record { reserved = entry.reserved; descriptors = entry.descriptors; bitmaps = entry.bitmaps } in
    record {
      rules = record { heap = rules; lanes = entry.lanes };
      lane_is = lt;
      lanes = omega (arith, some);
      owner_is = λ frees. (dest_place words whole some rules (lane_owner words lane) (lane_dest words lane entry apart lt (λ idle. omega (arith, frees, idle)))).owner_is;
    }

pub image_may_mend : (words : List ℕ) (lane : ℕ) → IsApartImage words → lane < LANES → MayMend words lane
image_may_mend words lane is lt =
    let some = is.some in
    may_mend words lane is.rules is.owners is.segments (omega (arith, some)) (omega (arith, lt))
