-- Where owner words are apart, the owner's word of a lane at work may hold a block's pointer.
use Rattle.std.proofs.Common.{◌≢◌, inl, inr, ℕ, ◌<◌, not, eqb, List, get_or}
use Rattle.std.specs.Prelude.{Contains}
use Rattle.std.proofs.lemmas.Bool.{ne_eqb, not_from_false}
use Rattle.std.proofs.lemmas.List.Elements.{All-contains}
use Rattle.image_layout.specs.Fixed.{lane_op_at}
use Rattle.image_layout.specs.Places.{below}
use Rattle.image_layout.specs.EntryRules.{KeepsEntryRules}
use Rattle.image_layout.specs.Owners.{lane_owner, lane_targets, busy_lanes, OwnersAreApart}
use Rattle.image_layout.proofs.Members.{below-Contains, filter-Contains}
use Rattle.image_layout.proofs.OwnedBlocks.{IsOwnersPlace, target_place}
use Rattle.heap_palloc.specs.Calls.{IsDest}

is_dest : (words : List ℕ) (at : ℕ) → IsOwnersPlace words at → IsDest words at
is_dest words at (IsOwnersPlace.fixed low high lanes) = inl (low, high, lanes)
is_dest words at (IsOwnersPlace.inside block live low high) = inr (block, live, low, high)

pub lane_dest : (words : List ℕ) (lane : ℕ) → KeepsEntryRules words → OwnersAreApart words → lane < 16 → get_or words (lane_op_at lane) 0 ≢ 0 → IsDest words (lane_owner words lane)
lane_dest words lane entry apart lt busy =
    is_dest words (lane_owner words lane) (target_place words entry apart (lane_owner words lane)
    (All-contains (λ l. Contains (lane_targets words) (lane_owner words l)) (busy_lanes words) lane apart.targets
    (filter-Contains (λ l. not (eqb (get_or words (lane_op_at l) 0) 0)) (below 16) lane (below-Contains 16 lane lt)
    (not_from_false (eqb (get_or words (lane_op_at lane) 0) 0) (ne_eqb (get_or words (lane_op_at lane) 0) 0 busy)))))
