-- What the mending of a lane relies on.
use Rattle.std.specs.Prelude.{◌≡◌, ℕ, ◌<◌, ◌≤◌, List, length, slice_index}
use Rattle.image_layout.specs.Fixed.{lane_op_at, lane_dest_at}
use Rattle.image_layout.specs.Places.{place_in}
use Rattle.image_layout.specs.Checks.{Keeps}
use Rattle.image_layout.specs.HeapRules.{lane_rule}
use Rattle.heap_palloc.specs.Calls.{KeepsHeapRules}
use Rattle.heap_palloc.specs.Law.{IsOwnerPlace}

-- the rules 5 to 8
pub record KeepsLaneRules (words : List ℕ) : Type 0 where
  pub heap : KeepsHeapRules words
  pub lanes : Keeps words lane_rule

-- the rules, the words of the lanes, and where the lane frees, that its owner's word can be one
pub record MayMend (words : List ℕ) (lane : ℕ) : Type 0 where
  pub rules : KeepsLaneRules words
  pub lane_is : lane < 16
  pub lanes : 704 ≤ length words
  pub owner_is : slice_index words (lane_op_at lane) ≡ 2
      → IsOwnerPlace words (place_in (slice_index words (lane_dest_at lane)))
