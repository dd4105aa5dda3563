-- What the measured program keeps from turn to turn.
use Rattle.std.specs.Prelude.{◌≡◌, ◌≢◌, ℕ, ◌<◌, ◌≤◌, slice_index}
use Rattle.pm_model.specs.Device.{Device, IsClean}
use Rattle.image_layout.specs.Fixed.{lane_op_at}
use Rattle.image_layout.specs.Blocks.{Block}
use Rattle.heap_palloc.specs.Index.{HeapIndex}
use Rattle.heap_palloc.specs.Calls.{IsSettled, OwnsBlock}

-- an owner: a word behind the lanes in pages 1 to 3
abbrev pub IsOwner : ℕ → Type 0
IsOwner w = (704 ≤ w) × (w < 2048)

-- The heap is settled, lane 0 is idle, and each owner that isn't 0 owns a block, no two of them the same.
pub record IsInUse (d : Device) (index : HeapIndex) : Type 0 where
  pub settled : IsSettled d index
  pub idle : slice_index d.cached (lane_op_at 0) ≡ 0
  pub owned : (w : ℕ) → IsOwner w → slice_index d.cached w ≢ 0 → (block : Block) × OwnsBlock d.cached w block
  pub apart : (v w : ℕ) → IsOwner v → IsOwner w → v ≢ w → slice_index d.cached v ≢ 0
      → slice_index d.cached v ≢ slice_index d.cached w

-- each word is durable
pub record IsAtRest (d : Device) : Type 0 where
  pub clean : (w : ℕ) → IsClean d w
