-- Devices at rest as the tests have them.
use Rattle.std.specs.Prelude.{◌≡◌, ℕ, [], length}
use Rattle.pm_model.specs.Device.{Device, IsClean}
use Rattle.image_layout.specs.Objects.{entries, ready_count}
use Rattle.heap_palloc.specs.Index.{HeapIndex}
use Rattle.txn_object.specs.Object.{NoEntryFollowsZero}
use Rattle.txn_object.specs.Shown.{HasObject}
use Rattle.txn_object.specs.Calls.{MayPlanExtension}

-- the first transaction object has no entries and may be extended

pub record IsExtendable (d : Device) (index : HeapIndex) : Type 0 where
  pub may : MayPlanExtension d.cached index 0
  pub none : entries d.cached 0 ≡ []
  pub clean : (w : ℕ) → IsClean d w

-- the first transaction object has so many ready segments and so many entries, which no word that is 0 stands before,
-- and it may be extended
pub record HasEntries (d : Device) (ready count : ℕ) : Type 0 where
  pub is_object : HasObject d.cached 0
  pub ready_is : ready_count d.cached 0 ≡ ready
  pub count_is : length (entries d.cached 0) ≡ count
  pub packed : NoEntryFollowsZero d.cached 0
  pub extends : (index : HeapIndex) × MayPlanExtension d.cached index 0
  pub clean : (w : ℕ) → IsClean d w
