-- The images on which the tests grow an array whose header stands at place 2064.
use Rattle.std.specs.Prelude.{ℕ, ◌≤◌, List, length, slice_set}
use Rattle.pm_model.specs.Device.{Device, IsClean}
use Rattle.image_layout.specs.Fresh.{fresh_words}
use Rattle.heap_palloc.specs.Index.{HeapIndex}
use Rattle.seg_array.specs.Calls.{MayPlanGrowth}

-- A formatted image whose page 4 is a big block of words that are 0. Page 5 is free, and one of its words isn't 0.
abbrev pub test_image : ℕ → List ℕ
test_image segments = slice_set (slice_set (fresh_words segments) 4 17) 2600 9

-- The same once page 5 is a block that lane 0 allocated and the array owns, and no chunk is published.
abbrev pub owned_image : List ℕ
owned_image = slice_set (slice_set (slice_set (slice_set (test_image 1) 5 17) 577 4294969361) 578 4294969856) 2065
    4294969856

-- No plan is half played, and the next growth may be planned through lane 0.
pub record IsReady (d : Device) (index : HeapIndex) : Type 0 where
  pub may : MayPlanGrowth d.cached index 0 2064
  pub room : 2080 ≤ length d.cached
  pub clean : (w : ℕ) → IsClean d w
