-- A change that the mending of a lane or the freeing of a block makes.
use Rattle.std.specs.Prelude.{ℕ, List}
use Rattle.heap_palloc.specs.Lane.{mark_at}
use Rattle.shown_state.specs.Mending.{cleared_mark}
use Rattle.pmem_recover.specs.declared.change.WordChange.{WordChange}
use Rattle.pmem_recover.specs.Changes.{change}

-- the block's mark is cleared: its bit in the bitmap, or the head's descriptor
abbrev pub release : List ℕ → ℕ → WordChange
release words block = change (mark_at block) (cleared_mark words block)
