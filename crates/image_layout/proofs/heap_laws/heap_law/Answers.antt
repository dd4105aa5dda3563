use Rattle.image_layout.proofs.Heap.{live_blocks_apart, free_pages_unused}
use Rattle.image_layout.proofs.heap_laws.heap_law.Goals as goal

pub returns : goal.returns
returns c = record { apart = live_blocks_apart; free = free_pages_unused }
