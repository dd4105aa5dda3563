-- In an intact image the next extension of each object may be planned.
use Rattle.std.proofs.Common.{◌≡◌, ℕ, ◌<◌, List, get_or}
use Rattle.std.proofs.lemmas.Bool.{eqb-true}
use Rattle.std.proofs.lemmas.List.Elements.{All-contains}
use Rattle.image_layout.specs.Fixed.{lane_op_at}
use Rattle.image_layout.specs.Places.{below}
use Rattle.image_layout.specs.SoundRules.{zero_check, idle_rule, IsIntact}
use Rattle.image_layout.proofs.Heap.{Holds}
use Rattle.image_layout.proofs.Members.{below-Contains, map-Contains}
use Rattle.image_layout.proofs.SoundApart.{intact_apart}
use Rattle.heap_palloc.specs.Index.{HeapIndex, IsIndexOf}
use Rattle.txn_object.specs.Calls.{MayPlanExtension}
use Rattle.txn_object.proofs.OwnedSegments.{may_extend}

lane_idle : (words : List ℕ) → IsIntact words → (lane : ℕ) → lane < 16 → get_or words (lane_op_at lane) 0 ≡ 0
unfolding idle_rule
lane_idle words intact lane number = eqb-true (get_or words (lane_op_at lane) 0) 0
    (All-contains Holds (idle_rule words) (zero_check words (lane_op_at lane)) intact.idle.checks (map-Contains (λ l. zero_check words (lane_op_at l)) (below 16) lane (below-Contains 16 lane number)))

pub intact_extends : (words : List ℕ) → IsIntact words → (object : ℕ) → object < 16 → (index : HeapIndex) → IsIndexOf words index → MayPlanExtension words index object
intact_extends words intact object number index is = may_extend words index object intact.entry (intact_apart words intact) number is (lane_idle words intact object number)
