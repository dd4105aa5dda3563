use Rattle.std.proofs.Common.{ℕ, List, ◌∙◌, subst}
use Rattle.image_layout.specs.Checks.{Keeps}
use Rattle.image_layout.specs.EntryRules.{table_count_rule, table_slot_rule, objects_rule}
use Rattle.shown_state.specs.LaneRules.{KeepsLaneRules}
use Rattle.pmem_recover.specs.Undo.{KeepsUndoRules}
use Rattle.pmem_recover.proofs.FirstFault.{entry-lanes, entry-undo}
use Rattle.power_cuts.proofs.Kept.{keeps_table_count, keeps_table_slots, keeps_objects}
use Rattle.power_cuts.proofs.opening.next_plan.Goals as goal

pub next_lane-requires : goal.next_lane-requires
next_lane-requires g c = subst KeepsLaneRules (c.deref.ensures.value ∙ c.in_ok-words.ensures.words) (entry-lanes c.deref.result.now c.in-Ok.ensures.sound)

pub next_slot-requires : goal.next_slot-requires
next_slot-requires g c =
    let P : List ℕ → Type 0 = λ words. Keeps words table_slot_rule in
    subst P (c.deref.ensures.value ∙ c.in_ok-words.ensures.words) (keeps_table_slots c.deref.result.now c.in-Ok.ensures.sound)

pub next_undo-requires : goal.next_undo-requires
next_undo-requires g c = subst KeepsUndoRules (c.deref.ensures.value ∙ c.in_ok-words.ensures.words) (entry-undo c.deref.result.now c.in-Ok.ensures.sound)

pub next_clear-requires : goal.next_clear-requires
next_clear-requires g c =
    let P : List ℕ → Type 0 = λ words. Keeps words objects_rule in
    subst P (c.deref.ensures.value ∙ c.in_ok-words.ensures.words) (keeps_objects c.deref.result.now c.in-Ok.ensures.sound)

pub next_version-requires-clause-tables : goal.next_version-requires-clause-tables
next_version-requires-clause-tables g c =
    let P : List ℕ → Type 0 = λ words. Keeps words table_count_rule in
    subst P (c.deref.ensures.value ∙ c.in_ok-words.ensures.words) (keeps_table_count c.deref.result.now c.in-Ok.ensures.sound)

pub next_version-requires-clause-slots : goal.next_version-requires-clause-slots
next_version-requires-clause-slots g c =
    let P : List ℕ → Type 0 = λ words. Keeps words table_slot_rule in
    subst P (c.deref.ensures.value ∙ c.in_ok-words.ensures.words) (keeps_table_slots c.deref.result.now c.in-Ok.ensures.sound)
