use Rattle.std.proofs.Common.{◌≡◌, [], sym, ◌∙◌, ap, arith}
use Rattle.std.proofs.lemmas.Result.{IfOk-weaker}
use Rattle.pm_model.specs.Plans.{plan_of}
use Rattle.pm_model.specs.Needed.{needed_parts}
use Rattle.shown_state.specs.Mending.{free_block}
use Rattle.pmem_recover.proofs.TableSlot.{no-slot, null-slot, doomed-slot, slot-pointer}
use Rattle.pmem_recover.proofs.slot.plan_slot.Goals as goal

pub returns-then-tables-from : goal.returns-then-tables-from
returns-then-tables-from g c =
    let words = (g.M.Memory.device c.args.mem.now).cached in
    IfOk-weaker c.with_room.result (λ plan. plan.left ≡ []) _ (λ plan empty. empty ∙ ap plan_of (sym (no-slot words c.load-tables.result c.table_count.result.0 c.table_count.ensures c.load-tables.ensures (omega (arith, c.if-tables-from.true, c.from.ensures))))) c.with_room.ensures.empty

pub returns-then-load-eq0 : goal.returns-then-load-eq0
returns-then-load-eq0 g c =
    let words = (g.M.Memory.device c.args.mem.now).cached in
    IfOk-weaker c.with_room-then-load-eq0.result (λ plan. plan.left ≡ []) _ (λ plan empty. empty
    ∙ ap plan_of (sym (null-slot words c.load-tables.result c.table_count.result.0 c.table_count.ensures c.load-tables.ensures (omega (arith, c.if-tables-from.false, c.from.ensures)) c.table_slot-slot.result.0 c.table_slot-slot.ensures (sym c.load.ensures ∙ c.if-load-eq0.true))))
    c.with_room-then-load-eq0.ensures.empty

pub plan_freeing-requires-clause-pointer : goal.plan_freeing-requires-clause-pointer
plan_freeing-requires-clause-pointer g c =
    slot-pointer (g.M.Memory.device c.args.mem.now).cached c.load-tables.result c.table_count.result.0 c.table_count.ensures c.load-tables.ensures (omega (arith, c.if-tables-from.false, c.from.ensures)) c.table_slot-slot.result.0 c.table_slot-slot.ensures
    c.requires (λ e. c.if-load-eq0.false (c.load.ensures ∙ e))

pub returns : goal.returns
returns g c =
    let words = (g.M.Memory.device c.args.mem.now).cached in
    IfOk-weaker c.plan_freeing.result (λ plan. plan.left ≡ plan_of (needed_parts words (free_block words c.table_slot-slot.result.0))) _ (λ plan is. is
    ∙ ap plan_of (sym (doomed-slot words c.load-tables.result c.table_count.result.0 c.table_count.ensures c.load-tables.ensures (omega (arith, c.if-tables-from.false, c.from.ensures)) c.table_slot-slot.result.0 c.table_slot-slot.ensures (λ e. c.if-load-eq0.false (c.load.ensures ∙ e)))))
    c.plan_freeing.ensures
