use Rattle.std.proofs.Common.{◌≡◌, ℕ, ◌<◌, List, length, get_or, ◌∙◌, ap, arith}
use Rattle.image_layout.specs.Fixed.{table_count_at}
use Rattle.image_layout.specs.Tables.{table_count}
use Rattle.pmem_recover.specs.Changes.{change, change_part}
use Rattle.pmem_recover.specs.Undo.{words_at}
use Rattle.pmem_recover.proofs.Undoing.{bounds-next, bound-is, raised, within-push}
use Rattle.pmem_recover.proofs.UndoRules.{tables-few, table-pointer, table-within, named-block}
use Rattle.pmem_recover.proofs.undo.push_bounds.Goals as goal

count_is : (words : List ℕ) (end at : ℕ) → end ≡ get_or words at 0 → at ≡ table_count_at → end ≡ table_count words
count_is words end at is here = is ∙ ap (λ (k : ℕ). get_or words k 0) here

pub overflow_cast-table : goal.overflow_cast-table
overflow_cast-table g c =
    let words : List ℕ = (g.M.Memory.device c.args.mem.now).cached in
    let few = tables-few words c.requires.rules in
    let count = count_is words c.load-table-end.result c.table_count.result.0 c.load-table-end.ensures c.table_count.ensures in
    omega (arith, few, count, c.loop-table-test.true)

pub table_slot-requires : goal.table_slot-requires
table_slot-requires g c =
    let words : List ℕ = (g.M.Memory.device c.args.mem.now).cached in
    let few = tables-few words c.requires.rules in
    let count = count_is words c.load-table-end.result c.table_count.result.0 c.load-table-end.ensures c.table_count.ensures in
    omega (arith, few, count, c.loop-table-test.true)

pub named_place-requires-clause-at : goal.named_place-requires-clause-at
named_place-requires-clause-at g c =
    let words : List ℕ = (g.M.Memory.device c.args.mem.now).cached in
    let few = tables-few words c.requires.rules in
    let count = count_is words c.load-table-end.result c.table_count.result.0 c.load-table-end.ensures c.table_count.ensures in
    omega (arith, few, count, c.loop-table-test.true, c.table_slot.ensures, (g.met.M.Memory.whole c.args.mem.now).one_or_more)

pub named_place-requires-clause-pointer : goal.named_place-requires-clause-pointer
named_place-requires-clause-pointer g c =
    let words : List ℕ = (g.M.Memory.device c.args.mem.now).cached in
    let few = tables-few words c.requires.rules in
    let count = count_is words c.load-table-end.result c.table_count.result.0 c.load-table-end.ensures c.table_count.ensures in
    table-pointer words c.requires.rules c.loop-table.table c.table_slot.result.0 (omega (arith, count, c.loop-table-test.true)) c.table_slot.ensures

pub load-requires : goal.load-requires
load-requires g c =
    let words : List ℕ = (g.M.Memory.device c.args.mem.now).cached in
    let few = tables-few words c.requires.rules in
    let count = count_is words c.load-table-end.result c.table_count.result.0 c.load-table-end.ensures c.table_count.ensures in
    let lt : c.loop-table.table < table_count words = omega (arith, count, c.loop-table-test.true) in
    let block = named-block words c.loop-table.table c.named_place.result.0 c.table_slot.result.0 c.named_place.ensures.place c.table_slot.ensures in
    let within = table-within words c.requires.rules c.loop-table.table c.named_place.result.0 (g.met.M.Memory.whole c.args.mem.now).segments lt block in
    omega (arith, within, c.high-place.ensures)

pub push_reserved-requires : goal.push_reserved-requires
push_reserved-requires g c =
    let words : List ℕ = (g.M.Memory.device c.args.mem.now).cached in
    let few = tables-few words c.requires.rules in
    let count = count_is words c.load-table-end.result c.table_count.result.0 c.load-table-end.ensures c.table_count.ensures in
    omega (arith, few, count, c.loop-table-test.true, c.loop-table.invariant.len, c.loop-table.invariant.capacity, c.requires.room)

pub loop-table-preserved : goal.loop-table-preserved
loop-table-preserved g c =
    let words : List ℕ = (g.M.Memory.device c.args.mem.now).cached in
    let few = tables-few words c.requires.rules in
    let count = count_is words c.load-table-end.result c.table_count.result.0 c.load-table-end.ensures c.table_count.ensures in
    let lt : c.loop-table.table < table_count words = omega (arith, count, c.loop-table-test.true) in
    let block = named-block words c.loop-table.table c.named_place.result.0 c.table_slot.result.0 c.named_place.ensures.place c.table_slot.ensures in
    record {
      part = bounds-next (raised words (words_at words c.args.entries.now)) c.loop-table.table c.high-place.result c.max.result (change_part c.args.changes.now.items) c.loop-table.changes.items c.push_reserved.new.self.items
          c.loop-table.invariant.part c.push_reserved.ensures.items
          (bound-is words (words_at words c.args.entries.now) c.loop-table.table c.high-place.result.0 c.named_place.result.0 c.max.result c.load.result c.row_bound-bound.result c.high-place.ensures block c.max.ensures c.load.ensures c.row_bound-bound.ensures);
      within = let inside = table-within words c.requires.rules c.loop-table.table c.named_place.result.0 (g.met.M.Memory.whole c.args.mem.now).segments lt block in
          within-push (length words) c.loop-table.changes.items c.push_reserved.new.self.items (change c.high-place.result.0 c.max.result) c.push_reserved.ensures.items (omega (arith, inside, c.high-place.ensures)) c.loop-table.invariant.within;
      len = omega (arith, c.push_reserved.ensures.len, c.loop-table.invariant.len);
      capacity = c.push_reserved.ensures.capacity ∙ c.loop-table.invariant.capacity;
    }

pub returns-clause-len : goal.returns-clause-len
returns-clause-len g c =
    let words : List ℕ = (g.M.Memory.device c.args.mem.now).cached in
    let few = tables-few words c.requires.rules in
    let count = count_is words c.load-table-end.result c.table_count.result.0 c.load-table-end.ensures c.table_count.ensures in
    omega (arith, few, count, c.loop-table.auto.table-end, c.loop-table.invariant.len)
