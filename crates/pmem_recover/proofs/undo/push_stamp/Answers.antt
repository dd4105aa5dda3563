use Rattle.std.proofs.Common.{◌≡◌, ℕ, ◌<◌, List, length, ◌∙◌, ap, arith}
use Rattle.image_layout.specs.Fixed.{table_slot_at}
use Rattle.image_layout.specs.Objects.{entry_table}
use Rattle.image_layout.specs.Tables.{table_count}
use Rattle.txn_object.specs.declared.entry.Entry.{Entry}
use Rattle.pmem_recover.proofs.Undoing.{within-push}
use Rattle.pmem_recover.proofs.UndoRules.{tables-few, table-pointer, table-within, keeps-created, keeps-ended, entry-parts, named-block}
use Rattle.pmem_recover.proofs.undo.push_stamp.Goals as goal

pub overflow_cast-entry : goal.overflow_cast-entry
overflow_cast-entry g c =
    let words : List ℕ = (g.M.Memory.device c.args.mem.now).cached in
    let table : c.of_word-entry.result.table ≡ entry_table c.args.word = ap (λ (entry : Entry). entry.table) c.of_word-entry.ensures in
    let lt : entry_table c.args.word < table_count words = (entry-parts words c.args.word c.requires.entry).table in
    let few = tables-few words c.requires.rules in
    omega (arith, lt, few, table)

pub table_slot-requires : goal.table_slot-requires
table_slot-requires g c =
    let words : List ℕ = (g.M.Memory.device c.args.mem.now).cached in
    let table : c.of_word-entry.result.table ≡ entry_table c.args.word = ap (λ (entry : Entry). entry.table) c.of_word-entry.ensures in
    let lt : entry_table c.args.word < table_count words = (entry-parts words c.args.word c.requires.entry).table in
    let few = tables-few words c.requires.rules in
    omega (arith, lt, few, table)

pub named_place-table-requires-clause-at : goal.named_place-table-requires-clause-at
named_place-table-requires-clause-at g c =
    let words : List ℕ = (g.M.Memory.device c.args.mem.now).cached in
    let table : c.of_word-entry.result.table ≡ entry_table c.args.word = ap (λ (entry : Entry). entry.table) c.of_word-entry.ensures in
    let slot = c.table_slot.ensures ∙ ap (λ (entry : Entry). table_slot_at entry.table) c.of_word-entry.ensures in
    let lt : entry_table c.args.word < table_count words = (entry-parts words c.args.word c.requires.entry).table in
    let few = tables-few words c.requires.rules in
    omega (arith, lt, few, slot, (g.met.M.Memory.whole c.args.mem.now).one_or_more)

pub named_place-table-requires-clause-pointer : goal.named_place-table-requires-clause-pointer
named_place-table-requires-clause-pointer g c =
    let words : List ℕ = (g.M.Memory.device c.args.mem.now).cached in
    let slot = c.table_slot.ensures ∙ ap (λ (entry : Entry). table_slot_at entry.table) c.of_word-entry.ensures in
    table-pointer words c.requires.rules (entry_table c.args.word) c.table_slot.result.0 (entry-parts words c.args.word c.requires.entry).table slot

pub place_of-place-requires-clause-header : goal.place_of-place-requires-clause-header
place_of-place-requires-clause-header g c =
    let words : List ℕ = (g.M.Memory.device c.args.mem.now).cached in
    let slot = c.table_slot.ensures ∙ ap (λ (entry : Entry). table_slot_at entry.table) c.of_word-entry.ensures in
    let block = named-block words (entry_table c.args.word) c.named_place-table.result.0 c.table_slot.result.0 c.named_place-table.ensures.place slot in
    let within = table-within words c.requires.rules (entry_table c.args.word) c.named_place-table.result.0 (g.met.M.Memory.whole c.args.mem.now).segments (entry-parts words c.args.word c.requires.entry).table block in
    omega (arith, within, c.created_header.ensures)

pub place_of-place-requires-clause-rule : goal.place_of-place-requires-clause-rule
place_of-place-requires-clause-rule g c =
    let words : List ℕ = (g.M.Memory.device c.args.mem.now).cached in
    let slot = c.table_slot.ensures ∙ ap (λ (entry : Entry). table_slot_at entry.table) c.of_word-entry.ensures in
    let block = named-block words (entry_table c.args.word) c.named_place-table.result.0 c.table_slot.result.0 c.named_place-table.ensures.place slot in
    keeps-created words c.requires.rules (entry_table c.args.word) c.named_place-table.result.0 c.created_header.result.0 (entry-parts words c.args.word c.requires.entry).table block c.created_header.ensures

pub place_of-place-requires-in-Ended-clause-header : goal.place_of-place-requires-in-Ended-clause-header
place_of-place-requires-in-Ended-clause-header g c =
    let words : List ℕ = (g.M.Memory.device c.args.mem.now).cached in
    let slot = c.table_slot.ensures ∙ ap (λ (entry : Entry). table_slot_at entry.table) c.of_word-entry.ensures in
    let block = named-block words (entry_table c.args.word) c.named_place-table.result.0 c.table_slot.result.0 c.named_place-table.ensures.place slot in
    let within = table-within words c.requires.rules (entry_table c.args.word) c.named_place-table.result.0 (g.met.M.Memory.whole c.args.mem.now).segments (entry-parts words c.args.word c.requires.entry).table block in
    omega (arith, within, c.ended_header.ensures)

pub place_of-place-requires-in-Ended-clause-rule : goal.place_of-place-requires-in-Ended-clause-rule
place_of-place-requires-in-Ended-clause-rule g c =
    let words : List ℕ = (g.M.Memory.device c.args.mem.now).cached in
    let slot = c.table_slot.ensures ∙ ap (λ (entry : Entry). table_slot_at entry.table) c.of_word-entry.ensures in
    let block = named-block words (entry_table c.args.word) c.named_place-table.result.0 c.table_slot.result.0 c.named_place-table.ensures.place slot in
    keeps-ended words c.requires.rules (entry_table c.args.word) c.named_place-table.result.0 c.ended_header.result.0 (entry-parts words c.args.word c.requires.entry).table block c.ended_header.ensures

pub returns-then-stamp-eq0-clause-within : goal.returns-then-stamp-eq0-clause-within
returns-then-stamp-eq0-clause-within g c all = within-push (length (g.M.Memory.device c.args.mem.now).cached) c.args.changes.now.items c.push_reserved.new.self.items _ c.push_reserved.ensures.items c.place_of-place.ensures.in_image all

pub returns-then-last-load-clause-within : goal.returns-then-last-load-clause-within
returns-then-last-load-clause-within g c all = within-push (length (g.M.Memory.device c.args.mem.now).cached) c.args.changes.now.items c.push_reserved-then-last-load.new.self.items _ c.push_reserved-then-last-load.ensures.items c.place_of-place-in-Ended.ensures.in_image all
