use Rattle.std.proofs.Common.{◌≡◌, ℕ, List, get_or, sym, ◌∙◌, ap, subst, arith}
use Rattle.std.specs.Prelude.{IsTrue}
use Rattle.image_layout.specs.Fixed.{table_slot_at}
use Rattle.image_layout.specs.Places.{is_pointer, place_in}
use Rattle.image_layout.specs.Tables.{table_block}
use Rattle.image_layout.proofs.TableSlots.{few_tables, one_table, table_in_image}
use Rattle.pmem_recover.proofs.version.count_columns.Goals as goal

pub table_slot-requires : goal.table_slot-requires
table_slot-requires g c =
    let few = few_tables (g.M.Memory.device c.args.mem.now).cached c.requires.tables in
    omega (arith, few, c.requires.published)

pub named_place-block-requires-clause-pointer : goal.named_place-block-requires-clause-pointer
named_place-block-requires-clause-pointer g c =
    let words : List ℕ = (g.M.Memory.device c.args.mem.now).cached in
    let points = one_table words c.args.table c.requires.tables c.requires.slots c.requires.published in
    subst (λ (at : ℕ). IsTrue (is_pointer words (get_or words at 0))) (sym c.table_slot.ensures) points.pointer

pub returns-clause-in_image : goal.returns-clause-in_image
returns-clause-in_image g c =
    let words : List ℕ = (g.M.Memory.device c.args.mem.now).cached in
    let points = one_table words c.args.table c.requires.tables c.requires.slots c.requires.published in
    let whole = (g.met.M.Memory.whole c.args.mem.now).segments in
    let fits = table_in_image words (get_or words (table_slot_at c.args.table) 0) whole points in
    let some = points.least in
    let block : c.named_place-block.result.0 ≡ table_block words c.args.table = c.named_place-block.ensures.place ∙ ap (λ (at : ℕ). place_in (get_or words at 0)) c.table_slot.ensures in
    omega (arith, c.inner_columns.ensures, block, fits, some)
