use Rattle.std.proofs.Common.{◌∙◌, ◌<◌, ℕ, ◌++◌, [], ◌∷◌, List, length, map, get_or, sym, ap, arith}
use Rattle.image_layout.specs.Places.{below}
use Rattle.image_layout.specs.Tables.{table_count}
use Rattle.image_layout.proofs.TableSlots.{few_tables}
use Rattle.catalog.specs.Entries.{CatalogTable, published_table}
use Rattle.catalog.proofs.Lists.{map_next, map_count}
use Rattle.catalog.proofs.Rebuilding.{shows_table}
use Rattle.catalog.proofs.reading.rebuild.Goals as goal

pub add-requires : goal.add-requires
add-requires g c =
    let words : List ℕ = (g.M.Memory.device c.args.mem.now).cached in
    let count = c.load-count.ensures ∙ ap (λ (w : ℕ). get_or words w 0) c.table_count.ensures in
    let size = ap (length {A = CatalogTable}) c.loop-table.invariant.tables ∙ map_count (published_table words) c.loop-table.table in
    let most = few_tables words c.requires.table_count in
    omega (arith, size, count, c.loop-table-test.true, most)

pub overflow_cast-count : goal.overflow_cast-count
overflow_cast-count g c =
    let words : List ℕ = (g.M.Memory.device c.args.mem.now).cached in
    let count = c.load-count.ensures ∙ ap (λ (w : ℕ). get_or words w 0) c.table_count.ensures in
    let most = few_tables words c.requires.table_count in
    omega (arith, count, most)

pub read_table-requires : goal.read_table-requires
read_table-requires g c =
    let words : List ℕ = (g.M.Memory.device c.args.mem.now).cached in
    let whole = g.met.M.Memory.whole c.args.mem.now in
    let count = c.load-count.ensures ∙ ap (λ (w : ℕ). get_or words w 0) c.table_count.ensures in
    let most = few_tables words c.requires.table_count in
    let published : c.loop-table.table < table_count words = omega (arith, count, c.loop-table-test.true) in
    record { published = omega (arith, published, most); shown = shows_table words whole.cached_words whole.segments c.requires c.loop-table.table published }

pub loop-table-preserved : goal.loop-table-preserved
loop-table-preserved g c =
    let words : List ℕ = (g.M.Memory.device c.args.mem.now).cached in
    record {
      tables = c.add.ensures.tables ∙ ap (λ (xs : List CatalogTable). xs ++ c.read_table.result ∷ []) c.loop-table.invariant.tables
          ∙ ap (λ (x : CatalogTable). map (published_table words) (below c.loop-table.table) ++ x ∷ []) c.read_table.ensures
          ∙ sym (map_next (published_table words) c.loop-table.table);
      planned = c.add.ensures.planned ∙ c.loop-table.invariant.planned;
    }
