use Rattle.std.proofs.Common.{◌≡◌, ◌<◌, ◌≤◌, ℕ, [], ◌∷◌, ◌++◌, List, length, map, get_or, sym, ◌∙◌, ap, subst, arith}
use Rattle.std.specs.Prelude.{All}
use Rattle.std.proofs.lemmas.List.{length-append, length-map}
use Rattle.std.proofs.lemmas.List.FromFn.{length-range_with_len, map-range_with_len_more}
use Rattle.image_layout.specs.Places.{below}
use Rattle.image_layout.specs.Tables.{table_count}
use Rattle.image_layout.proofs.TableSlots.{few_tables}
use Rattle.pmem_recover.specs.declared.change.WordChange.{WordChange}
use Rattle.pmem_recover.specs.VersionStep.{count_change, version_changes}
use Rattle.pmem_recover.proofs.VersionChanges.{in_image}
use Rattle.pmem_recover.proofs.version.version_changes_of.Goals as goal

-- the number of tables, as it is read
count_read : (words : List ℕ) (at word : ℕ) → at ≡ 515 → word ≡ get_or words at 0 → word ≡ table_count words
count_read words at word here is = is ∙ ap (λ (k : ℕ). get_or words k 0) here

pub overflow_cast-count : goal.overflow_cast-count
overflow_cast-count g c =
    let words : List ℕ = (g.M.Memory.device c.args.mem.now).cached in
    let few = few_tables words c.requires.tables in
    let count = count_read words c.table_count.result.0 c.load-count.result c.table_count.ensures c.load-count.ensures in
    omega (arith, few, count)

pub loop-table-init : goal.loop-table-init
loop-table-init g c =
    let words : List ℕ = (g.M.Memory.device c.args.mem.now).cached in
    record {
      changes = c.in_ok-changes.ensures.items;
      len = omega (arith, c.in_ok-changes.ensures.len);
      room = omega (arith, c.in_ok-changes.ensures.capacity);
    }

pub count_columns-requires-clause-published : goal.count_columns-requires-clause-published
count_columns-requires-clause-published g c =
    let words : List ℕ = (g.M.Memory.device c.args.mem.now).cached in
    let count = count_read words c.table_count.result.0 c.load-count.result c.table_count.ensures c.load-count.ensures in
    omega (arith, count, c.loop-table-test.true)

pub push_reserved-requires : goal.push_reserved-requires
push_reserved-requires g c =
    let words : List ℕ = (g.M.Memory.device c.args.mem.now).cached in
    let count = count_read words c.table_count.result.0 c.load-count.result c.table_count.ensures c.load-count.ensures in
    let few = few_tables words c.requires.tables in
    omega (arith, few, count, c.loop-table-test.true, c.loop-table.invariant.len, c.loop-table.invariant.room)

pub loop-table-preserved : goal.loop-table-preserved
loop-table-preserved g c =
    let words : List ℕ = (g.M.Memory.device c.args.mem.now).cached in
    record {
      changes = c.push_reserved.ensures.items
          ∙ ap (λ (cs : List WordChange). cs ++ c.count_columns.result ∷ []) c.loop-table.invariant.changes
          ∙ ap (λ (x : WordChange). map (count_change words) (below c.loop-table.table) ++ x ∷ []) c.count_columns.ensures.change
          ∙ sym (map-range_with_len_more (count_change words) 0 c.loop-table.table c.loop-table.table (omega arith));
      len = omega (arith, c.push_reserved.ensures.len, c.loop-table.invariant.len);
      room = omega (arith, c.push_reserved.ensures.capacity, c.loop-table.invariant.room);
    }

pub push_reserved-requires-2 : goal.push_reserved-requires-2
push_reserved-requires-2 g c =
    let words : List ℕ = (g.M.Memory.device c.args.mem.now).cached in
    let count = count_read words c.table_count.result.0 c.load-count.result c.table_count.ensures c.load-count.ensures in
    let few = few_tables words c.requires.tables in
    omega (arith, few, count, c.loop-table.auto.table-end, c.loop-table.invariant.len, c.loop-table.invariant.room)

-- what they are at the end
module _ (words : List ℕ) (table word at : ℕ) (last : WordChange) (before after : List WordChange) (here : at ≡ 515) (is : word ≡ get_or words at 0) (ends : table ≡ word)
    (so_far : before ≡ map (count_change words) (below table)) (more : after ≡ before ++ last ∷ []) where
  count : table ≡ table_count words
  count = ends ∙ count_read words at word here is

  all_changes : last ≡ record { place = record { 0 = 513 }; value = 2 } → after ≡ version_changes words
  all_changes version =
      more ∙ ap (λ (cs : List WordChange). cs ++ last ∷ []) so_far
      ∙ ap (λ (k : ℕ). map (count_change words) (below k) ++ last ∷ []) count
      ∙ ap (λ (x : WordChange). map (count_change words) (below (table_count words)) ++ x ∷ []) version

pub returns-clause-changes : goal.returns-clause-changes
returns-clause-changes g c =
    let words : List ℕ = (g.M.Memory.device c.args.mem.now).cached in
    all_changes words c.loop-table.table c.load-count.result c.table_count.result.0 c.latest_version.result c.loop-table.changes.items c.push_reserved-2.new.self.items c.table_count.ensures c.load-count.ensures
    (omega (arith, c.loop-table-test.false, c.loop-table.auto.table-end)) c.loop-table.invariant.changes c.push_reserved-2.ensures.items c.latest_version.ensures

few_changes : (words : List ℕ) → table_count words ≤ 32 → length (version_changes words) ≤ 33
few_changes words few =
    let a = length-append (map (count_change words) (below (table_count words))) (record { place = record { 0 = 513 }; value = 2 } ∷ []) in
    let b = length-map (below (table_count words)) (count_change words) in
    let d = length-range_with_len 0 (table_count words) in
    omega (arith, few, a, b, d)

pub returns-clause-few : goal.returns-clause-few
returns-clause-few g c =
    let words : List ℕ = (g.M.Memory.device c.args.mem.now).cached in
    let size = ap (length {A = WordChange}) (returns-clause-changes g c) in
    let few = few_changes words (few_tables words c.requires.tables) in
    omega (arith, size, few)

pub returns-clause-in_image : goal.returns-clause-in_image
returns-clause-in_image g c =
    let words : List ℕ = (g.M.Memory.device c.args.mem.now).cached in
    let whole = g.met.M.Memory.whole c.args.mem.now in
    subst (λ (cs : List WordChange). All (λ (d : WordChange). d.place.0 < length words) cs) (sym (returns-clause-changes g c))
    (in_image words whole.segments whole.one_or_more c.requires.tables c.requires.slots)
