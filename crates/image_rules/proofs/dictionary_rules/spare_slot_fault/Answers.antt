use Rattle.std.proofs.Common.{sym, ◌∙◌, ap, ℕ, List, refl}
use Rattle.std.specs.List.{flat_map}
use Rattle.image_layout.specs.Checks.{first_failing}
use Rattle.image_rules.specs.BuiltTrees.{column_spare_checks}
use Rattle.image_rules.proofs.ArrayWords.{has_arrays}
use Rattle.image_rules.proofs.Gathered.{has_list}
use Rattle.image_rules.proofs.SpareSlots.{spare-rule-is}
use Rattle.image_rules.proofs.PairChecks.{list_found, list_over, list_passes}
use Rattle.image_rules.proofs.dictionary_rules.spare_slot_fault.Goals as goal

pub column_spare_fault-requires-clause-list : goal.column_spare_fault-requires-clause-list
column_spare_fault-requires-clause-list c =
    has_list c.args.words.now c.deref-column-items.result.now c.loop-column.column-index c.loop-column-test.true c.requires.tables c.requires.trees c.requires.logs (c.deref-column-items.ensures.value ∙ c.in_ok-columns.ensures.columns)
    c.in_ok-columns.columns.items c.deref-column-items.ensures.value c.in_ok-columns.ensures.within

pub column_spare_fault-requires-clause-arrays : goal.column_spare_fault-requires-clause-arrays
column_spare_fault-requires-clause-arrays c =
    has_arrays c.args.words.now c.deref-column-items.result.now c.loop-column.column-index c.loop-column-test.true c.requires.arrays (c.deref-column-items.ensures.value ∙ c.in_ok-columns.ensures.columns)

pub loop-column-init : goal.loop-column-init
loop-column-init c = refl

pub returns-then-is_some : goal.returns-then-is_some
returns-then-is_some c =
    let words = c.args.words.now in
    list_found (column_spare_checks words) c.deref-column-items.result.now c.loop-column.column-index 0 c.in_ok-found.found c.loop-column-test.true c.loop-column.invariant c.in_ok-found.ensures (sym c.is_some.ensures ∙ c.if-is_some.true)
    ∙ ap (λ (columns : List ℕ). first_failing (flat_map (column_spare_checks words) columns)) (c.deref-column-items.ensures.value ∙ c.in_ok-columns.ensures.columns)
    ∙ ap first_failing (sym (spare-rule-is words))

pub loop-column-preserved : goal.loop-column-preserved
loop-column-preserved c =
    list_passes (column_spare_checks c.args.words.now) c.deref-column-items.result.now c.loop-column.column-index 0 c.in_ok-found.found c.loop-column-test.true c.loop-column.invariant c.in_ok-found.ensures (sym c.is_some.ensures ∙ c.if-is_some.false)

pub returns : goal.returns
returns c =
    let words = c.args.words.now in
    list_over (column_spare_checks words) c.deref-column-items.result.now c.loop-column.column-index 0 c.loop-column-test.false c.loop-column.invariant
    ∙ ap (λ (columns : List ℕ). first_failing (flat_map (column_spare_checks words) columns)) (c.deref-column-items.ensures.value ∙ c.in_ok-columns.ensures.columns)
    ∙ ap first_failing (sym (spare-rule-is words))
