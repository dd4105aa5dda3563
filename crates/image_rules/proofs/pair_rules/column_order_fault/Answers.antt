use Rattle.std.proofs.Common.{◌≡◌, ℕ, false, cond, List, [], sym, ◌∙◌, ap}
use Rattle.std.proofs.lemmas.Bool.{cond-true, cond-false}
use Rattle.image_layout.specs.Tables.{is_text}
use Rattle.image_layout.specs.Trees.{leaf_list}
use Rattle.image_layout.specs.Checks.{first_failing}
use Rattle.image_layout.specs.SoundRules.{order_checks}
use Rattle.image_rules.proofs.PairChecks.{keys_begin, leaf_found, leaf_passes, list_end}
use Rattle.image_rules.proofs.pair_rules.column_order_fault.Goals as goal

-- the checks of a column of integers, by its leaves
integers : (words leaves : List ℕ) (column : ℕ) → is_text words column ≡ false → leaves ≡ leaf_list words column
    → first_failing (order_checks words false [] leaves) ≡ first_failing (cond (is_text words column) [] (order_checks words false [] (leaf_list words column)))
integers words leaves column kind are =
    ap (λ (ls : List ℕ). first_failing (order_checks words false [] ls)) are
    ∙ sym (ap first_failing (cond-false (is_text words column) [] (order_checks words false [] (leaf_list words column)) kind))

pub returns-then-is_text : goal.returns-then-is_text
returns-then-is_text c =
    let words = c.args.words.now in
    sym (ap first_failing (cond-true (is_text words c.args.column) [] (order_checks words false [] (leaf_list words c.args.column)) (sym c.is_text.ensures ∙ c.if-is_text.true)))

pub loop-leaf-init : goal.loop-leaf-init
loop-leaf-init c = keys_begin c.args.words.now c.deref-leaf-items.result.now

pub returns-then-is_some : goal.returns-then-is_some
returns-then-is_some c =
    let words = c.args.words.now in
    leaf_found words c.deref-leaf-items.result.now c.loop-leaf.leaf-index c.loop-leaf.greatest c.loop-leaf-test.true c.loop-leaf.invariant c.leaf_order_fault-found.result c.leaf_order_fault-found.ensures (sym c.is_some.ensures ∙ c.if-is_some.true)
    ∙ integers words c.deref-leaf-items.result.now c.args.column (sym c.is_text.ensures ∙ c.if-is_text.false) (c.deref-leaf-items.ensures.value ∙ c.in_ok-leaves.ensures.leaves)

pub loop-leaf-preserved : goal.loop-leaf-preserved
loop-leaf-preserved c =
    leaf_passes c.args.words.now c.deref-leaf-items.result.now c.loop-leaf.leaf-index c.loop-leaf.greatest c.loop-leaf-test.true c.loop-leaf.invariant c.leaf_order_fault-found.result c.leaf_order_fault-found.ensures (sym c.is_some.ensures ∙ c.if-is_some.false)
    c.greatest_key-greatest.result c.greatest_key-greatest.ensures

pub returns : goal.returns
returns c =
    let words = c.args.words.now in
    list_end words c.deref-leaf-items.result.now c.loop-leaf.leaf-index c.loop-leaf.greatest c.loop-leaf-test.false c.loop-leaf.invariant
    ∙ integers words c.deref-leaf-items.result.now c.args.column (sym c.is_text.ensures ∙ c.if-is_text.false) (c.deref-leaf-items.ensures.value ∙ c.in_ok-leaves.ensures.leaves)
