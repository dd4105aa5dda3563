use Rattle.std.proofs.Common.{◌≡◌, ℕ, false, cond, List, [], map, get_or, sym, ◌∙◌, ap}
use Rattle.std.specs.List.{flat_map}
use Rattle.std.proofs.lemmas.Bool.{cond-true, cond-false, eq-eqb, ne_eqb}
use Rattle.image_layout.specs.Records.{key_at}
use Rattle.image_layout.specs.Tables.{is_text}
use Rattle.image_layout.specs.Trees.{integer_fingerprint, leaf_list, slot_fingerprint}
use Rattle.image_layout.specs.Checks.{first_failing}
use Rattle.image_layout.specs.SoundRules.{fingerprint_checks}
use Rattle.image_rules.specs.declared.leaf_lists.LeafSlot.{LeafSlot}
use Rattle.image_rules.specs.BuiltTrees.{print_check, used_along}
use Rattle.image_rules.proofs.Gathered.{prints-is}
use Rattle.image_rules.proofs.PairChecks.{one_fails, one_over, one_passes}
use Rattle.image_rules.proofs.pair_rules.column_print_fault.Goals as goal

-- the checks of a column of integers, by its used slots
integers : (words : List ℕ) (used : List LeafSlot) (column : ℕ) → is_text words column ≡ false → used ≡ used_along words (leaf_list words column)
    → first_failing (map (print_check words) used) ≡ first_failing (cond (is_text words column) [] (flat_map (fingerprint_checks words false) (leaf_list words column)))
integers words used column kind are =
    ap (λ (s : List LeafSlot). first_failing (map (print_check words) s)) are
    ∙ ap first_failing (sym (prints-is words (leaf_list words column)))
    ∙ sym (ap first_failing (cond-false (is_text words column) [] (flat_map (fingerprint_checks words false) (leaf_list words column)) kind))

pub returns-then-is_text : goal.returns-then-is_text
returns-then-is_text c =
    let words = c.args.words.now in
    sym (ap first_failing (cond-true (is_text words c.args.column) [] (flat_map (fingerprint_checks words false) (leaf_list words c.args.column)) (sym c.is_text.ensures ∙ c.if-is_text.true)))

pub returns-then-packed_byte-int_fingerprint : goal.returns-then-packed_byte-int_fingerprint
returns-then-packed_byte-int_fingerprint c =
    let words = c.args.words.now in
    let items : List LeafSlot = c.deref-slot-items.result.now in
    let slot : LeafSlot = get_or items c.loop-slot.slot-index (record { leaf = 0; slot = 0 }) in
    one_fails (print_check words) items c.loop-slot.slot-index (record { leaf = 0; slot = 0 }) c.loop-slot-test.true c.loop-slot.invariant
    (ne_eqb (slot_fingerprint words slot.leaf slot.slot) (integer_fingerprint (get_or words (key_at slot.leaf slot.slot) 0))
    (λ same. c.if-packed_byte-int_fingerprint.true (c.packed_byte.ensures ∙ same ∙ sym (c.int_fingerprint.ensures ∙ ap (λ (p : ℕ). integer_fingerprint (get_or words p 0)) c.key_place.ensures))))
    ∙ integers words items c.args.column (sym c.is_text.ensures ∙ c.if-is_text.false) (c.deref-slot-items.ensures.value ∙ c.in_ok-used.ensures.used)

pub loop-slot-preserved : goal.loop-slot-preserved
loop-slot-preserved c =
    let words = c.args.words.now in
    let items : List LeafSlot = c.deref-slot-items.result.now in
    let slot : LeafSlot = get_or items c.loop-slot.slot-index (record { leaf = 0; slot = 0 }) in
    one_passes (print_check words) items c.loop-slot.slot-index (record { leaf = 0; slot = 0 }) c.loop-slot-test.true c.loop-slot.invariant
    (eq-eqb (slot_fingerprint words slot.leaf slot.slot) (integer_fingerprint (get_or words (key_at slot.leaf slot.slot) 0))
    (sym c.packed_byte.ensures ∙ c.if-packed_byte-int_fingerprint.false ∙ c.int_fingerprint.ensures ∙ ap (λ (p : ℕ). integer_fingerprint (get_or words p 0)) c.key_place.ensures))

pub returns : goal.returns
returns c =
    let words = c.args.words.now in
    one_over (print_check words) c.deref-slot-items.result.now c.loop-slot.slot-index (record { leaf = 0; slot = 0 }) c.loop-slot-test.false c.loop-slot.invariant
    ∙ integers words c.deref-slot-items.result.now c.args.column (sym c.is_text.ensures ∙ c.if-is_text.false) (c.deref-slot-items.ensures.value ∙ c.in_ok-used.ensures.used)
