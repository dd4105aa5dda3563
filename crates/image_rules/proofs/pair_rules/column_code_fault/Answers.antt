use Rattle.std.proofs.Common.{◌≡◌, ℕ, ◌+◌, List, [], map, length, get_or, sym, ◌∙◌, ap, arith}
use Rattle.image_layout.specs.Records.{code_at, key_at}
use Rattle.image_layout.specs.Trees.{dictionary_length, leaf_list}
use Rattle.image_layout.specs.Checks.{first_failing}
use Rattle.image_layout.specs.SoundRules.{UsedSlot, code_checks, column_slots}
use Rattle.image_rules.specs.declared.leaf_lists.LeafSlot.{LeafSlot}
use Rattle.image_rules.specs.BuiltTrees.{places_of, used_along}
use Rattle.image_rules.proofs.Gathered.{count-is}
use Rattle.image_rules.proofs.PairChecks.{code_again, code_next, code_none, codes_begin, codes_end, column-slots-is}
use Rattle.image_rules.proofs.pair_rules.column_code_fault.Goals as goal

-- the checks of a column, by its used slots
along : (words : List ℕ) (used : List LeafSlot) (column : ℕ) → used ≡ used_along words (leaf_list words column)
    → first_failing (code_checks words column [] (map places_of used)) ≡ first_failing (code_checks words column [] (column_slots words column))
along words used column are =
    ap (λ (s : List LeafSlot). first_failing (code_checks words column [] (map places_of s))) are
    ∙ ap (λ (s : List UsedSlot). first_failing (code_checks words column [] s)) (sym (column-slots-is words column))

next_place : (place leaf slot : ℕ) → place ≡ key_at leaf slot → place + 1 ≡ code_at leaf slot
next_place place leaf slot is = omega (arith, is)

counted : (words : List ℕ) (items : List LeafSlot) (column count : ℕ) → count ≡ length items → items ≡ used_along words (leaf_list words column) → count ≡ dictionary_length words column
counted words items column count len are = len ∙ ap (λ (s : List LeafSlot). length s) are ∙ count-is words (leaf_list words column)

pub loop-slot-init : goal.loop-slot-init
loop-slot-init c = codes_begin c.args.words.now c.args.column c.deref-slot-items.result.now c.new-seen.result c.new-seen.ensures.empty

pub is_code_of-requires-clause-count : goal.is_code_of-requires-clause-count
is_code_of-requires-clause-count c =
    counted c.args.words.now c.deref-slot-items.result.now c.args.column c.len-count.result (c.len-count.ensures ∙ sym c.deref-slot-items.ensures.len) (c.deref-slot-items.ensures.value ∙ c.in_ok-used.ensures.used)

pub returns-then-not-is_code_of : goal.returns-then-not-is_code_of
returns-then-not-is_code_of c =
    let items : List LeafSlot = c.deref-slot-items.result.now in
    let slot : LeafSlot = get_or items c.loop-slot.slot-index (record { leaf = 0; slot = 0 }) in
    code_none c.args.words.now c.args.column items c.loop-slot.slot-index c.key_place-place.result (c.key_place-place.result + 1) (record { leaf = 0; slot = 0 }) c.loop-slot.seen c.loop-slot-test.true c.loop-slot.invariant
    c.key_place-place.ensures (next_place c.key_place-place.result slot.leaf slot.slot c.key_place-place.ensures) (sym c.is_code_of.ensures ∙ c.if-not-is_code_of.true)
    ∙ along c.args.words.now items c.args.column (c.deref-slot-items.ensures.value ∙ c.in_ok-used.ensures.used)

pub returns-then-not-is_first : goal.returns-then-not-is_first
returns-then-not-is_first c =
    let items : List LeafSlot = c.deref-slot-items.result.now in
    let slot : LeafSlot = get_or items c.loop-slot.slot-index (record { leaf = 0; slot = 0 }) in
    code_again c.args.words.now c.args.column items c.loop-slot.slot-index c.key_place-place.result (c.key_place-place.result + 1) (record { leaf = 0; slot = 0 }) c.loop-slot.seen c.loop-slot-test.true c.loop-slot.invariant
    c.key_place-place.ensures (next_place c.key_place-place.result slot.leaf slot.slot c.key_place-place.ensures) c.in_ok-is_first.is_first c.in_ok-is_first.ensures.added c.if-not-is_first.true
    ∙ along c.args.words.now items c.args.column (c.deref-slot-items.ensures.value ∙ c.in_ok-used.ensures.used)

pub loop-slot-preserved : goal.loop-slot-preserved
loop-slot-preserved c =
    let items : List LeafSlot = c.deref-slot-items.result.now in
    let slot : LeafSlot = get_or items c.loop-slot.slot-index (record { leaf = 0; slot = 0 }) in
    code_next c.args.words.now c.args.column items c.loop-slot.slot-index c.key_place-place.result (c.key_place-place.result + 1) (record { leaf = 0; slot = 0 }) c.loop-slot.seen c.loop-slot-test.true c.loop-slot.invariant
    c.key_place-place.ensures (next_place c.key_place-place.result slot.leaf slot.slot c.key_place-place.ensures) c.in_ok-is_first.is_first c.in_ok-is_first.ensures.added (sym c.is_code_of.ensures ∙ c.if-not-is_code_of.false) c.if-not-is_first.false c.insert.new.self c.in_ok-is_first.ensures.updates

pub returns : goal.returns
returns c =
    codes_end c.args.words.now c.args.column c.deref-slot-items.result.now c.loop-slot.slot-index c.loop-slot.seen c.loop-slot-test.false c.loop-slot.invariant
    ∙ along c.args.words.now c.deref-slot-items.result.now c.args.column (c.deref-slot-items.ensures.value ∙ c.in_ok-used.ensures.used)
