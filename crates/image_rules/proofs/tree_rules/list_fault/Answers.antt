use Rattle.std.proofs.Common.{◌≡◌, ℕ, ◌+◌, ◌/◌, ◌^◌, ◌<◌, ◌≤◌, true, false, ltb, List, [], get_or, length, refl, sym, ◌∙◌, ap, subst, arith}
use Rattle.std.specs.Prelude.{Option}
use Rattle.std.proofs.lemmas.Bool.{le-ltb, lt-ltb}
use Rattle.image_layout.specs.Places.{is_null_or_pointer_to, place_in}
use Rattle.image_layout.specs.Trees.{leaves_from}
use Rattle.image_layout.specs.Checks.{first_failing}
use Rattle.image_layout.specs.EntryRules.{leaf_checks}
use Rattle.image_rules.specs.Parts.{ClosesList, IsCircle, IsOnCircle, leads_on, leaf_after as leaf_reached}
use Rattle.image_rules.proofs.Chains.{found_true}
use Rattle.image_rules.proofs.TreeChecks.{bitmap_found, circle_found, ever_on, list_ends, next_found, next_leads, no_leaf, on_circle, on_from, pointer_named}
use Rattle.image_rules.proofs.tree_rules.list_fault.Goals as goal

-- the checks along the list, from the pointer to its first leaf on
module _ (words : List ℕ) where
  abbrev checked : ℕ → Option ℕ
  checked word = first_failing (leaf_checks words [] (leaves_from words (length words) word))

  under : (word : ℕ) → word / 281474976710656 ≡ 0 → ltb word (2 ^ 48) ≡ true
  under word none = lt-ltb word (2 ^ 48) (omega (arith, none))

  over : (word : ℕ) → (word / 281474976710656 ≡ 0 → ⊥) → ltb word (2 ^ 48) ≡ false
  over word some = le-ltb word (2 ^ 48) (omega (arith, some))

  module _ (top first : ℕ) (named : first ≡ place_in top) where
    along : (k leaf : ℕ) → leaf ≡ leaf_reached words first k → leaf ≡ leaf_reached words (place_in top) k
    along k leaf is = is ∙ ap (λ (f : ℕ). leaf_reached words f k) named

    on_along : (k : ℕ) → ((x : ℕ) → x < k → leads_on words (leaf_reached words first x) ≡ true) → (x : ℕ) → x < k → leads_on words (leaf_reached words (place_in top) x) ≡ true
    on_along k on x lt = sym (ap (λ (f : ℕ). leads_on words (leaf_reached words f x)) named) ∙ on x lt

pub returns-in_default : goal.returns-in_default
returns-in_default c =
    let words = c.args.words.now in
    no_leaf words (get_or words c.first_leaf.result.0 0) (ap (λ (p : ℕ). is_null_or_pointer_to words 128 (get_or words p 0)) c.first_leaf.ensures ∙ c.requires.first) (c.in_default.ensures.none.0 refl)
    ∙ ap (λ (p : ℕ). checked words (get_or words p 0)) c.first_leaf.ensures

pub returns-then-words-leaf-ne0 : goal.returns-then-words-leaf-ne0
returns-then-words-leaf-ne0 c =
    let words = c.args.words.now in
    let top : ℕ = get_or words c.first_leaf.result.0 0 in
    bitmap_found words top (pointer_named words top (found_true _ c.in-Some.ensures.none)) c.loop-step.step c.loop-step.leaf c.loop-step-test.true
    (along words top c.in-Some.first c.in-Some.ensures.place c.loop-step.step c.loop-step.leaf c.loop-step.invariant.leaf)
    (on_along words top c.in-Some.first c.in-Some.ensures.place c.loop-step.step c.loop-step.invariant.on)
    (over words (get_or words c.loop-step.leaf 0) c.if-words-leaf-ne0.true)
    ∙ ap (λ (p : ℕ). checked words (get_or words p 0)) c.first_leaf.ensures

pub returns-then-next-eq0 : goal.returns-then-next-eq0
returns-then-next-eq0 c =
    let words = c.args.words.now in
    let top : ℕ = get_or words c.first_leaf.result.0 0 in
    list_ends words top (pointer_named words top (found_true _ c.in-Some.ensures.none)) c.loop-step.step c.loop-step.leaf c.loop-step-test.true
    (along words top c.in-Some.first c.in-Some.ensures.place c.loop-step.step c.loop-step.leaf c.loop-step.invariant.leaf)
    (on_along words top c.in-Some.first c.in-Some.ensures.place c.loop-step.step c.loop-step.invariant.on)
    (under words (get_or words c.loop-step.leaf 0) c.if-words-leaf-ne0.false) c.if-next-eq0.true
    ∙ ap (λ (p : ℕ). checked words (get_or words p 0)) c.first_leaf.ensures

pub returns-in_default-pointed_words : goal.returns-in_default-pointed_words
returns-in_default-pointed_words c =
    let words = c.args.words.now in
    let top : ℕ = get_or words c.first_leaf.result.0 0 in
    next_found words top (pointer_named words top (found_true _ c.in-Some.ensures.none)) c.loop-step.step c.loop-step.leaf c.loop-step-test.true
    (along words top c.in-Some.first c.in-Some.ensures.place c.loop-step.step c.loop-step.leaf c.loop-step.invariant.leaf)
    (on_along words top c.in-Some.first c.in-Some.ensures.place c.loop-step.step c.loop-step.invariant.on)
    (under words (get_or words c.loop-step.leaf 0) c.if-words-leaf-ne0.false) c.if-next-eq0.false (c.in_default-pointed_words.ensures.none.0 refl)
    ∙ ap (λ (p : ℕ). checked words (get_or words p 0)) c.first_leaf.ensures

pub loop-step-preserved : goal.loop-step-preserved
loop-step-preserved c =
    let words = c.args.words.now in
    next_leads words c.in-Some.first c.loop-step.step c.loop-step.leaf c.in-Some-pointed_words.reached c.loop-step.invariant.leaf
    (under words (get_or words c.loop-step.leaf 0) c.if-words-leaf-ne0.false) (found_true _ c.in-Some-pointed_words.ensures.none) c.in-Some-pointed_words.ensures.place c.in-Some-pointed_words.ensures.within
    c.loop-step.invariant.on

start : (first size : ℕ) → first + 128 ≤ size → first < size
start first size inside = omega (arith, inside)

pub circle_steps-steps-requires-clause-on : goal.circle_steps-steps-requires-clause-on
circle_steps-steps-requires-clause-on c =
    let words = c.args.words.now in
    on_from words c.in-Some.first (start c.in-Some.first (length words) c.in-Some.ensures.within) (λ k lt. c.loop-step.invariant.on k (omega (arith, lt, c.loop-step-test.false))) c.loop-step.step c.loop-step.leaf
    c.loop-step-test.false c.loop-step.auto.step-end c.loop-step.invariant.leaf c.loop-step.invariant.within

last : (words : List ℕ) (steps : ℕ) → length words ≤ steps → steps ≤ length words → steps ≡ length words
last words steps low high = omega (arith, low, high)

pub circle_steps-steps-requires-clause-circle : goal.circle_steps-steps-requires-clause-circle
circle_steps-steps-requires-clause-circle c =
    let words = c.args.words.now in
    subst (IsOnCircle words) (sym (c.loop-step.invariant.leaf ∙ ap (leaf_reached words c.in-Some.first) (last words c.loop-step.step c.loop-step-test.false c.loop-step.auto.step-end)))
    (on_circle words c.in-Some.first (start c.in-Some.first (length words) c.in-Some.ensures.within) (λ k lt. c.loop-step.invariant.on k (omega (arith, lt, c.loop-step-test.false))))

pub last_of_list-requires-clause-on : goal.last_of_list-requires-clause-on
last_of_list-requires-clause-on c =
    let words = c.args.words.now in
    record {
      within = c.in-Some.ensures.within;
      each = ever_on words c.in-Some.first (start c.in-Some.first (length words) c.in-Some.ensures.within) (λ k lt. c.loop-step.invariant.on k (omega (arith, lt, c.loop-step-test.false)));
    }

pub last_of_list-requires-clause-circle : goal.last_of_list-requires-clause-circle
last_of_list-requires-clause-circle c =
    let words = c.args.words.now in
    subst (λ (leaf : ℕ). IsCircle words leaf c.circle_steps-steps.result) (c.loop-step.invariant.leaf ∙ ap (leaf_reached words c.in-Some.first) (last words c.loop-step.step c.loop-step-test.false c.loop-step.auto.step-end))
    c.circle_steps-steps.ensures

pub returns : goal.returns
returns c =
    let words = c.args.words.now in
    let top : ℕ = get_or words c.first_leaf.result.0 0 in
    let on = ever_on words c.in-Some.first (start c.in-Some.first (length words) c.in-Some.ensures.within) (λ k lt. c.loop-step.invariant.on k (omega (arith, lt, c.loop-step-test.false))) in
    circle_found words top (pointer_named words top (found_true _ c.in-Some.ensures.none)) c.last_of_list.result
    (λ x. sym (ap (λ (f : ℕ). leads_on words (leaf_reached words f x)) c.in-Some.ensures.place) ∙ on x)
    (subst (λ (f : ℕ). ClosesList words f c.last_of_list.result) c.in-Some.ensures.place c.last_of_list.ensures)
    ∙ ap (λ (p : ℕ). checked words (get_or words p 0)) c.first_leaf.ensures
