use Rattle.std.proofs.Common.{◌≡◌, ℕ, suc, ◌+◌, ◌-◌, ◌<◌, Bool, true, ◌||◌, eqb, List, get_or, length, refl, sym, ◌∙◌, ap, subst, arith}
use Rattle.std.proofs.lemmas.Bool.{eq-eqb, ne_eqb}
use Rattle.image_layout.specs.Places.{is_pointer_to, place_in}
use Rattle.image_layout.specs.Records.{first_leaf_at, next_leaf_at}
use Rattle.image_layout.specs.Trees.{leaves_from}
use Rattle.image_layout.specs.EntryRules.{is_among}
use Rattle.image_rules.proofs.Chains.{found_true}
use Rattle.image_rules.proofs.TreeChecks.{Follows, end_here, follows, leaf_here, none_left, on_next}
use Rattle.image_rules.proofs.tree_rules.is_in_list.Goals as goal

one_less : (size step : ℕ) → step < size → size - step ≡ suc (size - (step + 1))
one_less size step lt = omega (arith, lt)

pub loop-step-init : goal.loop-step-init
loop-step-init c =
    let words = c.args.words.now in
    let all : length words - 0 ≡ length words = omega arith in
    record {
      left = ap (λ (n : ℕ). is_among (leaves_from words n (get_or words c.first_leaf.result.0 0)) c.args.leaf) all
          ∙ ap (λ (p : ℕ). is_among (leaves_from words (length words) (get_or words p 0)) c.args.leaf) c.first_leaf.ensures;
      on = subst (λ (n : ℕ). Follows words n (get_or words c.first_leaf.result.0 0)) (sym all)
          (subst (λ (p : ℕ). Follows words (length words) (get_or words p 0)) (sym c.first_leaf.ensures) (follows words (get_or words (first_leaf_at c.args.column.0) 0) c.requires.first c.requires.list));
    }

pub returns-in_default : goal.returns-in_default
returns-in_default c =
    let words = c.args.words.now in
    let is = one_less (length words) c.loop-step.step c.loop-step-test.true in
    sym (ap (λ (leaves : List ℕ). is_among leaves c.args.leaf)
    (end_here words (length words - c.loop-step.step) (length words - (c.loop-step.step + 1)) c.loop-step.word is c.loop-step.invariant.on (c.in_default.ensures.none.0 refl)))
    ∙ c.loop-step.invariant.left

-- the leaves from here on
module _ (words : List ℕ) (step word leaf reached : ℕ) (lt : step < length words) (on : Follows words (length words - step) word) where
  abbrev rest : List ℕ
  rest = leaves_from words (length words - (step + 1)) (get_or words (next_leaf_at (place_in word)) 0)

  here : is_pointer_to words 128 word ≡ true → reached ≡ place_in word → is_among (leaves_from words (length words - step) word) leaf ≡ (eqb reached leaf || is_among rest leaf)
  here pointed named =
      ap (λ (leaves : List ℕ). is_among leaves leaf) (leaf_here words (length words - step) (length words - (step + 1)) word (one_less (length words) step lt) on pointed)
      ∙ ap (λ (p : ℕ). eqb p leaf || is_among rest leaf) (sym named)

pub returns-then-reached-leaf : goal.returns-then-reached-leaf
returns-then-reached-leaf c =
    let words = c.args.words.now in
    sym (here words c.loop-step.step c.loop-step.word c.args.leaf c.in-Some.reached c.loop-step-test.true c.loop-step.invariant.on (found_true _ c.in-Some.ensures.none) c.in-Some.ensures.place
    ∙ ap (λ (b : Bool). b || is_among (rest words c.loop-step.step c.loop-step.word c.args.leaf c.in-Some.reached c.loop-step-test.true c.loop-step.invariant.on) c.args.leaf) (eq-eqb c.in-Some.reached c.args.leaf c.if-reached-leaf.true))
    ∙ c.loop-step.invariant.left

pub loop-step-preserved : goal.loop-step-preserved
loop-step-preserved c =
    let words = c.args.words.now in
    let pointed = found_true _ c.in-Some.ensures.none in
    record {
      left = ap (λ (p : ℕ). is_among (leaves_from words (length words - (c.loop-step.step + 1)) (get_or words (next_leaf_at p) 0)) c.args.leaf) c.in-Some.ensures.place
          ∙ sym (here words c.loop-step.step c.loop-step.word c.args.leaf c.in-Some.reached c.loop-step-test.true c.loop-step.invariant.on pointed c.in-Some.ensures.place
          ∙ ap (λ (b : Bool). b || is_among (rest words c.loop-step.step c.loop-step.word c.args.leaf c.in-Some.reached c.loop-step-test.true c.loop-step.invariant.on) c.args.leaf) (ne_eqb c.in-Some.reached c.args.leaf c.if-reached-leaf.false))
          ∙ c.loop-step.invariant.left;
      on = subst (λ (p : ℕ). Follows words (length words - (c.loop-step.step + 1)) (get_or words (next_leaf_at p) 0)) (sym c.in-Some.ensures.place)
          (on_next words (length words - c.loop-step.step) (length words - (c.loop-step.step + 1)) c.loop-step.word (one_less (length words) c.loop-step.step c.loop-step-test.true) c.loop-step.invariant.on pointed);
    }

pub returns : goal.returns
returns c =
    let words = c.args.words.now in
    let over : length words - c.loop-step.step ≡ 0 = omega (arith, c.loop-step-test.false) in
    sym (ap (λ (leaves : List ℕ). is_among leaves c.args.leaf) (ap (λ (n : ℕ). leaves_from words n c.loop-step.word) over ∙ none_left words c.loop-step.word))
    ∙ c.loop-step.invariant.left
