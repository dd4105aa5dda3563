use Rattle.std.proofs.Common.{◌≡◌, ℕ, suc, ◌+◌, ◌-◌, ◌<◌, ◌≤◌, ◌++◌, List, [], ◌∷◌, get_or, length, refl, sym, ◌∙◌, ap, subst, append-nil, append_assoc, arith}
use Rattle.std.specs.Prelude.{All}
use Rattle.std.proofs.lemmas.List.Elements.{All-nil, All-push}
use Rattle.image_layout.specs.Records.{first_leaf_at, next_leaf_at}
use Rattle.image_layout.specs.Trees.{leaves_from}
use Rattle.image_rules.proofs.Chains.{found_true}
use Rattle.image_rules.proofs.TreeChecks.{Follows, end_here, follows, leaf_here, none_left, on_next}
use Rattle.image_rules.proofs.leaf_lists.leaves_of.Goals as goal

one_less : (size step : ℕ) → step < size → size - step ≡ suc (size - (step + 1))
one_less size step lt = omega (arith, lt)

pub loop-step-init : goal.loop-step-init
loop-step-init c =
    let words = c.args.words.now in
    let all : length words - 0 ≡ length words = omega arith in
    let P : ℕ → Type 0 = λ leaf. leaf + 128 ≤ length words in
    record {
      left = ap (λ (xs : List ℕ). xs ++ leaves_from words (length words - 0) (get_or words c.first_leaf.result.0 0)) c.new-leaves.ensures.items
          ∙ ap (λ (n : ℕ). leaves_from words n (get_or words c.first_leaf.result.0 0)) all
          ∙ ap (λ (p : ℕ). leaves_from words (length words) (get_or words p 0)) c.first_leaf.ensures;
      on = subst (λ (n : ℕ). Follows words n (get_or words c.first_leaf.result.0 0)) (sym all)
          (subst (λ (p : ℕ). Follows words (length words) (get_or words p 0)) (sym c.first_leaf.ensures) (follows words (get_or words (first_leaf_at c.args.column) 0) c.requires.list.first c.requires.list.list));
      within = subst (All P) (sym c.new-leaves.ensures.items) (All-nil P);
    }

pub returns-in_default-clause-leaves : goal.returns-in_default-clause-leaves
returns-in_default-clause-leaves c =
    let words = c.args.words.now in
    sym (append-nil c.loop-step.leaves.items)
    ∙ ap (λ (xs : List ℕ). c.loop-step.leaves.items ++ xs)
    (sym (end_here words (length words - c.loop-step.step) (length words - (c.loop-step.step + 1)) c.loop-step.word (one_less (length words) c.loop-step.step c.loop-step-test.true) c.loop-step.invariant.on (c.in_default.ensures.none.0 refl)))
    ∙ c.loop-step.invariant.left
    ∙ sym c.requires.list.quiet

pub loop-step-preserved : goal.loop-step-preserved
loop-step-preserved c =
    let words = c.args.words.now in
    let P : ℕ → Type 0 = λ leaf. leaf + 128 ≤ length words in
    let pointed = found_true _ c.in-Some.ensures.none in
    let is = one_less (length words) c.loop-step.step c.loop-step-test.true in
    let rest : List ℕ = leaves_from words (length words - (c.loop-step.step + 1)) (get_or words (next_leaf_at c.in-Some.leaf) 0) in
    record {
      left = ap (λ (xs : List ℕ). xs ++ rest) c.in_ok-push.ensures.items
          ∙ append_assoc c.loop-step.leaves.items (c.in-Some.leaf ∷ []) rest
          ∙ ap (λ (p : ℕ). c.loop-step.leaves.items ++ p ∷ leaves_from words (length words - (c.loop-step.step + 1)) (get_or words (next_leaf_at p) 0)) c.in-Some.ensures.place
          ∙ ap (λ (xs : List ℕ). c.loop-step.leaves.items ++ xs) (sym (leaf_here words (length words - c.loop-step.step) (length words - (c.loop-step.step + 1)) c.loop-step.word is c.loop-step.invariant.on pointed))
          ∙ c.loop-step.invariant.left;
      on = subst (λ (p : ℕ). Follows words (length words - (c.loop-step.step + 1)) (get_or words (next_leaf_at p) 0)) (sym c.in-Some.ensures.place)
          (on_next words (length words - c.loop-step.step) (length words - (c.loop-step.step + 1)) c.loop-step.word is c.loop-step.invariant.on pointed);
      within = subst (All P) (sym c.in_ok-push.ensures.items) (All-push P c.loop-step.leaves.items c.in-Some.leaf c.loop-step.invariant.within c.in-Some.ensures.within);
    }

pub returns-clause-leaves : goal.returns-clause-leaves
returns-clause-leaves c =
    let words = c.args.words.now in
    let over : length words - c.loop-step.step ≡ 0 = omega (arith, c.loop-step-test.false) in
    sym (append-nil c.loop-step.leaves.items)
    ∙ ap (λ (xs : List ℕ). c.loop-step.leaves.items ++ xs) (sym (ap (λ (n : ℕ). leaves_from words n c.loop-step.word) over ∙ none_left words c.loop-step.word))
    ∙ c.loop-step.invariant.left
    ∙ sym c.requires.list.quiet
