use Rattle.std.proofs.Common.{◌≡◌, ℕ, ◌+◌, ◌-◌, ◌++◌, List, length, refl, sym, ◌∙◌, ap, arith}
use Rattle.image_rules.specs.declared.owner_words.OwnerWord.{OwnerWord}
use Rattle.image_rules.specs.BuiltOwners.{leaf_links, links_from}
use Rattle.image_rules.proofs.Chains.{found_true}
use Rattle.image_rules.proofs.LeafWalk.{owners_of, left_end, left_out, left_last, left_more}
use Rattle.image_rules.proofs.owner_words.push_leaf_owners.Goals as goal

all : (words : List ℕ) (owners : List OwnerWord) (column : ℕ) → List OwnerWord
all words owners column = owners ++ owners_of words (leaf_links words column)

pub returns-then-word-eq0 : goal.returns-then-word-eq0
unfolding all
returns-then-word-eq0 c =
    left_end c.args.words.now (all c.args.words.now c.args.owners.now.items c.args.column.0) c.loop-step.owners.items (length c.args.words.now - c.loop-step.step) c.loop-step.pointer.0
    c.loop-step.invariant.left c.if-word-eq0.true

pub returns-in_default : goal.returns-in_default
unfolding all
returns-in_default c =
    left_last c.args.words.now (all c.args.words.now c.args.owners.now.items c.args.column.0) c.loop-step.owners.items c.push_owner.new.owners.items (length c.args.words.now - c.loop-step.step)
    (length c.args.words.now - (c.loop-step.step + 1)) c.loop-step.pointer.0 (omega (arith, c.loop-step-test.true)) c.loop-step.invariant.left c.in_ok-push_owner.ensures c.if-word-eq0.false (c.in_default.ensures.none.0 refl)

pub loop-step-preserved : goal.loop-step-preserved
unfolding all
loop-step-preserved c = record {
  within = omega (arith, c.in-Some.ensures.within);
  left = left_more c.args.words.now (all c.args.words.now c.args.owners.now.items c.args.column.0) c.loop-step.owners.items c.push_owner.new.owners.items (length c.args.words.now - c.loop-step.step)
      (length c.args.words.now - (c.loop-step.step + 1)) c.loop-step.pointer.0 (c.in-Some.leaf + 1) (omega (arith, c.loop-step-test.true)) c.loop-step.invariant.left c.in_ok-push_owner.ensures c.if-word-eq0.false
      (found_true _ c.in-Some.ensures.none) (ap (λ (leaf : ℕ). leaf + 1) c.in-Some.ensures.place);
}

pub returns : goal.returns
unfolding all
returns c =
    let over : length c.args.words.now - c.loop-step.step ≡ 0 = omega (arith, c.loop-step-test.false) in
    left_out c.args.words.now (all c.args.words.now c.args.owners.now.items c.args.column.0) c.loop-step.owners.items c.loop-step.pointer.0
    (ap (λ (n : ℕ). c.loop-step.owners.items ++ owners_of c.args.words.now (links_from c.args.words.now n c.loop-step.pointer.0)) (sym over) ∙ c.loop-step.invariant.left)
