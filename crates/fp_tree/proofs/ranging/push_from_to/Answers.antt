use Rattle.std.proofs.Common.{◌≡◌, ◌∙◌, ℕ, ◌+◌, List, get_or, sym, ap, subst, arith}
use Rattle.std.specs.Int.{bit_at}
use Rattle.fp_leaf.specs.PairListState.{PairListState}
use Rattle.fp_tree.proofs.Ranged.{Passing, pass_ends, pass_skips, pass_takes}
use Rattle.fp_tree.proofs.ranging.push_from_to.Goals as goal
use Rattle.fp_tree.proofs.ranging.push_from_to.Goals.{then-bitmap-slot-eq1, else-bitmap-slot-eq1}

pub loop-slot-preserved : goal.loop-slot-preserved
loop-slot-preserved g c =
    let words : List ℕ = (g.M.Memory.device c.args.mem.now).cached in
    let leaf : ℕ = c.args.leaf.0 in
    let slot : ℕ = c.loop-slot.slot in
    let bits : bit_at c.load-bitmap.result slot ≡ bit_at (get_or words leaf 0) slot = ap (λ (n : ℕ). bit_at n slot) c.load-bitmap.ensures in
    elim c.if-bitmap-slot-eq1.branch [
      | then-bitmap-slot-eq1 w ↦
          subst (λ (l : PairListState). Passing words c.args.low.now c.args.high.now leaf (slot + 1) c.args.list.now.pairs l.pairs c.args.list.now.spare l.spare) (sym w.list-is)
          (pass_takes words c.args.low.now c.args.high.now leaf slot c.args.list.now.pairs c.loop-slot.list.pairs w.push_slot_from_to.new.list.pairs c.args.list.now.spare c.loop-slot.list.spare w.push_slot_from_to.new.list.spare
          (sym bits ∙ w.if-bitmap-slot-eq1.true) w.push_slot_from_to.ensures.pairs w.push_slot_from_to.ensures.spare c.loop-slot.invariant)
      | else-bitmap-slot-eq1 w ↦
          subst (λ (l : PairListState). Passing words c.args.low.now c.args.high.now leaf (slot + 1) c.args.list.now.pairs l.pairs c.args.list.now.spare l.spare) (sym w.list-is)
          (pass_skips words c.args.low.now c.args.high.now leaf slot c.args.list.now.pairs c.loop-slot.list.pairs c.args.list.now.spare c.loop-slot.list.spare (λ is. w.if-bitmap-slot-eq1.false (bits ∙ is)) c.loop-slot.invariant)
    ]

pub returns-clause-pairs : goal.returns-clause-pairs
returns-clause-pairs g c =
    let words : List ℕ = (g.M.Memory.device c.args.mem.now).cached in
    pass_ends words c.args.low.now c.args.high.now c.args.leaf.0 c.args.list.now.pairs c.loop-slot.list.pairs c.args.list.now.spare c.loop-slot.list.spare
    (subst (λ (n : ℕ). Passing words c.args.low.now c.args.high.now c.args.leaf.0 n c.args.list.now.pairs c.loop-slot.list.pairs c.args.list.now.spare c.loop-slot.list.spare) (omega (arith, c.loop-slot-test.false, c.loop-slot.auto.slot-end)) c.loop-slot.invariant)
