use Rattle.std.proofs.Common.{◌≡◌, ◌∙◌, ℕ, ◌+◌, List, get_or, min, sym, ap, subst, arith, w64}
use Rattle.std.specs.Int.{bit_at, trailing_zeros}
use Rattle.fp_tree.proofs.Walk.{Least, least_begins, least_is, least_passes, least_takes, lowest_used}
use Rattle.fp_tree.proofs.rebuilding.least_key.Goals as goal
use Rattle.fp_tree.proofs.rebuilding.least_key.Goals.{then-bitmap-slot-eq1, else-bitmap-slot-eq1}

pub load-least-requires : goal.load-least-requires
load-least-requires g c =
    let words : List ℕ = (g.M.Memory.device c.args.mem.now).cached in
    let lowest = lowest_used words c.args.leaf.0 c.load-bitmap.result c.load-bitmap.ensures c.requires.bitmap c.requires.some in
    let lt = lowest.0 in
    omega (arith, lt, c.key_place.ensures, c.requires.within)

pub loop-slot-init : goal.loop-slot-init
loop-slot-init g c =
    let words : List ℕ = (g.M.Memory.device c.args.mem.now).cached in
    let slot : ℕ = trailing_zeros w64 c.load-bitmap.result in
    let lowest = lowest_used words c.args.leaf.0 c.load-bitmap.result c.load-bitmap.ensures c.requires.bitmap c.requires.some in
    least_begins words c.args.leaf.0 slot c.load-least.result lowest.0 lowest.1
    (c.load-least.ensures ∙ ap (λ (w : ℕ). get_or words w 0) c.key_place.ensures)

pub loop-slot-preserved : goal.loop-slot-preserved
loop-slot-preserved g c =
    let words : List ℕ = (g.M.Memory.device c.args.mem.now).cached in
    let slot : ℕ = c.loop-slot.slot in
    let leaf = c.args.leaf.0 in
    let bits : bit_at c.load-bitmap.result slot ≡ bit_at (get_or words leaf 0) slot = ap (λ (n : ℕ). bit_at n slot) c.load-bitmap.ensures in
    elim c.if-bitmap-slot-eq1.branch [
      | then-bitmap-slot-eq1 w ↦
          let lesser : w.min-least.result ≡ min c.loop-slot.least w.load.result = omega (arith, w.min-least.ensures) in
          subst (Least words leaf (slot + 1)) (sym (w.least-is ∙ lesser))
          (least_takes words leaf slot c.loop-slot.least w.load.result c.loop-slot-test.true (sym bits ∙ w.if-bitmap-slot-eq1.true) (w.load.ensures ∙ ap (λ (place : ℕ). get_or words place 0) w.key_place-then-bitmap-slot-eq1.ensures) c.loop-slot.invariant)
      | else-bitmap-slot-eq1 w ↦
          subst (Least words leaf (slot + 1)) (sym w.least-is)
          (least_passes words leaf slot c.loop-slot.least (λ is. w.if-bitmap-slot-eq1.false (bits ∙ is)) c.loop-slot.invariant)
    ]

pub returns : goal.returns
returns g c = least_is (g.M.Memory.device c.args.mem.now).cached c.args.leaf.0 c.loop-slot.least
    (subst (λ (n : ℕ). Least (g.M.Memory.device c.args.mem.now).cached c.args.leaf.0 n c.loop-slot.least) (omega (arith, c.loop-slot-test.false, c.loop-slot.auto.slot-end)) c.loop-slot.invariant)
