use Rattle.std.proofs.Common.{◌≡◌, ℕ, true, List, sym, subst, get_or, arith}
use Rattle.image_layout.specs.Places.{is_pointer}
use Rattle.txn_object.proofs.Rule.{named}
use Rattle.txn_object.proofs.segments.pointer_to.Goals as goal

pub named_place-pointer-requires-clause-pointer : goal.named_place-pointer-requires-clause-pointer
named_place-pointer-requires-clause-pointer g c =
    let words : List ℕ = (g.M.Memory.device c.args.mem.now).cached in
    let is = named words c.args.object c.requires.rule c.loop-passed.passed (omega (arith, c.loop-passed-test.true, c.requires.segment)) in
    subst (λ (at : ℕ). is_pointer words (get_or words at 0) ≡ true) (sym c.loop-passed.invariant.place) is.is_one
