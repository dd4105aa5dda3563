use Rattle.std.proofs.Common.{◌≡◌, ◌+◌, ◌%◌, ◌∙◌, ℕ, List, get_or, ap, arith}
use Rattle.image_layout.specs.Records.{code_at, fingerprint_at, key_at}
use Rattle.tree_cuts.specs.Insertion.{with_byte}
use Rattle.fp_tree.proofs.PutIn.{pair_pushed}
use Rattle.fp_tree.proofs.inserting.push_pair.Goals as goal

pub returns-clause-left : goal.returns-clause-left
returns-clause-left g c =
    let words : List ℕ = (g.M.Memory.device c.args.mem.now).cached in
    let leaf : ℕ = c.args.pair.leaf.0 in
    let slot : ℕ = c.args.pair.slot in
    let next : c.key_place-at.result.0 + 1 ≡ code_at leaf slot = omega (arith, c.key_place-at.ensures) in
    let prints : leaf + 2 + c.from-2.result ≡ fingerprint_at leaf slot = ap (λ (n : ℕ). leaf + 2 + n) c.from-2.ensures in
    let changed = c.with_byte.ensures ∙ ap (λ (n : ℕ). with_byte n (slot % 8) c.args.pair.print) (c.load.ensures ∙ ap (λ (n : ℕ). get_or words n 0) prints) in
    pair_pushed c.args.plan.now.left c.push.new.self.left c.push-2.new.self.left c.push-3.new.self.left
    c.key_place-at.result.0 (c.key_place-at.result.0 + 1) (leaf + 2 + c.from-2.result) c.args.pair.key c.from.result c.with_byte.result
    (key_at leaf slot) (code_at leaf slot) (fingerprint_at leaf slot) c.args.pair.code (with_byte (get_or words (fingerprint_at leaf slot) 0) (slot % 8) c.args.pair.print)
    c.push.ensures.left c.push-2.ensures.left c.push-3.ensures.left c.key_place-at.ensures next prints c.from.ensures changed
