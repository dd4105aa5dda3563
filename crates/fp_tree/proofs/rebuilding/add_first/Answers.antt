use Rattle.std.proofs.Common.{◌≡◌, ◌∙◌, ℕ, ◌+◌, List, get_or, sym, ap, subst, arith}
use Rattle.std.specs.Prelude.{IsTrue}
use Rattle.image_layout.specs.Places.{is_pointer}
use Rattle.fp_tree.proofs.Walk.{first_found, some_entries}
use Rattle.fp_tree.proofs.rebuilding.add_first.Goals as goal

pub returns-then-len-gt0 : goal.returns-then-len-gt0
returns-then-len-gt0 g c =
    some_entries (g.M.Memory.device c.args.mem.now).cached c.args.column.0 c.args.leaves.now.items (λ none. omega (arith, none, c.len.ensures, c.if-len-gt0.true)) c.requires.found

pub named_place-requires-clause-pointer : goal.named_place-requires-clause-pointer
named_place-requires-clause-pointer g c =
    let words : List ℕ = (g.M.Memory.device c.args.mem.now).cached in
    let same : c.load.result ≡ get_or words (c.args.column.0 + 4) 0 = c.load.ensures ∙ ap (λ (at : ℕ). get_or words at 0) c.first_leaf-at.ensures in
    subst (λ (at : ℕ). IsTrue (is_pointer words (get_or words at 0))) (sym c.first_leaf-at.ensures)
    (first_found words c.args.column.0 c.requires.tree c.args.leaves.now.items c.args.leaves.now.items c.requires.found (omega (arith, c.len.ensures, c.if-len-gt0.false)) (λ none. c.if-load-eq0.false (same ∙ none)))
