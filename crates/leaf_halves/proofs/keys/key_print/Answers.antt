use Rattle.std.proofs.Common.{ℕ, Bool, List, get_or, sym, ◌∙◌, ap}
use Rattle.image_layout.specs.Trees.{integer_fingerprint, key_fingerprint, text_fingerprint}
use Rattle.leaf_halves.proofs.keys.key_print.Goals as goal

pub returns-then-not-texts : goal.returns-then-not-texts
unfolding key_fingerprint
returns-then-not-texts g c =
    let words : List ℕ = (g.M.Memory.device c.args.mem.now).cached in
    c.int_fingerprint.ensures ∙ ap integer_fingerprint c.load.ensures
    ∙ sym (ap (λ (b : Bool). key_fingerprint words b (get_or words c.args.at.0 0)) c.if-not-texts.true)

pub returns : goal.returns
unfolding key_fingerprint
returns g c =
    let words : List ℕ = (g.M.Memory.device c.args.mem.now).cached in
    c.text_fingerprint.ensures ∙ ap text_fingerprint (c.deref.ensures.value ∙ c.in_ok-bytes.ensures)
    ∙ sym (ap (λ (b : Bool). key_fingerprint words b (get_or words c.args.at.0 0)) c.if-not-texts.false)
