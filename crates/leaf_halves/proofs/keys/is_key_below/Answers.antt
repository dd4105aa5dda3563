use Rattle.std.proofs.Common.{ℕ, Bool, List, get_or, ltb, sym, ◌∙◌, ap, ap₂}
use Rattle.image_layout.specs.Trees.{key_below, text_at, text_below}
use Rattle.leaf_halves.proofs.keys.is_key_below.Goals as goal

pub returns-then-not-texts : goal.returns-then-not-texts
unfolding key_below
returns-then-not-texts g c =
    let words : List ℕ = (g.M.Memory.device c.args.mem.now).cached in
    ap₂ ltb c.load.ensures c.load-then-not-texts.ensures
    ∙ sym (ap (λ (b : Bool). key_below words b (get_or words c.args.at.0 0) (get_or words c.args.other.0 0)) c.if-not-texts.true)

pub returns : goal.returns
unfolding key_below
returns g c =
    let words : List ℕ = (g.M.Memory.device c.args.mem.now).cached in
    c.is_lt.ensures ∙ c.compare_text.ensures.less
    ∙ ap₂ (λ (p : ℕ) (bytes : List ℕ). text_below (text_at words p) bytes) c.named_place.ensures.place (c.deref.ensures.value ∙ c.in_ok-bytes.ensures)
    ∙ sym (ap (λ (b : Bool). key_below words b (get_or words c.args.at.0 0) (get_or words c.args.other.0 0)) c.if-not-texts.false)
