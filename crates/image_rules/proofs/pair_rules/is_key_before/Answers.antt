use Rattle.std.proofs.Common.{ℕ, get_or, sym, ◌∙◌, ap}
use Rattle.std.proofs.lemmas.Bool.{and_from, eq-eqb}
use Rattle.image_rules.specs.BuiltTrees.{has_key}
use Rattle.image_rules.proofs.DistinctChecks.{any_later}
use Rattle.image_rules.proofs.pair_rules.is_key_before.Goals as goal

pub returns-then-words-key_place : goal.returns-then-words-key_place
returns-then-words-key_place c =
    let words = c.args.words.now in
    sym (any_later (has_key words c.args.leaf c.args.key) (λ slot. slot) c.loop-slot.slot c.args.count c.loop-slot-test.true
    (and_from _ _ (sym c.is_used.ensures ∙ c.if-is_used.true) (eq-eqb _ c.args.key (ap (λ (p : ℕ). get_or words p 0) (sym c.key_place.ensures) ∙ c.if-words-key_place.true))))
