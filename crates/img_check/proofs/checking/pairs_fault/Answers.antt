use Rattle.std.proofs.Common.{[], ◌∷◌, ◌∙◌, sym}
use Rattle.image_layout.specs.Checks.{numbered}
use Rattle.image_layout.specs.SoundRules.{code_rule}
use Rattle.image_rules.specs.BuiltTrees.{built_order_rule, built_fingerprint_rule}
use Rattle.image_rules.proofs.NumberedFaults.{one, told-first, told-rest}
use Rattle.img_check.proofs.checking.pairs_fault.Goals as goal

pub returns-then-is_some : goal.returns-then-is_some
returns-then-is_some c =
    let words = c.args.words.now in
    told-first (numbered 22 built_order_rule ∷ []) (numbered 23 built_fingerprint_rule ∷ numbered 24 code_rule ∷ []) words c.of-first.result
    (one (numbered 22 built_order_rule) words c.in_ok-unordered.unordered c.of-first.result c.of-first.ensures c.in_ok-unordered.ensures) (sym c.is_some.ensures ∙ c.if-is_some.true)

pub returns-then-is_some-2 : goal.returns-then-is_some-2
returns-then-is_some-2 c =
    let words = c.args.words.now in
    told-rest (numbered 22 built_order_rule ∷ []) (numbered 23 built_fingerprint_rule ∷ numbered 24 code_rule ∷ []) words c.of-first.result c.of-second.result
    (one (numbered 22 built_order_rule) words c.in_ok-unordered.unordered c.of-first.result c.of-first.ensures c.in_ok-unordered.ensures) (sym c.is_some.ensures ∙ c.if-is_some.false)
    (told-first (numbered 23 built_fingerprint_rule ∷ []) (numbered 24 code_rule ∷ []) words c.of-second.result
    (one (numbered 23 built_fingerprint_rule) words c.in_ok-unprinted.unprinted c.of-second.result c.of-second.ensures c.in_ok-unprinted.ensures) (sym c.is_some-2.ensures ∙ c.if-is_some-2.true))

pub returns : goal.returns
returns c =
    let words = c.args.words.now in
    told-rest (numbered 22 built_order_rule ∷ []) (numbered 23 built_fingerprint_rule ∷ numbered 24 code_rule ∷ []) words c.of-first.result c.of.result
    (one (numbered 22 built_order_rule) words c.in_ok-unordered.unordered c.of-first.result c.of-first.ensures c.in_ok-unordered.ensures) (sym c.is_some.ensures ∙ c.if-is_some.false)
    (told-rest (numbered 23 built_fingerprint_rule ∷ []) (numbered 24 code_rule ∷ []) words c.of-second.result c.of.result
    (one (numbered 23 built_fingerprint_rule) words c.in_ok-unprinted.unprinted c.of-second.result c.of-second.ensures c.in_ok-unprinted.ensures) (sym c.is_some-2.ensures ∙ c.if-is_some-2.false)
    (one (numbered 24 code_rule) words c.in_ok-uncoded.uncoded c.of.result c.of.ensures c.in_ok-uncoded.ensures))
