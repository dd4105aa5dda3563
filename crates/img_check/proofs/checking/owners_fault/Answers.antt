use Rattle.std.proofs.Common.{[], ◌∷◌, ◌∙◌, sym}
use Rattle.image_layout.specs.Checks.{numbered}
use Rattle.image_rules.specs.BuiltOwners.{built_owner_rule, built_single_owner_rule, built_owned_rule}
use Rattle.image_rules.proofs.NumberedFaults.{one, told-first, told-rest}
use Rattle.img_check.proofs.checking.owners_fault.Goals as goal

pub returns-then-is_some : goal.returns-then-is_some
returns-then-is_some c =
    let words = c.args.words.now in
    told-first (numbered 19 built_owner_rule ∷ []) (numbered 20 built_single_owner_rule ∷ numbered 21 built_owned_rule ∷ []) words c.of-first.result
    (one (numbered 19 built_owner_rule) words c.in_ok-named.named c.of-first.result c.of-first.ensures c.in_ok-named.ensures) (sym c.is_some.ensures ∙ c.if-is_some.true)

pub returns-then-is_some-2 : goal.returns-then-is_some-2
returns-then-is_some-2 c =
    let words = c.args.words.now in
    told-rest (numbered 19 built_owner_rule ∷ []) (numbered 20 built_single_owner_rule ∷ numbered 21 built_owned_rule ∷ []) words c.of-first.result c.of-second.result
    (one (numbered 19 built_owner_rule) words c.in_ok-named.named c.of-first.result c.of-first.ensures c.in_ok-named.ensures) (sym c.is_some.ensures ∙ c.if-is_some.false)
    (told-first (numbered 20 built_single_owner_rule ∷ []) (numbered 21 built_owned_rule ∷ []) words c.of-second.result
    (one (numbered 20 built_single_owner_rule) words c.in_ok-single.single c.of-second.result c.of-second.ensures c.in_ok-single.ensures) (sym c.is_some-2.ensures ∙ c.if-is_some-2.true))

pub returns : goal.returns
returns c =
    let words = c.args.words.now in
    told-rest (numbered 19 built_owner_rule ∷ []) (numbered 20 built_single_owner_rule ∷ numbered 21 built_owned_rule ∷ []) words c.of-first.result c.of.result
    (one (numbered 19 built_owner_rule) words c.in_ok-named.named c.of-first.result c.of-first.ensures c.in_ok-named.ensures) (sym c.is_some.ensures ∙ c.if-is_some.false)
    (told-rest (numbered 20 built_single_owner_rule ∷ []) (numbered 21 built_owned_rule ∷ []) words c.of-second.result c.of.result
    (one (numbered 20 built_single_owner_rule) words c.in_ok-single.single c.of-second.result c.of-second.ensures c.in_ok-single.ensures) (sym c.is_some-2.ensures ∙ c.if-is_some-2.false)
    (one (numbered 21 built_owned_rule) words c.in_ok-owned.owned c.of.result c.of.ensures c.in_ok-owned.ensures))
