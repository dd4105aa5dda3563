use Rattle.std.proofs.Common.{◌≡◌, ℕ, ◌+◌, ◌++◌, sym, ◌∙◌, ap, arith}
use Rattle.image_layout.specs.Owners.{owner_of, extension_owner}
use Rattle.image_layout.specs.Tables.{extension_count}
use Rattle.image_rules.proofs.OwnerWalk.{first_read, extensions_read, named_next, read, named}
use Rattle.image_rules.proofs.owner_words.push_extension_owners.Goals as goal

pub returns-then-is_first_version : goal.returns-then-is_first_version
returns-then-is_first_version c = first_read c.args.words.now c.args.block.0 c.args.owners.now.items (sym c.is_first_version.ensures ∙ c.if-is_first_version.true)

pub loop-number-preserved : goal.loop-number-preserved
loop-number-preserved c =
    named_next c.args.words.now (extension_owner c.args.words.now c.args.block.0) c.loop-number.number c.extension_pointer-pointer.result.0 48 c.args.owners.now.items c.loop-number.owners.items c.push_if_named.new.owners.items
    (ap (λ (p : ℕ). owner_of p 48) c.extension_pointer-pointer.ensures.place) c.loop-number.invariant c.in_ok-push_if_named.ensures

pub returns : goal.returns
returns c =
    let last : c.loop-number.number ≡ extension_count c.args.words.now c.args.block.0 + 1 = omega (arith, c.loop-number-test.false, c.loop-number.auto.number-end, c.columns_of.ensures.count, c.columns_in_block.ensures.count, c.columns_in_block.ensures.most) in
    extensions_read c.args.words.now c.args.block.0 c.args.owners.now.items c.loop-number.owners.items (sym c.is_first_version.ensures ∙ c.if-is_first_version.false)
    (c.loop-number.invariant ∙ ap (λ (k : ℕ). c.args.owners.now.items ++ read c.args.words.now (named c.args.words.now (extension_owner c.args.words.now c.args.block.0) k)) last)
