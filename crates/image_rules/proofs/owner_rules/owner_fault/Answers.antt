use Rattle.std.proofs.Common.{sym, ◌∙◌}
use Rattle.image_rules.proofs.OwnerChecks.{no_word, blocks_all, block_passes, block_fails, blocks_end}
use Rattle.image_rules.proofs.owner_rules.owner_fault.Goals as goal

pub loop-owner-init : goal.loop-owner-init
loop-owner-init c = blocks_all c.args.words.now

pub returns-then-not-names_block : goal.returns-then-not-names_block
returns-then-not-names_block c =
    block_fails c.args.words.now c.deref-owner-items.result.now c.loop-owner.owner-index no_word (c.deref-owner-items.ensures.value ∙ c.in_ok-owners.ensures) c.loop-owner-test.true
    (sym c.names_block.ensures ∙ c.if-not-names_block.true)
    ∙ sym c.loop-owner.invariant

pub loop-owner-preserved : goal.loop-owner-preserved
loop-owner-preserved c =
    c.loop-owner.invariant
    ∙ block_passes c.args.words.now c.deref-owner-items.result.now c.loop-owner.owner-index no_word (c.deref-owner-items.ensures.value ∙ c.in_ok-owners.ensures) c.loop-owner-test.true
    (sym c.names_block.ensures ∙ c.if-not-names_block.false)

pub returns : goal.returns
returns c = sym (c.loop-owner.invariant ∙ blocks_end c.args.words.now c.deref-owner-items.result.now c.loop-owner.owner-index (c.deref-owner-items.ensures.value ∙ c.in_ok-owners.ensures) c.loop-owner-test.false)
