use Rattle.std.proofs.Common.{◌∙◌}
use Rattle.image_rules.proofs.NameChecks.{since_none, since_tried}
use Rattle.image_rules.proofs.name_rules.since_fault.Goals as goal

pub returns-then-not-is_inner : goal.returns-then-not-is_inner
returns-then-not-is_inner c = since_none c.args.words.now c.args.block.0 c.args.number c.is_inner.result c.is_inner.ensures c.if-not-is_inner.true

pub returns : goal.returns
returns c =
    c.then_some.ensures
    ∙ since_tried c.args.words.now c.args.block.0 c.args.number c.is_inner.result c.args.column.0 c.since-place.result.0 c.is_inner.ensures c.if-not-is_inner.false c.requires.column c.since-place.ensures
