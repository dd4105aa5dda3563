use Rattle.std.proofs.Common.{sym, ◌∙◌, below_more, arith}
use Rattle.image_rules.proofs.NameChecks.{byte_fails, bytes_none}
use Rattle.image_rules.proofs.name_rules.padded_name_fault.Goals as goal

pub loop-byte-preserved : goal.loop-byte-preserved
loop-byte-preserved c = below_more _ _ c.loop-byte.invariant (sym c.is_padded_name_byte.ensures ∙ c.if-not-is_padded_name_byte.false)

pub returns-then-not-is_padded_name_byte : goal.returns-then-not-is_padded_name_byte
returns-then-not-is_padded_name_byte c =
    byte_fails c.args.words.now c.args.name.0 c.loop-byte.byte (omega (arith, c.loop-byte-test.true)) c.loop-byte.invariant (sym c.is_padded_name_byte.ensures ∙ c.if-not-is_padded_name_byte.true)

pub returns : goal.returns
returns c = bytes_none c.args.words.now c.args.name.0 (λ x lt. c.loop-byte.invariant x (omega (arith, lt, c.loop-byte-test.false)))
