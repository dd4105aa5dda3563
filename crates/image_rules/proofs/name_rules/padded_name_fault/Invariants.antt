use Rattle.image_rules.proofs.NameChecks.{BytesBelow}
use Rattle.image_rules.proofs.name_rules.padded_name_fault.Given as goal

abbrev pub invariant-loop-byte : goal.invariant-loop-byte
invariant-loop-byte l = BytesBelow l.words l.name.0 l.byte
