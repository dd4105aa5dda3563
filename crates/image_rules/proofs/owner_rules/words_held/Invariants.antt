use Rattle.std.proofs.Common.{take}
use Rattle.image_rules.specs.BuiltOwners.{HasWords}
use Rattle.image_rules.proofs.OwnedChecks.{words_of}
use Rattle.image_rules.proofs.owner_rules.words_held.Given as goal

abbrev pub invariant-loop-owner : goal.invariant-loop-owner
invariant-loop-owner l = HasWords l.held (words_of (take l.owner-index l.owners))
