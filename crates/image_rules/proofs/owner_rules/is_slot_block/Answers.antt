use Rattle.std.proofs.Common.{rules}
use Rattle.image_rules.proofs.owner_rules.is_slot_block.Goals as goal

pub returns-then-slot-class_words : goal.returns-then-slot-class_words
returns-then-slot-class_words c = search rules
