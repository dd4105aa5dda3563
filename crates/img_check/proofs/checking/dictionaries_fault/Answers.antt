use Rattle.image_layout.specs.Checks.{numbered}
use Rattle.image_layout.specs.SoundRules.{spare_slot_rule}
use Rattle.image_rules.proofs.NumberedFaults.{one}
use Rattle.img_check.proofs.checking.dictionaries_fault.Goals as goal

pub returns : goal.returns
returns c = one (numbered 26 spare_slot_rule) c.args.words.now c.in_ok-spare.spare c.of.result c.of.ensures c.in_ok-spare.ensures
