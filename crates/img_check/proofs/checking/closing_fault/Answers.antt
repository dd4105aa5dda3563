use Rattle.std.proofs.Common.{[], ◌∷◌}
use Rattle.image_layout.specs.Checks.{numbered}
use Rattle.image_layout.specs.SoundRules.{idle_rule, split_log_rule, closed_rule}
use Rattle.image_rules.proofs.NumberedFaults.{one, both}
use Rattle.img_check.proofs.checking.closing_fault.Goals as goal

pub returns : goal.returns
returns c =
    let words = c.args.words.now in
    let idle = one (numbered 16 idle_rule) words c.idle_fault.result c.of-idle.result c.of-idle.ensures c.idle_fault.ensures in
    let log = one (numbered 17 split_log_rule) words c.split_log_fault.result c.of-log.result c.of-log.ensures c.split_log_fault.ensures in
    let closed = one (numbered 18 closed_rule) words c.closed_fault.result c.of-closed.result c.of-closed.ensures c.closed_fault.ensures in
    both (numbered 16 idle_rule ∷ numbered 17 split_log_rule ∷ []) (numbered 18 closed_rule ∷ []) words c.or.result c.of-closed.result c.or-2.result c.or-2.ensures
    (both (numbered 16 idle_rule ∷ []) (numbered 17 split_log_rule ∷ []) words c.of-idle.result c.of-log.result c.or.result c.or.ensures idle log) closed
