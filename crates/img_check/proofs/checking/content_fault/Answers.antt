use Rattle.std.proofs.Common.{[], ◌∷◌}
use Rattle.image_layout.specs.Checks.{numbered}
use Rattle.image_layout.specs.SoundRules.{stamp_rule, given_back_rule, distinct_name_rule, latest_version_rule}
use Rattle.image_rules.proofs.NumberedFaults.{one, both}
use Rattle.img_check.proofs.checking.content_fault.Goals as goal

pub returns : goal.returns
returns c =
    let words = c.args.words.now in
    let stamps = one (numbered 27 stamp_rule) words c.stamp_fault.result c.of-stamps.result c.of-stamps.ensures c.stamp_fault.ensures in
    let given_back = one (numbered 29 given_back_rule) words c.given_back_fault.result c.of-given_back.result c.of-given_back.ensures c.given_back_fault.ensures in
    let names = one (numbered 30 distinct_name_rule) words c.distinct_name_fault.result c.of-names.result c.of-names.ensures c.distinct_name_fault.ensures in
    let version = one (numbered 31 latest_version_rule) words c.latest_version_fault.result c.of-version.result c.of-version.ensures c.latest_version_fault.ensures in
    both (numbered 27 stamp_rule ∷ numbered 29 given_back_rule ∷ numbered 30 distinct_name_rule ∷ []) (numbered 31 latest_version_rule ∷ []) words c.or-2.result c.of-version.result c.or-3.result c.or-3.ensures
    (both (numbered 27 stamp_rule ∷ numbered 29 given_back_rule ∷ []) (numbered 30 distinct_name_rule ∷ []) words c.or.result c.of-names.result c.or-2.result c.or-2.ensures
    (both (numbered 27 stamp_rule ∷ []) (numbered 29 given_back_rule ∷ []) words c.of-stamps.result c.of-given_back.result c.or.result c.or.ensures stamps given_back) names) version
