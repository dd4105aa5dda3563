use Rattle.std.proofs.Common.{[], ◌∷◌}
use Rattle.image_layout.specs.Checks.{numbered}
use Rattle.image_layout.specs.EntryRules.{magic_rule, version_rule, last_rule, table_count_rule}
use Rattle.image_rules.proofs.NumberedFaults.{one, both}
use Rattle.image_rules.proofs.numbered_rules.word_fault.Goals as goal

pub returns : goal.returns
returns c =
    let words = c.args.words.now in
    let magic = one (numbered 1 magic_rule) words c.magic_fault.result c.of-magic.result c.of-magic.ensures c.magic_fault.ensures in
    let version = one (numbered 2 version_rule) words c.version_fault.result c.of-version.result c.of-version.ensures c.version_fault.ensures in
    let last = one (numbered 3 last_rule) words c.last_fault.result c.of-last.result c.of-last.ensures c.last_fault.ensures in
    let tables = one (numbered 4 table_count_rule) words c.table_count_fault.result c.of-tables.result c.of-tables.ensures c.table_count_fault.ensures in
    both (numbered 1 magic_rule ∷ numbered 2 version_rule ∷ numbered 3 last_rule ∷ []) (numbered 4 table_count_rule ∷ []) words c.or-2.result c.of-tables.result c.or-3.result c.or-3.ensures
    (both (numbered 1 magic_rule ∷ numbered 2 version_rule ∷ []) (numbered 3 last_rule ∷ []) words c.or.result c.of-last.result c.or-2.result c.or-2.ensures
    (both (numbered 1 magic_rule ∷ []) (numbered 2 version_rule ∷ []) words c.of-magic.result c.of-version.result c.or.result c.or.ensures magic version) last) tables
