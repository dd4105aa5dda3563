use Rattle.std.proofs.Common.{◌∙◌, sym, arith}
use Rattle.image_layout.specs.Checks.{numbered}
use Rattle.image_layout.specs.EntryRules.{magic_rule}
use Rattle.image_layout.proofs.Faults.{keeps_all}
use Rattle.image_rules.specs.NumberedRules.{entry_rules}
use Rattle.image_rules.proofs.NumberedFaults.{told-none, told-first, told-rest}
use Rattle.img_check.specs.StandingRules.{closing_rules}
use Rattle.img_check.proofs.checking.standing_fault.Goals as goal

pub closing_fault-requires-clause-tables : goal.closing_fault-requires-clause-tables
closing_fault-requires-clause-tables c =
    keeps_all entry_rules c.args.words.now (told-none entry_rules c.args.words.now c.entry_fault-entry.result c.entry_fault-entry.ensures (sym c.is_some.ensures ∙ c.if-is_some.false)) 3 (numbered 0 magic_rule) (omega arith)

pub closing_fault-requires-clause-slots : goal.closing_fault-requires-clause-slots
closing_fault-requires-clause-slots c =
    keeps_all entry_rules c.args.words.now (told-none entry_rules c.args.words.now c.entry_fault-entry.result c.entry_fault-entry.ensures (sym c.is_some.ensures ∙ c.if-is_some.false)) 8 (numbered 0 magic_rule) (omega arith)

pub closing_fault-requires-clause-objects : goal.closing_fault-requires-clause-objects
closing_fault-requires-clause-objects c =
    keeps_all entry_rules c.args.words.now (told-none entry_rules c.args.words.now c.entry_fault-entry.result c.entry_fault-entry.ensures (sym c.is_some.ensures ∙ c.if-is_some.false)) 12 (numbered 0 magic_rule) (omega arith)

pub returns-then-is_some : goal.returns-then-is_some
returns-then-is_some c = told-first entry_rules closing_rules c.args.words.now c.entry_fault-entry.result c.entry_fault-entry.ensures (sym c.is_some.ensures ∙ c.if-is_some.true)

pub returns : goal.returns
returns c = told-rest entry_rules closing_rules c.args.words.now c.entry_fault-entry.result c.closing_fault.result c.entry_fault-entry.ensures (sym c.is_some.ensures ∙ c.if-is_some.false) c.closing_fault.ensures
