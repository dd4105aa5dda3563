use Rattle.std.proofs.Common.{◌≡◌, [], ◌∷◌, ◌++◌, List, ℕ, false, sym, ◌∙◌, arith}
use Rattle.std.specs.Prelude.{Option}
use Rattle.std.specs.Option.{is_some}
use Rattle.image_layout.specs.Checks.{Keeps, numbered, first_fault}
use Rattle.image_layout.specs.EntryRules.{magic_rule, table_count_rule, table_slot_rule, entries_rule}
use Rattle.image_layout.proofs.Faults.{keeps_all}
use Rattle.image_rules.specs.declared.numbered_rules.RuleFault.{RuleFault}
use Rattle.image_rules.specs.NumberedRules.{told, fixed_rules, structure_rules}
use Rattle.image_rules.proofs.NumberedFaults.{one, told-none, told-first, told-rest}
use Rattle.image_rules.proofs.numbered_rules.entry_fault.Goals as goal

-- the rules of tables that the others rely on
table_count : (words : List ℕ) (found : Option RuleFault) → told found ≡ first_fault fixed_rules words → is_some found ≡ false → Keeps words table_count_rule
table_count words found is none = keeps_all fixed_rules words (told-none fixed_rules words found is none) 3 (numbered 0 magic_rule) (omega arith)

table_slots : (words : List ℕ) (found : Option RuleFault) → told found ≡ first_fault fixed_rules words → is_some found ≡ false → Keeps words table_slot_rule
table_slots words found is none = keeps_all fixed_rules words (told-none fixed_rules words found is none) 8 (numbered 0 magic_rule) (omega arith)

pub structure_fault-structure-requires-clause-tables : goal.structure_fault-structure-requires-clause-tables
structure_fault-structure-requires-clause-tables c = table_count c.args.words.now c.fixed_fault-fixed.result c.fixed_fault-fixed.ensures (sym c.is_some.ensures ∙ c.if-is_some.false)

pub structure_fault-structure-requires-clause-slots : goal.structure_fault-structure-requires-clause-slots
structure_fault-structure-requires-clause-slots c = table_slots c.args.words.now c.fixed_fault-fixed.result c.fixed_fault-fixed.ensures (sym c.is_some.ensures ∙ c.if-is_some.false)

pub entries_fault-requires-clause-tables : goal.entries_fault-requires-clause-tables
entries_fault-requires-clause-tables c = table_count c.args.words.now c.fixed_fault-fixed.result c.fixed_fault-fixed.ensures (sym c.is_some.ensures ∙ c.if-is_some.false)

pub entries_fault-requires-clause-slots : goal.entries_fault-requires-clause-slots
entries_fault-requires-clause-slots c = table_slots c.args.words.now c.fixed_fault-fixed.result c.fixed_fault-fixed.ensures (sym c.is_some.ensures ∙ c.if-is_some.false)

pub entries_fault-requires-clause-arrays : goal.entries_fault-requires-clause-arrays
entries_fault-requires-clause-arrays c =
    keeps_all structure_rules c.args.words.now (told-none structure_rules c.args.words.now c.structure_fault-structure.result c.structure_fault-structure.ensures (sym c.is_some-2.ensures ∙ c.if-is_some-2.false)) 0 (numbered 0 magic_rule) (omega arith)

pub entries_fault-requires-clause-objects : goal.entries_fault-requires-clause-objects
entries_fault-requires-clause-objects c =
    keeps_all structure_rules c.args.words.now (told-none structure_rules c.args.words.now c.structure_fault-structure.result c.structure_fault-structure.ensures (sym c.is_some-2.ensures ∙ c.if-is_some-2.false)) 3 (numbered 0 magic_rule) (omega arith)

pub returns-then-is_some : goal.returns-then-is_some
returns-then-is_some c = told-first fixed_rules (structure_rules ++ numbered 15 entries_rule ∷ []) c.args.words.now c.fixed_fault-fixed.result c.fixed_fault-fixed.ensures (sym c.is_some.ensures ∙ c.if-is_some.true)

pub returns-then-is_some-2 : goal.returns-then-is_some-2
returns-then-is_some-2 c =
    told-rest fixed_rules (structure_rules ++ numbered 15 entries_rule ∷ []) c.args.words.now c.fixed_fault-fixed.result c.structure_fault-structure.result c.fixed_fault-fixed.ensures (sym c.is_some.ensures ∙ c.if-is_some.false)
    (told-first structure_rules (numbered 15 entries_rule ∷ []) c.args.words.now c.structure_fault-structure.result c.structure_fault-structure.ensures (sym c.is_some-2.ensures ∙ c.if-is_some-2.true))

pub returns : goal.returns
returns c =
    told-rest fixed_rules (structure_rules ++ numbered 15 entries_rule ∷ []) c.args.words.now c.fixed_fault-fixed.result c.of.result c.fixed_fault-fixed.ensures (sym c.is_some.ensures ∙ c.if-is_some.false)
    (told-rest structure_rules (numbered 15 entries_rule ∷ []) c.args.words.now c.structure_fault-structure.result c.of.result c.structure_fault-structure.ensures (sym c.is_some-2.ensures ∙ c.if-is_some-2.false)
    (one (numbered 15 entries_rule) c.args.words.now c.entries_fault.result c.of.result c.of.ensures c.entries_fault.ensures))
