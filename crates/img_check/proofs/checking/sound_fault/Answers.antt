use Rattle.std.proofs.Common.{◌≡◌, ℕ, ◌<◌, ◌++◌, false, List, length, get_or, ◌∙◌, sym, arith}
use Rattle.std.specs.Prelude.{Option}
use Rattle.std.specs.Option.{is_some}
use Rattle.image_layout.specs.Checks.{Keeps, numbered, first_fault}
use Rattle.image_layout.specs.EntryRules.{magic_rule}
use Rattle.image_layout.proofs.Faults.{keeps_all}
use Rattle.image_rules.specs.declared.numbered_rules.RuleFault.{RuleFault}
use Rattle.image_rules.specs.NumberedRules.{told}
use Rattle.image_rules.proofs.NumberedFaults.{told-none, told-first, told-rest}
use Rattle.img_check.specs.StandingRules.{rules_without_memory, owner_rules, pair_rules, dictionary_rules, content_rules}
use Rattle.img_check.proofs.checking.sound_fault.Goals as goal

-- a rule before those for which memory is taken
kept : (words : List ℕ) (found : Option RuleFault) → told found ≡ first_fault rules_without_memory words → is_some found ≡ false → (k : ℕ) → k < length rules_without_memory
    → Keeps words (get_or rules_without_memory k (numbered 0 magic_rule)).rule
kept words found is none k lt = keeps_all rules_without_memory words (told-none rules_without_memory words found is none) k (numbered 0 magic_rule) lt

pub owners_fault-requires-clause-tables : goal.owners_fault-requires-clause-tables
owners_fault-requires-clause-tables c = kept c.args.words.now c.standing_fault-standing.result c.standing_fault-standing.ensures (sym c.is_some.ensures ∙ c.if-is_some.false) 3 (omega arith)

pub owners_fault-requires-clause-slots : goal.owners_fault-requires-clause-slots
owners_fault-requires-clause-slots c = kept c.args.words.now c.standing_fault-standing.result c.standing_fault-standing.ensures (sym c.is_some.ensures ∙ c.if-is_some.false) 8 (omega arith)

pub owners_fault-requires-clause-objects : goal.owners_fault-requires-clause-objects
owners_fault-requires-clause-objects c = kept c.args.words.now c.standing_fault-standing.result c.standing_fault-standing.ensures (sym c.is_some.ensures ∙ c.if-is_some.false) 12 (omega arith)

pub content_fault-requires-clause-tables : goal.content_fault-requires-clause-tables
content_fault-requires-clause-tables c = kept c.args.words.now c.standing_fault-standing.result c.standing_fault-standing.ensures (sym c.is_some.ensures ∙ c.if-is_some.false) 3 (omega arith)

pub content_fault-requires-clause-slots : goal.content_fault-requires-clause-slots
content_fault-requires-clause-slots c = kept c.args.words.now c.standing_fault-standing.result c.standing_fault-standing.ensures (sym c.is_some.ensures ∙ c.if-is_some.false) 8 (omega arith)

pub content_fault-requires-clause-arrays : goal.content_fault-requires-clause-arrays
content_fault-requires-clause-arrays c = kept c.args.words.now c.standing_fault-standing.result c.standing_fault-standing.ensures (sym c.is_some.ensures ∙ c.if-is_some.false) 9 (omega arith)

pub pairs_fault-requires-clause-tables : goal.pairs_fault-requires-clause-tables
pairs_fault-requires-clause-tables c = kept c.args.words.now c.standing_fault-standing.result c.standing_fault-standing.ensures (sym c.is_some.ensures ∙ c.if-is_some.false) 3 (omega arith)

pub pairs_fault-requires-clause-slots : goal.pairs_fault-requires-clause-slots
pairs_fault-requires-clause-slots c = kept c.args.words.now c.standing_fault-standing.result c.standing_fault-standing.ensures (sym c.is_some.ensures ∙ c.if-is_some.false) 8 (omega arith)

pub pairs_fault-requires-clause-arrays : goal.pairs_fault-requires-clause-arrays
pairs_fault-requires-clause-arrays c = kept c.args.words.now c.standing_fault-standing.result c.standing_fault-standing.ensures (sym c.is_some.ensures ∙ c.if-is_some.false) 9 (omega arith)

pub pairs_fault-requires-clause-trees : goal.pairs_fault-requires-clause-trees
pairs_fault-requires-clause-trees c = kept c.args.words.now c.standing_fault-standing.result c.standing_fault-standing.ensures (sym c.is_some.ensures ∙ c.if-is_some.false) 10 (omega arith)

pub pairs_fault-requires-clause-logs : goal.pairs_fault-requires-clause-logs
pairs_fault-requires-clause-logs c = kept c.args.words.now c.standing_fault-standing.result c.standing_fault-standing.ensures (sym c.is_some.ensures ∙ c.if-is_some.false) 15 (omega arith)

pub dictionaries_fault-requires-clause-tables : goal.dictionaries_fault-requires-clause-tables
dictionaries_fault-requires-clause-tables c = kept c.args.words.now c.standing_fault-standing.result c.standing_fault-standing.ensures (sym c.is_some.ensures ∙ c.if-is_some.false) 3 (omega arith)

pub dictionaries_fault-requires-clause-slots : goal.dictionaries_fault-requires-clause-slots
dictionaries_fault-requires-clause-slots c = kept c.args.words.now c.standing_fault-standing.result c.standing_fault-standing.ensures (sym c.is_some.ensures ∙ c.if-is_some.false) 8 (omega arith)

pub dictionaries_fault-requires-clause-arrays : goal.dictionaries_fault-requires-clause-arrays
dictionaries_fault-requires-clause-arrays c = kept c.args.words.now c.standing_fault-standing.result c.standing_fault-standing.ensures (sym c.is_some.ensures ∙ c.if-is_some.false) 9 (omega arith)

pub dictionaries_fault-requires-clause-trees : goal.dictionaries_fault-requires-clause-trees
dictionaries_fault-requires-clause-trees c = kept c.args.words.now c.standing_fault-standing.result c.standing_fault-standing.ensures (sym c.is_some.ensures ∙ c.if-is_some.false) 10 (omega arith)

pub dictionaries_fault-requires-clause-logs : goal.dictionaries_fault-requires-clause-logs
dictionaries_fault-requires-clause-logs c = kept c.args.words.now c.standing_fault-standing.result c.standing_fault-standing.ensures (sym c.is_some.ensures ∙ c.if-is_some.false) 15 (omega arith)

pub returns-then-is_some-clause-found : goal.returns-then-is_some-clause-found
returns-then-is_some-clause-found c =
    told-first rules_without_memory (owner_rules ++ pair_rules ++ dictionary_rules ++ content_rules) c.args.words.now c.standing_fault-standing.result c.standing_fault-standing.ensures (sym c.is_some.ensures ∙ c.if-is_some.true)

pub returns-then-is_some-2-clause-found : goal.returns-then-is_some-2-clause-found
returns-then-is_some-2-clause-found c =
    told-rest rules_without_memory (owner_rules ++ pair_rules ++ dictionary_rules ++ content_rules) c.args.words.now c.standing_fault-standing.result c.in_ok-owners.owners c.standing_fault-standing.ensures (sym c.is_some.ensures ∙ c.if-is_some.false)
    (told-first owner_rules (pair_rules ++ dictionary_rules ++ content_rules) c.args.words.now c.in_ok-owners.owners c.in_ok-owners.ensures (sym c.is_some-2.ensures ∙ c.if-is_some-2.true))

pub returns-then-is_some-3-clause-found : goal.returns-then-is_some-3-clause-found
returns-then-is_some-3-clause-found c =
    told-rest rules_without_memory (owner_rules ++ pair_rules ++ dictionary_rules ++ content_rules) c.args.words.now c.standing_fault-standing.result c.in_ok-pairs.pairs c.standing_fault-standing.ensures (sym c.is_some.ensures ∙ c.if-is_some.false)
    (told-rest owner_rules (pair_rules ++ dictionary_rules ++ content_rules) c.args.words.now c.in_ok-owners.owners c.in_ok-pairs.pairs c.in_ok-owners.ensures (sym c.is_some-2.ensures ∙ c.if-is_some-2.false)
    (told-first pair_rules (dictionary_rules ++ content_rules) c.args.words.now c.in_ok-pairs.pairs c.in_ok-pairs.ensures (sym c.is_some-3.ensures ∙ c.if-is_some-3.true)))

pub returns-then-is_some-4-clause-found : goal.returns-then-is_some-4-clause-found
returns-then-is_some-4-clause-found c =
    told-rest rules_without_memory (owner_rules ++ pair_rules ++ dictionary_rules ++ content_rules) c.args.words.now c.standing_fault-standing.result c.in_ok-dictionaries.dictionaries c.standing_fault-standing.ensures (sym c.is_some.ensures ∙ c.if-is_some.false)
    (told-rest owner_rules (pair_rules ++ dictionary_rules ++ content_rules) c.args.words.now c.in_ok-owners.owners c.in_ok-dictionaries.dictionaries c.in_ok-owners.ensures (sym c.is_some-2.ensures ∙ c.if-is_some-2.false)
    (told-rest pair_rules (dictionary_rules ++ content_rules) c.args.words.now c.in_ok-pairs.pairs c.in_ok-dictionaries.dictionaries c.in_ok-pairs.ensures (sym c.is_some-3.ensures ∙ c.if-is_some-3.false)
    (told-first dictionary_rules content_rules c.args.words.now c.in_ok-dictionaries.dictionaries c.in_ok-dictionaries.ensures (sym c.is_some-4.ensures ∙ c.if-is_some-4.true))))

pub returns-clause-found : goal.returns-clause-found
returns-clause-found c =
    told-rest rules_without_memory (owner_rules ++ pair_rules ++ dictionary_rules ++ content_rules) c.args.words.now c.standing_fault-standing.result c.content_fault.result c.standing_fault-standing.ensures (sym c.is_some.ensures ∙ c.if-is_some.false)
    (told-rest owner_rules (pair_rules ++ dictionary_rules ++ content_rules) c.args.words.now c.in_ok-owners.owners c.content_fault.result c.in_ok-owners.ensures (sym c.is_some-2.ensures ∙ c.if-is_some-2.false)
    (told-rest pair_rules (dictionary_rules ++ content_rules) c.args.words.now c.in_ok-pairs.pairs c.content_fault.result c.in_ok-pairs.ensures (sym c.is_some-3.ensures ∙ c.if-is_some-3.false)
    (told-rest dictionary_rules content_rules c.args.words.now c.in_ok-dictionaries.dictionaries c.content_fault.result c.in_ok-dictionaries.ensures (sym c.is_some-4.ensures ∙ c.if-is_some-4.false) c.content_fault.ensures)))
