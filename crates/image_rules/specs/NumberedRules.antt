-- The numbered rules of every image that a power cut can leave, as far as they stand. They are tried in this order.
use Rattle.std.specs.Prelude.{List, [], ◌∷◌, ◌++◌, Option, option_map}
use Rattle.image_layout.specs.Checks.{Fault, Numbered, numbered}
use Rattle.image_layout.specs.HeapRules.{reserved_rule, descriptor_rule, bitmap_rule, lane_rule}
use Rattle.image_layout.specs.EntryRules.{magic_rule, version_rule, last_rule, table_count_rule, table_slot_rule, arrays_rule, name_rule, objects_rule, entries_rule, tree_rule}
use Rattle.image_rules.specs.declared.numbered_rules.RuleFault.{RuleFault}

-- a fault as it is told, as one of the rules
abbrev pub told : Option RuleFault → Option Fault
told found = option_map (λ fault. record { rule = fault.rule; place = fault.place }) found

-- those of the first words
abbrev pub word_rules : List Numbered
word_rules = numbered 1 magic_rule ∷ numbered 2 version_rule ∷ numbered 3 last_rule ∷ numbered 4 table_count_rule ∷ []

-- those of pages and lanes
abbrev pub heap_rules : List Numbered
heap_rules = numbered 5 reserved_rule ∷ numbered 6 descriptor_rule ∷ numbered 7 bitmap_rule ∷ numbered 8 lane_rule ∷ []

-- these, and that of the table slots
abbrev pub fixed_rules : List Numbered
fixed_rules = word_rules ++ heap_rules ++ numbered 9 table_slot_rule ∷ []

-- those of what table slots name, and of transaction objects but for their entries
abbrev pub structure_rules : List Numbered
structure_rules =
    numbered 10 arrays_rule ∷ numbered 11 tree_rule ∷ numbered 12 name_rule ∷ numbered 14 objects_rule ∷ []

-- all of them: the entries of open transactions come last
abbrev pub entry_rules : List Numbered
entry_rules = fixed_rules ++ structure_rules ++ numbered 15 entries_rule ∷ []
