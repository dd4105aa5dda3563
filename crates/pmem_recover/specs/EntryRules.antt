-- The numbered rules of every image that a power cut can leave, as far as they stand. They are tried in this order.
use Rattle.std.specs.Prelude.{List}
use Rattle.image_layout.specs.Checks.{Numbered}
use Rattle.image_rules.specs.NumberedRules as rules

-- those of the first words, of the heap, of the lanes, of tables and of transaction objects
abbrev pub entry_rules : List Numbered
entry_rules = rules.entry_rules
