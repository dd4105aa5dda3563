use Rattle.std.proofs.Common.{◌≡◌, ◌-◌}
use Rattle.image_layout.specs.Tables.{table_count}
use Rattle.image_layout.specs.Checks.{first_failing}
use Rattle.image_layout.specs.SoundRules.{distinct_name_rule}
use Rattle.image_rules.proofs.DistinctChecks.{tables_from}
use Rattle.image_rules.proofs.distinct_rules.distinct_name_fault.Given as goal

abbrev pub invariant-loop-table : goal.invariant-loop-table
invariant-loop-table l = first_failing (distinct_name_rule l.words) ≡ first_failing (tables_from l.words l.table (table_count l.words - l.table))
