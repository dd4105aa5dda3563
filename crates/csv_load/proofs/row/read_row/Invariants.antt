use Rattle.std.proofs.Common.{◌≡◌, ◌+◌, drop, length}
use Rattle.csv.specs.Records.{fields_of}
use Rattle.csv_load.specs.Rows.{values_from}
use Rattle.csv_load.proofs.Fields.{values_before}
use Rattle.csv_load.proofs.row.read_row.Given as goal

abbrev pub invariant-loop-i : goal.invariant-loop-i
invariant-loop-i l = record {
  room : l.values.spare + l.i ≡ length l.columns;
  so_far : values_from 1 l.columns (fields_of l.fields)
      ≡ values_before l.values.items (values_from (l.i + 1) (drop l.i l.columns) (drop l.i (fields_of l.fields)));
}
