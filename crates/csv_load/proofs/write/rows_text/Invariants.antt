use Rattle.std.proofs.Common.{◌≡◌, Some, false, map, take, true}
use Rattle.csv.specs.Writing.{default_writer, fields_written, has_written, text_written, with_flexible, writer_setup}
use Rattle.csv_load.specs.Written.{text_of_rows}
use Rattle.csv_load.proofs.write.rows_text.Given as goal

abbrev pub invariant-loop-row : goal.invariant-loop-row
invariant-loop-row l = record {
  setup : writer_setup l.writer ≡ with_flexible default_writer true;
  fields : fields_written l.writer ≡ 0;
  wrote : has_written l.writer ≡ false;
  so_far : text_written (λ v. Some v.items) l.writer ≡ Some (text_of_rows (map (λ row. row.now) (take l.row-index l.rows)));
}
