use Rattle.std.proofs.Common.{◌≡◌, [], map, take}
use Rattle.csv.specs.Records.{fields_of, partial_of}
use Rattle.csv_load.specs.Written.{value_field}
use Rattle.csv_load.proofs.write.set_fields.Given as goal

abbrev pub invariant-loop-value : goal.invariant-loop-value
invariant-loop-value l = record {
  so_far : fields_of l.fields ≡ map value_field (take l.value-index l.row);
  whole : partial_of l.fields ≡ [];
}
