use Rattle.catalog.proofs.Rebuilding.{table_records}
use Rattle.catalog.proofs.Records.{record_within}
use Rattle.catalog.proofs.laws.records_law.Goals as goal

pub returns : goal.returns
returns c = record {
  published = λ words table whole count slots lt. table_records words whole count slots table lt;
  within = record_within;
}
