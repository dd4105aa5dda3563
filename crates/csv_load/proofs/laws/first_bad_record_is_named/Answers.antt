use Rattle.csv_load.proofs.Places.{first-bad}
use Rattle.csv_load.proofs.laws.first_bad_record_is_named.Goals as goal

pub returns : goal.returns
returns c = first-bad
