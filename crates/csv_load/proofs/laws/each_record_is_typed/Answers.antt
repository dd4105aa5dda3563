use Rattle.csv_load.proofs.Places.{types-each}
use Rattle.csv_load.proofs.laws.each_record_is_typed.Goals as goal

pub returns : goal.returns
returns c = types-each
