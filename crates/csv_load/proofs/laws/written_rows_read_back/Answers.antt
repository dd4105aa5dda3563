use Rattle.csv_load.proofs.ReadBack.{reads_back_rows}
use Rattle.csv_load.proofs.laws.written_rows_read_back.Goals as goal

pub returns : goal.returns
returns c = reads_back_rows
