use Rattle.session_serve.proofs.Dues.{determined, placed}
use Rattle.session_serve.proofs.laws.due_law.Goals as goal

pub returns : goal.returns
returns c = record { placed = λ words script played m front more behind ran moved. placed words script played m front more ran behind.split behind.some moved; determined = determined }
