use Rattle.side_by_side.proofs.Changed.{survives_beside}
use Rattle.side_by_side.proofs.laws.beside_law.Goals as goal

pub returns : goal.returns
returns g c = λ session places base is.
    survives_beside g.C.Changing.change g.P.Claim.holds g.Q.Claim.holds session places base is.law is.asked is.rests is.cuts is.end
