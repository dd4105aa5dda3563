use Rattle.txn_object.proofs.Spared.{keeps_shows, keeps_object, keeps_packed, keeps_places, spared_shows}
use Rattle.txn_object.proofs.laws.object_law.Goals as goal

pub returns : goal.returns
returns c = record {
  shows = λ old new object transaction keeps shows. keeps_shows old new object keeps transaction shows;
  rule = λ old new object keeps last has. keeps_object old new object keeps last has;
  packed = λ old new object keeps packed. keeps_packed old new object keeps packed;
  places = λ old new object keeps. keeps_places old new object keeps;
  parts = λ words object transaction parts spares shows. spared_shows words object transaction parts spares shows;
}
