use Rattle.pm_model.proofs.ChangeLaw.{survives-from-words}
use Rattle.txn_object.specs.Changes.{extending}
use Rattle.txn_object.proofs.ChangesHold.{extension_holds, intact_extension, place_object}
use Rattle.txn_object.proofs.HalfWay.{half_way}
use Rattle.txn_object.proofs.laws.extension_law.Goals as goal

pub returns : goal.returns
returns c = record {
  survives = λ e. survives-from-words (extending e) (extension_holds e);
  half_way = λ base e index may is. half_way base e may index is;
  object = place_object;
  intact = intact_extension;
}
