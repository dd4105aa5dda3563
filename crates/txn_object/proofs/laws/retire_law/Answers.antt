use Rattle.pm_model.proofs.ChangeLaw.{survives-from-words}
use Rattle.txn_object.specs.Changes.{retiring}
use Rattle.txn_object.proofs.ChangesHold.{retire_holds, retired_shows, retired_empty, retired_begins}
use Rattle.txn_object.proofs.laws.retire_law.Goals as goal

pub returns : goal.returns
returns c = record {
  survives = λ r. survives-from-words (retiring r) (retire_holds r);
  shows = λ r old words clears retired commit. retired_shows r old words clears retired commit;
  empty = λ r old words nth clears retired lt. retired_empty r old words clears retired nth lt;
  begins = λ r old words entry clears retired spelt. retired_begins r old words clears retired entry spelt;
}
