use Rattle.txn_object.proofs.ChangesHold.{own_segments, own_extension}
use Rattle.txn_object.proofs.owned.owned_segments_law.Goals as goal

pub returns : goal.returns
returns c = record {
  segments = own_segments;
  extension = own_extension;
}
