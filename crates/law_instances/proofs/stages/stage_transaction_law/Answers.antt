use Rattle.law_instances.proofs.StageTransaction.{again, begun_shown, clears, commit, entered_shown, enters, has_object, none_shown, over, packed, retires}
use Rattle.law_instances.proofs.stages.stage_transaction_law.Goals as goal

pub returns : goal.returns
returns c = record {
  begins = λ segments object is. (has_object segments object is, none_shown segments object is);
  enters = λ segments object entry is spelt. enters segments object is entry spelt;
  begun = λ segments object is. begun_shown segments object is;
  entered = λ segments object entry is spelt. entered_shown segments object is entry spelt;
  retires = λ segments object entry is spelt. retires segments object is entry spelt;
  clears = λ segments object entry is spelt. (clears segments object is entry spelt, commit segments object is entry spelt, packed segments object is entry spelt);
  over = λ segments object entry is spelt. over segments object is entry spelt;
  again = λ segments object entry other is spelt says. again segments object is entry spelt other says;
}
