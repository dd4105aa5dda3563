use Rattle.law_instances.proofs.OneTransaction.{begins, enters, entered_shown, clears, commit, over, again}
use Rattle.law_instances.proofs.laws.transaction_law.Goals as goal

pub returns : goal.returns
returns c = record {
  begins = λ segments object is. begins segments object is;
  enters = λ segments object entry is spelt. enters segments object is entry spelt;
  entered = λ segments object entry is spelt. entered_shown segments object is entry spelt;
  clears = λ segments object entry is spelt. clears segments object is entry spelt;
  commit = λ segments object entry is spelt. commit segments object is entry spelt;
  over = λ segments object entry is spelt. over segments object is entry spelt;
  again = λ segments object entry other is spelt says. again segments object is entry spelt other says;
}
