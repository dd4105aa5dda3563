use Rattle.law_instances.proofs.FirstTable.{fresh_consistent, histories_consistent}
use Rattle.law_instances.proofs.WrittenState.{written_consistent}
use Rattle.law_instances.proofs.laws.consistency_law.Goals as goal

pub returns : goal.returns
returns c = record {
  formatted = λ segments some. fresh_consistent segments some;
  histories = λ segments entries some legal. histories_consistent segments some entries legal;
  written = written_consistent;
}
