use Rattle.law_instances.proofs.FirstTable.{asked, created, grows, shown, published}
use Rattle.law_instances.proofs.laws.creation_law.Goals as goal

pub returns : goal.returns
returns c = record {
  asked = λ segments name columns is. asked segments is.some name columns is.few;
  created = λ segments name columns is. created segments is.some name columns is.few;
  grows = λ segments name columns is index index_of. grows segments is.some name columns is.few index index_of;
  shown = λ segments name columns is named. shown segments is.some name columns is.few named;
  published = λ segments name columns is named. published segments is.some name columns is.few named;
}
