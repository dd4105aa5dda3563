use Rattle.pm_model.proofs.ChangeLaw.{survives-from-words}
use Rattle.catalog.specs.Changes.{creation}
use Rattle.catalog.proofs.ChangesHold.{creation_holds, published_before, published_after, tables_shown_before, tables_shown_after}
use Rattle.catalog.proofs.laws.creation_law.Goals as goal

pub returns : goal.returns
returns c = record {
  survives = λ g. survives-from-words (creation g) (creation_holds g);
  before = λ base words g is before. published_before base words g is before;
  after = λ base words g is named after. published_after base words g is named after;
  shown_before = λ base words g is before. tables_shown_before base words g is before;
  shown_after = λ base words g is named after. tables_shown_after base words g is named after;
}
