use Rattle.pm_model.proofs.ChangeLaw.{survives-from-words}
use Rattle.fp_tree.specs.Changes.{getting_first, insertion, splitting}
use Rattle.fp_tree.proofs.ChangesHold.{first_holds, insertion_holds, split_holds}
use Rattle.fp_tree.proofs.IndexInserted.{goes_on}
use Rattle.fp_tree.proofs.laws.changes_law.Goals as goal

pub returns : goal.returns
returns c = record {
  insertion = λ column before after i. survives-from-words (insertion column before after i) (insertion_holds column before after i);
  first = λ column choice. survives-from-words (getting_first column choice) (first_holds column choice);
  split = λ s. survives-from-words (splitting s) (split_holds s);
  again = goes_on;
}
