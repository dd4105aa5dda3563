use Rattle.law_instances.proofs.FirstText.{frees_pages, frees_slot}
use Rattle.law_instances.proofs.blocks.freeing_law.Goals as goal

pub returns : goal.returns
returns c = record { slot = frees_slot; pages = frees_pages }
