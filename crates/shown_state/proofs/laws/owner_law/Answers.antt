use Rattle.image_layout.proofs.SoundApart.{intact_apart}
use Rattle.shown_state.proofs.OneOwner.{intact_has_owners}
use Rattle.shown_state.proofs.laws.owner_law.Goals as goal

pub returns : goal.returns
returns c = record { owners = intact_has_owners; apart = intact_apart }
