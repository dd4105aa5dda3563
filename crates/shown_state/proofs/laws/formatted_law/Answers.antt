use Rattle.shown_state.proofs.FormattedImage.{formatted_is_sound}
use Rattle.shown_state.proofs.laws.formatted_law.Goals as goal

pub returns : goal.returns
returns c = formatted_is_sound
