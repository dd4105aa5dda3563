use Rattle.shown_state.proofs.Composed.{parts_recover, steps_make_opening, steps_keep_cuts}
use Rattle.shown_state.proofs.Ends.{end_is_sound}
use Rattle.shown_state.proofs.Recovering.{steps_recover}
use Rattle.shown_state.proofs.Sounds.{intact_fits, sound_fits}
use Rattle.shown_state.proofs.laws.fits_law.Goals as goal

pub returns : goal.returns
returns c = record { opening = steps_make_opening; words = parts_recover; cuts = steps_keep_cuts; end = λ words fits mended. end_is_sound words fits mended.0 mended.1; recovers = steps_recover; intact = intact_fits; sound = sound_fits }
