-- What fits is recoverable, where the steps of opening keep it.
use Rattle.std.proofs.Common.{subst}
use Rattle.pm_model.proofs.Cuts.{each_cut-end}
use Rattle.shown_state.specs.Mending.{recovered}
use Rattle.shown_state.specs.OpeningParts.{opening_parts, FitsStill}
use Rattle.shown_state.specs.StepLaws.{StepsRecover}
use Rattle.shown_state.proofs.Composed.{steps_make_opening}
use Rattle.shown_state.proofs.Ends.{end_is_sound}

pub steps_recover : StepsRecover
steps_recover keep words image fits =
    let opens = steps_make_opening keep words image fits in
    let still = subst (FitsStill words) opens.reaches (each_cut-end (FitsStill words) (opening_parts words) words opens.cuts) in
    record { entry = fits.entry; sound = end_is_sound (recovered words) still.fits opens.end.0 opens.end.1; shown = still.shows; apart = fits.apart; logs = fits.logs }
