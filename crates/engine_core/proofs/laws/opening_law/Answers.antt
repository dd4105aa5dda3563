use Rattle.engine_core.proofs.FreshCore.{state-at_rest}
use Rattle.engine_core.proofs.FitsSound.{fits-recoverable, recoverable-fits, accepted-none, none-accepted, sound-idle, sound-recovered, sound-recoverable, sound-fits}
use Rattle.engine_core.proofs.OpeningCuts.{opening-is-plan, opening-reaches, opening-cut, formatted-sound}
use Rattle.engine_core.proofs.laws.opening_law.Goals as goal
use Rattle.engine_core.specs.Stage.{stage_words}

pub returns : goal.returns
returns c = record {
  plan = opening-is-plan;
  reaches = opening-reaches;
  cut = λ words k image size recoverable cut. opening-cut words size recoverable k image cut.most cut.left_by;
  fits = λ words size. (recoverable-fits words size, fits-recoverable words size);
  faultless = λ words size. (none-accepted words size, λ both. accepted-none words size both.0 both.1);
  accepted = λ words size recoverable. accepted-none words size recoverable.entry recoverable.sound;
  sound = λ words sound. (sound-idle words sound, sound-recovered words sound);
  sound_fits = λ words sound. (sound-recoverable words sound, sound-fits words sound);
  formatted = λ segments some. (formatted-sound segments some, sound-recoverable (stage_words segments) (formatted-sound segments some), state-at_rest segments some);
}
