use Rattle.image_rules.proofs.SoundFault.{sound_iff, version_iff, first_version_iff}
use Rattle.image_rules.proofs.sound_laws.sound_law.Goals as goal

pub returns : goal.returns
returns c = record { sound = sound_iff; version = version_iff; first_version = first_version_iff }
