use Rattle.std.proofs.Common.{refl}
use Rattle.pm_model.proofs.ChangeLaw.{survives-from-words}
use Rattle.image_layout.proofs.SoundApart.{intact_apart}
use Rattle.pmem_recover.specs.VersionStep.{version_step}
use Rattle.pmem_recover.proofs.VersionChanges.{version_holds}
use Rattle.pmem_recover.proofs.laws.version_law.Goals as goal

pub returns : goal.returns
returns c = record {
  survives = survives-from-words version_step version_holds;
  intact = λ words image intact. record {
    rules = intact.entry;
    owners = intact_apart words intact;
    segments = image.segments;
    some = image.one_or_more;
  };
  none = λ words second. rw second refl;
}
