use Rattle.pm_image.proofs.Sound.{image_of}
use Rattle.pm_image.proofs.laws.faultless_bytes.Goals as goal

pub returns : goal.returns
returns c = image_of
