use Rattle.std.proofs.Common.{append_assoc}
use Rattle.session_serve.proofs.status.bad_image.Goals as goal

pub returns : goal.returns
returns c = simp append_assoc c.format.ensures.ok
