use Rattle.image_layout.specs.Trees.{text_at}
use Rattle.image_layout.proofs.TextOrder.{Alike}
use Rattle.pm_model.proofs.texts.compare_text.Given as goal

abbrev pub invariant-loop-place : goal.invariant-loop-place
invariant-loop-place g l = Alike (text_at (g.M.Memory.device l.mem).cached l.at.0) l.bytes l.place
