use Rattle.std.proofs.Common.{ℕ, List, ap, subst}
use Rattle.pm_model.specs.Device.{Device}
use Rattle.session_serve.specs.Parts.{RanWords}
use Rattle.session_serve.specs.Runs.{outputs}
use Rattle.session_serve.proofs.Served.{ends-ran, takes-on}
use Rattle.session_serve.proofs.serving.read_and_play.Goals as goal

pub returns-clause-ends : goal.returns-clause-ends
returns-clause-ends g c =
    ends-ran c.args.cut c.args.keep _ _ _ _ _ _ _ _ c.in-Ok.words.items c.in-Ok-read_lines.script c.in-Ok.ensures.read c.in-Ok-read_lines.ensures.read c.play_and_write.result
    (subst (λ (words : List ℕ). RanWords c.play_and_write.result c.args.cut c.args.keep words c.in-Ok-read_lines.script
    (outputs (g.J.Sink.state c.args.image_out.now) (g.O.Sink.state c.args.out.now)) (outputs (g.J.Sink.state c.play_and_write.new.image_out) (g.O.Sink.state c.play_and_write.new.out)))
    (ap (λ (d : Device). d.cached) c.in-Ok-new.ensures) c.play_and_write.ensures.ran)

pub returns-clause-taken : goal.returns-clause-taken
returns-clause-taken g c = takes-on c.play_and_write.result c.read_lines.result c.in-Ok-read_lines.script _ _ c.in-Ok-read_lines.is c.read_lines.ensures.taken

pub returns-clause-image_taken : goal.returns-clause-image_taken
returns-clause-image_taken g c = takes-on c.play_and_write.result c.read_image.result c.in-Ok.words _ _ c.in-Ok.is c.read_image.ensures.taken
