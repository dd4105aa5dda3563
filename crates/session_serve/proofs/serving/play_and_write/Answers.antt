use Rattle.session_serve.proofs.Served.{ran-words}
use Rattle.session_serve.proofs.serving.play_and_write.Goals as goal

pub returns-in-Ok-clause-ran : goal.returns-in-Ok-clause-ran
returns-in-Ok-clause-ran g c = ran-words c.write_left.result c.in-Ok.left.ending _ _ _ _ _ _ _ _ c.in-Ok.ensures.left c.write_left.ensures.written
