use Rattle.std.proofs.Common.{◌∙◌, Some, ap}
use Rattle.session_serve.proofs.Shortages.{ends-untouched}
use Rattle.session_serve.proofs.StatusOf.{status-job}
use Rattle.session_serve.proofs.serving.run.Goals as goal

pub returns-in-Err-NoMemory-clause-ends : goal.returns-in-Err-NoMemory-clause-ends
returns-in-Err-NoMemory-clause-ends g c = ends-untouched _ _ _ _ _

pub returns-in-Ok-Script-clause-status : goal.returns-in-Ok-Script-clause-status
returns-in-Ok-Script-clause-status g c =
    status-job _ c.in-Ok-Script.cut c.in-Ok-Script.keep c.read_and_play.result _ _ _ _ _ _ _ _ (c.in-Ok-Script.ensures.read ∙ ap Some c.in-Ok-Script.field-0-is) c.read_and_play.ensures.ends
