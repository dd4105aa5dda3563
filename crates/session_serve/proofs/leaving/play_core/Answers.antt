use Rattle.std.proofs.Common.{◌∙◌, ap}
use Rattle.script_text.specs.Printed.{history_text}
use Rattle.session_serve.proofs.Endings.{image-same, leaves}
use Rattle.session_serve.proofs.leaving.play_core.Goals as goal

pub returns : goal.returns
returns g c = λ words accepted opened.
    leaves words (g.M.Memory.device c.play_script.new.core.memory) c.args.core.now c.play_script.new.core
    (record {
      accepted = accepted;
      opened = opened;
      same = c.play_script.ensures.opened;
      known = record {
        legal = c.history.ensures.legal;
        legal_due = c.history.ensures.legal_due;
        due_is = c.history.ensures.due;
        due_at = c.history.ensures.certain;
        device = c.memory.ensures.device;
        recoverable = c.memory.ensures.recoverable;
        may_recover_to = c.memory.ensures.may_recover_to;
        rests = c.memory.ensures.rests;
      };
    })
    c.in_ok-ending.ending c.args.cut c.args.keep c.args.script _ _ c.in_ok-ending.ensures.ends
    (image-same g.M.Memory.device _ _ _ _ _ c.memory.ensures.memory c.kept.ensures c.in_ok-image.ensures)
    (c.in_ok-text.ensures ∙ ap history_text c.history.ensures.entries)
