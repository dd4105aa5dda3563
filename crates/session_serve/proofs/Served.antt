-- What a call has done, from what its parts have done.
use Rattle.std.proofs.Common.{◌≡◌, inl, inr, ℕ, List, Option, None, Some, Result, Ok, Err, refl, sym, subst, ◌∙◌}
use Rattle.pm_model.specs.declared.action.Keep.{Keep}
use Rattle.script_text.specs.declared.script.Line.{Line}
use Rattle.session_serve.specs.declared.playing.Ending.{Ending}
use Rattle.session_serve.specs.declared.playing.Ending.TheVariants as ending
use Rattle.session_serve.specs.declared.status.Status.{Status}
use Rattle.session_serve.specs.declared.status.Status.TheVariants as status
use Rattle.session_serve.specs.Parts.{IsNoImage, IsNoScript, IsWritten, LeavesBy, RanWords, Takes}
use Rattle.session_serve.specs.Runs.{EndsScript, Outputs, ReadsImage, ReadsScript, TakesInput, Told, outputs, streams}
use Rattle.io_edge.specs.Streams.{SinkState, SourceState}

-- a run was written
pub ran-words : (given : Status) (end : Ending) (cut : Option ℕ) (keep : Keep) (words : List ℕ) (script : List Line) (before after : Outputs) (image text : List ℕ)
    → LeavesBy end cut keep words script image text → IsWritten end given before after image text → RanWords given cut keep words script before after
ran-words status.Done end cut keep words script before after image text left written =
    record { image = image; text = text; left = subst (λ (end : Ending). LeavesBy end cut keep words script image text) written.0 left; written = written.1 }
ran-words status.PowerCut end cut keep words script before after image text left written =
    record { image = image; text = text; left = subst (λ (end : Ending). LeavesBy end cut keep words script image text) written.0 left; written = written.1 }
ran-words status.WriteFault ending.Finished cut keep words script before after image text left written =
    inl (record { image = image; text = text; left = left; written = written })
ran-words status.WriteFault ending.Cut cut keep words script before after image text left written =
    inr (record { image = image; text = text; left = left; written = written })
ran-words status.Usage end cut keep words script before after image text left written = absurd written
ran-words (status.BadScript number rule) end cut keep words script before after image text left written = absurd written
ran-words (status.BadBytes error) end cut keep words script before after image text left written = absurd written
ran-words (status.BadImage rule place) end cut keep words script before after image text left written = absurd written
ran-words status.ReadFault end cut keep words script before after image text left written = absurd written
ran-words status.NoMemory end cut keep words script before after image text left written = absurd written
ran-words status.InputTooLong end cut keep words script before after image text left written = absurd written

module _ (cut : Option ℕ) (keep : Keep) (image image_now input input_now : SourceState) (image_out image_out_now out out_now : SinkState) where
  -- no image was read, and the input was left alone
  pub ends-no_image : (given : Status) → IsNoImage given image image_now → EndsScript given cut keep (streams image input image_out out) (streams image_now input image_out out)
  ends-no_image (status.BadBytes error) is = (is, refl)
  ends-no_image status.ReadFault is = inl (is, refl)
  ends-no_image status.NoMemory is = inl (is, refl)
  ends-no_image status.InputTooLong is = inl (is, refl)
  ends-no_image status.Done is = absurd is
  ends-no_image status.Usage is = absurd is
  ends-no_image (status.BadScript number rule) is = absurd is
  ends-no_image (status.BadImage rule place) is = absurd is
  ends-no_image status.PowerCut is = absurd is
  ends-no_image status.WriteFault is = absurd is

  -- an image was read, and no script
  pub ends-no_script : (given : Status) (words : List ℕ) → ReadsImage image image_now words → IsNoScript given input input_now
      → EndsScript given cut keep (streams image input image_out out) (streams image_now input_now image_out out)
  ends-no_script (status.BadScript number rule) words read is = record { words = words; read_image = read; read_script = is }
  ends-no_script status.ReadFault words read is = inr ((words, read), is)
  ends-no_script status.NoMemory words read is = inr (inl ((words, read), is))
  ends-no_script status.InputTooLong words read is = inr ((words, read), is)
  ends-no_script status.Done words read is = absurd is
  ends-no_script status.Usage words read is = absurd is
  ends-no_script (status.BadBytes error) words read is = absurd is
  ends-no_script (status.BadImage rule place) words read is = absurd is
  ends-no_script status.PowerCut words read is = absurd is
  ends-no_script status.WriteFault words read is = absurd is

  -- both were read, and the script was run over the image
  module _ (words : List ℕ) (script : List Line) (read : ReadsImage image image_now words) (said : ReadsScript input input_now (Ok script)) where
    pub ends-ran : (given : Status) → RanWords given cut keep words script (outputs image_out out) (outputs image_out_now out_now)
        → EndsScript given cut keep (streams image input image_out out) (streams image_now input_now image_out_now out_now)
    ends-ran status.Done ran = record {
      words = words;
      script = script;
      read_image = read;
      read_script = said;
      run = record { image = ran.image; text = ran.text; left = ran.left; written = ran.written };
    }
    ends-ran status.PowerCut ran = record {
      words = words;
      script = script;
      read_image = read;
      read_script = said;
      run = record { image = ran.image; text = ran.text; left = ran.left; written = ran.written };
    }
    ends-ran status.WriteFault (inl ran) = inl (record {
      words = words;
      script = script;
      read_image = read;
      read_script = said;
      run = record { image = ran.image; text = ran.text; left = ran.left; written = ran.written };
    })
    ends-ran status.WriteFault (inr ran) = inr (record {
      words = words;
      script = script;
      read_image = read;
      read_script = said;
      run = record { image = ran.image; text = ran.text; left = ran.left; written = ran.written };
    })
    ends-ran (status.BadImage rule place) ran = record { words = words; script = script; read_image = read; read_script = said; fault_is = ran }
    ends-ran status.NoMemory ran = inr (inr (record { words = words; script = script; read_image = read; read_script = said; rules = ran }))
    ends-ran status.Usage ran = absurd ran
    ends-ran (status.BadScript number rule) ran = absurd ran
    ends-ran (status.BadBytes error) ran = absurd ran
    ends-ran status.ReadFault ran = absurd ran
    ends-ran status.InputTooLong ran = absurd ran

-- a source that was read to its end isn't too long
pub takes-on : {A : Type 0} (given : Status) (result : Result A Status) (value : A) (before after : Told) → result ≡ Ok value → Takes result before after → TakesInput given before after
takes-on {A} given result value None after is takes = tt
takes-on {A} given result value (Some xs) None is takes = absurd takes
takes-on {A} given result value (Some xs) (Some ys) is takes =
    (takes.0, takes.1, (takes.2.0, λ long. absurd (not_both (sym is ∙ takes.2.1 long))))
  where
    not_both : Ok value ≡ Err status.InputTooLong → ⊥
    not_both e = cc
