-- What the parts of a call give.
use Rattle.std.specs.Prelude.{ℕ, ◌≡◌, ◌⊎◌, ◌+◌, ◌≤◌, List, Option, None, Some, Result, Err}
use Rattle.io_edge.specs.Transfer.{Loses}
use Rattle.io_edge.specs.declared.reading.TheConstants.{LIMIT}
use Rattle.pm_model.specs.Device.{Device, IsCrashImage, image_of}
use Rattle.image_layout.specs.Checks.{first_fault}
use Rattle.pm_image.specs.Spelling.{spelling}
use Rattle.engine_core.specs.ImageRules.{entry_rules}
use Rattle.engine_core.specs.Opening.{opening_fault}
use Rattle.script_text.specs.declared.script.Line.{Line}
use Rattle.pm_model.specs.declared.action.Keep.{Keep}
use Rattle.pm_model.specs.declared.action.Keep.TheVariants.{All}
use Rattle.session_serve.specs.declared.playing.Ending.{Ending}
use Rattle.session_serve.specs.declared.playing.Ending.TheVariants as ending
use Rattle.session_serve.specs.declared.status.Status.{Status}
use Rattle.session_serve.specs.declared.status.Status.TheVariants as status
use Rattle.session_serve.specs.Runs.{FailsToRead, Finishes, IsCutOff, IsTooLong, LacksImage, LacksScript, Leaving, Outputs, ReadsNoImage, ReadsScript, Told, WritesAll, WritesFront, WrittenRun}
use Rattle.io_edge.specs.Streams.{SourceState}
use Rattle.script_text.specs.declared.error.ScriptError.TheVariants as script_error

-- what a run leaves, by how it ended
abbrev pub LeavesBy : Ending → Option ℕ → Keep → Leaving
LeavesBy ending.Finished cut keep = Finishes cut
LeavesBy ending.Cut cut keep = IsCutOff cut keep

-- which words are kept: all where nothing was cut
abbrev pub kept_by : Ending → Keep → Keep
kept_by ending.Finished keep = All
kept_by ending.Cut keep = keep

-- the bytes are those of the image that keeps these words of the device, which is one that a power cut can leave
abbrev pub IsLeftBy : Keep → Device → List ℕ → Type 0
IsLeftBy keep d bytes = IsCrashImage d (image_of keep d) × (bytes ≡ spelling (image_of keep d))

-- the source has not failed, and its end wasn't seen
pub record IsLeftOff (before after : SourceState) : Type 0 where
  pub kept : after.faults ≡ before.faults
  pub ends : after.ends ≡ before.ends

-- why the bytes of a source aren't read
abbrev pub IsUnread : Status → SourceState → SourceState → Type 0
IsUnread status.ReadFault before after = FailsToRead before after
IsUnread status.NoMemory before after = IsLeftOff before after
IsUnread status.InputTooLong before after = IsTooLong before after
IsUnread other before after = ⊥

-- why an image isn't read
abbrev pub IsNoImage : Status → SourceState → SourceState → Type 0
IsNoImage (status.BadBytes error) before after = ReadsNoImage before after error
IsNoImage status.NoMemory before after = LacksImage before after
IsNoImage other before after = IsUnread other before after

-- why a script isn't read
abbrev pub IsNoScript : Status → SourceState → SourceState → Type 0
IsNoScript (status.BadScript number rule) before after =
    ReadsScript before after (Err (script_error.BadLine number rule))
IsNoScript status.NoMemory before after = LacksScript before after
IsNoScript other before after = IsUnread other before after

-- at most one byte past the limit was taken, and that one only where the result is that the input is too long
abbrev pub Takes : {A : Type 0} → Result A Status → Told → Told → Type 0
Takes result before after =
    Loses before after (λ count. (count ≤ LIMIT + 1) × (count ≡ LIMIT + 1 → result ≡ Err status.InputTooLong))

-- An image and a text were written as the status says: all of both, or a part where a sink failed.
abbrev pub IsWritten : Ending → Status → Outputs → Outputs → List ℕ → List ℕ → Type 0
IsWritten end status.Done before after image text = (end ≡ ending.Finished) × WritesAll before after image text
IsWritten end status.PowerCut before after image text = (end ≡ ending.Cut) × WritesAll before after image text
IsWritten end status.WriteFault before after image text = WritesFront before after image text
IsWritten end other before after image text = ⊥

-- what a script over the image of these words has done, where it ends with this status
abbrev pub RanWords : Status → Option ℕ → Keep → List ℕ → List Line → Outputs → Outputs → Type 0
RanWords status.Done cut keep words script before after = WrittenRun (Finishes cut) WritesAll words script before after
RanWords status.PowerCut cut keep words script before after =
    WrittenRun (IsCutOff cut keep) WritesAll words script before after
RanWords status.WriteFault cut keep words script before after =
    WrittenRun (Finishes cut) WritesFront words script before after
    ⊎ WrittenRun (IsCutOff cut keep) WritesFront words script before after
RanWords (status.BadImage rule place) cut keep words script before after =
    opening_fault words ≡ Some (record { rule = rule; place = place })
RanWords status.NoMemory cut keep words script before after = first_fault entry_rules words ≡ None
RanWords other cut keep words script before after = ⊥
