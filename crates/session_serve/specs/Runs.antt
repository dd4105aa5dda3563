-- What a call of `run` has done, by its status, and which statuses it may end with.
use Rattle.std.specs.Prelude.{ℕ, ◌≡◌, ◌≢◌, ◌⊎◌, ◌+◌, ◌≤◌, ◌++◌, nat_lt, List, length, map, String, string_bytes, Option, None, Some, IfSome, Result, Ok, Err, Bool, true, false}
use Rattle.std.specs.Io.KnownBytes.{Appends, Consumes, IsAtEnd}
use Rattle.io_edge.specs.Faults.{Rose, one_more}
use Rattle.io_edge.specs.Streams.{SinkState, SourceState}
use Rattle.io_edge.specs.Transfer.{Loses}
use Rattle.io_edge.specs.declared.reading.TheConstants.{LIMIT}
use Rattle.pm_model.specs.declared.action.Keep.{Keep}
use Rattle.image_layout.specs.Checks.{Fault, first_fault as first_broken}
use Rattle.pm_model.specs.Device.{IsCrashImage, image_of}
use Rattle.pm_image.specs.declared.error.ImageError.{ImageError}
use Rattle.pm_image.specs.Fault.{HasHeader, first_fault}
use Rattle.pm_image.specs.Spelling.{IsImage, spelling}
use Rattle.engine_core.specs.ImageRules.{entry_rules}
use Rattle.engine_core.specs.Opening.{opening_fault}
use Rattle.engine_core.specs.Stage.{stage_words}
use Rattle.script_text.specs.declared.script.Line.{Line}
use Rattle.script_text.specs.declared.error.ScriptError.{ScriptError}
use Rattle.script_text.specs.declared.error.ScriptError.TheVariants as script_error
use Rattle.script_text.specs.Printed.{history_text}
use Rattle.script_text.specs.Reading.{MayLackMemory, script_of}
use Rattle.session_serve.specs.Moments.{IsFinished, IsFirstAt, IsRun, IsUncut, Moment}
use Rattle.command_line.specs.Words.{job_of}
use Rattle.command_line.specs.declared.words.Job.{Job}
use Rattle.command_line.specs.declared.words.Job.TheVariants as job
use Rattle.session_serve.specs.declared.status.Status.{Status}
use Rattle.session_serve.specs.declared.status.Status.TheVariants as status

-- ── streams ──

-- what a stream tells, if it does: a source what is left to read, and a sink what it holds
abbrev pub Told : Type 0
Told = Option (List ℕ)

-- the sinks of a call at one moment: that of the image, and that of the text
pub record Outputs : Type 0 where
  pub image : SinkState
  pub text : SinkState

abbrev pub outputs : SinkState → SinkState → Outputs
outputs image text = record { image = image; text = text }

-- the streams of a call at one moment
pub record Streams : Type 0 where
  pub image : SourceState
  pub input : SourceState
  pub outputs : Outputs

abbrev pub streams : SourceState → SourceState → SinkState → SinkState → Streams
streams image input image_out out = record { image = image; input = input; outputs = outputs image_out out }

-- the source was read to its end, which was seen once, and gave these bytes, and it has not failed
pub record ReadsToEnd (before after : SourceState) (bytes : List ℕ) : Type 0 where
  pub gave : Consumes before.left after.left bytes
  pub end : IsAtEnd after.left
  pub ends : after.ends ≡ one_more before.ends
  pub within : length bytes ≤ LIMIT
  pub kept : after.faults ≡ before.faults

-- one byte past the limit was taken, and the source has not failed
pub record IsTooLong (before after : SourceState) : Type 0 where
  pub taken : Loses before.left after.left (λ count. count ≡ LIMIT + 1)
  pub ends : after.ends ≡ before.ends
  pub kept : after.faults ≡ before.faults

-- the source has failed, and its end wasn't seen
pub record FailsToRead (before after : SourceState) : Type 0 where
  pub ends : after.ends ≡ before.ends
  pub rose : Rose before.faults after.faults
  pub later : before.faults ≤ after.faults

-- a part of the bytes from the front, or all of them, was appended
abbrev pub AppendsFront : Told → Told → List ℕ → Type 0
AppendsFront before after bytes =
    (front : List ℕ) × (rest : List ℕ) × (bytes ≡ front ++ rest) × Appends before after front

-- all of the bytes were appended, and the sink was flushed once, behind the last of them; it has not failed
pub record IsWrittenOut (before after : SinkState) (bytes : List ℕ) : Type 0 where
  pub all : Appends before.held after.held bytes
  pub flushed : after.flushed ≡ true
  pub flushes : after.flushes ≡ one_more before.flushes
  pub kept : after.faults ≡ before.faults

-- the sink has failed: a part of the bytes from the front, or all of them, was appended, and it was not flushed
pub record FailsToWrite (before after : SinkState) (bytes : List ℕ) : Type 0 where
  pub front : AppendsFront before.held after.held bytes
  pub flushes : after.flushes ≡ before.flushes
  pub rose : Rose before.faults after.faults
  pub later : before.faults ≤ after.faults

-- how an image and a text are written, between what the sinks are before and after
abbrev pub Writing : Type 1
Writing = Outputs → Outputs → List ℕ → List ℕ → Type 0

-- both are written out, each to its sink
abbrev pub WritesAll : Writing
WritesAll before after image text =
    IsWrittenOut before.image after.image image × IsWrittenOut before.text after.text text

-- the image's sink has failed, and the text's was left alone; or the image was written out, and the text's has failed
abbrev pub WritesFront : Writing
WritesFront before after image text =
    (FailsToWrite before.image after.image image × (after.text ≡ before.text))
    ⊎ (IsWrittenOut before.image after.image image × FailsToWrite before.text after.text text)

-- ── what was read ──

-- an image was read to its end, and these are its words
pub record ReadsImage (before after : SourceState) (words : List ℕ) : Type 0 where
  pub bytes : List ℕ
  pub read : ReadsToEnd before after bytes
  pub image : IsImage words
  pub spelled : bytes ≡ spelling words

-- bytes were read to their end, and this is their first fault as those of an image
pub record ReadsNoImage (before after : SourceState) (error : ImageError) : Type 0 where
  pub bytes : List ℕ
  pub read : ReadsToEnd before after bytes
  pub fault : first_fault bytes ≡ Some error

-- a script was read to its end, or refused
pub record ReadsScript (before after : SourceState) (script : Result (List Line) ScriptError) : Type 0 where
  pub bytes : List ℕ
  pub read : ReadsToEnd before after bytes
  pub spelled : script_of bytes ≡ script

-- ── what a script's run leaves ──

-- the bytes of an image and a text that a script leaves over the image of these words
abbrev pub Leaving : Type 1
Leaving = List ℕ → List Line → List ℕ → List ℕ → Type 0

-- The script was run to its end, without a cut or before it: the image is that of the device's words.
pub record Finishes (cut : Option ℕ) (words : List ℕ) (script : List Line) (image text : List ℕ) : Type 0 where
  pub moment : Moment
  pub played : ℕ
  pub run : IsRun words script played moment
  pub finished : IsFinished script moment
  pub uncut : IsUncut cut script played
  pub image_is : image ≡ spelling moment.device.cached
  pub text_is : text ≡ history_text moment.history

-- The power was cut at the first moment at which so many actions were played and a statement had no reply: the image is
-- the one that keeps these words of the device, which is one that a power cut can leave.
pub record IsCutOff (cut : Option ℕ) (keep : Keep) (words : List ℕ) (script : List Line)
    (image text : List ℕ) : Type 0 where
  pub moment : Moment
  pub number : ℕ
  pub cut_is : cut ≡ Some number
  pub run : IsRun words script number moment
  pub first : IsFirstAt number script moment
  pub left : IsCrashImage moment.device (image_of keep moment.device)
  pub image_is : image ≡ spelling (image_of keep moment.device)
  pub text_is : text ≡ history_text moment.history

-- ── what a call has done ──

-- the job that the words of a command line ask for, if they are a command
abbrev pub asked_by : {Z : Type 0} → List (String Z) → Option Job
asked_by words = job_of (map string_bytes words)

-- a script was run over the image of these words, and what it left was written
pub record WrittenRun (Leaves : Leaving) (Writes : Writing) (words : List ℕ) (script : List Line)
    (before after : Outputs) : Type 0 where
  pub image : List ℕ
  pub text : List ℕ
  pub left : Leaves words script image text
  pub written : Writes before after image text

-- an image and a script were read, the script was run over the image, and what it left was written
pub record RanScript (Leaves : Leaving) (Writes : Writing) (before after : Streams) : Type 0 where
  pub words : List ℕ
  pub script : List Line
  pub read_image : ReadsImage before.image after.image words
  pub read_script : ReadsScript before.input after.input (Ok script)
  pub run : WrittenRun Leaves Writes words script before.outputs after.outputs

-- the image was read, and the script refused
pub record RefusedScript (number rule : ℕ) (before after : Streams) : Type 0 where
  pub words : List ℕ
  pub read_image : ReadsImage before.image after.image words
  pub read_script : ReadsScript before.input after.input (Err (script_error.BadLine number rule))

-- the image and the script were read, and the image breaks this rule first
pub record RefusedImage (fault : Fault) (before after : Streams) : Type 0 where
  pub words : List ℕ
  pub script : List Line
  pub read_image : ReadsImage before.image after.image words
  pub read_script : ReadsScript before.input after.input (Ok script)
  pub fault_is : opening_fault words ≡ Some fault

-- an image was read to its end
abbrev pub ReadsSomeImage : SourceState → SourceState → Type 0
ReadsSomeImage before after = (words : List ℕ) × ReadsImage before after words

-- the sources are read in their order: this holds of the image, and the script was left alone; or an image was read,
-- and this holds of the script
abbrev pub ReadsInOrder : (SourceState → SourceState → Type 0) → Streams → Streams → Type 0
ReadsInOrder Holds before after =
    (Holds before.image after.image × (after.input ≡ before.input))
    ⊎ (ReadsSomeImage before.image after.image × Holds before.input after.input)

-- where the source tells its bytes and its end was seen, this holds of the bytes
abbrev pub OfWholeInput : (List ℕ → Type 0) → SourceState → SourceState → Type 0
OfWholeInput Holds before after = IfSome before.left (λ bytes. after.ends ≢ before.ends → Holds bytes)

-- memory ran out before an image was read: its source has not failed, and at its end the header had no fault
pub record LacksImage (before after : SourceState) : Type 0 where
  pub kept : after.faults ≡ before.faults
  pub header : OfWholeInput HasHeader before after

-- memory ran out before a script was read: its source has not failed, and where its end was seen, memory ran out at a
-- line behind lines that are all accepted
pub record LacksScript (before after : SourceState) : Type 0 where
  pub kept : after.faults ≡ before.faults
  pub lines : OfWholeInput MayLackMemory before after

-- the image and the script were read, and the image keeps the rules that are tried without memory
pub record ReadsBoth (before after : Streams) : Type 0 where
  pub words : List ℕ
  pub script : List Line
  pub read_image : ReadsImage before.image after.image words
  pub read_script : ReadsScript before.input after.input (Ok script)
  pub rules : first_broken entry_rules words ≡ None

-- what was good until memory ran out
abbrev pub RunsOut : Streams → Streams → Type 0
RunsOut before after =
    (LacksImage before.image after.image × (after.input ≡ before.input))
    ⊎ (ReadsSomeImage before.image after.image × LacksScript before.input after.input)
    ⊎ ReadsBoth before after

-- what `script` has done, where it ends with this status
abbrev pub EndsScript : Status → Option ℕ → Keep → Streams → Streams → Type 0
EndsScript status.Done cut keep before after = RanScript (Finishes cut) WritesAll before after
EndsScript status.Usage cut keep before after = ⊥
EndsScript (status.BadScript number rule) cut keep before after = RefusedScript number rule before after
EndsScript (status.BadBytes error) cut keep before after =
    ReadsNoImage before.image after.image error × (after.input ≡ before.input)
EndsScript (status.BadImage rule place) cut keep before after =
    RefusedImage (record { rule = rule; place = place }) before after
EndsScript status.PowerCut cut keep before after = RanScript (IsCutOff cut keep) WritesAll before after
EndsScript status.ReadFault cut keep before after = ReadsInOrder FailsToRead before after
EndsScript status.WriteFault cut keep before after =
    RanScript (Finishes cut) WritesFront before after ⊎ RanScript (IsCutOff cut keep) WritesFront before after
EndsScript status.NoMemory cut keep before after = RunsOut before after
EndsScript status.InputTooLong cut keep before after = ReadsInOrder IsTooLong before after

-- what `format` has done, where it ends with this status
abbrev pub EndsFormat : Status → ℕ → SinkState → SinkState → Type 0
EndsFormat status.Done segments before after = IsWrittenOut before after (spelling (stage_words segments))
EndsFormat status.WriteFault segments before after = FailsToWrite before after (spelling (stage_words segments))
EndsFormat status.NoMemory segments before after = Unit {0}
EndsFormat other segments before after = ⊥

-- what the call has done with words that are no command
abbrev pub EndsUnread : Status → Type 0
EndsUnread status.Usage = Unit {0}
EndsUnread status.NoMemory = Unit {0}
EndsUnread other = ⊥

-- what the call has done, where it ends with this status
abbrev pub Ends : Status → Option Job → Streams → Streams → Type 0
Ends given None before after = EndsUnread given
Ends given (Some (job.Format segments)) before after =
    EndsFormat given segments before.outputs.image after.outputs.image
Ends given (Some (job.Script cut keep)) before after = EndsScript given cut keep before after

-- one stream: before the call, and after it
pub record Moved (A : Type 0) : Type 0 where
  pub before : A
  pub after : A

infix 20 ◌⟼◌
abbrev pub ◌⟼◌ : {A : Type 0} → A → A → Moved A
before ⟼ after = record { before = before; after = after }

-- The same, told of each stream by itself: of the sources of the image and of the script, and of the sinks of the image
-- and of the text.
abbrev pub EndedScript : Status → Option ℕ → Keep
    → (image input : Moved SourceState) → (image_out out : Moved SinkState) → Type 0
EndedScript given cut keep image input image_out out =
    EndsScript given cut keep (streams image.before input.before image_out.before out.before)
    (streams image.after input.after image_out.after out.after)

abbrev pub Ended : Status → Option Job
    → (image input : Moved SourceState) → (image_out out : Moved SinkState) → Type 0
Ended given job image input image_out out =
    Ends given job (streams image.before input.before image_out.before out.before)
    (streams image.after input.after image_out.after out.after)

-- this holds where the job reads nothing and prints nothing
abbrev pub UnlessScript : Option Job → Type 0 → Type 0
UnlessScript None claim = claim
UnlessScript (Some (job.Format segments)) claim = claim
UnlessScript (Some (job.Script cut keep)) claim = Unit {0}

-- this holds, unless the call ends where it writes its image and its text
abbrev pub UnlessWritten : Status → Type 0 → Type 0
UnlessWritten status.Done claim = Unit {0}
UnlessWritten status.PowerCut claim = Unit {0}
UnlessWritten status.WriteFault claim = Unit {0}
UnlessWritten other claim = claim

-- at most one byte past the limit was taken, and that one only where the input is answered to be too long
abbrev pub TakesInput : Status → Told → Told → Type 0
TakesInput given before after =
    Loses before after (λ count. (count ≤ LIMIT + 1) × (count ≡ LIMIT + 1 → given ≡ status.InputTooLong))

-- ── which status a call may end with ──

-- a run ends with Done, or with a power cut where there is one; a sink may fail
abbrev pub IsStatusOfRun : Option ℕ → Status → Type 0
IsStatusOfRun cut status.Done = Unit {0}
IsStatusOfRun (Some number) status.PowerCut = Unit {0}
IsStatusOfRun cut status.WriteFault = Unit {0}
IsStatusOfRun cut other = ⊥

abbrev pub IsStatusOfOpening : Option Fault → Option ℕ → Status → Type 0
IsStatusOfOpening None cut given = IsStatusOfRun cut given
IsStatusOfOpening (Some fault) cut given = given ≡ status.BadImage fault.rule fault.place

abbrev pub IsStatusOfScript : Result (List Line) ScriptError → Option Fault → Option ℕ → Status → Type 0
IsStatusOfScript (Ok script) fault cut given = IsStatusOfOpening fault cut given
IsStatusOfScript (Err (script_error.BadLine number rule)) fault cut given = given ≡ status.BadScript number rule
IsStatusOfScript (Err script_error.NoMemory) fault cut given = ⊥

-- the first claim where the test holds, and else the second
abbrev pub Whichever : Bool → Type 0 → Type 0 → Type 0
Whichever true first second = first
Whichever false first second = second

abbrev pub IsStatusOfInput : List ℕ → Option Fault → Option ℕ → Status → Type 0
IsStatusOfInput input fault cut given =
    Whichever (nat_lt LIMIT (length input)) (given ≡ status.InputTooLong)
    (IsStatusOfScript (script_of input) fault cut given)

abbrev pub IsStatusOfFault : Option ImageError → List ℕ → Option Fault → Option ℕ → Status → Type 0
IsStatusOfFault None input fault cut given = IsStatusOfInput input fault cut given
IsStatusOfFault (Some error) input fault cut given = given ≡ status.BadBytes error

-- the status of these bytes of the image and of the input, in the order of work
abbrev pub IsStatusOfImage : List ℕ → List ℕ → Option Fault → Option ℕ → Status → Type 0
IsStatusOfImage image input fault cut given =
    Whichever (nat_lt LIMIT (length image)) (given ≡ status.InputTooLong)
    (IsStatusOfFault (first_fault image) input fault cut given)

-- of a script, a source may fail too
abbrev pub MayEndScript : List ℕ → List ℕ → Option Fault → Option ℕ → Status → Type 0
MayEndScript image input fault cut status.ReadFault = Unit {0}
MayEndScript image input fault cut status.NoMemory = Unit {0}
MayEndScript image input fault cut other = IsStatusOfImage image input fault cut other

abbrev pub MayEndFormat : Status → Type 0
MayEndFormat status.Done = Unit {0}
MayEndFormat status.WriteFault = Unit {0}
MayEndFormat status.NoMemory = Unit {0}
MayEndFormat other = ⊥

-- The call may end with this status: it is that of the words, the bytes of the image and those of the input, or memory
-- has run out, or a stream has failed. The fault is that of the words that the image spells.
abbrev pub MayEnd : Option Job → List ℕ → List ℕ → Option Fault → Status → Type 0
MayEnd None image input fault given = EndsUnread given
MayEnd (Some (job.Format segments)) image input fault given = MayEndFormat given
MayEnd (Some (job.Script cut keep)) image input fault given = MayEndScript image input fault cut given

-- these are the words that the bytes spell, if they spell any
abbrev pub AreWordsOf : List ℕ → List ℕ → Type 0
AreWordsOf bytes words = first_fault bytes ≡ None → IsImage words × (bytes ≡ spelling words)

-- The call may end with this status over these bytes, whatever words the image's bytes spell.
abbrev pub MayEndOver : Status → Option Job → List ℕ → List ℕ → Type 0
MayEndOver given job image input =
    (spelled : List ℕ) → AreWordsOf image spelled → MayEnd job image input (opening_fault spelled) given

-- where both sources tell their bytes, this holds of them
abbrev pub OfBoth : SourceState → SourceState → (List ℕ → List ℕ → Type 0) → Type 0
OfBoth image input Holds =
    IfSome image.left (λ image_bytes. IfSome input.left (λ input_bytes. Holds image_bytes input_bytes))
