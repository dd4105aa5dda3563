-- The status that a call ends with is one that it may end with.
use Rattle.std.proofs.Common.{◌≡◌, inl, inr, ℕ, ◌+◌, ◌≤◌, ◌∙◌, Bool, true, false, List, ◌++◌, length, Option, None, Some, Ok, refl, ap, sym, subst, append-nil, length-append, arith}
use Rattle.std.specs.Prelude.{IfSome, Result, nat_lt}
use Rattle.std.proofs.lemmas.Bool.Decides.{nat_tests}
use Rattle.io_edge.specs.declared.reading.TheConstants.{LIMIT}
use Rattle.pm_model.specs.declared.action.Keep.{Keep}
use Rattle.image_layout.specs.Checks.{Fault}
use Rattle.pm_image.specs.declared.error.ImageError.{ImageError}
use Rattle.pm_image.specs.Fault.{first_fault}
use Rattle.pm_image.specs.Spelling.{spelling}
use Rattle.pm_image.proofs.Again.{no_fault, one_spelling}
use Rattle.engine_core.specs.Opening.{opening_fault}
use Rattle.script_text.specs.declared.script.Line.{Line}
use Rattle.script_text.specs.declared.error.ScriptError.{ScriptError}
use Rattle.script_text.specs.Reading.{script_of}
use Rattle.command_line.specs.declared.words.Job.{Job}
use Rattle.command_line.specs.declared.words.Job.TheVariants as job
use Rattle.session_serve.specs.declared.status.Status.{Status}
use Rattle.session_serve.specs.declared.status.Status.TheVariants as status
use Rattle.std.specs.Io.KnownBytes.{Consumes, IsAtEnd}
use Rattle.io_edge.specs.Streams.{SinkState, SourceState}
use Rattle.io_edge.specs.Transfer.{Loses}
use Rattle.session_serve.specs.Runs.{AreWordsOf, EndsScript, Finishes, IsCutOff, IsStatusOfFault, IsStatusOfImage, IsStatusOfInput, IsStatusOfOpening, IsStatusOfRun, IsStatusOfScript, IsTooLong, Leaving, MayEnd, MayEndScript, RanScript, ReadsImage, ReadsScript, ReadsToEnd, Streams, Told, Whichever, WritesAll, WritesFront, Writing, streams}

-- ── what a source told ──

-- what it told, and what it counted
abbrev told : List ℕ → ℕ → ℕ → SourceState
told all faults ends = record { left = Some all; faults = faults; ends = ends }

-- it gave all that it told
told-all : (all bytes : List ℕ) (faults ends : ℕ) (after : SourceState) → ReadsToEnd (told all faults ends) after bytes → all ≡ bytes
told-all all bytes faults ends after read = all_of after.left read.gave read.end
  where
    all_of : (left : Told) → Consumes (Some all) left bytes → IsAtEnd left → all ≡ bytes
    all_of None gave end = absurd gave
    all_of (Some rest) gave end = gave ∙ ap (λ (rest : List ℕ). bytes ++ rest) end ∙ append-nil bytes

is_short : (all bytes : List ℕ) (faults ends : ℕ) (after : SourceState) → ReadsToEnd (told all faults ends) after bytes → nat_lt LIMIT (length all) ≡ false
is_short all bytes faults ends after read =
    let size : length all ≡ length bytes = ap length (told-all all bytes faults ends after read) in
    let within : length bytes ≤ LIMIT = read.within in
    grind (arith, nat_tests, size, within)

is_long : (all : List ℕ) (faults ends : ℕ) (after : SourceState) → IsTooLong (told all faults ends) after → nat_lt LIMIT (length all) ≡ true
is_long all faults ends after long = longer after.left long.taken
  where
    longer : (left : Told) → Loses (Some all) left (λ count. count ≡ LIMIT + 1) → nat_lt LIMIT (length all) ≡ true
    longer None taken = absurd taken
    longer (Some rest) taken =
        let size : length all ≡ length taken.0 + length rest = ap length taken.1 ∙ length-append taken.0 rest in
        let more : length taken.0 ≡ LIMIT + 1 = taken.2 in
        grind (arith, nat_tests, size, more)

-- ── the claims of a list of causes ──

first-of : (test : Bool) (first second : Type 0) → test ≡ true → first → Whichever test first second
first-of true first second is claim = claim
first-of false first second is claim = cc

second-of : (test : Bool) (first second : Type 0) → test ≡ false → second → Whichever test first second
second-of true first second is claim = cc
second-of false first second is claim = claim

module _ (cut : Option ℕ) (given : Status) where
  -- the image was read
  status-image : (image input words spelled : List ℕ) (faults ends : ℕ) (after : SourceState) → ReadsImage (told image faults ends) after words → AreWordsOf image spelled
      → IsStatusOfInput input (opening_fault words) cut given → IsStatusOfImage image input (opening_fault spelled) cut given
  status-image image input words spelled faults ends after read are due =
      let is : image ≡ spelling words = told-all image read.bytes faults ends after read.read ∙ read.spelled in
      let none : first_fault image ≡ None = ap first_fault is ∙ no_fault words read.image in
      let same : words ≡ spelled = one_spelling words spelled read.image (are none).0 (sym is ∙ (are none).1) in
      second-of (nat_lt LIMIT (length image)) _ _ (is_short image read.bytes faults ends after read.read)
      (subst (λ (fault : Option ImageError). IsStatusOfFault fault input (opening_fault spelled) cut given) (sym none)
      (subst (λ (words : List ℕ). IsStatusOfInput input (opening_fault words) cut given) same due))

  -- the script was read, or refused
  status-script : (input : List ℕ) (fault : Option Fault) (script : Result (List Line) ScriptError) (faults ends : ℕ) (after : SourceState) → ReadsScript (told input faults ends) after script
      → IsStatusOfScript script fault cut given → IsStatusOfInput input fault cut given
  status-script input fault script faults ends after read due =
      let is : script_of input ≡ script = ap script_of (told-all input read.bytes faults ends after read.read) ∙ read.spelled in
      second-of (nat_lt LIMIT (length input)) _ _ (is_short input read.bytes faults ends after read.read)
      (subst (λ (script : Result (List Line) ScriptError). IsStatusOfScript script fault cut given) (sym is) due)

  -- the image was opened
  status-opened : (words : List ℕ) → opening_fault words ≡ None → IsStatusOfRun cut given → IsStatusOfOpening (opening_fault words) cut given
  status-opened words none due = subst (λ (fault : Option Fault). IsStatusOfOpening fault cut given) (sym none) due

status-finished : (cut : Option ℕ) → IsStatusOfRun cut status.Done
status-finished None = tt
status-finished (Some number) = tt

status-failed : (cut : Option ℕ) → IsStatusOfRun cut status.WriteFault
status-failed None = tt
status-failed (Some number) = tt

status-cut : (cut : Option ℕ) (number : ℕ) → cut ≡ Some number → IsStatusOfRun cut status.PowerCut
status-cut None number is = cc
status-cut (Some other) number is = tt

module _ (cut : Option ℕ) (keep : Keep) (image input spelled : List ℕ) (n m k l : ℕ) (image_out out : SinkState) (after : Streams) (are : AreWordsOf image spelled) where
  -- a run that was written
  status-ran : (given : Status) (Leaves : Leaving) (Writes : Writing) → RanScript Leaves Writes (streams (told image n m) (told input k l) image_out out) after
      → ((words : List ℕ) (script : List Line) (image text : List ℕ) → Leaves words script image text → (opening_fault words ≡ None) × IsStatusOfRun cut given)
      → IsStatusOfImage image input (opening_fault spelled) cut given
  status-ran given Leaves Writes ran tells =
      let left = tells ran.words ran.script ran.run.image ran.run.text ran.run.left in
      status-image cut given image input ran.words spelled n m after.image ran.read_image are
      (status-script cut given input (opening_fault ran.words) (Ok ran.script) k l after.input ran.read_script (status-opened cut given ran.words left.0 left.1))

  status-ends : (given : Status) → EndsScript given cut keep (streams (told image n m) (told input k l) image_out out) after → MayEndScript image input (opening_fault spelled) cut given
  status-ends status.Done ends = status-ran status.Done (Finishes cut) WritesAll ends (λ words script image text left. (left.run.accepted, status-finished cut))
  status-ends status.PowerCut ends =
      status-ran status.PowerCut (IsCutOff cut keep) WritesAll ends (λ words script image text left. (left.run.accepted, status-cut cut left.number left.cut_is))
  status-ends status.WriteFault (inl ends) = status-ran status.WriteFault (Finishes cut) WritesFront ends (λ words script image text left. (left.run.accepted, status-failed cut))
  status-ends status.WriteFault (inr ends) = status-ran status.WriteFault (IsCutOff cut keep) WritesFront ends (λ words script image text left. (left.run.accepted, status-failed cut))
  status-ends (status.BadScript number rule) ends =
      status-image cut (status.BadScript number rule) image input ends.words spelled n m after.image ends.read_image are
      (status-script cut (status.BadScript number rule) input (opening_fault ends.words) _ k l after.input ends.read_script refl)
  status-ends (status.BadBytes error) ends =
      let is : first_fault image ≡ Some error = ap first_fault (told-all image ends.0.bytes n m after.image ends.0.read) ∙ ends.0.fault in
      second-of (nat_lt LIMIT (length image)) _ _ (is_short image ends.0.bytes n m after.image ends.0.read)
      (subst (λ (fault : Option ImageError). IsStatusOfFault fault input (opening_fault spelled) cut (status.BadBytes error)) (sym is) refl)
  status-ends (status.BadImage rule place) ends =
      status-image cut (status.BadImage rule place) image input ends.words spelled n m after.image ends.read_image are
      (status-script cut (status.BadImage rule place) input (opening_fault ends.words) (Ok ends.script) k l after.input ends.read_script
      (subst (λ (fault : Option Fault). IsStatusOfOpening fault cut (status.BadImage rule place)) (sym ends.fault_is) refl))
  status-ends status.InputTooLong (inl ends) = first-of (nat_lt LIMIT (length image)) _ _ (is_long image n m after.image ends.0) refl
  status-ends status.InputTooLong (inr ends) =
      status-image cut status.InputTooLong image input ends.0.0 spelled n m after.image ends.0.1 are
      (first-of (nat_lt LIMIT (length input)) _ _ (is_long input k l after.input ends.1) refl)
  status-ends status.ReadFault ends = tt
  status-ends status.NoMemory ends = tt
  status-ends status.Usage ends = absurd ends

pub status-job : (found : Option Job) (cut : Option ℕ) (keep : Keep) (given : Status) (image input image_now input_now : SourceState) (image_out out image_out_now out_now : SinkState)
    → found ≡ Some (job.Script cut keep)
    → EndsScript given cut keep (streams image input image_out out) (streams image_now input_now image_out_now out_now)
    → IfSome image.left (λ image_bytes. IfSome input.left (λ input_bytes. (spelled : List ℕ) → AreWordsOf image_bytes spelled → MayEnd found image_bytes input_bytes (opening_fault spelled) given))
status-job found cut keep given image input image_now input_now image_out out image_out_now out_now is ends =
    by_told image.left input.left image.faults image.ends input.faults input.ends ends
  where
    by_told : (left input_left : Told) (n m k l : ℕ) → EndsScript given cut keep
        (streams (record { left = left; faults = n; ends = m }) (record { left = input_left; faults = k; ends = l }) image_out out) (streams image_now input_now image_out_now out_now)
        → IfSome left (λ image_bytes. IfSome input_left (λ input_bytes. (spelled : List ℕ) → AreWordsOf image_bytes spelled → MayEnd found image_bytes input_bytes (opening_fault spelled) given))
    by_told None input_left n m k l ends = tt
    by_told (Some image) None n m k l ends = tt
    by_told (Some image) (Some input) n m k l ends =
        λ spelled are. subst (λ (found : Option Job). MayEnd found image input (opening_fault spelled) given) (sym is)
        (status-ends cut keep image input spelled n m k l image_out out (streams image_now input_now image_out_now out_now) are given ends)
