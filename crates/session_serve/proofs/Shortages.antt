-- What was good until memory ran out.
use Rattle.std.proofs.Common.{◌≡◌, ◌≢◌, inl, ℕ, List, Option, None, Some, Ok, Err, refl, subst, sym}
use Rattle.std.proofs.lemmas.List.{append-nil}
use Rattle.std.specs.Io.KnownBytes.{Consumes, IsAtEnd}
use Rattle.std.specs.Prelude.{IfSome}
use Rattle.io_edge.specs.Streams.{SinkState, SourceState}
use Rattle.pm_image.specs.Fault.{HasHeader}
use Rattle.command_line.specs.declared.words.Job.{Job}
use Rattle.command_line.specs.declared.words.Job.TheVariants as job
use Rattle.session_serve.specs.declared.status.Status.TheVariants as status
use Rattle.script_text.specs.Reading.{MayLackMemory}
use Rattle.session_serve.specs.Runs.{Ends, LacksScript, ReadsToEnd, Told, streams}
use Rattle.session_serve.specs.Parts.{Takes}

-- nothing is claimed of bytes whose end wasn't seen
of-none : (Holds : List ℕ → Type 0) (P : Type 0) (left : Told) → (P → ⊥) → IfSome left (λ all. P → Holds all)
of-none Holds P None never = tt
of-none Holds P (Some all) never = λ p. absurd (never p)

-- memory may run out before the script's source was touched
pub lacks_untouched : (input : SourceState) → LacksScript input input
lacks_untouched input = record { kept = refl; lines = of-none MayLackMemory (input.ends ≢ input.ends) input.left (λ differs. differs refl) }

-- the source was read to its end, and this holds of its bytes
of-all : (Holds : List ℕ → Type 0) (P : Type 0) (left rest : Told) (bytes : List ℕ) → Consumes left rest bytes → IsAtEnd rest → Holds bytes
    → IfSome left (λ all. P → Holds all)
of-all Holds P None rest bytes gave end holds = tt
of-all Holds P (Some all) None bytes gave end holds = absurd gave
of-all Holds P (Some all) (Some rest) bytes gave end holds =
    let same : bytes ≡ all = rw (gave, end) (sym (append-nil bytes)) in λ p. subst Holds same holds

-- memory may run out at a line of a script that was read
pub lacks-read : (before after : SourceState) (bytes : List ℕ) → ReadsToEnd before after bytes → MayLackMemory bytes → LacksScript before after
lacks-read before after bytes read lacks = record {
  kept = read.kept;
  lines = of-all MayLackMemory (after.ends ≢ before.ends) before.left after.left bytes read.gave read.end lacks;
}

-- of a source that was read to its end no byte past the limit was taken
pub takes-none : {A : Type 0} (B : Type 0) (given : A) (before after : Told) → Takes (Ok given) before after → Takes {A = B} (Err status.NoMemory) before after
takes-none B given None after took = tt
takes-none B given (Some all) None took = took
takes-none B given (Some all) (Some rest) took = (took.0, took.1, (took.2.0, λ past. absurd (let e = took.2.1 past in cc)))

-- memory may run out before any stream was touched
pub ends-untouched : (found : Option Job) (image input : SourceState) (image_out out : SinkState)
    → Ends status.NoMemory found (streams image input image_out out) (streams image input image_out out)
ends-untouched None image input image_out out = tt
ends-untouched (Some (job.Format segments)) image input image_out out = tt
ends-untouched (Some (job.Script cut keep)) image input image_out out =
    inl (record { kept = refl; header = of-none HasHeader (image.ends ≢ image.ends) image.left (λ differs. differs refl) }, refl)
