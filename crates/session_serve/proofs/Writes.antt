-- What was written of a text, and what a source had left.
use Rattle.std.proofs.Common.{ℕ, List, [], take, drop, refl, sym, take-append-drop, append-nil}
use Rattle.std.specs.Prelude.{Option, Some, None}
use Rattle.std.specs.Io.KnownBytes.{Appends, Keeps}
use Rattle.io_edge.specs.Transfer.{AppendsPart}
use Rattle.session_serve.specs.Runs.{AppendsFront}

-- a part from the front is a front
pub front_of_part : (before after : Option (List ℕ)) (bytes : List ℕ) → AppendsPart before after bytes → AppendsFront before after bytes
front_of_part None after bytes part = ([], bytes, refl, tt)
front_of_part (Some xs) None bytes part = absurd part
front_of_part (Some xs) (Some ys) bytes part = (take part.0 bytes, drop part.0 bytes, sym (take-append-drop part.0 bytes), part.2)

-- all of it is a front, where nothing was written after it
pub front_of_all : (before mid after : Option (List ℕ)) (bytes : List ℕ) → Appends before mid bytes → Keeps mid after → AppendsFront before after bytes
front_of_all None mid after bytes appended kept = (bytes, [], sym (append-nil bytes), tt)
front_of_all (Some xs) None after bytes appended kept = absurd appended
front_of_all (Some xs) (Some ys) None bytes appended kept = absurd kept
front_of_all (Some xs) (Some ys) (Some zs) bytes appended kept = (bytes, [], sym (append-nil bytes), search (appended, kept))
