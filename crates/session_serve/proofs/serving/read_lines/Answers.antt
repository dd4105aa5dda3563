use Rattle.std.proofs.Common.{Err, ap, sym}
use Rattle.session_serve.proofs.Shortages.{lacks-read, takes-none}
use Rattle.session_serve.proofs.serving.read_lines.Goals as goal

pub returns-in-Err-NoMemory-clause-refused : goal.returns-in-Err-NoMemory-clause-refused
returns-in-Err-NoMemory-clause-refused g c =
    lacks-read _ _ _ c.in_ok-bytes.ensures.read (rw (sym c.deref.ensures.value) (c.in-Err-NoMemory.ensures.memory (ap Err c.in-Err-NoMemory.field-0-is)))

pub returns-in-Err-NoMemory-clause-taken : goal.returns-in-Err-NoMemory-clause-taken
returns-in-Err-NoMemory-clause-taken g c = takes-none _ _ _ _ c.in_ok-bytes.ensures.taken
