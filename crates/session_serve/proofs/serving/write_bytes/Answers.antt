use Rattle.std.proofs.lemmas.Result.{err_from_is_err_and}
use Rattle.session_serve.proofs.Writes.{front_of_part}
use Rattle.session_serve.proofs.serving.write_bytes.Goals as goal

pub returns-in_err-write_all-clause-failed : goal.returns-in_err-write_all-clause-failed
returns-in_err-write_all-clause-failed g c =
    let p = err_from_is_err_and c.from_residual.result c.from_residual.ensures.1 in
    rw p.1 (record {
      front = front_of_part _ _ _ c.in_err-write_all.ensures.part;
      flushes = c.write_all.ensures.flushes;
      rose = c.in_err-write_all.ensures.cause.failed;
      later = c.write_all.ensures.cause.later;
    })
