use Rattle.std.proofs.Common.{◌≡◌, ◌-◌, ◌≤◌, length, drop}
use Rattle.std.specs.Prelude.{vec_len, vec_capacity}
use Rattle.engine_core.specs.Mended.{IsTaken}
use Rattle.engine_core.proofs.opening.take_stores.Given as goal

abbrev pub invariant-loop-done : goal.invariant-loop-done
invariant-loop-done g l = record {
  taken : IsTaken (g.M.Memory.device l.memory).cached (drop (length l.part - l.done) l.part) l.kept.items l.marks;
  len : vec_len l.kept ≤ l.done;
  room : length l.part ≤ vec_capacity l.kept;
  size : length l.marks ≡ 10240;
}
