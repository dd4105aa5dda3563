use Rattle.std.proofs.Common.{◌-◌, ◌≤◌, length, drop}
use Rattle.std.specs.Prelude.{vec_len, vec_capacity}
use Rattle.pm_model.specs.Plans.{words_after}
use Rattle.pmem_recover.specs.Changes.{change_part}
use Rattle.pmem_recover.proofs.Parts.{IsTaken}
use Rattle.pmem_recover.proofs.part.needed.Given as goal

abbrev pub invariant-loop-done : goal.invariant-loop-done
invariant-loop-done g l = record {
  taken : IsTaken (words_after (change_part l.earlier) (g.M.Memory.device l.mem).cached) (drop (length l.part - l.done) l.part) l.kept.items l.stored;
  len : vec_len l.kept ≤ l.done;
  room : length l.part ≤ vec_capacity l.kept;
}
