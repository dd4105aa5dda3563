use Rattle.std.proofs.Common.{◌-◌, ◌<◌, ◌≤◌, ℕ, length, get_or}
use Rattle.sf_value.specs.Spelling.{IsSpelledAlone}
use Rattle.sf_value.proofs.search.alone_len.Given as goal

abbrev pub invariant-loop-start : goal.invariant-loop-start
invariant-loop-start l = record {
  within : l.start ≤ length l.bytes;
  alone : (k : ℕ) → k < l.start → IsSpelledAlone (get_or l.bytes k 0);
}

abbrev pub decreases-loop-start : goal.decreases-loop-start
decreases-loop-start l = length l.bytes - l.start
