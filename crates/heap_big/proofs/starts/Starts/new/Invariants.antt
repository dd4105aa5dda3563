use Rattle.std.proofs.Common.{◌≡◌, ℕ, ◌≤◌, [], get_or, vec_len, vec_capacity}
use Rattle.heap_big.proofs.starts.Starts.new.Given as goal

abbrev pub invariant-loop : goal.invariant-loop
invariant-loop l = record {
  empty : (at : ℕ) → get_or l.sets.items at [] ≡ [];
  size : vec_len l.sets ≡ l.counter;
  few : l.counter ≤ 64;
  room : vec_capacity l.sets ≡ 64;
}
