use Rattle.std.proofs.Common.{◌≡◌, ℕ, ◌<◌, [], length, Vec, Global, vec_capacity}
use Rattle.pm_model.specs.Masks.{IsListOf}
use Rattle.pm_model.proofs.plain.empty_lists.Given as goal

abbrev pub invariant-loop : goal.invariant-loop
invariant-loop l = record {
  count : length l.lists.items ≡ l.counter;
  room : vec_capacity l.lists ≡ 17;
  empty : (session : ℕ) (lines : Vec ℕ Global) → session < l.counter → IsListOf l.lists.items session lines → lines.items ≡ [];
}
