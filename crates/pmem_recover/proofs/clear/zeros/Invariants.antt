use Rattle.std.proofs.Common.{◌≡◌, ◌<◌, length, map, take}
use Rattle.std.specs.Prelude.{vec_len, vec_capacity}
use Rattle.pmem_recover.specs.Changes.{change}
use Rattle.pmem_recover.proofs.clear.zeros.Given as goal

abbrev pub invariant-loop-at : goal.invariant-loop-at
invariant-loop-at l = record {
  items : l.part.items ≡ map (λ at. change at.0 0) (take l.at-index l.places);
  len : vec_len l.part ≡ l.at-index;
  room : length l.places < vec_capacity l.part;
}
