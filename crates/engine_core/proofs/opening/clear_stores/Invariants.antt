use Rattle.std.proofs.Common.{◌≡◌, ◌≤◌, map}
use Rattle.std.specs.Prelude.{vec_len, vec_capacity}
use Rattle.std.specs.List.{range_with_len}
use Rattle.image_layout.specs.Fixed.{entry_at}
use Rattle.pm_model.specs.Plans.{stores}
use Rattle.engine_core.proofs.opening.clear_stores.Given as goal

abbrev pub invariant-loop-nth : goal.invariant-loop-nth
invariant-loop-nth l = record {
  items : l.part.items ≡ stores 0 (map (entry_at l.object) (range_with_len 0 l.nth));
  len : vec_len l.part ≡ l.nth;
  room : 61 ≤ vec_capacity l.part;
}
