use Rattle.std.proofs.Common.{◌≡◌, ℕ, ◌&&◌, get_or, ltb, map}
use Rattle.std.specs.Prelude.{filter}
use Rattle.std.specs.List.{list_all}
use Rattle.image_layout.specs.Places.{below}
use Rattle.image_layout.specs.Records.{key_at}
use Rattle.image_rules.specs.BuiltTrees.{is_above, is_used}
use Rattle.image_rules.proofs.pair_rules.greatest_key.Given as goal

abbrev pub invariant-loop-slot : goal.invariant-loop-slot
invariant-loop-slot l =
    (key : ℕ) → is_above l.found key ≡ (is_above l.fn.greatest key && list_all (λ other. ltb other key) (map (λ slot. get_or l.words (key_at l.leaf slot) 0) (filter (is_used l.words l.leaf) (below l.slot))))
