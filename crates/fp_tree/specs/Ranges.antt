-- The pairs of a column from one key to another.
use Rattle.std.specs.Prelude.{ℕ, Bool, not, ◌&&◌, List, filter}
use Rattle.image_layout.specs.Trees.{Pair, pairs}
use Rattle.fp_inner.specs.Keys.{is_above, is_below}
use Rattle.fp_inner.specs.declared.probe.Probe.{Probe}

-- the first isn't above a key, and the second isn't below it
abbrev pub is_from_to : List ℕ → Probe → Probe → ℕ → Bool
is_from_to words low high key = not (is_above words low key) && not (is_below words high key)

-- the pairs with such a key
abbrev pub from_to : List ℕ → Probe → Probe → List Pair → List Pair
from_to words low high pairs = filter (λ pair. is_from_to words low high pair.key) pairs

-- those of a column, in the order of their keys
abbrev pub pairs_from_to : List ℕ → ℕ → Probe → Probe → List Pair
pairs_from_to words column low high = from_to words low high (pairs words column)
