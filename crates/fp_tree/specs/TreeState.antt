use Rattle.std.specs.Prelude.{ℕ}
use Rattle.fp_inner.specs.InnerState.{InnerState}

-- a tree: the place of its column's record, and its index
pub record TreeState : Type 0 where
  pub column : ℕ
  pub inner : InnerState
