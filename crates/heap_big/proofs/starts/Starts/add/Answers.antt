use Rattle.std.proofs.Common.{inl, inr, ⊎_elim}
use Rattle.heap_big.proofs.starts.Starts.add.Goals as goal

pub returns-then-run-gt0 : goal.returns-then-run-gt0
returns-then-run-gt0 c other = (
  λ has. ⊎_elim (λ old. inl old) (λ is. inr (c.if-run-gt0.true, is)) ((c.add_some.ensures other).0 has),
  λ h. (c.add_some.ensures other).1 (⊎_elim (λ old. inl old) (λ both. inr both.1) h),
)
