-- The draws of a number.
use Rattle.std.specs.Prelude.{ℕ, ◌+◌, ◌%◌, ◌^◌}
use Rattle.pm_model.specs.Mix.{mixed}

-- draw i of a number, counted from 0; the sum wraps
unfoldable pub draw : ℕ → ℕ → ℕ
draw number i = mixed ((number + i) % 2 ^ 64)

-- the session of a draw: 1 to 4
abbrev pub session_drawn : ℕ → ℕ → ℕ
session_drawn number i = 1 + draw number i % 4
