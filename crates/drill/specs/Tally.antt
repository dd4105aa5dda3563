-- What a draft of a script keeps of each session.
use Rattle.std.specs.Prelude.{ℕ, ◌≡◌, ◌<◌, Bool, false, List, slice_index, slice_index_or}
use Rattle.script_text.specs.declared.script.Line.{Line}
use Rattle.script_text.specs.Script.{ordinal_after}
use Rattle.drill.specs.Script.{is_open}

-- it is what the lines tell of the session
pub record IsTold (lines : List Line) (ordinals : List ℕ) (open_now : List Bool) : Type 0 where
  pub ordinal : (session : ℕ) → session < 256 → slice_index ordinals session ≡ ordinal_after lines session
  pub is_open : (session : ℕ) → session < 256 → slice_index_or open_now session false ≡ is_open lines session
