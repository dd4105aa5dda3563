-- Texts, wherever their bytes lie.
use Rattle.std.specs.Prelude.{ℕ, List, string_bytes}
use Rattle.mv_model.specs.declared.text.Place.{Place}
use Rattle.mv_model.specs.declared.text.Place.TheVariants.{Short, Long}

-- the bytes of a text that lie in the text itself, or in memory of their own
abbrev pub bytes_in : Place → List ℕ
bytes_in (Short text) = text.bytes
bytes_in (Long text) = string_bytes text
