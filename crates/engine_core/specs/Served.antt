-- The calls that the stage answers.
use Rattle.std.specs.Prelude.{ℕ, ℤ, Bool, List, [], ◌∷◌}
use Rattle.mv_model.specs.declared.value.Value.TheVariants.{Int}
use Rattle.mv_model.specs.declared.call.Call.{Call}
use Rattle.mv_model.specs.declared.call.Call.TheVariants as call
use Rattle.built_calls.specs.Built.{built_table, is_built_call}

-- the name of the one table
abbrev pub table_name : List ℕ
table_name = built_table

-- an insert of one integer, and the reading of a row
abbrev pub insert_of : ℤ → Call
insert_of number = call.Insert table_name (Int number ∷ [])

abbrev pub get_of : ℕ → Call
get_of row = call.Get table_name row

-- the call is one of these that are built
abbrev pub is_served : Call → Bool
is_served = is_built_call
