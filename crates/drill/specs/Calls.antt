-- The statements of a session that are drawn. Each use of a draw takes the next one, in the order in which the parts of
-- a statement are written.
use Rattle.std.specs.Prelude.{ℕ, pos, ◌+◌, ◌%◌, ◌==◌, nat_le, Bool, true, false, codes, decimal, List, [], ◌∷◌, ◌++◌, None, Some, if◌then◌else◌}
use Rattle.mv_model.specs.declared.shape.Column.{Column}
use Rattle.mv_model.specs.declared.shape.Kind.TheVariants as kind
use Rattle.mv_model.specs.declared.value.Value.{Value}
use Rattle.mv_model.specs.declared.value.Value.TheVariants.{Int, Text}
use Rattle.mv_model.specs.declared.call.Call.{Call}
use Rattle.mv_model.specs.declared.call.Call.TheVariants as call
use Rattle.mv_model.specs.declared.call.Pred.{Pred}
use Rattle.mv_model.specs.declared.call.Test.TheVariants.{Between}
use Rattle.drill.specs.Draws.{draw}

-- the table `t a:int b:text`
abbrev pub table : List ℕ
table = codes "t"

abbrev pub number_column : List ℕ
number_column = codes "a"

abbrev pub text_column : List ℕ
text_column = codes "b"

abbrev pub columns : List Column
columns = record { name = number_column; kind = kind.Int } ∷ record { name = text_column; kind = kind.Text } ∷ []

abbrev pub creation : Call
creation = call.Create table columns

-- a number of draw i: the number in a row, and the number of a row
abbrev pub value_drawn : ℕ → ℕ → ℕ
value_drawn number i = draw number i % 200

abbrev pub row_drawn : ℕ → ℕ → ℕ
row_drawn number i = draw number i % 300

-- the text in a row: `w` and a number below 50
abbrev pub text_drawn : ℕ → ℕ → List ℕ
text_drawn number i = codes "w" ++ decimal (draw number i % 50)

-- the values of a row, by draw i and the one behind it
abbrev pub values_drawn : ℕ → ℕ → List Value
values_drawn number i = Int (pos (value_drawn number i)) ∷ Text (text_drawn number (i + 1)) ∷ []

-- the rows with a number from this one to the ninth behind it
abbrev pub ten_from : ℕ → Pred
ten_from least = record { column = number_column; test = Between (Int (pos least)) (Int (pos (least + 9))) }

-- a statement, and the first draw behind those that it used
pub record Drawn : Type 0 where
  pub call : Call
  pub next : ℕ

abbrev pub insert_drawn : ℕ → ℕ → Drawn
insert_drawn number i = record { call = call.Insert table (values_drawn number i); next = i + 2 }

abbrev pub update_drawn : ℕ → ℕ → Drawn
update_drawn number i =
    record { call = call.Update table (row_drawn number i) (values_drawn number (i + 1)); next = i + 3 }

abbrev pub delete_drawn : ℕ → ℕ → Drawn
delete_drawn number i = record { call = call.Delete table (row_drawn number i); next = i + 1 }

abbrev pub get_drawn : ℕ → ℕ → Drawn
get_drawn number i = record { call = call.Get table (row_drawn number i); next = i + 1 }

abbrev pub scan_drawn : ℕ → ℕ → Drawn
scan_drawn number i = record { call = call.Scan table (Some (ten_from (value_drawn number i))); next = i + 1 }

-- a statement that uses no draw
abbrev pub plain : Call → ℕ → Drawn
plain said i = record { call = said; next = i }

-- the statement of a choice below 16
abbrev pub chosen : ℕ → ℕ → ℕ → Drawn
chosen number choice i =
    if nat_le choice 5 then insert_drawn number i
    else if nat_le choice 7 then update_drawn number i
    else if choice == 8 then delete_drawn number i
    else if nat_le choice 10 then get_drawn number i
    else if choice == 11 then scan_drawn number i
    else if choice == 12 then plain (call.Count table None) i
    else if choice == 13 then plain (call.Sum table number_column None) i
    else if choice == 14 then plain call.Abort i
    else plain call.Commit i

-- the statement of a session that has a transaction open, or has none: it begins one
abbrev pub statement_drawn : ℕ → Bool → ℕ → Drawn
statement_drawn number false i = plain call.Begin i
statement_drawn number true i = chosen number (draw number i % 16) (i + 1)
