-- Lines of a script without their session, worked out by hand: what each statement and each comparison is read as.
use Rattle.std.specs.Prelude.{ℕ, pos, neg_ℤ, ◌≡◌, List, [], ◌∷◌, ◌++◌, codes, None, Some, Result, Err}
use Rattle.mv_model.specs.declared.call.Call.{Call}
use Rattle.mv_model.specs.declared.call.Call.TheVariants as call
use Rattle.mv_model.specs.declared.call.Pred.{Pred}
use Rattle.mv_model.specs.declared.call.Test.{Test}
use Rattle.mv_model.specs.declared.call.Test.TheVariants as test
use Rattle.mv_model.specs.declared.shape.Kind.TheVariants as kind
use Rattle.mv_model.specs.declared.value.Value.TheVariants.{Int, Text}
use Rattle.script_text.specs.declared.script.Line.{Line}
use Rattle.script_text.specs.declared.script.Line.TheVariants as line
use Rattle.script_text.specs.Rules.{then_try, want}
use Rattle.script_text.specs.Script.{line_after}
use Rattle.script_text.specs.Statements.{asked, statement_of}
use Rattle.script_text.specs.Words.{words_of}

-- the line asks the engine for this call
abbrev pub Asks : List ℕ → Call → Type 0
Asks bytes meant = want 2 (words_of bytes) statement_of ≡ asked meant

-- the line in the mouth of session 1, behind these lines: the line it makes, or the first rule that it breaks
abbrev pub said_behind : List Line → List ℕ → Result Line ℕ
said_behind earlier bytes = then_try (want 2 (words_of bytes) statement_of) (line_after earlier 1)

-- the first two statements of session 2, and the first three
abbrev pub two_said : List Line
two_said = line.Say 2 1 call.Begin ∷ line.Say 2 2 call.Abort ∷ []

abbrev pub three_said : List Line
three_said = two_said ++ line.Say 2 3 call.Begin ∷ []

-- the rows in which the column `left` passes the test
abbrev pub with_left : Test → Pred
with_left passed = record { column = codes "left"; test = passed }

-- the rows of `stock` with these
abbrev pub scan_of_left : Test → Call
scan_of_left passed = call.Scan (codes "stock") (Some (with_left passed))

-- the rows whose text in the column `part` is `bolt` or stands behind it
abbrev pub from_bolt : Pred
from_bolt = record { column = codes "part"; test = test.AtLeast (Text (codes "bolt")) }

-- statements that change or read rows by their place, those of one word, and an await, which is read and not built
pub record StatementsAreWorked : Type 0 where
  pub create : Asks (codes "create stock part:text left:int")
      (call.Create (codes "stock")
      (record { name = codes "part"; kind = kind.Text } ∷ record { name = codes "left"; kind = kind.Int } ∷ []))
  pub begin : Asks (codes "begin") call.Begin
  pub insert : Asks (codes "insert stock \"a bolt\" 40")
      (call.Insert (codes "stock") (Text (codes "a bolt") ∷ Int (pos 40) ∷ []))
  pub get : Asks (codes "get stock 4294967295") (call.Get (codes "stock") 4294967295)
  pub update : Asks (codes "update stock 3 \"nut\" -39")
      (call.Update (codes "stock") 3 (Text (codes "nut") ∷ Int (neg_ℤ (pos 39)) ∷ []))
  pub delete : Asks (codes "delete stock 12") (call.Delete (codes "stock") 12)
  pub commit : Asks (codes "commit") call.Commit
  pub abort : Asks (codes "abort") call.Abort
  pub await_later : said_behind two_said (codes "await s2 3") ≡ Err 11
  pub await_earlier : said_behind three_said (codes "await s2 3") ≡ Err 0

-- statements over all rows, or those that a comparison holds of
pub record ComparisonsAreWorked : Type 0 where
  pub scan : Asks (codes "scan stock") (call.Scan (codes "stock") None)
  pub count : Asks (codes "count stock") (call.Count (codes "stock") None)
  pub sum : Asks (codes "sum stock left") (call.Sum (codes "stock") (codes "left") None)
  pub equal : Asks (codes "scan stock where left = 7") (scan_of_left (test.Equal (Int (pos 7))))
  pub below : Asks (codes "scan stock where left < 7") (scan_of_left (test.Below (Int (pos 7))))
  pub at_most : Asks (codes "scan stock where left <= 7") (scan_of_left (test.AtMost (Int (pos 7))))
  pub above : Asks (codes "scan stock where left > 7") (scan_of_left (test.Above (Int (pos 7))))
  pub at_least : Asks (codes "scan stock where left >= 7") (scan_of_left (test.AtLeast (Int (pos 7))))
  pub between : Asks (codes "scan stock where left in 1 9") (scan_of_left (test.Between (Int (pos 1)) (Int (pos 9))))
  pub counted : Asks (codes "count stock where part >= \"bolt\"") (call.Count (codes "stock") (Some from_bolt))
  pub summed : Asks (codes "sum stock left where part >= \"bolt\"")
      (call.Sum (codes "stock") (codes "left") (Some from_bolt))
