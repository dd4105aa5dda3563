-- What is printed of a history, by its lines and words.
use Rattle.std.specs.Prelude.{ℕ, ◌≡◌, Bool, true, false, List, [], ◌∷◌, ◌++◌, codes, decimal, length, map, Some}
use Rattle.std.specs.Fmt.{signed_decimal}
use Rattle.std.specs.List.{flat_map}
use Rattle.std.specs.Str.Lines.{lines}
use Rattle.mv_model.specs.declared.reply.Entry.{Entry}
use Rattle.mv_model.specs.declared.reply.Holding.{Holding}
use Rattle.mv_model.specs.declared.reply.Holding.TheVariants.{Holder, Number}
use Rattle.mv_model.specs.declared.reply.TableRow.{TableRow}
use Rattle.mv_model.specs.declared.reply.Reply.{Reply}
use Rattle.mv_model.specs.declared.reply.Reply.TheVariants as reply
use Rattle.sf_value.specs.Spelling.{spelling}
use Rattle.script_text.specs.Printed.{entry_text, history_text}
use Rattle.script_text.specs.Words.{words_of}

-- a word and a number
abbrev pub counted : List ℕ → ℕ → List (List ℕ)
counted word number = word ∷ decimal number ∷ []

-- a session, by its number
abbrev pub session_word : ℕ → List ℕ
session_word session = codes "s" ++ decimal session

-- who holds a row
abbrev pub holding_words : Holding → List (List ℕ)
holding_words (Holder session) = session_word session ∷ []
holding_words (Number commit) = counted (codes "commit") commit

-- a row of a scan: a bar, its number and its values
abbrev pub words_of_row : TableRow → List (List ℕ)
words_of_row row = counted (codes "|") row.row ++ map spelling row.values

-- a reply: its name, and what it says
abbrev pub reply_words : Reply → List (List ℕ)
reply_words reply.Created = codes "created" ∷ []
reply_words reply.TableExists = codes "tableexists" ∷ []
reply_words reply.TooManyTables = codes "toomanytables" ∷ []
reply_words (reply.Began txn snapshot) = codes "began" ∷ decimal txn ∷ counted (codes "at") snapshot
reply_words reply.AlreadyOpen = codes "alreadyopen" ∷ []
reply_words reply.NoTxn = codes "notxn" ∷ []
reply_words reply.NoTable = codes "notable" ∷ []
reply_words (reply.WrongShape column) = counted (codes "wrongshape") column
reply_words reply.NoRow = codes "norow" ∷ []
reply_words (reply.Row row) = counted (codes "row") row
reply_words reply.Deleted = codes "deleted" ∷ []
reply_words (reply.Conflict holding) = codes "conflict" ∷ codes "with" ∷ holding_words holding
reply_words (reply.Values values) = codes "values" ∷ map spelling values
reply_words (reply.Rows rows) = counted (codes "rows") (length rows) ++ flat_map words_of_row rows
reply_words (reply.Count rows) = counted (codes "count") rows
reply_words (reply.Sum total) = codes "sum" ∷ signed_decimal total ∷ []
reply_words reply.TableFull = codes "tablefull" ∷ []
reply_words (reply.DictFull column) = counted (codes "dictfull") column
reply_words reply.WriteSetFull = codes "writesetfull" ∷ []
reply_words (reply.Full need largest) = codes "full" ∷ codes "need" ∷ decimal need ∷ counted (codes "largest") largest
reply_words (reply.Committed number) = counted (codes "committed") number
reply_words reply.ReadOnly = codes "readonly" ∷ []
reply_words reply.Spent = codes "spent" ∷ []
reply_words reply.Aborted = codes "aborted" ∷ []
reply_words (reply.GaveBack pages) = counted (codes "gaveback") pages
reply_words reply.NoMemory = codes "nomemory" ∷ []

-- and one more where it was not returned
abbrev pub answered_words : Bool → List (List ℕ)
answered_words true = []
answered_words false = codes "unanswered" ∷ []

-- an entry: its session, its ordinal and its reply
abbrev pub entry_words : Entry → List (List ℕ)
entry_words entry =
    session_word entry.session ∷ decimal entry.ordinal ∷ reply_words entry.reply ++ answered_words entry.answered

-- A printed history has a line for each entry, which is that entry's text.
abbrev pub HasLineForEach : Type 0
HasLineForEach = (history : List Entry) → lines (history_text history) ≡ map entry_text history

-- The words of an entry's text are those of the entry: no value in it begins or ends another word.
abbrev pub SaysWords : Type 0
SaysWords = (entry : Entry) → words_of (entry_text entry) ≡ Some (entry_words entry)
