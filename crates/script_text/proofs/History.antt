-- What is printed of a history, by its lines and words.
use Rattle.std.proofs.Common.{◌≡◌, ◌⊎◌, ℕ, ℤ, zero, suc, pos, negsuc, ◌+◌, ◌/◌, ◌%◌, ◌<◌, ◌==◌, Bool, true, false, ltb, List, [], ◌∷◌, ◌++◌, length, get_or, map, refl, ap, sym, ◌∙◌, subst, inl, inr, arith, append_assoc}
use Rattle.std.specs.Prelude.{◌&&◌, ◌||◌, not, All, codes, decimal, is_some}
use Rattle.std.specs.Fmt.{digit_glyph, digits, digits_onto, signed_decimal}
use Rattle.std.specs.List.{flat_map, list_all, slice_split}
use Rattle.std.specs.Str.Lines.{lines, lines_of_parts, strip_carriage_return}
use Rattle.std.proofs.lemmas.Bool.{cases_Bool}
use Rattle.std.proofs.lemmas.Bool.Decides.{eqb_tells, nat_tests}
use Rattle.std.proofs.lemmas.List.{append-nil}
use Rattle.std.proofs.lemmas.List.Concat.{flat_map-append}
use Rattle.std.proofs.lemmas.List.Folds.{list_all-append}
use Rattle.std.proofs.Math.Nat.{mod-lt}
use Rattle.mv_model.specs.declared.value.Value.{Value}
use Rattle.mv_model.specs.declared.value.Value.TheVariants.{Int, Text}
use Rattle.mv_model.specs.declared.reply.Entry.{Entry}
use Rattle.mv_model.specs.declared.reply.Holding.{Holding}
use Rattle.mv_model.specs.declared.reply.Holding.TheVariants.{Holder, Number}
use Rattle.mv_model.specs.declared.reply.TableRow.{TableRow}
use Rattle.mv_model.specs.declared.reply.Reply.{Reply}
use Rattle.mv_model.specs.declared.reply.Reply.TheVariants as reply
use Rattle.sf_value.specs.Literal.{has_quote}
use Rattle.sf_value.specs.Spelling.{spelled_byte, spelling}
use Rattle.sf_value.proofs.ReadsBack.{spelled_text}
use Rattle.script_text.specs.Words.{is_blank, words_of}
use Rattle.script_text.specs.Laws.{EndsWord, HasWords, IsBareWord, IsTextWord}
use Rattle.script_text.specs.Printed.{answered_text, entry_text, history_text, holding_text, reply_text, row_words, value_words}
use Rattle.script_text.specs.History.{HasLineForEach, SaysWords, answered_words, counted, entry_words, holding_words, reply_words, session_word, words_of_row}
use Rattle.script_text.proofs.Split.{splits-lines}
use Rattle.script_text.proofs.Splitting.{differs, is_feed, parts-cut, some_part}

-- the byte ends no line
abbrev is_inner : ℕ → Bool
is_inner byte = not (byte == 10 || byte == 13)

-- and it is no blank and no quote
abbrev is_plain : ℕ → Bool
is_plain byte = not (is_blank byte || byte == 34 || byte == 10 || byte == 13)

-- a word within one line
abbrev IsWord : List ℕ → Type 0
IsWord word = (IsBareWord word ⊎ IsTextWord word) × (list_all is_inner word ≡ true)

abbrev AreWords : List (List ℕ) → Type 0
AreWords [] = Unit {0}
AreWords (word ∷ words) = IsWord word × AreWords words

-- words with a blank before each
abbrev said : List (List ℕ) → List ℕ
said = flat_map (λ word. 32 ∷ word)

both : (p : ℕ → Bool) (front back : List ℕ) → list_all p front ≡ true → list_all p back ≡ true → list_all p (front ++ back) ≡ true
both p front back all others = rw (list_all-append p front back, all, others) refl

-- bare words
plain-parts : (byte : ℕ) → is_plain byte ≡ true → (is_blank byte ≡ false) × ((byte == 34) ≡ false) × (is_inner byte ≡ true)
plain-parts byte plain = parts (is_blank byte) (byte == 34) (byte == 10) (byte == 13) plain
  where
    parts : (a b c d : Bool) → not (a || b || c || d) ≡ true → (a ≡ false) × (b ≡ false) × (not (c || d) ≡ true)
    parts false false false false is = (refl, refl, refl)
    parts true b c d is = absurd (let e : false ≡ true = is in cc)
    parts false true c d is = absurd (let e : false ≡ true = is in cc)
    parts false false true d is = absurd (let e : false ≡ true = is in cc)
    parts false false false true is = absurd (let e : false ≡ true = is in cc)

first-and : (a b : Bool) → a && b ≡ true → (a ≡ true) × (b ≡ true)
first-and true b is = (refl, is)
first-and false b is = absurd (let e : false ≡ true = is in cc)

plain-bare : (word : List ℕ) → list_all is_plain word ≡ true → All (λ byte. is_blank byte ≡ false) word
plain-bare [] plain k d within = absurd (omega arith)
plain-bare (byte ∷ word) plain zero d within = (plain-parts byte (first-and _ _ plain).0).0
plain-bare (byte ∷ word) plain (suc k) d within = plain-bare word (first-and _ _ plain).1 k d (omega arith)

plain-inner : (word : List ℕ) → list_all is_plain word ≡ true → list_all is_inner word ≡ true
plain-inner [] plain = refl
plain-inner (byte ∷ word) plain =
    let parts = first-and _ _ plain in
    rw ((plain-parts byte parts.0).2, plain-inner word parts.1) refl

plain-first : (word : List ℕ) → 0 < length word → list_all is_plain word ≡ true → has_quote word ≡ false
plain-first [] some plain = absurd (omega arith)
plain-first (byte ∷ word) some plain = (plain-parts byte (first-and _ _ plain).0).1

plain-word : (word : List ℕ) → 0 < length word → list_all is_plain word ≡ true → IsWord word
plain-word word some plain = (inl (some, plain-first word some plain, plain-bare word plain), plain-inner word plain)

-- numbers
plain-glyph : (digit : ℕ) → digit < 10 → is_plain (digit_glyph false digit) ≡ true
plain-glyph digit small =
    let below : ltb digit 10 ≡ true = grind (arith, nat_tests) in
    rw (below, differs (48 + digit) 32 (omega arith), differs (48 + digit) 9 (omega arith), differs (48 + digit) 34 (omega arith), differs (48 + digit) 10 (omega arith), differs (48 + digit) 13 (omega arith)) refl

plain-digits : (k n : ℕ) (digits : List ℕ) → list_all is_plain digits ≡ true → 0 < length digits
    → (list_all is_plain (digits_onto k 10 false n digits) ≡ true) × (0 < length (digits_onto k 10 false n digits))
plain-digits zero n digits plain some = (plain, some)
plain-digits (suc k) n digits plain some =
    let more : list_all is_plain (digit_glyph false (n % 10) ∷ digits) ≡ true = rw (plain-glyph (n % 10) (mod-lt n (omega arith)), plain) refl in
    elim (cases_Bool (n / 10 == 0)) [
      | inl last ↦ rw last (more, omega arith)
      | inr others ↦ rw others (plain-digits k (n / 10) (digit_glyph false (n % 10) ∷ digits) more (omega arith))
    ]

decimal-is : (n : ℕ) → digits_onto 64 10 false n [] ≡ decimal n
unfolding digits
decimal-is n = refl

plain-decimal : (n : ℕ) → (list_all is_plain (decimal n) ≡ true) × (0 < length (decimal n))
plain-decimal n =
    let first : list_all is_plain (digit_glyph false (n % 10) ∷ []) ≡ true = rw (plain-glyph (n % 10) (mod-lt n (omega arith))) refl in
    let shape : (list_all is_plain (digits_onto 64 10 false n []) ≡ true) × (0 < length (digits_onto 64 10 false n [])) =
    elim (cases_Bool (n / 10 == 0)) [
      | inl last ↦ rw last (first, omega arith)
      | inr others ↦ rw others (plain-digits 63 (n / 10) (digit_glyph false (n % 10) ∷ []) first (omega arith))
    ] in
    subst (λ (text : List ℕ). (list_all is_plain text ≡ true) × (0 < length text)) (decimal-is n) shape

decimal-word : (n : ℕ) → IsWord (decimal n)
decimal-word n = let digits = plain-decimal n in plain-word (decimal n) digits.1 digits.0

session-is_word : (n : ℕ) → IsWord (session_word n)
session-is_word n = let digits = plain-decimal n in plain-word (session_word n) (omega arith) digits.0

signed-word : (z : ℤ) → IsWord (signed_decimal z)
signed-word (pos n) = decimal-word n
signed-word (negsuc n) = let digits = plain-decimal (suc n) in plain-word (45 ∷ decimal (suc n)) (omega arith) digits.0

-- texts in quotes
inner-byte : (byte : ℕ) → list_all is_inner (spelled_byte byte) ≡ true
inner-byte byte =
    let P : ℕ → Type 0 = λ b. list_all is_inner (spelled_byte b) ≡ true in
    elim (eqb_tells byte 34) [
      | inl w ↦ subst P (sym w.1) refl
      | inr quote ↦ elim (eqb_tells byte 92) [
        | inl w ↦ subst P (sym w.1) refl
        | inr backslash ↦ elim (eqb_tells byte 10) [
          | inl w ↦ subst P (sym w.1) refl
          | inr feed ↦ elim (eqb_tells byte 13) [
            | inl w ↦ subst P (sym w.1) refl
            | inr return ↦
                let inner : is_inner byte ≡ true = rw (feed.0, return.0) refl in
                rw (quote.0, backslash.0, feed.0, return.0) (rw inner refl)
          ]
        ]
      ]
    ]

inner-text : (text : List ℕ) → list_all is_inner (flat_map spelled_byte text) ≡ true
inner-text [] = refl
inner-text (byte ∷ text) = both is_inner (spelled_byte byte) (flat_map spelled_byte text) (inner-byte byte) (inner-text text)

value-word : (value : Value) → IsWord (spelling value)
value-word (Int number) = signed-word number
value-word (Text text) = (
  inr (refl, ap is_some (spelled_text text)),
  both is_inner (flat_map spelled_byte text) (34 ∷ []) (inner-text text) refl,
)

value-words : (values : List Value) → AreWords (map spelling values)
value-words [] = tt
value-words (value ∷ values) = (value-word value, value-words values)

words-append : (front back : List (List ℕ)) → AreWords front → AreWords back → AreWords (front ++ back)
words-append [] back are others = others
words-append (word ∷ front) back are others = (are.0, words-append front back are.1 others)

row-words : (rows : List TableRow) → AreWords (flat_map words_of_row rows)
row-words [] = tt
row-words (row ∷ rows) =
    words-append (words_of_row row) (flat_map words_of_row rows)
    (plain-word (codes "|") (omega arith) refl, (decimal-word row.row, value-words row.values)) (row-words rows)

counted-words : (word : List ℕ) (n : ℕ) → 0 < length word → list_all is_plain word ≡ true → AreWords (counted word n)
counted-words word n some plain = (plain-word word some plain, (decimal-word n, tt))

alone : (word : List ℕ) → 0 < length word → list_all is_plain word ≡ true → AreWords (word ∷ [])
alone word some plain = (plain-word word some plain, tt)

holding-are : (holding : Holding) → AreWords (holding_words holding)
holding-are (Holder session) = (session-is_word session, tt)
holding-are (Number commit) = counted-words (codes "commit") commit (omega arith) refl

reply-are : (r : Reply) → AreWords (reply_words r)
reply-are reply.Created = alone (codes "created") (omega arith) refl
reply-are reply.TableExists = alone (codes "tableexists") (omega arith) refl
reply-are reply.TooManyTables = alone (codes "toomanytables") (omega arith) refl
reply-are (reply.Began txn snapshot) =
    (plain-word (codes "began") (omega arith) refl, (decimal-word txn, counted-words (codes "at") snapshot (omega arith) refl))
reply-are reply.AlreadyOpen = alone (codes "alreadyopen") (omega arith) refl
reply-are reply.NoTxn = alone (codes "notxn") (omega arith) refl
reply-are reply.NoTable = alone (codes "notable") (omega arith) refl
reply-are (reply.WrongShape column) = counted-words (codes "wrongshape") column (omega arith) refl
reply-are reply.NoRow = alone (codes "norow") (omega arith) refl
reply-are (reply.Row row) = counted-words (codes "row") row (omega arith) refl
reply-are reply.Deleted = alone (codes "deleted") (omega arith) refl
reply-are (reply.Conflict holding) =
    (plain-word (codes "conflict") (omega arith) refl, (plain-word (codes "with") (omega arith) refl, holding-are holding))
reply-are (reply.Values values) = (plain-word (codes "values") (omega arith) refl, value-words values)
reply-are (reply.Rows rows) =
    words-append (counted (codes "rows") (length rows)) (flat_map words_of_row rows)
    (counted-words (codes "rows") (length rows) (omega arith) refl) (row-words rows)
reply-are (reply.Count rows) = counted-words (codes "count") rows (omega arith) refl
reply-are (reply.Sum total) = (plain-word (codes "sum") (omega arith) refl, (signed-word total, tt))
reply-are reply.TableFull = alone (codes "tablefull") (omega arith) refl
reply-are (reply.DictFull column) = counted-words (codes "dictfull") column (omega arith) refl
reply-are reply.WriteSetFull = alone (codes "writesetfull") (omega arith) refl
reply-are (reply.Full need largest) = (
  plain-word (codes "full") (omega arith) refl,
  (
    plain-word (codes "need") (omega arith) refl,
    (
      decimal-word need,
      counted-words (codes "largest") largest (omega arith) refl,
    ),
  ),
)
reply-are (reply.Committed number) = counted-words (codes "committed") number (omega arith) refl
reply-are reply.ReadOnly = alone (codes "readonly") (omega arith) refl
reply-are reply.Spent = alone (codes "spent") (omega arith) refl
reply-are reply.Aborted = alone (codes "aborted") (omega arith) refl
reply-are (reply.GaveBack pages) = counted-words (codes "gaveback") pages (omega arith) refl
reply-are reply.NoMemory = alone (codes "nomemory") (omega arith) refl

answered-are : (answered : Bool) → AreWords (answered_words answered)
answered-are true = tt
answered-are false = alone (codes "unanswered") (omega arith) refl

-- texts are their words
values-said : (values : List Value) → value_words values ≡ said (map spelling values)
values-said [] = refl
values-said (value ∷ values) = ap (λ (rest : List ℕ). (32 ∷ spelling value) ++ rest) (values-said values)

rows-said : (rows : List TableRow) → flat_map row_words rows ≡ said (flat_map words_of_row rows)
rows-said [] = refl
rows-said (row ∷ rows) =
    let first : row_words row ≡ said (words_of_row row) = ap (λ (rest : List ℕ). codes " | " ++ decimal row.row ++ rest) (values-said row.values) in
    ap (λ (front : List ℕ). front ++ flat_map row_words rows) first
    ∙ ap (λ (back : List ℕ). said (words_of_row row) ++ back) (rows-said rows)
    ∙ sym (flat_map-append (λ (word : List ℕ). 32 ∷ word) (words_of_row row) (flat_map words_of_row rows))

ended : (front word : List ℕ) → front ++ word ≡ front ++ (word ++ [])
ended front word = ap (λ (last : List ℕ). front ++ last) (sym (append-nil word))

holding-said : (holding : Holding) → 32 ∷ codes "conflict with " ++ holding_text holding ≡ said (codes "conflict" ∷ codes "with" ∷ holding_words holding)
holding-said (Holder session) = ended (codes " conflict with s") (decimal session)
holding-said (Number commit) = ended (codes " conflict with commit ") (decimal commit)

last-said : (front word : List ℕ) (a b : ℕ) → ((front ++ decimal a) ++ (32 ∷ word ++ 32 ∷ [])) ++ decimal b ≡ front ++ (decimal a ++ said (counted word b))
last-said front word a b = simp (append_assoc, append-nil)

reply-said : (r : Reply) → 32 ∷ reply_text r ≡ said (reply_words r)
reply-said reply.Created = refl
reply-said reply.TableExists = refl
reply-said reply.TooManyTables = refl
reply-said (reply.Began txn snapshot) = last-said (codes " began ") (codes "at") txn snapshot
reply-said reply.AlreadyOpen = refl
reply-said reply.NoTxn = refl
reply-said reply.NoTable = refl
reply-said (reply.WrongShape column) = ended (codes " wrongshape ") (decimal column)
reply-said reply.NoRow = refl
reply-said (reply.Row row) = ended (codes " row ") (decimal row)
reply-said reply.Deleted = refl
reply-said (reply.Conflict holding) = holding-said holding
reply-said (reply.Values values) = ap (λ (rest : List ℕ). codes " values" ++ rest) (values-said values)
reply-said (reply.Rows rows) = ap (λ (rest : List ℕ). codes " rows " ++ decimal (length rows) ++ rest) (rows-said rows)
reply-said (reply.Count rows) = ended (codes " count ") (decimal rows)
reply-said (reply.Sum total) = ended (codes " sum ") (signed_decimal total)
reply-said reply.TableFull = refl
reply-said (reply.DictFull column) = ended (codes " dictfull ") (decimal column)
reply-said reply.WriteSetFull = refl
reply-said (reply.Full need largest) = last-said (codes " full need ") (codes "largest") need largest
reply-said (reply.Committed number) = ended (codes " committed ") (decimal number)
reply-said reply.ReadOnly = refl
reply-said reply.Spent = refl
reply-said reply.Aborted = refl
reply-said (reply.GaveBack pages) = ended (codes " gaveback ") (decimal pages)
reply-said reply.NoMemory = refl

answered-said : (answered : Bool) → answered_text answered ≡ said (answered_words answered)
answered-said true = refl
answered-said false = refl

-- an entry's text: the first word, and the others with a blank before each
abbrev later_words : Entry → List (List ℕ)
later_words entry = decimal entry.ordinal ∷ reply_words entry.reply ++ answered_words entry.answered

reply-and-more : (entry : Entry) → (32 ∷ reply_text entry.reply) ++ answered_text entry.answered ≡ said (reply_words entry.reply ++ answered_words entry.answered)
reply-and-more entry =
    ap (λ (front : List ℕ). front ++ answered_text entry.answered) (reply-said entry.reply)
    ∙ ap (λ (back : List ℕ). said (reply_words entry.reply) ++ back) (answered-said entry.answered)
    ∙ sym (flat_map-append (λ (word : List ℕ). 32 ∷ word) (reply_words entry.reply) (answered_words entry.answered))

to_right : (a b c d e f : List ℕ) → ((((((a ++ b) ++ c) ++ d) ++ c) ++ e) ++ f) ≡ a ++ (b ++ (c ++ (d ++ ((c ++ e) ++ f))))
to_right a b c d e f = simp append_assoc

entry-said : (entry : Entry) → entry_text entry ≡ session_word entry.session ++ said (later_words entry)
entry-said entry =
    to_right (codes "s") (decimal entry.session) (codes " ") (decimal entry.ordinal) (reply_text entry.reply) (answered_text entry.answered)
    ∙ ap (λ (rest : List ℕ). codes "s" ++ (decimal entry.session ++ (codes " " ++ (decimal entry.ordinal ++ rest)))) (reply-and-more entry)

later-are : (entry : Entry) → AreWords (later_words entry)
later-are entry =
    (decimal-word entry.ordinal, words-append (reply_words entry.reply) (answered_words entry.answered) (reply-are entry.reply) (answered-are entry.answered))

-- words with blanks between them
one-blank : All (λ byte. is_blank byte ≡ true) (32 ∷ [])
one-blank zero d within = refl
one-blank (suc k) d within = absurd (omega arith)

no-blanks : All (λ byte. is_blank byte ≡ true) []
no-blanks k d within = absurd (omega arith)

ends-said : (words : List (List ℕ)) → EndsWord (said words)
ends-said [] some = absurd (omega arith)
ends-said (word ∷ words) some = refl

has-said : (words : List (List ℕ)) → AreWords words → HasWords words (said words)
has-said [] are = no-blanks
has-said (word ∷ words) are = (32 ∷ [], said words, refl, one-blank, are.0.0, ends-said words, has-said words are.1)

pub says-words : SaysWords
says-words entry =
    let later = later_words entry in
    let has : HasWords (entry_words entry) (session_word entry.session ++ said later) =
    ([], said later, refl, no-blanks, (session-is_word entry.session).0, ends-said later, has-said later (later-are entry)) in
    ap words_of (entry-said entry) ∙ (splits-lines (session_word entry.session ++ said later) (entry_words entry)).1 has

-- lines
inner-said : (words : List (List ℕ)) → AreWords words → list_all is_inner (said words) ≡ true
inner-said [] are = refl
inner-said (word ∷ words) are = both is_inner (32 ∷ word) (said words) are.0.1 (inner-said words are.1)

inner-entry : (entry : Entry) → list_all is_inner (entry_text entry) ≡ true
inner-entry entry =
    subst (λ (text : List ℕ). list_all is_inner text ≡ true) (sym (entry-said entry))
    (both is_inner (session_word entry.session) (said (later_words entry)) (session-is_word entry.session).1 (inner-said (later_words entry) (later-are entry)))

inner-parts : (byte : ℕ) → is_inner byte ≡ true → ((byte == 10) ≡ false) × ((byte == 13) ≡ false)
inner-parts byte inner = parts (byte == 10) (byte == 13) inner
  where
    parts : (a b : Bool) → not (a || b) ≡ true → (a ≡ false) × (b ≡ false)
    parts false false is = (refl, refl)
    parts true b is = absurd (let e : false ≡ true = is in cc)
    parts false true is = absurd (let e : false ≡ true = is in cc)

split-line : (line rest : List ℕ) → list_all is_inner line ≡ true → slice_split is_feed (line ++ 10 ∷ rest) ≡ line ∷ slice_split is_feed rest
split-line [] rest inner = refl
split-line (byte ∷ line) rest inner =
    let parts = first-and _ _ inner in
    rw ((inner-parts byte parts.0).0, split-line line rest parts.1) refl

no-return : (line : List ℕ) (k : ℕ) → list_all is_inner line ≡ true → (get_or line k 0 == 13) ≡ false
no-return [] k inner = refl
no-return (byte ∷ line) zero inner = (inner-parts byte (first-and _ _ inner).0).1
no-return (byte ∷ line) (suc k) inner = no-return line k (first-and _ _ inner).1

whole-line : (line : List ℕ) → list_all is_inner line ≡ true → strip_carriage_return line ≡ line
whole-line line inner = rw (no-return line _ inner) refl

line-and-more : (line rest : List ℕ) → list_all is_inner line ≡ true → lines (line ++ 10 ∷ rest) ≡ line ∷ lines rest
line-and-more line rest inner =
    let part = some_part rest in
    ap lines_of_parts (split-line line rest inner) ∙ parts-cut line (slice_split is_feed rest) part.0 part.1 part.2
    ∙ ap (λ (first : List ℕ). first ∷ lines rest) (whole-line line inner)

pub has-line-for-each : HasLineForEach
has-line-for-each [] = refl
has-line-for-each (entry ∷ history) =
    ap lines (append_assoc (entry_text entry) (10 ∷ []) (history_text history))
    ∙ line-and-more (entry_text entry) (history_text history) (inner-entry entry)
    ∙ ap (λ (others : List (List ℕ)). entry_text entry ∷ others) (has-line-for-each history)
