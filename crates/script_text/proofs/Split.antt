-- The words of a line are those that it has.
use Rattle.std.proofs.Common.{◌≡◌, ℕ, zero, suc, Bool, true, false, List, [], ◌∷◌, ◌++◌, refl, ap, ◌∙◌, inl, inr, arith, append_assoc}
use Rattle.std.specs.Prelude.{◌==◌, ◌⊎◌, All, IsSome, Option, None, Some, is_some, option_map, option_and_then}
use Rattle.std.proofs.lemmas.Bool.{cases_Bool}
use Rattle.sf_value.specs.Literal.{escaped, quoted_text}
use Rattle.script_text.specs.Words.{is_blank, ends_word, with_byte, words_from, words_of, Bare, Between, Closed, Escaped, Quoted}
use Rattle.script_text.specs.Laws.{EndsWord, HasWords, IsBareWord, IsTextWord, SplitsLines}
use Rattle.script_text.proofs.Splitting.{with_byte-word, words_from-closed}

-- each byte is a blank, or none is
abbrev Each : Bool → List ℕ → Type 0
Each blank = All (λ byte. is_blank byte ≡ blank)

abbrev AllBlank : List ℕ → Type 0
AllBlank = Each true

abbrev AllBare : List ℕ → Type 0
AllBare = Each false

all-none : (blank : Bool) → Each blank []
all-none blank k d within = absurd (omega arith)

all-more : (blank : Bool) (byte : ℕ) (bytes : List ℕ) → is_blank byte ≡ blank → Each blank bytes → Each blank (byte ∷ bytes)
all-more blank byte bytes first others zero d within = first
all-more blank byte bytes first others (suc k) d within = others k d (omega arith)

all-fewer : (blank : Bool) (byte : ℕ) (bytes : List ℕ) → Each blank (byte ∷ bytes) → (is_blank byte ≡ blank) × Each blank bytes
all-fewer blank byte bytes all = (all 0 0 (omega arith), λ k d within. all (suc k) d (omega arith))

no-words : EndsWord []
no-words some = absurd (omega arith)

-- what the reading of the rest of a line says, by the place in it
abbrev InBetween : List ℕ → Option (List (List ℕ)) → Type 0
InBetween line None = Unit {0}
InBetween line (Some words) = HasWords words line

abbrev InBare : List ℕ → Option (List (List ℕ)) → Type 0
InBare line None = Unit {0}
InBare line (Some []) = ⊥
InBare line (Some (word ∷ words)) = (rest : List ℕ) × (line ≡ word ++ rest) × AllBare word × EndsWord rest × HasWords words rest

abbrev InQuotes : List ℕ → Option (List (List ℕ)) → Type 0
InQuotes line None = Unit {0}
InQuotes line (Some []) = ⊥
InQuotes line (Some (word ∷ words)) =
    (rest : List ℕ) × (line ≡ word ++ rest) × IsSome (quoted_text word) × EndsWord rest × HasWords words rest

abbrev InEscape : List ℕ → Option (List (List ℕ)) → Type 0
InEscape line None = Unit {0}
InEscape line (Some []) = ⊥
InEscape line (Some (word ∷ words)) =
    (byte : ℕ) × (text : List ℕ) × (rest : List ℕ) × (word ≡ byte ∷ text) × IsSome (escaped byte) × (line ≡ word ++ rest)
    × IsSome (quoted_text text) × EndsWord rest × HasWords words rest

abbrev Behind : List ℕ → Option (List (List ℕ)) → Type 0
Behind line None = Unit {0}
Behind line (Some []) = ⊥
Behind line (Some (word ∷ words)) = (word ≡ []) × EndsWord line × HasWords words line

blank-more : (byte : ℕ) (line : List ℕ) (words : List (List ℕ)) → is_blank byte ≡ true → HasWords words line → HasWords words (byte ∷ line)
blank-more byte line [] blank has = all-more true byte line blank has
blank-more byte line (word ∷ words) blank has =
    (byte ∷ has.0, has.1, ap (λ (more : List ℕ). byte ∷ more) has.2, all-more true byte has.0 blank has.3, has.4, has.5, has.6)

between-blank : (byte : ℕ) (line : List ℕ) (read : Option (List (List ℕ))) → is_blank byte ≡ true → InBetween line read → InBetween (byte ∷ line) read
between-blank byte line None blank has = tt
between-blank byte line (Some words) blank has = blank-more byte line words blank has

between-bare : (byte : ℕ) (line : List ℕ) (read : Option (List (List ℕ))) → is_blank byte ≡ false → (byte == 34) ≡ false
    → InBare line read → InBetween (byte ∷ line) (with_byte byte read)
between-bare byte line None bare plain has = tt
between-bare byte line (Some []) bare plain has = tt
between-bare byte line (Some (word ∷ words)) bare plain has = (
  [],
  has.0,
  ap (λ (more : List ℕ). byte ∷ more) has.1,
  all-none true,
  inl (omega arith, plain, all-more false byte word bare has.2),
  has.3,
  has.4,
)

between-quote : (byte : ℕ) (line : List ℕ) (read : Option (List (List ℕ))) → (byte == 34) ≡ true
    → InQuotes line read → InBetween (byte ∷ line) (with_byte byte read)
between-quote byte line None quote has = tt
between-quote byte line (Some []) quote has = tt
between-quote byte line (Some (word ∷ words)) quote has =
    ([], has.0, ap (λ (more : List ℕ). byte ∷ more) has.1, all-none true, inr (quote, has.2), has.3, has.4)

bare-more : (byte : ℕ) (line : List ℕ) (read : Option (List (List ℕ))) → is_blank byte ≡ false → InBare line read → InBare (byte ∷ line) (with_byte byte read)
bare-more byte line None bare has = tt
bare-more byte line (Some []) bare has = tt
bare-more byte line (Some (word ∷ words)) bare has =
    (has.0, ap (λ (more : List ℕ). byte ∷ more) has.1, all-more false byte word bare has.2, has.3, has.4)

bare-blank : (byte : ℕ) (line : List ℕ) (read : Option (List (List ℕ))) → is_blank byte ≡ true → InBetween line read → InBare (byte ∷ line) (ends_word read)
bare-blank byte line None blank has = tt
bare-blank byte line (Some words) blank has = (byte ∷ line, refl, all-none false, λ some. blank, blank-more byte line words blank has)

quotes-close : (byte : ℕ) (line : List ℕ) (read : Option (List (List ℕ))) → (byte == 34) ≡ true → Behind line read → InQuotes (byte ∷ line) (with_byte byte read)
quotes-close byte line None quote has = tt
quotes-close byte line (Some []) quote has = tt
quotes-close byte line (Some (word ∷ words)) quote has =
    rw has.0 (line, refl, rw quote refl, has.1, has.2)

quotes-escape : (byte : ℕ) (line : List ℕ) (read : Option (List (List ℕ))) → (byte == 34) ≡ false → (byte == 92) ≡ true
    → InEscape line read → InQuotes (byte ∷ line) (with_byte byte read)
quotes-escape byte line None plain escape has = tt
quotes-escape byte line (Some []) plain escape has = tt
quotes-escape byte line (Some (word ∷ words)) plain escape has =
    (has.2, ap (λ (more : List ℕ). byte ∷ more) has.5, rw (has.3, plain, escape) (both (escaped has.0) (quoted_text has.1) has.4 has.6), has.7, has.8)
  where
    both : (read : Option ℕ) (text : Option (List ℕ)) → IsSome read → IsSome text
        → IsSome (option_and_then (λ first. option_map (λ more. first ∷ more) text) read)
    both None text some others = cc some
    both (Some first) None some others = cc others
    both (Some first) (Some more) some others = refl

quotes-more : (byte : ℕ) (line : List ℕ) (read : Option (List (List ℕ))) → (byte == 34) ≡ false → (byte == 92) ≡ false
    → InQuotes line read → InQuotes (byte ∷ line) (with_byte byte read)
quotes-more byte line None plain same has = tt
quotes-more byte line (Some []) plain same has = tt
quotes-more byte line (Some ([] ∷ words)) plain same has = absurd (let e : false ≡ true = has.2 in cc)
quotes-more byte line (Some ((next ∷ word) ∷ words)) plain same has =
    (has.0, ap (λ (more : List ℕ). byte ∷ more) has.1, rw (plain, same) (one (quoted_text (next ∷ word)) has.2), has.3, has.4)
  where
    one : (text : Option (List ℕ)) → IsSome text → IsSome (option_map (λ more. byte ∷ more) text)
    one None some = cc some
    one (Some more) some = refl

escape-more : (byte : ℕ) (line : List ℕ) (read : Option (List (List ℕ))) → is_some (escaped byte) ≡ true
    → InQuotes line read → InEscape (byte ∷ line) (with_byte byte read)
escape-more byte line None good has = tt
escape-more byte line (Some []) good has = tt
escape-more byte line (Some (word ∷ words)) good has =
    (byte, word, has.0, refl, good, ap (λ (more : List ℕ). byte ∷ more) has.1, has.2, has.3, has.4)

behind-blank : (byte : ℕ) (line : List ℕ) (read : Option (List (List ℕ))) → is_blank byte ≡ true → InBetween line read → Behind (byte ∷ line) (ends_word read)
behind-blank byte line None blank has = tt
behind-blank byte line (Some words) blank has = (refl, λ some. blank, blank-more byte line words blank has)

record Told (line : List ℕ) : Type 0 where
  between : InBetween line (words_from Between line)
  bare : InBare line (words_from Bare line)
  quotes : InQuotes line (words_from Quoted line)
  escape : InEscape line (words_from Escaped line)
  behind : Behind line (words_from Closed line)

told-between : (byte : ℕ) (line : List ℕ) → Told line → InBetween (byte ∷ line) (words_from Between (byte ∷ line))
told-between byte line rest =
    elim (cases_Bool (is_blank byte)) [
      | inl blank ↦ rw blank (between-blank byte line (words_from Between line) blank rest.between)
      | inr other ↦ elim (cases_Bool (byte == 34)) [
        | inl quote ↦ rw (other, quote) (between-quote byte line (words_from Quoted line) quote rest.quotes)
        | inr plain ↦ rw (other, plain) (between-bare byte line (words_from Bare line) other plain rest.bare)
      ]
    ]

told-bare : (byte : ℕ) (line : List ℕ) → Told line → InBare (byte ∷ line) (words_from Bare (byte ∷ line))
told-bare byte line rest =
    elim (cases_Bool (is_blank byte)) [
      | inl blank ↦ rw blank (bare-blank byte line (words_from Between line) blank rest.between)
      | inr other ↦ rw other (bare-more byte line (words_from Bare line) other rest.bare)
    ]

told-quotes : (byte : ℕ) (line : List ℕ) → Told line → InQuotes (byte ∷ line) (words_from Quoted (byte ∷ line))
told-quotes byte line rest =
    elim (cases_Bool (byte == 34)) [
      | inl quote ↦ rw quote (quotes-close byte line (words_from Closed line) quote rest.behind)
      | inr plain ↦ elim (cases_Bool (byte == 92)) [
        | inl escape ↦ rw (plain, escape) (quotes-escape byte line (words_from Escaped line) plain escape rest.escape)
        | inr same ↦ rw (plain, same) (quotes-more byte line (words_from Quoted line) plain same rest.quotes)
      ]
    ]

told-escape : (byte : ℕ) (line : List ℕ) → Told line → InEscape (byte ∷ line) (words_from Escaped (byte ∷ line))
told-escape byte line rest =
    elim (cases_Bool (is_some (escaped byte))) [
      | inl good ↦ rw good (escape-more byte line (words_from Quoted line) good rest.quotes)
      | inr bad ↦ rw bad tt
    ]

told-behind : (byte : ℕ) (line : List ℕ) → Told line → Behind (byte ∷ line) (words_from Closed (byte ∷ line))
told-behind byte line rest =
    elim (cases_Bool (is_blank byte)) [
      | inl blank ↦ rw blank (behind-blank byte line (words_from Between line) blank rest.between)
      | inr other ↦ rw other tt
    ]

told : (line : List ℕ) → Told line
told [] = record {
  between = all-none true;
  bare = ([], refl, all-none false, no-words, all-none true);
  quotes = tt;
  escape = tt;
  behind = (refl, no-words, all-none true);
}
told (byte ∷ line) = record {
  between = told-between byte line (told line);
  bare = told-bare byte line (told line);
  quotes = told-quotes byte line (told line);
  escape = told-escape byte line (told line);
  behind = told-behind byte line (told line);
}

-- blanks at the front, and at the end
blanks-pass : (blanks line : List ℕ) → AllBlank blanks → words_of (blanks ++ line) ≡ words_of line
blanks-pass [] line all = refl
blanks-pass (byte ∷ blanks) line all =
    let parts = all-fewer true byte blanks all in
    rw parts.0 (blanks-pass blanks line parts.1)

blanks-end : (line : List ℕ) → AllBlank line → words_of line ≡ Some []
blanks-end [] all = refl
blanks-end (byte ∷ line) all =
    let parts = all-fewer true byte line all in
    rw parts.0 (blanks-end line parts.1)

bare-ends : (rest : List ℕ) → EndsWord rest → words_from Bare rest ≡ option_map (λ words. [] ∷ words) (words_of rest)
bare-ends [] ends = refl
bare-ends (byte ∷ rest) ends = rw (ends (omega arith)) refl

bare-read : (word rest : List ℕ) → AllBare word → EndsWord rest → words_from Bare (word ++ rest) ≡ option_map (λ words. word ∷ words) (words_of rest)
bare-read [] rest all ends = bare-ends rest ends
bare-read (byte ∷ word) rest all ends =
    let parts = all-fewer false byte word all in
    rw (parts.0, bare-read word rest parts.1 ends) (with_byte-word byte word (words_of rest))

word-read : (word rest : List ℕ) → IsBareWord word → EndsWord rest → words_of (word ++ rest) ≡ option_map (λ words. word ∷ words) (words_of rest)
word-read [] rest is ends = absurd (let some = is.0 in omega arith)
word-read (byte ∷ word) rest is ends =
    let parts = all-fewer false byte word is.2 in
    rw (parts.0, is.1, bare-read word rest parts.1 ends) (with_byte-word byte word (words_of rest))

some-of : (first : ℕ) (text : Option (List ℕ)) → IsSome (option_map (λ more. first ∷ more) text) → IsSome text
some-of first None some = cc some
some-of first (Some more) some = refl

both-of : (read : Option ℕ) (text : Option (List ℕ)) → IsSome (option_and_then (λ first. option_map (λ more. first ∷ more) text) read)
    → IsSome read × IsSome text
both-of None text some = absurd (let e : false ≡ true = some in cc)
both-of (Some first) text some = (refl, some-of first text some)

text-read : (word rest : List ℕ) → IsSome (quoted_text word) → EndsWord rest → words_from Quoted (word ++ rest) ≡ option_map (λ words. word ∷ words) (words_of rest)
text-read [] rest is ends = absurd (let e : false ≡ true = is in cc)
text-read (byte ∷ []) rest is ends =
    elim (cases_Bool (byte == 34)) [
      | inl quote ↦ rw (quote, words_from-closed rest ends) (with_byte-word byte [] (words_of rest))
      | inr plain ↦ absurd (let e : false ≡ true = rw plain at is in cc)
    ]
text-read (byte ∷ next ∷ word) rest is ends =
    elim (cases_Bool (byte == 34)) [
      | inl quote ↦ absurd (let e : false ≡ true = rw quote at is in cc)
      | inr plain ↦ elim (cases_Bool (byte == 92)) [
        | inl escape ↦
            let parts = both-of (escaped next) (quoted_text word) (rw (plain, escape) at is) in
            rw (plain, escape, parts.0, text-read word rest parts.1 ends)
            (ap (with_byte byte) (with_byte-word next word (words_of rest)) ∙ with_byte-word byte (next ∷ word) (words_of rest))
        | inr same ↦
            let others = some-of byte (quoted_text (next ∷ word)) (rw (plain, same) at is) in
            rw (plain, same)
            (ap (with_byte byte) (text-read (next ∷ word) rest others ends) ∙ with_byte-word byte (next ∷ word) (words_of rest))
      ]
    ]

quote-apart : (byte : ℕ) → (byte == 34) ≡ true → is_blank byte ≡ false
quote-apart byte quote = let same : byte ≡ 34 = grind (arith) in rw same refl

text-word-read : (word rest : List ℕ) → IsTextWord word → EndsWord rest → words_of (word ++ rest) ≡ option_map (λ words. word ∷ words) (words_of rest)
text-word-read [] rest is ends = absurd (let e : false ≡ true = is.0 in cc)
text-word-read (byte ∷ word) rest is ends =
    rw (quote-apart byte is.0, is.0, text-read word rest is.1 ends) (with_byte-word byte word (words_of rest))

has-words : (words : List (List ℕ)) (line : List ℕ) → HasWords words line → words_of line ≡ Some words
has-words [] line has = blanks-end line has
has-words (word ∷ words) line has =
    let first = by-word has.4 in
    ap words_of (has.2 ∙ append_assoc has.0 word has.1) ∙ blanks-pass has.0 (word ++ has.1) has.3 ∙ first
    ∙ ap (option_map (λ (others : List (List ℕ)). word ∷ others)) (has-words words has.1 has.6)
  where
    by-word : (IsBareWord word ⊎ IsTextWord word) → words_of (word ++ has.1) ≡ option_map (λ words. word ∷ words) (words_of has.1)
    by-word (inl bare) = word-read word has.1 bare has.5
    by-word (inr text) = text-word-read word has.1 text has.5

pub splits-lines : SplitsLines
splits-lines line words = (
  λ read. rw read at (told line).between,
  λ has. has-words words line has,
)
