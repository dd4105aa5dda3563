-- A script is what its lines say.
use Rattle.std.proofs.Common.{◌≡◌, ℕ, suc, ◌+◌, true, false, List, [], ◌∷◌, ◌++◌, length, refl, ap, sym, ◌∙◌, inl, inr, arith, append_assoc}
use Rattle.std.specs.Prelude.{not, filter, slice_index_or, Result, Ok, Err}
use Rattle.std.specs.Str.Lines.{lines}
use Rattle.std.proofs.lemmas.Bool.{cases_Bool}
use Rattle.std.proofs.lemmas.List.{append-nil}
use Rattle.script_text.specs.declared.script.Line.{Line}
use Rattle.script_text.specs.declared.error.ScriptError.{ScriptError}
use Rattle.script_text.specs.Words.{is_passed_over}
use Rattle.script_text.specs.Reading.{go_on, read_after, script_after}
use Rattle.script_text.specs.Laws.{ReadsEachLine, SaysEach}

-- the texts that are read
abbrev kept : List (List ℕ) → List (List ℕ)
kept texts = filter (λ line. not (is_passed_over line)) texts

-- the script has a line for each of these texts, behind earlier lines
record SaysBehind (before : List Line) (texts : List (List ℕ)) (script : List Line) : Type 0 where
  count : length script ≡ length texts
  each : (earlier later : List Line) (said : Line) → script ≡ earlier ++ said ∷ later
      → read_after (before ++ earlier) (slice_index_or texts (length earlier) []) ≡ Ok said

-- a line more at the front
more-said : (before : List Line) (text : List ℕ) (texts : List (List ℕ)) (said : Line) (script : List Line)
    → read_after before text ≡ Ok said → SaysBehind (before ++ said ∷ []) texts script
    → SaysBehind before (text ∷ texts) (said ∷ script)
more-said before text texts said script first others = record { count = ap suc others.count; each = λ earlier later line is. at earlier later line is }
  where
    at : (earlier later : List Line) (line : Line) → said ∷ script ≡ earlier ++ line ∷ later
        → read_after (before ++ earlier) (slice_index_or (text ∷ texts) (length earlier) []) ≡ Ok line
    at [] later line is = let same : said ≡ line = cc in rw (append-nil before) (first ∙ ap Ok same)
    at (front ∷ earlier) later line is =
        let same : said ≡ front = cc in
        let rest : script ≡ earlier ++ line ∷ later = cc in
        rw (← same, ← append_assoc before (said ∷ []) earlier) (others.each earlier later line rest)

-- and one less
fewer-said : (before : List Line) (text : List ℕ) (texts : List (List ℕ)) (said : Line) (script : List Line)
    → SaysBehind before (text ∷ texts) (said ∷ script)
    → (read_after before text ≡ Ok said) × SaysBehind (before ++ said ∷ []) texts script
fewer-said before text texts said script all = (
  rw (append-nil before) at (all.each [] script said refl),
  record {
    count = let c = all.count in omega arith;
    each = λ earlier later line is.
        rw (append_assoc before (said ∷ []) earlier) (all.each (said ∷ earlier) later line (ap (λ (more : List Line). said ∷ more) is));
  },
)

-- what a reading says
abbrev Told : List Line → List (List ℕ) → Result (List Line) ScriptError → Type 0
Told before texts (Ok all) = (script : List Line) × (all ≡ before ++ script) × SaysBehind before (kept texts) script
Told before texts (Err refusal) = Unit {0}

told-more : (before : List Line) (text : List ℕ) (texts : List (List ℕ)) (said : Line) (read : Result (List Line) ScriptError)
    → is_passed_over text ≡ false → read_after before text ≡ Ok said → Told (before ++ said ∷ []) texts read → Told before (text ∷ texts) read
told-more before text texts said (Ok all) is first others = (
  said ∷ others.0,
  others.1 ∙ append_assoc before (said ∷ []) others.0,
  rw is (more-said before text (kept texts) said others.0 first others.2),
)
told-more before text texts said (Err refusal) is first others = tt

told-passed : (before : List Line) (text : List ℕ) (texts : List (List ℕ)) (read : Result (List Line) ScriptError)
    → is_passed_over text ≡ true → Told before texts read → Told before (text ∷ texts) read
told-passed before text texts (Ok all) is others = rw is others
told-passed before text texts (Err refusal) is others = tt

told-line : (before : List Line) (number : ℕ) (text : List ℕ) (texts : List (List ℕ)) (read : Result Line ℕ)
    → is_passed_over text ≡ false → read_after before text ≡ read
    → ((others : List Line) → Told others texts (script_after others (number + 1) texts))
    → Told before (text ∷ texts) (go_on number read (λ line. script_after (before ++ line ∷ []) (number + 1) texts))
told-line before number text texts (Ok said) is first rest =
    told-more before text texts said (script_after (before ++ said ∷ []) (number + 1) texts) is first (rest (before ++ said ∷ []))
told-line before number text texts (Err rule) is first rest = tt

told : (before : List Line) (number : ℕ) (texts : List (List ℕ)) → Told before texts (script_after before number texts)
told before number [] = (
  [],
  sym (append-nil before),
  record { count = refl; each = λ earlier later said is. absurd (none earlier later said is) },
)
  where
    none : (earlier later : List Line) (said : Line) → [] ≡ earlier ++ said ∷ later → ⊥
    none [] later said is = cc is
    none (front ∷ earlier) later said is = cc is
told before number (text ∷ texts) =
    elim (cases_Bool (is_passed_over text)) [
      | inl passed ↦ rw passed (told-passed before text texts (script_after before (number + 1) texts) passed (told before (number + 1) texts))
      | inr looked ↦
          rw looked (told-line before number text texts (read_after before text) looked refl (λ others. told others (number + 1) texts))
    ]

-- the lines behind a first one that is looked at
reads-first : (before : List Line) (number : ℕ) (text : List ℕ) (texts : List (List ℕ)) (script : List Line)
    → ((others : List Line) (rest : List Line) → SaysBehind others (kept texts) rest
    → script_after others (number + 1) texts ≡ Ok (others ++ rest))
    → SaysBehind before (text ∷ kept texts) script
    → go_on number (read_after before text) (λ line. script_after (before ++ line ∷ []) (number + 1) texts) ≡ Ok (before ++ script)
reads-first before number text texts [] behind all = absurd (let c = all.count in omega arith)
reads-first before number text texts (said ∷ rest) behind all =
    let parts = fewer-said before text (kept texts) said rest all in
    rw parts.0 (behind (before ++ said ∷ []) rest parts.1 ∙ ap Ok (append_assoc before (said ∷ []) rest))

reads-kept : (before : List Line) (number : ℕ) (texts : List (List ℕ)) (script : List Line) → SaysBehind before (kept texts) script
    → script_after before number texts ≡ Ok (before ++ script)
reads-kept before number [] [] says = ap Ok (sym (append-nil before))
reads-kept before number [] (said ∷ script) says = absurd (let c = says.count in omega arith)
reads-kept before number (text ∷ texts) script says =
    elim (cases_Bool (is_passed_over text)) [
      | inl passed ↦ rw passed (reads-kept before (number + 1) texts script (rw passed at says))
      | inr looked ↦
          rw looked
          (reads-first before number text texts script (λ others rest. reads-kept others (number + 1) texts rest) (rw looked at says))
    ]

says : (texts : List (List ℕ)) (script : List Line) → SaysBehind [] texts script → SaysEach texts script
says texts script is = record { count = is.count; each = is.each }

behind : (texts : List (List ℕ)) (script : List Line) → SaysEach texts script → SaysBehind [] texts script
behind texts script is = record { count = is.count; each = is.each }

given : (bytes : List ℕ) (script : List Line) → Told [] (lines bytes) (Ok script) → SaysEach (kept (lines bytes)) script
given bytes script is = rw (sym is.1) at (says (kept (lines bytes)) is.0 is.2)

pub reads-each-line : ReadsEachLine
reads-each-line bytes script = (
  λ read. given bytes script (rw read at (told [] 1 (lines bytes))),
  λ each. reads-kept [] 1 (lines bytes) script (behind (kept (lines bytes)) script each),
)
