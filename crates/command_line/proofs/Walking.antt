-- Clap's walk over all the words, and the parts of these words.
use Rattle.std.proofs.Common.{◌≡◌, inl, inr, ◌==◌, ℕ, Bool, true, false, List, [], ◌∷◌, length, nat_lt, refl, ap, ap₂, sym, subst, ◌∙◌, true≢false, eqb-true, Option, None, Some}
use Rattle.std.specs.Prelude.{fold}
use Rattle.std.specs.List.{after_first, list_all, list_any}
use Rattle.clap.specs.Walk.{Row, Text, Waiting, Walk, idle, positional, option, settled_rows, walked}
use Rattle.clap.specs.Faults.{settle_fault, turn_fault, walk_fault}
use Rattle.clap.specs.Kinds.{Kinds, or_else}
use Rattle.clap.specs.declared.error.kind.ErrorKind.{ErrorKind}
use Rattle.clap.specs.declared.error.kind.ErrorKind.TheVariants as kind
use Rattle.clap.proofs.WalkLemmas.{both}
use Rattle.command_line.specs.Parts.{Part, has_minus, is_equals, is_known, may_stand, option_name, parts_from, path, with_part}
use Rattle.command_line.proofs.Rules.{cases, rules_for}
use Rattle.command_line.proofs.Turns.{IsLast, IsReady, add, alone-goes, alone-passes, at, attached-goes, attached-passes, awaiting-fails, done, part_of, path-goes, path-passes, put, settled-as, settles, shape, unknown-fails, unsettled, value-goes, value-passes, word_of}

-- the walk after the words, the kinds of its faults, and the rows that it leaves
abbrev pub ends : List Text → Walk → List Text → Walk
ends known w words = fold (walked (rules_for known) []) w words

abbrev pub faults : List Text → Walk → List Text → Kinds
faults known w words = or_else (walk_fault (shape known) [] w words) (settle_fault (rules_for known) false (ends known w words).held)

abbrev pub rows_left : List Text → Walk → List Text → List Row
rows_left known w words = settled_rows (rules_for known) (ends known w words).held.pending (ends known w words).held.rows

-- all the parts in the rows
abbrev pub put_all : List Part → List Row → List Row
put_all [] rows = rows
put_all (part ∷ parts) rows = put_all parts (add part rows)

-- there are no parts and there is a fault, or there is none and the rows have the parts
abbrev pub Agrees : Option (List Part) → Kinds → List Row → List Row → Type 0
Agrees None kinds before after = kinds ≡ [] → ⊥
Agrees (Some parts) kinds before after = (kinds ≡ []) × (after ≡ put_all parts before)

as-said : (said : Option (List Part)) (a b : Kinds) (before after left : List Row) → a ≡ b → after ≡ left → Agrees said b before left → Agrees said a before after
as-said None a b before after left e f is = λ none. is (sym e ∙ none)
as-said (Some parts) a b before after left e f is = (e ∙ is.0, f ∙ is.1)

-- one more part
one-more : (name value : Text) (said : Option (List Part)) (kinds : Kinds) (before after : List Row) → Agrees said kinds (add (part_of name value) before) after
    → Agrees (with_part name value said) kinds before after
one-more name value None kinds before after is = is
one-more name value (Some parts) kinds before after is = is

abbrev is_none : Kinds → Bool
is_none [] = true
is_none (k ∷ ks) = false

failed : (kinds : Kinds) (k : ErrorKind) (ks : Kinds) → kinds ≡ k ∷ ks → kinds ≡ [] → ⊥
failed kinds k ks e none = true≢false (ap is_none (sym none ∙ e))

-- the faults of a walk by those of its first word
abbrev by_turn : List Text → List Text → Kinds → Walk → Kinds
by_turn known words turn next = or_else (or_else turn (walk_fault (shape known) [] next words)) (settle_fault (rules_for known) false (ends known next words).held)

first-turn : (known : List Text) (w : Walk) (word : Text) (words : List Text)
    → faults known w (word ∷ words) ≡ by_turn known words (turn_fault (shape known) [] w word) (walked (rules_for known) [] w word)
unfolding walk_fault
first-turn known w word words = refl

-- past a word that passes
passes : (known : List Text) (w next : Walk) (word : Text) (words : List Text) (said : Option (List Part)) (before : List Row)
    → turn_fault (shape known) [] w word ≡ [] → walked (rules_for known) [] w word ≡ next
    → Agrees said (faults known next words) before (rows_left known next words) → Agrees said (faults known w (word ∷ words)) before (rows_left known w (word ∷ words))
passes known w next word words said before none goes is =
    as-said said _ _ before _ _ (first-turn known w word words ∙ ap₂ (by_turn known words) none goes) (ap (λ (n : Walk). rows_left known n words) goes) is

-- at a word that fails
fails : (known : List Text) (w : Walk) (word : Text) (words : List Text) (k : ErrorKind) → turn_fault (shape known) [] w word ≡ k ∷ [] → faults known w (word ∷ words) ≡ [] → ⊥
fails known w word words k e =
    failed (faults known w (word ∷ words)) k [] (first-turn known w word words ∙ ap (λ (t : Kinds). by_turn known words t (walked (rules_for known) [] w word)) e)

-- ── what a word looks like ──

abbrev IsOptionWord : Text → Type 0
IsOptionWord word = (x : ℕ) × (xs : List ℕ) × (word ≡ word_of x xs)

of-option : (word : Text) → may_stand word ≡ true → has_minus word ≡ true → IsOptionWord word
of-option [] may minus = absurd (true≢false (sym minus))
of-option (a ∷ []) may minus = absurd (true≢false (sym (rw minus at may)))
of-option (a ∷ b ∷ []) may minus =
    let all = both (b == 45) false (rw minus at may) in
    absurd (true≢false (sym all.1))
of-option (a ∷ b ∷ x ∷ xs) may minus =
    let all = both (b == 45) (nat_lt 2 (length (a ∷ b ∷ x ∷ xs))) (rw minus at may) in
    (x, xs, ap₂ (λ (p q : ℕ). p ∷ q ∷ x ∷ xs) (eqb-true a 45 minus) (eqb-true b 45 all.0))

abbrev IsPlainWord : Text → Type 0
IsPlainWord word = (b : ℕ) × (bs : List ℕ) × (word ≡ b ∷ bs) × ((b == 45) ≡ false)

of-plain : (word : Text) → may_stand word ≡ true → has_minus word ≡ false → IsPlainWord word
of-plain [] may minus = absurd (true≢false (sym may))
of-plain (b ∷ bs) may minus = (b, bs, refl, minus)

-- ── all the words ──

-- where the walk stands: an option awaits its value, or none does; the rows have these parts with the last one
abbrev Stands : List Text → Option Text → Walk → List Row → Type 0
Stands known None w before = (rows : List Row) × (last : Option Part) × (waiting : Waiting) × (w ≡ at rows (done last) waiting)
    × IsReady waiting × IsLast known last × (before ≡ put last rows)
Stands known (Some name) w before = (w ≡ at before (Some (name, [])) (option name)) × (is_known known name ≡ true)

abbrev AgreesAt : List Text → List Text → Option Text → Walk → List Row → Type 0
AgreesAt known words awaiting w before = Agrees (parts_from known awaiting words) (faults known w words) before (rows_left known w words)

-- what is known of the words that follow
abbrev Rest : List Text → List Text → Type 0
Rest known words = (awaiting : Option Text) (w : Walk) (before : List Row) → Stands known awaiting w before → AgreesAt known words awaiting w before

at-path : (known words : List Text) (rows : List Row) (last : Option Part) (waiting : Waiting) (b : ℕ) (bs : List ℕ) → IsReady waiting → IsLast known last → (b == 45) ≡ false
    → Rest known words → AgreesAt known ((b ∷ bs) ∷ words) None (at rows (done last) waiting) (put last rows)
at-path known words rows last waiting b bs ready is e rest =
    let next = at (put last rows) (done (Some (part_of path (b ∷ bs)))) positional in
    rw e
    (passes known (at rows (done last) waiting) next (b ∷ bs) words (with_part path (b ∷ bs) (parts_from known None words)) (put last rows)
    (path-passes known rows last waiting b bs ready is e) (path-goes known rows last waiting b bs ready is e)
    (one-more path (b ∷ bs) (parts_from known None words) _ (put last rows) _
    (rest None next (add (part_of path (b ∷ bs)) (put last rows)) (put last rows, Some (part_of path (b ∷ bs)), positional, refl, tt, inl refl, refl))))

at-option : (known words : List Text) (rows : List Row) (last : Option Part) (waiting : Waiting) (x : ℕ) (xs : List ℕ) → IsReady waiting → IsLast known last
    → Rest known words → AgreesAt known (word_of x xs ∷ words) None (at rows (done last) waiting) (put last rows)
at-option known words rows last waiting x xs ready is rest =
    let name = option_name (word_of x xs) in
    let value = after_first is_equals (x ∷ xs) in
    let w = at rows (done last) waiting in
    elim (cases (is_known known name)) [
      | inr k ↦ rw k (fails known w (word_of x xs) words kind.UnknownArgument (unknown-fails known rows (done last) waiting x xs k))
      | inl k ↦ rw k (elim (cases (list_any is_equals (x ∷ xs))) [
        | inl has ↦ rw has
            (passes known w (at (add (part_of name value) (put last rows)) None idle) (word_of x xs) words (with_part name value (parts_from known None words)) (put last rows)
            (attached-passes known rows last waiting x xs ready is k has) (attached-goes known rows last waiting x xs ready is k has)
            (one-more name value (parts_from known None words) _ (put last rows) _
            (rest None (at (add (part_of name value) (put last rows)) None idle) (add (part_of name value) (put last rows))
            (add (part_of name value) (put last rows), None, idle, refl, tt, tt, refl))))
        | inr has ↦ rw has
            (passes known w (at (put last rows) (Some (name, [])) (option name)) (word_of x xs) words (parts_from known (Some name) words) (put last rows)
            (alone-passes known rows last waiting x xs ready is k has) (alone-goes known rows last waiting x xs ready is k has)
            (rest (Some name) (at (put last rows) (Some (name, [])) (option name)) (put last rows) (refl, k)))
      ])
    ]

at-value : (known words : List Text) (before : List Row) (name : Text) (b : ℕ) (bs : List ℕ) → is_known known name ≡ true → (b == 45) ≡ false
    → Rest known words → AgreesAt known ((b ∷ bs) ∷ words) (Some name) (at before (Some (name, [])) (option name)) before
at-value known words before name b bs k e rest =
    let next = at before (done (Some (part_of name (b ∷ bs)))) idle in
    rw e
    (passes known (at before (Some (name, [])) (option name)) next (b ∷ bs) words (with_part name (b ∷ bs) (parts_from known None words)) before
    (value-passes known before name b bs e) (value-goes known before name b bs (inr k) e)
    (one-more name (b ∷ bs) (parts_from known None words) _ before _
    (rest None next (add (part_of name (b ∷ bs)) before) (before, Some (part_of name (b ∷ bs)), idle, refl, tt, inr k, refl))))

at-late-option : (known words : List Text) (before : List Row) (name : Text) (x : ℕ) (xs : List ℕ) → is_known known name ≡ true
    → AgreesAt known (word_of x xs ∷ words) (Some name) (at before (Some (name, [])) (option name)) before
at-late-option known words before name x xs k =
    let w = at before (Some (name, [])) (option name) in
    elim (cases (is_known known (option_name (word_of x xs)))) [
      | inl other ↦ fails known w (word_of x xs) words kind.InvalidValue (awaiting-fails known before name x xs (inr k) other)
      | inr other ↦ fails known w (word_of x xs) words kind.UnknownArgument (unknown-fails known before (Some (name, [])) (option name) x xs other)
    ]

abbrev HereIs : List Text → List Text → Option Text → Walk → List Row → Text → Type 0
HereIs known words awaiting w before word = AgreesAt known (word ∷ words) awaiting w before

at-word : (known : List Text) (word : Text) (words : List Text) (awaiting : Option Text) (w : Walk) (before : List Row) → Stands known awaiting w before → may_stand word ≡ true
    → Rest known words → AgreesAt known (word ∷ words) awaiting w before
at-word known word words None w before stands may rest = elim (cases (has_minus word)) [
  | inl minus ↦ let is = of-option word may minus in
      subst (λ (t : Text). AgreesAt known (t ∷ words) None w before) (sym is.2)
      (rw (stands.3, stands.6) (at-option known words stands.0 stands.1 stands.2 is.0 is.1 stands.4 stands.5 rest))
  | inr minus ↦ let is = of-plain word may minus in
      subst (λ (t : Text). AgreesAt known (t ∷ words) None w before) (sym is.2)
      (rw (stands.3, stands.6) (at-path known words stands.0 stands.1 stands.2 is.0 is.1 stands.4 stands.5 is.3 rest))
]
at-word known word words (Some name) w before stands may rest = elim (cases (has_minus word)) [
  | inl minus ↦ let is = of-option word may minus in
      subst (λ (t : Text). AgreesAt known (t ∷ words) (Some name) w before) (sym is.2)
      (rw stands.0 (at-late-option known words before name is.0 is.1 stands.1))
  | inr minus ↦ let is = of-plain word may minus in
      subst (λ (t : Text). AgreesAt known (t ∷ words) (Some name) w before) (sym is.2)
      (rw stands.0 (at-value known words before name is.0 is.1 stands.1 is.3 rest))
]

at-end : (known : List Text) (awaiting : Option Text) (w : Walk) (before : List Row) → Stands known awaiting w before → AgreesAt known [] awaiting w before
unfolding walk_fault
at-end known None w before stands =
    rw (stands.3, stands.6) (settles known stands.1 stands.0 stands.5, settled-as known stands.1 stands.0 stands.5)
at-end known (Some name) w before stands =
    rw stands.0 (failed _ kind.InvalidValue [] (unsettled known name before (inr stands.1)))

pub agrees : (known words : List Text) → list_all may_stand words ≡ true → Rest known words
agrees known [] may = at-end known
agrees known (word ∷ words) may = λ awaiting w before stands.
    let all = both (may_stand word) (list_all may_stand words) may in
    at-word known word words awaiting w before stands all.0 (agrees known words all.1)
