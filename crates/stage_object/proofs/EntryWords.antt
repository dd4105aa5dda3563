-- The entries of an object, one word after the other.
use Rattle.std.proofs.Common.{◌≡◌, ◌⊎◌, ⊎_elim, ℕ, zero, suc, ◌+◌, ◌-◌, ◌<◌, ◌≤◌, List, [], ◌∷◌, ◌++◌, length, Some, slice_get, get_or, eqb, refl, sym, ◌∙◌, ap, append_assoc, arith}
use Rattle.std.proofs.lemmas.Bool.{cond-true, cond-false, eq-eqb, ne_eqb, cases_eq}
use Rattle.image_layout.specs.Fixed.{entry_at}
use Rattle.txn_object.specs.declared.entry.Entry.{Entry}
use Rattle.txn_object.specs.Entries.{entry_of}
use Rattle.stage_object.specs.Object.{entries_from, entries_in, free_among, free_entries_in}
use Rattle.stage_object.specs.Shown.{NoEntryFollowsZero}

-- the word at the place is 0: there are no more
pub entries_from-stop : (words : List ℕ) (object nth places : ℕ) → get_or words (entry_at object nth) 0 ≡ 0 → entries_from words object nth places ≡ []
entries_from-stop words object nth zero is = refl
entries_from-stop words object nth (suc places) is =
    cond-true (eqb (get_or words (entry_at object nth) 0) 0) [] (entry_of (get_or words (entry_at object nth) 0) ∷ entries_from words object (nth + 1) places)
    (eq-eqb (get_or words (entry_at object nth) 0) 0 is)

-- it is another one: it spells the next entry
pub entries_from-next : (words : List ℕ) (object nth places : ℕ) → (get_or words (entry_at object nth) 0 ≡ 0 → ⊥)
    → entries_from words object nth (suc places) ≡ entry_of (get_or words (entry_at object nth) 0) ∷ entries_from words object (nth + 1) places
entries_from-next words object nth places isnt =
    cond-false (eqb (get_or words (entry_at object nth) 0) 0) [] (entry_of (get_or words (entry_at object nth) 0) ∷ entries_from words object (nth + 1) places)
    (ne_eqb (get_or words (entry_at object nth) 0) 0 isnt)

-- one entry more is read
pub entries_from-more : (words : List ℕ) (object nth place word : ℕ) (before after all : List Entry) (entry : Entry)
    → nth < 60 → place ≡ entry_at object nth → word ≡ get_or words place 0 → (word ≡ 0 → ⊥) → entry ≡ entry_of word → after ≡ before ++ entry ∷ []
    → before ++ entries_from words object nth (60 - nth) ≡ all → after ++ entries_from words object (nth + 1) (60 - (nth + 1)) ≡ all
entries_from-more words object nth place word before after all entry lt at load set spelt pushed is =
    let rest = entries_from words object (nth + 1) (60 - (nth + 1)) in
    let read : word ≡ get_or words (entry_at object nth) 0 = load ∙ ap (λ (w : ℕ). get_or words w 0) at in
    let count : 60 - nth ≡ suc (60 - (nth + 1)) = omega (arith, lt) in
    let next : entries_from words object nth (60 - nth) ≡ entry ∷ rest =
    ap (λ (n : ℕ). entries_from words object nth n) count ∙ entries_from-next words object nth (60 - (nth + 1)) (λ e. set (read ∙ e))
    ∙ ap (λ (x : Entry). x ∷ rest) (ap (λ (w : ℕ). entry_of w) (sym read) ∙ sym spelt) in
    ap (λ (l : List Entry). l ++ rest) pushed ∙ append_assoc before (entry ∷ []) rest ∙ ap (λ (l : List Entry). before ++ l) (sym next) ∙ is

-- ── the entries by place ──

-- an entry word of an object
abbrev pub word_at : List ℕ → ℕ → ℕ → ℕ
word_at words object nth = get_or words (entry_at object nth) 0

-- how many there are from a place on
length-stop : (words : List ℕ) (object nth places : ℕ) → word_at words object nth ≡ 0 → length (entries_from words object nth places) ≡ 0
length-stop words object nth places is = ap (λ (l : List Entry). length l) (entries_from-stop words object nth places is)

length-next : (words : List ℕ) (object nth places : ℕ) → (word_at words object nth ≡ 0 → ⊥)
    → length (entries_from words object nth (suc places)) ≡ suc (length (entries_from words object (nth + 1) places))
length-next words object nth places isnt = ap (λ (l : List Entry). length l) (entries_from-next words object nth places isnt)

length-entries_from : (words : List ℕ) (object nth places : ℕ) → length (entries_from words object nth places) ≤ places
length-entries_from words object nth zero = omega arith
length-entries_from words object nth (suc places) = ⊎_elim
    (λ is. let none = length-stop words object nth (suc places) is in omega (arith, none))
    (λ isnt. let more = length-next words object nth places isnt in let rest = length-entries_from words object (nth + 1) places in omega (arith, more, rest))
    (cases_eq (word_at words object nth) 0)

-- their words are set
entries_from-set : (words : List ℕ) (object nth places k : ℕ) → nth ≤ k → k < nth + length (entries_from words object nth places) → word_at words object k ≡ 0 → ⊥
entries_from-set words object nth zero k le lt is = omega (arith, le, lt)
entries_from-set words object nth (suc places) k le lt is = ⊎_elim
    (λ stop. let none = length-stop words object nth (suc places) stop in omega (arith, none, le, lt))
    (λ isnt. let more = length-next words object nth places isnt in ⊎_elim
    (λ (here : k ≡ nth). isnt (ap (λ (n : ℕ). word_at words object n) (sym here) ∙ is))
    (λ later. entries_from-set words object (nth + 1) places k (omega (arith, le, later)) (omega (arith, lt, more)) is)
    (cases_eq k nth))
    (cases_eq (word_at words object nth) 0)

-- and spell them
entries_from-each : (words : List ℕ) (object nth places k : ℕ) → nth ≤ k → k < nth + length (entries_from words object nth places)
    → slice_get (entries_from words object nth places) (k - nth) ≡ Some (entry_of (word_at words object k))
entries_from-each words object nth zero k le lt = absurd (omega (arith, le, lt))
entries_from-each words object nth (suc places) k le lt = ⊎_elim
    (λ stop. let none = length-stop words object nth (suc places) stop in absurd (omega (arith, none, le, lt)))
    (λ isnt. let more = length-next words object nth places isnt in
    let rest = entries_from words object (nth + 1) places in
    ap (λ (l : List Entry). slice_get l (k - nth)) (entries_from-next words object nth places isnt) ∙ ⊎_elim
    (λ (here : k ≡ nth). let first : k - nth ≡ 0 = omega (arith, here) in
    ap (λ (i : ℕ). slice_get (entry_of (word_at words object nth) ∷ rest) i) first ∙ ap (λ (n : ℕ). Some (entry_of (word_at words object n))) (sym here))
    (λ later. let next : k - nth ≡ suc (k - (nth + 1)) = omega (arith, le, later) in
    ap (λ (i : ℕ). slice_get (entry_of (word_at words object nth) ∷ rest) i) next ∙ entries_from-each words object (nth + 1) places k (omega (arith, le, later)) (omega (arith, lt, more)))
    (cases_eq k nth))
    (cases_eq (word_at words object nth) 0)

-- the word after them is 0
entries_from-zero : (words : List ℕ) (object nth places : ℕ) → length (entries_from words object nth places) < places → word_at words object (nth + length (entries_from words object nth places)) ≡ 0
entries_from-zero words object nth zero lt = absurd (omega (arith, lt))
entries_from-zero words object nth (suc places) lt = ⊎_elim
    (λ stop. let here : nth + length (entries_from words object nth (suc places)) ≡ nth = omega (arith, length-stop words object nth (suc places) stop) in
    ap (λ (n : ℕ). word_at words object n) here ∙ stop)
    (λ isnt. let more = length-next words object nth places isnt in
    let next : nth + length (entries_from words object nth (suc places)) ≡ nth + 1 + length (entries_from words object (nth + 1) places) = omega (arith, more) in
    ap (λ (n : ℕ). word_at words object n) next ∙ entries_from-zero words object (nth + 1) places (omega (arith, lt, more)))
    (cases_eq (word_at words object nth) 0)

-- the same words spell the same entries
entries_from-same : (old new : List ℕ) (object nth places : ℕ) → ((k : ℕ) → nth ≤ k → k < nth + places → word_at new object k ≡ word_at old object k) → entries_from new object nth places ≡ entries_from old object nth places
entries_from-same old new object nth zero same = refl
entries_from-same old new object nth (suc places) same =
    let here = same nth (omega arith) (omega arith) in ⊎_elim
    (λ stop. entries_from-stop new object nth (suc places) (here ∙ stop) ∙ sym (entries_from-stop old object nth (suc places) stop))
    (λ isnt. entries_from-next new object nth places (λ e. isnt (sym here ∙ e))
    ∙ ap (λ (w : ℕ). entry_of w ∷ entries_from new object (nth + 1) places) here
    ∙ ap (λ (l : List Entry). entry_of (word_at old object nth) ∷ l) (entries_from-same old new object (nth + 1) places (λ k le lt. same k (omega (arith, le)) (omega (arith, lt))))
    ∙ sym (entries_from-next old object nth places isnt))
    (cases_eq (word_at old object nth) 0)

-- One more word after them is one more entry.
entries_from-append : (old new : List ℕ) (object nth places last word : ℕ)
    → nth + length (entries_from old object nth places) ≡ last → last < nth + places
    → ((k : ℕ) → (k ≡ last → ⊥) → word_at new object k ≡ word_at old object k) → word_at new object last ≡ word → (word ≡ 0 → ⊥) → (last + 1 < nth + places → word_at old object (last + 1) ≡ 0)
    → entries_from new object nth places ≡ entries_from old object nth places ++ entry_of word ∷ []
entries_from-append old new object nth zero last word count lt others here set after = absurd (omega (arith, count, lt))
entries_from-append old new object nth (suc places) last word count lt others here set after = ⊎_elim
    (λ stop. let is : last ≡ nth = omega (arith, count, length-stop old object nth (suc places) stop) in
    let put : word_at new object nth ≡ word = ap (λ (n : ℕ). word_at new object n) (sym is) ∙ here in
    let none : (room : ℕ) → room ≡ places → entries_from new object (nth + 1) room ≡ [] = λ room same. ends room (λ more.
    others (nth + 1) (λ e. omega (arith, e, is)) ∙ ap (λ (n : ℕ). word_at old object (n + 1)) (sym is) ∙ after (omega (arith, is, same, more))) in
    entries_from-next new object nth places (λ e. set (sym put ∙ e))
    ∙ ap (λ (w : ℕ). entry_of w ∷ entries_from new object (nth + 1) places) put
    ∙ ap (λ (l : List Entry). entry_of word ∷ l) (none places refl)
    ∙ ap (λ (l : List Entry). l ++ entry_of word ∷ []) (sym (entries_from-stop old object nth (suc places) stop)))
    (λ isnt. let more = length-next old object nth places isnt in
    let kept = others nth (λ (e : nth ≡ last). omega (arith, e, count, more)) in
    entries_from-next new object nth places (λ e. isnt (sym kept ∙ e))
    ∙ ap (λ (w : ℕ). entry_of w ∷ entries_from new object (nth + 1) places) kept
    ∙ ap (λ (l : List Entry). entry_of (word_at old object nth) ∷ l)
    (entries_from-append old new object (nth + 1) places last word (omega (arith, count, more)) (omega (arith, lt)) others here set (λ lt. after (omega (arith, lt))))
    ∙ ap (λ (l : List Entry). l ++ entry_of word ∷ []) (sym (entries_from-next old object nth places isnt)))
    (cases_eq (word_at old object nth) 0)
  where
    ends : (room : ℕ) → (0 < room → word_at new object (nth + 1) ≡ 0) → entries_from new object (nth + 1) room ≡ []
    ends zero is = refl
    ends (suc room) is = entries_from-stop new object (nth + 1) (suc room) (is (omega arith))

-- ── the entries of an object ──

pub length-entries_in : (words : List ℕ) (object : ℕ) → length (entries_in words object) ≤ 60
unfolding entries_in
length-entries_in words object = length-entries_from words object 0 60

pub entries_in-set : (words : List ℕ) (object nth : ℕ) → nth < length (entries_in words object) → word_at words object nth ≡ 0 → ⊥
unfolding entries_in
entries_in-set words object nth lt is = entries_from-set words object 0 60 nth (omega arith) (omega (arith, lt)) is

pub entries_in-each : (words : List ℕ) (object nth : ℕ) → nth < length (entries_in words object) → slice_get (entries_in words object) nth ≡ Some (entry_of (word_at words object nth))
unfolding entries_in
entries_in-each words object nth lt =
    let same : nth ≡ nth - 0 = omega arith in
    ap (λ (i : ℕ). slice_get (entries_from words object 0 60) i) same ∙ entries_from-each words object 0 60 nth (omega arith) (omega (arith, lt))

pub entries_in-zero : (words : List ℕ) (object : ℕ) → length (entries_in words object) < 60 → word_at words object (length (entries_in words object)) ≡ 0
unfolding entries_in
entries_in-zero words object lt =
    let same : length (entries_from words object 0 60) ≡ 0 + length (entries_from words object 0 60) = omega arith in
    ap (λ (n : ℕ). word_at words object n) same ∙ entries_from-zero words object 0 60 lt

pub entries_in-same : (old new : List ℕ) (object : ℕ) → ((nth : ℕ) → nth < 60 → word_at new object nth ≡ word_at old object nth) → entries_in new object ≡ entries_in old object
unfolding entries_in
entries_in-same old new object same = entries_from-same old new object 0 60 (λ k le lt. same k (omega (arith, lt)))

pub entries_in-append : (old new : List ℕ) (object nth word : ℕ) → length (entries_in old object) ≡ nth → nth < 60 → ((k : ℕ) → (k ≡ nth → ⊥) → word_at new object k ≡ word_at old object k)
    → word_at new object nth ≡ word → (word ≡ 0 → ⊥) → (nth + 1 < 60 → word_at old object (nth + 1) ≡ 0) → entries_in new object ≡ entries_in old object ++ entry_of word ∷ []
unfolding entries_in
entries_in-append old new object nth word count lt others here set after = entries_from-append old new object 0 60 nth word (omega (arith, count)) (omega (arith, lt)) others here set (λ le. after (omega (arith, le)))

-- none where the first word is 0
pub entries_in-none : (words : List ℕ) (object : ℕ) → word_at words object 0 ≡ 0 → entries_in words object ≡ []
unfolding entries_in
entries_in-none words object is = entries_from-stop words object 0 60 is

-- a 0 is followed by 0 alone
zeros_on : (words : List ℕ) (object nth more : ℕ) → NoEntryFollowsZero words object → nth + more < 60 → word_at words object nth ≡ 0 → word_at words object (nth + more) ≡ 0
zeros_on words object nth zero packed lt is = let same : nth + 0 ≡ nth = omega arith in ap (λ (n : ℕ). word_at words object n) same ∙ is
zeros_on words object nth (suc more) packed lt is =
    let same : nth + suc more ≡ nth + more + 1 = omega arith in
    ap (λ (n : ℕ). word_at words object n) same ∙ packed (nth + more) (omega (arith, lt)) (zeros_on words object nth more packed (omega (arith, lt)) is)

pub entries_in-rest : (words : List ℕ) (object nth : ℕ) → NoEntryFollowsZero words object → length (entries_in words object) ≤ nth → nth < 60 → word_at words object nth ≡ 0
entries_in-rest words object nth packed le lt =
    let count = length (entries_in words object) in
    let same : nth ≡ count + (nth - count) = omega (arith, le) in
    ap (λ (n : ℕ). word_at words object n) same ∙ zeros_on words object count (nth - count) packed (omega (arith, le, lt)) (entries_in-zero words object (omega (arith, le, lt)))

-- the words behind the entries are free
free_among-rest : (words : List ℕ) (object places : ℕ) → NoEntryFollowsZero words object → places ≤ 60 → free_among words object places ≡ places - length (entries_in words object)
free_among-rest words object zero packed le = omega arith
free_among-rest words object (suc places) packed le =
    let count = length (entries_in words object) in
    let before = free_among-rest words object places packed (omega (arith, le)) in ⊎_elim
    (λ lt. let none = cond-false {A = ℕ} (eqb (word_at words object places) 0) 1 0 (ne_eqb (word_at words object places) 0 (entries_in-set words object places lt)) in omega (arith, before, none, lt))
    (λ ge. let one = cond-true {A = ℕ} (eqb (word_at words object places) 0) 1 0 (eq-eqb (word_at words object places) 0 (entries_in-rest words object places packed ge (omega (arith, le)))) in omega (arith, before, one, ge))
    (cases_lt places count)
  where
    cases_lt : (a b : ℕ) → (a < b) ⊎ (b ≤ a)
    cases_lt a b = grind arith

pub free_entries_in-rest : (words : List ℕ) (object : ℕ) → NoEntryFollowsZero words object → free_entries_in words object + length (entries_in words object) ≡ 60
unfolding free_entries_in
free_entries_in-rest words object packed =
    let rest = free_among-rest words object 60 packed (omega arith) in
    let most = length-entries_in words object in
    omega (arith, rest, most)
