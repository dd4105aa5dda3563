-- Entry words in a row: which of them aren't 0, and how many are.
use Rattle.std.proofs.Common.{◌≡◌, ◌≢◌, ℕ, zero, suc, ◌+◌, ◌-◌, ◌<◌, Bool, not, cond, eqb, List, [], ◌∷◌, ◌++◌, map, get_or, refl, sym, ◌∙◌, ap, append_assoc, append-nil, arith}
use Rattle.std.specs.Prelude.{filter, count_by}
use Rattle.std.specs.List.{range_with_len}
use Rattle.std.proofs.lemmas.Bool.{cond-true, cond-false, eq-eqb, ne_eqb}
use Rattle.std.proofs.lemmas.List.Sums.{sum_by-append}
use Rattle.std.proofs.lemmas.List.FromFn.{map-range_with_len_more}
use Rattle.pm_model.specs.declared.action.Action.{Action}
use Rattle.pm_model.specs.Plans.{store, stores}
use Rattle.image_layout.proofs.Ranges.{range_more}
use Rattle.txn_object.specs.declared.entry.Entry.{Entry}
use Rattle.txn_object.specs.Entries.{entry_of}

abbrev pub set_words : List ℕ → List ℕ
set_words words = filter (λ word. not (eqb word 0)) words

-- the words in a row that aren't 0
abbrev pub set_in_row : List ℕ → ℕ → ℕ → List ℕ
set_in_row words at count = set_words (map (λ w. get_or words w 0) (range_with_len at count))

pub set-no : (word : ℕ) (rest : List ℕ) → word ≡ 0 → set_words (word ∷ rest) ≡ set_words rest
set-no word rest is = cond-false (not (eqb word 0)) (word ∷ set_words rest) (set_words rest) (ap not (eq-eqb word 0 is))

pub set-yes : (word : ℕ) (rest : List ℕ) → word ≢ 0 → set_words (word ∷ rest) ≡ word ∷ set_words rest
set-yes word rest isnt = cond-true (not (eqb word 0)) (word ∷ set_words rest) (set_words rest) (ap not (ne_eqb word 0 isnt))

-- a word of a row that is 0 ends it
pub row-stop : (words : List ℕ) (at count : ℕ) → ((nth : ℕ) → nth + 1 < count → get_or words (at + nth) 0 ≡ 0 → get_or words (at + (nth + 1)) 0 ≡ 0) → (0 < count → get_or words at 0 ≡ 0) → set_in_row words at count ≡ []
row-stop words at zero packed is = refl
row-stop words at (suc count) packed is =
    let start : at + 0 ≡ at = omega arith in
    set-no (get_or words at 0) (map (λ w. get_or words w 0) (range_with_len (at + 1) count)) (is (omega arith))
    ∙ row-stop words (at + 1) count
    (λ nth lt none. let here : at + 1 + nth ≡ at + (nth + 1) = omega arith in let next : at + 1 + (nth + 1) ≡ at + (nth + 1 + 1) = omega arith in
    ap (λ (w : ℕ). get_or words w 0) next ∙ packed (nth + 1) (omega (arith, lt)) (ap (λ (w : ℕ). get_or words w 0) (sym here) ∙ none))
    (λ some. packed 0 (omega (arith, some)) (ap (λ (w : ℕ). get_or words w 0) start ∙ is (omega arith)))

-- one entry more is read
pub row-more : (words : List ℕ) (first nth count word : ℕ) (before after all : List Entry) (entry : Entry)
    → nth < count → word ≡ get_or words (first + nth) 0 → word ≢ 0 → entry ≡ entry_of word → after ≡ before ++ entry ∷ []
    → before ++ map entry_of (set_in_row words (first + nth) (count - nth)) ≡ all → after ++ map entry_of (set_in_row words (first + (nth + 1)) (count - (nth + 1))) ≡ all
row-more words first nth count word before after all entry lt load set spelt pushed is =
    let next : first + nth + 1 ≡ first + (nth + 1) = omega arith in
    let more : count - nth ≡ suc (count - (nth + 1)) = omega (arith, lt) in
    let rest = map entry_of (set_in_row words (first + (nth + 1)) (count - (nth + 1))) in
    let here : map entry_of (set_in_row words (first + nth) (count - nth)) ≡ entry ∷ rest =
    ap (λ (n : ℕ). map entry_of (set_in_row words (first + nth) n)) more
    ∙ ap (λ (l : List ℕ). map entry_of l) (set-yes (get_or words (first + nth) 0) (map (λ w. get_or words w 0) (range_with_len (first + nth + 1) (count - (nth + 1)))) (λ e. set (load ∙ e)))
    ∙ ap (λ (w : ℕ). entry_of w ∷ map entry_of (set_in_row words (first + nth + 1) (count - (nth + 1)))) (sym load)
    ∙ ap (λ (e : Entry). e ∷ map entry_of (set_in_row words (first + nth + 1) (count - (nth + 1)))) (sym spelt)
    ∙ ap (λ (at : ℕ). entry ∷ map entry_of (set_in_row words at (count - (nth + 1)))) next in
    ap (λ (l : List Entry). l ++ rest) pushed ∙ append_assoc before (entry ∷ []) rest ∙ ap (λ (l : List Entry). before ++ l) (sym here) ∙ is

-- none is left
pub row-end : (words : List ℕ) (first nth count : ℕ) (list all : List Entry) → set_in_row words (first + nth) (count - nth) ≡ [] → list ++ map entry_of (set_in_row words (first + nth) (count - nth)) ≡ all → list ≡ all
row-end words first nth count list all none is = sym (append-nil list) ∙ ap (λ (l : List ℕ). list ++ map entry_of l) (sym none) ∙ is

-- ── how many are 0 ──

pub count_by-append : (p : ℕ → Bool) (xs ys : List ℕ) → count_by p (xs ++ ys) ≡ count_by p xs + count_by p ys
count_by-append p xs ys = sum_by-append (λ x. cond (p x) 1 0) xs ys

-- how many of the words in a row are 0
abbrev pub zeros_in_row : List ℕ → ℕ → ℕ → ℕ
zeros_in_row words at count = count_by (λ w. eqb (get_or words w 0) 0) (range_with_len at count)

free-next : (words : List ℕ) (first nth : ℕ) → zeros_in_row words first (nth + 1) ≡ zeros_in_row words first nth + cond (eqb (get_or words (first + nth) 0) 0) 1 0
free-next words first nth =
    let one : count_by (λ w. eqb (get_or words w 0) 0) ((first + nth) ∷ []) ≡ cond (eqb (get_or words (first + nth) 0) 0) 1 0 = omega arith in
    ap (λ (l : List ℕ). count_by (λ w. eqb (get_or words w 0) 0) l) (range_more first nth)
    ∙ count_by-append (λ w. eqb (get_or words w 0) 0) (range_with_len first nth) ((first + nth) ∷ [])
    ∙ ap (λ (n : ℕ). zeros_in_row words first nth + n) one

pub free-yes : (words : List ℕ) (first nth word : ℕ) → word ≡ get_or words (first + nth) 0 → word ≡ 0 → zeros_in_row words first (nth + 1) ≡ zeros_in_row words first nth + 1
free-yes words first nth word load is =
    let one = cond-true {A = ℕ} (eqb (get_or words (first + nth) 0) 0) 1 0 (eq-eqb (get_or words (first + nth) 0) 0 (sym load ∙ is)) in
    free-next words first nth ∙ ap (λ (n : ℕ). zeros_in_row words first nth + n) one

pub free-no : (words : List ℕ) (first nth word : ℕ) → word ≡ get_or words (first + nth) 0 → word ≢ 0 → zeros_in_row words first (nth + 1) ≡ zeros_in_row words first nth
free-no words first nth word load isnt =
    let none = cond-false {A = ℕ} (eqb (get_or words (first + nth) 0) 0) 1 0 (ne_eqb (get_or words (first + nth) 0) 0 (λ e. isnt (load ∙ e))) in
    let same : zeros_in_row words first nth + 0 ≡ zeros_in_row words first nth = omega arith in
    free-next words first nth ∙ ap (λ (n : ℕ). zeros_in_row words first nth + n) none ∙ same

-- ── what is stored ──

pub stores-more : (first nth : ℕ) → stores 0 (range_with_len first (nth + 1)) ≡ stores 0 (range_with_len first nth) ++ store (first + nth) 0 ∷ []
stores-more first nth = map-range_with_len_more (λ place. store place 0) first nth (first + nth) refl

pub stored-more : (old before left : List Action) (first nth : ℕ) → left ≡ before ++ store (first + nth) 0 ∷ [] → before ≡ old ++ stores 0 (range_with_len first nth) → left ≡ old ++ stores 0 (range_with_len first (nth + 1))
stored-more old before left first nth pushed is =
    pushed ∙ ap (λ (l : List Action). l ++ store (first + nth) 0 ∷ []) is ∙ append_assoc old (stores 0 (range_with_len first nth)) (store (first + nth) 0 ∷ [])
    ∙ ap (λ (l : List Action). old ++ l) (sym (stores-more first nth))
