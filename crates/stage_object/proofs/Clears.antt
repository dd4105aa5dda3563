-- The part that clears an object: how many stores it has, and how many lines they touch.
use Rattle.std.proofs.Common.{◌≡◌, ◌⊎◌, inl, inr, ⊎_elim, ℕ, zero, suc, ◌+◌, ◌-◌, ◌/◌, ◌<◌, ◌≤◌, max, Bool, true, false, not, ◌||◌, IsTrue, cond, eqb, ltb, List, [], ◌∷◌, ◌++◌, length, map, drop, refl, sym, ◌∙◌, ap, append_assoc, append-nil, arith}
use Rattle.std.specs.List.{range_with_len}
use Rattle.std.proofs.lemmas.Bool.{cond-true, cond-false, eq-eqb, ne_eqb, cases_eq, le-ltb, both_ways}
use Rattle.std.proofs.lemmas.List.{length-append}
use Rattle.std.proofs.lemmas.List.FromFn.{map-range_with_len_more, length-range_with_len, length-map-range_with_len}
use mir.Val.{bool_byte}
use Rattle.pm_model.specs.declared.action.Action.{Action}
use Rattle.pm_model.specs.declared.action.Action.TheVariants.{Store}
use Rattle.image_layout.specs.declared.place.Place.{Place}
use Rattle.image_layout.specs.Fixed.{state_at, commit_word_at, entry_at}
use Rattle.pm_model.specs.Plans.{store, one_store, unless_empty, add_line, lines_of, part_end, part_actions, plan_of}
use Rattle.pm_model.proofs.Lines.{add_line-run, last_part, length-part_end, length-part_actions}
use Rattle.txn_object.proofs.Clears.{bit_is}
use Rattle.stage_object.specs.Object.{entry_clears, clear_part, retire_parts, clear_length, retire_length}

-- one more entry
pub entry_clears-more : (object nth : ℕ) → entry_clears object (nth + 1) ≡ entry_clears object nth ++ store (entry_at object nth) 0 ∷ []
entry_clears-more object nth = map-range_with_len_more (λ k. store (entry_at object k) 0) 0 nth nth (omega arith)

pub length-clear_part : (object entries : ℕ) (word : Bool) → length (clear_part object entries word) ≡ entries + cond word 1 0
unfolding clear_part
length-clear_part object entries true = length-append (entry_clears object entries) (one_store (commit_word_at object) 0) ∙ ap (λ (n : ℕ). n + 1) (length-map-range_with_len (λ k. store (entry_at object k) 0) 0 entries)
length-clear_part object entries false = length-append (entry_clears object entries) [] ∙ ap (λ (n : ℕ). n + 0) (length-map-range_with_len (λ k. store (entry_at object k) 0) 0 entries)

-- ── lines ──

-- the line of an entry, and that of the commit word
abbrev line_of : ℕ → ℕ → ℕ
line_of object nth = entry_at object nth / 8

abbrev first_line : ℕ → ℕ
first_line object = commit_word_at object / 8

next_line : (object nth : ℕ) → (line_of object nth ≡ line_of object (nth + 1)) ⊎ (line_of object nth + 1 ≡ line_of object (nth + 1))
next_line object nth = ⊎_elim (λ e. inl e) (λ apart. inr (omega (arith, apart))) (cases_eq (line_of object nth) (line_of object (nth + 1)))

-- the lines of some entries in a row
lines_of-entries : (object nth more : ℕ)
    → lines_of (map (λ k. store (entry_at object k) 0) (range_with_len nth (suc more))) ≡ range_with_len (line_of object nth) (line_of object (nth + more) + 1 - line_of object nth)
lines_of-entries object nth zero = let one : 1 ≡ line_of object (nth + 0) + 1 - line_of object nth = omega arith in ap (λ (n : ℕ). range_with_len (line_of object nth) n) one
lines_of-entries object nth (suc more) =
    let end : line_of object (nth + 1 + more) ≡ line_of object (nth + suc more) = omega arith in
    ap (λ (l : List ℕ). add_line (line_of object nth) l) (lines_of-entries object (nth + 1) more)
    ∙ add_line-run (line_of object nth) (line_of object (nth + 1)) (line_of object (nth + 1 + more)) (next_line object nth) (omega arith)
    ∙ ap (λ (n : ℕ). range_with_len (line_of object nth) (n + 1 - line_of object nth)) end

-- a line behind others is added behind them, and one that is there stays once
add_line-same : (line base : ℕ) (rest : List ℕ) → line ≡ base → add_line line (base ∷ rest) ≡ base ∷ rest
add_line-same line base rest is =
    cond-false (ltb line base) (line ∷ base ∷ rest) (cond (eqb line base) (base ∷ rest) (base ∷ add_line line rest)) (le-ltb line base (omega (arith, is)))
    ∙ cond-true (eqb line base) (base ∷ rest) (base ∷ add_line line rest) (eq-eqb line base is)

add_line-behind : (line base : ℕ) (rest : List ℕ) → base < line → add_line line (base ∷ rest) ≡ base ∷ add_line line rest
add_line-behind line base rest lt =
    cond-false (ltb line base) (line ∷ base ∷ rest) (cond (eqb line base) (base ∷ rest) (base ∷ add_line line rest)) (le-ltb line base (omega (arith, lt)))
    ∙ cond-false (eqb line base) (base ∷ rest) (base ∷ add_line line rest) (ne_eqb line base (λ e. omega (arith, lt, e)))

-- a run behind a line that may be its first
abbrev behind : ℕ → ℕ → ℕ → List ℕ
behind base line end = base ∷ range_with_len (max line (base + 1)) (end + 1 - max line (base + 1))

add_line-first : (line base : ℕ) → base ≤ line → add_line line (base ∷ []) ≡ behind base line line
add_line-first line base le = ⊎_elim
    (λ (is : line ≡ base). let none : 0 ≡ line + 1 - max line (base + 1) = omega (arith, is) in
    add_line-same line base [] is ∙ ap (λ (n : ℕ). base ∷ range_with_len (max line (base + 1)) n) none)
    (λ apart. let start : line ≡ max line (base + 1) = omega (arith, le, apart) in let one : 1 ≡ line + 1 - max line (base + 1) = omega (arith, le, apart) in
    add_line-behind line base [] (omega (arith, le, apart)) ∙ ap (λ (n : ℕ). base ∷ n ∷ []) start ∙ ap (λ (n : ℕ). base ∷ range_with_len (max line (base + 1)) n) one)
    (cases_eq line base)

add_line-next : (line next base end : ℕ) → base ≤ line → (line ≡ next) ⊎ (line + 1 ≡ next) → next ≤ end → add_line line (behind base next end) ≡ behind base line end
add_line-next line next base end le near within = ⊎_elim
    (λ (is : line ≡ base). let start : max next (base + 1) ≡ max line (base + 1) = ⊎_elim (λ e. omega (arith, is, e)) (λ e. omega (arith, is, e)) near in
    add_line-same line base (range_with_len (max next (base + 1)) (end + 1 - max next (base + 1))) is ∙ ap (λ (n : ℕ). base ∷ range_with_len n (end + 1 - n)) start)
    (λ apart.
    let old : max next (base + 1) ≡ next = ⊎_elim (λ e. omega (arith, le, apart, e)) (λ e. omega (arith, le, apart, e)) near in
    let new : line ≡ max line (base + 1) = omega (arith, le, apart) in
    ap (λ (n : ℕ). add_line line (base ∷ range_with_len n (end + 1 - n))) old
    ∙ add_line-behind line base (range_with_len next (end + 1 - next)) (omega (arith, le, apart))
    ∙ ap (λ (l : List ℕ). base ∷ l) (add_line-run line next end near within)
    ∙ ap (λ (n : ℕ). base ∷ range_with_len n (end + 1 - n)) new)
    (cases_eq line base)

-- the same and the line of the commit word, which is the first of the object
lines_of-all : (object nth more : ℕ)
    → lines_of (map (λ k. store (entry_at object k) 0) (range_with_len nth (suc more)) ++ one_store (commit_word_at object) 0) ≡ behind (first_line object) (line_of object nth) (line_of object (nth + more))
lines_of-all object nth zero =
    let end : line_of object nth ≡ line_of object (nth + 0) = omega arith in
    add_line-first (line_of object nth) (first_line object) (omega arith) ∙ ap (λ (n : ℕ). behind (first_line object) (line_of object nth) n) end
lines_of-all object nth (suc more) =
    let end : line_of object (nth + 1 + more) ≡ line_of object (nth + suc more) = omega arith in
    ap (λ (l : List ℕ). add_line (line_of object nth) l) (lines_of-all object (nth + 1) more)
    ∙ add_line-next (line_of object nth) (line_of object (nth + 1)) (first_line object) (line_of object (nth + 1 + more)) (omega arith) (next_line object nth) (omega arith)
    ∙ ap (λ (n : ℕ). behind (first_line object) (line_of object nth) n) end

pub length-lines_of-clear_part : (object entries : ℕ) (word : Bool) → 0 < entries + cond word 1 0 → length (lines_of (clear_part object entries word)) ≡ (entries + 3) / 8 + 1
unfolding clear_part
length-lines_of-clear_part object zero true some = refl
length-lines_of-clear_part object zero false some = absurd (omega (arith, some))
length-lines_of-clear_part object (suc more) true some =
    let start = max (line_of object 0) (first_line object + 1) in
    ap (λ (l : List ℕ). length l) (lines_of-all object 0 more) ∙ ap (λ (n : ℕ). suc n) (length-range_with_len start (line_of object (0 + more) + 1 - start)) ∙ omega arith
length-lines_of-clear_part object (suc more) false some =
    ap (λ (l : List Action). length (lines_of l)) (append-nil (map (λ k. store (entry_at object k) 0) (range_with_len 0 (suc more))))
    ∙ ap (λ (l : List ℕ). length l) (lines_of-entries object 0 more) ∙ length-range_with_len (line_of object 0) (line_of object (0 + more) + 1 - line_of object 0) ∙ omega arith

-- ── what is pushed ──

pub cleared-next : (old left before : List Action) (object nth : ℕ) (place : Place) → place.0 ≡ entry_at object nth → left ≡ before ++ Store place 0 ∷ [] → before ≡ old ++ entry_clears object nth → left ≡ old ++ entry_clears object (nth + 1)
cleared-next old left before object nth place at pushed is =
    pushed ∙ ap (λ (l : List Action). l ++ Store place 0 ∷ []) is ∙ append_assoc old (entry_clears object nth) (Store place 0 ∷ [])
    ∙ ap (λ (n : ℕ). old ++ (entry_clears object nth ++ store n 0 ∷ [])) at ∙ ap (λ (l : List Action). old ++ l) (sym (entry_clears-more object nth))

pub cleared-word : (old left before : List Action) (object entries : ℕ) (word : Bool) (place : Place) → word ≡ true → place.0 ≡ commit_word_at object → left ≡ before ++ Store place 0 ∷ [] → before ≡ old ++ entry_clears object entries → left ≡ old ++ clear_part object entries word
unfolding clear_part
cleared-word old left before object entries true place set at pushed is =
    pushed ∙ ap (λ (l : List Action). l ++ Store place 0 ∷ []) is ∙ append_assoc old (entry_clears object entries) (Store place 0 ∷ [])
    ∙ ap (λ (n : ℕ). old ++ (entry_clears object entries ++ store n 0 ∷ [])) at
cleared-word old left before object entries false place set at pushed is = absurd (both_ways false refl set)

pub cleared-entries : (old left : List Action) (object entries : ℕ) (word : Bool) → word ≡ false → left ≡ old ++ entry_clears object entries → left ≡ old ++ clear_part object entries word
unfolding clear_part
cleared-entries old left object entries true unset is = absurd (both_ways true unset refl)
cleared-entries old left object entries false unset is = is ∙ ap (λ (l : List Action). old ++ l) (sym (append-nil (entry_clears object entries)))

-- a retire is its first part, and the second where there is something to clear
pub plan_of-retire : (object entries : ℕ) (word : Bool) → 0 < entries + cond word 1 0
    → plan_of (retire_parts object entries word) ≡ part_actions (one_store (state_at object) 0) ++ part_actions (clear_part object entries word)
plan_of-retire object entries word some =
    ap (λ (l : List Action). part_actions (one_store (state_at object) 0) ++ l) (go (clear_part object entries word) (λ e. omega (arith, some, ap (λ (l : List Action). length l) e, length-clear_part object entries word)))
  where
    go : (part : List Action) → (part ≡ [] → ⊥) → plan_of (unless_empty part) ≡ part_actions part
    go [] isnt = absurd (isnt refl)
    go (action ∷ part) isnt = append-nil (part_actions (action ∷ part))

pub plan_of-retire_nothing : (object entries : ℕ) (word : Bool) → entries ≡ 0 → word ≡ false → plan_of (retire_parts object entries word) ≡ part_actions (one_store (state_at object) 0)
unfolding clear_part
plan_of-retire_nothing object entries true none unset = absurd (both_ways true unset refl)
plan_of-retire_nothing object zero false none unset = refl
plan_of-retire_nothing object (suc entries) false none unset = absurd (omega (arith, none))

pub length-plan_of-retire : (object entries : ℕ) (word : Bool) → length (plan_of (retire_parts object entries word)) ≡ retire_length entries word
length-plan_of-retire object entries word = go word refl
  where
    cleared : (w : Bool) → 0 < entries + cond w 1 0 → length (plan_of (retire_parts object entries w)) ≡ 3 + clear_length entries w
    cleared w some =
        let both = ap (λ (l : List Action). length l) (plan_of-retire object entries w some) in
        let first = length-append (part_actions (one_store (state_at object) 0)) (part_actions (clear_part object entries w)) in
        let second = length-part_actions (clear_part object entries w) in
        let size = length-clear_part object entries w in
        let lines = length-lines_of-clear_part object entries w some in
        omega (arith, both, first, second, size, lines)

    go : (w : Bool) → word ≡ w → length (plan_of (retire_parts object entries w)) ≡ retire_length entries w
    go true is = cleared true (omega arith)
    go false is = ⊎_elim
        (λ (none : entries ≡ 0). ap (λ (l : List Action). length l) (plan_of-retire_nothing object entries false none refl)
        ∙ ap (λ (n : ℕ). 3 + n) (sym (cond-true (eqb entries 0) 0 (clear_length entries false) (eq-eqb entries 0 none))))
        (λ some. cleared false (omega (arith, some)) ∙ ap (λ (n : ℕ). 3 + n) (sym (cond-false (eqb entries 0) 0 (clear_length entries false) (ne_eqb entries 0 some))))
        (cases_eq entries 0)

-- a part that has something to clear
pub some_to_clear : (entries : ℕ) (word : Bool) → IsTrue (not (eqb entries 0) || word) → 0 < entries + cond word 1 0
some_to_clear zero true some = omega arith
some_to_clear zero false some = absurd (both_ways false refl some)
some_to_clear (suc entries) word some = omega arith

-- what `push_clear` has to show of the stores that it ends
pub record Ends (old left : List Action) (spare object entries : ℕ) (word : Bool) (count : ℕ) : Type 0 where
  pub within : count ≤ length left
  pub room : length (lines_of (drop (length left - count) left)) < spare
  pub part : left ++ part_end (drop (length left - count) left) ≡ old ++ part_actions (clear_part object entries word)
  pub size : length (part_end (drop (length left - count) left)) ≡ (entries + 3) / 8 + 2

pub ends_part : (old left : List Action) (spare object entries : ℕ) (word : Bool) (count : ℕ) → 0 < entries + cond word 1 0 → left ≡ old ++ clear_part object entries word → count ≡ entries + cond word 1 0 → (entries + 3) / 8 + 2 ≤ spare
    → Ends old left spare object entries word count
ends_part old left spare object entries word count some is counted le =
    let part = clear_part object entries word in
    let size = length-clear_part object entries word in
    let all : length left ≡ length old + length part = ap (λ (l : List Action). length l) is ∙ length-append old part in
    let last : drop (length left - count) left ≡ part = last_part old part left count is (counted ∙ sym size) in
    let lines : length (lines_of (drop (length left - count) left)) ≡ (entries + 3) / 8 + 1 = ap (λ (l : List Action). length (lines_of l)) last ∙ length-lines_of-clear_part object entries word some in
    let end = length-part_end (drop (length left - count) left) in
    record {
      within = omega (arith, counted, all, size);
      room = omega (arith, lines, le);
      part = ap (λ (l : List Action). left ++ part_end l) last ∙ ap (λ (l : List Action). l ++ part_end part) is ∙ append_assoc old part (part_end part);
      size = omega (arith, end, lines);
    }

pub ends_clear : (old left : List Action) (spare all object entries : ℕ) (word : Bool) (bit : ℕ) → IsTrue (not (eqb entries 0) || word) → left ≡ old ++ clear_part object entries word → bit ≡ bool_byte word
    → spare + (entries + cond word 1 0) ≡ all → clear_length entries word ≤ all → Ends old left spare object entries word (entries + bit)
ends_clear old left spare all object entries word bit some is bit_of room le =
    ends_part old left spare object entries word (entries + bit) (some_to_clear entries word some) is (ap (λ (n : ℕ). entries + n) (bit_of ∙ bit_is word)) (omega (arith, room, le))

-- a retire with something to clear, and one without
pub retired : (old stored left : List Action) (object entries : ℕ) (word : Bool) (place : ℕ) → place ≡ state_at object → (0 < entries) ⊎ ((entries ≤ 0) × (word ≡ true))
    → stored ≡ old ++ part_actions (one_store place 0) → left ≡ stored ++ part_actions (clear_part object entries word) → left ≡ old ++ plan_of (retire_parts object entries word)
retired old stored left object entries word place at some first second =
    second ∙ ap (λ (l : List Action). l ++ part_actions (clear_part object entries word)) (first ∙ ap (λ (p : ℕ). old ++ part_actions (one_store p 0)) at)
    ∙ append_assoc old (part_actions (one_store (state_at object) 0)) (part_actions (clear_part object entries word))
    ∙ ap (λ (l : List Action). old ++ l) (sym (plan_of-retire object entries word (⊎_elim (λ lt. omega (arith, lt)) (λ set. when_set set.1) some)))
  where
    when_set : word ≡ true → 0 < entries + cond word 1 0
    when_set set = let one : ◌≡◌ {A = ℕ} (cond word 1 0) 1 = cond-true word 1 0 set in omega (arith, one)

pub retired_nothing : (old stored : List Action) (object entries : ℕ) (word : Bool) (place : ℕ) → place ≡ state_at object → entries ≤ 0 → word ≡ false
    → stored ≡ old ++ part_actions (one_store place 0) → stored ≡ old ++ plan_of (retire_parts object entries word)
retired_nothing old stored object entries word place at none unset first =
    first ∙ ap (λ (p : ℕ). old ++ part_actions (one_store p 0)) at ∙ ap (λ (l : List Action). old ++ l) (sym (plan_of-retire_nothing object entries word (omega (arith, none)) unset))
