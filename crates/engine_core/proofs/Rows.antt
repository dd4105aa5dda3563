-- The rows of the table that pass a test, and what commits create and end.
use Rattle.std.proofs.Common.{◌≡◌, ⊎_elim, ℕ, zero, suc, ◌+◌, ◌-◌, ◌<◌, ◌≤◌, ◌∙◌, Bool, true, false, cond, ◌&&◌, ◌||◌, eqb, List, [], ◌∷◌, ◌++◌, length, map, filter, get_or, None, Some, refl, ap, sym, append-nil, append_assoc, arith}
use Rattle.std.specs.List.{range_with_len, find, flat_map, list_any}
use Rattle.std.proofs.lemmas.Bool.{cases_eq, eq-eqb, ne_eqb, eqb-true, and_left}
use Rattle.std.proofs.lemmas.List.FromFn.{map-range_with_len_more, length-map-range_with_len}
use Rattle.std.proofs.lemmas.List.Elements.{filter-append}
use Rattle.mv_model.specs.State.{CreatedRow, RowKey}
use Rattle.mv_model.specs.View.{is_key_of, created_rows, ended_rows}
use Rattle.mv_model.specs.declared.value.Value.TheVariants.{Int}
use Rattle.std.proofs.lemmas.Bool.Decides.{nat_tests}
use Rattle.std.proofs.lemmas.Map.Views.{any-filter_same}
use Rattle.std.proofs.lemmas.List.{map-append}
use Rattle.std.proofs.lemmas.List.Folds.{list_any-append}
use Rattle.image_layout.proofs.Ranges.{range_append, map_same}
use Rattle.engine_core.specs.Stage.{born_at, ended_at, value_at}
use Rattle.engine_core.specs.LogicalState.{commit_of, commits_in, created_row, key_of, integer_of, rows_where, within}

-- ── ranges ──

-- the rows that pass, and what is made of them, are the same
picked-same : {X : Type 0} (f g : ℕ → X) (p q : ℕ → Bool) (first n : ℕ) → ((k : ℕ) → first ≤ k → k < first + n → p k ≡ q k)
    → ((k : ℕ) → first ≤ k → k < first + n → q k ≡ true → f k ≡ g k) → map f (filter p (range_with_len first n)) ≡ map g (filter q (range_with_len first n))
picked-same f g p q first zero tests values = refl
picked-same {X} f g p q first (suc n) tests values =
    let rest = picked-same f g p q (first + 1) n (λ k le lt. tests k (omega arith) (omega arith)) (λ k le lt. values k (omega arith) (omega arith)) in
    ap (λ (b : Bool). map f (cond b (first ∷ filter p (range_with_len (first + 1) n)) (filter p (range_with_len (first + 1) n)))) (tests first (omega arith) (omega arith))
    ∙ go (q first) (values first (omega arith) (omega arith)) rest
  where
    go : (b : Bool) → (b ≡ true → f first ≡ g first) → map f (filter p (range_with_len (first + 1) n)) ≡ map g (filter q (range_with_len (first + 1) n))
        → map f (cond b (first ∷ filter p (range_with_len (first + 1) n)) (filter p (range_with_len (first + 1) n))) ≡ map g (cond b (first ∷ filter q (range_with_len (first + 1) n)) (filter q (range_with_len (first + 1) n)))
    go true same rest = ap (λ (x : X). x ∷ map f (filter p (range_with_len (first + 1) n))) (same refl) ∙ ap (λ (xs : List X). g first ∷ xs) rest
    go false same rest = rest

filter-none : (p : ℕ → Bool) (first n : ℕ) → ((k : ℕ) → first ≤ k → k < first + n → p k ≡ false) → filter p (range_with_len first n) ≡ []
filter-none p first zero none = refl
filter-none p first (suc n) none =
    let miss = none first (omega arith) (omega arith) in
    rw miss (filter-none p (first + 1) n (λ k le lt. none k (omega arith) (omega arith)))

filter-each : (p : ℕ → Bool) (first n : ℕ) → ((k : ℕ) → first ≤ k → k < first + n → p k ≡ true) → filter p (range_with_len first n) ≡ range_with_len first n
filter-each p first zero each = refl
filter-each p first (suc n) each =
    let hit = each first (omega arith) (omega arith) in
    rw hit (ap (λ (xs : List ℕ). first ∷ xs) (filter-each p (first + 1) n (λ k le lt. each k (omega arith) (omega arith))))

filter-interval : (p : ℕ → Bool) (below first count above : ℕ) → ((k : ℕ) → k < first → p k ≡ false) → ((k : ℕ) → first ≤ k → k < first + count → p k ≡ true)
    → ((k : ℕ) → first + count ≤ k → k < first + count + above → p k ≡ false) → filter p (range_with_len 0 (first + (count + above))) ≡ range_with_len first count
filter-interval p below first count above low within high =
    ap (filter p) (range_append 0 first (count + above))
    ∙ filter-append p (range_with_len 0 first) (range_with_len (0 + first) (count + above))
    ∙ ap (λ (xs : List ℕ). xs ++ filter p (range_with_len (0 + first) (count + above))) (filter-none p 0 first (λ k le lt. low k (omega arith)))
    ∙ ap (λ (k : ℕ). filter p (range_with_len k (count + above))) zero_first
    ∙ ap (filter p) (range_append first count above)
    ∙ filter-append p (range_with_len first count) (range_with_len (first + count) above)
    ∙ ap (λ (xs : List ℕ). xs ++ filter p (range_with_len (first + count) above)) (filter-each p first count within)
    ∙ ap (λ (xs : List ℕ). range_with_len first count ++ xs) (filter-none p (first + count) above high)
    ∙ append-nil (range_with_len first count)
  where
    zero_first : 0 + first ≡ first
    zero_first = omega arith

-- ── the rows of the table ──

pub rows_where-same : {X : Type 0} (f g : ℕ → X) (p q : ℕ → Bool) → ((k : ℕ) → k < 4096 → p k ≡ q k) → ((k : ℕ) → k < 4096 → q k ≡ true → f k ≡ g k)
    → map f (rows_where p) ≡ map g (rows_where q)
unfolding rows_where
rows_where-same f g p q tests values = picked-same f g p q 0 4096 (λ k le lt. tests k (omega arith)) (λ k le lt. values k (omega arith))

pub rows_where-none : (p : ℕ → Bool) → ((k : ℕ) → k < 4096 → p k ≡ false) → rows_where p ≡ []
unfolding rows_where
rows_where-none p none = filter-none p 0 4096 (λ k le lt. none k (omega arith))

pub rows_where-interval : (p : ℕ → Bool) (first count : ℕ) → first + count ≤ 4096 → ((k : ℕ) → k < first → p k ≡ false) → ((k : ℕ) → first ≤ k → k < first + count → p k ≡ true)
    → ((k : ℕ) → first + count ≤ k → k < 4096 → p k ≡ false) → rows_where p ≡ range_with_len first count
unfolding rows_where
rows_where-interval p first count room low within high =
    let size : 4096 ≡ first + (count + (4096 - (first + count))) = omega arith in
    ap (λ (n : ℕ). filter p (range_with_len 0 n)) size
    ∙ filter-interval p 0 first count (4096 - (first + count)) low within (λ k le lt. high k le (omega arith))

-- ── one row among them ──

-- the number is among these
abbrev has : List ℕ → ℕ → Bool
has numbers x = list_any (λ k. eqb k x) numbers

-- it is the first one, or among those behind it
within-step : (first n x : ℕ) → (eqb first x || within (first + 1) n x) ≡ within first (suc n) x
within-step first n x = grind (arith, nat_tests)

within-none : (first x : ℕ) → within first 0 x ≡ false
within-none first x = grind (arith, nat_tests)

has-append : (xs ys : List ℕ) (x : ℕ) → has (xs ++ ys) x ≡ (has xs x || has ys x)
has-append xs ys x = list_any-append (λ k. eqb k x) xs ys

has-range : (first n x : ℕ) → has (range_with_len first n) x ≡ within first n x
has-range first zero x = sym (within-none first x)
has-range first (suc n) x = ap (λ (b : Bool). eqb first x || b) (has-range (first + 1) n x) ∙ within-step first n x

has-rows_where : (p : ℕ → Bool) (row : ℕ) → has (rows_where p) row ≡ (p row && within 0 4096 row)
unfolding rows_where
has-rows_where p row =
    any-filter_same (λ k. eqb k row) p (p row) (λ k same. ap p (eqb-true k row same)) (range_with_len 0 4096)
    ∙ ap (λ (b : Bool). p row && b) (has-range 0 4096 row)

joined : (a b c : Bool) → ((a && c) || (b && c)) ≡ ((a || b) && c)
joined true b true = refl
joined true true false = refl
joined true false false = refl
joined false b c = refl

-- the rows whose stamp is one of these numbers
abbrev stamped : (ℕ → ℕ) → ℕ → ℕ → List ℕ
stamped stamp first n = flat_map (λ number. rows_where (λ row. eqb (stamp row) number)) (range_with_len first n)

has-stamped : (stamp : ℕ → ℕ) (row first n : ℕ) → has (stamped stamp first n) row ≡ (within first n (stamp row) && within 0 4096 row)
has-stamped stamp row first zero = sym (and_left (within first 0 (stamp row)) (within 0 4096 row) (within-none first (stamp row)))
has-stamped stamp row first (suc n) =
    has-append (rows_where (λ k. eqb (stamp k) first)) (stamped stamp (first + 1) n) row
    ∙ ap (λ (b : Bool). b || has (stamped stamp (first + 1) n) row) (has-rows_where (λ k. eqb (stamp k) first) row)
    ∙ ap (λ (b : Bool). (eqb (stamp row) first && within 0 4096 row) || b) (has-stamped stamp row (first + 1) n)
    ∙ joined (eqb (stamp row) first) (within (first + 1) n (stamp row)) (within 0 4096 row)
    ∙ ap (λ (b : Bool). b && within 0 4096 row) (ap (λ (b : Bool). b || within (first + 1) n (stamp row)) (turned (stamp row) first) ∙ within-step first n (stamp row))
  where
    turned : (x y : ℕ) → eqb x y ≡ eqb y x
    turned x y = grind (arith, nat_tests)

-- the row is found where its number is
find-rows : (words numbers : List ℕ) (row : ℕ) → find (λ created. is_key_of 0 row created.key) (map (created_row words) numbers) ≡ cond (has numbers row) (Some (created_row words row)) None
find-rows words [] row = refl
find-rows words (number ∷ numbers) row = ⊎_elim
    (λ (same : number ≡ row). let hit = eq-eqb number row same in rw hit (ap (λ (k : ℕ). Some (created_row words k)) same))
    (λ apart. let miss = ne_eqb number row apart in rw miss (find-rows words numbers row))
    (cases_eq number row)

any-keys : (numbers : List ℕ) (row : ℕ) → list_any (is_key_of 0 row) (map key_of numbers) ≡ has numbers row
any-keys [] row = refl
any-keys (number ∷ numbers) row = ap (λ (b : Bool). eqb number row || b) (any-keys numbers row)

created-numbers : (words own : List ℕ) (gone : List RowKey) (first n : ℕ)
    → created_rows (map (commit_of words) (range_with_len first n) ++ record { created = map (created_row words) own; ended = gone } ∷ [])
    ≡ map (created_row words) (stamped (λ row. get_or words (born_at row) 0) first n ++ own)
created-numbers words own gone first zero = append-nil (map (created_row words) own)
created-numbers words own gone first (suc n) =
    let here = rows_where (λ row. eqb (get_or words (born_at row) 0) first) in
    let rest = stamped (λ row. get_or words (born_at row) 0) (first + 1) n in
    ap (λ (xs : List CreatedRow). map (created_row words) here ++ xs) (created-numbers words own gone (first + 1) n)
    ∙ sym (map-append (created_row words) here (rest ++ own))
    ∙ ap (map (created_row words)) (sym (append_assoc here rest own))

ended-numbers : (words own : List ℕ) (made : List CreatedRow) (first n : ℕ)
    → ended_rows (map (commit_of words) (range_with_len first n) ++ record { created = made; ended = map key_of own } ∷ [])
    ≡ map key_of (stamped (λ row. get_or words (ended_at row) 0) first n ++ own)
ended-numbers words own made first zero = append-nil (map key_of own)
ended-numbers words own made first (suc n) =
    let here = rows_where (λ row. eqb (get_or words (ended_at row) 0) first) in
    let rest = stamped (λ row. get_or words (ended_at row) 0) (first + 1) n in
    ap (λ (xs : List RowKey). map key_of here ++ xs) (ended-numbers words own made (first + 1) n)
    ∙ sym (map-append key_of here (rest ++ own))
    ∙ ap (map key_of) (sym (append_assoc here rest own))

-- a row is among those with these stamps, or among those that pass
has-either : (stamp : ℕ → ℕ) (own : ℕ → Bool) (row count : ℕ)
    → has (stamped stamp 1 count ++ rows_where own) row ≡ ((within 1 count (stamp row) || own row) && within 0 4096 row)
has-either stamp own row count =
    has-append (stamped stamp 1 count) (rows_where own) row
    ∙ ap (λ (b : Bool). b || has (rows_where own) row) (has-stamped stamp row 1 count)
    ∙ ap (λ (b : Bool). (within 1 count (stamp row) && within 0 4096 row) || b) (has-rows_where own row)
    ∙ joined (within 1 count (stamp row)) (own row) (within 0 4096 row)

-- the row is ended by one of the commits, or it is one of these
pub ended-found : (words : List ℕ) (made : List CreatedRow) (own : ℕ → Bool) (row count : ℕ)
    → list_any (is_key_of 0 row) (ended_rows (commits_in words count ++ record { created = made; ended = map key_of (rows_where own) } ∷ []))
    ≡ ((within 1 count (get_or words (ended_at row) 0) || own row) && within 0 4096 row)
ended-found words made own row count =
    ap (list_any (is_key_of 0 row)) (ended-numbers words (rows_where own) made 1 count)
    ∙ any-keys (stamped (λ k. get_or words (ended_at k) 0) 1 count ++ rows_where own) row
    ∙ has-either (λ k. get_or words (ended_at k) 0) own row count

-- the row is created by one of the commits, or it is one of these
pub created-found : (words : List ℕ) (gone : List RowKey) (own : ℕ → Bool) (row count : ℕ)
    → find (λ created. is_key_of 0 row created.key) (created_rows (commits_in words count ++ record { created = map (created_row words) (rows_where own); ended = gone } ∷ []))
    ≡ cond ((within 1 count (get_or words (born_at row) 0) || own row) && within 0 4096 row) (Some (created_row words row)) None
created-found words gone own row count =
    ap (find (λ created. is_key_of 0 row created.key)) (created-numbers words (rows_where own) gone 1 count)
    ∙ find-rows words (stamped (λ k. get_or words (born_at k) 0) 1 count ++ rows_where own) row
    ∙ ap (λ (b : Bool). cond b (Some (created_row words row)) None) (has-either (λ k. get_or words (born_at k) 0) own row count)

-- ── commits ──

pub length-commits_in : (words : List ℕ) (count : ℕ) → length (commits_in words count) ≡ count
length-commits_in words count = length-map-range_with_len (commit_of words) 1 count

-- The commits are the same where the same stamps have their numbers, and the values of the rows that they created stay.
pub record IsSameUpTo (count : ℕ) (words new : List ℕ) : Type 0 where
  pub born : (row number : ℕ) → row < 4096 → 1 ≤ number → number ≤ count → eqb (get_or new (born_at row) 0) number ≡ eqb (get_or words (born_at row) 0) number
  pub ended : (row number : ℕ) → row < 4096 → 1 ≤ number → number ≤ count → eqb (get_or new (ended_at row) 0) number ≡ eqb (get_or words (ended_at row) 0) number
  pub value : (row : ℕ) → row < 4096 → 1 ≤ get_or words (born_at row) 0 → get_or words (born_at row) 0 ≤ count → get_or new (value_at row) 0 ≡ get_or words (value_at row) 0

created_row-same : (words new : List ℕ) (row : ℕ) → get_or new (value_at row) 0 ≡ get_or words (value_at row) 0 → created_row new row ≡ created_row words row
created_row-same words new row same = ap (λ (word : ℕ). record { key = key_of row; values = Int (integer_of word) ∷ [] }) same

pub commits_in-same : (count : ℕ) (words new : List ℕ) → IsSameUpTo count words new → commits_in new count ≡ commits_in words count
commits_in-same count words new same = map_same (commit_of new) (commit_of words) 1 count each
  where
    each : (number : ℕ) → 1 ≤ number → number < 1 + count → commit_of new number ≡ commit_of words number
    each number first last =
        ap (λ (rows : List CreatedRow). record { created = rows; ended = map key_of (rows_where (λ row. eqb (get_or new (ended_at row) 0) number)) })
        (rows_where-same (created_row new) (created_row words) (λ row. eqb (get_or new (born_at row) 0) number) (λ row. eqb (get_or words (born_at row) 0) number)
        (λ row lt. same.born row number lt first (omega (arith, last)))
        (λ row lt hit. created_row-same words new row (let is = eqb-true (get_or words (born_at row) 0) number hit in same.value row lt (omega (arith, is, first)) (omega (arith, is, last)))))
        ∙ ap (λ (keys : List RowKey). record { created = map (created_row words) (rows_where (λ row. eqb (get_or words (born_at row) 0) number)); ended = keys })
        (rows_where-same key_of key_of (λ row. eqb (get_or new (ended_at row) 0) number) (λ row. eqb (get_or words (ended_at row) 0) number)
        (λ row lt. same.ended row number lt first (omega (arith, last))) (λ row lt hit. refl))

-- one more commit
pub commits_in-more : (words : List ℕ) (count : ℕ) → commits_in words (count + 1) ≡ commits_in words count ++ commit_of words (count + 1) ∷ []
commits_in-more words count = map-range_with_len_more (commit_of words) 1 count (count + 1) (omega arith)

-- ── the rows of the open transaction ──

-- so many rows from this one on
abbrev pub rows_from : List ℕ → ℕ → ℕ → List CreatedRow
rows_from words first count = map (created_row words) (range_with_len first count)

pub rows_from-same : (words new : List ℕ) (first n : ℕ) → ((row : ℕ) → first ≤ row → row < first + n → get_or new (value_at row) 0 ≡ get_or words (value_at row) 0) → rows_from new first n ≡ rows_from words first n
rows_from-same words new first n same = map_same (created_row new) (created_row words) first n (λ row le lt. created_row-same words new row (same row le lt))

pub rows_from-more : (words : List ℕ) (first n : ℕ) → rows_from words first (n + 1) ≡ rows_from words first n ++ created_row words (first + n) ∷ []
rows_from-more words first n = map-range_with_len_more (created_row words) first n (first + n) refl

pub length-rows_from : (words : List ℕ) (first n : ℕ) → length (rows_from words first n) ≡ n
length-rows_from words first n = length-map-range_with_len (created_row words) first n
