-- Checks that are tried one after the other: the first that fails.
use Rattle.std.proofs.Common.{◌≡◌, ⊎_elim, ℕ, suc, ◌+◌, ◌-◌, ◌<◌, ◌≤◌, Bool, true, false, cond, eqb, leb, get_or, List, [], ◌∷◌, ◌++◌, map, refl, sym, ◌∙◌, ap, arith}
use Rattle.std.specs.Prelude.{Option, None, Some, filter}
use Rattle.std.specs.List.{flat_map, range_with_len}
use Rattle.std.proofs.lemmas.Bool.{cases_Bool, cond-true, cond-false, eq-eqb, ne_eqb, leb-true, le-leb, lt-leb}
use Rattle.std.proofs.lemmas.List.Concat.{flat_map_single}
use Rattle.mv_model.specs.declared.limits.TheConstants.{MAX_COMMITS}
use Rattle.image_layout.specs.Fixed.{last_at, state_at, entry_at, descriptor_at}
use Rattle.image_layout.specs.Places.{below, page_count}
use Rattle.engine_core.specs.Stage.{high_at}
use Rattle.engine_core.specs.ImageRules.{last_rule, object_rule, object_checks, entry_rule, entry_checks, is_entry_word, reserved_rule, is_reserved_page, stamp_rule, row_checks}
use Rattle.image_layout.specs.Checks.{Check, check, first_failing}
use Rattle.image_layout.proofs.Faults.{fails, passes, fail-first, pass-all}

-- ── checks of each number below one ──

-- the checks of the numbers from this one on
pub checks_left : (ℕ → List Check) → ℕ → ℕ → List Check
checks_left f i n = flat_map f (range_with_len i (n - i))

pub left-all : (f : ℕ → List Check) (n : ℕ) → flat_map f (range_with_len 0 n) ≡ checks_left f 0 n
unfolding checks_left
left-all f n = let e : n ≡ n - 0 = omega arith in ap (λ (k : ℕ). flat_map f (range_with_len 0 k)) e

left-next : (f : ℕ → List Check) (i n : ℕ) → i < n → checks_left f i n ≡ f i ++ checks_left f (i + 1) n
unfolding checks_left
left-next f i n lt = let e : n - i ≡ suc (n - (i + 1)) = omega (arith, lt) in ap (λ (k : ℕ). flat_map f (range_with_len i k)) e

left-end : (f : ℕ → List Check) (i n : ℕ) → n ≤ i → checks_left f i n ≡ []
unfolding checks_left
left-end f i n le = let e : n - i ≡ 0 = omega (arith, le) in ap (λ (k : ℕ). flat_map f (range_with_len i k)) e

module _ (f : ℕ → List Check) (i n : ℕ) (whole : Option ℕ) (left : whole ≡ first_failing (checks_left f i n)) where
  -- one of this number fails
  pub tried-some : (place : ℕ) → i < n → Some place ≡ first_failing (f i) → Some place ≡ whole
  tried-some place lt is = sym (left ∙ ap first_failing (left-next f i n lt) ∙ fail-first (f i) (checks_left f (i + 1) n) place (sym is))

  -- none does
  pub tried-none : i < n → None ≡ first_failing (f i) → whole ≡ first_failing (checks_left f (i + 1) n)
  tried-none lt is = left ∙ ap first_failing (left-next f i n lt) ∙ pass-all (f i) (checks_left f (i + 1) n) (sym is)

  -- all were tried
  pub tried-all : n ≤ i → None ≡ whole
  tried-all le = sym (left ∙ ap first_failing (left-end f i n le))

-- one check for each number that passes a test
pub filter-flat : (p : ℕ → Bool) (f : ℕ → Check) (xs : List ℕ) → map f (filter p xs) ≡ flat_map (λ x. cond (p x) (f x ∷ []) []) xs
filter-flat p f [] = refl
filter-flat p f (x ∷ xs) = go (p x) (filter-flat p f xs)
  where
    go : (b : Bool) → map f (filter p xs) ≡ flat_map (λ y. cond (p y) (f y ∷ []) []) xs
        → map f (cond b (x ∷ filter p xs) (filter p xs)) ≡ cond b (f x ∷ []) [] ++ flat_map (λ y. cond (p y) (f y ∷ []) []) xs
    go true rest = ap (λ (cs : List Check). f x ∷ cs) rest
    go false rest = rest

-- ── the first checks of the rules ──

pub last-small : (words : List ℕ) → None ≡ first_failing (last_rule words) → get_or words last_at 0 ≤ MAX_COMMITS
last-small words none = ⊎_elim (λ within. leb-true (get_or words last_at 0) MAX_COMMITS within)
    (λ over. let bad = sym (fails (check last_at (leb (get_or words last_at 0) MAX_COMMITS)) [] over) ∙ sym none in absurd (some-none last_at bad)) (cases_Bool (leb (get_or words last_at 0) MAX_COMMITS))
  where
    some-none : (place : ℕ) → Some place ≡ None → ⊥
    some-none place e = cc

pub objects-start : (words : List ℕ) → first_failing (object_rule words) ≡ first_failing (checks_left (object_checks words) 0 16)
unfolding object_rule
objects-start words = ap first_failing (left-all (object_checks words) 16)

pub entries-start : (words : List ℕ) → first_failing (entry_rule words) ≡ first_failing (checks_left (entry_checks words) 0 16)
unfolding entry_rule
entries-start words = ap first_failing (left-all (entry_checks words) 16)

-- the check of an entry word
abbrev pub entry_check : List ℕ → ℕ → ℕ → List Check
entry_check words object nth = check (entry_at object nth) (is_entry_word words object nth) ∷ []

pub open-start : (words : List ℕ) (object : ℕ) → get_or words (state_at object) 0 ≡ 1 → first_failing (entry_checks words object) ≡ first_failing (checks_left (entry_check words object) 0 60)
open-start words object opened =
    let f : ℕ → Check = λ nth. check (entry_at object nth) (is_entry_word words object nth) in
    ap first_failing (cond-true (eqb (get_or words (state_at object) 0) 1) (map f (below 60)) [] (eq-eqb (get_or words (state_at object) 0) 1 opened)
    ∙ sym (flat_map_single f (below 60)) ∙ left-all (entry_check words object) 60)

pub open-none : (words : List ℕ) (object : ℕ) → (get_or words (state_at object) 0 ≡ 1 → ⊥) → None ≡ first_failing (entry_checks words object)
open-none words object idle =
    let f : ℕ → Check = λ nth. check (entry_at object nth) (is_entry_word words object nth) in
    sym (ap first_failing (cond-false (eqb (get_or words (state_at object) 0) 1) (map f (below 60)) [] (ne_eqb (get_or words (state_at object) 0) 1 idle)))

-- the check of a page
abbrev pub page_check : List ℕ → ℕ → List Check
page_check words page = cond (is_reserved_page page) (check (descriptor_at page) (eqb (get_or words (descriptor_at page) 0) 8) ∷ []) []

pub pages-start : (words : List ℕ) → first_failing (reserved_rule words) ≡ first_failing (checks_left (page_check words) 0 (page_count words))
unfolding reserved_rule
pages-start words = ap first_failing (filter-flat is_reserved_page (λ page. check (descriptor_at page) (eqb (get_or words (descriptor_at page) 0) 8)) (below (page_count words)) ∙ left-all (page_check words) (page_count words))

pub rows-start : (words : List ℕ) → get_or words high_at 0 ≤ 4096 → first_failing (stamp_rule words) ≡ first_failing (checks_left (row_checks words) 0 4096)
unfolding stamp_rule
rows-start words le = passes (check high_at (leb (get_or words high_at 0) 4096)) (flat_map (row_checks words) (below 4096)) (le-leb (get_or words high_at 0) 4096 le) ∙ ap first_failing (left-all (row_checks words) 4096)

pub high-fails : (words : List ℕ) → 4096 < get_or words high_at 0 → Some high_at ≡ first_failing (stamp_rule words)
unfolding stamp_rule
high-fails words more = sym (fails (check high_at (leb (get_or words high_at 0) 4096)) (flat_map (row_checks words) (below 4096)) (lt-leb (get_or words high_at 0) 4096 more))
