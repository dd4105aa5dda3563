-- The checks of entries.
use Rattle.std.proofs.Common.{◌≡◌, ◌≢◌, ◌⊎◌, ⊎_elim, ℕ, zero, suc, ◌+◌, ◌-◌, ◌<◌, ◌≤◌, true, false, not, ◌&&◌, ◌||◌, cond, eqb, leb, List, [], ◌∷◌, ◌++◌, map, get_or, sym, ◌∙◌, ap, add-one, arith}
use Rattle.std.specs.Prelude.{Option, None, Some}
use Rattle.std.specs.Option.{is_some}
use Rattle.std.specs.List.{range_with_len, flat_map}
use Rattle.std.proofs.lemmas.Option.{none-some}
use Rattle.std.proofs.lemmas.Bool.{cases_Bool, false≢true, leb-true, eq-eqb, ne_eqb, or_from, or_left, or_right, and_from, and_left, and_right, and_parts, not_from_true, not_from_false, cond-true, cond-false}
use Rattle.image_layout.specs.Fixed.{entry_at, state_at, ready_at}
use Rattle.image_layout.specs.Places.{below, is_pointer_to}
use Rattle.image_layout.specs.Records.{segment_entry_at}
use Rattle.image_layout.specs.Objects.{is_open, ready_count, segment_pointer_at, segment_of, entry_places}
use Rattle.image_layout.specs.Checks.{Check, check, Keeps, first_failing}
use Rattle.image_layout.specs.EntryRules.{objects_rule, object_rule, entries_rule, entry_checks, is_entry, is_segment_pointer}
use Rattle.image_layout.proofs.Faults.{first_failing-none, all_hold, passes, fails}
use Rattle.image_rules.specs.Parts.{segment_checks}
use Rattle.image_rules.proofs.Firsts.{map_holds, map-range, none-append, none-head, flat_none, flat_part, flat_found, found_none, flat_map-filter}

module _ (words : List ℕ) where
  -- ── what kept rules say ──

  object_none : Keeps words objects_rule → (object : ℕ) → object < 16 → first_failing (object_rule object words) ≡ None
  unfolding objects_rule
  object_none keeps object lt = flat_part (λ o. object_rule o words) 16 object lt (first_failing-none (objects_rule words) keeps.checks)

  abbrev bound : ℕ → ℕ → Check
  bound at most = check at (leb (get_or words at 0) most)

  behind_commit : (object : ℕ) → first_failing (object_rule object words) ≡ None
      → first_failing (bound (ready_at object) 32 ∷ segment_checks words object (ready_count words object)) ≡ None
  unfolding object_rule
  behind_commit object none = (none-head _ (bound (ready_at object) 32 ∷ segment_checks words object (ready_count words object)) (none-head (bound (state_at object) 1) (_ ∷ bound (ready_at object) 32 ∷ segment_checks words object (ready_count words object)) none).1).1

  ready_none : Keeps words objects_rule → (object : ℕ) → object < 16 → first_failing (bound (ready_at object) 32 ∷ segment_checks words object (ready_count words object)) ≡ None
  ready_none keeps object lt = behind_commit object (object_none keeps object lt)

  pub ready_most : Keeps words objects_rule → (object : ℕ) → object < 16 → ready_count words object ≤ 32
  ready_most keeps object lt = leb-true (ready_count words object) 32 (none-head (bound (ready_at object) 32) (segment_checks words object (ready_count words object)) (ready_none keeps object lt)).0

  abbrev segment_check : ℕ → ℕ → Check
  segment_check object x = check (segment_pointer_at words object x) (is_segment_pointer words object x)

  pub segment_pointed : Keeps words objects_rule → (object k : ℕ) → object < 16 → k < ready_count words object → is_pointer_to words 256 (get_or words (segment_pointer_at words object k) 0) ≡ true
  segment_pointed keeps object k lt within =
      let all = (none-head (bound (ready_at object) 32) (segment_checks words object (ready_count words object)) (ready_none keeps object lt)).1 in
      let pointers = (none-append (map (segment_check object) (below (ready_count words object))) _ all).0 in
      (and_parts _ _ (map_holds (segment_check object) (ready_count words object) (all_hold (map (segment_check object) (below (ready_count words object))) pointers) k within)).0

  -- ── entry words one behind the other ──

  abbrev entry_check : ℕ → ℕ → Check
  entry_check before at = check at (eqb (get_or words at 0) 0 || (not (eqb before 0) && is_entry words (get_or words at 0)))

  pub run_fails : (before from n : ℕ) → 0 < n → get_or words from 0 ≢ 0 → (before ≡ 0) ⊎ (is_entry words (get_or words from 0) ≡ false)
      → Some from ≡ first_failing (entry_checks words before (range_with_len from n))
  run_fails before from zero some filled why = absurd (omega arith)
  run_fails before from (suc n) some filled why =
      sym (fails (entry_check before from) (entry_checks words (get_or words from 0) (range_with_len (from + 1) n))
      (or_from _ _ (ne_eqb (get_or words from 0) 0 filled)
      (⊎_elim (λ none. and_left (not (eqb before 0)) _ (not_from_true (eqb before 0) (eq-eqb before 0 none))) (λ other. and_right (not (eqb before 0)) _ other) why)))

  pub run_goes : (before from n m next : ℕ) → n ≡ m + 1 → next ≡ from + 1 → (get_or words from 0 ≡ 0) ⊎ ((before ≢ 0) × (is_entry words (get_or words from 0) ≡ true))
      → first_failing (entry_checks words before (range_with_len from n)) ≡ first_failing (entry_checks words (get_or words from 0) (range_with_len next m))
  run_goes before from n m next size step holds =
      ap (λ (k : ℕ). first_failing (entry_checks words before (range_with_len from k))) (size ∙ add-one m)
      ∙ passes (entry_check before from) (entry_checks words (get_or words from 0) (range_with_len (from + 1) m))
      (⊎_elim (λ (none : get_or words from 0 ≡ 0). or_left _ _ (eq-eqb (get_or words from 0) 0 none))
      (λ (entry : (before ≢ 0) × (is_entry words (get_or words from 0) ≡ true)). or_right _ _ (and_from _ _ (not_from_false _ (ne_eqb before 0 entry.0)) entry.1)) holds)
      ∙ ap (λ (f : ℕ). first_failing (entry_checks words (get_or words from 0) (range_with_len f m))) (sym step)

  -- behind a run that holds the walk goes on with its last word
  run_over : (n before from : ℕ) (ys : List ℕ) → first_failing (entry_checks words before (range_with_len from (suc n))) ≡ None
      → first_failing (entry_checks words before (range_with_len from (suc n) ++ ys)) ≡ first_failing (entry_checks words (get_or words (from + n) 0) ys)
  run_over zero before from ys none =
      passes (entry_check before from) (entry_checks words (get_or words from 0) ys) (none-head (entry_check before from) [] none).0
      ∙ ap (λ (f : ℕ). first_failing (entry_checks words (get_or words f 0) ys)) (omega arith)
  run_over (suc n) before from ys none =
      let parts = none-head (entry_check before from) (entry_checks words (get_or words from 0) (range_with_len (from + 1) (suc n))) none in
      passes (entry_check before from) (entry_checks words (get_or words from 0) (range_with_len (from + 1) (suc n) ++ ys)) parts.0
      ∙ run_over n (get_or words from 0) (from + 1) ys parts.1
      ∙ ap (λ (f : ℕ). first_failing (entry_checks words (get_or words f 0) ys)) (omega arith)

  run_in : (xs ys : List ℕ) (before p : ℕ) → first_failing (entry_checks words before xs) ≡ Some p → first_failing (entry_checks words before (xs ++ ys)) ≡ Some p
  run_in [] ys before p some = absurd (none-some p some)
  run_in (at ∷ xs) ys before p some = ⊎_elim
      (λ hit. passes (entry_check before at) (entry_checks words (get_or words at 0) (xs ++ ys)) hit
      ∙ run_in xs ys (get_or words at 0) p (sym (passes (entry_check before at) (entry_checks words (get_or words at 0) xs) hit) ∙ some))
      (λ miss. fails (entry_check before at) (entry_checks words (get_or words at 0) (xs ++ ys)) miss ∙ sym (fails (entry_check before at) (entry_checks words (get_or words at 0) xs) miss) ∙ some)
      (cases_Bool (entry_check before at).holds)

  run_found : (xs ys : List ℕ) (before : ℕ) (found : Option ℕ) → found ≡ first_failing (entry_checks words before xs) → is_some found ≡ true → found ≡ first_failing (entry_checks words before (xs ++ ys))
  run_found xs ys before None here some = absurd (false≢true some)
  run_found xs ys before (Some p) here some = sym (run_in xs ys before p (sym here))

  -- ── an object's entries ──

  module _ (object : ℕ) where
    abbrev of_segment : ℕ → List ℕ
    of_segment segment = map (segment_entry_at segment) (below 255)

    -- the entry words of so many segments, from one on
    abbrev pub segment_entries : ℕ → ℕ → List ℕ
    segment_entries from count = flat_map of_segment (map (segment_of words object) (range_with_len from count))

    own-range : (first : ℕ) → first ≡ entry_at object 0 → map (entry_at object) (below 60) ≡ range_with_len first 60
    own-range first at = map-range (entry_at object) 60 0 first (λ k lt. omega (arith, at))

    abbrev all_entries : List Check
    all_entries = entry_checks words 1 (entry_places words object)

    by_range : (first : ℕ) → first ≡ entry_at object 0 → first_failing all_entries ≡ first_failing (entry_checks words 1 (range_with_len first 60 ++ segment_entries 0 (ready_count words object)))
    unfolding entry_places
    by_range first at = ap (λ (xs : List ℕ). first_failing (entry_checks words 1 (xs ++ segment_entries 0 (ready_count words object)))) (own-range first at)

    pub own_found : (first : ℕ) (found : Option ℕ) → first ≡ entry_at object 0 → found ≡ first_failing (entry_checks words 1 (range_with_len first 60)) → is_some found ≡ true → found ≡ first_failing all_entries
    own_found first found at here some = run_found (range_with_len first 60) (segment_entries 0 (ready_count words object)) 1 found here some ∙ sym (by_range first at)

    pub own_pass : (first last : ℕ) (found : Option ℕ) → first ≡ entry_at object 0 → last ≡ first + 59 → found ≡ first_failing (entry_checks words 1 (range_with_len first 60)) → is_some found ≡ false
        → first_failing all_entries ≡ first_failing (entry_checks words (get_or words last 0) (segment_entries 0 (ready_count words object)))
    own_pass first last found at end here none =
        by_range first at ∙ run_over 59 1 first (segment_entries 0 (ready_count words object)) (found_none found _ here none)
        ∙ ap (λ (f : ℕ). first_failing (entry_checks words (get_or words f 0) (segment_entries 0 (ready_count words object)))) (sym end)

    abbrev segment_of_number : ℕ → ℕ
    segment_of_number k = segment_of words object k

    by_segment : (before k count rest segment first : ℕ) → count ≡ rest + 1 → segment ≡ segment_of words object k → first ≡ segment + 1
        → first_failing (entry_checks words before (segment_entries k count)) ≡ first_failing (entry_checks words before (range_with_len first 255 ++ segment_entries (k + 1) rest))
    by_segment before k count rest segment first size is at =
        ap (λ (c : ℕ). first_failing (entry_checks words before (segment_entries k c))) (size ∙ add-one rest)
        ∙ ap (λ (s : ℕ). first_failing (entry_checks words before (of_segment s ++ segment_entries (k + 1) rest))) (sym is)
        ∙ ap (λ (xs : List ℕ). first_failing (entry_checks words before (xs ++ segment_entries (k + 1) rest))) (map-range (segment_entry_at segment) 255 0 first (λ x lt. omega (arith, at)))

    pub segment_found : (before k count segment first : ℕ) (found : Option ℕ) → 0 < count → segment ≡ segment_of words object k → first ≡ segment + 1
        → found ≡ first_failing (entry_checks words before (range_with_len first 255)) → is_some found ≡ true → found ≡ first_failing (entry_checks words before (segment_entries k count))
    segment_found before k count segment first found some is at here hit =
        run_found (range_with_len first 255) (segment_entries (k + 1) (count - 1)) before found here hit ∙ sym (by_segment before k count (count - 1) segment first (omega (arith, some)) is at)

    pub segment_pass : (before k next count rest segment first last : ℕ) (found : Option ℕ) → next ≡ k + 1 → count ≡ rest + 1 → segment ≡ segment_of words object k → first ≡ segment + 1 → last ≡ segment + 255
        → found ≡ first_failing (entry_checks words before (range_with_len first 255)) → is_some found ≡ false
        → first_failing (entry_checks words before (segment_entries k count)) ≡ first_failing (entry_checks words (get_or words last 0) (segment_entries next rest))
    segment_pass before k next count rest segment first last found step size is at end here none =
        by_segment before k count rest segment first size is at
        ∙ run_over 254 before first (segment_entries (k + 1) rest) (found_none found _ here none)
        ∙ ap (λ (f : ℕ). first_failing (entry_checks words (get_or words f 0) (segment_entries (k + 1) rest))) (omega (arith, at, end))
        ∙ ap (λ (n : ℕ). first_failing (entry_checks words (get_or words last 0) (segment_entries n rest))) (sym step)

  -- ── all objects ──

  abbrev open_checks : ℕ → List Check
  open_checks object = cond (is_open words object) (entry_checks words 1 (entry_places words object)) []

  abbrev pub EntriesBelow : ℕ → Type 0
  EntriesBelow k = (x : ℕ) → x < k → first_failing (cond (is_open words x) (entry_checks words 1 (entry_places words x)) []) ≡ None

  by_object : first_failing (entries_rule words) ≡ first_failing (flat_map open_checks (below 16))
  unfolding entries_rule
  by_object = ap first_failing (flat_map-filter (λ (object : ℕ). entry_checks words 1 (entry_places words object)) (is_open words) (below 16))

  open_is : (k state : ℕ) → state ≡ state_at k → get_or words state 0 ≡ 1 → open_checks k ≡ entry_checks words 1 (entry_places words k)
  open_is k state at set = cond-true (is_open words k) (entry_checks words 1 (entry_places words k)) [] (eq-eqb (get_or words (state_at k) 0) 1 (ap (λ (p : ℕ). get_or words p 0) (sym at) ∙ set))

  pub open_found : (k state : ℕ) (found : Option ℕ) → k < 16 → EntriesBelow k → state ≡ state_at k → get_or words state 0 ≡ 1 → found ≡ first_failing (entry_checks words 1 (entry_places words k)) → is_some found ≡ true
      → found ≡ first_failing (entries_rule words)
  open_found k state found lt each at set here some = flat_found open_checks 16 k found lt each (here ∙ ap first_failing (sym (open_is k state at set))) some ∙ sym by_object

  pub open_none : (k state : ℕ) (found : Option ℕ) → state ≡ state_at k → get_or words state 0 ≡ 1 → found ≡ first_failing (entry_checks words 1 (entry_places words k)) → is_some found ≡ false
      → first_failing (open_checks k) ≡ None
  open_none k state found at set here none = ap first_failing (open_is k state at set) ∙ found_none found _ here none

  pub closed_none : (k state : ℕ) → state ≡ state_at k → get_or words state 0 ≢ 1 → first_failing (open_checks k) ≡ None
  closed_none k state at clear =
      ap first_failing (cond-false (is_open words k) (entry_checks words 1 (entry_places words k)) [] (ne_eqb (get_or words (state_at k) 0) 1 (λ e. clear (ap (λ (p : ℕ). get_or words p 0) at ∙ e))))

  pub entries_none : EntriesBelow 16 → None ≡ first_failing (entries_rule words)
  entries_none each = sym (by_object ∙ flat_none open_checks 16 each)
