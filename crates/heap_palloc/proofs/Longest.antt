-- The longest run of free pages, by runs and by pages.
use Rattle.std.proofs.Common.{◌≡◌, ⊎_elim, ℕ, zero, suc, ◌+◌, ◌-◌, ◌*◌, ◌/◌, ◌%◌, ◌<◌, ◌≤◌, max, Bool, true, false, cond, List, [], ◌∷◌, fold, map, refl, ◌∙◌, ap, arith}
use Rattle.std.specs.Prelude.{All, Contains}
use Rattle.std.proofs.lemmas.Bool.{cases_lt, cond-true}
use Rattle.std.proofs.lemmas.List.Elements.{All-head, All-tail}
use Rattle.image_layout.specs.Places.{below, page_count}
use Rattle.image_layout.specs.Blocks.{is_free_page, free_up_to, longest_free_run}
use Rattle.image_layout.proofs.Members.{Contains-below, below-Contains, Contains-here, Contains-there, Contains-cons, Contains-nil, Contains-map, map-Contains}
use Rattle.heap_big.specs.declared.run.Run.{Run}
use Rattle.heap_big.specs.Runs.{longest, IsGreatest}
use Rattle.heap_palloc.specs.Index.{HeapIndex, IsIndexOf}

-- ── the greatest of a list ──

fold_max-from : (a : ℕ) (xs : List ℕ) → a ≤ fold max a xs
fold_max-from a [] = omega arith
fold_max-from a (x ∷ xs) = omega (arith, fold_max-from (max a x) xs)

fold_max-each : (a : ℕ) (xs : List ℕ) (x : ℕ) → Contains xs x → x ≤ fold max a xs
fold_max-each a [] x has = absurd (Contains-nil x has)
fold_max-each a (y ∷ ys) x has = ⊎_elim (λ (here : y ≡ x). omega (arith, here, fold_max-from (max a y) ys)) (λ there. fold_max-each (max a y) ys x there) (Contains-cons y x ys has)

fold_max-bound : (a : ℕ) (xs : List ℕ) (most : ℕ) → a ≤ most → ((x : ℕ) → Contains xs x → x ≤ most) → fold max a xs ≤ most
fold_max-bound a [] most le each = le
fold_max-bound a (y ∷ ys) most le each = fold_max-bound (max a y) ys most (omega (arith, le, each y (Contains-here y ys))) (λ x has. each x (Contains-there y x ys has))

-- ── free pages up to one ──

free_run : (words : List ℕ) (segment k : ℕ) → (free_up_to words segment k ≤ k) × ((page : ℕ) → segment * 64 + k ≤ page + free_up_to words segment k → page < segment * 64 + k → is_free_page words page ≡ true)
free_run words segment zero = (omega arith, λ page le lt. absurd (omega arith))
free_run words segment (suc k) = by (is_free_page words (segment * 64 + k)) refl (free_run words segment k)
  where
    Run : ℕ → ℕ → Type 0
    Run free k = (free ≤ k) × ((page : ℕ) → segment * 64 + k ≤ page + free → page < segment * 64 + k → is_free_page words page ≡ true)

    by : (b : Bool) → is_free_page words (segment * 64 + k) ≡ b → Run (free_up_to words segment k) k → Run (cond b (free_up_to words segment k + 1) 0) (suc k)
    by true is before = (
      omega (arith, before.0),
      λ page le lt. ⊎_elim (λ less. before.1 page (omega arith) less) (λ more. ap (is_free_page words) (omega arith) ∙ is) (cases_lt page (segment * 64 + k)),
    )
    by false is before = (omega arith, λ page le lt. absurd (omega arith))

run_reaches : (words : List ℕ) (segment k count : ℕ) → count ≤ k → ((page : ℕ) → segment * 64 + k ≤ page + count → page < segment * 64 + k → is_free_page words page ≡ true) → count ≤ free_up_to words segment k
run_reaches words segment zero count le each = omega arith
run_reaches words segment (suc k) zero le each = omega arith
run_reaches words segment (suc k) (suc count) le each =
    let here : is_free_page words (segment * 64 + k) ≡ true = each (segment * 64 + k) (omega arith) (omega arith) in
    let rest = run_reaches words segment k count (omega arith) (λ page from to. each page (omega arith) (omega arith)) in
    let is : free_up_to words segment (suc k) ≡ free_up_to words segment k + 1 = cond-true (is_free_page words (segment * 64 + k)) (free_up_to words segment k + 1) 0 here in
    omega (arith, rest, is)

-- ── the longest run ──

module _ (words : List ℕ) (index : HeapIndex) (is : IsIndexOf words index) (whole : page_count words % 64 ≡ 0) where
  free_to : ℕ → ℕ
  free_to page = free_up_to words (page / 64) (page % 64 + 1)

  each_bound : (count : ℕ) → IsGreatest index.free.runs count → (page : ℕ) → page < page_count words → free_up_to words (page / 64) (page % 64 + 1) ≤ count
  each_bound count greatest page lt =
      let run = free_run words (page / 64) (page % 64 + 1) in
      greatest.bound (page / 64 * 64 + (page % 64 + 1) - free_up_to words (page / 64) (page % 64 + 1)) (free_up_to words (page / 64) (page % 64 + 1)) (record {
        in_segment = omega (arith, run.0);
        free = λ other from to. (is.runs other).1 (omega (arith, to, run.0, lt), run.1 other (omega (arith, from, run.0)) (omega (arith, to, run.0)));
      })

  reached : (count : ℕ) → IsGreatest index.free.runs count → count ≤ longest_free_run words
  reached count greatest = ⊎_elim
      (λ (none : count < 1). omega (arith, none))
      (λ some.
      let first = greatest.first in
      let last = first + (count - 1) in
      let free = greatest.reached in
      let inside : last < page_count words = ((is.runs last).0 (free.free last (omega arith) (omega (arith, some)))).0 in
      let counted : count ≤ free_up_to words (last / 64) (last % 64 + 1) =
      run_reaches words (last / 64) (last % 64 + 1) count (omega (arith, free.in_segment, some)) (λ page from to. ((is.runs page).0 (free.free page (omega (arith, from, some)) (omega (arith, to, some)))).1) in
      let least = fold_max-each 0 (map (λ page. free_up_to words (page / 64) (page % 64 + 1)) (below (page_count words))) (free_up_to words (last / 64) (last % 64 + 1))
      (map-Contains (λ page. free_up_to words (page / 64) (page % 64 + 1)) (below (page_count words)) last (below-Contains (page_count words) last inside)) in
      omega (arith, counted, least))
      (cases_lt count 1)

  pub longest_is : (count : ℕ) → IsGreatest index.free.runs count → count ≡ longest_free_run words
  longest_is count greatest =
      let most : longest_free_run words ≤ count = fold_max-bound 0 (map (λ page. free_up_to words (page / 64) (page % 64 + 1)) (below (page_count words))) count (omega arith) (λ x has.
      let found = Contains-map (λ page. free_up_to words (page / 64) (page % 64 + 1)) (below (page_count words)) x has in
      let le = each_bound count greatest found.0 (Contains-below (page_count words) found.0 found.1) in
      omega (arith, le, found.2)) in
      omega (arith, most, reached count greatest)

-- where each run is shorter, so is the longest
pub longest_short : (runs : List Run) (pages : ℕ) → 0 < pages → All (λ (run : Run). run.pages < pages) runs → longest runs < pages
longest_short [] pages some short = some
longest_short (run ∷ runs) pages some short =
    omega (arith, All-head (λ (r : Run). r.pages < pages) run runs short, longest_short runs pages some (All-tail (λ (r : Run). r.pages < pages) run runs short))
