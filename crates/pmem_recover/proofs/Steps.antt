-- Which numbers have something to mend, and the plans of steps that make one store.
use Rattle.std.proofs.Common.{◌≡◌, ◌≢◌, ℕ, ◌+◌, Bool, true, false, not, ◌&&◌, cond, eqb, List, [], ◌∷◌, ◌++◌, length, get_or, max, map, refl, sym, ◌∙◌, ap, arith}
use Rattle.std.specs.Prelude.{fold}
use Rattle.std.proofs.lemmas.Bool.{both_ways, eqb-true, ne_eqb, eq-eqb, and_parts, cond-true, cond-false}
use Rattle.std.proofs.lemmas.List.{length-append}
use Rattle.std.proofs.lemmas.List.FromFn.{map-range_with_len_more}
use Rattle.pm_model.specs.declared.action.Action.{Action}
use Rattle.pm_model.specs.declared.action.Action.TheVariants.{Flush, Fence}
use Rattle.image_layout.specs.Fixed.{state_at, last_at}
use Rattle.image_layout.specs.Places.{below}
use Rattle.pm_model.specs.Plans.{Part, lines_of, one_store, part_actions, part_end, plan_of, unless_empty, words_after}
use Rattle.pm_model.specs.Needed.{needed_parts, Mending}
use Rattle.image_layout.specs.Objects.{is_open, commit_word, open_commit, last_commit}
use Rattle.shown_state.specs.Mending.{close_mending, last_mending}
use Rattle.pmem_recover.specs.Steps.{step_parts}

-- ── the parts of a number ──

pub step-by : (mending : ℕ → Mending) (words : List ℕ) (number : ℕ) (parts : List Part) → mending number words ≡ parts → step_parts mending words number ≡ needed_parts words parts
unfolding step_parts
step-by mending words number parts is = ap (needed_parts words) is

-- one store that changes its word, and one that doesn't
pub needed-store : (words : List ℕ) (place value : ℕ) → get_or words place 0 ≢ value → needed_parts words (one_store place value ∷ []) ≡ one_store place value ∷ []
needed-store words place value apart =
    ap (λ (b : Bool). unless_empty (cond b [] (one_store place value)) ++ needed_parts (words_after (cond b [] (one_store place value)) words) []) (ne_eqb (get_or words place 0) value apart)

pub unneeded-store : (words : List ℕ) (place value : ℕ) → get_or words place 0 ≡ value → needed_parts words (one_store place value ∷ []) ≡ []
unneeded-store words place value there =
    ap (λ (b : Bool). unless_empty (cond b [] (one_store place value)) ++ needed_parts (words_after (cond b [] (one_store place value)) words) []) (eq-eqb (get_or words place 0) value there)

pub some-one : (parts : List Part) (part : Part) → parts ≡ part ∷ [] → parts ≢ []
some-one parts part is none = cc

-- an empty plan that got a part of one store
pub made-one : (parts : List Part) (place at value : ℕ) (before left : List Action) → before ≡ [] → place ≡ at → left ≡ before ++ part_actions (one_store place value) → parts ≡ one_store at value ∷ [] → left ≡ plan_of parts
made-one parts place at value before left empty here is are =
    is ∙ ap (λ (xs : List Action). xs ++ part_actions (one_store place value)) empty ∙ ap (λ (k : ℕ). plan_of (one_store k value ∷ [])) here ∙ ap plan_of (sym are)

-- ── objects that are committed ──

module _ (words : List ℕ) (object : ℕ) (test : Bool) (is : test ≡ (is_open words object && not (eqb (commit_word words object) 0))) where
  pub closing : test ≡ true → step_parts close_mending words object ≡ one_store (state_at object) 0 ∷ []
  closing hit =
      let opened = eqb-true (get_or words (state_at object) 0) 1 (and_parts (is_open words object) (not (eqb (commit_word words object) 0)) (sym is ∙ hit)).0 in
      step-by close_mending words object (one_store (state_at object) 0 ∷ []) (cond-true (is_open words object && not (eqb (commit_word words object) 0)) (one_store (state_at object) 0 ∷ []) [] (sym is ∙ hit))
      ∙ needed-store words (state_at object) 0 (λ e. omega (arith, e, opened))

  pub no_closing : test ≡ false → step_parts close_mending words object ≡ []
  no_closing miss = step-by close_mending words object [] (cond-false (is_open words object && not (eqb (commit_word words object) 0)) (one_store (state_at object) 0 ∷ []) [] (sym is ∙ miss))

-- ── the last commit number ──

abbrev pub commits_below : List ℕ → ℕ → ℕ
commits_below words n = fold max (get_or words last_at 0) (map (open_commit words) (below n))

fold-more : (f : ℕ → ℕ → ℕ) (a : ℕ) (xs : List ℕ) (x : ℕ) → fold f a (xs ++ x ∷ []) ≡ f (fold f a xs) x
fold-more f a [] x = refl
fold-more f a (y ∷ xs) x = fold-more f (f a y) xs x

pub commits-more : (words : List ℕ) (n : ℕ) → commits_below words (n + 1) ≡ max (commits_below words n) (open_commit words n)
commits-more words n = ap (fold max (get_or words last_at 0)) (map-range_with_len_more (open_commit words) 0 n n (omega arith)) ∙ fold-more max (get_or words last_at 0) (map (open_commit words) (below n)) (open_commit words n)

last-parts : (words : List ℕ) (number : ℕ) → step_parts (λ n. last_mending) words number ≡ needed_parts words (one_store last_at (last_commit words) ∷ [])
last-parts words number = step-by (λ n. last_mending) words number (one_store last_at (last_commit words) ∷ []) refl

module _ (words : List ℕ) (number : ℕ) where
  pub raising : get_or words last_at 0 ≢ last_commit words → step_parts (λ n. last_mending) words number ≡ one_store last_at (last_commit words) ∷ []
  raising apart = last-parts words number ∙ needed-store words last_at (last_commit words) apart

  pub no_raising : get_or words last_at 0 ≡ last_commit words → step_parts (λ n. last_mending) words number ≡ []
  no_raising there = last-parts words number ∙ unneeded-store words last_at (last_commit words) there

-- ── plans that may be empty ──

part_some : (part : Part) (later : List Action) → part_actions part ++ later ≢ []
part_some part later none =
    let len : length ((part ++ part_end part) ++ later) ≡ 0 = ap length none in
    let a = length-append (part ++ part_end part) later in
    let b = length-append part (part_end part) in
    let d = length-append (map (λ line. Flush line) (lines_of part)) (Fence ∷ []) in
    omega (arith, len, a, b, d)

pub plan-none : (parts : List Part) → plan_of parts ≡ [] → parts ≡ []
plan-none [] none = refl
plan-none (part ∷ parts) none = absurd (part_some part (plan_of parts) none)

-- a plan of a number's parts, by whether it is empty
module _ (parts : List Part) (left : List Action) (is_empty : Bool) (is : left ≡ plan_of parts) where
  pub none-planned : (is_empty ≡ true → left ≡ []) × (left ≡ [] → is_empty ≡ true) → is_empty ≡ true → parts ≡ []
  none-planned empty hit = plan-none parts (sym is ∙ empty.0 hit)

  pub some-planned : (is_empty ≡ true → left ≡ []) × (left ≡ [] → is_empty ≡ true) → is_empty ≡ false → parts ≢ []
  some-planned empty miss none = both_ways is_empty miss (empty.1 (is ∙ ap plan_of none))
