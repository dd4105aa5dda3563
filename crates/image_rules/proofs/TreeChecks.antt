-- The checks of the leaves along a column's list.
use Rattle.std.proofs.Common.{◌≡◌, ◌≢◌, ◌⊎◌, ⊎_elim, inl, inr, ℕ, zero, suc, ◌+◌, ◌-◌, ◌^◌, ◌<◌, ◌≤◌, Bool, true, false, eqb, ltb, List, [], ◌∷◌, length, get_or, refl, sym, ◌∙◌, ap, subst, arith}
use Rattle.std.specs.Prelude.{None, Some}
use Rattle.std.proofs.lemmas.Bool.{cases_Bool, cases_eq, cases_lt, eq-eqb, ne_eqb, eqb-true, and_parts, and_from, and_left, and_right, or_from, or_left, or_right, or_cases, not_from_true, not_from_false, ltb-true, true≢false}
use Rattle.image_layout.specs.Places.{is_in_segment, is_null_or_pointer_to, is_pointer, is_pointer_to, place_in}
use Rattle.image_layout.specs.Records.{next_leaf_at}
use Rattle.image_layout.specs.Trees.{leaves_from}
use Rattle.image_layout.specs.Checks.{Check, check, first_failing}
use Rattle.image_layout.specs.EntryRules.{is_among, is_next, leaf_checks}
use Rattle.image_layout.proofs.Faults.{passes, fails}
use Rattle.image_layout.proofs.TableSlots.{pointer_some}
use Rattle.image_rules.specs.Parts.{ClosesList, IsCircle, IsOnCircle, LeadsOn, before_of, leads_on, leaf_after, next_of, walked}
use Rattle.image_rules.proofs.Circles.{AllApart, all_apart, at-after, at-more, comes_again, ends_apart, goes_on, not_apart}
use Rattle.image_rules.proofs.DistinctChecks.{any_later}
use Rattle.image_rules.proofs.Firsts.{none-head}

-- ── pointers ──

module _ (words : List ℕ) where
  pub pointer_named : (word : ℕ) → is_pointer_to words 128 word ≡ true → word ≢ 0
  pointer_named word pointed = pointer_some words word (and_parts (is_pointer words word) (is_in_segment (place_in word) 128) pointed).0

  pub pointer_inside : (word : ℕ) → is_pointer_to words 128 word ≡ true → place_in word < length words
  pointer_inside word pointed =
      ltb-true (place_in word) (length words)
      (and_parts (eqb word _) (ltb (place_in word) (length words)) (and_parts (is_pointer words word) (is_in_segment (place_in word) 128) pointed).0).1

  pub null_or : (word : ℕ) → is_null_or_pointer_to words 128 word ≡ true → (word ≡ 0) ⊎ (is_pointer_to words 128 word ≡ true)
  null_or word holds = ⊎_elim (λ none. inl (eqb-true word 0 none)) (λ pointed. inr pointed) (or_cases (eqb word 0) (is_pointer_to words 128 word) holds)

  leads : (leaf : ℕ) → leads_on words leaf ≡ true → (ltb (get_or words leaf 0) (2 ^ 48) ≡ true) × (is_pointer_to words 128 (get_or words (next_leaf_at leaf) 0) ≡ true)
  leads leaf on = and_parts (ltb (get_or words leaf 0) (2 ^ 48)) (is_pointer_to words 128 (get_or words (next_leaf_at leaf) 0)) on

  pub next_pointed : (leaf : ℕ) → leads_on words leaf ≡ true → is_pointer_to words 128 (get_or words (next_leaf_at leaf) 0) ≡ true
  next_pointed leaf on = (leads leaf on).1

  next_inside : (leaf : ℕ) → leads_on words leaf ≡ true → next_of words leaf < length words
  next_inside leaf on = pointer_inside (get_or words (next_leaf_at leaf) 0) (leads leaf on).1

  -- ── a list that goes in a circle ──

  module _ (first : ℕ) (start : first < length words) (on : (k : ℕ) → k < length words → leads_on words (leaf_after words first k) ≡ true) where
    pub ever_on : (k : ℕ) → leads_on words (leaf_after words first k) ≡ true
    ever_on k = goes_on (next_of words) first (length words) start (leads_on words) next_inside on k

    none_apart : AllApart (walked (next_of words) first) (length words + 1) → ⊥
    none_apart apart = not_apart (next_of words) first (length words) start (leads_on words) next_inside on apart

    -- the leaf after so many
    pub on_from : (steps leaf : ℕ) → length words ≤ steps → steps ≤ length words → leaf ≡ leaf_after words first steps → leaf + 128 ≤ length words → LeadsOn words leaf
    on_from steps leaf low high is inside = record {
      within = inside;
      each = λ more.
          ap (λ (l : ℕ). leads_on words (leaf_after words l more)) is
          ∙ ap (leads_on words) (at-after (next_of words) first steps more)
          ∙ ever_on (steps + more);
    }

    pub on_circle : IsOnCircle words (leaf_after words first (length words))
    on_circle =
        let again = comes_again (next_of words) first (length words) start (leads_on words) next_inside on in
        record { steps = again.0; some = again.1; few = again.2; back = at-after (next_of words) first (length words) again.0 ∙ again.3 }

    module _ (d : ℕ) (circle : IsCircle words (leaf_after words first (length words)) d) where
      abbrev at : ℕ → ℕ
      at k = walked (next_of words) first k

      back : at (length words + d) ≡ at (length words)
      back = sym (at-after (next_of words) first (length words) d) ∙ circle.back

      least : (e : ℕ) → 1 ≤ e → e < d → at (length words + e) ≢ at (length words)
      least e some lt same = circle.least e some lt (at-after (next_of words) first (length words) e ∙ same)

      apart_to : (i : ℕ) → at (i + d) ≡ at i → ((x : ℕ) → x < i → at (x + d) ≢ at x) → AllApart at (i + d)
      apart_to i here least_i = all_apart (next_of words) first (length words) d i circle.some back least here least_i

      before : (m : ℕ) → length words < m → AllApart at m → ⊥
      before m lt apart = none_apart (λ a b below under. apart a b below (omega (arith, under, lt)))

      -- the place that comes again after the circle's steps is met before the walk has gone so far
      pub met : ((x : ℕ) → x < length words → at (x + d) ≢ at x) → ⊥
      met missed = before (length words + d) (omega (arith, circle.some)) (apart_to (length words) back missed)

      pub closes : (i leaf : ℕ) → leaf ≡ at (i + (d - 1)) → next_of words leaf ≡ at i → ((x : ℕ) → x < i → at (x + d) ≢ at x) → ClosesList words first leaf
      closes i leaf is returns missed = record {
        steps = i + (d - 1);
        few = ⊎_elim (λ lt. lt) (λ far. absurd (before (i + d) (omega (arith, far, circle.some)) all)) (cases_lt (i + (d - 1)) (length words));
        is = is;
        back = (i, omega arith, returns);
        apart = λ a b lt le. all a b lt (omega (arith, le, circle.some));
      }
        where
          here : at (i + d) ≡ at i
          here =
              let one : i + d ≡ suc (i + (d - 1)) = omega (arith, circle.some) in
              ap at one ∙ sym (ap (next_of words) is) ∙ returns

          all : AllApart at (i + d)
          all = apart_to i here missed

-- two leaves of a walk that are so many steps apart, one step on
module _ (words : List ℕ) (first i d ahead next : ℕ) (here : ahead ≡ leaf_after words first (i + (d - 1))) (on : next ≡ next_of words ahead) where
  pub ahead_more : next ≡ leaf_after words first (i + 1 + (d - 1))
  ahead_more =
      let one : suc (i + (d - 1)) ≡ i + 1 + (d - 1) = omega arith in
      on ∙ ap (next_of words) here ∙ ap (walked (next_of words) first) one

  pub missed_more : (behind : ℕ) → 1 ≤ d → behind ≡ leaf_after words first i → next ≢ behind → ((x : ℕ) → x < i → leaf_after words first (x + d) ≢ leaf_after words first x)
      → (x : ℕ) → x < i + 1 → leaf_after words first (x + d) ≢ leaf_after words first x
  missed_more behind some is apart missed x lt = ⊎_elim
      (λ (e : x ≡ i).
      let one : i + d ≡ i + 1 + (d - 1) = omega (arith, some) in
      λ same. apart (ahead_more ∙ sym (ap (walked (next_of words) first) one) ∙ sym (ap (λ (k : ℕ). leaf_after words first (k + d)) e) ∙ same ∙ ap (walked (next_of words) first) e ∙ sym is))
      (λ apart_x. missed x (omega (arith, lt, apart_x)))
      (cases_eq x i)

-- ── the checks along a list ──

leaf-one : (words : List ℕ) (steps word : ℕ) → word ≢ 0 → leaves_from words (suc steps) word ≡ place_in word ∷ leaves_from words steps (get_or words (next_leaf_at (place_in word)) 0)
unfolding leaves_from
leaf-one words steps zero some = absurd (some refl)
leaf-one words steps (suc word) some = refl

leaf-none : (words : List ℕ) (steps word : ℕ) → word ≡ 0 → leaves_from words steps word ≡ []
unfolding leaves_from
leaf-none words zero word none = refl
leaf-none words (suc steps) word none = ap (leaves_from words (suc steps)) none

module _ (words : List ℕ) (top : ℕ) (some : top ≢ 0) where
  abbrev spot : ℕ → ℕ
  spot k = walked (next_of words) (place_in top) k

  -- the word that names a leaf of the walk
  abbrev word : ℕ → ℕ
  word zero = top
  word (suc k) = get_or words (next_leaf_at (walked (next_of words) (place_in top) k)) 0

  spot-is : (k : ℕ) → place_in (word k) ≡ spot k
  spot-is zero = refl
  spot-is (suc k) = refl

  abbrev checks_from : ℕ → ℕ → List Check
  checks_from steps k = leaf_checks words (before_of (walked (next_of words) (place_in top)) k) (leaves_from words steps (word k))

  abbrev bitmap_check : ℕ → Check
  bitmap_check leaf = check leaf (ltb (get_or words leaf 0) (2 ^ 48))

  abbrev next_check : ℕ → Check
  next_check k = check (next_leaf_at (spot k)) (is_next words (before_of (walked (next_of words) (place_in top)) (suc k)) (word (suc k)))

  named : (k : ℕ) → ((x : ℕ) → x < k → leads_on words (spot x) ≡ true) → word k ≢ 0
  named zero on = some
  named (suc k) on = pointer_named words (word (suc k)) (next_pointed words (spot k) (on k (omega arith)))

  checks-one : (steps k : ℕ) → word k ≢ 0 → checks_from (suc steps) k ≡ bitmap_check (spot k) ∷ next_check k ∷ checks_from steps (suc k)
  checks-one steps k is_some =
      ap (leaf_checks words (before_of (walked (next_of words) (place_in top)) k))
      (leaf-one words steps (word k) is_some ∙ ap (λ (leaf : ℕ). leaf ∷ leaves_from words steps (get_or words (next_leaf_at leaf) 0)) (spot-is k))

  not_among : (k : ℕ) → AllApart spot (k + 1) → (n : ℕ) → n ≤ k → is_among (before_of (walked (next_of words) (place_in top)) n) (spot k) ≡ false
  not_among k apart zero le = refl
  not_among k apart (suc n) le =
      or_from (eqb (spot n) (spot k)) (is_among (before_of (walked (next_of words) (place_in top)) n) (spot k)) (ne_eqb (spot n) (spot k) (apart n k (omega (arith, le)) (omega arith))) (not_among k apart n (omega (arith, le)))

  next_holds : (k : ℕ) → leads_on words (spot k) ≡ true → AllApart spot (suc k + 1) → (next_check k).holds ≡ true
  next_holds k on apart =
      or_right (eqb (word (suc k)) 0) _
      (and_from (is_pointer_to words 128 (word (suc k))) _ (next_pointed words (spot k) on) (not_from_false _ (not_among (suc k) apart (suc k) (omega arith))))

  -- up to a leaf each check holds
  skip : (k n : ℕ) → k ≤ n → ((x : ℕ) → x < k → leads_on words (spot x) ≡ true) → AllApart spot (k + 1) → first_failing (checks_from n 0) ≡ first_failing (checks_from (n - k) k)
  skip zero n le on apart = ap (λ (m : ℕ). first_failing (checks_from m 0)) (omega arith)
  skip (suc k) n le on apart =
      let left : n - k ≡ suc (n - suc k) = omega (arith, le) in
      skip k n (omega (arith, le)) (λ x lt. on x (omega (arith, lt))) (λ a b lt below. apart a b lt (omega (arith, below)))
      ∙ ap (λ (m : ℕ). first_failing (checks_from m k)) left
      ∙ ap first_failing (checks-one (n - suc k) k (named k (λ x lt. on x (omega (arith, lt)))))
      ∙ passes (bitmap_check (spot k)) (next_check k ∷ checks_from (n - suc k) (suc k)) (and_parts _ _ (on k (omega arith))).0
      ∙ passes (next_check k) (checks_from (n - suc k) (suc k)) (next_holds k (on k (omega arith)) apart)

  module _ (k n : ℕ) (lt : k < n) (on : (x : ℕ) → x < k → leads_on words (spot x) ≡ true) (apart : AllApart spot (k + 1)) where
    reaches : first_failing (checks_from n 0) ≡ first_failing (bitmap_check (spot k) ∷ next_check k ∷ checks_from (n - suc k) (suc k))
    reaches =
        let left : n - k ≡ suc (n - suc k) = omega (arith, lt) in
        skip k n (omega (arith, lt)) on apart
        ∙ ap (λ (m : ℕ). first_failing (checks_from m k)) left
        ∙ ap first_failing (checks-one (n - suc k) k (named k on))

    breaks_bitmap : ltb (get_or words (spot k) 0) (2 ^ 48) ≡ false → first_failing (checks_from n 0) ≡ Some (spot k)
    breaks_bitmap miss = reaches ∙ fails (bitmap_check (spot k)) (next_check k ∷ checks_from (n - suc k) (suc k)) miss

    module _ (bitmap : ltb (get_or words (spot k) 0) (2 ^ 48) ≡ true) where
      breaks_next : (next_check k).holds ≡ false → first_failing (checks_from n 0) ≡ Some (next_leaf_at (spot k))
      breaks_next miss =
          reaches
          ∙ passes (bitmap_check (spot k)) (next_check k ∷ checks_from (n - suc k) (suc k)) bitmap
          ∙ fails (next_check k) (checks_from (n - suc k) (suc k)) miss

      ends : word (suc k) ≡ 0 → first_failing (checks_from n 0) ≡ None
      ends none =
          reaches
          ∙ passes (bitmap_check (spot k)) (next_check k ∷ checks_from (n - suc k) (suc k)) bitmap
          ∙ passes (next_check k) (checks_from (n - suc k) (suc k)) (or_left (eqb (word (suc k)) 0) _ (eq-eqb (word (suc k)) 0 none))
          ∙ ap (λ (leaves : List ℕ). first_failing (leaf_checks words (before_of (walked (next_of words) (place_in top)) (suc k)) leaves)) (leaf-none words (n - suc k) (word (suc k)) none)

  -- ── what a walk over the list finds ──

  module _ (k leaf : ℕ) (lt : k < length words) (is : leaf ≡ spot k) (on : (x : ℕ) → x < k → leads_on words (spot x) ≡ true) where
    apart_here : leads_on words (spot k) ≡ false → AllApart spot (k + 1)
    apart_here miss = ends_apart (next_of words) (place_in top) (leads_on words) k on miss

    bitmap_is : (b : Bool) → ltb (get_or words leaf 0) (2 ^ 48) ≡ b → ltb (get_or words (spot k) 0) (2 ^ 48) ≡ b
    bitmap_is b here = sym (ap (λ (p : ℕ). ltb (get_or words p 0) (2 ^ 48)) is) ∙ here

    next_is : get_or words (next_leaf_at leaf) 0 ≡ word (suc k)
    next_is = ap (λ (p : ℕ). get_or words (next_leaf_at p) 0) is

    pub bitmap_found : ltb (get_or words leaf 0) (2 ^ 48) ≡ false → Some leaf ≡ first_failing (leaf_checks words [] (leaves_from words (length words) top))
    bitmap_found miss =
        ap (λ (p : ℕ). Some p) is
        ∙ sym (breaks_bitmap k (length words) lt on (apart_here (and_left _ _ (bitmap_is false miss))) (bitmap_is false miss))

    pub list_ends : ltb (get_or words leaf 0) (2 ^ 48) ≡ true → get_or words (next_leaf_at leaf) 0 ≡ 0 → None ≡ first_failing (leaf_checks words [] (leaves_from words (length words) top))
    list_ends bitmap none =
        sym (ends k (length words) lt on (apart_here (and_right _ _ unpointed)) (bitmap_is true bitmap) (sym next_is ∙ none))
      where
        unpointed : is_pointer_to words 128 (word (suc k)) ≡ false
        unpointed = ⊎_elim (λ pointed. absurd (pointer_named words (word (suc k)) pointed (sym next_is ∙ none))) (λ miss. miss) (cases_Bool (is_pointer_to words 128 (word (suc k))))

    pub next_found : ltb (get_or words leaf 0) (2 ^ 48) ≡ true → get_or words (next_leaf_at leaf) 0 ≢ 0 → is_pointer_to words 128 (get_or words (next_leaf_at leaf) 0) ≡ false
        → Some (leaf + 1) ≡ first_failing (leaf_checks words [] (leaves_from words (length words) top))
    next_found bitmap is_some unpointed =
        let here : is_pointer_to words 128 (word (suc k)) ≡ false = sym (ap (is_pointer_to words 128) next_is) ∙ unpointed in
        ap (λ (p : ℕ). Some (next_leaf_at p)) is
        ∙ sym (breaks_next k (length words) lt on (apart_here (and_right _ _ here)) (bitmap_is true bitmap)
        (or_from (eqb (word (suc k)) 0) _ (ne_eqb (word (suc k)) 0 (λ none. is_some (next_is ∙ none))) (and_left _ _ here)))

  pub circle_found : (last : ℕ) → ((x : ℕ) → leads_on words (spot x) ≡ true) → ClosesList words (place_in top) last → Some (last + 1) ≡ first_failing (leaf_checks words [] (leaves_from words (length words) top))
  circle_found last on closed =
      let k : ℕ = closed.steps in
      let again : spot (suc k) ≡ spot closed.back.0 = sym (ap (next_of words) closed.is) ∙ closed.back.2 in
      ap (λ (p : ℕ). Some (next_leaf_at p)) closed.is
      ∙ sym (breaks_next k (length words) closed.few (λ x lt. on x) (λ a b lt below. closed.apart a b lt (omega (arith, below))) (and_parts _ _ (on k)).0
      (or_from (eqb (word (suc k)) 0) _ (ne_eqb (word (suc k)) 0 (named (suc k) (λ x lt. on x)))
      (and_right _ _ (not_from_true _ (any_later (λ other. eqb other (spot (suc k))) (walked (next_of words) (place_in top)) closed.back.0 (suc k) (omega (arith, closed.back.1)) (eq-eqb (spot closed.back.0) (spot (suc k)) (sym again)))))))

-- ── a list whose checks hold ──

-- each word along the list is null or names a leaf
abbrev pub Follows : List ℕ → ℕ → ℕ → Type 0
Follows words zero word = Unit {0}
Follows words (suc steps) word = (word ≡ 0) ⊎ ((is_pointer_to words 128 word ≡ true) × Follows words steps (get_or words (next_leaf_at (place_in word)) 0))

module _ (words : List ℕ) where
  follows_from : (steps word : ℕ) (reached : List ℕ) → is_null_or_pointer_to words 128 word ≡ true → first_failing (leaf_checks words reached (leaves_from words steps word)) ≡ None → Follows words steps word
  follows_from zero word reached holds none = tt
  follows_from (suc steps) word reached holds none = ⊎_elim (λ null. inl null)
      (λ pointed.
      let leaf : ℕ = place_in word in
      let next : Check = check (next_leaf_at leaf) (is_next words (leaf ∷ reached) (get_or words (next_leaf_at leaf) 0)) in
      let rest : List Check = leaf_checks words (leaf ∷ reached) (leaves_from words steps (get_or words (next_leaf_at leaf) 0)) in
      let parts = none-head (check leaf (ltb (get_or words leaf 0) (2 ^ 48))) (next ∷ rest) (sym (ap (λ (leaves : List ℕ). first_failing (leaf_checks words reached leaves)) (leaf-one words steps word (pointer_named words word pointed))) ∙ none) in
      let more = none-head next rest parts.1 in
      inr (pointed, follows_from steps (get_or words (next_leaf_at leaf) 0) (leaf ∷ reached) (next_null (get_or words (next_leaf_at leaf) 0) (leaf ∷ reached) more.0) more.1))
      (null_or words word holds)
    where
      next_null : (word : ℕ) (reached : List ℕ) → is_next words reached word ≡ true → is_null_or_pointer_to words 128 word ≡ true
      next_null word reached holds = ⊎_elim (λ none. or_left (eqb word 0) _ none)
          (λ both. or_right (eqb word 0) (is_pointer_to words 128 word) (and_parts (is_pointer_to words 128 word) _ both).0)
          (or_cases (eqb word 0) _ holds)

  pub follows : (word : ℕ) → is_null_or_pointer_to words 128 word ≡ true → first_failing (leaf_checks words [] (leaves_from words (length words) word)) ≡ None → Follows words (length words) word
  follows word holds none = follows_from (length words) word [] holds none

  module _ (left steps word : ℕ) (is : left ≡ suc steps) (on : Follows words left word) where
    on_suc : Follows words (suc steps) word
    on_suc = subst (λ (n : ℕ). Follows words n word) is on

    -- where no leaf is named the list ends
    pub end_here : is_pointer_to words 128 word ≡ false → leaves_from words left word ≡ []
    end_here miss = leaf-none words left word (⊎_elim (λ null. null) (λ both. absurd (true≢false (sym both.0 ∙ miss))) on_suc)

    pub leaf_here : is_pointer_to words 128 word ≡ true → leaves_from words left word ≡ place_in word ∷ leaves_from words steps (get_or words (next_leaf_at (place_in word)) 0)
    leaf_here pointed = ap (λ (n : ℕ). leaves_from words n word) is ∙ leaf-one words steps word (pointer_named words word pointed)

    pub on_next : is_pointer_to words 128 word ≡ true → Follows words steps (get_or words (next_leaf_at (place_in word)) 0)
    on_next pointed = ⊎_elim (λ null. absurd (pointer_named words word pointed null)) (λ both. both.1) on_suc

  pub none_left : (word : ℕ) → leaves_from words 0 word ≡ []
  unfolding leaves_from
  none_left word = refl

  -- a word that names no leaf begins no list
  pub no_leaf : (word : ℕ) → is_null_or_pointer_to words 128 word ≡ true → is_pointer_to words 128 word ≡ false → None ≡ first_failing (leaf_checks words [] (leaves_from words (length words) word))
  no_leaf word holds miss =
      sym (ap (λ (leaves : List ℕ). first_failing (leaf_checks words [] leaves))
      (leaf-none words (length words) word (⊎_elim (λ null. null) (λ pointed. absurd (true≢false (sym pointed ∙ miss))) (null_or words word holds))))

  -- a leaf that leads on, and the next one
  pub next_leads : (first step leaf next : ℕ) → leaf ≡ leaf_after words first step → ltb (get_or words leaf 0) (2 ^ 48) ≡ true → is_pointer_to words 128 (get_or words (leaf + 1) 0) ≡ true
      → next ≡ place_in (get_or words (leaf + 1) 0) → next + 128 ≤ length words → ((x : ℕ) → x < step → leads_on words (leaf_after words first x) ≡ true)
      → record { leaf : next ≡ leaf_after words first (step + 1); within : next + 128 ≤ length words; on : (x : ℕ) → x < step + 1 → leads_on words (leaf_after words first x) ≡ true }
  next_leads first step leaf next is bitmap pointed named within on = record {
    leaf = named ∙ ap (next_of words) is ∙ sym (at-more (next_of words) first step);
    within = within;
    on = λ x lt. ⊎_elim
        (λ (e : x ≡ step). ap (λ (k : ℕ). leads_on words (leaf_after words first k)) e ∙ sym (ap (leads_on words) is) ∙ and_from _ _ bitmap pointed)
        (λ apart. on x (omega (arith, lt, apart)))
        (cases_eq x step);
  }
