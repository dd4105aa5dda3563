-- A walk that goes on from each place to the next one. Where it comes to an end it has no place twice; among places of which there are only so many
-- it goes in a circle, and the circle closes at the first place from which it goes back.
use Rattle.std.proofs.Common.{◌≡◌, ◌≢◌, ◌⊎◌, ⊎_elim, inl, inr, ℕ, zero, suc, ◌+◌, ◌-◌, ◌*◌, ◌<◌, ◌≤◌, Bool, true, false, eqb, length, refl, sym, ◌∙◌, ap, add-one, arith}
use Rattle.std.specs.List.{IsDistinct, AllByRecursion, list_any}
use Rattle.std.proofs.lemmas.Bool.{cases_eq, cases_lt, eqb-true, ne_eqb, true≢false, true_from_ne_false, or_cases}
use Rattle.std.proofs.lemmas.Map.Steps.{length-le_from_distinct_below}
use Rattle.std.proofs.Math.Nat.{mul-suc, suc-mul}
use Rattle.image_rules.specs.Parts.{before_of, walked}

-- ── numbers that differ ──

length-before_of : (f : ℕ → ℕ) (n : ℕ) → length (before_of f n) ≡ n
length-before_of f zero = refl
length-before_of f (suc n) = ap suc (length-before_of f n)

-- all numbers below one
abbrev pub AllApart : (ℕ → ℕ) → ℕ → Type 0
AllApart f n = (a b : ℕ) → a < b → b < n → f a ≢ f b

module _ (f : ℕ → ℕ) where
  none-before : (n : ℕ) (x : ℕ) → ((k : ℕ) → k < n → f k ≢ x) → AllByRecursion (λ y. eqb x y ≡ false) (before_of f n)
  none-before zero x each = tt
  none-before (suc n) x each = (ne_eqb x (f n) (λ e. each n (omega arith) (sym e)), none-before n x (λ k lt. each k (omega (arith, lt))))

  distinct : (n : ℕ) → AllApart f n → IsDistinct eqb (before_of f n)
  unfolding IsDistinct
  distinct zero apart = tt
  distinct (suc n) apart = (none-before n (f n) (λ k lt. apart k n lt (omega arith)), distinct n (λ a b lt below. apart a b lt (omega (arith, below))))

  bounded : (n most q : ℕ) → ((k : ℕ) → k < n → f k < most) → list_any (eqb q) (before_of f n) ≡ true → q < most
  bounded zero most q each hit = absurd (true≢false (sym hit))
  bounded (suc n) most q each hit = ⊎_elim
      (λ here. omega (arith, eqb-true q (f n) here, each n (omega arith)))
      (λ later. bounded n most q (λ k lt. each k (omega (arith, lt))) later)
      (or_cases (eqb q (f n)) (list_any (eqb q) (before_of f n)) hit)

  -- numbers below a bound that all differ are no more than that
  pub few : (n most : ℕ) → ((k : ℕ) → k < n → f k < most) → AllApart f n → n ≤ most
  few n most each apart = omega (arith, length-before_of f n, length-le_from_distinct_below (before_of f n) most (distinct n apart) (λ q. bounded n most q each))

-- ── a walk ──

module _ (next : ℕ → ℕ) (first : ℕ) where
  abbrev at : ℕ → ℕ
  at k = walked next first k

  pub at-more : (k : ℕ) → at (k + 1) ≡ next (at k)
  at-more k = ap at (add-one k)

  -- so many steps behind so many
  pub at-after : (n s : ℕ) → walked next (at n) s ≡ at (n + s)
  at-after n zero =
      let none : n ≡ n + 0 = omega arith in
      ap at none
  at-after n (suc s) =
      let one : suc (n + s) ≡ n + suc s = omega arith in
      ap next (at-after n s) ∙ ap at one

  -- two places that are one lead on alike
  pub alike : (i j s : ℕ) → at i ≡ at j → at (i + s) ≡ at (j + s)
  alike i j zero e =
      let left : i + 0 ≡ i = omega arith in
      let right : j + 0 ≡ j = omega arith in
      ap at left ∙ e ∙ sym (ap at right)
  alike i j (suc s) e =
      let left : i + suc s ≡ suc (i + s) = omega arith in
      let right : j + suc s ≡ suc (j + s) = omega arith in
      ap at left ∙ ap next (alike i j s e) ∙ sym (ap at right)

  alike_at : (i j k l : ℕ) → i ≤ k → l ≡ j + (k - i) → at i ≡ at j → at k ≡ at l
  alike_at i j k l le is e =
      let left : k ≡ i + (k - i) = omega (arith, le) in
      ap at left ∙ alike i j (k - i) e ∙ sym (ap at is)

  -- a circle is gone through any number of times
  pub again : (i d q : ℕ) → at (i + d) ≡ at i → at (i + q * d) ≡ at i
  again i d zero e =
      let none : i + 0 * d ≡ i = omega arith in
      ap at none
  again i d (suc q) e =
      let one : i + suc q * d ≡ (i + q * d) + d = omega (arith, suc-mul q d) in
      ap at one ∙ alike (i + q * d) i d (again i d q e) ∙ e

  -- the least number of steps after which a place comes again, and the first place that comes again after so many: up to there all places differ
  pub all_apart : (n d i : ℕ) → 1 ≤ d → at (n + d) ≡ at n → ((e : ℕ) → 1 ≤ e → e < d → at (n + e) ≢ at n) → at (i + d) ≡ at i → ((x : ℕ) → x < i → at (x + d) ≢ at x) → AllApart at (i + d)
  all_apart n d i some back least here least_i a b lt below same =
      let e : ℕ = b - a in
      let ahead : at (a + e) ≡ at a = let is : a + (b - a) ≡ b = omega (arith, lt) in ap at is ∙ sym same in
      let far : a ≤ n + a * d = far_from a n d some in
      let n_is : at (n + a * d) ≡ at n = again n d a back in
      let turned : at (n + e) ≡ at n =
      alike n (n + a * d) e (sym n_is)
      ∙ sym (alike_at a (a + e) (n + a * d) (n + a * d + e) far (omega (arith, far)) (sym ahead))
      ∙ n_is in
      ⊎_elim (λ (short : e < d). least e (omega (arith, lt)) short turned)
      (λ (long : d ≤ e).
      let early : a < i = omega (arith, long, below, lt) in
      let past : i ≤ a + i * e = omega (arith, far_from i a e (omega (arith, lt))) in
      let a_is : at (a + i * e) ≡ at a = again a e i ahead in
      least_i a early
      (alike a (a + i * e) d (sym a_is)
      ∙ sym (alike_at i (i + d) (a + i * e) (a + i * e + d) past (omega (arith, past)) (sym here))
      ∙ a_is))
      (cases_lt e d)
    where
      far_from : (a n d : ℕ) → 1 ≤ d → a ≤ n + a * d
      far_from a n zero some = absurd (omega (arith, some))
      far_from a n (suc d) some = omega (arith, mul-suc a d)

  -- where a place fails a test that each place before it passes, none of them is another
  pub ends_apart : (test : ℕ → Bool) (m : ℕ) → ((k : ℕ) → k < m → test (at k) ≡ true) → test (at m) ≡ false → AllApart at (m + 1)
  ends_apart test m passes fails a b lt below same =
      let on : at (a + (m - b)) ≡ at m = sym (alike_at b a m (a + (m - b)) (omega (arith, below)) refl (sym same)) in
      true≢false (sym (passes (a + (m - b)) (omega (arith, lt, below))) ∙ ap test on ∙ fails)

  -- ── among so many places ──

  module _ (n : ℕ) (start : first < n) (test : ℕ → Bool) (inside : (x : ℕ) → test x ≡ true → next x < n) (passes : (k : ℕ) → k < n → test (at k) ≡ true) where
    at-below : (m : ℕ) → ((k : ℕ) → k < m → test (at k) ≡ true) → (k : ℕ) → k < m + 1 → at k < n
    at-below m on zero lt = start
    at-below m on (suc k) lt = inside (at k) (on k (omega (arith, lt)))

    late : (m : ℕ) → test (at m) ≡ false → n ≤ m
    late m miss = ⊎_elim (λ (early : m < n). absurd (true≢false (sym (passes m early) ∙ miss))) (λ le. le) (cases_lt m n)

    never_last : (m : ℕ) → ((k : ℕ) → k < m → test (at k) ≡ true) → test (at m) ≡ false → ⊥
    never_last m on miss = omega (arith, few at (m + 1) n (at-below m on) (ends_apart test m on miss), late m miss)

    -- a walk that goes on for so many places never ends
    on_below : (m k : ℕ) → k < m → test (at k) ≡ true
    on_below zero k lt = absurd (omega (arith, lt))
    on_below (suc m) k lt = ⊎_elim
        (λ (e : k ≡ m). ap (λ (x : ℕ). test (at x)) e ∙ true_from_ne_false (test (at m)) (never_last m (on_below m)))
        (λ apart. on_below m k (omega (arith, lt, apart)))
        (cases_eq k m)

    pub goes_on : (k : ℕ) → test (at k) ≡ true
    goes_on k = on_below (k + 1) k (omega arith)

    pub at_inside : (k : ℕ) → at k < n
    at_inside k = at-below k (on_below k) k (omega arith)

    -- so two of the first places are one
    pub not_apart : AllApart at (n + 1) → ⊥
    not_apart apart = omega (arith, few at (n + 1) n (λ k lt. at_inside k) apart)

    -- the place after so many steps comes again
    search : (k : ℕ) → ((e : ℕ) × (1 ≤ e) × (e ≤ k) × (at (n + e) ≡ at n)) ⊎ ((e : ℕ) → 1 ≤ e → e ≤ k → at (n + e) ≢ at n)
    search zero = inr (λ e some le same. omega (arith, some, le))
    search (suc k) = ⊎_elim
        (λ found. inl (found.0, found.1, omega (arith, found.2), found.3))
        (λ none. ⊎_elim (λ (hit : at (n + suc k) ≡ at n). inl (suc k, omega arith, omega arith, hit))
        (λ miss. inr (λ e some le same. ⊎_elim (λ (last : e ≡ suc k). miss (sym (ap (λ (x : ℕ). at (n + x)) last) ∙ same)) (λ apart. none e some (omega (arith, le, apart)) same) (cases_eq e (suc k))))
        (cases_eq (at (n + suc k)) (at n)))
        (search k)

    pub comes_again : (e : ℕ) × (1 ≤ e) × (e ≤ n) × (at (n + e) ≡ at n)
    comes_again = ⊎_elim (λ found. found) (λ none. absurd (not_apart (apart none))) (search n)
      where
        apart : ((e : ℕ) → 1 ≤ e → e ≤ n → at (n + e) ≢ at n) → AllApart at (n + 1)
        apart none a b lt below same =
            none (b - a) (omega (arith, lt)) (omega (arith, below))
            (sym (alike_at a b n (n + (b - a)) (omega (arith, lt, below)) (omega (arith, lt, below)) same))
