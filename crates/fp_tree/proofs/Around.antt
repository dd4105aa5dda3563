-- The leaf of what is looked for, and the leaves around it.
use Rattle.std.proofs.Common.{◌≡◌, ⊎_elim, ℕ, zero, suc, ◌-◌, ◌<◌, ◌≤◌, Bool, true, false, not, cond, eqb, ltb, List, [], ◌∷◌, ◌++◌, length, get_or, map, refl, sym, ◌∙◌, ap, subst, arith}
use Rattle.std.specs.Prelude.{Any, filter}
use Rattle.std.specs.List.{list_any}
use Rattle.std.specs.Int.{bit_at}
use Rattle.std.proofs.lemmas.List.Folds.{list_any-from_Any}
use Rattle.image_layout.specs.Places.{below}
use Rattle.fp_tree.proofs.Search.{int_key}
use Rattle.std.proofs.lemmas.Bool.{cond-false, cond-true, not-false, cases_Bool, eqb-true, ltb-false, ltb-true, lt-ltb, or_from}
use Rattle.std.proofs.lemmas.Nat.Bits.{bit_at-zero}
use Rattle.image_layout.specs.Trees.{key_below, leaf_pairs, pair_at}
use Rattle.fp_inner.specs.Keys.{IsLeafFor, is_below, least_key}
use Rattle.fp_inner.specs.declared.probe.Probe.{Probe}
use Rattle.fp_inner.specs.declared.probe.Probe.TheVariants.{Int}
use Rattle.tree_cuts.specs.Lists.{Each, Pairwise}
use Rattle.tree_cuts.specs.Tree.{AreOrdered, KeysBelow}
use Rattle.tree_cuts.proofs.Lists.{each-map, filter-hit, filter-miss, filter-none}
use Rattle.fp_tree.specs.Standing.{IsLeastKey, has_key_up_to, has_pairs, indexed, is_key, last_up_to, leaf_of, or_first}

-- ── lists ──

pub each_at : {X : Type 0} (P : X → Type 0) (xs : List X) → Each P xs → (k : ℕ) (d : X) → k < length xs → P (get_or xs k d)
each_at P [] each k d lt = absurd (omega (arith, lt))
each_at P (x ∷ xs) each zero d lt = each.0
each_at P (x ∷ xs) each (suc k) d lt = each_at P xs each.1 k d (omega (arith, lt))

pub each_any : {X : Type 0} (P Q : X → Type 0) (R : Type 0) (xs : List X) → Each P xs → Any Q xs → ((x : X) → P x → Q x → R) → R
each_any P Q R xs each any f = f any.1 (subst P any.3 (each_at P xs each any.0 any.1 any.2)) any.4

pub each_from : {X : Type 0} (P : X → Type 0) (d : X) (xs : List X) → ((k : ℕ) → k < length xs → P (get_or xs k d)) → Each P xs
each_from P d [] at = tt
each_from P d (x ∷ xs) at = (at 0 (omega arith), each_from P d xs (λ k lt. at (suc k) (omega (arith, lt))))

pub pairwise_at : (R : ℕ → ℕ → Type 0) (xs : List ℕ) → Pairwise R xs → (i j : ℕ) → i < j → j < length xs → R (get_or xs i 0) (get_or xs j 0)
pairwise_at R [] pairs i j lt within = absurd (omega (arith, within))
pairwise_at R (x ∷ xs) pairs i zero lt within = absurd (omega (arith, lt))
pairwise_at R (x ∷ xs) pairs zero (suc j) lt within = each_at (R x) xs pairs.0 j 0 (omega (arith, within))
pairwise_at R (x ∷ xs) pairs (suc i) (suc j) lt within = pairwise_at R xs pairs.1 i j (omega (arith, lt)) (omega (arith, within))

pub each_filtered : (P : ℕ → Type 0) (p : ℕ → Bool) (xs : List ℕ) → Each P xs → Each P (filter p xs)
each_filtered P p [] each = tt
each_filtered P p (x ∷ xs) each = ⊎_elim
    (λ hit. subst (Each P) (sym (filter-hit p x xs hit)) (each.0, each_filtered P p xs each.1))
    (λ miss. subst (Each P) (sym (filter-miss p x xs miss)) (each_filtered P p xs each.1)) (cases_Bool (p x))

pairwise_filtered : (R : ℕ → ℕ → Type 0) (p : ℕ → Bool) (xs : List ℕ) → Pairwise R xs → Pairwise R (filter p xs)
pairwise_filtered R p [] pairs = tt
pairwise_filtered R p (x ∷ xs) pairs = ⊎_elim
    (λ hit. subst (Pairwise R) (sym (filter-hit p x xs hit)) (each_filtered (R x) p xs pairs.0, pairwise_filtered R p xs pairs.1))
    (λ miss. subst (Pairwise R) (sym (filter-miss p x xs miss)) (pairwise_filtered R p xs pairs.1)) (cases_Bool (p x))

pub each_kept : (P : ℕ → Type 0) (p : ℕ → Bool) → ((x : ℕ) → p x ≡ false → P x) → (xs : List ℕ) → Each P (filter p xs) → Each P xs
each_kept P p none [] each = tt
each_kept P p none (x ∷ xs) each = ⊎_elim
    (λ hit. let all : Each P (x ∷ filter p xs) = subst (Each P) (filter-hit p x xs hit) each in (all.0, each_kept P p none xs all.1))
    (λ miss. (none x miss, each_kept P p none xs (subst (Each P) (filter-miss p x xs miss) each))) (cases_Bool (p x))

-- an item of a list, and what is known of those before it and behind it
pub record Around (P Q : ℕ → Type 0) (xs : List ℕ) (x : ℕ) : Type 0 where
  pub before : List ℕ
  pub after : List ℕ
  pub is : xs ≡ before ++ x ∷ after
  pub lower : Each P before
  pub upper : Each Q after

module _ (P Q : ℕ → Type 0) (p : ℕ → Bool) (none : (x : ℕ) → p x ≡ false → P x × Q x) where
  around_first : (x : ℕ) (xs fs : List ℕ) → fs ≡ x ∷ filter p xs → ((j : ℕ) → 0 < j → j < length fs → Q (get_or fs j 0)) → Around P Q (x ∷ xs) (get_or fs 0 0)
  around_first x xs fs is high = record {
    before = [];
    after = xs;
    is = ap (λ (y : ℕ). y ∷ xs) (sym (ap (λ (ys : List ℕ). get_or ys 0 0) is));
    lower = tt;
    upper = each_kept Q p (λ y miss. (none y miss).1) xs (each_from Q 0 (filter p xs)
        (λ k below. subst (λ (ys : List ℕ). Q (get_or ys (suc k) 0)) is (high (suc k) (omega arith) (let size = ap length is in omega (arith, below, size)))));
  }

  around_later : (x : ℕ) (xs fs : List ℕ) (at : ℕ) → fs ≡ x ∷ filter p xs → ((j : ℕ) → j < suc at → P (get_or fs j 0)) → Around P Q xs (get_or (filter p xs) at 0) → Around P Q (x ∷ xs) (get_or fs (suc at) 0)
  around_later x xs fs at is low rest = record {
    before = x ∷ rest.before;
    after = rest.after;
    is = ap (λ (ys : List ℕ). x ∷ ys) rest.is ∙ ap (λ (y : ℕ). x ∷ rest.before ++ y ∷ rest.after) (sym (ap (λ (ys : List ℕ). get_or ys (suc at) 0) is));
    lower = (subst (λ (ys : List ℕ). P (get_or ys 0 0)) is (low 0 (omega arith)), rest.lower);
    upper = rest.upper;
  }

  around_missed : (x : ℕ) (xs : List ℕ) (found : ℕ) → p x ≡ false → Around P Q xs found → Around P Q (x ∷ xs) found
  around_missed x xs found miss rest = record {
    before = x ∷ rest.before;
    after = rest.after;
    is = ap (λ (ys : List ℕ). x ∷ ys) rest.is;
    lower = ((none x miss).0, rest.lower);
    upper = rest.upper;
  }

  pub around_filtered : (xs fs : List ℕ) (at : ℕ) → fs ≡ filter p xs → at < length fs → ((j : ℕ) → j < at → P (get_or fs j 0)) → ((j : ℕ) → at < j → j < length fs → Q (get_or fs j 0)) → Around P Q xs (get_or fs at 0)
  around_filtered [] fs at is lt low high = absurd (let size = ap length is in omega (arith, lt, size))
  around_filtered (x ∷ xs) fs zero is lt low high = ⊎_elim
      (λ hit. around_first x xs fs (is ∙ filter-hit p x xs hit) high)
      (λ miss. around_missed x xs (get_or fs 0 0) miss (around_filtered xs fs zero (is ∙ filter-miss p x xs miss) lt low high))
      (cases_Bool (p x))
  around_filtered (x ∷ xs) fs (suc at) is lt low high = ⊎_elim
      (λ hit.
      let whole = is ∙ filter-hit p x xs hit in
      let size = ap length whole in
      around_later x xs fs at whole low (around_filtered xs (filter p xs) at refl (omega (arith, lt, size))
      (λ j below. subst (λ (ys : List ℕ). P (get_or ys (suc j) 0)) whole (low (suc j) (omega (arith, below))))
      (λ j above within. subst (λ (ys : List ℕ). Q (get_or ys (suc j) 0)) whole (high (suc j) (omega (arith, above)) (omega (arith, within, size))))))
      (λ miss. around_missed x xs (get_or fs (suc at) 0) miss (around_filtered xs fs (suc at) (is ∙ filter-miss p x xs miss) lt low high))
      (cases_Bool (p x))

  none_kept : (xs : List ℕ) → [] ≡ filter p xs → Each (λ x. p x ≡ false) xs
  none_kept [] is = tt
  none_kept (x ∷ xs) is = ⊎_elim
      (λ hit. absurd (let size = ap length (is ∙ filter-hit p x xs hit) in omega (arith, size)))
      (λ miss. (miss, none_kept xs (is ∙ filter-miss p x xs miss))) (cases_Bool (p x))

  pub around_by : (fs xs : List ℕ) (at : ℕ) → fs ≡ filter p xs → at < length (or_first fs xs) → ((j : ℕ) → j < at → P (get_or (or_first fs xs) j 0)) → ((j : ℕ) → at < j → j < length (or_first fs xs) → Q (get_or (or_first fs xs) j 0)) → Around P Q xs (get_or (or_first fs xs) at 0)
  around_by (f ∷ fs) xs at is lt low high = around_filtered xs (f ∷ fs) at is lt low high
  around_by [] [] at is lt low high = absurd (omega (arith, lt))
  around_by [] (x ∷ xs) (suc at) is lt low high = absurd (omega (arith, lt))
  around_by [] (x ∷ xs) zero is lt low high = record {
    before = [];
    after = xs;
    is = refl;
    lower = tt;
    upper = each-map (λ y. p y ≡ false) Q (λ y miss. (none y miss).1) xs (none_kept (x ∷ xs) is).1;
  }

-- ── the leaves of the index ──

each_or_first : (P : ℕ → Type 0) (fs xs : List ℕ) → Each P fs → Each P xs → Each P (or_first fs xs)
each_or_first P (f ∷ fs) xs some all = some
each_or_first P [] [] some all = tt
each_or_first P [] (x ∷ xs) some all = (all.0, tt)

pairwise_or_first : (R : ℕ → ℕ → Type 0) (fs xs : List ℕ) → Pairwise R fs → Pairwise R (or_first fs xs)
pairwise_or_first R (f ∷ fs) xs pairs = pairs
pairwise_or_first R [] [] pairs = tt
pairwise_or_first R [] (x ∷ xs) pairs = (tt, tt)

pub each_indexed : (P : ℕ → Type 0) (words leaves : List ℕ) → Each P leaves → Each P (indexed words leaves)
each_indexed P words leaves each = each_or_first P (filter (has_pairs words) leaves) leaves (each_filtered P (has_pairs words) leaves each) each

pub pairwise_indexed : (R : ℕ → ℕ → Type 0) (words leaves : List ℕ) → Pairwise R leaves → Pairwise R (indexed words leaves)
pairwise_indexed R words leaves pairs = pairwise_or_first R (filter (has_pairs words) leaves) leaves (pairwise_filtered R (has_pairs words) leaves pairs)

pub ordered_indexed : (words leaves : List ℕ) → AreOrdered words leaves → AreOrdered words (indexed words leaves)
ordered_indexed words leaves ordered = pairwise_or_first (KeysBelow words) (filter (has_pairs words) leaves) leaves (pairwise_filtered (KeysBelow words) (has_pairs words) leaves ordered)

-- a leaf whose bitmap is 0 has no pair
pub no_pairs : (words : List ℕ) (leaf : ℕ) → has_pairs words leaf ≡ false → leaf_pairs words leaf ≡ []
unfolding leaf_pairs
no_pairs words leaf is =
    let zero_is : get_or words leaf 0 ≡ 0 = eqb-true (get_or words leaf 0) 0 (not-false (eqb (get_or words leaf 0) 0) is) in
    ap (map (pair_at words leaf)) (filter-none (λ slot. eqb (bit_at (get_or words leaf 0) slot) 1) (below 48)
    (each_from (λ slot. eqb (bit_at (get_or words leaf 0) slot) 1 ≡ false) 0 (below 48) (λ k lt. ap (λ (w : ℕ). eqb (bit_at w (get_or (below 48) k 0)) 1) zero_is ∙ ap (λ (b : ℕ). eqb b 1) (bit_at-zero (get_or (below 48) k 0)))))

-- ── integers ──

pub below_greater : (words : List ℕ) (wanted key other : ℕ) → is_below words (Int wanted) key ≡ true → key ≤ other → is_below words (Int wanted) other ≡ true
unfolding is_below key_below
below_greater words wanted key other is le = lt-ltb wanted other (let lt = ltb-true wanted key is in omega (arith, lt, le))

pub not_below : (words : List ℕ) (wanted key : ℕ) → is_below words (Int wanted) key ≡ false → key ≤ wanted
unfolding is_below key_below
not_below words wanted key is = ltb-false wanted key is

pub is_below_is : (words : List ℕ) (wanted key : ℕ) → is_below words (Int wanted) key ≡ true → wanted < key
unfolding is_below key_below
is_below_is words wanted key is = ltb-true wanted key is

pub less_no_key : (words : List ℕ) (wanted key : ℕ) → key < wanted → is_key words (Int wanted) key ≡ false
less_no_key words wanted key lt = ⊎_elim (λ hit. absurd (let same = int_key words wanted key hit in omega (arith, same, lt))) (λ miss. miss) (cases_Bool (is_key words (Int wanted) key))

pub more_no_key : (words : List ℕ) (wanted key : ℕ) → wanted < key → is_key words (Int wanted) key ≡ false
more_no_key words wanted key lt = ⊎_elim (λ hit. absurd (let same = int_key words wanted key hit in omega (arith, same, lt))) (λ miss. miss) (cases_Bool (is_key words (Int wanted) key))

pub not_less : (words : List ℕ) (wanted key : ℕ) → key ≤ wanted → is_below words (Int wanted) key ≡ false
unfolding is_below key_below
not_less words wanted key le = ⊎_elim (λ hit. absurd (let lt = ltb-true wanted key hit in omega (arith, lt, le))) (λ miss. miss) (cases_Bool (ltb wanted key))

pub less_below : (words : List ℕ) (wanted key : ℕ) → wanted < key → is_below words (Int wanted) key ≡ true
unfolding is_below key_below
less_below words wanted key lt = lt-ltb wanted key lt

not_true_from : (b : Bool) → b ≡ false → not b ≡ true
not_true_from b is = ap not is

-- ── the leaf that the index finds ──

any_false : {X : Type 0} (p : X → Bool) (xs : List X) → Each (λ x. p x ≡ false) xs → list_any p xs ≡ false
any_false p [] each = refl
any_false p (x ∷ xs) each = or_from (p x) (list_any p xs) each.0 (any_false p xs each.1)

last_is : (words : List ℕ) (probe : Probe) (found : ℕ) (ys : List ℕ) (k : ℕ) → k ≤ length ys
    → ((j : ℕ) → k ≤ j → j < length ys → has_key_up_to words probe (get_or ys j 0) ≡ false) → (0 < k → has_key_up_to words probe (get_or ys (k - 1) 0) ≡ true)
    → last_up_to words probe found ys ≡ get_or (found ∷ ys) k 0
last_is words probe found [] zero le later here = refl
last_is words probe found [] (suc k) le later here = absurd (omega (arith, le))
last_is words probe found (y ∷ ys) zero le later here =
    ap (λ (leaf : ℕ). last_up_to words probe leaf ys) (cond-false (has_key_up_to words probe y) y found (later 0 (omega arith) (omega arith)))
    ∙ last_is words probe found ys zero (omega arith) (λ j from lt. later (suc j) (omega arith) (omega (arith, lt))) (λ no. absurd (omega (arith, no)))
last_is words probe found (y ∷ ys) (suc zero) le later here =
    ap (λ (leaf : ℕ). last_up_to words probe leaf ys) (cond-true (has_key_up_to words probe y) y found (here (omega arith)))
    ∙ last_is words probe y ys zero (omega arith) (λ j from lt. later (suc j) (omega arith) (omega (arith, lt))) (λ no. absurd (omega (arith, no)))
last_is words probe found (y ∷ ys) (suc (suc k)) le later here =
    last_is words probe (cond (has_key_up_to words probe y) y found) ys (suc k) (omega (arith, le)) (λ j from lt. later (suc j) (omega (arith, from)) (omega (arith, lt)))
    (λ some. subst (λ (n : ℕ). has_key_up_to words probe (get_or ys n 0) ≡ true) (less_one k) (subst (λ (n : ℕ). has_key_up_to words probe (get_or (y ∷ ys) n 0) ≡ true) (less_two k) (here (omega arith))))
  where
    less_one : (n : ℕ) → n ≡ suc n - 1
    less_one n = omega arith

    less_two : (n : ℕ) → suc (suc n) - 1 ≡ suc n
    less_two n = omega arith

module _ (words : List ℕ) (wanted : ℕ) (E : List (ℕ × ℕ)) (ix : List ℕ) (size : length E ≡ length ix)
    (keys : (at : ℕ) → 0 < at → at < length E → IsLeastKey words (get_or ix at 0) (least_key E at)) (at : ℕ) (for : IsLeafFor words E (Int wanted) at) where
  pub later_leaf : (j : ℕ) → at < j → j < length ix → Each (λ pair. wanted < pair.key) (leaf_pairs words (get_or ix j 0))
  later_leaf j above within =
      let lt : j < length E = omega (arith, size, within) in
      let least = keys j (omega (arith, above)) lt in
      let key = is_below_is words wanted (least_key E j) (for.each j (omega (arith, above)) lt ∙ lt-ltb at j above) in
      each-map (λ pair. least_key E j ≤ pair.key) (λ pair. wanted < pair.key) (λ pair le. omega (arith, le, key)) (leaf_pairs words (get_or ix j 0)) least.least

  pub least_key_up_to : 0 < at → least_key E at ≤ wanted
  least_key_up_to some = not_below words wanted (least_key E at) (for.each at some for.within ∙ not-lt at)
    where
      not-lt : (n : ℕ) → ltb n n ≡ false
      not-lt n = ⊎_elim (λ hit. absurd (let lt = ltb-true n n hit in omega (arith, lt))) (λ miss. miss) (cases_Bool (ltb n n))

  found_up_to : 0 < at → has_key_up_to words (Int wanted) (get_or ix at 0) ≡ true
  found_up_to some =
      let least = keys at some for.within in
      let any = least.has in
      list_any-from_Any (λ pair. not (is_below words (Int wanted) pair.key)) (leaf_pairs words (get_or ix at 0))
      (any.0, any.1, any.2, any.3, not_true_from (is_below words (Int wanted) any.1.key) (not_less words wanted any.1.key (let up = least_key_up_to some in let key = any.4 in omega (arith, up, key))))

  pub leaf_found : get_or ix at 0 ≡ leaf_of words (Int wanted) ix
  leaf_found = by_list ix refl
    where
      by_list : (xs : List ℕ) → xs ≡ ix → get_or ix at 0 ≡ leaf_of words (Int wanted) ix
      by_list [] is = absurd (let none = ap length is in let within = for.within in omega (arith, none, size, within))
      by_list (x ∷ xs) is =
          let count = ap length is in let within = for.within in
          subst (λ (ys : List ℕ). get_or ys at 0 ≡ leaf_of words (Int wanted) ys) is
          (sym (last_is words (Int wanted) x xs at (omega (arith, count, size, within))
          (λ j from lt. any_false (λ pair. not (is_below words (Int wanted) pair.key)) (leaf_pairs words (get_or xs j 0))
          (each-map (λ pair. wanted < pair.key) (λ pair. not (is_below words (Int wanted) pair.key) ≡ false) (λ pair lt. ap not (less_below words wanted pair.key lt)) (leaf_pairs words (get_or xs j 0))
          (subst (λ (ys : List ℕ). Each (λ pair. wanted < pair.key) (leaf_pairs words (get_or ys (suc j) 0))) (sym is) (later_leaf (suc j) (omega (arith, from)) (omega (arith, lt, count))))))
          (λ some. up_at some (subst (λ (ys : List ℕ). has_key_up_to words (Int wanted) (get_or ys at 0) ≡ true) (sym is) (found_up_to some)))))
        where
          suc_of : (n : ℕ) → 0 < n → n ≡ suc (n - 1)
          suc_of n some = omega (arith, some)

          up_at : 0 < at → has_key_up_to words (Int wanted) (get_or (x ∷ xs) at 0) ≡ true → has_key_up_to words (Int wanted) (get_or xs (at - 1) 0) ≡ true
          up_at some up = subst (λ (n : ℕ). has_key_up_to words (Int wanted) (get_or (x ∷ xs) n 0) ≡ true) (suc_of at some) up
