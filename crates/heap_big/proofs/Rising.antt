-- Numbers in order.
use Rattle.std.proofs.Common.{◌≡◌, ⊎_elim, ℕ, zero, suc, ◌+◌, ◌≤◌, Bool, List, [], ◌∷◌, ◌++◌, get_or, drop, sym, ◌∙◌, ap, subst, arith}
use Rattle.std.specs.Prelude.{filter, Contains}
use Rattle.std.specs.List.{range_with_len}
use Rattle.std.proofs.lemmas.Bool.{cases_Bool}
use Rattle.heap_big.specs.Pages.{IsRising, GainsOne}

-- ── bounds ──

pub rising-lower : (low lower : ℕ) (xs : List ℕ) (high : ℕ) → lower ≤ low → IsRising low xs high → IsRising lower xs high
rising-lower low lower [] high le is = omega arith
rising-lower low lower (x ∷ xs) high le is = (omega (arith, is.0), is.1)

pub rising-bound : (low : ℕ) (xs : List ℕ) (high : ℕ) → IsRising low xs high → low ≤ high
rising-bound low [] high is = is
rising-bound low (x ∷ xs) high is = omega (arith, is.0, rising-bound (x + 1) xs high is.1)

pub rising-higher : (low : ℕ) (xs : List ℕ) (high higher : ℕ) → high ≤ higher → IsRising low xs high → IsRising low xs higher
rising-higher low [] high higher le is = omega arith
rising-higher low (x ∷ xs) high higher le is = (is.0, rising-higher (x + 1) xs high higher le is.1)

pub rising-least : (low : ℕ) (xs : List ℕ) (high x : ℕ) → IsRising low xs high → Contains xs x → low ≤ x
rising-least low [] high x is has = absurd (omega (arith, has.1))
rising-least low (y ∷ xs) high x is (zero, lt, here) = omega (arith, is.0, here)
rising-least low (y ∷ xs) high x is (suc k, lt, there) = let rest = rising-least (y + 1) xs high x is.1 (k, omega (arith, lt), there) in omega (arith, is.0, rest)

pub rising-append : (low : ℕ) (xs : List ℕ) (mid : ℕ) (ys : List ℕ) (high : ℕ) → IsRising low xs mid → IsRising mid ys high → IsRising low (xs ++ ys) high
rising-append low [] mid ys high is more = rising-lower mid low ys high is more
rising-append low (x ∷ xs) mid ys high is more = (is.0, rising-append (x + 1) xs mid ys high is.1 more)

-- ── a rising list with one number more is settled ──

rising-above : (low : ℕ) (front : List ℕ) (x : ℕ) (back : List ℕ) (high : ℕ) → IsRising low (front ++ x ∷ back) high → low ≤ x
rising-above low [] x back high is = is.0
rising-above low (y ∷ front) x back high is = omega (arith, is.0, rising-above (y + 1) front x back high is.1)

heads : (x y : ℕ) (xs ys : List ℕ) → ◌≡◌ {A = List ℕ} (x ∷ xs) (y ∷ ys) → x ≡ y
heads x y xs ys e = ap (λ (zs : List ℕ). get_or zs 0 0) e

tails : (x y : ℕ) (xs ys : List ℕ) → ◌≡◌ {A = List ℕ} (x ∷ xs) (y ∷ ys) → xs ≡ ys
tails x y xs ys e = ap (λ (zs : List ℕ). drop 1 zs) e

gain_place : (low x high : ℕ) (front back front' back' : List ℕ) → front ++ back ≡ front' ++ back' → IsRising low (front ++ x ∷ back) high → IsRising low (front' ++ x ∷ back') high
    → front ++ x ∷ back ≡ front' ++ x ∷ back'
gain_place low x high [] back [] back' same is is' = ap (λ (zs : List ℕ). x ∷ zs) same
gain_place low x high [] back (y ∷ front') back' same is is' = absurd (
    let above : y + 1 ≤ x = rising-above (y + 1) front' x back' high is'.1 in
    let next : IsRising (x + 1) (y ∷ (front' ++ back')) high = subst (λ (zs : List ℕ). IsRising (x + 1) zs high) same is.1 in
    omega (arith, above, next.0))
gain_place low x high (y ∷ front) back [] back' same is is' = absurd (
    let above : y + 1 ≤ x = rising-above (y + 1) front x back high is.1 in
    let next : IsRising (x + 1) (y ∷ (front ++ back)) high = subst (λ (zs : List ℕ). IsRising (x + 1) zs high) (sym same) is'.1 in
    omega (arith, above, next.0))
gain_place low x high (y ∷ front) back (z ∷ front') back' same is is' =
    let head : y ≡ z = heads y z _ _ same in
    let rest = gain_place (y + 1) x high front back front' back' (tails y z _ _ same) is.1 (subst (λ (n : ℕ). IsRising (n + 1) (front' ++ x ∷ back') high) (sym head) is'.1) in
    ap (λ (zs : List ℕ). y ∷ zs) rest ∙ ap (λ (n : ℕ). n ∷ (front' ++ x ∷ back')) head

pub gains-settled : (x low high : ℕ) (old new other : List ℕ) → GainsOne old x new → GainsOne old x other → IsRising low new high → IsRising low other high → new ≡ other
gains-settled x low high old new other g h is is' =
    g.new_is ∙ gain_place low x high g.front g.back h.front h.back (sym g.old_is ∙ h.old_is) (subst (λ (zs : List ℕ). IsRising low zs high) g.new_is is) (subst (λ (zs : List ℕ). IsRising low zs high) h.new_is is') ∙ sym h.new_is

loss_place : (low x high : ℕ) (front back front' back' : List ℕ) → front ++ x ∷ back ≡ front' ++ x ∷ back' → IsRising low (front ++ x ∷ back) high → front ++ back ≡ front' ++ back'
loss_place low x high [] back [] back' same is = tails x x _ _ same
loss_place low x high [] back (y ∷ front') back' same is = absurd (
    let head : x ≡ y = heads x y _ _ same in
    let next : IsRising (x + 1) (front' ++ x ∷ back') high = subst (λ (zs : List ℕ). IsRising (x + 1) zs high) (tails x y _ _ same) is.1 in
    omega (arith, rising-above (x + 1) front' x back' high next))
loss_place low x high (y ∷ front) back [] back' same is = absurd (
    let head : y ≡ x = heads y x _ _ same in
    let above : y + 1 ≤ x = rising-above (y + 1) front x back high is.1 in
    omega (arith, above, head))
loss_place low x high (y ∷ front) back (z ∷ front') back' same is =
    let head : y ≡ z = heads y z _ _ same in
    ap (λ (zs : List ℕ). y ∷ zs) (loss_place (y + 1) x high front back front' back' (tails y z _ _ same) is.1) ∙ ap (λ (n : ℕ). n ∷ (front' ++ back')) head

pub losses-settled : (x low high : ℕ) (old new other : List ℕ) → GainsOne new x old → GainsOne other x old → IsRising low old high → new ≡ other
losses-settled x low high old new other g h is =
    g.old_is ∙ loss_place low x high g.front g.back h.front h.back (sym g.new_is ∙ h.new_is) (subst (λ (zs : List ℕ). IsRising low zs high) g.new_is is) ∙ sym h.old_is

-- ── the numbers of a range that pass a test rise ──

pub filter-rising : (p : ℕ → Bool) (n a : ℕ) → IsRising a (filter p (range_with_len a n)) (a + n)
filter-rising p zero a = omega arith
filter-rising p (suc n) a = ⊎_elim
    (λ hit. rw hit (omega arith, subst (λ (h : ℕ). IsRising (a + 1) (filter p (range_with_len (a + 1) n)) h) (further a n) (filter-rising p n (a + 1))))
    (λ miss. rw miss (rising-lower (a + 1) a (filter p (range_with_len (a + 1) n)) (a + suc n) (omega arith) (subst (λ (h : ℕ). IsRising (a + 1) (filter p (range_with_len (a + 1) n)) h) (further a n) (filter-rising p n (a + 1)))))
    (cases_Bool (p a))
  where
    further : (a n : ℕ) → a + 1 + n ≡ a + suc n
    further a n = omega arith
