-- Sets of pages by their bits.
use Rattle.std.proofs.Common.{◌≡◌, ◌≢◌, ◌⊎◌, inl, inr, ⊎_elim, ℕ, zero, suc, ◌+◌, ◌*◌, ◌/◌, ◌%◌, ◌^◌, ◌<◌, ◌≤◌, ◌↔◌, Bool, true, false, cond, eqb, List, [], ◌∷◌, length, set, get_or, replicate, refl, sym, ◌∙◌, ap, subst, arith, bit_and, bit_or, w64}
use Rattle.std.specs.Prelude.{filter, Contains}
use Rattle.std.specs.List.{range_with_len}
use Rattle.std.specs.Int.{bit_at, bit_not, w128}
use Rattle.std.proofs.lemmas.Bool.{cases_eq, cases_Bool, eqb-true, eq-eqb, ne_eqb, both_ways}
use Rattle.std.proofs.lemmas.List.{get_or-set_same, get_or-set_other, length-set}
use Rattle.std.proofs.lemmas.Nat.Bits.{bit_at_set_same, bit_at_set_other, bit_at_clear_same, bit_at_clear_other, bit_at-zero}
use Rattle.heap_big.specs.Pages.{GainsOne, IsRising, has_page, pages_of}
use Rattle.heap_big.proofs.Gains.{filter-gains}
use Rattle.heap_big.proofs.Rising.{filter-rising}

-- ── the numbers of a range that pass a test ──

filter-first : (p : ℕ → Bool) (n a x : ℕ) → a ≤ x → x < a + n → p x ≡ true → ((y : ℕ) → a ≤ y → y < x → p y ≡ false) → (rest : List ℕ) × (filter p (range_with_len a n) ≡ x ∷ rest)
filter-first p zero a x above below hit misses = absurd (omega (arith, above, below))
filter-first p (suc n) a x above below hit misses = go (p a) refl (cases_eq a x) (λ apart. filter-first p n (a + 1) x (omega (arith, above, apart)) (omega (arith, below)) hit (λ y low. misses y (omega (arith, low))))
  where
    go : (b : Bool) → p a ≡ b → (a ≡ x) ⊎ (a ≢ x) → (a ≢ x → (rest : List ℕ) × (filter p (range_with_len (a + 1) n) ≡ x ∷ rest))
        → (rest : List ℕ) × (cond b (a ∷ filter p (range_with_len (a + 1) n)) (filter p (range_with_len (a + 1) n)) ≡ x ∷ rest)
    go true is (inl here) later = (filter p (range_with_len (a + 1) n), ap (λ (k : ℕ). k ∷ filter p (range_with_len (a + 1) n)) here)
    go false is (inl here) later = absurd (both_ways false refl (sym is ∙ ap p here ∙ hit))
    go true is (inr apart) later = absurd (both_ways false refl (sym (misses a (omega arith) (omega (arith, above, apart))) ∙ is))
    go false is (inr apart) later = later apart

filter-none : (p : ℕ → Bool) (n a : ℕ) → ((y : ℕ) → p y ≡ false) → filter p (range_with_len a n) ≡ []
filter-none p zero a misses = refl
filter-none p (suc n) a misses = ap (λ (b : Bool). cond b (a ∷ filter p (range_with_len (a + 1) n)) (filter p (range_with_len (a + 1) n))) (misses a) ∙ filter-none p n (a + 1) misses

filter-within : (p : ℕ → Bool) (n a x : ℕ) → Contains (filter p (range_with_len a n)) x → (x < a + n) × (p x ≡ true)
filter-within p zero a x has = absurd (omega (arith, has.1))
filter-within p (suc n) a x has = go (p a) refl has (λ later. let rest = filter-within p n (a + 1) x later in (omega (arith, rest.0), rest.1))
  where
    go : (b : Bool) → p a ≡ b → Contains (cond b (a ∷ filter p (range_with_len (a + 1) n)) (filter p (range_with_len (a + 1) n))) x
        → (Contains (filter p (range_with_len (a + 1) n)) x → (x < a + suc n) × (p x ≡ true)) → (x < a + suc n) × (p x ≡ true)
    go true is (zero, lt, here) later = (let same : a ≡ x = here in omega (arith, same), ap p (sym here) ∙ is)
    go true is (suc k, lt, there) later = later (k, omega (arith, lt), there)
    go false is there later = later there

filter-has : (p : ℕ → Bool) (n a x : ℕ) → a ≤ x → x < a + n → p x ≡ true → Contains (filter p (range_with_len a n)) x
filter-has p zero a x above below hit = absurd (omega (arith, above, below))
filter-has p (suc n) a x above below hit = go (p a) refl (cases_eq a x) (λ apart. filter-has p n (a + 1) x (omega (arith, above, apart)) (omega (arith, below)) hit)
  where
    go : (b : Bool) → p a ≡ b → (a ≡ x) ⊎ (a ≢ x) → (a ≢ x → Contains (filter p (range_with_len (a + 1) n)) x)
        → Contains (cond b (a ∷ filter p (range_with_len (a + 1) n)) (filter p (range_with_len (a + 1) n))) x
    go true is (inl here) later = (0, omega arith, here)
    go false is (inl here) later = absurd (both_ways false refl (sym is ∙ ap p here ∙ hit))
    go true is (inr apart) later = let rest = later apart in (suc rest.0, omega (arith, rest.1), rest.2)
    go false is (inr apart) later = later apart

-- ── a set's pages ──

pub contains-within : (words : List ℕ) (page : ℕ) → Contains (pages_of words) page → (page < 64 * length words) × (has_page words page ≡ true)
unfolding pages_of
contains-within words page has = let found = filter-within (has_page words) (64 * length words) 0 page has in (omega (arith, found.0), found.1)

pub within-contains : (words : List ℕ) (page : ℕ) → page < 64 * length words → has_page words page ≡ true → Contains (pages_of words) page
unfolding pages_of
within-contains words page within hit = filter-has (has_page words) (64 * length words) 0 page (omega arith) (omega (arith, within)) hit

pub pages_of-rising : (words : List ℕ) → length words ≡ 128 → IsRising 0 (pages_of words) 8192
unfolding pages_of
pages_of-rising words size =
    let whole : 0 + 64 * length words ≡ 8192 = omega (arith, size) in
    subst (λ (n : ℕ). IsRising 0 (filter (has_page words) (range_with_len 0 (64 * length words))) n) whole (filter-rising (has_page words) (64 * length words) 0)

pub pages_of-gains : (old new : List ℕ) (page : ℕ) → length new ≡ length old → page < 64 * length old → has_page old page ≡ false → has_page new page ≡ true → ((other : ℕ) → other ≢ page → has_page old other ≡ has_page new other)
    → GainsOne (pages_of old) page (pages_of new)
unfolding pages_of
pages_of-gains old new page size within misses hits others =
    subst (λ (n : ℕ). GainsOne (filter (has_page old) (range_with_len 0 (64 * length old))) page (filter (has_page new) (range_with_len 0 (64 * n)))) (sym size)
    (filter-gains (has_page old) (has_page new) page misses hits (64 * length old) 0 (omega arith) (omega (arith, within)) others)

-- words without a bit have no page
pub pages_of-none : (words : List ℕ) → ((word : ℕ) → get_or words word 0 ≡ 0) → pages_of words ≡ []
unfolding pages_of
pages_of-none words none = filter-none (has_page words) (64 * length words) 0 (λ page. ne_eqb (bit_at (get_or words (page / 64) 0) (page % 64)) 1
    (λ one. let zero_bit = ap (λ (w : ℕ). bit_at w (page % 64)) (none (page / 64)) ∙ bit_at-zero (page % 64) in omega (arith, zero_bit, one)))

-- the lowest bit of the lowest word that isn't 0 is the lowest page
pub pages_of-lowest : (words : List ℕ) (word bit : ℕ) → word < length words → bit < 64 → bit_at (get_or words word 0) bit ≡ 1 → ((lower : ℕ) → lower < bit → bit_at (get_or words word 0) lower ≡ 0)
    → ((before : ℕ) → before < word → get_or words before 0 ≡ 0) → (rest : List ℕ) × (pages_of words ≡ (64 * word + bit) ∷ rest)
unfolding pages_of
pages_of-lowest words word bit within small one lower before =
    filter-first (has_page words) (64 * length words) 0 (64 * word + bit) (omega arith) (omega (arith, within, small)) here (λ page low under. ne_eqb (bit_at (get_or words (page / 64) 0) (page % 64)) 1 (λ hit. absurd (go page under hit (cases_eq (page / 64) word))))
  where
    at_word : (64 * word + bit) / 64 ≡ word
    at_word = omega (arith, small)

    at_bit : (64 * word + bit) % 64 ≡ bit
    at_bit = omega (arith, small)

    here : has_page words (64 * word + bit) ≡ true
    here = eq-eqb (bit_at (get_or words ((64 * word + bit) / 64) 0) ((64 * word + bit) % 64)) 1 (ap (λ (k : ℕ). bit_at (get_or words k 0) ((64 * word + bit) % 64)) at_word ∙ ap (bit_at (get_or words word 0)) at_bit ∙ one)

    go : (page : ℕ) → page < 64 * word + bit → bit_at (get_or words (page / 64) 0) (page % 64) ≡ 1 → (page / 64 ≡ word) ⊎ (page / 64 ≢ word) → ⊥
    go page under hit (inl same) =
        let none = lower (page % 64) (omega (arith, under, same)) in
        let there = ap (λ (k : ℕ). bit_at (get_or words k 0) (page % 64)) same in
        omega (arith, none, there, hit)
    go page under hit (inr apart) =
        let none = ap (λ (w : ℕ). bit_at w (page % 64)) (before (page / 64) (omega (arith, under, apart))) ∙ bit_at-zero (page % 64) in
        omega (arith, none, hit)

-- ── one bit of a word ──

-- a word that differs in the bit of one page alone
pub record IsTurned (word new bit value : ℕ) : Type 0 where
  pub here : bit_at new bit ≡ value
  pub others : (other : ℕ) → other < 64 → other ≢ bit → bit_at new other ≡ bit_at word other

pub set_bit : (word bit : ℕ) → bit < 64 → IsTurned word (bit_or word (1 * 2 ^ bit % 2 ^ 64)) bit 1
set_bit word bit small = record { here = bit_at_set_same w64 word bit small; others = λ other within apart. bit_at_set_other w64 word bit small other apart }

pub clear_bit : (word bit : ℕ) → bit < 64 → IsTurned word (bit_and word (bit_not w64 (1 * 2 ^ bit % 2 ^ 64))) bit 0
clear_bit word bit small = record { here = bit_at_clear_same w64 word bit small; others = λ other within apart. bit_at_clear_other w64 word bit small other within apart }

module _ (words : List ℕ) (page new value : ℕ) (within : page < 64 * length words) (turned : IsTurned (get_or words (page / 64) 0) new (page % 64) value) where
  turned_here : bit_at (get_or (set words (page / 64) new) (page / 64) 0) (page % 64) ≡ value
  turned_here = ap (λ (w : ℕ). bit_at w (page % 64)) (get_or-set_same words (page / 64) new 0 (omega (arith, within))) ∙ turned.here

  pub turned_others : (other : ℕ) → other ≢ page → has_page words other ≡ has_page (set words (page / 64) new) other
  turned_others other apart = ⊎_elim
      (λ (same : other / 64 ≡ page / 64). sym (ap (λ (b : ℕ). eqb b 1)
      (ap (λ (k : ℕ). bit_at (get_or (set words (page / 64) new) k 0) (other % 64)) same
      ∙ ap (λ (w : ℕ). bit_at w (other % 64)) (get_or-set_same words (page / 64) new 0 (omega (arith, within)))
      ∙ turned.others (other % 64) (omega arith) (λ e. apart (omega (arith, same, e)))
      ∙ ap (λ (k : ℕ). bit_at (get_or words k 0) (other % 64)) (sym same))))
      (λ (away : other / 64 ≢ page / 64). sym (ap (λ (w : ℕ). eqb (bit_at w (other % 64)) 1) (get_or-set_other words (page / 64) (other / 64) new 0 away)))
      (cases_eq (other / 64) (page / 64))

  pub turned_on : value ≡ 1 → has_page (set words (page / 64) new) page ≡ true
  turned_on one = eq-eqb (bit_at (get_or (set words (page / 64) new) (page / 64) 0) (page % 64)) 1 (turned_here ∙ one)

  pub turned_off : value ≡ 0 → has_page (set words (page / 64) new) page ≡ false
  turned_off none = ne_eqb (bit_at (get_or (set words (page / 64) new) (page / 64) 0) (page % 64)) 1 (λ one. let here = turned_here ∙ none in omega (arith, here, one))

-- ── the bits of the words ──

abbrev pub AreUsed : List ℕ → ℕ → Type 0
AreUsed words used = (word : ℕ) → word < 128 → (bit_at used word ≡ 0) ↔ (get_or words word 0 ≡ 0)

-- a word with a bit isn't 0
some_bit : (word bit : ℕ) → bit_at word bit ≡ 1 → word ≢ 0
some_bit word bit one none = let zero_bit = ap (λ (w : ℕ). bit_at w bit) none ∙ bit_at-zero bit in omega (arith, zero_bit, one)

module _ (words : List ℕ) (used at new : ℕ) (within : at < length words) (small : at < 128) (are : AreUsed words used) where
  used_other : (used' : ℕ) → ((word : ℕ) → word < 128 → word ≢ at → bit_at used' word ≡ bit_at used word) → (word : ℕ) → word < 128 → word ≢ at → (bit_at used' word ≡ 0) ↔ (get_or (set words at new) word 0 ≡ 0)
  used_other used' others word lt apart =
      let bits = others word lt apart in
      let same = get_or-set_other words at word new 0 apart in
      (λ none. same ∙ (are word lt).0 (sym bits ∙ none), λ none. bits ∙ (are word lt).1 (sym same ∙ none))

  used_by : (used' : ℕ) → ((word : ℕ) → word < 128 → word ≢ at → bit_at used' word ≡ bit_at used word) → (bit_at used' at ≡ 0) ↔ (new ≡ 0) → AreUsed (set words at new) used'
  used_by used' others here word lt = ⊎_elim
      (λ (same : word ≡ at). subst (λ (k : ℕ). (bit_at used' k ≡ 0) ↔ (get_or (set words at new) k 0 ≡ 0)) (sym same)
      (let there = get_or-set_same words at new 0 within in (λ none. there ∙ here.0 none, λ none. here.1 (sym there ∙ none))))
      (λ apart. used_other used' others word lt apart)
      (cases_eq word at)

  pub used_set : new ≢ 0 → AreUsed (set words at new) (bit_or used (1 * 2 ^ at % 2 ^ 128))
  used_set some =
      let one = bit_at_set_same w128 used at small in
      used_by (bit_or used (1 * 2 ^ at % 2 ^ 128)) (λ word lt apart. bit_at_set_other w128 used at small word apart) (λ none. absurd (omega (arith, one, none)), λ none. absurd (some none))

  pub used_cleared : new ≡ 0 → AreUsed (set words at new) (bit_and used (bit_not w128 (1 * 2 ^ at % 2 ^ 128)))
  used_cleared none =
      used_by (bit_and used (bit_not w128 (1 * 2 ^ at % 2 ^ 128))) (λ word lt apart. bit_at_clear_other w128 used at small word lt apart) (λ _. none, λ _. bit_at_clear_same w128 used at small)

  pub used_kept : new ≢ 0 → get_or words at 0 ≢ 0 → AreUsed (set words at new) used
  used_kept some was = used_by used (λ word lt apart. refl) (λ none. absurd (was ((are at small).0 none)), λ none. absurd (some none))

-- ── what the calls need ──

-- the word with the page's bit set, and with it cleared
abbrev pub with_page : List ℕ → ℕ → ℕ → ℕ
with_page words page at = bit_or (get_or words at 0) (1 * 2 ^ (page % 64) % 2 ^ 64)

abbrev pub without_page : List ℕ → ℕ → ℕ → ℕ
without_page words page at = bit_and (get_or words at 0) (bit_not w64 (1 * 2 ^ (page % 64) % 2 ^ 64))

module _ (words : List ℕ) (page at : ℕ) (size : length words ≡ 128) (is : at ≡ page / 64) where
  set_here : IsTurned (get_or words (page / 64) 0) (with_page words page at) (page % 64) 1
  set_here = subst (λ (k : ℕ). IsTurned (get_or words k 0) (with_page words page at) (page % 64) 1) is (set_bit (get_or words at 0) (page % 64) (omega arith))

  clear_here : IsTurned (get_or words (page / 64) 0) (without_page words page at) (page % 64) 0
  clear_here = subst (λ (k : ℕ). IsTurned (get_or words k 0) (without_page words page at) (page % 64) 0) is (clear_bit (get_or words at 0) (page % 64) (omega arith))

  pub with_page-some : (with_page words page at) ≢ 0
  with_page-some = some_bit (with_page words page at) (page % 64) set_here.here

  pub inserted : page < 8192 → (Contains (pages_of words) page → ⊥) → GainsOne (pages_of words) page (pages_of (set words at (with_page words page at)))
  inserted within new =
      let inside : page < 64 * length words = omega (arith, within, size) in
      let off : has_page words page ≡ false = ⊎_elim (λ hit. absurd (new (within-contains words page inside hit))) (λ miss. miss) (cases_Bool (has_page words page)) in
      subst (λ (k : ℕ). GainsOne (pages_of words) page (pages_of (set words k (with_page words page at)))) (sym is)
      (pages_of-gains words (set words (page / 64) (with_page words page at)) page (length-set words (page / 64) (with_page words page at)) inside off
      (turned_on words page (with_page words page at) 1 inside set_here refl) (turned_others words page (with_page words page at) 1 inside set_here))

  pub removed : Contains (pages_of words) page → GainsOne (pages_of (set words at (without_page words page at))) page (pages_of words)
  removed has =
      let there = contains-within words page has in
      subst (λ (k : ℕ). GainsOne (pages_of (set words k (without_page words page at))) page (pages_of words)) (sym is)
      (pages_of-gains (set words (page / 64) (without_page words page at)) words page (sym (length-set words (page / 64) (without_page words page at))) (omega (arith, there.0, length-set words (page / 64) (without_page words page at)))
      (turned_off words page (without_page words page at) 0 there.0 clear_here refl) there.1 (λ other apart. sym (turned_others words page (without_page words page at) 0 there.0 clear_here other apart)))

  pub gone : page < 8192 → Contains (pages_of (set words at (without_page words page at))) page → ⊥
  gone within has =
      let inside : page < 64 * length words = omega (arith, within, size) in
      let off = turned_off words page (without_page words page at) 0 inside clear_here refl in
      let on = (contains-within (set words at (without_page words page at)) page has).1 in
      both_ways false refl (sym off ∙ subst (λ (k : ℕ). has_page (set words k (without_page words page at)) page ≡ true) is on)

  pub was_some : Contains (pages_of words) page → get_or words at 0 ≢ 0
  was_some has =
      let there = contains-within words page has in
      subst (λ (k : ℕ). get_or words k 0 ≢ 0) (sym is) (some_bit (get_or words (page / 64) 0) (page % 64) (eqb-true (bit_at (get_or words (page / 64) 0) (page % 64)) 1 there.1))

pub zeros : (n word : ℕ) → let none : ℕ = 0 in get_or (replicate n none) word none ≡ none
zeros zero word = refl
zeros (suc n) zero = refl
zeros (suc n) (suc word) = zeros n word
