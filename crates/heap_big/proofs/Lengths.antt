-- The first pages of the runs of each length.
use Rattle.std.proofs.Common.{◌≡◌, ◌≢◌, ◌⊎◌, inl, inr, ⊎_elim, ℕ, zero, suc, ◌+◌, ◌-◌, ◌/◌, ◌%◌, ◌^◌, ◌<◌, ◌≤◌, ◌↔◌, List, [], ◌∷◌, ◌++◌, length, set, get_or, refl, sym, ◌∙◌, ap, ap₂, subst, arith, w64}
use Rattle.std.specs.Prelude.{Contains}
use Rattle.std.specs.Int.{bit_at, trailing_zeros}
use Rattle.std.proofs.lemmas.Bool.{cases_eq, cases_lt}
use Rattle.std.proofs.lemmas.List.{get_or-set_same, get_or-set_other, get_or_past}
use Rattle.std.proofs.lemmas.List.Elements.{Contains-append_cases, Contains-append_left, Contains-append_right}
use Rattle.std.proofs.lemmas.Nat.{pow-add}
use Rattle.std.proofs.Math.Nat.{div-le_self, div-div-eq-div-mul}
use Rattle.std.proofs.lemmas.Nat.Bits.{bit_at-trailing_zeros, bit_at-zero, bit_at_above}
use Rattle.heap_big.specs.declared.run.Run.{Run}
use Rattle.heap_big.specs.Pages.{GainsOne}
use Rattle.heap_big.specs.Starts.{starts_of, HasRun, IsShortest}

-- what a list with one element more contains
pub gains-contains : {A : Type 0} (old : List A) (one : A) (new : List A) (x : A) → GainsOne old one new → Contains new x → Contains old x ⊎ (x ≡ one)
gains-contains {A} old one new x gain has = go (Contains-append_cases gain.front (one ∷ gain.back) x (subst (λ (l : List A). Contains l x) gain.new_is has))
  where
    go : Contains gain.front x ⊎ Contains (one ∷ gain.back) x → Contains old x ⊎ (x ≡ one)
    go (inl front) = inl (subst (λ (l : List A). Contains l x) (sym gain.old_is) (Contains-append_left gain.front gain.back x front))
    go (inr (zero, lt, here)) = inr (sym here)
    go (inr (suc k, lt, there)) = inl (subst (λ (l : List A). Contains l x) (sym gain.old_is) (Contains-append_right gain.front gain.back x (k, omega (arith, lt), there)))

pub contains-gains : {A : Type 0} (old : List A) (one : A) (new : List A) (x : A) → GainsOne old one new → Contains old x ⊎ (x ≡ one) → Contains new x
contains-gains {A} old one new x gain (inl has) = subst (λ (l : List A). Contains l x) (sym gain.new_is) (go (Contains-append_cases gain.front gain.back x (subst (λ (l : List A). Contains l x) gain.old_is has)))
  where
    go : Contains gain.front x ⊎ Contains gain.back x → Contains (gain.front ++ one ∷ gain.back) x
    go (inl front) = Contains-append_left gain.front (one ∷ gain.back) x front
    go (inr back) = Contains-append_right gain.front (one ∷ gain.back) x (suc back.0, omega (arith, back.1), back.2)
contains-gains {A} old one new x gain (inr is) =
    subst (λ (l : List A). Contains l x) (sym gain.new_is) (Contains-append_right gain.front (one ∷ gain.back) x (0, omega arith, sym is))

pub same_run : (one other : Run) → one.first ≡ other.first → one.pages ≡ other.pages → one ≡ other
same_run one other first pages = ap₂ (λ (f p : ℕ). let r : Run = record { first = f; pages = p } in r) first pages

-- a run of the starts has at most 64 pages
pub has_run-short : (starts : List (List ℕ)) (run : Run) → length starts ≡ 64 → HasRun starts run → run.pages - 1 < 64
has_run-short starts run size has = ⊎_elim
    (λ lt. lt)
    (λ past. let none = subst (λ (l : List ℕ). Contains l run.first) (get_or_past starts (run.pages - 1) [] (omega (arith, size, past))) has.begins in absurd (omega (arith, none.1)))
    (cases_lt (run.pages - 1) 64)

module _ (starts : List (List ℕ)) (run : Run) (list : List ℕ) (size : length starts ≡ 64) (some : 0 < run.pages) (short : run.pages ≤ 64) where
  here : (other : Run) → other.pages ≡ run.pages → starts_of (set starts (run.pages - 1) list) other.pages ≡ list
  here other same = ap (λ (n : ℕ). get_or (set starts (run.pages - 1) list) (n - 1) []) same ∙ get_or-set_same starts (run.pages - 1) list [] (omega (arith, size, some, short))

  elsewhere : (other : Run) → 0 < other.pages → other.pages ≢ run.pages → starts_of (set starts (run.pages - 1) list) other.pages ≡ starts_of starts other.pages
  elsewhere other more apart = get_or-set_other starts (run.pages - 1) (other.pages - 1) list [] (λ e. apart (omega (arith, e, more, some)))

  pub added : GainsOne (starts_of starts run.pages) run.first list → (other : Run) → HasRun (set starts (run.pages - 1) list) other ↔ (HasRun starts other ⊎ (other ≡ run))
  added gain other = (
    λ has. ⊎_elim
        (λ (same : other.pages ≡ run.pages). ⊎_elim
        (λ old. inl (record { some = has.some; begins = subst (λ (n : ℕ). Contains (starts_of starts n) other.first) (sym same) old }))
        (λ is. inr (same_run other run is same))
        (gains-contains (starts_of starts run.pages) run.first list other.first gain (subst (λ (l : List ℕ). Contains l other.first) (here other same) has.begins)))
        (λ apart. inl (record { some = has.some; begins = subst (λ (l : List ℕ). Contains l other.first) (elsewhere other has.some apart) has.begins }))
        (cases_eq other.pages run.pages),
    λ h. ⊎_elim
        (λ (old : HasRun starts other). ⊎_elim
        (λ (same : other.pages ≡ run.pages). let r : HasRun (set starts (run.pages - 1) list) other = record {
          some = old.some;
          begins = subst (λ (l : List ℕ). Contains l other.first) (sym (here other same))
              (contains-gains (starts_of starts run.pages) run.first list other.first gain (inl (subst (λ (n : ℕ). Contains (starts_of starts n) other.first) same old.begins)));
        } in r)
        (λ apart. let r : HasRun (set starts (run.pages - 1) list) other = record { some = old.some; begins = subst (λ (l : List ℕ). Contains l other.first) (sym (elsewhere other old.some apart)) old.begins } in r)
        (cases_eq other.pages run.pages))
        (λ (is : other ≡ run). let r : HasRun (set starts (run.pages - 1) list) other = record {
          some = subst (λ (x : Run). 0 < x.pages) (sym is) some;
          begins = subst (λ (l : List ℕ). Contains l other.first) (sym (here other (ap (λ (x : Run). x.pages) is)))
              (contains-gains (starts_of starts run.pages) run.first list other.first gain (inr (ap (λ (x : Run). x.first) is)));
        } in r)
        h,
  )

  pub taken_out : GainsOne list run.first (starts_of starts run.pages) → (Contains list run.first → ⊥) → (other : Run) → HasRun (set starts (run.pages - 1) list) other ↔ (HasRun starts other × (other ≢ run))
  taken_out gain gone other = (
    λ has. ⊎_elim
        (λ (same : other.pages ≡ run.pages).
        let there : Contains list other.first = subst (λ (l : List ℕ). Contains l other.first) (here other same) has.begins in (
          record {
            some = has.some;
            begins = subst (λ (n : ℕ). Contains (starts_of starts n) other.first) (sym same) (contains-gains list run.first (starts_of starts run.pages) other.first gain (inl there));
          },
          λ is. gone (subst (λ (n : ℕ). Contains list n) (ap (λ (x : Run). x.first) is) there),
        ))
        (λ apart. (record { some = has.some; begins = subst (λ (l : List ℕ). Contains l other.first) (elsewhere other has.some apart) has.begins }, λ is. apart (ap (λ (x : Run). x.pages) is)))
        (cases_eq other.pages run.pages),
    λ h. ⊎_elim
        (λ (same : other.pages ≡ run.pages). ⊎_elim
        (λ old. let r : HasRun (set starts (run.pages - 1) list) other = record { some = h.0.some; begins = subst (λ (l : List ℕ). Contains l other.first) (sym (here other same)) old } in r)
        (λ is. absurd (h.1 (same_run other run is same)))
        (gains-contains list run.first (starts_of starts run.pages) other.first gain (subst (λ (n : ℕ). Contains (starts_of starts n) other.first) same h.0.begins)))
        (λ apart. let r : HasRun (set starts (run.pages - 1) list) other = record { some = h.0.some; begins = subst (λ (l : List ℕ). Contains l other.first) (sym (elsewhere other h.0.some apart)) h.0.begins } in r)
        (cases_eq other.pages run.pages),
  )

-- ── the bits of the lengths ──

abbrev pub AreMarked : List (List ℕ) → ℕ → Type 0
AreMarked starts used = (at : ℕ) → at < 64 → (bit_at used at ≡ 0) ↔ (get_or starts at [] ≡ [])

module _ (starts : List (List ℕ)) (used at : ℕ) (list : List ℕ) (size : length starts ≡ 64) (small : at < 64) (are : AreMarked starts used) where
  pub marked_by : (used' : ℕ) → ((k : ℕ) → k < 64 → k ≢ at → bit_at used' k ≡ bit_at used k) → (bit_at used' at ≡ 0) ↔ (list ≡ []) → AreMarked (set starts at list) used'
  marked_by used' others here k lt = ⊎_elim
      (λ (same : k ≡ at). subst (λ (n : ℕ). (bit_at used' n ≡ 0) ↔ (get_or (set starts at list) n [] ≡ [])) (sym same)
      (let there = get_or-set_same starts at list [] (omega (arith, size, small)) in (λ none. there ∙ here.0 none, λ none. here.1 (sym there ∙ none))))
      (λ apart. let bits = others k lt apart in let same = get_or-set_other starts at k list [] apart in
      (λ none. same ∙ (are k lt).0 (sym bits ∙ none), λ none. bits ∙ (are k lt).1 (sym same ∙ none)))
      (cases_eq k at)

-- a list with one more isn't empty
pub gains-some : (old : List ℕ) (one : ℕ) (new : List ℕ) → GainsOne old one new → new ≢ []
gains-some old one new gain none = let has = contains-gains old one new one gain (inr refl) in let less = ap length none in omega (arith, has.1, less)

-- the bit of a run's length is 1
pub marked : (starts : List (List ℕ)) (used : ℕ) (run : Run) → length starts ≡ 64 → AreMarked starts used → HasRun starts run → bit_at used (run.pages - 1) ≢ 0
marked starts used run size are has none =
    let list = (are (run.pages - 1) (has_run-short starts run size has)).0 none in
    let empty = subst (λ (l : List ℕ). Contains l run.first) list has.begins in
    omega (arith, empty.1)

-- a bit of a number without its low bits
pub bit_at-shifted : (n a i : ℕ) → bit_at (n / 2 ^ a) i ≡ bit_at n (a + i)
bit_at-shifted n a i = ap (λ (k : ℕ). k % 2) (div-div-eq-div-mul n (2 ^ a) (2 ^ i) ∙ ap (λ (k : ℕ). n / k) (sym (pow-add 2 a i)))

-- a list that isn't empty begins with one of its elements
pub first-contains : (list rest : List ℕ) (one : ℕ) → list ≡ one ∷ rest → Contains list one
first-contains list rest one is = subst (λ (l : List ℕ). Contains l one) (sym is) (0, omega arith, refl)

pub some-contains : (list : List ℕ) → list ≢ [] → (one : ℕ) × Contains list one
some-contains [] some = absurd (some refl)
some-contains (one ∷ rest) some = (one, (0, omega arith, refl))

module _ (starts : List (List ℕ)) (used : ℕ) (size : length starts ≡ 64) (are : AreMarked starts used) (fits : used < 2 ^ 64) where
  -- no bit from `least` on, so no run is that long
  pub none_longer : (least : ℕ) → used / 2 ^ least ≡ 0 → (run : Run) → HasRun starts run → run.pages ≤ least
  none_longer least none run has = ⊎_elim
      (λ (below : run.pages - 1 < least). omega (arith, below, has.some))
      (λ above.
      let back : least + (run.pages - 1 - least) ≡ run.pages - 1 = omega (arith, above) in
      absurd (marked starts used run size are has (ap (bit_at used) (sym back) ∙ sym (bit_at-shifted used least (run.pages - 1 - least))
      ∙ ap (λ (n : ℕ). bit_at n (run.pages - 1 - least)) none ∙ bit_at-zero (run.pages - 1 - least))))
      (cases_lt (run.pages - 1) least)

  shifted-le : (least : ℕ) → used / 2 ^ least < 2 ^ 64
  shifted-le least = omega (arith, div-le_self used (2 ^ least), fits)

  -- the lowest bit from `least` on
  pub lowest_bit : (least : ℕ) → used / 2 ^ least ≢ 0 → (bit_at used (least + trailing_zeros w64 (used / 2 ^ least)) ≡ 1)
      × ((i : ℕ) → least ≤ i → i < least + trailing_zeros w64 (used / 2 ^ least) → bit_at used i ≡ 0)
  lowest_bit least some =
      let low = bit_at-trailing_zeros w64 (used / 2 ^ least) (omega (arith, some)) (shifted-le least) in (
        sym (bit_at-shifted used least (trailing_zeros w64 (used / 2 ^ least))) ∙ low.1,
        λ i above below. let back : least + (i - least) ≡ i = omega (arith, above) in
            ap (bit_at used) (sym back) ∙ sym (bit_at-shifted used least (i - least)) ∙ low.2 (i - least) (omega (arith, above, below)),
      )

  -- a bit that is 1 is that of a length
  pub bit_below : (at : ℕ) → bit_at used at ≡ 1 → at < 64
  bit_below at one = ⊎_elim (λ lt. lt) (λ past. let none = bit_at_above used 64 at fits past in absurd (omega (arith, none, one))) (cases_lt at 64)

  pub set_some : (at : ℕ) → bit_at used at ≡ 1 → get_or starts at [] ≢ []
  set_some at one none = let bit = (are at (bit_below at one)).1 none in omega (arith, bit, one)

  -- the run at the lowest bit is the shortest
  pub shortest_at : (pages least at first : ℕ) → (pages ≤ least + 1) → ((n : ℕ) → 0 < n → pages ≤ n → least < n) → bit_at used at ≡ 1 → ((i : ℕ) → least ≤ i → i < at → bit_at used i ≡ 0) → least ≤ at
      → Contains (get_or starts at []) first → ((other : ℕ) → Contains (get_or starts at []) other → first ≤ other) → IsShortest starts pages (record { first = first; pages = at + 1 })
  shortest_at pages least at first le from one before reached there lowest =
      let back : at + 1 - 1 ≡ at = omega arith in
      record {
        is_one = record { some = omega arith; begins = subst (λ (n : ℕ). Contains (get_or starts n []) first) (sym back) there };
        fits = omega (arith, le, reached);
        shortest = λ other has long. ⊎_elim
            (λ (less : other.pages - 1 < at). absurd (marked starts used other size are has (before (other.pages - 1) (let low = from other.pages has.some long in omega (arith, low, has.some)) less)))
            (λ more. omega (arith, more, has.some))
            (cases_lt (other.pages - 1) at);
        lowest = λ other has same. lowest other.first (let here : other.pages - 1 ≡ at = omega (arith, same) in subst (λ (n : ℕ). Contains (get_or starts n []) other.first) here has.begins);
      }
