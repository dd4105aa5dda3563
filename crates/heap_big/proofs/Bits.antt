-- Free pages as the bits of a word for each segment.
use Rattle.std.proofs.Common.{◌≡◌, ◌≢◌, ℕ, ◌+◌, ◌-◌, ◌*◌, ◌/◌, ◌%◌, ◌^◌, ◌<◌, ◌≤◌, ◌⊎◌, ◌↔◌, true, eqb, min, max, List, length, set, get_or, suc, inl, inr, sym, ap, ◌∙◌, arith, ⊎_elim, bit_and, bit_or, w64}
use Rattle.std.specs.Int.{bit_at, bit_not, trailing_ones}
use Rattle.std.specs.Int.Count.{count_leading_zeros, leading_of_zero, trailing_of_zero}
use Rattle.std.proofs.lemmas.Bool.{cases_eq, cases_lt, eqb-true, eq-eqb}
use Rattle.std.proofs.lemmas.List.{get_or-set_same, get_or-set_other}
use Rattle.std.proofs.lemmas.Nat.{leading_top, pow_pos, and_le_r}
use Rattle.std.proofs.Math.Pow.{pow_mono}
use Rattle.std.proofs.Math.Nat.{div-le_self, div-lt_iff_lt-mul, le-div_iff_mul-le, pow-suc}
use Rattle.std.proofs.lemmas.Nat.Bits.{bit_at-trailing_ones, bit_at-zero, bit_at_and, bit_at_or, bit_at_not, bit_at-lt, bit_at_above, bit_at_ones, bit_at_ones_above, bit_at_mask_inside, bit_at_mask_below, bit_at_mask_above}
use Rattle.heap_big.specs.declared.run.Run.{Run}
use Rattle.heap_big.specs.Runs.{HasPage}
use Rattle.heap_big.specs.Pages.{has_page}
use Rattle.heap_big.proofs.Heads.{has_or_not}
use Rattle.heap_big.proofs.Lengths.{bit_at-shifted}

-- the highest bit of a number
pub highest_bit : (n : ℕ) → 0 < n → n < 2 ^ 64 → (high : ℕ) × (count_leading_zeros 64 n + suc high ≡ 64) × (bit_at n high ≡ 1) × ((i : ℕ) → high < i → bit_at n i ≡ 0)
highest_bit n some fits =
    let top = leading_top 64 n some fits in
    let high = top.0 in
    let pos : 0 < 2 ^ high = pow_pos high in
    let one : 1 ≤ n / 2 ^ high = (le-div_iff_mul-le pos).1 (omega (arith, top.2)) in
    let twice : 2 ^ suc high ≡ 2 ^ high * 2 = pow-suc 2 high in
    let under : n < 2 ^ suc high = top.3 in
    let two : n / 2 ^ high < 2 = (div-lt_iff_lt-mul pos).1 (omega (arith, twice, under)) in
    (high, top.1, (omega (arith, one, two)), λ i above. bit_at_above n (suc high) i top.3 (omega (arith, above)))

-- ── bits that are 1 on both sides of a place ──

-- all 64 bits are 1, or one isn't
all_or_not : (word : ℕ) → word < 2 ^ 64 → (word + 1 < 2 ^ 64) ⊎ (word ≡ 2 ^ 64 - 1)
all_or_not word fits = grind arith

module _ (word place : ℕ) (fits : word < 2 ^ 64) (small : place < 64) where
  from-bit : (i : ℕ) → bit_at (word / 2 ^ place) i ≡ bit_at word (place + i)
  from-bit i = bit_at-shifted word place i

  from-le : word / 2 ^ place < 2 ^ 64
  from-le = omega (arith, div-le_self word (2 ^ place), fits)

  ones_low : (i : ℕ) → i < 64 → i < trailing_ones w64 (word / 2 ^ place) → bit_at (word / 2 ^ place) i ≡ 1
  ones_low i within low = ⊎_elim
      (λ more. (bit_at-trailing_ones w64 (word / 2 ^ place) more).2 i low)
      (λ (all : word / 2 ^ place ≡ 2 ^ 64 - 1). ap (λ (n : ℕ). bit_at n i) all ∙ bit_at_ones 64 i within)
      (all_or_not (word / 2 ^ place) from-le)

  pub ones_from-within : place + trailing_ones w64 (word / 2 ^ place) ≤ 64
  ones_from-within = ⊎_elim
      (λ (over : 64 < place + trailing_ones w64 (word / 2 ^ place)).
      let one = ones_low_or_full (64 - place) (omega (arith, over)) in
      let back : place + (64 - place) ≡ 64 = omega (arith, small) in
      let none = from-bit (64 - place) ∙ ap (bit_at word) back ∙ bit_at_above word 64 64 fits (omega arith) in
      absurd (omega (arith, one, none)))
      (λ le. le)
      (cases_lt 64 (place + trailing_ones w64 (word / 2 ^ place)))
    where
      ones_low_or_full : (i : ℕ) → i < trailing_ones w64 (word / 2 ^ place) → bit_at (word / 2 ^ place) i ≡ 1
      ones_low_or_full i low = ⊎_elim
          (λ more. (bit_at-trailing_ones w64 (word / 2 ^ place) more).2 i low)
          (λ (all : word / 2 ^ place ≡ 2 ^ 64 - 1).
          let full : trailing_ones w64 (word / 2 ^ place) ≡ 64 = ap (trailing_ones w64) all ∙ trailing_of_zero 64 in
          ap (λ (n : ℕ). bit_at n i) all ∙ bit_at_ones 64 i (omega (arith, full, low)))
          (all_or_not (word / 2 ^ place) from-le)

  pub ones_from : (i : ℕ) → place ≤ i → i < place + trailing_ones w64 (word / 2 ^ place) → bit_at word i ≡ 1
  ones_from i above below =
      let back : place + (i - place) ≡ i = omega (arith, above) in
      let within = ones_from-within in
      ap (bit_at word) (sym back) ∙ sym (from-bit (i - place)) ∙ ones_low (i - place) (omega (arith, above, below, within)) (omega (arith, above, below))

  pub ones_from-whole : place + trailing_ones w64 (word / 2 ^ place) < 64 → bit_at word (place + trailing_ones w64 (word / 2 ^ place)) ≡ 0
  ones_from-whole less = ⊎_elim
      (λ more. sym (from-bit (trailing_ones w64 (word / 2 ^ place))) ∙ (bit_at-trailing_ones w64 (word / 2 ^ place) more).1)
      (λ (all : word / 2 ^ place ≡ 2 ^ 64 - 1).
      let full : trailing_ones w64 (word / 2 ^ place) ≡ 64 = ap (trailing_ones w64) all ∙ trailing_of_zero 64 in
      absurd (omega (arith, full, less)))
      (all_or_not (word / 2 ^ place) from-le)

  -- the bits below the place that are 0
  abbrev pub gaps : ℕ
  gaps = bit_and (bit_not w64 word) (2 ^ place - 1)

  gaps-below : (i : ℕ) → i < place → bit_at gaps i ≡ 1 - bit_at word i
  gaps-below i below =
      let mask = bit_at_ones place i below in
      let other = bit_at_not w64 word i fits (omega (arith, below, small)) in
      let low = bit_at-lt word i in
      bit_at_and (bit_not w64 word) (2 ^ place - 1) i ∙ omega (arith, mask, other, low)

  gaps-above : (i : ℕ) → place ≤ i → bit_at gaps i ≡ 0
  gaps-above i above = let mask = bit_at_ones_above place i above in bit_at_and (bit_not w64 word) (2 ^ place - 1) i ∙ omega (arith, mask)

  gaps-le : gaps < 2 ^ 64
  gaps-le =
      let le : gaps ≤ 2 ^ place - 1 = and_le_r (bit_not w64 word) (2 ^ place - 1) in
      let more : 2 ^ place ≤ 2 ^ 64 = pow_mono {i = place} {j = 64} (omega (arith, small)) in
      omega (arith, le, more)

  gap_below : (high : ℕ) → bit_at gaps high ≡ 1 → high < place
  gap_below high one = ⊎_elim (λ lt. lt) (λ ge. let none = gaps-above high ge in absurd (omega (arith, none, one))) (cases_lt high place)

  pub ones_before-some : 64 ≤ place + count_leading_zeros 64 gaps
  ones_before-some = ⊎_elim
      (λ (none : gaps ≡ 0). let all = ap (count_leading_zeros 64) none ∙ leading_of_zero 64 in omega (arith, all))
      (λ some. let top = highest_bit gaps (omega (arith, some)) gaps-le in omega (arith, top.1, gap_below top.0 top.2))
      (cases_eq gaps 0)

  pub ones_before : (i : ℕ) → place - (place + count_leading_zeros 64 gaps - 64) ≤ i → i < place → bit_at word i ≡ 1
  ones_before i above below =
      let bit = gaps-below i below in
      let low = bit_at-lt word i in
      ⊎_elim
      (λ (none : gaps ≡ 0). let gone = ap (λ (n : ℕ). bit_at n i) none ∙ bit_at-zero i in omega (arith, gone, bit, low))
      (λ some. let top = highest_bit gaps (omega (arith, some)) gaps-le in let gone = top.3 i (omega (arith, top.1, above, below)) in omega (arith, gone, bit, low))
      (cases_eq gaps 0)

  pub ones_before-whole : place + count_leading_zeros 64 gaps - 64 < place → bit_at word (place - (place + count_leading_zeros 64 gaps - 64) - 1) ≡ 0
  ones_before-whole less = ⊎_elim
      (λ (none : gaps ≡ 0). let all = ap (count_leading_zeros 64) none ∙ leading_of_zero 64 in absurd (omega (arith, all, less)))
      (λ some.
      let top = highest_bit gaps (omega (arith, some)) gaps-le in
      let below = gap_below top.0 top.2 in
      let place_is : place - (place + count_leading_zeros 64 gaps - 64) - 1 ≡ top.0 = omega (arith, top.1, below) in
      let bit = gaps-below top.0 below in
      let low = bit_at-lt word top.0 in
      ap (bit_at word) place_is ∙ omega (arith, bit, top.2, low))
      (cases_eq gaps 0)

-- the bits of a run's pages in the word of its segment
abbrev pub mask_of : Run → ℕ
mask_of run = 2 ^ (run.first % 64 + run.pages) - 2 ^ (run.first % 64)

module _ (run : Run) (size : run.first % 64 + run.pages ≤ 64) where
  mask_has : (page : ℕ) → HasPage run page → bit_at (mask_of run) (page % 64) ≡ 1
  mask_has page has = bit_at_mask_inside (run.first % 64) (run.first % 64 + run.pages) (page % 64) (omega (arith, has.0, has.1, size)) (omega (arith, has.0, has.1, size))

  mask_no_more : (page : ℕ) → page / 64 ≡ run.first / 64 → (HasPage run page → ⊥) → bit_at (mask_of run) (page % 64) ≡ 0
  mask_no_more page same apart = ⊎_elim
      (λ (below : page % 64 < run.first % 64). bit_at_mask_below (run.first % 64) (run.first % 64 + run.pages) (page % 64) below)
      (λ from. ⊎_elim
      (λ (inside : page % 64 < run.first % 64 + run.pages). absurd (apart (omega (arith, same, from), omega (arith, same, inside))))
      (λ behind. bit_at_mask_above (run.first % 64) (run.first % 64 + run.pages) (page % 64) behind)
      (cases_lt (page % 64) (run.first % 64 + run.pages)))
      (cases_lt (page % 64) (run.first % 64))

  same_segment : (page : ℕ) → HasPage run page → page / 64 ≡ run.first / 64
  same_segment page has = omega (arith, has.0, has.1, size)

-- the bit of a page is read from the word of its segment
pub bit_read : (words : List ℕ) (page at : ℕ) → page / 64 ≡ at → has_page words page ≡ true ↔ (bit_at (get_or words at 0) (page % 64) ≡ 1)
bit_read words page at is = (
  λ hit. ap (λ (k : ℕ). bit_at (get_or words k 0) (page % 64)) (sym is) ∙ eqb-true (bit_at (get_or words (page / 64) 0) (page % 64)) 1 hit,
  λ one. eq-eqb (bit_at (get_or words (page / 64) 0) (page % 64)) 1 (ap (λ (k : ℕ). bit_at (get_or words k 0) (page % 64)) is ∙ one),
)

module _ (words : List ℕ) (run : Run) (at new : ℕ) (size : run.first % 64 + run.pages ≤ 64) (is : at ≡ run.first / 64) (within : at < length words) where
  here : get_or (set words at new) at 0 ≡ new
  here = get_or-set_same words at new 0 within

  elsewhere : (page : ℕ) → page / 64 ≢ at → has_page (set words at new) page ≡ has_page words page
  elsewhere page away = ap (λ (w : ℕ). eqb (bit_at w (page % 64)) 1) (get_or-set_other words at (page / 64) new 0 away)

  read_new : (page : ℕ) → page / 64 ≡ at → has_page (set words at new) page ≡ true ↔ (bit_at new (page % 64) ≡ 1)
  read_new page same =
      let read = bit_read (set words at new) page at same in
      (λ hit. ap (λ (w : ℕ). bit_at w (page % 64)) (sym here) ∙ read.0 hit, λ one. read.1 (ap (λ (w : ℕ). bit_at w (page % 64)) here ∙ one))

  pub bits_added : new ≡ bit_or (get_or words at 0) (mask_of run) → (page : ℕ) → has_page (set words at new) page ≡ true ↔ ((has_page words page ≡ true) ⊎ HasPage run page)
  bits_added new_is page = ⊎_elim
      (λ (same : page / 64 ≡ at).
      let word = get_or words at 0 in
      let both : bit_at new (page % 64) ≡ max (bit_at word (page % 64)) (bit_at (mask_of run) (page % 64)) = ap (λ (w : ℕ). bit_at w (page % 64)) new_is ∙ bit_at_or word (mask_of run) (page % 64) in
      let small = bit_at-lt word (page % 64) in (
        λ hit. ⊎_elim
            (λ has. inr has)
            (λ apart.
            let none = mask_no_more run size page (same ∙ is) apart in
            let one = (read_new page same).0 hit in
            inl ((bit_read words page at same).1 (omega (arith, both, none, one))))
            (has_or_not run page),
        λ h. (read_new page same).1 (⊎_elim
            (λ old. let one = (bit_read words page at same).0 old in let small' = bit_at-lt (mask_of run) (page % 64) in omega (arith, both, one, small'))
            (λ has. let one = mask_has run size page has in omega (arith, both, one, small)) h),
      ))
      (λ away. (
        λ hit. inl (sym (elsewhere page away) ∙ hit),
        λ h. ⊎_elim (λ old. elsewhere page away ∙ old) (λ has. absurd (away (same_segment run size page has ∙ sym is))) h,
      ))
      (cases_eq (page / 64) at)

  pub bits_removed : new ≡ bit_and (get_or words at 0) (bit_not w64 (mask_of run)) → mask_of run < 2 ^ 64 → (page : ℕ) → has_page (set words at new) page ≡ true ↔ ((has_page words page ≡ true) × (HasPage run page → ⊥))
  bits_removed new_is fits page = ⊎_elim
      (λ (same : page / 64 ≡ at).
      let word = get_or words at 0 in
      let both : bit_at new (page % 64) ≡ min (bit_at word (page % 64)) (1 - bit_at (mask_of run) (page % 64)) =
      ap (λ (w : ℕ). bit_at w (page % 64)) new_is ∙ bit_at_and word (bit_not w64 (mask_of run)) (page % 64) ∙ ap (min (bit_at word (page % 64))) (bit_at_not w64 (mask_of run) (page % 64) fits (omega arith)) in
      let small = bit_at-lt word (page % 64) in (
        λ hit.
            let one = (read_new page same).0 hit in (
              (bit_read words page at same).1 (omega (arith, both, one, small)),
              λ has. let gone = mask_has run size page has in omega (arith, both, one, gone),
            ),
        λ h. (read_new page same).1
            (let one = (bit_read words page at same).0 h.0 in let none = mask_no_more run size page (same ∙ is) h.1 in omega (arith, both, one, none)),
      ))
      (λ away. (
        λ hit. (sym (elsewhere page away) ∙ hit, λ has. away (same_segment run size page has ∙ sym is)),
        λ h. elsewhere page away ∙ h.0,
      ))
      (cases_eq (page / 64) at)
