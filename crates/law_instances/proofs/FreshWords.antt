-- Single words of a formatted image.
use Rattle.std.proofs.Common.{◌≡◌, ◌≢◌, ℕ, zero, suc, ◌+◌, ◌-◌, ◌*◌, ◌%◌, ◌<◌, ◌≤◌, ◌||◌, false, true, not, eqb, ltb, leb, get_or, refl, ◌∙◌, ap, arith}
use Rattle.std.proofs.lemmas.Bool.{cond-false, ne_eqb, or_from, and_from, not_from_false, le-ltb, le-leb}
use Rattle.image_layout.specs.Blocks.{descriptor_of, inside_after, inside_at, is_inside, is_free_page}
use Rattle.image_layout.specs.Fresh.{fresh_word, fresh_words}
use Rattle.image_layout.proofs.FreshImage.{get_or-fresh_words}

-- a word that is no reserved descriptor, and neither magic nor version
pub plain_zero : (w : ℕ) → 4 ≤ w → w < 2048 → w ≢ 512 → w ≢ 513 → fresh_word w ≡ 0
plain_zero w from to magic version =
    cond-false (eqb (w % 32768) 0 || ltb w 4) _ _ (or_from (eqb (w % 32768) 0) (ltb w 4) (ne_eqb (w % 32768) 0 (λ e. omega (arith, e, from, to))) (le-ltb w 4 (omega (arith, from))))
    ∙ cond-false (eqb w 512) _ _ (ne_eqb w 512 magic) ∙ cond-false (eqb w 513) _ _ (ne_eqb w 513 version)

low_word : (k : ℕ) → k < 4 → fresh_word k ≤ 17
low_word zero lt = omega arith
low_word (suc zero) lt = omega arith
low_word (suc (suc zero)) lt = omega arith
low_word (suc (suc (suc zero))) lt = omega arith
low_word (suc (suc (suc (suc k)))) lt = absurd (omega (arith, lt))

module _ (segments : ℕ) (some : 0 < segments) where
  -- a word behind the fixed ones of page 1
  pub fresh_zero : (w : ℕ) → 514 ≤ w → w < 2048 → get_or (fresh_words segments) w 0 ≡ 0
  fresh_zero w from to =
      get_or-fresh_words segments w (omega (arith, to, some))
      ∙ plain_zero w (omega (arith, from)) to (λ e. omega (arith, e, from)) (λ e. omega (arith, e, from))

  -- page 4 is free
  pub four_is_zero : get_or (fresh_words segments) 4 0 ≡ 0
  four_is_zero = get_or-fresh_words segments 4 (omega (arith, some)) ∙ plain_zero 4 (omega arith) (omega arith) (λ e. omega (arith, e)) (λ e. omega (arith, e))

  four_inside : (n : ℕ) → n ≤ 4 → inside_at (fresh_words segments) 0 n ≡ 0
  four_inside zero le = refl
  four_inside (suc n) le =
      let at : n ≡ 0 * 32768 + n = omega arith in
      let word = ap (λ (w : ℕ). get_or (fresh_words segments) w 0) at in
      let is = get_or-fresh_words segments n (omega (arith, some, le)) in
      let most = low_word n (omega (arith, le)) in
      let zero_behind : get_or (fresh_words segments) (0 * 32768 + n) 0 - 17 ≡ 0 = omega (arith, word, is, most) in
      ap (λ (i : ℕ). inside_after i (get_or (fresh_words segments) (0 * 32768 + n) 0)) (four_inside n (omega (arith, le))) ∙ zero_behind

  four_outside : is_inside (fresh_words segments) 4 ≡ false
  unfolding is_inside
  four_outside = ap (λ (n : ℕ). ltb 0 n) (four_inside 4 (omega arith))

  pub four_is_free : is_free_page (fresh_words segments) 4 ≡ true
  four_is_free = and_from (not (is_inside (fresh_words segments) 4)) (leb (descriptor_of (fresh_words segments) 4) 1)
      (not_from_false (is_inside (fresh_words segments) 4) four_outside)
      (le-leb (descriptor_of (fresh_words segments) 4) 1 (let is = four_is_zero in omega (arith, is)))
