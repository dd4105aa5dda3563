-- A formatted stage image, place by place.
use Rattle.std.proofs.Common.{◌≡◌, ⊎_elim, ℕ, ◌+◌, ◌*◌, ◌%◌, ◌<◌, ◌||◌, Bool, true, false, cond, eqb, ltb, List, length, get_or, refl, ap, subst, sym, ◌∙◌, arith}
use Rattle.std.proofs.lemmas.Bool.{false≢true, ne_eqb, lt-ltb, ltb-true, cases_eq}
use Rattle.std.proofs.lemmas.List.FromFn.{length-map-range_with_len, get_or-map-range_with_len, fill_by_all}
use Rattle.image_layout.specs.Fresh.{fresh_word, fresh_words}
use Rattle.image_layout.proofs.FreshImage.{get_or-fresh_words}
use Rattle.engine_core.specs.Stage.{stage_word, stage_words}

pub length-stage_words : (segments : ℕ) → length (stage_words segments) ≡ 32768 * segments
unfolding stage_words
length-stage_words segments = length-map-range_with_len stage_word 0 (32768 * segments)

pub get_or-stage_words : (segments w : ℕ) → w < 32768 * segments → get_or (stage_words segments) w 0 ≡ stage_word w
unfolding stage_words
get_or-stage_words segments w lt = get_or-map-range_with_len stage_word 0 (32768 * segments) w w 0 lt (zero_add w)
  where
    zero_add : (n : ℕ) → 0 + n ≡ n
    zero_add n = omega arith

-- of a formatted image the descriptors of 24 more pages change
stage_word-from : (segment low lower : Bool) (rest : ℕ) → (lower ≡ true → low ≡ true) → cond low 8 (cond (segment || lower) 8 rest) ≡ cond (segment || low) 8 rest
stage_word-from true true lower rest below = refl
stage_word-from false true lower rest below = refl
stage_word-from true false lower rest below = refl
stage_word-from false false false rest below = refl
stage_word-from false false true rest below = absurd (false≢true (below refl))

-- and the version
stage_word-is : (w : ℕ) → cond (ltb w 28) 8 (cond (eqb w 513) 102 (fresh_word w)) ≡ stage_word w
stage_word-is w = ⊎_elim
    (λ (is : w ≡ 513). subst (λ (k : ℕ). cond (ltb k 28) 8 (cond (eqb k 513) 102 (fresh_word k)) ≡ stage_word k) (sym is) refl)
    (λ apart. let other = ne_eqb w 513 apart in
    rw other (stage_word-from (eqb (w % 32768) 0) (ltb w 28) (ltb w 4) (cond (eqb w 512) 0x4244_5452_4F46_4F53 0)
    (λ low. lt-ltb w 28 (let h = ltb-true w 4 low in omega (arith, h)))))
    (cases_eq w 513)

-- words that are so at each place
pub stage_words_is : (segments : ℕ) (words formatted : List ℕ) → length words ≡ 32768 * segments → formatted ≡ fresh_words segments
    → ((w : ℕ) → get_or words w 0 ≡ cond (ltb w 28) 8 (cond (eqb w 513) 102 (get_or formatted w 0))) → words ≡ stage_words segments
unfolding stage_words
stage_words_is segments words formatted size is each = fill_by_all stage_word words (32768 * segments) 0 size
    (λ w lt. each w ∙ ap (λ (x : ℕ). cond (ltb w 28) 8 (cond (eqb w 513) 102 x)) (ap (λ (xs : List ℕ). get_or xs w 0) is ∙ get_or-fresh_words segments w lt) ∙ stage_word-is w)
