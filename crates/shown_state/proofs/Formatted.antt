-- The words of a formatted image, segment by segment.
use Rattle.std.proofs.Common.{◌≡◌, ◌≢◌, ⊎_elim, ℕ, zero, suc, ◌+◌, ◌-◌, ◌*◌, ◌/◌, ◌%◌, ◌<◌, ◌≤◌, false, ◌||◌, eqb, ltb, List, [], ◌∷◌, ◌++◌, length, get_or, replicate, refl, sym, ◌∙◌, ap, arith}
use Rattle.std.specs.List.{flat_map}
use Rattle.std.proofs.lemmas.Bool.{cases_lt, ne_eqb, le-ltb, or_from}
use Rattle.std.proofs.lemmas.List.{get_or_append_left, get_or-append-add, get_or-replicate, length-append}
use Rattle.std.proofs.lemmas.List.FromFn.{length-range_with_len}
use Rattle.image_layout.specs.Places.{below}
use Rattle.image_layout.specs.Fresh.{magic_number, fresh_word, fresh_words}
use Rattle.image_layout.proofs.FreshImage.{fresh_words_is}

-- the first segment: four reserved pages, the magic number and the version
unfoldable pub first_segment : List ℕ
first_segment = 8 ∷ 8 ∷ 8 ∷ 8 ∷ replicate {A = ℕ} 508 0 ++ magic_number ∷ 2 ∷ replicate {A = ℕ} 32254 0

-- another segment: its first page is reserved
unfoldable pub other_segment : List ℕ
other_segment = 8 ∷ replicate {A = ℕ} 32767 0

abbrev pub formatted : ℕ → List ℕ
formatted segments = first_segment ++ flat_map (λ segment. other_segment) (below (segments - 1))

pub first_size : length first_segment ≡ 32768
unfolding first_segment
first_size = refl

pub other_size : length other_segment ≡ 32768
unfolding other_segment
other_size = refl

-- copies of a segment, by place
pub length-copies : (segment xs : List ℕ) → length (flat_map (λ x. segment) xs) ≡ length xs * length segment
length-copies segment [] = omega arith
length-copies segment (x ∷ xs) = omega (arith, length-append segment (flat_map (λ y. segment) xs), length-copies segment xs)

pub get_or-copies : (segment xs : List ℕ) (s r : ℕ) → s < length xs → r < length segment → get_or (flat_map (λ x. segment) xs) (s * length segment + r) 0 ≡ get_or segment r 0
get_or-copies segment [] s r lt within = absurd (omega arith)
get_or-copies segment (x ∷ xs) zero r lt within =
    ap (λ i. get_or (segment ++ flat_map (λ y. segment) xs) i 0) (here (length segment) r) ∙ get_or_append_left segment (flat_map (λ y. segment) xs) 0 r within
  where
    here : (size r : ℕ) → 0 * size + r ≡ r
    here size r = omega arith
get_or-copies segment (x ∷ xs) (suc s) r lt within =
    ap (λ i. get_or (segment ++ flat_map (λ y. segment) xs) i 0) (there (length segment) s r)
    ∙ get_or-append-add segment (flat_map (λ y. segment) xs) (s * length segment + r) 0
    ∙ get_or-copies segment xs s r (omega arith) within
  where
    there : (size s r : ℕ) → suc s * size + r ≡ size + (s * size + r)
    there size s r = omega arith

pub length-formatted : (segments : ℕ) → 0 < segments → length (formatted segments) ≡ 32768 * segments
length-formatted segments some =
    let copies = length-copies other_segment (below (segments - 1)) in
    let all = length-append first_segment (flat_map (λ s. other_segment) (below (segments - 1))) in
    let sized : length (below (segments - 1)) * length other_segment ≡ (segments - 1) * 32768 =
    ap (λ n. n * length other_segment) (length-range_with_len 0 (segments - 1)) ∙ ap (λ n. (segments - 1) * n) other_size in
    let first = first_size in
    omega arith

-- a word of the first segment, and one of another
pub word_first : (segments r : ℕ) → r < 32768 → get_or (formatted segments) r 0 ≡ get_or first_segment r 0
word_first segments r lt = get_or_append_left first_segment (flat_map (λ s. other_segment) (below (segments - 1))) 0 r (omega (arith, first_size))

pub word_other : (segments s r : ℕ) → suc s < segments → r < 32768 → get_or (formatted segments) (suc s * 32768 + r) 0 ≡ get_or other_segment r 0
word_other segments s r lt within =
    ap (λ i. get_or (formatted segments) i 0) (there (length first_segment) first_size ∙ ap (λ n. length first_segment + (s * n + r)) (sym other_size))
    ∙ get_or-append-add first_segment (flat_map (λ x. other_segment) (below (segments - 1))) (s * length other_segment + r) 0
    ∙ get_or-copies other_segment (below (segments - 1)) s r (omega (arith, length-range_with_len 0 (segments - 1))) (omega (arith, other_size))
  where
    there : (size : ℕ) → size ≡ 32768 → suc s * 32768 + r ≡ size + (s * 32768 + r)
    there size is = omega arith

-- ── the same, place by place ──

plain_word : (w : ℕ) → w % 32768 ≢ 0 → 4 ≤ w → w ≢ 512 → w ≢ 513 → fresh_word w ≡ 0
plain_word w a b c d =
    let reserved : (eqb (w % 32768) 0 || ltb w 4) ≡ false = or_from (eqb (w % 32768) 0) (ltb w 4) (ne_eqb (w % 32768) 0 a) (le-ltb w 4 b) in
    let no_magic = ne_eqb w 512 c in
    let no_version = ne_eqb w 513 d in
    rw (reserved, no_magic, no_version) refl

first_low : (r : ℕ) → r < 508 → get_or first_segment (suc (suc (suc (suc r)))) 0 ≡ 0
unfolding first_segment
first_low r lt = get_or_append_left (replicate {A = ℕ} 508 0) (magic_number ∷ 2 ∷ replicate {A = ℕ} 32254 0) 0 r (omega (arith)) ∙ get_or-replicate 508 r 0 0 (omega arith)

first_words : List ℕ
first_words = 8 ∷ 8 ∷ 8 ∷ 8 ∷ replicate {A = ℕ} 508 0 ++ magic_number ∷ 2 ∷ []

first_split : first_segment ≡ first_words ++ replicate {A = ℕ} 32254 0
unfolding first_segment first_words
first_split = refl

first_count : length first_words ≡ 514
unfolding first_words
first_count = refl

first_high : (r : ℕ) → r < 32254 → get_or first_segment (514 + r) 0 ≡ 0
first_high r lt =
    ap (λ (words : List ℕ). get_or words (514 + r) 0) first_split
    ∙ ap (λ (n : ℕ). get_or (first_words ++ replicate {A = ℕ} 32254 0) (n + r) 0) (sym first_count)
    ∙ get_or-append-add first_words (replicate {A = ℕ} 32254 0) r 0
    ∙ get_or-replicate 32254 r 0 0 lt

first_magic : get_or first_segment 512 0 ≡ magic_number
unfolding first_segment
first_magic = refl

first_version : get_or first_segment 513 0 ≡ 2
unfolding first_segment
first_version = refl

first_word : (w : ℕ) → w < 32768 → get_or first_segment w 0 ≡ fresh_word w
unfolding first_segment
first_word zero lt = refl
first_word (suc zero) lt = refl
first_word (suc (suc zero)) lt = refl
first_word (suc (suc (suc zero))) lt = refl
first_word (suc (suc (suc (suc r)))) lt = from (suc (suc (suc (suc r)))) (omega arith) lt
  where
    plus : (n w : ℕ) → n ≤ w → w ≡ n + (w - n)
    plus n w le = omega arith

    four : (w : ℕ) → 4 ≤ w → w ≡ suc (suc (suc (suc (w - 4))))
    four w le = omega arith

    from : (w : ℕ) → 4 ≤ w → w < 32768 → get_or first_segment w 0 ≡ fresh_word w
    from w low high = ⊎_elim
        (λ below_magic. ap (λ i. get_or first_segment i 0) (four w low) ∙ first_low (w - 4) (omega (arith, below_magic)) ∙ sym (plain_word w (λ e. omega (arith, e, low, high)) low (λ e. omega (arith, e, below_magic)) (λ e. omega (arith, e, below_magic))))
        (λ above. ⊎_elim
        (λ two. ⊎_elim
        (λ one. let is : w ≡ 512 = omega (arith, above, one) in ap (λ i. get_or first_segment i 0) is ∙ first_magic ∙ ap fresh_word (sym is))
        (λ one. let is : w ≡ 513 = omega (arith, one, two) in ap (λ i. get_or first_segment i 0) is ∙ first_version ∙ ap fresh_word (sym is))
        (cases_lt w 513))
        (λ far. ap (λ i. get_or first_segment i 0) (plus 514 w far) ∙ first_high (w - 514) (omega (arith, high, far)) ∙ sym (plain_word w (λ e. omega (arith, e, low, high)) low (λ e. omega (arith, e, far)) (λ e. omega (arith, e, far))))
        (cases_lt w 514))
        (cases_lt w 512)

other_word : (s r : ℕ) → r < 32768 → get_or other_segment r 0 ≡ fresh_word (suc s * 32768 + r)
unfolding other_segment
other_word s zero lt = let is : (suc s * 32768 + 0) % 32768 ≡ 0 = omega arith in rw is refl
other_word s (suc r) lt = get_or-replicate 32767 r 0 0 (omega arith) ∙ sym (plain_word (suc s * 32768 + suc r) (λ e. omega (arith, e, lt)) (omega arith) (λ e. omega (arith, e)) (λ e. omega (arith, e)))

pub formatted_is_fresh : (segments : ℕ) → 0 < segments → formatted segments ≡ fresh_words segments
formatted_is_fresh segments some = fresh_words_is segments (formatted segments) (length-formatted segments some) each
  where
    each : (w : ℕ) → w < 32768 * segments → get_or (formatted segments) w 0 ≡ fresh_word w
    each w lt = ⊎_elim
        (λ low. word_first segments w low ∙ first_word w low)
        (λ high. later (w / 32768 - 1) (w % 32768) w (omega (arith, high)) (omega (arith, high, lt)) (omega arith))
        (cases_lt w 32768)
      where
        later : (s r w : ℕ) → w ≡ suc s * 32768 + r → suc s < segments → r < 32768 → get_or (formatted segments) w 0 ≡ fresh_word w
        later s r w is within small = ap (λ i. get_or (formatted segments) i 0) is ∙ word_other segments s r within small ∙ other_word s r small ∙ ap fresh_word (sym is)
