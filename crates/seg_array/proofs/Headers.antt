-- What the rule of an array says of its chunks.
use Rattle.std.proofs.Common.{◌≡◌, ⊎_elim, ℕ, ◌+◌, ◌%◌, ◌<◌, ◌≤◌, Bool, true, false, ◌&&◌, ◌||◌, cond, eqb, leb, ltb, List, ◌∷◌, length, map, get_or, refl, sym, ◌∙◌, ap, subst, arith}
use Rattle.std.specs.Prelude.{Contains, All}
use Rattle.std.proofs.lemmas.Bool.{cond-true, cond-false, lt-ltb, le-ltb, le-leb, leb-true, ltb-true, eqb-true, eq-eqb, ne_eqb, and_parts, or_cases}
use Rattle.std.proofs.lemmas.List.Elements.{All-contains, All-contains_itself}
use Rattle.image_layout.specs.Pointer.{pointer_word}
use Rattle.image_layout.specs.Places.{below, place_in, is_pointer, is_in_segment, is_pointer_to, is_null_or_pointer_to}
use Rattle.image_layout.specs.Checks.{Check, check, Keeps}
use Rattle.image_layout.proofs.Heap.{Holds}
use Rattle.image_layout.proofs.Members.{below-Contains, Contains-below, Contains-here, Contains-there, Contains-cons, Contains-map, map-Contains}
use Rattle.image_layout.specs.Arrays.{chunk_words, capacity_of, chunk_of, offset_of, chunk_count, chunk_pointer_at, is_chunk_pointer, array_rule, capacity, place_of}
use Rattle.image_layout.proofs.ChunkSizes.{capacity_next, chunk_below}

-- a chunk's words lie in the image, and in one segment
pub record NamesChunk (words : List ℕ) (count pointer : ℕ) : Type 0 where
  pub is_one : is_pointer words pointer ≡ true
  pub word_is : pointer ≡ pointer_word (place_in pointer)
  pub begins : place_in pointer < length words
  pub in_segment : place_in pointer % 32768 + count ≤ 32768

pub names_chunk : (words : List ℕ) (count pointer : ℕ) → is_pointer_to words count pointer ≡ true → NamesChunk words count pointer
names_chunk words count pointer is =
    let both = and_parts (is_pointer words pointer) (is_in_segment (place_in pointer) count) is in
    let parts = and_parts (eqb pointer (pointer_word (place_in pointer))) (ltb (place_in pointer) (length words)) both.0 in
    record {
      is_one = both.0;
      word_is = eqb-true pointer (pointer_word (place_in pointer)) parts.0;
      begins = ltb-true (place_in pointer) (length words) parts.1;
      in_segment = leb-true (place_in pointer % 32768 + count) 32768 both.1;
    }

module _ (words : List ℕ) (header : ℕ) (keeps : Keeps words (array_rule header)) where
  pointer_check : ℕ → Check
  pointer_check chunk = check (chunk_pointer_at header chunk) (is_chunk_pointer words (chunk_count words header) chunk (get_or words (chunk_pointer_at header chunk) 0))

  checks : List Check
  checks = check header (leb (chunk_count words header) 12) ∷ map pointer_check (below 12)

  pub at_most_12 : chunk_count words header ≤ 12
  unfolding array_rule checks pointer_check
  at_most_12 = leb-true (chunk_count words header) 12
      (All-contains Holds checks (check header (leb (chunk_count words header) 12)) keeps.checks (Contains-here (check header (leb (chunk_count words header) 12)) (map pointer_check (below 12))))

  pub pointer_rule : (chunk : ℕ) → chunk < 12 → is_chunk_pointer words (chunk_count words header) chunk (get_or words (chunk_pointer_at header chunk) 0) ≡ true
  unfolding array_rule checks pointer_check
  pointer_rule chunk lt = All-contains Holds checks (pointer_check chunk) keeps.checks
      (Contains-there (check header (leb (chunk_count words header) 12)) (pointer_check chunk) (map pointer_check (below 12)) (map-Contains pointer_check (below 12) chunk (below-Contains 12 chunk lt)))

  -- a published chunk
  pub published : (chunk : ℕ) → chunk < chunk_count words header → NamesChunk words (chunk_words chunk) (get_or words (chunk_pointer_at header chunk) 0)
  published chunk lt =
      let most = at_most_12 in
      names_chunk words (chunk_words chunk) (get_or words (chunk_pointer_at header chunk) 0)
      (sym (cond-true (ltb chunk (chunk_count words header)) _ _ (lt-ltb chunk (chunk_count words header) lt)) ∙ pointer_rule chunk (omega (arith, lt, most)))

  -- all pointers behind the next one are null
  pub behind_null : (chunk : ℕ) → chunk < 12 → chunk_count words header < chunk → get_or words (chunk_pointer_at header chunk) 0 ≡ 0
  behind_null chunk lt behind =
      let count = chunk_count words header in
      eqb-true (get_or words (chunk_pointer_at header chunk) 0) 0
      (sym (cond-false (eqb chunk count) _ _ (ne_eqb chunk count (λ e. omega (arith, e, behind)))) ∙ sym (cond-false (ltb chunk count) _ _ (le-ltb chunk count (omega (arith, behind)))) ∙ pointer_rule chunk lt)

  -- the chunk behind them, where the array owns one
  pub owned : chunk_count words header < 12 → (get_or words (chunk_pointer_at header (chunk_count words header)) 0 ≡ 0 → ⊥)
      → NamesChunk words (chunk_words (chunk_count words header)) (get_or words (chunk_pointer_at header (chunk_count words header)) 0)
  owned lt some =
      let count = chunk_count words header in
      let pointer = get_or words (chunk_pointer_at header count) 0 in
      let here : is_null_or_pointer_to words (chunk_words count) pointer ≡ true =
      sym (cond-true (eqb count count) _ _ (eq-eqb count count refl)) ∙ sym (cond-false (ltb count count) _ _ (le_ltb count)) ∙ pointer_rule count lt in
      ⊎_elim (λ null. absurd (some (eqb-true pointer 0 null))) (λ is. names_chunk words (chunk_words count) pointer is)
      (or_cases (eqb pointer 0) (is_pointer_to words (chunk_words count) pointer) here)
    where
      le_ltb : (n : ℕ) → ltb n n ≡ false
      le_ltb n = grind arith

  -- the chunk in which a published index lies
  module _ (index : ℕ) (lt : index < capacity words header) where
    pub index_chunk : (chunk_of index < chunk_count words header) × (capacity_of (chunk_of index) ≤ index) × (index < capacity_of (chunk_of index + 1))
    index_chunk = chunk_below index (chunk_count words header) at_most_12 lt

    pub index_named : NamesChunk words (chunk_words (chunk_of index)) (get_or words (chunk_pointer_at header (chunk_of index)) 0)
    index_named = published (chunk_of index) index_chunk.0

    -- and the place of its word
    pub place_within : length words % 32768 ≡ 0 → place_in (get_or words (chunk_pointer_at header (chunk_of index)) 0) + offset_of index < length words
    place_within whole =
        let named = index_named in
        let reach = capacity_next (chunk_of index) in
        within (place_in (get_or words (chunk_pointer_at header (chunk_of index)) 0)) (length words) (chunk_words (chunk_of index)) (offset_of index)
        named.begins named.in_segment (omega (arith, index_chunk.1, index_chunk.2, reach)) whole
      where
        within : (place size count offset : ℕ) → place < size → place % 32768 + count ≤ 32768 → offset < count → size % 32768 ≡ 0 → place + offset < size
        within place size count offset a b c d = omega arith

-- the rule, check by check
module _ (words : List ℕ) (header : ℕ) where
  count_here : Check
  count_here = check header (leb (chunk_count words header) 12)

  pointer_here : ℕ → Check
  pointer_here chunk = check (chunk_pointer_at header chunk) (is_chunk_pointer words (chunk_count words header) chunk (get_or words (chunk_pointer_at header chunk) 0))

  all_from : (checks : List Check) → ((c : Check) → Contains checks c → Holds c) → All Holds checks
  all_from checks each k d lt = each (get_or checks k d) (All-contains_itself checks k d lt)

  pub array_from : chunk_count words header ≤ 12 → ((chunk : ℕ) → chunk < 12 → is_chunk_pointer words (chunk_count words header) chunk (get_or words (chunk_pointer_at header chunk) 0) ≡ true) → Keeps words (array_rule header)
  unfolding array_rule count_here pointer_here
  array_from most each = record {
    checks = all_from (count_here ∷ map pointer_here (below 12)) (λ c is.
        ⊎_elim (λ (first : count_here ≡ c). subst Holds first (le-leb (chunk_count words header) 12 most))
        (λ rest. let (chunk, among, at) = Contains-map pointer_here (below 12) c rest in subst Holds at (each chunk (Contains-below 12 chunk among)))
        (Contains-cons count_here c (map pointer_here (below 12)) is));
  }

-- a null pointer, of an array without chunks
pub null_pointer : (words : List ℕ) (chunk : ℕ) → is_chunk_pointer words 0 chunk 0 ≡ true
null_pointer words chunk = cond-false (ltb chunk 0) _ _ (le-ltb chunk 0 (omega arith)) ∙ either (eqb chunk 0)
  where
    either : (b : Bool) → cond b (is_null_or_pointer_to words (chunk_words chunk) 0) (eqb 0 0) ≡ true
    either true = refl
    either false = refl

-- where the words of a header are 0 the array has no chunks, and keeps its rule
pub no_chunks : (words : List ℕ) (header : ℕ) → ((k : ℕ) → k < 13 → get_or words (header + k) 0 ≡ 0) → Keeps words (array_rule header)
no_chunks words header zeros = array_from words header (omega (arith, count)) pointer
  where
    count : get_or words header 0 ≡ 0
    count = let at : header + 0 ≡ header = omega arith in subst (λ (w : ℕ). get_or words w 0 ≡ 0) at (zeros 0 (omega arith))

    pointer : (chunk : ℕ) → chunk < 12 → is_chunk_pointer words (chunk_count words header) chunk (get_or words (chunk_pointer_at header chunk) 0) ≡ true
    pointer chunk lt =
        let at : header + (chunk + 1) ≡ chunk_pointer_at header chunk = omega arith in
        let null = subst (λ (w : ℕ). get_or words w 0 ≡ 0) at (zeros (chunk + 1) (omega (arith, lt))) in
        ap (λ (p : ℕ). is_chunk_pointer words (chunk_count words header) chunk p) null ∙ ap (λ (n : ℕ). is_chunk_pointer words n chunk 0) count ∙ null_pointer words chunk

-- ── what is read of an array ──

-- such a pointer is read with the length of the image alone
pub points_same : (old new : List ℕ) → length new ≡ length old → (words pointer : ℕ) → is_pointer_to new words pointer ≡ is_pointer_to old words pointer
points_same old new size words pointer = ap (λ (n : ℕ). (eqb pointer (pointer_word (place_in pointer)) && ltb (place_in pointer) n) && leb (place_in pointer % 32768 + words) 32768) size

module _ (old new : List ℕ) (header : ℕ) (size : length new ≡ length old) (same : (k : ℕ) → k < 13 → get_or new (header + k) 0 ≡ get_or old (header + k) 0) where
  count_same : get_or new header 0 ≡ get_or old header 0
  count_same = let at : header + 0 ≡ header = omega arith in subst (λ (w : ℕ). get_or new w 0 ≡ get_or old w 0) at (same 0 (omega arith))

  pointer_same : (chunk : ℕ) → chunk < 12 → get_or new (chunk_pointer_at header chunk) 0 ≡ get_or old (chunk_pointer_at header chunk) 0
  pointer_same chunk lt = let at : header + (chunk + 1) ≡ header + 1 + chunk = omega arith in subst (λ (w : ℕ). get_or new w 0 ≡ get_or old w 0) at (same (chunk + 1) (omega (arith, lt)))

  pub array_same : Keeps old (array_rule header) → Keeps new (array_rule header)
  array_same keeps = array_from new header (let most = at_most_12 old header keeps in omega (arith, count_same, most)) (λ chunk lt.
      ap (λ (b : Bool). cond (ltb chunk (chunk_count new header)) b (cond (eqb chunk (chunk_count new header)) (eqb (get_or new (chunk_pointer_at header chunk) 0) 0 || b) (eqb (get_or new (chunk_pointer_at header chunk) 0) 0)))
      (points_same old new size (chunk_words chunk) (get_or new (chunk_pointer_at header chunk) 0))
      ∙ ap (λ (n : ℕ). is_chunk_pointer old n chunk (get_or new (chunk_pointer_at header chunk) 0)) count_same
      ∙ ap (λ (p : ℕ). is_chunk_pointer old (chunk_count old header) chunk p) (pointer_same chunk lt) ∙ pointer_rule old header keeps chunk lt)

  pub places_same : Keeps old (array_rule header) → (index : ℕ) → index < capacity old header → place_of new header index ≡ place_of old header index
  places_same keeps index lt =
      let most = at_most_12 old header keeps in
      let below = (index_chunk old header keeps index lt).0 in
      ap (λ (word : ℕ). place_in word + offset_of index) (pointer_same (chunk_of index) (omega (arith, below, most)))
