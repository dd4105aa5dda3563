-- The checks of stamps, chunk by chunk.
use Rattle.std.proofs.Common.{◌≡◌, ⊎_elim, ℕ, zero, suc, ◌+◌, ◌-◌, ◌<◌, ◌≤◌, max, Bool, true, false, ◌&&◌, ltb, leb, cond, List, [], ◌∷◌, ◌++◌, get_or, refl, sym, ◌∙◌, ap, subst, append-nil, arith}
use Rattle.std.specs.Prelude.{◌↔◌, Option, None, Some, IsNone, IfSome, option_map}
use Rattle.std.specs.Option.{is_some}
use Rattle.std.specs.List.{flat_map, list_all, range_with_len}
use Rattle.std.proofs.lemmas.Bool.{and_parts, cases_lt, both_ways, ltb-true, lt-ltb, le-ltb, le-leb, lt-leb, leb-true, cond-true, cond-false}
use Rattle.std.proofs.lemmas.List.Concat.{flat_map-append}
use Rattle.std.proofs.lemmas.List.Folds.{flat_map-map, list_all-map}
use Rattle.image_layout.specs.Places.{below, place_in, is_pointer_to}
use Rattle.image_layout.specs.Records.{created_header, ended_header, high_at, since_at}
use Rattle.image_layout.specs.Arrays.{array_rule, capacity, capacity_of, chunk_of, chunk_pointer_at, chunk_words, place_of}
use Rattle.image_layout.specs.Tables.{column_count, column_record, columns_of, since_of, table_block, table_count}
use Rattle.image_layout.specs.Checks.{Check, check, Keeps, first_failing}
use Rattle.image_layout.specs.SoundRules.{is_created, is_ended, is_row_bound, row_checks, stamp_checks, stamp_rule}
use Rattle.image_rules.specs.Stamps.{chunk_place, place_checks}
use Rattle.image_layout.proofs.ChunkSizes.{capacity_next, capacity-rises, chunk_is}
use Rattle.image_layout.proofs.Faults.{passes, fails}
use Rattle.image_layout.proofs.Ranges.{range_append, below_more}
use Rattle.image_rules.proofs.TableArrays.{array_kept}
use Rattle.image_rules.proofs.Firsts.{flat_none, flat_found, found_none, map-range}

-- ── numbers in runs ──

shifted : (f : ℕ → List Check) (n from : ℕ) → flat_map f (range_with_len from n) ≡ flat_map (λ x. f (from + x)) (below n)
shifted f n from = ap (flat_map f) (sym (map-range (λ x. from + x) n 0 from (λ k lt. omega arith))) ∙ flat_map-map f (λ x. from + x) (below n)

-- the rows of the first chunks are those of each
by_chunks : (f : ℕ → List Check) (n : ℕ) → flat_map f (below (capacity_of n)) ≡ flat_map (λ chunk. flat_map f (range_with_len (capacity_of chunk) (chunk_words chunk))) (below n)
by_chunks f zero = refl
by_chunks f (suc n) =
    let of_chunk : ℕ → List Check = λ chunk. flat_map f (range_with_len (capacity_of chunk) (chunk_words chunk)) in
    let here : 0 + capacity_of n ≡ capacity_of n = omega arith in
    let one : suc n ≡ n + 1 = omega arith in
    ap (flat_map f) (range_append 0 (capacity_of n) (chunk_words n) ∙ ap (λ (x : ℕ). below (capacity_of n) ++ range_with_len x (chunk_words n)) here)
    ∙ flat_map-append f (below (capacity_of n)) (range_with_len (capacity_of n) (chunk_words n))
    ∙ ap (λ (checks : List Check). checks ++ of_chunk n) (by_chunks f n)
    ∙ ap (λ (checks : List Check). flat_map of_chunk (below n) ++ checks) (sym (append-nil (of_chunk n)))
    ∙ sym (ap (λ (k : ℕ). flat_map of_chunk (below k)) one ∙ ap (flat_map of_chunk) (below_more n) ∙ flat_map-append of_chunk (below n) (n ∷ []))

most_rows : (a b : ℕ) → max (capacity_of a) (capacity_of b) ≡ capacity_of (max a b)
most_rows a b = ⊎_elim
    (λ lt. let rises = capacity-rises a b (omega (arith, lt)) in let is : max a b ≡ b = omega (arith, lt) in let e = ap capacity_of is in omega (arith, rises, e))
    (λ ge. let rises = capacity-rises b a ge in let is : max a b ≡ a = omega (arith, ge) in let e = ap capacity_of is in omega (arith, rises, e))
    (cases_lt a b)

all_from : (test : ℕ → Bool) (n a : ℕ) → ((x : ℕ) → a ≤ x → x < a + n → test x ≡ true) → list_all test (range_with_len a n) ≡ true
all_from test zero a each = refl
all_from test (suc n) a each =
    ap (λ (b : Bool). b && list_all test (range_with_len (a + 1) n)) (each a (omega arith) (omega arith)) ∙ all_from test n (a + 1) (λ x low high. each x (omega arith) (omega arith))

not_all_from : (test : ℕ → Bool) (n a k : ℕ) → a ≤ k → k < a + n → test k ≡ false → list_all test (range_with_len a n) ≡ false
not_all_from test zero a k low high miss = absurd (omega arith)
not_all_from test (suc n) a k low high miss = ⊎_elim
    (λ later. either (test a) (list_all test (range_with_len (a + 1) n)) (not_all_from test n (a + 1) k (omega (arith, later)) (omega arith) miss))
    (λ here. let e : a ≡ k = omega (arith, here, low) in ap (λ (b : Bool). b && list_all test (range_with_len (a + 1) n)) (ap test e ∙ miss))
    (cases_lt a k)
  where
    either : (b rest : Bool) → rest ≡ false → (b && rest) ≡ false
    either true rest none = none
    either false rest none = refl

-- a pointer's place
pub pointed : (found : Option ℕ) (holds : Bool) (place : ℕ) → (IsNone found ↔ (holds ≡ false)) → IfSome found (λ at. at ≡ place) → holds ≡ true → found ≡ Some place
pointed None holds place both is hit = absurd (both_ways holds (both.0 refl) hit)
pointed (Some at) holds place both is hit = ap Some is

-- a word of a chunk that lies in the image
pub place_fits : (chunk : Option ℕ) (offset size len : ℕ) → IfSome chunk (λ first. first + size ≤ len) → offset < size → len ≤ 4194304 → IfSome chunk (λ first. first + offset < 4294967296)
place_fits None offset size len within lt most = tt
place_fits (Some first) offset size len within lt most = omega (arith, within, lt, most)

pub place_inside : (chunk place : Option ℕ) (offset size len : ℕ) → place ≡ option_map (λ first. first + offset) chunk → IfSome chunk (λ first. first + size ≤ len) → offset < size → IfSome place (λ at. at < len)
place_inside chunk place offset size len is within lt = subst (λ (p : Option ℕ). IfSome p (λ at. at < len)) (sym is) (inside chunk within)
  where
    inside : (c : Option ℕ) → IfSome c (λ first. first + size ≤ len) → IfSome (option_map (λ first. first + offset) c) (λ at. at < len)
    inside None fits = tt
    inside (Some first) fits = omega (arith, fits, lt)

module _ (words : List ℕ) where
  -- ── one chunk of an array ──

  unpublished : (header chunk : ℕ) → get_or words header 0 ≤ chunk → None ≡ chunk_place words header chunk
  unpublished header chunk le = sym (cond-false (ltb chunk (get_or words header 0)) (Some (place_in (get_or words (chunk_pointer_at header chunk) 0))) None (le-ltb chunk (get_or words header 0) le))

  pub published : (header chunk size pointer : ℕ) (found : Option ℕ) → Keeps words (array_rule header) → chunk < 12 → size ≡ chunk_words chunk → chunk < get_or words header 0 → pointer ≡ chunk_pointer_at header chunk
      → (IsNone found ↔ (is_pointer_to words size (get_or words pointer 0) ≡ false)) → IfSome found (λ at. at ≡ place_in (get_or words pointer 0)) → found ≡ chunk_place words header chunk
  published header chunk size pointer found keeps lt whole below at both is =
      let word : get_or words pointer 0 ≡ get_or words (chunk_pointer_at header chunk) 0 = ap (λ (p : ℕ). get_or words p 0) at in
      pointed found (is_pointer_to words size (get_or words pointer 0)) (place_in (get_or words pointer 0)) both is
      (ap (λ (n : ℕ). is_pointer_to words n (get_or words pointer 0)) whole ∙ ap (is_pointer_to words (chunk_words chunk)) word ∙ array_kept words header keeps chunk lt below)
      ∙ ap (λ (w : ℕ). Some (place_in w)) word
      ∙ sym (cond-true (ltb chunk (get_or words header 0)) (Some (place_in (get_or words (chunk_pointer_at header chunk) 0))) None (lt-ltb chunk (get_or words header 0) below))

  pub header_at : (chunk header at : ℕ) → header ≡ at → chunk_place words header chunk ≡ chunk_place words at chunk
  header_at chunk header at same = ap (λ (h : ℕ). chunk_place words h chunk) same

  -- ── one row ──

  -- where a row's word of an array stands, if it is published
  abbrev pub row_place : ℕ → ℕ → Option ℕ
  row_place header row = cond (ltb row (capacity words header)) (Some (place_of words header row)) None

  pub in_chunk : (header chunk offset : ℕ) → chunk < 12 → offset < chunk_words chunk → row_place header (capacity_of chunk + offset) ≡ option_map (λ first. first + offset) (chunk_place words header chunk)
  in_chunk header chunk offset lt inside = at_row (capacity_of chunk + offset) refl
    where
      at_row : (row : ℕ) → row ≡ capacity_of chunk + offset → row_place header row ≡ option_map (λ first. first + offset) (chunk_place words header chunk)
      at_row row size = ⊎_elim
          (λ here.
          let rises = capacity-rises (chunk + 1) (get_or words header 0) (omega (arith, here)) in
          let next = capacity_next chunk in
          let within : row < capacity_of (get_or words header 0) = omega (arith, rises, next, inside, size) in
          let is : chunk_of row ≡ chunk = chunk_is chunk row lt (omega (arith, size)) (omega (arith, next, inside, size)) in
          let left : row - capacity_of chunk ≡ offset = omega (arith, size) in
          cond-true (ltb row (capacity words header)) (Some (place_of words header row)) None (lt-ltb row (capacity words header) within)
          ∙ ap (λ (k : ℕ). Some (place_in (get_or words (chunk_pointer_at header k) 0) + (row - capacity_of k))) is
          ∙ ap (λ (n : ℕ). Some (place_in (get_or words (chunk_pointer_at header chunk) 0) + n)) left
          ∙ sym (ap (option_map (λ first. first + offset)) (cond-true (ltb chunk (get_or words header 0)) (Some (place_in (get_or words (chunk_pointer_at header chunk) 0))) None (lt-ltb chunk (get_or words header 0) here))))
          (λ none.
          let rises = capacity-rises (get_or words header 0) chunk none in
          let beyond : capacity_of (get_or words header 0) ≤ row = omega (arith, rises, size) in
          cond-false (ltb row (capacity words header)) (Some (place_of words header row)) None (le-ltb row (capacity words header) beyond)
          ∙ ap (option_map (λ first. first + offset)) (unpublished header chunk none))
          (cases_lt chunk (get_or words header 0))

  module _ (block : ℕ) where
    abbrev bound : ℕ
    bound = get_or words (high_at block) 0

    -- a stamp is only read where it is published
    by_places : (stamped created ended : Bool) (created_at ended_at : ℕ) → (stamped ≡ true → created ≡ true)
        → cond created (check created_at (is_created words stamped (get_or words created_at 0)) ∷ []) [] ++ cond ended (check ended_at (is_ended words stamped (get_or words created_at 0) (get_or words ended_at 0)) ∷ []) []
        ≡ place_checks words stamped (cond created (Some created_at) None) (cond ended (Some ended_at) None)
    by_places true true true created_at ended_at has = refl
    by_places true true false created_at ended_at has = refl
    by_places true false ended created_at ended_at has = absurd (both_ways false refl (has refl))
    by_places false true true created_at ended_at has = refl
    by_places false true false created_at ended_at has = refl
    by_places false false true created_at ended_at has = refl
    by_places false false false created_at ended_at has = refl

    row-is : (row : ℕ) → bound ≤ capacity words (created_header block) → row_checks words block row ≡ place_checks words (ltb row bound) (row_place (created_header block) row) (row_place (ended_header block) row)
    row-is row le =
        by_places (ltb row bound) (ltb row (capacity words (created_header block))) (ltb row (capacity words (ended_header block))) (place_of words (created_header block) row) (place_of words (ended_header block) row)
        (λ hit. let lt = ltb-true row bound hit in lt-ltb row (capacity words (created_header block)) (omega (arith, lt, le)))

    pub row_at : (chunk offset first row place : ℕ) (created ended created_chunk ended_chunk found : Option ℕ) → chunk < 12 → offset < chunk_words chunk → get_or words (high_at block) 0 ≤ capacity words (created_header block)
        → row ≡ first + offset → first ≡ capacity_of chunk → place ≡ high_at block
        → created_chunk ≡ chunk_place words (created_header block) chunk → created ≡ option_map (λ first. first + offset) created_chunk
        → ended_chunk ≡ chunk_place words (ended_header block) chunk → ended ≡ option_map (λ first. first + offset) ended_chunk
        → found ≡ first_failing (place_checks words (ltb row (get_or words place 0)) created ended) → found ≡ first_failing (row_checks words block (capacity_of chunk + offset))
    row_at chunk offset first row place created ended created_chunk ended_chunk found lt inside le row_is first_is place_is created_chunk_is created_is ended_chunk_is ended_is here =
        let at : row ≡ capacity_of chunk + offset = omega (arith, row_is, first_is) in
        let of_place = option_map (λ (first : ℕ). first + offset) in
        here
        ∙ ap (λ (r : ℕ). first_failing (place_checks words (ltb r (get_or words place 0)) created ended)) at
        ∙ ap (λ (p : ℕ). first_failing (place_checks words (ltb (capacity_of chunk + offset) (get_or words p 0)) created ended)) place_is
        ∙ ap (λ (c : Option ℕ). first_failing (place_checks words (ltb (capacity_of chunk + offset) bound) c ended)) (created_is ∙ ap of_place created_chunk_is ∙ sym (in_chunk (created_header block) chunk offset lt inside))
        ∙ ap (λ (e : Option ℕ). first_failing (place_checks words (ltb (capacity_of chunk + offset) bound) (row_place (created_header block) (capacity_of chunk + offset)) e)) (ended_is ∙ ap of_place ended_chunk_is ∙ sym (in_chunk (ended_header block) chunk offset lt inside))
        ∙ ap first_failing (sym (row-is (capacity_of chunk + offset) le))

    -- ── one chunk of rows ──

    abbrev pub chunk_rows : ℕ → List Check
    chunk_rows chunk = flat_map (row_checks words block) (range_with_len (capacity_of chunk) (chunk_words chunk))

    abbrev pub RowsBelow : ℕ → ℕ → Type 0
    RowsBelow chunk k = (x : ℕ) → x < k → first_failing (row_checks words block (capacity_of chunk + x)) ≡ None

    pub row_found : (chunk offset : ℕ) (found : Option ℕ) → offset < chunk_words chunk → RowsBelow chunk offset → found ≡ first_failing (row_checks words block (capacity_of chunk + offset)) → is_some found ≡ true
        → found ≡ first_failing (chunk_rows chunk)
    row_found chunk offset found lt each here some =
        flat_found (λ x. row_checks words block (capacity_of chunk + x)) (chunk_words chunk) offset found lt each here some ∙ ap first_failing (sym (shifted (row_checks words block) (chunk_words chunk) (capacity_of chunk)))

    pub rows_none : (chunk : ℕ) → RowsBelow chunk (chunk_words chunk) → None ≡ first_failing (chunk_rows chunk)
    rows_none chunk each = sym (ap first_failing (shifted (row_checks words block) (chunk_words chunk) (capacity_of chunk)) ∙ flat_none (λ x. row_checks words block (capacity_of chunk + x)) (chunk_words chunk) each)

    -- ── a table ──

    abbrev reaches : ℕ → Bool
    reaches header = leb bound (capacity words header)

    abbrev pub is_bounded : Bool
    is_bounded = is_row_bound words block (get_or words (high_at block) 0)

    abbrev chunks : ℕ
    chunks = max (get_or words (created_header block) 0) (get_or words (ended_header block) 0)

    abbrev pub ChunksBelow : ℕ → Type 0
    ChunksBelow k = (x : ℕ) → x < k → first_failing (flat_map (row_checks words block) (range_with_len (capacity_of x) (chunk_words x))) ≡ None

    pub high_fails : (place : ℕ) (bounded : Bool) → place ≡ high_at block → bounded ≡ is_bounded → bounded ≡ false → Some place ≡ first_failing (stamp_checks words block)
    unfolding stamp_checks
    high_fails place bounded at is miss =
        ap (λ (p : ℕ). Some p) at
        ∙ sym (fails (check (high_at block) is_bounded) (flat_map (row_checks words block) (below (max (capacity words (created_header block)) (capacity words (ended_header block))))) (sym is ∙ miss))

    table_chunks : (bounded : Bool) → bounded ≡ is_bounded → bounded ≡ true → first_failing (stamp_checks words block) ≡ first_failing (flat_map chunk_rows (below chunks))
    unfolding stamp_checks
    table_chunks bounded is hit =
        passes (check (high_at block) is_bounded) (flat_map (row_checks words block) (below (max (capacity words (created_header block)) (capacity words (ended_header block))))) (sym is ∙ hit)
        ∙ ap (λ (n : ℕ). first_failing (flat_map (row_checks words block) (below n))) (most_rows (get_or words (created_header block) 0) (get_or words (ended_header block) 0))
        ∙ ap first_failing (by_chunks (row_checks words block) chunks)

    pub chunk_found : (bounded : Bool) (count chunk : ℕ) (found : Option ℕ) → bounded ≡ is_bounded → bounded ≡ true → count ≡ max (get_or words (created_header block) 0) (get_or words (ended_header block) 0) → chunk < count → ChunksBelow chunk
        → found ≡ first_failing (flat_map (row_checks words block) (range_with_len (capacity_of chunk) (chunk_words chunk))) → is_some found ≡ true → found ≡ first_failing (stamp_checks words block)
    chunk_found bounded count chunk found is hit size lt each here some =
        flat_found chunk_rows chunks chunk found (omega (arith, size, lt)) each here some ∙ sym (table_chunks bounded is hit)

    pub chunks_none : (bounded : Bool) (count : ℕ) → bounded ≡ is_bounded → bounded ≡ true → count ≡ max (get_or words (created_header block) 0) (get_or words (ended_header block) 0) → ChunksBelow count → None ≡ first_failing (stamp_checks words block)
    chunks_none bounded count is hit size each = sym (table_chunks bounded is hit ∙ flat_none chunk_rows chunks (λ x lt. each x (omega (arith, size, lt))))

    -- ── the bound, the arrays and the columns ──

    abbrev pub SincesBelow : ℕ → Type 0
    SincesBelow k = (x : ℕ) → x < k → get_or words (since_at (column_record words block x)) 0 ≤ get_or words (high_at block) 0

    abbrev begins : ℕ → Bool
    begins column = leb (since_of words column) bound

    abbrev numbered_begins : ℕ → Bool
    numbered_begins number = begins (column_record words block number)

    columns_are : list_all begins (columns_of words block) ≡ list_all numbered_begins (below (column_count words block))
    columns_are = list_all-map begins (column_record words block) (below (column_count words block))

    three : (created ended rest : Bool) → created ≡ reaches (created_header block) → ended ≡ reaches (ended_header block) → rest ≡ list_all begins (columns_of words block) → (created && ended && rest) ≡ is_bounded
    three created ended rest first second last = rw (first, second, last) refl

    pub created_short : capacity words (created_header block) < get_or words (high_at block) 0 → false ≡ is_bounded
    created_short short = three false (reaches (ended_header block)) (list_all begins (columns_of words block)) (sym (lt-leb bound (capacity words (created_header block)) short)) refl refl

    pub ended_short : get_or words (high_at block) 0 ≤ capacity words (created_header block) → capacity words (ended_header block) < get_or words (high_at block) 0 → false ≡ is_bounded
    ended_short le short = three true false (list_all begins (columns_of words block)) (sym (le-leb bound (capacity words (created_header block)) le)) (sym (lt-leb bound (capacity words (ended_header block)) short)) refl

    pub begins_late : (number : ℕ) → get_or words (high_at block) 0 ≤ capacity words (created_header block) → get_or words (high_at block) 0 ≤ capacity words (ended_header block) → number < column_count words block
        → get_or words (high_at block) 0 < get_or words (since_at (column_record words block number)) 0 → false ≡ is_bounded
    begins_late number first second lt late =
        three true true false (sym (le-leb bound (capacity words (created_header block)) first)) (sym (le-leb bound (capacity words (ended_header block)) second))
        (sym (columns_are ∙ not_all_from numbered_begins (column_count words block) 0 number (omega arith) (omega (arith, lt)) (lt-leb (get_or words (since_at (column_record words block number)) 0) bound late)))

    pub all_reach : get_or words (high_at block) 0 ≤ capacity words (created_header block) → get_or words (high_at block) 0 ≤ capacity words (ended_header block) → SincesBelow (column_count words block) → true ≡ is_bounded
    all_reach first second each =
        three true true true (sym (le-leb bound (capacity words (created_header block)) first)) (sym (le-leb bound (capacity words (ended_header block)) second))
        (sym (columns_are ∙ all_from numbered_begins (column_count words block) 0 (λ x low high. le-leb (get_or words (since_at (column_record words block x)) 0) bound (each x (omega (arith, high))))))

    pub created_reaches : (bounded : Bool) → bounded ≡ is_bounded → bounded ≡ true → get_or words (high_at block) 0 ≤ capacity words (created_header block)
    created_reaches bounded is hit =
        leb-true bound (capacity words (created_header block))
        (and_parts (reaches (created_header block)) (reaches (ended_header block)) (and_parts (reaches (created_header block) && reaches (ended_header block)) (list_all begins (columns_of words block)) (sym is ∙ hit)).0).0

    -- the number of rows of an array, as it is read
    pub over : (place header at rows : ℕ) → place ≡ high_at block → header ≡ at → rows ≡ capacity words header → rows < get_or words place 0 → capacity words at < get_or words (high_at block) 0
    over place header at rows is same here lt =
        let e = ap (λ (p : ℕ). get_or words p 0) is in
        let f = here ∙ ap (capacity words) same in
        omega (arith, e, f, lt)

    pub within : (place header at rows : ℕ) → place ≡ high_at block → header ≡ at → rows ≡ capacity words header → get_or words place 0 ≤ rows → get_or words (high_at block) 0 ≤ capacity words at
    within place header at rows is same here le =
        let e = ap (λ (p : ℕ). get_or words p 0) is in
        let f = here ∙ ap (capacity words) same in
        omega (arith, e, f, le)

  -- ── all tables ──

  abbrev pub StampsBelow : ℕ → Type 0
  StampsBelow k = (x : ℕ) → x < k → first_failing (stamp_checks words (table_block words x)) ≡ None

  abbrev of_table : ℕ → List Check
  of_table table = stamp_checks words (table_block words table)

  by_table : first_failing (stamp_rule words) ≡ first_failing (flat_map of_table (below (table_count words)))
  unfolding stamp_rule
  by_table = ap first_failing (flat_map-map (stamp_checks words) (table_block words) (below (table_count words)))

  pub stamps_found : (k block : ℕ) (found : Option ℕ) → k < table_count words → StampsBelow k → block ≡ table_block words k → found ≡ first_failing (stamp_checks words block) → is_some found ≡ true → found ≡ first_failing (stamp_rule words)
  stamps_found k block found lt each at here some = flat_found of_table (table_count words) k found lt each (here ∙ ap (λ (b : ℕ). first_failing (stamp_checks words b)) at) some ∙ sym by_table

  pub stamp_none : (k block : ℕ) (found : Option ℕ) → block ≡ table_block words k → found ≡ first_failing (stamp_checks words block) → is_some found ≡ false → first_failing (stamp_checks words (table_block words k)) ≡ None
  stamp_none k block found at here none = ap (λ (b : ℕ). first_failing (stamp_checks words b)) (sym at) ∙ found_none found (first_failing (stamp_checks words block)) here none

  pub stamps_none : StampsBelow (table_count words) → None ≡ first_failing (stamp_rule words)
  stamps_none each = sym (by_table ∙ flat_none of_table (table_count words) each)
