-- Where owner words are apart: each of a table, an array or an object names a live block of its size, and no two of them one.
use Rattle.std.proofs.Common.{◌≡◌, ◌≢◌, inl, ⊎_elim, ℕ, zero, suc, ◌+◌, ◌*◌, ◌/◌, ◌^◌, ◌<◌, ◌≤◌, min, Bool, true, false, not, ◌&&◌, eqb, leb, List, [], ◌∷◌, ◌++◌, map, refl, sym, ap, subst, arith}
use Rattle.std.specs.Prelude.{All, Contains, filter}
use Rattle.std.proofs.Math.Pow.{pow_mono}
use Rattle.std.specs.List.{flat_map, list_any}
use Rattle.std.proofs.lemmas.Bool.{both_ways, not-true, cases_Bool, cases_lt, eqb-true, eq-eqb, ne_eqb, lt-leb, cond-false, and_parts, and_left, not_from_false}
use Rattle.std.proofs.lemmas.List.Elements.{All-nil, All-cons, All-contains, Contains-append_left, Contains-append_right}
use Rattle.image_layout.specs.Places.{below, is_pointer}
use Rattle.image_layout.specs.Records.{codes_header, created_header, dictionary_header, ended_header, new_leaf_at, table_words}
use Rattle.image_layout.specs.Arrays.{chunk_count, chunk_words}
use Rattle.image_layout.specs.Blocks.{Block, slot_words, class_for, block_words, live_blocks, is_live, is_reserved, descriptor_of}
use Rattle.image_layout.specs.HeapRules.{reserved_rule, descriptor_rule}
use Rattle.image_layout.specs.Checks.{Keeps}
use Rattle.image_layout.specs.Tables.{table_count, table_block, columns_of, all_columns, column_headers, array_headers, extension_count, is_first_version}
use Rattle.image_layout.specs.Objects.{ready_count}
use Rattle.image_layout.specs.Owners.{Owner, word_of, named_block, names_one, chunk_owner, array_owners, link_places, leaf_owner, text_owners, column_owners, table_owner, extension_owner, extension_owners, block_owners, table_owners, segment_owner, object_owners, owner_words, owns_block, new_leaf_owners, unfinished_slots, firm_owners, owner_places, is_replaced_in, NameApart, OwnersAreApart}
use Rattle.image_layout.proofs.Members.{below-Contains, Contains-here, Contains-there, Contains-cons, Contains-nil, Contains-flat_map, flat_map-Contains, map-Contains, filter-Contains}
use Rattle.image_layout.proofs.Precedes.{Precedes, precedes_left, precedes_right, precedes_across, precedes_map, precedes_filter, precedes_parts, precedes_within, precedes_below, pair_of}
use Rattle.image_layout.proofs.Heap.{IsSmallOf, IsBigOf, page_of_block, reserved_descriptor, small_class, big_pages}

-- ── live blocks ──

-- a live block of some words begins at a place
pub record LiveAt (words : List ℕ) (place count : ℕ) : Type 0 where
  pub block : Block
  pub live : Contains (live_blocks words) block
  pub first : block.first ≡ place
  pub size : block.words ≡ count

pub live_at : (words : List ℕ) (place count : ℕ) → is_live words place count ≡ true → LiveAt words place count
live_at words place count is = found (live_blocks words) (λ block live. live) is
  where
    found : (blocks : List Block) → ((block : Block) → Contains blocks block → Contains (live_blocks words) block)
        → list_any (λ block. eqb block.first place && eqb block.words count) blocks ≡ true → LiveAt words place count
    found [] all is = absurd (both_ways false refl is)
    found (block ∷ blocks) all is = ⊎_elim
        (λ here. let parts = and_parts (eqb block.first place) (eqb block.words count) here in
        record { block = block; live = all block (Contains-here block blocks); first = eqb-true block.first place parts.0; size = eqb-true block.words count parts.1 })
        (λ miss. found blocks (λ other there. all other (Contains-there block other blocks there)) (rw miss at is))
        (cases_Bool (eqb block.first place && eqb block.words count))

-- no live block has a word of the fixed pages
pub live_behind : (words : List ℕ) → Keeps words reserved_rule → (block : Block) → Contains (live_blocks words) block → 2048 ≤ block.first
live_behind words reserved block live =
    let (page, lt, of) = page_of_block words block live in
    ⊎_elim
    (λ (low : page < 4). let fixed = reserved_descriptor words reserved page lt (low_reserved page low) in ⊎_elim (λ small. absurd (small_no page fixed small)) (λ big. absurd (big_no page fixed big)) of)
    (λ high. ⊎_elim (λ small. let at = ap (λ (b : Block). b.first) small.block_is in omega (arith, at, high)) (λ big. let at = ap (λ (b : Block). b.first) big.block_is in omega (arith, at, high)) of)
    (cases_lt page 4)
  where
    low_reserved : (page : ℕ) → page < 4 → is_reserved page ≡ true
    low_reserved zero lt = refl
    low_reserved (suc zero) lt = refl
    low_reserved (suc (suc zero)) lt = refl
    low_reserved (suc (suc (suc zero))) lt = refl
    low_reserved (suc (suc (suc (suc page)))) lt = absurd (omega (arith, lt))

    small_no : (page : ℕ) → descriptor_of words page ≡ 8 → IsSmallOf words page block → ⊥
    small_no page fixed small = let high = (small_class (descriptor_of words page) small.small).1 in omega (arith, fixed, high)

    big_no : (page : ℕ) → descriptor_of words page ≡ 8 → IsBigOf words page block → ⊥
    big_no page fixed big = let low = (big_pages (descriptor_of words page) big.big).0 in omega (arith, fixed, low)

-- ── sizes ──

pages_size : (count : ℕ) → 256 < count → block_words count ≡ 512 * ((count + 511) / 512)
pages_size count many = cond-false (leb count 256) (slot_words (class_for count)) (512 * ((count + 511) / 512)) (lt-leb count 256 many)

-- a table's block holds its words
pub table_fits : (columns : ℕ) → columns ≤ 16 → table_words columns ≤ block_words (table_words columns)
table_fits zero le = omega arith
table_fits (suc zero) le = omega arith
table_fits (suc (suc zero)) le = omega arith
table_fits (suc (suc (suc zero))) le = omega arith
table_fits (suc (suc (suc (suc zero)))) le = omega arith
table_fits (suc (suc (suc (suc (suc zero))))) le = omega arith
table_fits (suc (suc (suc (suc (suc (suc columns)))))) le = let size = pages_size (table_words (columns + 6)) (omega arith) in let same = ap block_words (fold_words columns) in omega (arith, size, same)
  where
    fold_words : (columns : ℕ) → table_words (columns + 6) ≡ table_words (suc (suc (suc (suc (suc (suc columns))))))
    fold_words columns = omega arith

-- a chunk is a block of whole pages
pub chunk_size : (chunk : ℕ) → block_words (chunk_words chunk) ≡ chunk_words chunk
chunk_size chunk = let some = pow_some (min chunk 5) in let size = pages_size (chunk_words chunk) (omega (arith, some)) in omega (arith, size)
  where
    pow_some : (n : ℕ) → 1 ≤ 2 ^ n
    pow_some n = pow_mono {i = 0} {j = n} (omega arith)

-- ── lists ──

none_any : {X : Type 0} (p : X → Bool) (xs : List X) → ((x : X) → Contains xs x → p x ≡ false) → list_any p xs ≡ false
none_any p [] none = refl
none_any p (x ∷ xs) none = let here = none x (Contains-here x xs) in rw here (none_any p xs (λ y there. none y (Contains-there x y xs there)))

pub all_from : {X : Type 0} (P : X → Type 0) (xs : List X) → ((x : X) → Contains xs x → P x) → All P xs
all_from P [] each = All-nil P
all_from P (x ∷ xs) each = All-cons P x xs (each x (Contains-here x xs)) (all_from P xs (λ y there. each y (Contains-there x y xs there)))

-- a word that isn't 0, as a test
nonzero : (word : ℕ) → not (eqb word 0) ≡ true → word ≢ 0
nonzero word is none = both_ways (eqb word 0) (not-true (eqb word 0) is) (eq-eqb word 0 none)

pub named : (words : List ℕ) (owner : Owner) → word_of words owner ≢ 0 → names_one words owner ≡ true
named words owner some = not_from_false (eqb (word_of words owner) 0) (ne_eqb (word_of words owner) 0 some)

module _ (words : List ℕ) where
  -- ── where the owner words stand ──

  pub table_in : (table : ℕ) → table < table_count words → Contains (owner_words words) (table_owner words table)
  unfolding owner_words
  table_in table lt = Contains-append_left (flat_map (table_owners words) (below (table_count words))) (flat_map (object_owners words) (below 16)) (table_owner words table)
      (flat_map-Contains (table_owners words) (below (table_count words)) table (table_owner words table) (below-Contains (table_count words) table lt)
      (Contains-here (table_owner words table) (block_owners words (table_block words table))))

  pub block_in : (table : ℕ) (owner : Owner) → table < table_count words → Contains (block_owners words (table_block words table)) owner → Contains (owner_words words) owner
  unfolding owner_words
  block_in table owner lt is = Contains-append_left (flat_map (table_owners words) (below (table_count words))) (flat_map (object_owners words) (below 16)) owner
      (flat_map-Contains (table_owners words) (below (table_count words)) table owner (below-Contains (table_count words) table lt)
      (Contains-there (table_owner words table) owner (block_owners words (table_block words table)) is))

  pub object_in : (object : ℕ) (owner : Owner) → object < 16 → Contains (object_owners words object) owner → Contains (owner_words words) owner
  unfolding owner_words
  object_in object owner lt is = Contains-append_right (flat_map (table_owners words) (below (table_count words))) (flat_map (object_owners words) (below 16)) owner
      (flat_map-Contains (object_owners words) (below 16) object owner (below-Contains 16 object lt) is)

  -- a table's slot stands before the words of its block, and before those of later tables and of objects
  pub table_before_own : (table : ℕ) (owner : Owner) → table < table_count words → Contains (block_owners words (table_block words table)) owner → Precedes (owner_words words) (table_owner words table) owner
  unfolding owner_words
  table_before_own table owner lt is = precedes_left (flat_map (table_owners words) (below (table_count words))) (flat_map (object_owners words) (below 16)) (table_owner words table) owner
      (precedes_within (table_owners words) (below (table_count words)) table (table_owner words table) owner (below-Contains (table_count words) table lt) (inl (refl, is)))

  pub table_before_table : (table other : ℕ) → table < other → other < table_count words → Precedes (owner_words words) (table_owner words table) (table_owner words other)
  unfolding owner_words
  table_before_table table other order lt = precedes_left (flat_map (table_owners words) (below (table_count words))) (flat_map (object_owners words) (below 16)) (table_owner words table) (table_owner words other)
      (precedes_parts (table_owners words) (below (table_count words)) table other (table_owner words table) (table_owner words other)
      (precedes_below 0 (table_count words) table other (omega arith) order (omega (arith, lt)))
      (Contains-here (table_owner words table) (block_owners words (table_block words table))) (Contains-here (table_owner words other) (block_owners words (table_block words other))))

  pub table_before_object : (table object : ℕ) (owner : Owner) → table < table_count words → object < 16 → Contains (object_owners words object) owner → Precedes (owner_words words) (table_owner words table) owner
  unfolding owner_words
  table_before_object table object owner lt few is = precedes_across (flat_map (table_owners words) (below (table_count words))) (flat_map (object_owners words) (below 16)) (table_owner words table) owner
      (flat_map-Contains (table_owners words) (below (table_count words)) table (table_owner words table) (below-Contains (table_count words) table lt)
      (Contains-here (table_owner words table) (block_owners words (table_block words table))))
      (flat_map-Contains (object_owners words) (below 16) object owner (below-Contains 16 object few) is)

  pub object_before_object : (object : ℕ) (owner other : Owner) → object < 16 → Precedes (object_owners words object) owner other → Precedes (owner_words words) owner other
  unfolding owner_words
  object_before_object object owner other lt is = precedes_right (flat_map (table_owners words) (below (table_count words))) (flat_map (object_owners words) (below 16)) owner other
      (precedes_within (object_owners words) (below 16) object owner other (below-Contains 16 object lt) is)

  -- the pointer to a chunk is among the words of its array, and the pointer to a segment among those of its object
  pub chunk_in : (header chunk : ℕ) → chunk ≤ chunk_count words header → chunk < 12 → names_one words (chunk_owner header chunk) ≡ true → Contains (array_owners words header) (chunk_owner header chunk)
  chunk_in header chunk le lt is = filter-Contains (names_one words) (map (chunk_owner header) (below (min (chunk_count words header + 1) 12))) (chunk_owner header chunk)
      (map-Contains (chunk_owner header) (below (min (chunk_count words header + 1) 12)) chunk (below-Contains (min (chunk_count words header + 1) 12) chunk (omega (arith, le, lt)))) is

  pub segment_in : (object segment : ℕ) → segment ≤ ready_count words object → names_one words (segment_owner words object segment) ≡ true → Contains (object_owners words object) (segment_owner words object segment)
  segment_in object segment le is = filter-Contains (names_one words) (map (segment_owner words object) (below (ready_count words object + 1))) (segment_owner words object segment)
      (map-Contains (segment_owner words object) (below (ready_count words object + 1)) segment (below-Contains (ready_count words object + 1) segment (omega (arith, le)))) is

  pub segment_before : (object segment other : ℕ) → segment < other → other ≤ ready_count words object → names_one words (segment_owner words object segment) ≡ true → names_one words (segment_owner words object other) ≡ true
      → Precedes (object_owners words object) (segment_owner words object segment) (segment_owner words object other)
  segment_before object segment other order le first second = precedes_filter (names_one words) (map (segment_owner words object) (below (ready_count words object + 1))) (segment_owner words object segment) (segment_owner words object other) first second
      (precedes_map (segment_owner words object) (below (ready_count words object + 1)) segment other (precedes_below 0 (ready_count words object + 1) segment other (omega arith) order (omega (arith, le))))

  -- the arrays of a column, and those of a table
  column_in : (column header : ℕ) (owner : Owner) → Contains (column_headers column) header → Contains (array_owners words header) owner → Contains (column_owners words column) owner
  unfolding column_owners
  column_in column header owner is of =
      let A : ℕ → Type 0 = λ at. Contains (array_owners words at) owner in
      let codes = array_owners words (codes_header column) in
      let values = array_owners words (dictionary_header column) in
      let leaves = map leaf_owner (link_places words column) in
      let texts = text_owners words column in
      let among : Contains (codes ++ values) owner → Contains (codes ++ values ++ leaves ++ texts) owner =
      λ here. Contains-append_left (codes ++ values ++ leaves) texts owner (Contains-append_left (codes ++ values) leaves owner here) in
      ⊎_elim
      (λ first. among (Contains-append_left codes values owner (subst A (sym first) of)))
      (λ rest. among (Contains-append_right codes values owner
      (subst A (sym (⊎_elim (λ (second : dictionary_header column ≡ header). second) (λ none. absurd (Contains-nil header none)) (Contains-cons (dictionary_header column) header [] rest))) of)))
      (Contains-cons (codes_header column) header (dictionary_header column ∷ []) is)

  -- the pointer to an extension is among the words of its table
  pub extension_in : (block extension : ℕ) → is_first_version words ≡ false → extension ≤ extension_count words block → names_one words (extension_owner words block extension) ≡ true → Contains (block_owners words block) (extension_owner words block extension)
  unfolding extension_owners
  extension_in block extension second le is =
      let owner = extension_owner words block extension in
      let count = extension_count words block + 1 in
      let made : List Owner = filter (names_one words) (map (extension_owner words block) (below count)) in
      let among : Contains made owner = filter-Contains (names_one words) (map (extension_owner words block) (below count)) owner
      (map-Contains (extension_owner words block) (below count) extension (below-Contains count extension (omega (arith, le)))) is in
      let created = array_owners words (created_header block) in
      let ended = array_owners words (ended_header block) in
      let columns = flat_map (column_owners words) (columns_of words block) in
      Contains-append_left (extension_owners words block ++ created ++ ended) columns owner
      (Contains-append_left (extension_owners words block ++ created) ended owner
      (Contains-append_left (extension_owners words block) created owner
      (subst (λ (os : List Owner). Contains os owner) (sym (cond-false (is_first_version words) [] made second)) among)))

  pub header_in : (block header : ℕ) (owner : Owner) → Contains (array_headers words block) header → Contains (array_owners words header) owner → Contains (block_owners words block) owner
  header_in block header owner is of =
      let created = array_owners words (created_header block) in
      let ended = array_owners words (ended_header block) in
      let columns = flat_map (column_owners words) (columns_of words block) in
      let extensions = extension_owners words block in
      let A : ℕ → Type 0 = λ at. Contains (array_owners words at) owner in
      ⊎_elim
      (λ first. Contains-append_left (extensions ++ created ++ ended) columns owner (Contains-append_left (extensions ++ created) ended owner (Contains-append_right extensions created owner (subst A (sym first) of))))
      (λ rest. ⊎_elim
      (λ second. Contains-append_left (extensions ++ created ++ ended) columns owner (Contains-append_right (extensions ++ created) ended owner (subst A (sym second) of)))
      (λ later. Contains-append_right (extensions ++ created ++ ended) columns owner
      (let (column, there, here) = Contains-flat_map column_headers (columns_of words block) header later in
      flat_map-Contains (column_owners words) (columns_of words block) column owner there (column_in column header owner here of)))
      (Contains-cons (ended_header block) header (flat_map column_headers (columns_of words block)) rest))
      (Contains-cons (created_header block) header (ended_header block ∷ flat_map column_headers (columns_of words block)) is)

module _ (words : List ℕ) (reserved : Keeps words reserved_rule) (known : Keeps words descriptor_rule) (apart : OwnersAreApart words) where
  -- an owner word that names a block names a live one of its size
  pub live_owner : (owner : Owner) → Contains (owner_words words) owner → names_one words owner ≡ true → LiveAt words (named_block words owner) owner.block_words
  live_owner owner is named = live_at words (named_block words owner) owner.block_words
      (and_parts (is_pointer words (word_of words owner)) (is_live words (named_block words owner) owner.block_words)
      (All-contains (λ o. names_one words o ≡ true → owns_block words o ≡ true) (firm_owners words) owner apart.firm (Contains-append_left (owner_words words) (new_leaf_owners words) owner is) named)).1

  -- two of them name two blocks, but where the later one is about to replace the other
  pub differ : (owner other : Owner) → Precedes (owner_words words) owner other → names_one words owner ≡ true → names_one words other ≡ true
      → ((column : ℕ) → Contains (all_columns words) column → other.at ≢ new_leaf_at column) → named_block words owner ≢ named_block words other
  differ owner other before first second outside =
      pair_of (NameApart words) (owner_places words) owner.at other.at apart.apart
      (precedes_left (map (λ (o : Owner). o.at) (firm_owners words)) (unfinished_slots words) owner.at other.at
      (precedes_map (λ (o : Owner). o.at) (firm_owners words) owner other (precedes_left (owner_words words) (new_leaf_owners words) owner other before)))
      (nonzero (word_of words owner) first) (nonzero (word_of words other) second)
      (none_any (is_replaced_in words owner.at other.at) (all_columns words) (λ column is. and_left (eqb other.at (new_leaf_at column)) _ (ne_eqb other.at (new_leaf_at column) (outside column is))))
