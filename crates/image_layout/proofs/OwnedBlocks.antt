-- Where owner words are apart and the entry rules are kept: the blocks of tables, arrays and transaction objects.
use Rattle.std.proofs.Common.{◌≡◌, ◌≢◌, ◌⊎◌, inl, inr, ⊎_elim, ℕ, zero, suc, ◌+◌, ◌-◌, ◌^◌, ◌<◌, ◌≤◌, min, Bool, true, false, ◌&&◌, ltb, leb, List, [], ◌∷◌, ◌++◌, get_or, map, refl, sym, ◌∙◌, ap, subst, arith}
use Rattle.std.specs.Prelude.{All, Contains}
use Rattle.std.specs.List.{flat_map}
use Rattle.std.proofs.lemmas.Bool.{cases_Bool, ltb-true, and_parts, leb-true, lt-ltb, cond-true}
use Rattle.std.proofs.lemmas.List.Elements.{All-contains, Contains-append_left, Contains-append_cases}
use Rattle.image_layout.specs.Fixed.{commit_word_at, first_segment_at, last_at, ready_at, state_at, table_slot_at}
use Rattle.image_layout.specs.Places.{below, place_in, is_pointer, is_pointer_to, is_null_or_pointer_to, is_in_segment}
use Rattle.image_layout.specs.Records.{codes_header, dictionary_header, new_leaf_at}
use Rattle.image_layout.specs.Arrays.{array_rule, capacity, chunk_count, chunk_of, chunk_pointer_at, chunk_words, is_chunk_pointer, place_of}
use Rattle.image_layout.specs.Blocks.{Block, live_blocks}
use Rattle.image_layout.specs.Trees.{dictionary_length}
use Rattle.image_layout.specs.HeapRules.{reserved_rule, descriptor_rule}
use Rattle.image_layout.specs.Checks.{Check, check, Keeps}
use Rattle.image_layout.specs.EntryRules.{KeepsEntryRules, table_count_rule, table_slot_rule, arrays_rule, is_segment_pointer, object_rule, objects_rule}
use Rattle.image_layout.specs.Tables.{table_count, table_block, table_blocks, all_columns, array_headers, column_count, extension_count, extension_of, extension_pointer_at, is_first_version, is_text, last_extension_pointer}
use Rattle.image_layout.specs.Objects.{commit_word, ready_count, segment_pointer_at, segment_of, pointer_after}
use Rattle.image_layout.specs.Owners.{names_one, chunk_owner, segment_owner, OwnersAreApart, next_chunk_pointers, next_extension_pointers, next_table_slots, next_text_slots, unfinished_slots, lane_targets}
use Rattle.image_layout.proofs.Faults.{Holds}
use Rattle.image_layout.proofs.Members.{below-Contains, Contains-below, Contains-here, Contains-there, Contains-cons, Contains-nil, Contains-flat_map, flat_map-Contains, Contains-map, map-Contains}
use Rattle.image_layout.proofs.ChunkSizes.{capacity_next, chunk_below}
use Rattle.image_layout.proofs.Heap.{live_blocks_apart}
use Rattle.image_layout.proofs.TableSlots.{few_tables, pointer_some}
use Rattle.image_layout.proofs.TableParts.{IsColumnOf, IsAt, IsHome, IsPartIn, at_behind, at_once, column_among, column_header, column_of, column_spot, extension_live, extension_some, first_outside, fixed_outside, header_at, in_block, in_extension, one_home, part_at, part_home, part_in, part_of, part_owner, pointer_or_part, table_live}
use Rattle.image_layout.proofs.OwnersApart.{LiveAt, chunk_size, all_from, named, block_in, object_in, object_before_object, chunk_in, segment_in, segment_before, header_in, live_owner, differ}

-- ── rules of one thing out of many ──

-- a rule that is kept for each of a list is kept for one of them
pub keeps_one : (words xs : List ℕ) (rules : ℕ → List Check) (x : ℕ) → All Holds (flat_map rules xs) → Contains xs x → All Holds (rules x)
keeps_one words xs rules x holds is = all_from Holds (rules x) (λ c there. All-contains Holds (flat_map rules xs) c holds (flat_map-Contains rules xs x c is there))

pub one_object : (words : List ℕ) (object : ℕ) → Keeps words objects_rule → object < 16 → Keeps words (object_rule object)
unfolding objects_rule
one_object words object keeps lt = record { checks = keeps_one words (below 16) (λ o. object_rule o words) object keeps.checks (below-Contains 16 object lt) }

pub one_array : (words : List ℕ) (table header : ℕ) → Keeps words arrays_rule → table < table_count words → Contains (array_headers words (table_block words table)) header → Keeps words (array_rule header)
unfolding arrays_rule
one_array words table header keeps lt is = record {
  checks = keeps_one words (array_headers words (table_block words table)) (λ at. array_rule at words) header
      (keeps_one words (table_blocks words) (λ block. flat_map (λ at. array_rule at words) (array_headers words block)) (table_block words table) keeps.checks
      (map-Contains (table_block words) (below (table_count words)) table (below-Contains (table_count words) table lt))) is;
}

-- the segment with a number below that of the ready ones is named by its pointer
pub ready_named : (words : List ℕ) (object segment : ℕ) → Keeps words (object_rule object) → segment < ready_count words object → get_or words (segment_pointer_at words object segment) 0 ≢ 0
unfolding object_rule
ready_named words object segment keeps lt =
    let word = get_or words (segment_pointer_at words object segment) 0 in
    let pointer_check = λ (s : ℕ). check (segment_pointer_at words object s) (is_segment_pointer words object s) in
    let pointers = map pointer_check (below (ready_count words object)) in
    let last = check (pointer_after words object) (is_null_or_pointer_to words 256 (get_or words (pointer_after words object) 0)) ∷ [] in
    let ready = check (ready_at object) (leb (ready_count words object) 32) in
    let commit = check (commit_word_at object) (leb (commit_word words object) (min (get_or words last_at 0 + 1) (2 ^ 40 - 1))) in
    let state = check (state_at object) (leb (get_or words (state_at object) 0) 1) in
    let among : Contains (object_rule object words) (pointer_check segment) =
    Contains-there state (pointer_check segment) (commit ∷ ready ∷ pointers ++ last)
    (Contains-there commit (pointer_check segment) (ready ∷ pointers ++ last)
    (Contains-there ready (pointer_check segment) (pointers ++ last)
    (Contains-append_left pointers last (pointer_check segment)
    (map-Contains pointer_check (below (ready_count words object)) segment (below-Contains (ready_count words object) segment lt))))) in
    let holds : is_segment_pointer words object segment ≡ true = All-contains Holds (object_rule object words) (pointer_check segment) keeps.checks among in
    pointer_some words word (and_parts (is_pointer words word) (is_in_segment (place_in word) 256) (and_parts (is_pointer_to words 256 word) _ holds).0).0

module _ (words : List ℕ) (reserved : Keeps words reserved_rule) (known : Keeps words descriptor_rule) (counted : Keeps words table_count_rule) (slots : Keeps words table_slot_rule) (apart : OwnersAreApart words) where
  -- ── the segments of an object ──

  module _ (object : ℕ) (number : object < 16) (rule : Keeps words (object_rule object)) where
    abbrev segment_pointer : ℕ → ℕ
    segment_pointer segment = get_or words (segment_pointer_at words object segment) 0

    names : (segment : ℕ) → segment_pointer segment ≢ 0 → names_one words (segment_owner words object segment) ≡ true
    names segment some = named words (segment_owner words object segment) some

    -- a ready segment, and the one behind them where there is its pointer
    pub segment_live : (segment : ℕ) → segment ≤ ready_count words object → segment_pointer segment ≢ 0 → LiveAt words (segment_of words object segment) 256
    segment_live segment le some =
        live_owner words reserved known apart (segment_owner words object segment)
        (object_in words object (segment_owner words object segment) number (segment_in words object segment le (names segment some))) (names segment some)

    -- no pointer to them is the new leaf of a column: the first stands in the object, and each later one in the segment before
    pointer_outside : (segment : ℕ) → segment ≤ ready_count words object → (column : ℕ) → Contains (all_columns words) column → segment_pointer_at words object segment ≢ new_leaf_at column
    pointer_outside zero le column is = fixed_outside words reserved known counted slots apart (first_segment_at object) column (omega (arith, number)) is
    pointer_outside (suc segment) le column is =
        let some = ready_named words object segment rule (omega (arith, le)) in
        let before : segment ≤ ready_count words object = omega (arith, le) in
        first_outside words reserved known counted slots apart (segment_of words object segment) 256 0 (segment_of words object segment) column (segment_live segment before some) (omega arith) (omega arith) (omega arith) is

    pub segments_apart : (segment other : ℕ) → segment < other → other ≤ ready_count words object → segment_pointer other ≢ 0 → segment_of words object segment ≢ segment_of words object other
    segments_apart segment other order le some =
        let first = ready_named words object segment rule (omega (arith, order, le)) in
        differ words reserved known apart (segment_owner words object segment) (segment_owner words object other)
        (object_before_object words object (segment_owner words object segment) (segment_owner words object other) number
        (segment_before words object segment other order le (names segment first) (names other some)))
        (names segment first) (names other some) (pointer_outside other le)

  -- ── the arrays of a table ──

  module _ (table header : ℕ) (published : table < table_count words) (is : Contains (array_headers words (table_block words table)) header) where
    -- the header stands in one part of the table, in the block of the table or of an extension
    pub record IsHeaderAt (part base : ℕ) : Type 0 where
      pub within : part ≤ column_count words (table_block words table)
      pub which : (base ≡ 8) ⊎ (base ≡ 24)
      pub at : header ≡ part_at words (table_block words table) part + base

    pub header_spot : (part : ℕ) × (base : ℕ) × IsHeaderAt part base
    header_spot =
        let place = header_at words (table_block words table) header is in
        ⊎_elim
        (λ first. (place.part, 8, record { within = place.within; which = inl refl; at = first }))
        (λ second. (place.part, 24, record { within = place.within; which = inr refl; at = second }))
        place.at

    pub word_spot : (part base word w : ℕ) → IsHeaderAt part base → word < 13 → w ≡ header + word → IsAt words reserved known counted slots apart table part (base + word) w
    word_spot part base word w h lt at =
        let spot = h.at in
        record { published = published; within = h.within; few = ⊎_elim (λ a. omega (arith, a, lt)) (λ b. omega (arith, b, lt)) h.which; at = omega (arith, spot, at) }

    -- all of it stands in one live block
    pub record HeaderBlock : Type 0 where
      pub place : ℕ
      pub size : ℕ
      pub live : LiveAt words place size
      pub low : place ≤ header
      pub high : header + 16 ≤ place + size

    pub header_inside : HeaderBlock
    header_inside = let (part, base, h) = header_spot in found part base h (part_in words reserved known counted slots apart table part h.within)
      where
        found : (part base : ℕ) → IsHeaderAt part base → IsPartIn words reserved known counted slots apart table part → HeaderBlock
        found part base h (in_block few at) =
            let block = table_live words reserved known counted slots apart table published in
            let spot = h.at in let holds = block.holds in
            record {
              place = table_block words table;
              size = block.size;
              live = block.live;
              low = omega (arith, spot, at);
              high = ⊎_elim (λ a. omega (arith, a, spot, at, few, holds)) (λ b. omega (arith, b, spot, at, few, holds)) h.which;
            }
        found part base h (in_extension extension second lt number at) =
            let spot = h.at in
            record {
              place = extension_of words (table_block words table) extension;
              size = 64;
              live = extension_live words reserved known counted slots apart table extension published second (omega (arith, lt))
                  (extension_some words reserved known counted slots apart table extension published second lt);
              low = omega (arith, spot, at);
              high = ⊎_elim (λ a. omega (arith, a, spot, at)) (λ b. omega (arith, b, spot, at)) h.which;
            }

    -- a chunk that the array owns is live
    pub chunk_live : (chunk : ℕ) → chunk ≤ chunk_count words header → chunk < 12 → get_or words (chunk_pointer_at header chunk) 0 ≢ 0
        → LiveAt words (place_in (get_or words (chunk_pointer_at header chunk) 0)) (chunk_words chunk)
    chunk_live chunk le lt some =
        let owner = chunk_owner header chunk in
        let names = named words owner some in
        subst (LiveAt words (place_in (get_or words (chunk_pointer_at header chunk) 0))) (chunk_size chunk)
        (live_owner words reserved known apart owner (block_in words table owner published (header_in words (table_block words table) header owner is (chunk_in words header chunk le lt names))) names)

    -- no pointer to a chunk is the new leaf of a column
    pub chunk_outside : (chunk : ℕ) → chunk < 12 → (column : ℕ) → Contains (all_columns words) column → chunk_pointer_at header chunk ≢ new_leaf_at column
    chunk_outside chunk lt column among same =
        let (part, base, h) = header_spot in
        let c = column_of words column among in
        let agree = at_once words reserved known counted slots apart table part (base + (1 + chunk)) c.table (suc c.number) 6 (chunk_pointer_at header chunk)
        (word_spot part base (1 + chunk) (chunk_pointer_at header chunk) h (omega (arith, lt)) (omega arith))
        (column_spot words reserved known counted slots apart column 6 (chunk_pointer_at header chunk) c (omega arith) same) in
        let offsets = agree.2 in
        ⊎_elim (λ a. omega (arith, a, offsets)) (λ b. omega (arith, b, offsets)) h.which

    -- a chunk that the array owns, and a word of it
    pub chunk_home : (chunk w : ℕ) → chunk ≤ chunk_count words header → chunk < 12 → get_or words (chunk_pointer_at header chunk) 0 ≢ 0
        → place_in (get_or words (chunk_pointer_at header chunk) 0) ≤ w → w < place_in (get_or words (chunk_pointer_at header chunk) 0) + chunk_words chunk
        → IsHome words reserved known counted slots apart (chunk_owner header chunk) w
    chunk_home chunk w le lt some low high =
        let owner = chunk_owner header chunk in
        let names = named words owner some in
        record {
          among = block_in words table owner published (header_in words (table_block words table) header owner is (chunk_in words header chunk le lt names));
          some = some;
          size = chunk_words chunk;
          live = chunk_live chunk le lt some;
          low = low;
          high = high;
          outside = chunk_outside chunk lt;
        }

    -- no word of it is one of a part of a table
    pub part_or_chunk : (chunk w other part offset : ℕ) → chunk < 12 → IsHome words reserved known counted slots apart (chunk_owner header chunk) w
        → IsAt words reserved known counted slots apart other part offset w → ⊥
    part_or_chunk chunk w other part offset lt home one = found (part_of words reserved known counted slots apart other part offset w one)
      where
        found : IsPartIn words reserved known counted slots apart other part → ⊥
        found p = apart_from p (one_home words reserved known counted slots apart (part_owner words reserved known counted slots apart other part p) (chunk_owner header chunk) w
            (part_home words reserved known counted slots apart other part offset w one p) home)
          where
            apart_from : (p : IsPartIn words reserved known counted slots apart other part) → (part_owner words reserved known counted slots apart other part p).at ≡ chunk_pointer_at header chunk → ⊥
            apart_from (in_block few at) same =
                let (own, base, h) = header_spot in
                let behind = at_behind words reserved known counted slots apart table own (base + (1 + chunk)) (chunk_pointer_at header chunk)
                (word_spot own base (1 + chunk) (chunk_pointer_at header chunk) h (omega (arith, lt)) (omega arith)) in
                let few = few_tables words counted in
                let here = one.published in
                omega (arith, same, behind, few, here)
            apart_from (in_extension extension second less number at) same =
                let (own, base, h) = header_spot in
                let agree = pointer_or_part words reserved known counted slots apart table own (base + (1 + chunk)) other extension (chunk_pointer_at header chunk)
                (word_spot own base (1 + chunk) (chunk_pointer_at header chunk) h (omega (arith, lt)) (omega arith)) one.published second (omega (arith, less)) (sym same) in
                let offset_is = agree.1 in
                ⊎_elim (λ a. omega (arith, a, offset_is)) (λ b. omega (arith, b, offset_is)) h.which

    -- a chunk that the array owns shares no word with its header
    pub chunk_apart : (chunk : ℕ) → chunk ≤ chunk_count words header → chunk < 12 → get_or words (chunk_pointer_at header chunk) 0 ≢ 0
        → (header + 16 ≤ place_in (get_or words (chunk_pointer_at header chunk) 0)) ⊎ (place_in (get_or words (chunk_pointer_at header chunk) 0) + chunk_words chunk ≤ header)
    chunk_apart chunk le lt some =
        let place = place_in (get_or words (chunk_pointer_at header chunk) 0) in
        let here = header_inside in
        let there = chunk_live chunk le lt some in
        let low = here.low in let high = here.high in
        let a = here.live.first in let b = here.live.size in let c = there.first in let d = there.size in
        ⊎_elim
        (λ same. absurd (meet le some (omega (arith, low)) (let first = sym a ∙ ap (λ (block : Block). block.first) same ∙ c in let size = sym b ∙ ap (λ (block : Block). block.words) same ∙ d in omega (arith, first, size, low, high))
        (let first = sym a ∙ ap (λ (block : Block). block.first) same ∙ c in omega (arith, first, low))))
        (λ shared. ⊎_elim (λ before. inl (omega (arith, before, a, b, c, high))) (λ after. inr (omega (arith, after, a, c, d, low))) shared)
        (live_blocks_apart words reserved known here.live.block there.block here.live.live there.live)
      where
        meet : chunk ≤ chunk_count words header → get_or words (chunk_pointer_at header chunk) 0 ≢ 0 → header ≤ header
            → header < place_in (get_or words (chunk_pointer_at header chunk) 0) + chunk_words chunk → place_in (get_or words (chunk_pointer_at header chunk) 0) ≤ header → ⊥
        meet le some refl_le high low =
            let (part, base, h) = header_spot in
            part_or_chunk chunk header table part (base + 0) lt (chunk_home chunk header le lt some low high) (word_spot part base 0 header h (omega arith) (omega arith))

-- ── the words into which a lane may be at work ──

-- the pointer to a published chunk names one
pub chunk_named : (words : List ℕ) (header chunk : ℕ) → Keeps words (array_rule header) → chunk < chunk_count words header → (chunk < 12) × (get_or words (chunk_pointer_at header chunk) 0 ≢ 0)
unfolding array_rule
chunk_named words header chunk keeps lt =
    let count = chunk_count words header in
    let pointer = get_or words (chunk_pointer_at header chunk) 0 in
    let pointer_check = λ (k : ℕ). check (chunk_pointer_at header k) (is_chunk_pointer words count k (get_or words (chunk_pointer_at header k) 0)) in
    let few = leb-true count 12 (All-contains Holds (array_rule header words) (check header (leb count 12)) keeps.checks (Contains-here (check header (leb count 12)) (map pointer_check (below 12)))) in
    let low : chunk < 12 = omega (arith, lt, few) in
    let holds : is_chunk_pointer words count chunk pointer ≡ true = All-contains Holds (array_rule header words) (pointer_check chunk) keeps.checks
    (Contains-there (check header (leb count 12)) (pointer_check chunk) (map pointer_check (below 12)) (map-Contains pointer_check (below 12) chunk (below-Contains 12 chunk low))) in
    let pointed : is_pointer_to words (chunk_words chunk) pointer ≡ true = sym (cond-true (ltb chunk count) (is_pointer_to words (chunk_words chunk) pointer) _ (lt-ltb chunk count lt)) ∙ holds in
    (low, pointer_some words pointer (and_parts (is_pointer words pointer) (is_in_segment (place_in pointer) (chunk_words chunk)) pointed).0)

-- how many chunks are published
chunks_few : (words : List ℕ) (header : ℕ) → Keeps words (array_rule header) → chunk_count words header ≤ 12
unfolding array_rule
chunks_few words header keeps = leb-true (chunk_count words header) 12
    (All-contains Holds (array_rule header words) (check header (leb (chunk_count words header) 12)) keeps.checks
    (Contains-here (check header (leb (chunk_count words header) 12))
    (map (λ k. check (chunk_pointer_at header k) (is_chunk_pointer words (chunk_count words header) k (get_or words (chunk_pointer_at header k) 0))) (below 12))))

-- a column's dictionary is one of the arrays of its table
pub dictionary_in : (words : List ℕ) (column : ℕ) → (c : IsColumnOf words column) → Contains (array_headers words (table_block words c.table)) (dictionary_header column)
dictionary_in words column c =
    let block = table_block words c.table in
    column_header words block column (dictionary_header column) (column_among words block c.number column c.within c.is)
    (Contains-there (codes_header column) (dictionary_header column) (dictionary_header column ∷ []) (Contains-here (dictionary_header column) []))

-- a place of the fixed pages outside the lanes, or one in a live block
pub data IsOwnersPlace (words : List ℕ) (at : ℕ) : Type 0 where
  fixed : 512 ≤ at → at < 2048 → (at < 576) ⊎ (704 ≤ at) → IsOwnersPlace words at
  inside : (block : Block) → Contains (live_blocks words) block → block.first ≤ at → at < block.first + block.words → IsOwnersPlace words at

module _ (words : List ℕ) (entry : KeepsEntryRules words) (apart : OwnersAreApart words) where
  in_live : (place size at : ℕ) → LiveAt words place size → place ≤ at → at < place + size → IsOwnersPlace words at
  in_live place size at live low high = let first = live.first in let count = live.size in inside live.block live.live (omega (arith, first, low)) (omega (arith, first, count, high))

  slot_place : (at : ℕ) → Contains (next_table_slots words) at → IsOwnersPlace words at
  slot_place at is = ⊎_elim
      (λ hit. let few = ltb-true (table_count words) 32 hit in
      ⊎_elim (λ (here : table_slot_at (table_count words) ≡ at). fixed (omega (arith, here)) (omega (arith, here, few)) (inl (omega (arith, here, few))))
      (λ none. absurd (Contains-nil at none)) (Contains-cons (table_slot_at (table_count words)) at [] (rw hit at is)))
      (λ miss. absurd (Contains-nil at (rw miss at is))) (cases_Bool (ltb (table_count words) 32))

  text_place : (column at : ℕ) → Contains (all_columns words) column → Contains (next_text_slots words column) at → IsOwnersPlace words at
  text_place column at among is = ⊎_elim found (λ miss. absurd (Contains-nil at (rw miss at is))) (cases_Bool test)
    where
      header : ℕ
      header = dictionary_header column

      index : ℕ
      index = dictionary_length words column

      test : Bool
      test = is_text words column && ltb index (capacity words header)

      found : test ≡ true → IsOwnersPlace words at
      found hit =
          let c = column_of words column among in
          let lt = ltb-true index (capacity words header) (and_parts (is_text words column) (ltb index (capacity words header)) hit).1 in
          let headers : Contains (array_headers words (table_block words c.table)) header = dictionary_in words column c in
          let rule = one_array words c.table header entry.arrays c.published headers in
          let few = chunks_few words header rule in
          let chunk = chunk_below index (chunk_count words header) few lt in
          let named = chunk_named words header (chunk_of index) rule chunk.0 in
          let live = chunk_live words entry.reserved entry.descriptors entry.table_count entry.table_slots apart c.table header c.published headers (chunk_of index) (omega (arith, chunk.0)) named.0 named.1 in
          let next = capacity_next (chunk_of index) in
          let low = chunk.1 in let high = chunk.2 in
          ⊎_elim (λ (here : place_of words header index ≡ at). in_live (place_in (get_or words (chunk_pointer_at header (chunk_of index)) 0)) (chunk_words (chunk_of index)) at live (omega (arith, here)) (omega (arith, here, low, high, next)))
          (λ none. absurd (Contains-nil at none)) (Contains-cons (place_of words header index) at [] (rw hit at is))

  chunk_place : (table header at : ℕ) → table < table_count words → Contains (array_headers words (table_block words table)) header → Contains (next_chunk_pointers words header) at → IsOwnersPlace words at
  chunk_place table header at lt among is =
      let block = header_inside words entry.reserved entry.descriptors entry.table_count entry.table_slots apart table header lt among in
      let low = block.low in let high = block.high in
      ⊎_elim
      (λ hit. let few = ltb-true (chunk_count words header) 12 hit in
      ⊎_elim (λ (here : chunk_pointer_at header (chunk_count words header) ≡ at). in_live block.place block.size at block.live (omega (arith, here, low)) (omega (arith, here, few, high)))
      (λ none. absurd (Contains-nil at none)) (Contains-cons (chunk_pointer_at header (chunk_count words header)) at [] (rw hit at is)))
      (λ miss. absurd (Contains-nil at (rw miss at is))) (cases_Bool (ltb (chunk_count words header) 12))

  leaf_place : (column at : ℕ) → Contains (all_columns words) column → new_leaf_at column ≡ at → IsOwnersPlace words at
  leaf_place column at among here =
      let c = column_of words column among in
      let spot = column_spot words entry.reserved entry.descriptors entry.table_count entry.table_slots apart column 6 at c (omega arith) (sym here) in
      let p = part_of words entry.reserved entry.descriptors entry.table_count entry.table_slots apart c.table (suc c.number) 6 at spot in
      let home = part_home words entry.reserved entry.descriptors entry.table_count entry.table_slots apart c.table (suc c.number) 6 at spot p in
      in_live _ home.size at home.live home.low home.high

  -- the pointer after a table's published columns
  extension_place : (table at : ℕ) → table < table_count words → Contains (next_extension_pointers words (table_block words table)) at → IsOwnersPlace words at
  extension_place table at lt is = ⊎_elim
      (λ first. absurd (Contains-nil at (rw first at is)))
      (λ second. ⊎_elim (λ (here : last_extension_pointer words (table_block words table) ≡ at). after (extension_count words (table_block words table)) second refl here)
      (λ none. absurd (Contains-nil at none)) (Contains-cons (last_extension_pointer words (table_block words table)) at [] (rw second at is)))
      (cases_Bool (is_first_version words))
    where
      after : (count : ℕ) → is_first_version words ≡ false → count ≡ extension_count words (table_block words table) → extension_pointer_at words (table_block words table) count ≡ at → IsOwnersPlace words at
      after zero second e here =
          let block = table_live words entry.reserved entry.descriptors entry.table_count entry.table_slots apart table lt in
          let holds = block.holds in
          in_live (table_block words table) block.size at block.live (omega (arith, here)) (omega (arith, here, holds))
      after (suc before) second e here =
          in_live (extension_of words (table_block words table) before) 64 at
          (extension_live words entry.reserved entry.descriptors entry.table_count entry.table_slots apart table before lt second (omega (arith, e))
          (extension_some words entry.reserved entry.descriptors entry.table_count entry.table_slots apart table before lt second (omega (arith, e))))
          (omega (arith, here)) (omega (arith, here))

  segment_place : (object at : ℕ) → object < 16 → pointer_after words object ≡ at → IsOwnersPlace words at
  segment_place object at lt here = after (ready_count words object) refl here
    where
      after : (count : ℕ) → count ≡ ready_count words object → segment_pointer_at words object count ≡ at → IsOwnersPlace words at
      after zero e is = fixed (omega (arith, is)) (omega (arith, is, lt)) (inr (omega (arith, is)))
      after (suc segment) e is =
          let rule = one_object words object entry.objects lt in
          let some = ready_named words object segment rule (omega (arith, e)) in
          in_live (segment_of words object segment) 256 at
          (segment_live words entry.reserved entry.descriptors entry.table_count entry.table_slots apart object lt rule segment (omega (arith, e)) some) (omega (arith, is)) (omega (arith, is))

  -- a lane's owner word is one of these
  pub target_place : (at : ℕ) → Contains (lane_targets words) at → IsOwnersPlace words at
  target_place at is =
      let slots = unfinished_slots words in
      let tables = below (table_count words) in
      let pointers = flat_map (λ table. flat_map (next_chunk_pointers words) (array_headers words (table_block words table))) tables in
      let leaves = map new_leaf_at (all_columns words) in
      let segments = map (pointer_after words) (below 16) in
      let extensions = flat_map (λ table. next_extension_pointers words (table_block words table)) tables in
      ⊎_elim
      (λ most. ⊎_elim
      (λ early. ⊎_elim
      (λ first. ⊎_elim
      (λ slot. ⊎_elim (slot_place at)
      (λ text. let (column, among, here) = Contains-flat_map (next_text_slots words) (all_columns words) at text in text_place column at among here)
      (Contains-append_cases (next_table_slots words) (flat_map (next_text_slots words) (all_columns words)) at slot))
      (λ pointer.
      let (table, published, here) = Contains-flat_map (λ t. flat_map (next_chunk_pointers words) (array_headers words (table_block words t))) tables at pointer in
      let (header, among, last) = Contains-flat_map (next_chunk_pointers words) (array_headers words (table_block words table)) at here in
      chunk_place table header at (Contains-below (table_count words) table published) among last)
      (Contains-append_cases slots pointers at first))
      (λ leaf. let (column, among, here) = Contains-map new_leaf_at (all_columns words) at leaf in leaf_place column at among here)
      (Contains-append_cases (slots ++ pointers) leaves at early))
      (λ segment. let (object, among, here) = Contains-map (pointer_after words) (below 16) at segment in segment_place object at (Contains-below 16 object among) here)
      (Contains-append_cases (slots ++ pointers ++ leaves) segments at most))
      (λ extension.
      let (table, published, here) = Contains-flat_map (λ t. next_extension_pointers words (table_block words t)) tables at extension in
      extension_place table at (Contains-below (table_count words) table published) here)
      (Contains-append_cases (slots ++ pointers ++ leaves ++ segments) extensions at is)
