-- The slots behind those in use: where structures read the same words, they stand where they stood.
use Rattle.std.proofs.Common.{◌≡◌, ◌≢◌, inr, ⊎_elim, ℕ, ◌+◌, ◌-◌, ◌<◌, true, ◌||◌, eqb, ltb, List, [], get_or, sym, ◌∙◌, ap, subst, arith}
use Rattle.std.specs.Prelude.{Contains}
use Rattle.std.specs.List.{flat_map, range_with_len}
use Rattle.std.proofs.lemmas.Bool.{cases_eq, cond-false, cond-true, eq-eqb, eqb-true, le-ltb, lt-ltb, or_cases, or_left, or_right}
use Rattle.std.proofs.lemmas.List.Elements.{All-contains}
use Rattle.std.proofs.lemmas.List.FromFn.{get_or-range_with_len, length-range_with_len}
use Rattle.image_layout.specs.Arrays.{capacity, chunk_of, place_of}
use Rattle.image_layout.specs.Blocks.{is_block_pointer}
use Rattle.image_layout.specs.Checks.{check}
use Rattle.image_layout.specs.EntryRules.{is_table_pointer, is_table_slot, table_slot_checks, table_slot_rule, text_columns}
use Rattle.image_layout.specs.Fixed.{table_slot_at}
use Rattle.image_layout.specs.Owners.{next_table_slots}
use Rattle.image_layout.specs.Places.{below}
use Rattle.image_layout.specs.Records.{dictionary_header}
use Rattle.image_layout.specs.Tables.{all_columns, is_text, table_count}
use Rattle.image_layout.specs.Trees.{dictionary_length}
use Rattle.image_layout.proofs.Faults.{Holds}
use Rattle.image_layout.proofs.Members.{below-Contains, Contains-filter, Contains-flat_map, Contains-here, Contains-map, flat_map-Contains}
use Rattle.heap_palloc.specs.Calls.{KeepsHeapRules}
use Rattle.heap_palloc.specs.Law.{IsOwnerPlace}
use Rattle.heap_palloc.proofs.Dests.{dest_place}
use Rattle.shown_state.specs.Fits.{Fits, later_slots}
use Rattle.shown_state.specs.OpeningParts.{IsImage}
use Rattle.shown_state.specs.Reads.{SameReads}
use Rattle.shown_state.proofs.Alike.{filter_alike, flat_map_alike, map_alike}
use Rattle.shown_state.proofs.ReadLaw.{reads_decide}
use Rattle.shown_state.proofs.SameTables.{dictionary_is, IsHeader}
use Rattle.shown_state.proofs.ValuesApart.{chunk_home, in_chunk}

-- a published word of an array may be an owner's
published_spot : (words : List ℕ) → IsImage words → (fits : Fits words) → (header index : ℕ) → IsHeader words header → index < capacity words header → IsOwnerPlace words (place_of words header index)
published_spot words image fits header index is lt =
    let w = place_of words header index in
    let home = chunk_home words fits header (chunk_of index) w (in_chunk words fits header index is lt) in
    let live = home.live in
    let first = live.first in let size = live.size in let low = home.low in let high = home.high in
    let rules : KeepsHeapRules words = record { reserved = fits.entry.reserved; descriptors = fits.entry.descriptors; bitmaps = fits.entry.bitmaps } in
    (dest_place words image.segments image.one_or_more rules w (inr (live.block, live.live, omega (arith, first, low), omega (arith, first, size, high)))).owner_is

-- the codes of the published slots of a dictionary behind that at its length
abbrev codes_of : List ℕ → ℕ → List ℕ
codes_of words column = let next = dictionary_length words column + 1 in range_with_len next (capacity words (dictionary_header column) - next)

code_under : (words : List ℕ) (column code : ℕ) → Contains (codes_of words column) code → code < capacity words (dictionary_header column)
code_under words column code is =
    let next = dictionary_length words column + 1 in
    let count = capacity words (dictionary_header column) - next in
    let (i, lt, at) = is in
    let size = length-range_with_len next count in
    let value = get_or-range_with_len next count i code (omega (arith, lt, size)) in
    omega (arith, value, at, lt, size)

-- they may be owners' words
pub later_spot : (words : List ℕ) → IsImage words → Fits words → (at : ℕ) → Contains (flat_map (later_slots words) (text_columns words)) at → IsOwnerPlace words at
later_spot words image fits at is =
    let (column, among, here) = Contains-flat_map (later_slots words) (text_columns words) at is in
    let of = (Contains-filter (is_text words) (all_columns words) column among).0 in
    let (code, within, place) = Contains-map (place_of words (dictionary_header column)) (codes_of words column) at here in
    subst (IsOwnerPlace words) place (published_spot words image fits (dictionary_header column) code (dictionary_is words column of) (code_under words column code within))

pub later_slots_same : (old new : List ℕ) → Fits old → SameReads old new → flat_map (later_slots new) (text_columns new) ≡ flat_map (later_slots old) (text_columns old)
later_slots_same old new fits same =
    let (read, b, trees, d, e, f) = reads_decide old new fits same in
    let slots_of_column : (column : ℕ) → Contains (all_columns old) column → later_slots new column ≡ later_slots old column = λ column is.
    let header = dictionary_header column in
    let headed = dictionary_is old column is in
    let made : ℕ → ℕ → List ℕ = λ length count. range_with_len (length + 1) (count - (length + 1)) in
    map_alike (place_of new header) (place_of old header) (codes_of new column) (codes_of old column)
    (ap (λ (n : ℕ). made n (capacity new header)) (trees.lengths column is)
    ∙ ap (made (dictionary_length old column)) (read.capacities headed.table header headed.published headed.among))
    (λ code within. read.places headed.table header code headed.published headed.among (code_under old column code within)) in
    flat_map_alike (later_slots new) (later_slots old) (text_columns new) (text_columns old)
    (filter_alike (is_text new) (is_text old) (all_columns new) (all_columns old) read.columns (λ column is. read.kinds column is))
    (λ column is. slots_of_column column (Contains-filter (is_text old) (all_columns old) column is).0)

-- ── the table slot at the count ──

pub next_slot : (words : List ℕ) (table : ℕ) → table ≡ table_count words → table < 32 → Contains (next_table_slots words) (table_slot_at table)
next_slot words table here lt =
    let under : ltb (table_count words) 32 ≡ true = lt-ltb (table_count words) 32 (omega (arith, here, lt)) in
    subst (λ (n : ℕ). Contains (next_table_slots words) (table_slot_at n)) (sym here) (rw under (Contains-here (table_slot_at (table_count words)) []))

-- where it isn't null it is the pointer of a block
pub slot_pointer : (words : List ℕ) → Fits words → (table : ℕ) → table ≡ table_count words → table < 32 → get_or words (table_slot_at table) 0 ≢ 0 → is_block_pointer words (get_or words (table_slot_at table) 0) ≡ true
unfolding table_slot_rule
slot_pointer words fits table here lt some =
    let at = table_slot_at table in
    let word = get_or words at 0 in
    let rule = fits.entry.table_slots in
    let holds : is_table_slot words table ≡ true = All-contains Holds (table_slot_rule words) (check at (is_table_slot words table)) rule.checks
    (flat_map-Contains (table_slot_checks words) (below 32) table (check at (is_table_slot words table)) (below-Contains 32 table lt) (Contains-here (check at (is_table_slot words table)) _)) in
    let was : (eqb word 0 || is_block_pointer words word) ≡ true =
    sym (cond-true (eqb table (table_count words)) (eqb word 0 || is_block_pointer words word) (eqb word 0) (eq-eqb table (table_count words) here))
    ∙ sym (cond-false (ltb table (table_count words)) (is_table_pointer words word) _ (le-ltb table (table_count words) (omega (arith, here)))) ∙ holds in
    ⊎_elim (λ none. absurd (some (eqb-true word 0 none))) (λ is. is) (or_cases (eqb word 0) (is_block_pointer words word) was)

-- it is one still, where the block that it names goes on to be named by a block's pointer
pub slot_still_is : (old new : List ℕ) → Fits old → table_count new ≡ table_count old → (table : ℕ) → table ≡ table_count old → table < 32 → get_or new (table_slot_at table) 0 ≡ get_or old (table_slot_at table) 0
    → (get_or new (table_slot_at table) 0 ≢ 0 → is_block_pointer old (get_or new (table_slot_at table) 0) ≡ true → is_block_pointer new (get_or new (table_slot_at table) 0) ≡ true) → is_table_slot new table ≡ true
slot_still_is old new fits count table here lt kept still =
    let at = table_slot_at table in
    let word = get_or old at 0 in
    let now : (eqb word 0 || is_block_pointer new word) ≡ true = ⊎_elim
    (λ none. or_left (eqb word 0) (is_block_pointer new word) (eq-eqb word 0 none))
    (λ some. or_right (eqb word 0) (is_block_pointer new word)
    (subst (λ (w : ℕ). is_block_pointer new w ≡ true) kept
    (still (λ none. some (sym kept ∙ none)) (subst (λ (w : ℕ). is_block_pointer old w ≡ true) (sym kept) (slot_pointer old fits table here lt some)))))
    (cases_eq word 0) in
    cond-false (ltb table (table_count new)) (is_table_pointer new (get_or new at 0)) _ (le-ltb table (table_count new) (omega (arith, here, count)))
    ∙ cond-true (eqb table (table_count new)) (eqb (get_or new at 0) 0 || is_block_pointer new (get_or new at 0)) (eqb (get_or new at 0) 0) (eq-eqb table (table_count new) (omega (arith, here, count)))
    ∙ ap (λ (w : ℕ). eqb w 0 || is_block_pointer new w) kept ∙ now
