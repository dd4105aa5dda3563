-- The tables of the shown state, of words that show a creation: those before it with the same next rows, and where it is
-- done the new one behind them.
use Rattle.std.proofs.Common.{◌≡◌, ◌⊎◌, inl, inr, ⊎_elim, ℕ, zero, suc, ◌+◌, ◌<◌, ◌≤◌, max, Bool, true, false, not, ◌&&◌, ◌||◌, cond, eqb, ltb, List, [], ◌∷◌, ◌++◌, get_or, map, refl, sym, ◌∙◌, ap, subst, arith}
use Rattle.std.specs.Prelude.{All, Contains, filter, fold}
use Rattle.std.specs.List.{flat_map}
use Rattle.std.proofs.lemmas.Bool.{and_parts, both_ways, cases_Bool, eqb-true, eq-eqb, ltb-true, not-true, or_cases}
use Rattle.std.proofs.lemmas.List.Elements.{All-head, All-tail, Contains-append_cases}
use Rattle.mv_model.specs.declared.shape.Column.{Column}
use Rattle.mv_model.specs.State.{Table}
use Rattle.image_layout.specs.Fixed.{entry_at, first_segment_at, ready_at, state_at, table_slot_at}
use Rattle.image_layout.specs.Places.{below, place_in}
use Rattle.image_layout.specs.Records.{high_at, segment_entry_at, table_name_at}
use Rattle.image_layout.specs.Checks.{check}
use Rattle.image_layout.specs.EntryRules.{KeepsEntryRules, entry_checks, entries_rule, is_entry, stamped_capacity}
use Rattle.image_layout.specs.Objects.{is_open, ready_count, ready_segments, segment_pointer_at, segment_of, entry_places, entries, entry_kind, entry_table, entry_row}
use Rattle.image_layout.specs.Owners.{OwnersAreApart}
use Rattle.image_layout.specs.Tables.{table_count, table_block, columns_of}
use Rattle.image_layout.proofs.Heap.{Holds}
use Rattle.image_layout.proofs.Members.{Contains-below, Contains-here, Contains-there, Contains-cons, Contains-nil, Contains-filter, Contains-flat_map, Contains-map}
use Rattle.image_layout.proofs.OwnedBlocks.{keeps_one, one_object, ready_named, segment_live}
use Rattle.heap_palloc.specs.Choice.{choice_page, choice_pages}
use Rattle.heap_palloc.specs.Law.{IsElsewhere}
use Rattle.shown_state.specs.LogicalState.{logical_state, name_at, column_of, table_of, next_row_of, open_bound, created_rows, row_bound}
use Rattle.catalog.specs.Entries.{CatalogTable, HasNames}
use Rattle.catalog.specs.Creation.{Creation, new_block}
use Rattle.catalog.specs.Shown.{IsCreated, IsUncreated, KeepsUntouched, MayCreateOn, shown_table}
use Rattle.catalog.proofs.Filling.{length-table_record}
use Rattle.catalog.proofs.Lists.{map_next}
use Rattle.catalog.proofs.OldBlocks.{old_word}
use Rattle.catalog.proofs.Published.{block_kept, new_published, old_table, same_below}
use Rattle.catalog.proofs.Surviving.{block_high, lane_low, page_high}

-- ── lists ──

map_each : {X : Type 0} (f g : ℕ → X) (xs : List ℕ) → ((x : ℕ) → Contains xs x → f x ≡ g x) → map f xs ≡ map g xs
map_each f g [] each = refl
map_each {X} f g (x ∷ xs) each =
    ap (λ (y : X). y ∷ map f xs) (each x (Contains-here x xs)) ∙ ap (λ (ys : List X). g x ∷ ys) (map_each f g xs (λ y is. each y (Contains-there x y xs is)))

filter_each : (p q : ℕ → Bool) (xs : List ℕ) → ((x : ℕ) → Contains xs x → p x ≡ q x) → filter p xs ≡ filter q xs
filter_each p q [] each = refl
filter_each p q (x ∷ xs) each =
    ap (λ (b : Bool). cond b (x ∷ filter p xs) (filter p xs)) (each x (Contains-here x xs))
    ∙ ap (λ (ys : List ℕ). cond (q x) (x ∷ ys) ys) (filter_each p q xs (λ y is. each y (Contains-there x y xs is)))

none_pass : (p : ℕ → Bool) (xs : List ℕ) → ((x : ℕ) → Contains xs x → p x ≡ false) → filter p xs ≡ []
none_pass p [] each = refl
none_pass p (x ∷ xs) each =
    ap (λ (b : Bool). cond b (x ∷ filter p xs) (filter p xs)) (each x (Contains-here x xs)) ∙ none_pass p xs (λ y is. each y (Contains-there x y xs is))

max_of_none : (f : ℕ → ℕ) (xs : List ℕ) → ((x : ℕ) → Contains xs x → f x ≡ 0) → fold max 0 (map f xs) ≡ 0
max_of_none f [] each = refl
max_of_none f (x ∷ xs) each = ap (λ (n : ℕ). fold max (max 0 n) (map f xs)) (each x (Contains-here x xs)) ∙ max_of_none f xs (λ y is. each y (Contains-there x y xs is))

-- ── transaction objects ──

module _ (base : List ℕ) (c : Creation) (on : MayCreateOn base c) (keeps : KeepsEntryRules base) (apart : OwnersAreApart base) (words : List ℕ) (kept : KeepsUntouched base c words) where
  object_elsewhere : (lane w : ℕ) → lane < 16 → 704 ≤ w → w < 2048 → IsElsewhere lane (table_slot_at (table_count base)) (choice_page c.choice) (choice_pages c.choice) w
  object_elsewhere lane w lt low high =
      let few = on.may.count in
      let page = page_high base c on in
      record {
        outside_lane = (λ e. omega (arith, e, lt, low), λ e. omega (arith, e, lt, low), λ e. omega (arith, e, lt, low));
        no_owner = λ e. omega (arith, e, low, few);
        no_descriptor = λ k _ _ e. omega (arith, e, low, high);
        no_bitmap = λ e. omega (arith, e, high, page);
      }

  object_word : (w : ℕ) → 704 ≤ w → w < 2048 → get_or words w 0 ≡ get_or base w 0
  object_word w low high =
      let block = block_high base c on in
      kept.each w (record {
        lane = object_elsewhere c.lane w (lane_low base c on) low high;
        lane_zero = object_elsewhere 0 w (omega arith) low high;
        no_count = λ e. omega (arith, e, low);
        no_record = inl (omega (arith, high, block));
      })

  module _ (object : ℕ) (number : object < 16) where
    open_same : is_open words object ≡ is_open base object
    open_same = ap (λ (state : ℕ). eqb state 1) (object_word (state_at object) (omega arith) (omega (arith, number)))

    ready_same : ready_count words object ≡ ready_count base object
    ready_same = object_word (ready_at object) (omega arith) (omega (arith, number))

    -- a word of a ready segment
    segment_word : (segment w : ℕ) → segment < ready_count base object → segment_of base object segment ≤ w → w < segment_of base object segment + 256 → get_or words w 0 ≡ get_or base w 0
    segment_word segment w lt low high =
        let rule = one_object base object keeps.objects number in
        let live = segment_live base keeps.reserved keeps.descriptors keeps.table_count keeps.table_slots apart object number rule segment (omega (arith, lt)) (ready_named base object segment rule lt) in
        kept.each w (old_word base c on live.block live.live w (omega (arith, low, live.first)) (omega (arith, high, live.first, live.size)) (lane_low base c on))

    pointer_word_same : (segment : ℕ) → segment ≤ ready_count base object → get_or words (segment_pointer_at base object segment) 0 ≡ get_or base (segment_pointer_at base object segment) 0
    pointer_word_same zero le = object_word (first_segment_at object) (omega arith) (omega (arith, number))
    pointer_word_same (suc segment) le = segment_word segment (segment_of base object segment) (omega (arith, le)) (omega arith) (omega arith)

    pointer_same : (segment : ℕ) → segment ≤ ready_count base object → segment_pointer_at words object segment ≡ segment_pointer_at base object segment
    pointer_same zero le = refl
    pointer_same (suc segment) le =
        ap (λ (at : ℕ). place_in (get_or words at 0)) (pointer_same segment (omega (arith, le))) ∙ ap place_in (pointer_word_same segment (omega (arith, le)))

    segments_same : ready_segments words object ≡ ready_segments base object
    segments_same =
        ap (λ (n : ℕ). map (segment_of words object) (below n)) ready_same
        ∙ same_below (segment_of words object) (segment_of base object) (ready_count base object)
        (λ segment lt. ap (λ (at : ℕ). place_in (get_or words at 0)) (pointer_same segment (omega (arith, lt))) ∙ ap place_in (pointer_word_same segment (omega (arith, lt))))

    places_same : entry_places words object ≡ entry_places base object
    unfolding entry_places
    places_same = ap (λ (segments : List ℕ). map (entry_at object) (below 60) ++ flat_map (λ segment. map (segment_entry_at segment) (below 255)) segments) segments_same

    place_kept : (at : ℕ) → Contains (entry_places base object) at → get_or words at 0 ≡ get_or base at 0
    unfolding entry_places
    place_kept at is = ⊎_elim
        (λ own. let (entry, among, here) = Contains-map (entry_at object) (below 60) at own in
        let few = Contains-below 60 entry among in
        object_word at (omega (arith, here)) (omega (arith, here, few, number)))
        (λ later. let (first, listed, of) = Contains-flat_map (λ segment. map (segment_entry_at segment) (below 255)) (ready_segments base object) at later in
        let (segment, among, first_is) = Contains-map (segment_of base object) (below (ready_count base object)) first listed in
        let (entry, inside, here) = Contains-map (segment_entry_at first) (below 255) at of in
        let few = Contains-below 255 entry inside in
        segment_word segment at (Contains-below (ready_count base object) segment among) (omega (arith, here, first_is)) (omega (arith, here, first_is, few)))
        (Contains-append_cases (map (entry_at object) (below 60)) (flat_map (λ segment. map (segment_entry_at segment) (below 255)) (ready_segments base object)) at is)

    entries_same : entries words object ≡ entries base object
    entries_same =
        ap (λ (places : List ℕ). filter (λ (word : ℕ). not (eqb word 0)) (map (λ (at : ℕ). get_or words at 0) places)) places_same
        ∙ ap (filter (λ (word : ℕ). not (eqb word 0))) (map_each (λ (at : ℕ). get_or words at 0) (λ (at : ℕ). get_or base at 0) (entry_places base object) place_kept)

  -- the bound of a table is the same
  bound_same : (table : ℕ) → open_bound words table ≡ open_bound base table
  bound_same table =
      ap (λ (objects : List ℕ). fold max 0 (map (λ (object : ℕ). row_bound (created_rows words object table)) objects)) (filter_each (is_open words) (is_open base) (below 16) (λ object is. open_same object (Contains-below 16 object is)))
      ∙ ap (λ (bounds : List ℕ). fold max 0 bounds) (map_each (λ (object : ℕ). row_bound (created_rows words object table)) (λ (object : ℕ). row_bound (created_rows base object table)) (filter (is_open base) (below 16))
      (λ object is. ap (λ (list : List ℕ). row_bound (map entry_row (filter (λ (word : ℕ). eqb (entry_kind word) 1 && eqb (entry_table word) table) list)))
      (entries_same object (Contains-below 16 object (Contains-filter (is_open base) (below 16) object is).0))))

-- ── no entry names a table that isn't published ──

entry_checked : (words : List ℕ) (before : ℕ) (places : List ℕ) → All Holds (entry_checks words before places) → (at : ℕ) → Contains places at → (get_or words at 0 ≡ 0) ⊎ (is_entry words (get_or words at 0) ≡ true)
entry_checked words before [] holds at is = absurd (Contains-nil at is)
entry_checked words before (place ∷ places) holds at is =
    let word = get_or words place 0 in
    let first = check place (eqb word 0 || (not (eqb before 0) && is_entry words word)) in
    let rest = entry_checks words word places in
    ⊎_elim
    (λ (here : place ≡ at). subst (λ (p : ℕ). (get_or words p 0 ≡ 0) ⊎ (is_entry words (get_or words p 0) ≡ true)) here (⊎_elim
    (λ none. inl (eqb-true word 0 none)) (λ both. inr (and_parts (not (eqb before 0)) (is_entry words word) both).1)
    (or_cases (eqb word 0) (not (eqb before 0) && is_entry words word) (All-head Holds first rest holds))))
    (λ there. entry_checked words word places (All-tail Holds first rest holds) at there)
    (Contains-cons place at places is)

module _ (words : List ℕ) (keeps : KeepsEntryRules words) (object : ℕ) (is : Contains (filter (is_open words) (below 16)) object) where
  checks_of : All Holds (entry_checks words 1 (entry_places words object))
  unfolding entries_rule
  checks_of = keeps_one words (filter (is_open words) (below 16)) (λ o. entry_checks words 1 (entry_places words o)) object keeps.entries.checks is

  published_entry : (word : ℕ) → Contains (entries words object) word → entry_table word < table_count words
  published_entry word among =
      let found = Contains-filter (λ (w : ℕ). not (eqb w 0)) (map (λ (at : ℕ). get_or words at 0) (entry_places words object)) word among in
      let (at, stands, here) = Contains-map (λ (p : ℕ). get_or words p 0) (entry_places words object) word found.0 in
      ⊎_elim
      (λ none. absurd (both_ways (eqb word 0) (not-true (eqb word 0) found.1) (eq-eqb word 0 (sym here ∙ none))))
      (λ entry. let kinds = eqb (entry_kind word) 1 || eqb (entry_kind word) 2 in
      let rows = ltb (entry_row word) (stamped_capacity words (table_block words (entry_table word))) in
      let all = and_parts (kinds && ltb (entry_table word) (table_count words)) rows (subst (λ (w : ℕ). is_entry words w ≡ true) here entry) in
      ltb-true (entry_table word) (table_count words) (and_parts kinds (ltb (entry_table word) (table_count words)) all.0).1)
      (entry_checked words 1 (entry_places words object) checks_of at stands)

  none_created : row_bound (created_rows words object (table_count words)) ≡ 0
  none_created = ap (λ (list : List ℕ). row_bound (map entry_row list))
      (none_pass (λ (word : ℕ). eqb (entry_kind word) 1 && eqb (entry_table word) (table_count words)) (entries words object) (λ word among. ⊎_elim
      (λ hit. absurd (let same = eqb-true (entry_table word) (table_count words) (and_parts (eqb (entry_kind word) 1) (eqb (entry_table word) (table_count words)) hit).1 in let lt = published_entry word among in omega (arith, same, lt)))
      (λ miss. miss)
      (cases_Bool (eqb (entry_kind word) 1 && eqb (entry_table word) (table_count words)))))

no_bound : (words : List ℕ) → KeepsEntryRules words → open_bound words (table_count words) ≡ 0
no_bound words keeps = max_of_none (λ (object : ℕ). row_bound (created_rows words object (table_count words))) (filter (is_open words) (below 16)) (none_created words keeps)

-- ── the tables ──

shown_same : (a b : List ℕ) (d e : List Column) (m n : ℕ) → a ≡ b → d ≡ e → m ≡ n → ◌≡◌ {A = Table} (record { name = a; columns = d; next_row = m }) (record { name = b; columns = e; next_row = n })
shown_same a b d e m n names columns rows = ap (λ (x : List ℕ). with x d m) names ∙ ap (λ (cs : List Column). with b cs m) columns ∙ ap (λ (k : ℕ). with b e k) rows
  where
    with : List ℕ → List Column → ℕ → Table
    with x cs k = record { name = x; columns = cs; next_row = k }

module _ (base : List ℕ) (c : Creation) (on : MayCreateOn base c) (keeps : KeepsEntryRules base) (apart : OwnersAreApart base) (words : List ℕ) (kept : KeepsUntouched base c words) where
  old_shown : (table : ℕ) → table < table_count base → table_of words table ≡ table_of base table
  old_shown table lt =
      let same = old_table base c on keeps apart words kept table lt in
      let block : table_block words table ≡ table_block base table = ap (λ (t : CatalogTable). t.block) same in
      let high : get_or words (high_at (table_block words table)) 0 ≡ get_or base (high_at (table_block base table)) 0 =
      ap (λ (b : ℕ). get_or words (high_at b) 0) block ∙ block_kept base c on keeps apart words kept table lt 1 (omega arith) in
      shown_same (name_at words (table_name_at (table_block words table))) (name_at base (table_name_at (table_block base table)))
      (map (column_of words) (columns_of words (table_block words table))) (map (column_of base) (columns_of base (table_block base table)))
      (next_row_of words table) (next_row_of base table)
      (ap (λ (t : CatalogTable). t.name) same) (ap (λ (t : CatalogTable). t.columns) same)
      (ap (λ (h : ℕ). max h (open_bound words table)) high ∙ ap (max (get_or base (high_at (table_block base table)) 0)) (bound_same base c on keeps apart words kept table))

  old_states : map (table_of words) (below (table_count base)) ≡ map (table_of base) (below (table_count base))
  old_states = same_below (table_of words) (table_of base) (table_count base) old_shown

pub shown_before : (base : List ℕ) (c : Creation) (words : List ℕ) → MayCreateOn base c → KeepsEntryRules base → OwnersAreApart base → IsUncreated base c words → (logical_state words).tables ≡ (logical_state base).tables
unfolding logical_state
shown_before base c words on keeps apart is = ap (λ (n : ℕ). map (table_of words) (below n)) is.count ∙ old_states base c on keeps apart words is.keeps

pub shown_after : (base : List ℕ) (c : Creation) (words : List ℕ) → MayCreateOn base c → HasNames c.name c.columns → KeepsEntryRules base → OwnersAreApart base → IsCreated base c words → (logical_state words).tables ≡ (logical_state base).tables ++ shown_table c ∷ []
unfolding logical_state
shown_after base c words on named keeps apart is =
    let same = new_published base c words named is in
    let block : table_block words (table_count base) ≡ new_block c = ap (λ (t : CatalogTable). t.block) same in
    let size = length-table_record c.name c.columns in
    let high : get_or words (high_at (table_block words (table_count base))) 0 ≡ 0 = ap (λ (b : ℕ). get_or words (high_at b) 0) block ∙ is.record_is 1 (omega (arith, size)) in
    let bound : open_bound words (table_count base) ≡ 0 = bound_same base c on keeps apart words is.keeps (table_count base) ∙ no_bound base keeps in
    let new : table_of words (table_count base) ≡ shown_table c =
    shown_same (name_at words (table_name_at (table_block words (table_count base)))) c.name (map (column_of words) (columns_of words (table_block words (table_count base)))) c.columns (next_row_of words (table_count base)) 0
    (ap (λ (t : CatalogTable). t.name) same) (ap (λ (t : CatalogTable). t.columns) same)
    (ap (λ (h : ℕ). max h (open_bound words (table_count base))) high ∙ ap (max 0) bound) in
    ap (λ (n : ℕ). map (table_of words) (below n)) is.count
    ∙ map_next (table_of words) (table_count base)
    ∙ ap (λ (tables : List Table). tables ++ table_of words (table_count base) ∷ []) (old_states base c on keeps apart words is.keeps)
    ∙ ap (λ (table : Table). map (table_of base) (below (table_count base)) ++ table ∷ []) new
