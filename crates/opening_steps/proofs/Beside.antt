-- Where words change that structures read, but none that says where they stand, all that an image keeps of its heap, lanes, owners
-- and logs goes on, whatever is half done in it.
use Rattle.std.proofs.Common.{◌≡◌, ◌≢◌, ◌⊎◌, inl, inr, ⊎_elim, ℕ, ◌+◌, ◌-◌, ◌/◌, ◌<◌, ◌≤◌, Bool, true, false, cond, not, ◌&&◌, ◌||◌, eqb, leb, ltb, List, ◌++◌, length, get_or, map, refl, sym, ◌∙◌, ap, subst, arith}
use Rattle.std.specs.Prelude.{All, AllPairs, Contains, IsTrue, filter}
use Rattle.std.specs.List.{flat_map, list_any, range_with_len}
use Rattle.std.proofs.lemmas.Bool.{and_from, and_parts, both_ways, cases_eq, cond-false, eqb-true, le-leb, le-ltb, ne_eqb, or_cases, or_left, or_right}
use Rattle.std.proofs.lemmas.List.Elements.{All-contains, Contains-append_cases, Contains-append_left, Contains-get_or}
use Rattle.std.proofs.lemmas.List.FromFn.{length-range_with_len, get_or-range_with_len}
use Rattle.image_layout.specs.Fixed.{descriptor_at, lane_block_at, lane_dest_at, lane_op_at, table_slot_at}
use Rattle.image_layout.specs.Pointer.{pointer_word}
use Rattle.image_layout.specs.Places.{below, is_pointer, page_at, page_count, page_of, place_in}
use Rattle.image_layout.specs.Records.{dictionary_header, first_leaf_at, high_at, new_leaf_at, next_leaf_at, split_leaf_at}
use Rattle.image_layout.specs.Arrays.{capacity, place_of}
use Rattle.image_layout.specs.Trees.{dictionary_length}
use Rattle.image_layout.specs.EntryRules.{is_table_pointer, is_table_slot, table_slot_checks, table_slot_rule, text_columns}
use Rattle.image_layout.specs.Blocks.{Block, descriptor_of, is_free_page, is_given_back, is_inside, is_block_pointer, is_live, is_small_page, live_blocks}
use Rattle.image_layout.specs.Checks.{check, Keeps}
use Rattle.image_layout.specs.HeapRules.{lane_rule, is_lane}
use Rattle.image_layout.specs.SoundRules.{given_back_rule, owner_rule, zero_check}
use Rattle.image_layout.specs.Tables.{all_columns, inner_columns, is_text, table_block, table_count}
use Rattle.image_layout.specs.Owners.{Owner, busy_lanes, firm_owners, lane_owner, lane_targets, leaf_owner, is_replaced, is_replaced_in, lane_block, names_one, NameApart, new_leaf_owners, owner_places, owner_words, owns_block, OwnersAreApart, unfinished_slots, word_of}
use Rattle.image_layout.proofs.Faults.{Holds, mapped_hold}
use Rattle.image_layout.proofs.Members.{below-Contains, Contains-below, Contains-filter, Contains-flat_map, Contains-here, Contains-map, flat_map-Contains, map-Contains}
use Rattle.image_layout.proofs.OwnersApart.{all_from}
use Rattle.image_layout.proofs.TableSlots.{few_tables}
use Rattle.heap_palloc.specs.Calls.{KeepsHeapRules}
use Rattle.heap_palloc.proofs.LiveBlocks.{SameHeap, inside_from, is_inside-same, is_small_page-same, live_blocks-same}
use Rattle.heap_palloc.proofs.SameHeaps.{rules_same}
use Rattle.shown_state.specs.Fits.{Fits, later_slot_rule, later_slots, spoken_for}
use Rattle.shown_state.specs.Logs.{BeginsPages, LaneFits, LogsFit, SlotFits, SplitFits}
use Rattle.shown_state.specs.OpeningParts.{IsImage}
use Rattle.shown_state.specs.Reads.{IsRead}
use Rattle.shown_state.proofs.Alike.{any_members, filter_below, flat_map_alike, map_alike}
use Rattle.shown_state.proofs.ReadsStand.{reads_keep_off}
use Rattle.shown_state.proofs.SameLeaves.{values_same}
use Rattle.shown_state.proofs.SameTables.{dictionary_is, IsHeader}
use Rattle.shown_state.proofs.SameTreeRules.{pointer_is_same}
use Rattle.shown_state.proofs.UnfinishedUnread.{unfinished_are_unread}
use Rattle.opening_steps.proofs.NextSlots.{slot_still_is}
use Rattle.opening_steps.proofs.OwnerPlaces.{owner_place}
use Rattle.opening_steps.proofs.Released.{heap_same}
use Rattle.opening_steps.proofs.Shrinks.{block_still}
use Rattle.opening_steps.proofs.Slots.{null_slot, slots_kept}
use Rattle.opening_steps.proofs.SplitsFit.{split_fits}
use Rattle.opening_steps.proofs.Targets.{target_place, targets_kept}
use Rattle.opening_steps.proofs.Structure.{IsPlace, SamePlaces, of_column, of_leaf, same_tree}
use Rattle.opening_steps.proofs.TreeRules.{text_columns_same}
use Rattle.opening_steps.proofs.Tables.{all_columns_same, capacity_same, count_same, place_same}
use Rattle.opening_steps.proofs.Owners.{owner_words_same, unfinished_same, firm_owners_same, owner_places_same}
use Rattle.opening_steps.proofs.Versions.{VersionGoesOn}

-- The words at these places may change: structures read them, but none of them says where a structure stands, and none is a table
-- slot.
pub record MayChange (words : List ℕ) (changed : ℕ → Type 0) : Type 0 where
  pub read : (w : ℕ) → changed w → IsRead words w
  pub no_place : (w : ℕ) → IsPlace words w → changed w → ⊥
  pub no_slot : (w : ℕ) → changed w → 520 ≤ w → w < 552 → ⊥
  pub no_key : (column code : ℕ) → Contains (all_columns words) column → code < capacity words (dictionary_header column) → changed (place_of words (dictionary_header column) code) → ⊥

-- none of them is a stamp, or the bound of a table
pub record KeepsStamps (words : List ℕ) (changed : ℕ → Type 0) : Type 0 where
  pub chunk : (header index : ℕ) → IsHeader words header → index < capacity words header → changed (place_of words header index) → ⊥
  pub bound : (table : ℕ) → table < table_count words → changed (high_at (table_block words table)) → ⊥

-- only they do, as many columns stand in each table's block, and the version goes on
pub record ChangesOnly (changed : ℕ → Type 0) (old new : List ℕ) : Type 0 where
  pub size : length new ≡ length old
  pub each : (w : ℕ) → (get_or new w 0 ≡ get_or old w 0) ⊎ changed w
  pub inner : (table : ℕ) → table < table_count old → inner_columns new (table_block old table) ≡ inner_columns old (table_block old table)
  pub version : VersionGoesOn old new

-- the slots behind the one at the count are null
pub null_behind : (old : List ℕ) → Keeps old table_slot_rule → (table : ℕ) → table_count old < table → table < 32 → get_or old (table_slot_at table) 0 ≡ 0
unfolding table_slot_rule
null_behind old keeps table above lt =
    let at = table_slot_at table in
    let word = get_or old at 0 in
    let holds : is_table_slot old table ≡ true = All-contains Holds (table_slot_rule old) (check at (is_table_slot old table)) keeps.checks
    (flat_map-Contains (table_slot_checks old) (below 32) table (check at (is_table_slot old table)) (below-Contains 32 table lt) (Contains-here (check at (is_table_slot old table)) _)) in
    let rest : Bool = cond (eqb table (table_count old)) ((eqb word 0) || is_block_pointer old word) (eqb word 0) in
    eqb-true word 0 (
    sym (cond-false (eqb table (table_count old)) ((eqb word 0) || is_block_pointer old word) (eqb word 0) (ne_eqb table (table_count old) (λ e. omega (arith, e, above))))
    ∙ sym (cond-false (ltb table (table_count old)) (is_table_pointer old word) rest (le-ltb table (table_count old) (omega (arith, above))))
    ∙ holds
    )

module _ (old new : List ℕ) (changed : ℕ → Type 0) (image : IsImage old) (fits : Fits old) (may : MayChange old changed) (only : ChangesOnly changed old new) where
  pub places : SamePlaces old new
  places = record {
    size = only.size;
    each = λ w place. ⊎_elim (λ (e : get_or new w 0 ≡ get_or old w 0). e) (λ hit. absurd (may.no_place w place hit)) (only.each w);
    inner = only.inner;
  }

  kept : (w : ℕ) → (changed w → ⊥) → get_or new w 0 ≡ get_or old w 0
  kept w none = ⊎_elim (λ e. e) (λ hit. absurd (none hit)) (only.each w)

  -- ── the heap ──

  pub heap : SameHeap old new
  heap = record {
    size = only.size;
    pages = λ page. record {
      descriptor = kept (descriptor_at page) (λ hit. let (place, used) = reads_keep_off old image fits (descriptor_at page) (may.read (descriptor_at page) hit) in let far = place.no_descriptor in omega (arith, far));
      bitmap = λ small. kept (page_at page) (λ hit.
          let (place, used) = reads_keep_off old image fits (page_at page) (may.read (page_at page) hit) in
          place.no_bitmap (subst (λ (p : ℕ). is_small_page old p ≡ true) (back page) small) (omega arith));
    };
  }
    where
      back : (page : ℕ) → page ≡ page_of (page_at page)
      back page = omega arith

  pub blocks_same : live_blocks new ≡ live_blocks old
  blocks_same = live_blocks-same old new heap

  pub heap_rules : KeepsHeapRules new
  heap_rules = rules_same old new heap (record { reserved = fits.entry.reserved; descriptors = fits.entry.descriptors; bitmaps = fits.entry.bitmaps })

  -- ── lanes ──

  lane_kept : (w : ℕ) → 576 ≤ w → w < 704 → get_or new w 0 ≡ get_or old w 0
  lane_kept w low high = kept w (λ hit.
      let (place, used) = reads_keep_off old image fits w (may.read w hit) in
      ⊎_elim (λ under. omega (arith, low, under)) (λ above. omega (arith, high, above)) place.outside_lanes)

  pub op_same : (lane : ℕ) → lane < 16 → get_or new (lane_op_at lane) 0 ≡ get_or old (lane_op_at lane) 0
  op_same lane lt = lane_kept (lane_op_at lane) (omega arith) (omega (arith, lt))

  dest_same : (lane : ℕ) → lane < 16 → get_or new (lane_dest_at lane) 0 ≡ get_or old (lane_dest_at lane) 0
  dest_same lane lt = lane_kept (lane_dest_at lane) (omega arith) (omega (arith, lt))

  own_owner : (lane : ℕ) → lane < 16 → lane_owner new lane ≡ lane_owner old lane
  own_owner lane lt = ap place_in (dest_same lane lt)

  own_block : (lane : ℕ) → lane < 16 → lane_block new lane ≡ lane_block old lane
  own_block lane lt = lane_kept (lane_block_at lane) (omega arith) (omega (arith, lt))

  busy_same : busy_lanes new ≡ busy_lanes old
  busy_same = filter_below (λ l. not (eqb (get_or new (lane_op_at l) 0) 0)) (λ l. not (eqb (get_or old (lane_op_at l) 0) 0)) 16 16 refl (λ l lt. ap (λ (w : ℕ). not (eqb w 0)) (op_same l lt))

  busy_number : (lane : ℕ) → Contains (busy_lanes old) lane → lane < 16
  busy_number lane is = Contains-below 16 lane (Contains-filter (λ l. not (eqb (get_or old (lane_op_at l) 0) 0)) (below 16) lane is).0

  -- what holds of each lane at work in the one image holds of each in the other
  each_busy : (P : ℕ → Type 0) → ((lane : ℕ) → lane < 16 → Contains (busy_lanes old) lane → P lane) → All P (busy_lanes new)
  each_busy P each = subst (All P) (sym busy_same) (all_from P (busy_lanes old) (λ lane is. each lane (busy_number lane is) is))

  pairs_busy : (R S : ℕ → ℕ → Type 0) → AllPairs R (busy_lanes old) → ((one other : ℕ) → one < 16 → other < 16 → R one other → S one other) → AllPairs S (busy_lanes new)
  pairs_busy R S all on = subst (AllPairs S) (sym busy_same) (λ i j d order lt.
      on (get_or (busy_lanes old) i d) (get_or (busy_lanes old) j d)
      (busy_number (get_or (busy_lanes old) i d) (Contains-get_or (busy_lanes old) i d (omega (arith, order, lt))))
      (busy_number (get_or (busy_lanes old) j d) (Contains-get_or (busy_lanes old) j d lt)) (all i j d order lt))

  heap_old : KeepsHeapRules old
  heap_old = record { reserved = fits.entry.reserved; descriptors = fits.entry.descriptors; bitmaps = fits.entry.bitmaps }

  still_block : (word : ℕ) → is_block_pointer old word ≡ true → is_block_pointer new word ≡ true
  still_block word is = block_still old new (λ place. ⊥) only.size (heap_same old new heap_old heap) word is

  pub lanes_kept : Keeps new lane_rule
  unfolding lane_rule
  lanes_kept = record { checks = mapped_hold (λ lane. check (lane_op_at lane) (is_lane new lane)) (below 16) (λ lane is. lane_still lane (Contains-below 16 lane is)) }
    where
      op : List ℕ → ℕ → ℕ
      op words lane = get_or words (lane_op_at lane) 0

      dest : List ℕ → ℕ → ℕ
      dest words lane = get_or words (lane_dest_at lane) 0

      was : (lane : ℕ) → lane < 16 → is_lane old lane ≡ true
      was lane lt = let rule = fits.entry.lanes in All-contains Holds (lane_rule old) (check (lane_op_at lane) (is_lane old lane)) rule.checks (map-Contains (λ l. check (lane_op_at l) (is_lane old l)) (below 16) lane (below-Contains 16 lane lt))

      lane_still : (lane : ℕ) → lane < 16 → is_lane new lane ≡ true
      lane_still lane lt = ⊎_elim
          (λ none. or_left (eqb (op new lane) 0) _ (ap (λ (n : ℕ). eqb n 0) (op_same lane lt) ∙ none))
          (λ busy.
          let outer = and_parts (leb (op old lane) 2 && is_pointer old (dest old lane)) (is_block_pointer old (lane_block old lane)) busy in
          let inner = and_parts (leb (op old lane) 2) (is_pointer old (dest old lane)) outer.0 in
          or_right (eqb (op new lane) 0) _
          (and_from (leb (op new lane) 2 && is_pointer new (dest new lane)) (is_block_pointer new (lane_block new lane))
          (and_from (leb (op new lane) 2) (is_pointer new (dest new lane)) (ap (λ (n : ℕ). leb n 2) (op_same lane lt) ∙ inner.0)
          (ap (is_pointer new) (dest_same lane lt) ∙ pointer_is_same old new only.size (dest old lane) ∙ inner.1))
          (subst (λ (w : ℕ). is_block_pointer new w ≡ true) (sym (own_block lane lt)) (still_block (lane_block old lane) outer.1))))
          (or_cases (eqb (op old lane) 0) _ (was lane lt))

  -- ── owners ──

  pub columns_same : all_columns new ≡ all_columns old
  columns_same = all_columns_same old new places

  pub owners_same : owner_words new ≡ owner_words old
  owners_same = owner_words_same old new places only.version fits.first fits.entry.arrays fits.entry.trees fits.codes

  firm_same : firm_owners new ≡ firm_owners old
  firm_same = firm_owners_same old new places only.version fits.first fits.entry.arrays fits.entry.trees fits.codes

  pub slots_same : unfinished_slots new ≡ unfinished_slots old
  slots_same = unfinished_same old new places only.version fits.first fits.entry.arrays fits.entry.trees fits.codes

  spots_same : owner_places new ≡ owner_places old
  spots_same = owner_places_same old new places only.version fits.first fits.entry.arrays fits.entry.trees fits.codes

  pub slot_kept : (at : ℕ) → Contains (unfinished_slots old) at → get_or new at 0 ≡ get_or old at 0
  slot_kept at is = kept at (λ hit. unfinished_are_unread old fits at is (may.read at hit))

  firm_kept : (owner : Owner) → Contains (firm_owners old) owner → word_of new owner ≡ word_of old owner
  firm_kept owner is = ⊎_elim
      (λ own. places.each owner.at (owner_place old fits owner own))
      (λ leaf.
      let (column, among, here) = Contains-map (λ c. leaf_owner (new_leaf_at c)) (all_columns old) owner leaf in
      subst (λ (o : Owner). word_of new o ≡ word_of old o) here (places.each (new_leaf_at column) (of_column column 6 among (omega arith) refl)))
      (Contains-append_cases (owner_words old) (new_leaf_owners old) owner is)

  spot_kept : (at : ℕ) → Contains (owner_places old) at → get_or new at 0 ≡ get_or old at 0
  spot_kept at is = ⊎_elim
      (λ firm.
      let (owner, among, here) = Contains-map (λ (o : Owner). o.at) (firm_owners old) at firm in
      subst (λ (w : ℕ). get_or new w 0 ≡ get_or old w 0) here (firm_kept owner among))
      (λ slot. slot_kept at slot)
      (Contains-append_cases (map (λ (o : Owner). o.at) (firm_owners old)) (unfinished_slots old) at is)

  owns_same : (owner : Owner) → Contains (firm_owners old) owner → owns_block new owner ≡ owns_block old owner
  owns_same owner is =
      ap (λ (w : ℕ). is_pointer new w && is_live new (place_in w) owner.block_words) (firm_kept owner is)
      ∙ ap (λ (b : Bool). b && is_live new (place_in (word_of old owner)) owner.block_words) (pointer_is_same old new only.size (word_of old owner))
      ∙ ap (λ (blocks : List Block). is_pointer old (word_of old owner) && list_any (λ block. eqb block.first (place_in (word_of old owner)) && eqb block.words owner.block_words) blocks) blocks_same

  replaced_same : (at other : ℕ) → is_replaced new at other ≡ is_replaced old at other
  replaced_same at other =
      ap (list_any (is_replaced_in new at other)) columns_same
      ∙ any_members (is_replaced_in new at other) (is_replaced_in old at other) (all_columns old) (λ column is.
      ap (λ (leaf : ℕ). eqb other (new_leaf_at column) && ((eqb at (first_leaf_at column)) || (not (eqb leaf 0) && eqb at (next_leaf_at (place_in leaf))))) (places.each (split_leaf_at column) (of_column column 5 is (omega arith) refl)))

  apart_kept : (at other : ℕ) → Contains (owner_places old) at → Contains (owner_places old) other → NameApart old at other → NameApart new at other
  apart_kept at other is is_other apart some some_other free same =
      let here = spot_kept at is in
      let there = spot_kept other is_other in
      apart (λ none. some (here ∙ none)) (λ none. some_other (there ∙ none)) (sym (replaced_same at other) ∙ free) (ap place_in (sym here) ∙ same ∙ ap place_in there)

  -- a word into which a lane may be allocating is one still
  target_kept : (at : ℕ) → Contains (lane_targets old) at → Contains (lane_targets new) at
  target_kept at is = targets_kept old new places only.version slots_same at is

  pub owners_apart : OwnersAreApart new
  owners_apart = record {
    firm = subst (All (λ (owner : Owner). IsTrue (names_one new owner) → IsTrue (owns_block new owner))) (sym firm_same)
        (all_from (λ (owner : Owner). IsTrue (names_one new owner) → IsTrue (owns_block new owner)) (firm_owners old) (λ owner is some.
        owns_same owner is
        ∙ All-contains (λ (o : Owner). IsTrue (names_one old o) → IsTrue (owns_block old o)) (firm_owners old) owner fits.apart.firm is (ap (λ (w : ℕ). not (eqb w 0)) (sym (firm_kept owner is)) ∙ some)));
    unfinished = subst (All (λ (at : ℕ). get_or new at 0 ≢ 0 → IsTrue (is_pointer new (get_or new at 0)) × Contains (map (λ block. block.first) (live_blocks new)) (place_in (get_or new at 0)))) (sym slots_same)
        (all_from (λ (at : ℕ). get_or new at 0 ≢ 0 → IsTrue (is_pointer new (get_or new at 0)) × Contains (map (λ block. block.first) (live_blocks new)) (place_in (get_or new at 0))) (unfinished_slots old) slot_names);
    apart = subst (AllPairs (NameApart new)) (sym spots_same) (λ i j d order lt.
        apart_kept (get_or (owner_places old) i d) (get_or (owner_places old) j d) (Contains-get_or (owner_places old) i d (omega (arith, order, lt))) (Contains-get_or (owner_places old) j d lt) (fits.apart.apart i j d order lt));
    targets = each_busy (λ lane. Contains (lane_targets new) (lane_owner new lane)) (λ lane lt is.
        subst (Contains (lane_targets new)) (sym (own_owner lane lt))
        (target_kept (lane_owner old lane) (All-contains (λ l. Contains (lane_targets old) (lane_owner old l)) (busy_lanes old) lane fits.apart.targets is)));
    lanes = pairs_busy (λ lane other. lane_owner old lane ≢ lane_owner old other) (λ lane other. lane_owner new lane ≢ lane_owner new other) fits.apart.lanes
        (λ one other lt less apart e. apart (sym (own_owner one lt) ∙ e ∙ own_owner other less));
    alone = each_busy (λ lane. All (λ (at : ℕ). (at ≡ lane_owner new lane) ⊎ (get_or new at 0 ≢ lane_block new lane)) (owner_places new)) (λ lane lt is.
        subst (All (λ (at : ℕ). (at ≡ lane_owner new lane) ⊎ (get_or new at 0 ≢ lane_block new lane))) (sym spots_same)
        (all_from (λ (at : ℕ). (at ≡ lane_owner new lane) ⊎ (get_or new at 0 ≢ lane_block new lane)) (owner_places old) (λ at among.
        let was = All-contains (λ a. (a ≡ lane_owner old lane) ⊎ (get_or old a 0 ≢ lane_block old lane)) (owner_places old) at
        (All-contains (λ l. All (λ a. (a ≡ lane_owner old l) ⊎ (get_or old a 0 ≢ lane_block old l)) (owner_places old)) (busy_lanes old) lane fits.apart.alone is) among in
        ⊎_elim (λ own. inl (own ∙ sym (own_owner lane lt))) (λ other. inr (λ named. other (sym (spot_kept at among) ∙ named ∙ own_block lane lt))) was)));
  }
    where
      slot_names : (at : ℕ) → Contains (unfinished_slots old) at → get_or new at 0 ≢ 0 → IsTrue (is_pointer new (get_or new at 0)) × Contains (map (λ block. block.first) (live_blocks new)) (place_in (get_or new at 0))
      slot_names at is named =
          let same = slot_kept at is in
          let was = All-contains (λ a. get_or old a 0 ≢ 0 → IsTrue (is_pointer old (get_or old a 0)) × Contains (map (λ block. block.first) (live_blocks old)) (place_in (get_or old a 0))) (unfinished_slots old) at fits.apart.unfinished is (λ none. named (same ∙ none)) in (
            ap (is_pointer new) same ∙ pointer_is_same old new only.size (get_or old at 0) ∙ was.0,
            subst (λ (blocks : List Block). Contains (map (λ block. block.first) blocks) (place_in (get_or new at 0))) (sym blocks_same)
                (subst (Contains (map (λ (block : Block). block.first) (live_blocks old))) (ap place_in (sym same)) was.1),
          )

  pub owners_kept : Keeps new owner_rule
  unfolding owner_rule
  owners_kept = record {
    checks = subst (λ (owners : List Owner). All Holds (map (λ (owner : Owner). check owner.at (owns_block new owner)) owners)) (sym owners_same)
        (subst (All Holds) (sym (map_alike (λ (owner : Owner). check owner.at (owns_block new owner)) (λ (owner : Owner). check owner.at (owns_block old owner)) (owner_words old) (owner_words old) refl
        (λ owner is. ap (check owner.at) (owns_same owner (Contains-append_left (owner_words old) (new_leaf_owners old) owner is))))) fits.owners.checks);
  }

  spoken_same : spoken_for new ≡ spoken_for old
  spoken_same =
      let words_at : List ℕ → List ℕ = λ lanes. map (λ at. get_or old at 0) (owner_places old) ++ lanes in
      ap (λ (xs : List ℕ). xs ++ map (lane_block new) (busy_lanes new)) (map_alike (λ at. get_or new at 0) (λ at. get_or old at 0) (owner_places new) (owner_places old) spots_same spot_kept)
      ∙ ap words_at (map_alike (lane_block new) (lane_block old) (busy_lanes new) (busy_lanes old) busy_same (λ lane is. own_block lane (busy_number lane is)))

  pub held : All (λ block. Contains (spoken_for new) (pointer_word block.first)) (live_blocks new)
  held = subst (All (λ (block : Block). Contains (spoken_for new) (pointer_word block.first))) (sym blocks_same)
      (subst (λ (spoken : List ℕ). All (λ (block : Block). Contains spoken (pointer_word block.first)) (live_blocks old)) (sym spoken_same) fits.held)

  -- ── logs ──

  inside_same : (page : ℕ) → is_inside new page ≡ is_inside old page
  inside_same page = is_inside-same old new (inside_from old new (λ p. (heap.pages p).descriptor)) page

  begins_kept : (page : ℕ) → BeginsPages old page → BeginsPages new page
  begins_kept page was = record {
    outside = inside_same page ∙ was.outside;
    no_small = is_small_page-same old new (inside_from old new (λ p. (heap.pages p).descriptor)) page (heap.pages page).descriptor ∙ was.no_small;
    clean = λ k more lt. let same = (heap.pages page).descriptor in (heap.pages (page + k)).descriptor ∙ was.clean k more (omega (arith, lt, same));
  }

  lane_fits : (lane : ℕ) → lane < 16 → LaneFits old lane → Contains (lane_targets old) (lane_owner old lane) → LaneFits new lane
  lane_fits lane lt was target =
      let owner = own_owner lane lt in
      let block = own_block lane lt in
      let word : get_or new (lane_owner old lane) 0 ≡ get_or old (lane_owner old lane) 0 = target_word_kept (lane_owner old lane) target in
      record {
        owner = ⊎_elim
            (λ none. inl (ap (λ (a : ℕ). get_or new a 0) owner ∙ word ∙ none))
            (λ named. inr (ap (λ (a : ℕ). get_or new a 0) owner ∙ word ∙ named ∙ sym block)) was.owner;
        pages = λ big. let place = ap place_in block in subst (λ (p : ℕ). BeginsPages new (page_of p)) (sym place) (begins_kept (page_of (place_in (lane_block old lane))) (was.pages (omega (arith, big, place))));
        frees = λ two. subst (λ (xs : List ℕ). Contains xs (lane_owner new lane)) (sym slots_same) (subst (Contains (unfinished_slots old)) (sym owner) (was.frees (sym (op_same lane lt) ∙ two)));
      }
    where
      target_word_kept : (at : ℕ) → Contains (lane_targets old) at → get_or new at 0 ≡ get_or old at 0
      target_word_kept at is = ⊎_elim (λ slot. slot_kept at slot) (λ place. places.each at place) (target_place old at is)

  slot_fits : (at : ℕ) → Contains (unfinished_slots old) at → SlotFits new at
  slot_fits at is named big =
      let same = slot_kept at is in
      let here = ap place_in same in
      let was = All-contains (SlotFits old) (unfinished_slots old) at fits.logs.slots is (λ none. named (same ∙ none)) (omega (arith, big, here)) in
      subst (λ (p : ℕ). BeginsPages new (page_of p)) (sym here) (begins_kept (page_of (place_in (get_or old at 0))) was)

  pub logs : LogsFit new
  logs = record {
    lanes = each_busy (LaneFits new) (λ lane lt is. lane_fits lane lt
        (All-contains (LaneFits old) (busy_lanes old) lane fits.logs.lanes is)
        (All-contains (λ l. Contains (lane_targets old) (lane_owner old l)) (busy_lanes old) lane fits.apart.targets is));
    blocks = pairs_busy (λ lane other. lane_block old lane ≢ lane_block old other) (λ lane other. lane_block new lane ≢ lane_block new other) fits.logs.blocks
        (λ one other lt less apart e. apart (sym (own_block one lt) ∙ e ∙ own_block other less));
    slots = subst (All (SlotFits new)) (sym slots_same) (all_from (SlotFits new) (unfinished_slots old) slot_fits);
    splits = subst (All (SplitFits new)) (sym columns_same) (all_from (SplitFits new) (all_columns old) (λ column is.
        split_fits old new fits column is (λ word few. places.each (column + word) (of_column column word is few refl))
        (λ leaf w listed low high. places.each w (of_leaf column leaf is listed low high))));
  }

  -- ── table slots ──

  pub table_slots : Keeps new table_slot_rule
  table_slots = slots_kept old new places only.version fits.first (few_tables old fits.entry.table_count) fits.entry.table_slots later
    where
      later : (table : ℕ) → table_count old ≤ table → table < 32 → is_table_slot new table ≡ true
      later table le lt =
          let same = kept (table_slot_at table) (λ hit. may.no_slot (table_slot_at table) hit (omega arith) (omega (arith, lt))) in
          ⊎_elim
          (λ (here : table ≡ table_count old). slot_still_is old new fits (count_same old new places) table here lt same (λ named is. still_block (get_or new (table_slot_at table) 0) is))
          (λ behind. null_slot old new places table le (same ∙ null_behind old fits.entry.table_slots table (omega (arith, le, behind)) lt))
          (cases_eq table (table_count old))

  -- ── pages that were given back, and slots behind those at the length ──

  given_same : (page : ℕ) → is_given_back new page ≡ is_given_back old page
  given_same page =
      ap (λ (b : Bool). not b && eqb (descriptor_of new page) 1) (is_inside-same old new (inside_from old new (λ p. (heap.pages p).descriptor)) page)
      ∙ ap (λ (d : ℕ). not (is_inside old page) && eqb d 1) (heap.pages page).descriptor

  zero_kept : (at : ℕ) → get_or new at 0 ≡ get_or old at 0 → zero_check new at ≡ zero_check old at
  zero_kept at same = ap (λ (w : ℕ). check at (eqb w 0)) same

  pub given_kept : Keeps new given_back_rule
  unfolding given_back_rule
  given_kept =
      let pages_of : List ℕ → List ℕ = λ words. flat_map (λ page. range_with_len (page_at page) 512) (filter (is_given_back words) (below (page_count words))) in
      let same_pages : pages_of new ≡ pages_of old = ap (flat_map (λ page. range_with_len (page_at page) 512)) (filter_below (is_given_back new) (is_given_back old) (page_count new) (page_count old) (ap (λ (n : ℕ). n / 512) only.size) (λ page lt. given_same page)) in
      record {
        checks = subst (All Holds) (sym (map_alike (zero_check new) (zero_check old) (pages_of new) (pages_of old) same_pages (λ at is.
            let (page, among, here) = Contains-flat_map (λ p. range_with_len (page_at p) 512) (filter (is_given_back old) (below (page_count old))) at is in
            let given = (Contains-filter (is_given_back old) (below (page_count old)) page among).1 in
            zero_kept at (kept at (λ hit. used page at given here (reads_keep_off old image fits at (may.read at hit)).1))))) fits.given_back.checks;
      }
    where
      used : (page at : ℕ) → is_given_back old page ≡ true → Contains (range_with_len (page_at page) 512) at → is_free_page old (page_of at) ≡ false → ⊥
      used page at given is not_free =
          let parts = and_parts (not (is_inside old page)) (eqb (descriptor_of old page) 1) given in
          let (i, lt, same) = is in
          let size = length-range_with_len (page_at page) 512 in
          let value = get_or-range_with_len (page_at page) 512 i at (omega (arith, lt, size)) in
          let here : page_of at ≡ page = omega (arith, value, same, lt, size) in
          let one = eqb-true (descriptor_of old page) 1 parts.1 in
          let free : is_free_page old page ≡ true = and_from (not (is_inside old page)) (leb (descriptor_of old page) 1) parts.0 (le-leb (descriptor_of old page) 1 (omega (arith, one))) in
          both_ways (is_free_page old page) (subst (λ (p : ℕ). is_free_page old p ≡ false) here not_free) free

  pub later_kept : Keeps new later_slot_rule
  unfolding later_slot_rule
  later_kept = record {
    checks = subst (All Holds) (sym (map_alike (zero_check new) (zero_check old) (flat_map (later_slots new) (text_columns new)) (flat_map (later_slots old) (text_columns old))
        (flat_map_alike (later_slots new) (later_slots old) (text_columns new) (text_columns old) texts_same (λ column is. slots_of column (Contains-filter (is_text old) (all_columns old) column is).0))
        (λ at is.
        let (column, among, here) = Contains-flat_map (later_slots old) (text_columns old) at is in
        let of = (Contains-filter (is_text old) (all_columns old) column among).0 in
        let (code, within, place) = Contains-map (place_of old (dictionary_header column)) (codes_of old column) at here in
        zero_kept at (kept at (λ hit. may.no_key column code of (code_under column code within) (subst changed (sym place) hit)))))) fits.later_slots.checks;
  }
    where
      codes_of : List ℕ → ℕ → List ℕ
      codes_of words column = let next = dictionary_length words column + 1 in range_with_len next (capacity words (dictionary_header column) - next)

      code_under : (column code : ℕ) → Contains (codes_of old column) code → code < capacity old (dictionary_header column)
      code_under column code is =
          let next = dictionary_length old column + 1 in
          let count = capacity old (dictionary_header column) - next in
          let (i, lt, same) = is in
          let size = length-range_with_len next count in
          let value = get_or-range_with_len next count i code (omega (arith, lt, size)) in
          omega (arith, value, same, lt, size)

      texts_same : text_columns new ≡ text_columns old
      texts_same = text_columns_same old new places (same_tree old new places) fits.entry.trees

      slots_of : (column : ℕ) → Contains (all_columns old) column → later_slots new column ≡ later_slots old column
      slots_of column is =
          let header = dictionary_header column in
          let headed = dictionary_is old column is in
          let made : ℕ → ℕ → List ℕ = λ length count. range_with_len (length + 1) (count - (length + 1)) in
          map_alike (place_of new header) (place_of old header) (codes_of new column) (codes_of old column)
          (ap (λ (n : ℕ). made n (capacity new header)) (values_same old new fits.entry.trees column is (same_tree old new places column is))
          ∙ ap (made (dictionary_length old column)) (capacity_same old new places header headed))
          (λ code within. place_same old new places fits.entry.arrays header code headed (code_under column code within))
