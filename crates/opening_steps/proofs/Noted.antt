-- Lane 0 notes that the block of an unfinished slot is to be freed: each cut of that keeps what fits, and shows the same.
use Rattle.std.proofs.Common.{◌≡◌, ◌≢◌, ◌⊎◌, inl, inr, ⊎_elim, ℕ, ◌+◌, ◌/◌, ◌%◌, ◌<◌, ◌≤◌, Bool, true, not, ◌&&◌, ◌||◌, eqb, leb, ltb, List, length, get_or, map, refl, sym, ◌∙◌, ap, subst, arith}
use Rattle.std.specs.Prelude.{All, AllPairs, Contains, IsTrue, filter}
use Rattle.std.specs.List.{flat_map, list_any, range_with_len}
use Rattle.std.proofs.lemmas.Bool.{and_from, and_parts, both_ways, cases_eq, eq-eqb, eqb-true, lt-ltb, cases_lt, not-true, or_left, or_right}
use Rattle.std.proofs.lemmas.List.Elements.{All-contains, Contains-append_cases, Contains-append_left, Contains-append_right, Contains-get_or}
use Rattle.std.proofs.lemmas.List.FromFn.{get_or-range_with_len, length-range_with_len}
use Rattle.image_layout.specs.Blocks.{Block, descriptor_of, is_block_pointer, is_given_back, is_inside, is_live, live_blocks}
use Rattle.image_layout.specs.Checks.{check, Keeps}
use Rattle.image_layout.specs.EntryRules.{is_table_slot, table_slot_rule, text_columns}
use Rattle.image_layout.specs.Fixed.{descriptor_at, lane_block_at, lane_dest_at, lane_op_at, table_slot_at, version_at}
use Rattle.image_layout.specs.HeapRules.{is_lane, lane_rule}
use Rattle.image_layout.specs.Owners.{busy_lanes, firm_owners, is_replaced, is_replaced_in, lane_block, lane_owner, lane_targets, leaf_owner, NameApart, names_one, new_leaf_owners, Owner, owner_places, owner_words, OwnersAreApart, owns_block, unfinished_slots, word_of}
use Rattle.image_layout.specs.Places.{below, is_pointer, page_at, page_count, page_of, place_in}
use Rattle.image_layout.specs.Pointer.{pointer_word}
use Rattle.image_layout.specs.Records.{first_leaf_at, new_leaf_at, next_leaf_at, split_leaf_at}
use Rattle.image_layout.specs.SoundRules.{given_back_rule, owner_rule, zero_check}
use Rattle.image_layout.specs.Tables.{all_columns, table_count}
use Rattle.image_layout.specs.Trees.{is_about_to_link}
use Rattle.image_layout.proofs.Faults.{Holds, mapped_hold}
use Rattle.image_layout.proofs.Members.{Contains-below, Contains-filter, Contains-flat_map, Contains-map, map-Contains}
use Rattle.image_layout.proofs.OwnersApart.{all_from}
use Rattle.image_layout.proofs.Precedes.{either_first, pair_of}
use Rattle.image_layout.proofs.TableSlots.{few_tables}
use Rattle.heap_palloc.specs.Calls.{KeepsHeapRules}
use Rattle.heap_palloc.specs.Law.{IsOwnerPlace}
use Rattle.heap_palloc.proofs.LiveBlocks.{inside_from, is_inside-same, is_small_page-same, live_blocks-same, SameHeap}
use Rattle.heap_palloc.proofs.RulesKept.{rules_at}
use Rattle.heap_palloc.proofs.SameHeaps.{rules_same}
use Rattle.shown_state.specs.Fits.{Fits, later_slot_rule, later_slots, spoken_for}
use Rattle.shown_state.specs.Logs.{BeginsPages, LaneFits, LogsFit, SlotFits, SplitFits}
use Rattle.shown_state.specs.OpeningParts.{IsImage}
use Rattle.shown_state.specs.ReadLaws.{FitsBeside, OwnedAlike, ReadAlike}
use Rattle.shown_state.specs.Reads.{in_column, in_head, IsRead, SameReads}
use Rattle.shown_state.specs.StepLaws.{AreJoined}
use Rattle.shown_state.proofs.Alike.{any_members, filter_below, map_alike}
use Rattle.shown_state.proofs.ReadLaw.{reads_decide, reads_fit}
use Rattle.shown_state.proofs.SameTreeRules.{pointer_is_same}
use Rattle.shown_state.proofs.UnfinishedUnread.{unread_may_differ}
use Rattle.shown_state.proofs.Walks.{pointers_name_their_place}
use Rattle.opening_steps.specs.QuietImages.{StaysPlain}
use Rattle.opening_steps.proofs.Beside.{null_behind}
use Rattle.opening_steps.proofs.LaneSpots.{place_read, precedes_at, precedes_whole, same_places, slot_spot, slot_target}
use Rattle.opening_steps.proofs.NextSlots.{later_slots_same, later_spot, slot_still_is}
use Rattle.opening_steps.proofs.OwnerPlaces.{owner_place}
use Rattle.opening_steps.proofs.Released.{heap_same}
use Rattle.opening_steps.proofs.Shrinks.{block_still}
use Rattle.opening_steps.proofs.Slots.{null_slot, slots_kept}
use Rattle.opening_steps.proofs.SplitLogs.{logs_null, no_replaced, no_split_kept}
use Rattle.opening_steps.proofs.Structure.{SamePlaces}
use Rattle.opening_steps.proofs.Versions.{same_version}

-- lane 0 frees the block whose pointer stands at a place
pub record FreesAt (words new : List ℕ) (at : ℕ) : Type 0 where
  pub op : get_or new (lane_op_at 0) 0 ≡ 2
  pub dest : get_or new (lane_dest_at 0) 0 ≡ pointer_word at
  pub block : get_or new (lane_block_at 0) 0 ≡ get_or words at 0

-- The words but those of lane 0, which is idle still, or frees that block.
pub record IsNoted (words new : List ℕ) (at : ℕ) : Type 0 where
  pub size : length new ≡ length words
  pub each : (w : ℕ) → w ≢ lane_op_at 0 → w ≢ lane_dest_at 0 → w ≢ lane_block_at 0 → get_or new w 0 ≡ get_or words w 0
  pub op : (get_or new (lane_op_at 0) 0 ≡ 0) ⊎ FreesAt words new at

module _ (words new : List ℕ) (at : ℕ) (image : IsImage words) (fits : Fits words) (joined : AreJoined 512 words) (slot : Contains (unfinished_slots words) at) (some : get_or words at 0 ≢ 0)
    (pointer : is_block_pointer words (get_or words at 0) ≡ true) (noted : IsNoted words new at) where
  outside : (w : ℕ) → (w < 576) ⊎ (704 ≤ w) → get_or new w 0 ≡ get_or words w 0
  outside w far = noted.each w
      (λ e. ⊎_elim (λ low. omega (arith, e, low)) (λ high. omega (arith, e, high)) far)
      (λ e. ⊎_elim (λ low. omega (arith, e, low)) (λ high. omega (arith, e, high)) far)
      (λ e. ⊎_elim (λ low. omega (arith, e, low)) (λ high. omega (arith, e, high)) far)

  each_word : (w : ℕ) → (get_or new w 0 ≡ get_or words w 0) ⊎ ((576 ≤ w) × (w < 704))
  each_word w = ⊎_elim (λ low. inl (outside w (inl low)))
      (λ from. ⊎_elim (λ below_end. inr (from, below_end)) (λ high. inl (outside w (inr high))) (cases_lt w 704)) (cases_lt w 576)

  same : SameReads words new
  same = unread_may_differ words new image fits noted.size (λ w. ⊎_elim (λ e. inl e) (λ lane. inr (inl lane)) (each_word w))

  pub read : ReadAlike words new
  read = let (a, b, c, d, e, f) = reads_decide words new fits same in a

  pub owned : OwnedAlike words new
  owned = let (a, b, c, d, e, f) = reads_decide words new fits same in f

  -- ── the heap ──

  heap : SameHeap words new
  heap = record {
    size = noted.size;
    pages = λ page. record {
      descriptor = outside (descriptor_at page) (low_or_high page);
      bitmap = λ small. outside (page_at page) (⊎_elim (λ none. inl (omega (arith, none))) (λ more. ⊎_elim (λ one. inl (omega (arith, one))) (λ two. inr (omega (arith, more, two))) (cases_eq page 1)) (cases_eq page 0));
    };
  }
    where
      low_or_high : (page : ℕ) → (descriptor_at page < 576) ⊎ (704 ≤ descriptor_at page)
      low_or_high page = ⊎_elim (λ (low : page < 64). inl (omega (arith, low))) (λ high. inr (omega (arith, high))) (cases_lt page 64)

  rules_old : KeepsHeapRules words
  rules_old = record { reserved = fits.entry.reserved; descriptors = fits.entry.descriptors; bitmaps = fits.entry.bitmaps }

  blocks_same : live_blocks new ≡ live_blocks words
  blocks_same = live_blocks-same words new heap

  pointer_same : (word : ℕ) → is_pointer new word ≡ is_pointer words word
  pointer_same word = pointer_is_same words new noted.size word

  still_block : (word : ℕ) → is_block_pointer words word ≡ true → is_block_pointer new word ≡ true
  still_block word is = block_still words new (λ place. ⊥) noted.size (heap_same words new rules_old heap) word is

  -- ── lanes ──

  idle_op : (lane : ℕ) → lane < 16 → lane ≢ 0 → get_or new (lane_op_at lane) 0 ≡ 0
  idle_op lane lt other = noted.each (lane_op_at lane) (λ e. other (omega (arith, e))) (λ e. omega (arith, e)) (λ e. omega (arith, e)) ∙ joined.0 lane lt

  busy_is : (lane : ℕ) → Contains (busy_lanes new) lane → (lane ≡ 0) × FreesAt words new at
  busy_is lane is =
      let parts = Contains-filter (λ l. not (eqb (get_or new (lane_op_at l) 0) 0)) (below 16) lane is in
      let busy : get_or new (lane_op_at lane) 0 ≢ 0 = λ none. both_ways (eqb (get_or new (lane_op_at lane) 0) 0) (not-true (eqb (get_or new (lane_op_at lane) 0) 0) parts.1) (eq-eqb (get_or new (lane_op_at lane) 0) 0 none) in
      ⊎_elim
      (λ (here : lane ≡ 0). ⊎_elim (λ none. absurd (busy (ap (λ (l : ℕ). get_or new (lane_op_at l) 0) here ∙ none))) (λ frees. (here, frees)) noted.op)
      (λ other. absurd (busy (idle_op lane (Contains-below 16 lane parts.0) other)))
      (cases_eq lane 0)

  at_spot : (place : ℕ) → Contains (unfinished_slots words) place → IsOwnerPlace words place
  at_spot place is = slot_spot words words 0 image (omega arith) fits refl (λ w. inl refl) place is

  owner_is : FreesAt words new at → lane_owner new 0 ≡ at
  owner_is frees = ap place_in frees.dest ∙ pointers_name_their_place at

  lane_still : (lane : ℕ) → lane < 16 → is_lane new lane ≡ true
  lane_still lane lt = ⊎_elim
      (λ (here : lane ≡ 0). subst (λ (l : ℕ). is_lane new l ≡ true) (sym here) (⊎_elim (λ none. or_left (eqb (op 0) 0) _ (eq-eqb (op 0) 0 none)) freeing noted.op))
      (λ other. or_left (eqb (op lane) 0) _ (eq-eqb (op lane) 0 (idle_op lane lt other)))
      (cases_eq lane 0)
    where
      op : ℕ → ℕ
      op lane = get_or new (lane_op_at lane) 0

      freeing : FreesAt words new at → is_lane new 0 ≡ true
      freeing frees = or_right (eqb (op 0) 0) _
          (and_from (leb (op 0) 2 && is_pointer new (get_or new (lane_dest_at 0) 0)) (is_block_pointer new (lane_block new 0))
          (and_from (leb (op 0) 2) (is_pointer new (get_or new (lane_dest_at 0) 0)) (ap (λ (n : ℕ). leb n 2) frees.op) (subst (λ (w : ℕ). is_pointer new w ≡ true) (sym frees.dest) at_pointer))
          (subst (λ (w : ℕ). is_block_pointer new w ≡ true) (sym frees.block) (still_block (get_or words at 0) pointer)))
        where
          at_pointer : is_pointer new (pointer_word at) ≡ true
          at_pointer =
              let place = pointers_name_their_place at in
              let inside = (at_spot at slot).in_image in
              let size = noted.size in
              and_from (eqb (pointer_word at) (pointer_word (place_in (pointer_word at)))) (ltb (place_in (pointer_word at)) (length new))
              (eq-eqb (pointer_word at) (pointer_word (place_in (pointer_word at))) (ap pointer_word (sym place)))
              (lt-ltb (place_in (pointer_word at)) (length new) (omega (arith, place, inside, size)))

  lanes_kept : Keeps new lane_rule
  unfolding lane_rule
  lanes_kept = record { checks = mapped_hold (λ l. check (lane_op_at l) (is_lane new l)) (below 16) (λ l is. lane_still l (Contains-below 16 l is)) }

  -- ── owners ──

  firm_kept : (owner : Owner) → Contains (firm_owners words) owner → word_of new owner ≡ word_of words owner
  firm_kept owner is = same.each owner.at (firm_read owner is)
    where
      firm_read : (owner : Owner) → Contains (firm_owners words) owner → IsRead words owner.at
      firm_read owner is = ⊎_elim
          (λ own. place_read words owner.at (owner_place words fits owner own))
          (λ leaf.
          let (column, among, here) = Contains-map (λ c. leaf_owner (new_leaf_at c)) (all_columns words) owner leaf in
          subst (λ (o : Owner). IsRead words o.at) here (in_column column 6 among (omega arith) refl))
          (Contains-append_cases (owner_words words) (new_leaf_owners words) owner is)

  slot_kept : (place : ℕ) → Contains (unfinished_slots words) place → get_or new place 0 ≡ get_or words place 0
  slot_kept place is = outside place (at_spot place is).outside_lanes

  slot_among : (place : ℕ) → Contains (unfinished_slots words) place → Contains (owner_places words) place
  slot_among place is = Contains-append_right (map (λ (o : Owner). o.at) (firm_owners words)) (unfinished_slots words) place is

  word_kept : (place : ℕ) → Contains (owner_places words) place → get_or new place 0 ≡ get_or words place 0
  word_kept place is = ⊎_elim
      (λ firm.
      let (owner, among, here) = Contains-map (λ (o : Owner). o.at) (firm_owners words) place firm in
      subst (λ (w : ℕ). get_or new w 0 ≡ get_or words w 0) here (firm_kept owner among))
      (λ next. slot_kept place next)
      (Contains-append_cases (map (λ (o : Owner). o.at) (firm_owners words)) (unfinished_slots words) place is)

  owns_same : (owner : Owner) → Contains (firm_owners words) owner → owns_block new owner ≡ owns_block words owner
  owns_same owner is =
      ap (λ (w : ℕ). is_pointer new w && is_live new (place_in w) owner.block_words) (firm_kept owner is)
      ∙ ap (λ (b : Bool). b && is_live new (place_in (word_of words owner)) owner.block_words) (pointer_same (word_of words owner))
      ∙ ap (λ (blocks : List Block). is_pointer words (word_of words owner) && list_any (λ block. eqb block.first (place_in (word_of words owner)) && eqb block.words owner.block_words) blocks) blocks_same

  replaced_same : (one other : ℕ) → is_replaced new one other ≡ is_replaced words one other
  replaced_same one other =
      ap (list_any (is_replaced_in new one other)) read.columns
      ∙ any_members (is_replaced_in new one other) (is_replaced_in words one other) (all_columns words) (λ column is.
      ap (λ (leaf : ℕ). eqb other (new_leaf_at column) && ((eqb one (first_leaf_at column)) || (not (eqb leaf 0) && eqb one (next_leaf_at (place_in leaf))))) (same.each (split_leaf_at column) (in_column column 5 is (omega arith) refl)))

  apart_kept : (one other : ℕ) → Contains (owner_places words) one → Contains (owner_places words) other → NameApart words one other → NameApart new one other
  apart_kept one other is is_other apart named named_other free equal =
      let here = word_kept one is in
      let there = word_kept other is_other in
      apart (λ none. named (here ∙ none)) (λ none. named_other (there ∙ none)) (sym (replaced_same one other) ∙ free) (ap place_in (sym here) ∙ equal ∙ ap place_in there)

  -- no other owner word has the pointer of the block
  others_apart : (place : ℕ) → Contains (owner_places words) place → (place ≡ at) ⊎ (get_or words place 0 ≢ get_or words at 0)
  others_apart place is = ⊎_elim (λ here. inl here)
      (λ other. inr (λ named.
      let named_some : get_or words place 0 ≢ 0 = λ none. some (sym named ∙ none) in
      ⊎_elim
      (λ before. pair_of (NameApart words) (owner_places words) place at fits.apart.apart before named_some some (no_replaced words fits joined.1 place at some) (ap place_in named))
      (λ after. pair_of (NameApart words) (owner_places words) at place fits.apart.apart after some named_some (no_replaced words fits joined.1 at place named_some) (ap place_in (sym named)))
      (either_first (owner_places words) place at is (slot_among at slot) other)))
      (cases_eq place at)

  -- of two lanes at work one isn't lane 0
  single : (i j d : ℕ) → i < j → j < length (busy_lanes new) → ⊥
  single i j d order lt =
      let test : ℕ → Bool = λ l. not (eqb (get_or new (lane_op_at l) 0) 0) in
      let one = get_or (busy_lanes new) i d in
      let other = get_or (busy_lanes new) j d in
      let first = (busy_is one (Contains-get_or (busy_lanes new) i d (omega (arith, order, lt)))).0 in
      let second = (busy_is other (Contains-get_or (busy_lanes new) j d lt)).0 in
      pair_of (λ x y. x ≢ y) (below 16) one other (λ k l e before less same.
      let length_is = length-range_with_len 0 16 in
      let at_k = get_or-range_with_len 0 16 k e (omega (arith, before, less, length_is)) in
      let at_l = get_or-range_with_len 0 16 l e (omega (arith, less, length_is)) in
      omega (arith, at_k, at_l, same, before))
      (precedes_whole test (below 16) one other (precedes_at (busy_lanes new) i j d order lt)) (first ∙ sym second)

  owners_apart : OwnersAreApart new
  owners_apart = record {
    firm = subst (All (λ (owner : Owner). IsTrue (names_one new owner) → IsTrue (owns_block new owner))) (sym owned.firm)
        (all_from (λ (owner : Owner). IsTrue (names_one new owner) → IsTrue (owns_block new owner)) (firm_owners words) (λ owner is named.
        owns_same owner is
        ∙ All-contains (λ (o : Owner). IsTrue (names_one words o) → IsTrue (owns_block words o)) (firm_owners words) owner fits.apart.firm is (ap (λ (w : ℕ). not (eqb w 0)) (sym (firm_kept owner is)) ∙ named)));
    unfinished = subst (All (λ (place : ℕ). get_or new place 0 ≢ 0 → IsTrue (is_pointer new (get_or new place 0)) × Contains (map (λ block. block.first) (live_blocks new)) (place_in (get_or new place 0)))) (sym owned.unfinished)
        (all_from (λ (place : ℕ). get_or new place 0 ≢ 0 → IsTrue (is_pointer new (get_or new place 0)) × Contains (map (λ block. block.first) (live_blocks new)) (place_in (get_or new place 0))) (unfinished_slots words) slot_names);
    apart = subst (AllPairs (NameApart new)) (sym owned.places) (λ i j d order lt.
        apart_kept (get_or (owner_places words) i d) (get_or (owner_places words) j d) (Contains-get_or (owner_places words) i d (omega (arith, order, lt))) (Contains-get_or (owner_places words) j d lt) (fits.apart.apart i j d order lt));
    targets = all_from (λ (l : ℕ). Contains (lane_targets new) (lane_owner new l)) (busy_lanes new) (λ l is.
        let (here, frees) = busy_is l is in
        subst (λ (k : ℕ). Contains (lane_targets new) (lane_owner new k)) (sym here)
        (subst (λ (xs : List ℕ). Contains xs (lane_owner new 0)) (sym owned.targets) (subst (Contains (lane_targets words)) (sym (owner_is frees)) target)));
    lanes = λ i j d order lt. absurd (single i j d order lt);
    alone = all_from (λ (l : ℕ). All (λ (place : ℕ). (place ≡ lane_owner new l) ⊎ (get_or new place 0 ≢ lane_block new l)) (owner_places new)) (busy_lanes new) (λ l is.
        let (here, frees) = busy_is l is in
        subst (λ (k : ℕ). All (λ (place : ℕ). (place ≡ lane_owner new k) ⊎ (get_or new place 0 ≢ lane_block new k)) (owner_places new)) (sym here)
        (subst (All (λ (place : ℕ). (place ≡ lane_owner new 0) ⊎ (get_or new place 0 ≢ lane_block new 0))) (sym owned.places)
        (all_from (λ (place : ℕ). (place ≡ lane_owner new 0) ⊎ (get_or new place 0 ≢ lane_block new 0)) (owner_places words) (λ place among.
        ⊎_elim (λ own. inl (own ∙ sym (owner_is frees))) (λ other. inr (λ named. other (sym (word_kept place among) ∙ named ∙ frees.block))) (others_apart place among)))));
  }
    where
      target : Contains (lane_targets words) at
      target = slot_target words at slot

      slot_names : (place : ℕ) → Contains (unfinished_slots words) place → get_or new place 0 ≢ 0 → IsTrue (is_pointer new (get_or new place 0)) × Contains (map (λ block. block.first) (live_blocks new)) (place_in (get_or new place 0))
      slot_names place is named =
          let kept = slot_kept place is in
          let was = All-contains (λ a. get_or words a 0 ≢ 0 → IsTrue (is_pointer words (get_or words a 0)) × Contains (map (λ block. block.first) (live_blocks words)) (place_in (get_or words a 0))) (unfinished_slots words) place fits.apart.unfinished is (λ none. named (kept ∙ none)) in (
            ap (is_pointer new) kept ∙ pointer_same (get_or words place 0) ∙ was.0,
            subst (λ (blocks : List Block). Contains (map (λ block. block.first) blocks) (place_in (get_or new place 0))) (sym blocks_same)
                (subst (Contains (map (λ (block : Block). block.first) (live_blocks words))) (ap place_in (sym kept)) was.1),
          )

  owners_kept : Keeps new owner_rule
  unfolding owner_rule
  owners_kept = record {
    checks = subst (λ (owners : List Owner). All Holds (map (λ (owner : Owner). check owner.at (owns_block new owner)) owners)) (sym owned.owners)
        (subst (All Holds) (sym (map_alike (λ (owner : Owner). check owner.at (owns_block new owner)) (λ (owner : Owner). check owner.at (owns_block words owner)) (owner_words words) (owner_words words) refl
        (λ owner is. ap (check owner.at) (owns_same owner (Contains-append_left (owner_words words) (new_leaf_owners words) owner is))))) fits.owners.checks);
  }

  -- each live block is spoken for, by an owner's word
  held : All (λ block. Contains (spoken_for new) (pointer_word block.first)) (live_blocks new)
  held = subst (All (λ (block : Block). Contains (spoken_for new) (pointer_word block.first))) (sym blocks_same)
      (all_from (λ (block : Block). Contains (spoken_for new) (pointer_word block.first)) (live_blocks words) (λ block live.
      let word = pointer_word block.first in
      ⊎_elim
      (λ placed.
      let (place, among, here) = Contains-map (λ a. get_or words a 0) (owner_places words) word placed in
      let own : Contains (owner_places new) place = subst (λ (xs : List ℕ). Contains xs place) (sym owned.places) among in
      Contains-append_left (map (λ a. get_or new a 0) (owner_places new)) (map (lane_block new) (busy_lanes new)) word
      (subst (Contains (map (λ a. get_or new a 0) (owner_places new))) (word_kept place among ∙ here) (map-Contains (λ a. get_or new a 0) (owner_places new) place own)))
      (λ lanes.
      let (lane, busy, here) = Contains-map (lane_block words) (busy_lanes words) word lanes in
      let parts = Contains-filter (λ l. not (eqb (get_or words (lane_op_at l) 0) 0)) (below 16) lane busy in
      absurd (both_ways (eqb (get_or words (lane_op_at lane) 0) 0) (not-true (eqb (get_or words (lane_op_at lane) 0) 0) parts.1) (eq-eqb (get_or words (lane_op_at lane) 0) 0 (joined.0 lane (Contains-below 16 lane parts.0)))))
      (Contains-append_cases (map (λ a. get_or words a 0) (owner_places words)) (map (lane_block words) (busy_lanes words)) word
      (All-contains (λ (b : Block). Contains (spoken_for words) (pointer_word b.first)) (live_blocks words) block fits.held live))))

  -- ── logs ──

  inside_same : (page : ℕ) → is_inside new page ≡ is_inside words page
  inside_same page = is_inside-same words new (inside_from words new (λ p. (heap.pages p).descriptor)) page

  begins_kept : (page : ℕ) → BeginsPages words page → BeginsPages new page
  begins_kept page was = record {
    outside = inside_same page ∙ was.outside;
    no_small = is_small_page-same words new (inside_from words new (λ p. (heap.pages p).descriptor)) page (heap.pages page).descriptor ∙ was.no_small;
    clean = λ k more lt. let same = (heap.pages page).descriptor in (heap.pages (page + k)).descriptor ∙ was.clean k more (omega (arith, lt, same));
  }

  slot_fits : (place : ℕ) → Contains (unfinished_slots words) place → SlotFits new place
  slot_fits place is named big =
      let kept = slot_kept place is in
      let here = ap place_in kept in
      let was = All-contains (SlotFits words) (unfinished_slots words) place fits.logs.slots is (λ none. named (kept ∙ none)) (omega (arith, big, here)) in
      subst (λ (p : ℕ). BeginsPages new (page_of p)) (sym here) (begins_kept (page_of (place_in (get_or words place 0))) was)

  lane_fits : FreesAt words new at → LaneFits new 0
  lane_fits frees =
      let owner = owner_is frees in
      record {
        owner = inr (ap (λ (a : ℕ). get_or new a 0) owner ∙ slot_kept at slot ∙ sym frees.block);
        pages = λ big.
            let here = ap place_in frees.block in
            let was = All-contains (SlotFits words) (unfinished_slots words) at fits.logs.slots slot some (omega (arith, big, here)) in
            subst (λ (p : ℕ). BeginsPages new (page_of p)) (sym here) (begins_kept (page_of (place_in (get_or words at 0))) was);
        frees = λ two. subst (λ (xs : List ℕ). Contains xs (lane_owner new 0)) (sym owned.unfinished) (subst (Contains (unfinished_slots words)) (sym owner) slot);
      }

  split_fits : (column : ℕ) → Contains (all_columns words) column → SplitFits new column
  split_fits column is = record {
    unlinked = λ split. absurd (split leaf);
    goes_on = λ about. absurd (not_about about);
    bitmap = λ about. absurd (not_about about);
    first = λ none named. absurd (named fresh);
    later = λ split. absurd (split leaf);
  }
    where
      leaf : get_or new (split_leaf_at column) 0 ≡ 0
      leaf = same.each (split_leaf_at column) (in_column column 5 is (omega arith) refl) ∙ (logs_null words fits joined.1 column is).0

      fresh : get_or new (new_leaf_at column) 0 ≡ 0
      fresh = same.each (new_leaf_at column) (in_column column 6 is (omega arith) refl) ∙ (logs_null words fits joined.1 column is).1

      not_about : is_about_to_link new column ≡ true → ⊥
      not_about about =
          let three = (and_parts _ _ about).0 in
          let two = (and_parts _ _ three).0 in
          let one = (and_parts _ _ two).0 in
          both_ways (eqb (get_or new (split_leaf_at column) 0) 0) (not-true (eqb (get_or new (split_leaf_at column) 0) 0) one) (eq-eqb (get_or new (split_leaf_at column) 0) 0 leaf)

  logs : LogsFit new
  logs = record {
    lanes = all_from (LaneFits new) (busy_lanes new) (λ l is. let (here, frees) = busy_is l is in subst (LaneFits new) (sym here) (lane_fits frees));
    blocks = λ i j d order lt. absurd (single i j d order lt);
    slots = subst (All (SlotFits new)) (sym owned.unfinished) (all_from (SlotFits new) (unfinished_slots words) slot_fits);
    splits = subst (All (SplitFits new)) (sym read.columns) (all_from (SplitFits new) (all_columns words) split_fits);
  }

  -- ── slots and pages ──

  later_kept : Keeps new later_slot_rule
  unfolding later_slot_rule
  later_kept = record {
    checks = subst (All Holds) (sym (map_alike (zero_check new) (zero_check words) (flat_map (later_slots new) (text_columns new)) (flat_map (later_slots words) (text_columns words)) (later_slots_same words new fits same)
        (λ place is. ap (λ (w : ℕ). check place (eqb w 0)) (outside place (later_spot words image fits place is).outside_lanes)))) fits.later_slots.checks;
  }

  given_same : (page : ℕ) → is_given_back new page ≡ is_given_back words page
  given_same page =
      ap (λ (b : Bool). not b && eqb (descriptor_of new page) 1) (inside_same page)
      ∙ ap (λ (d : ℕ). not (is_inside words page) && eqb d 1) (heap.pages page).descriptor

  given_kept : Keeps new given_back_rule
  unfolding given_back_rule
  given_kept =
      let pages_of : List ℕ → List ℕ = λ ws. flat_map (λ page. range_with_len (page_at page) 512) (filter (is_given_back ws) (below (page_count ws))) in
      let same_pages : pages_of new ≡ pages_of words = ap (flat_map (λ page. range_with_len (page_at page) 512)) (filter_below (is_given_back new) (is_given_back words) (page_count new) (page_count words) (ap (λ (n : ℕ). n / 512) noted.size) (λ page lt. given_same page)) in
      record {
        checks = subst (All Holds) (sym (map_alike (zero_check new) (zero_check words) (pages_of new) (pages_of words) same_pages (λ place is.
            let (page, among, here) = Contains-flat_map (λ p. range_with_len (page_at p) 512) (filter (is_given_back words) (below (page_count words))) place is in
            let parts = Contains-filter (is_given_back words) (below (page_count words)) page among in
            ap (λ (w : ℕ). check place (eqb w 0)) (outside place (far page place (Contains-below (page_count words) page parts.0) parts.1 here))))) fits.given_back.checks;
      }
    where
      -- the page of the lanes is no free one
      far : (page place : ℕ) → page < page_count words → is_given_back words page ≡ true → Contains (range_with_len (page_at page) 512) place → (place < 576) ⊎ (704 ≤ place)
      far page place lt given within =
          let (i, less, at_place) = within in
          let size = length-range_with_len (page_at page) 512 in
          let value = get_or-range_with_len (page_at page) 512 i place (omega (arith, less, size)) in
          let one = eqb-true (descriptor_of words page) 1 (and_parts (not (is_inside words page)) (eqb (descriptor_of words page) 1) given).1 in
          let kept = rules_at words rules_old page lt in
          ⊎_elim
          (λ (low : page < 4).
          let eight = kept.reserved (or_right (eqb (page % 64) 0) (ltb page 4) (lt-ltb page 4 low)) in
          absurd (omega (arith, one, eight)))
          (λ high. inr (omega (arith, high, value, at_place, less, size))) (cases_lt page 4)

  table_slots_kept : Keeps new table_slot_rule
  table_slots_kept = slots_kept words new places (same_version (same.each version_at (in_head (omega arith) (omega arith)))) fits.first (few_tables words fits.entry.table_count) fits.entry.table_slots later
    where
      places : SamePlaces words new
      places = same_places words new same

      later : (table : ℕ) → table_count words ≤ table → table < 32 → is_table_slot new table ≡ true
      later table le lt =
          let kept = outside (table_slot_at table) (inl (omega (arith, lt))) in
          ⊎_elim
          (λ (here : table ≡ table_count words). slot_still_is words new fits read.count table here lt kept (λ named is. still_block (get_or new (table_slot_at table) 0) is))
          (λ behind. null_slot words new places table le (kept ∙ null_behind words fits.entry.table_slots table (omega (arith, le, behind)) lt))
          (cases_eq table (table_count words))

  beside : FitsBeside new
  beside = record {
    reserved = rules.reserved;
    descriptors = rules.descriptors;
    bitmaps = rules.bitmaps;
    lanes = lanes_kept;
    table_slots = table_slots_kept;
    apart = owners_apart;
    logs = logs;
    held = held;
    owners = owners_kept;
    later_slots = later_kept;
    given_back = given_kept;
  }
    where
      rules : KeepsHeapRules new
      rules = rules_same words new heap rules_old

  pub noted_still : StaysPlain words new
  noted_still = record { still = record { fits = reads_fit words new fits same beside; shows = read.state }; plain = no_split_kept words new fits same }
