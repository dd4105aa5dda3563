-- Opening's step of a lane keeps what fits, and shows the same.
use Rattle.std.proofs.Common.{◌≡◌, ◌≢◌, ◌⊎◌, inl, inr, ⊎_elim, ℕ, ◌+◌, ◌%◌, ◌<◌, ◌≤◌, true, not, ◌&&◌, eqb, ltb, List, [], ◌∷◌, ◌++◌, length, get_or, map, set, refl, sym, ◌∙◌, ap, subst, arith}
use Rattle.std.specs.Prelude.{Contains}
use Rattle.std.specs.List.{flat_map}
use Rattle.std.proofs.lemmas.Bool.{and_parts, both_ways, cases_Bool, cases_eq, cond-false, cond-true, eq-eqb, ltb-true, ne_eqb, not-true}
use Rattle.std.proofs.lemmas.List.{get_or-set_other, get_or-set_same, length-set}
use Rattle.std.proofs.lemmas.List.Elements.{All-contains, Contains-append_cases, Contains-append_left, Contains-append_right}
use Rattle.pm_model.specs.Plans.{EachCut, one_store}
use Rattle.pm_model.proofs.Cuts.{cut-one_store}
use Rattle.image_layout.specs.Arrays.{chunk_count}
use Rattle.image_layout.specs.Blocks.{bitmap_of, class_of, is_reserved, is_small_page, slot_in, slots_of}
use Rattle.image_layout.specs.Fixed.{descriptor_at, lane_op_at}
use Rattle.image_layout.specs.Objects.{pointer_after, ready_count}
use Rattle.image_layout.specs.Owners.{busy_lanes, chunk_owner, extension_owner, firm_owners, lane_block, lane_owner, lane_targets, leaf_owner, new_leaf_owners, next_chunk_pointers, next_extension_pointers, next_table_slots, next_text_slots, Owner, owner_places, owner_words, segment_owner, unfinished_slots}
use Rattle.image_layout.specs.Places.{below, is_pointer, page_at, page_of, place_in}
use Rattle.image_layout.specs.Records.{new_leaf_at}
use Rattle.image_layout.specs.Tables.{all_columns, array_headers, extension_count, is_first_version, table_block, table_count}
use Rattle.image_layout.proofs.Members.{below-Contains, Contains-below, Contains-cons, Contains-filter, Contains-flat_map, Contains-map, Contains-nil, filter-Contains, map-Contains}
use Rattle.image_layout.proofs.OwnersApart.{block_in, chunk_in, extension_in, header_in, named, object_in, segment_in}
use Rattle.heap_palloc.specs.Calls.{KeepsHeapRules}
use Rattle.heap_palloc.specs.Lane.{is_big_place, mark_at}
use Rattle.heap_palloc.specs.Law.{IsOwnerPlace}
use Rattle.heap_palloc.proofs.Dests.{heap_page}
use Rattle.heap_palloc.proofs.LiveBlocks.{SameHeap}
use Rattle.shown_state.specs.Fits.{Fits}
use Rattle.shown_state.specs.Logs.{LaneFits}
use Rattle.shown_state.specs.Mending.{cleared_mark, lane_mending, release_part}
use Rattle.shown_state.specs.OpeningParts.{IsImage}
use Rattle.shown_state.specs.StepLaws.{AreIdle, LanesKeep}
use Rattle.shown_state.proofs.LaneMending.{at_work, AtWork, block_page, block_pointer, block_slot, has_mark, HasMark, mending-done, mending-freeing, mending-idle, mending-undone, owner_no_mark, pointer_parts}
use Rattle.opening_steps.specs.QuietImages.{StaysPlain}
use Rattle.opening_steps.proofs.LanesFit.{cut_still}
use Rattle.opening_steps.proofs.LaneSpots.{IsLaneWrite, op_kept, slot_spot, spot_kept, target_spot, the_mark, the_op, the_owner}
use Rattle.opening_steps.proofs.Released.{heap_same, HeapGoesOn, IsBlockPlace, released_goes_on}
use Rattle.opening_steps.proofs.Shrinks.{block_still, emptied, HeapShrinks, shrinks, shrinks_then}
use Rattle.opening_steps.proofs.Steps.{plain_as_it_is, plain_by, plain_keeps, StepIsPlain}

-- ── the word that a lane allocates into, where it names a block, is an owner's ──

module _ (words : List ℕ) where
  owner_spot : (owner : Owner) → Contains (owner_words words) owner → Contains (owner_places words) owner.at
  owner_spot owner is = Contains-append_left (map (λ (o : Owner). o.at) (firm_owners words)) (unfinished_slots words) owner.at
      (map-Contains (λ (o : Owner). o.at) (firm_owners words) owner (Contains-append_left (owner_words words) (new_leaf_owners words) owner is))

  chunk_spot : (table header at : ℕ) → table < table_count words → Contains (array_headers words (table_block words table)) header → Contains (next_chunk_pointers words header) at → get_or words at 0 ≢ 0 → Contains (owner_places words) at
  chunk_spot table header at lt headed is some = ⊎_elim
      (λ hit.
      let few = ltb-true (chunk_count words header) 12 hit in
      let owner = chunk_owner header (chunk_count words header) in
      ⊎_elim
      (λ (here : owner.at ≡ at). subst (Contains (owner_places words)) here
      (owner_spot owner (block_in words table owner lt (header_in words (table_block words table) header owner headed
      (chunk_in words header (chunk_count words header) (omega arith) few (named words owner (λ none. some (ap (λ (a : ℕ). get_or words a 0) (sym here) ∙ none))))))))
      (λ none. absurd (Contains-nil at none))
      (Contains-cons owner.at at [] (rw hit at is)))
      (λ miss. absurd (Contains-nil at (rw miss at is)))
      (cases_Bool (ltb (chunk_count words header) 12))

  segment_spot : (object at : ℕ) → object < 16 → pointer_after words object ≡ at → get_or words at 0 ≢ 0 → Contains (owner_places words) at
  segment_spot object at lt here some =
      let owner = segment_owner words object (ready_count words object) in
      subst (Contains (owner_places words)) here
      (owner_spot owner (object_in words object owner lt (segment_in words object (ready_count words object) (omega arith) (named words owner (λ none. some (ap (λ (a : ℕ). get_or words a 0) (sym here) ∙ none))))))

  extension_spot : (table at : ℕ) → table < table_count words → Contains (next_extension_pointers words (table_block words table)) at → get_or words at 0 ≢ 0 → Contains (owner_places words) at
  extension_spot table at lt is some = ⊎_elim
      (λ first. absurd (Contains-nil at (rw first at is)))
      (λ second.
      let block = table_block words table in
      let owner = extension_owner words block (extension_count words block) in
      ⊎_elim
      (λ (here : owner.at ≡ at). subst (Contains (owner_places words)) here
      (owner_spot owner (block_in words table owner lt (extension_in words block (extension_count words block) second (omega arith) (named words owner (λ none. some (ap (λ (a : ℕ). get_or words a 0) (sym here) ∙ none)))))))
      (λ none. absurd (Contains-nil at none))
      (Contains-cons owner.at at [] (rw second at is)))
      (cases_Bool (is_first_version words))

  target_owner : (at : ℕ) → Contains (lane_targets words) at → get_or words at 0 ≢ 0 → Contains (owner_places words) at
  target_owner at is some =
      let slots = unfinished_slots words in
      let tables = below (table_count words) in
      let pointers = flat_map (λ table. flat_map (next_chunk_pointers words) (array_headers words (table_block words table))) tables in
      let leaves = map new_leaf_at (all_columns words) in
      let segments = map (pointer_after words) (below 16) in
      let extensions = flat_map (λ table. next_extension_pointers words (table_block words table)) tables in
      let firm = map (λ (o : Owner). o.at) (firm_owners words) in
      ⊎_elim
      (λ most. ⊎_elim
      (λ early. ⊎_elim
      (λ first. ⊎_elim
      (λ slot. Contains-append_right firm slots at slot)
      (λ pointer.
      let (table, published, here) = Contains-flat_map (λ t. flat_map (next_chunk_pointers words) (array_headers words (table_block words t))) tables at pointer in
      let (header, among, last) = Contains-flat_map (next_chunk_pointers words) (array_headers words (table_block words table)) at here in
      chunk_spot table header at (Contains-below (table_count words) table published) among last some)
      (Contains-append_cases slots pointers at first))
      (λ leaf.
      let (column, among, here) = Contains-map new_leaf_at (all_columns words) at leaf in
      Contains-append_left firm slots at (subst (Contains firm) here
      (map-Contains (λ (o : Owner). o.at) (firm_owners words) (leaf_owner (new_leaf_at column))
      (Contains-append_right (owner_words words) (new_leaf_owners words) (leaf_owner (new_leaf_at column)) (map-Contains (λ c. leaf_owner (new_leaf_at c)) (all_columns words) column among)))))
      (Contains-append_cases (slots ++ pointers) leaves at early))
      (λ segment. let (object, among, here) = Contains-map (pointer_after words) (below 16) at segment in segment_spot object at (Contains-below 16 object among) here some)
      (Contains-append_cases (slots ++ pointers ++ leaves) segments at most))
      (λ extension.
      let (table, published, here) = Contains-flat_map (λ t. next_extension_pointers words (table_block words t)) tables at extension in
      extension_spot table at (Contains-below (table_count words) table published) here some)
      (Contains-append_cases (slots ++ pointers ++ leaves ++ segments) extensions at is)

-- ── a lane at work ──

module _ (words : List ℕ) (lane : ℕ) (image : IsImage words) (number : lane < 16) (fits : Fits words) (idle : AreIdle lane words) (busy : get_or words (lane_op_at lane) 0 ≢ 0) where
  abbrev op : ℕ
  op = get_or words (lane_op_at lane) 0

  abbrev op_at : ℕ
  op_at = lane_op_at lane

  abbrev owner : ℕ
  owner = lane_owner words lane

  abbrev pointer : ℕ
  pointer = lane_block words lane

  abbrev block : ℕ
  block = place_in (lane_block words lane)

  abbrev mark : ℕ
  mark = mark_at (place_in (lane_block words lane))

  abbrev clear : ℕ
  clear = cleared_mark words (place_in (lane_block words lane))

  is_busy : Contains (busy_lanes words) lane
  is_busy = filter-Contains (λ l. not (eqb (get_or words (lane_op_at l) 0) 0)) (below 16) lane (below-Contains 16 lane number) (ap not (ne_eqb (get_or words (lane_op_at lane) 0) 0 busy))

  fit : LaneFits words lane
  fit = All-contains (LaneFits words) (busy_lanes words) lane fits.logs.lanes is_busy

  rules : KeepsHeapRules words
  rules = record { reserved = fits.entry.reserved; descriptors = fits.entry.descriptors; bitmaps = fits.entry.bitmaps }

  work : AtWork words lane
  work = at_work words (record { heap = rules; lanes = fits.entry.lanes }) lane number busy

  block_is : is_pointer words pointer ≡ true
  block_is = block_pointer words pointer work.block

  inside : block < length words
  inside = (pointer_parts words pointer block_is).1

  pointer_some : pointer ≢ 0
  pointer_some none = let word = (pointer_parts words pointer block_is).0 in omega (arith, word, none)

  target : Contains (lane_targets words) owner
  target = All-contains (λ l. Contains (lane_targets words) (lane_owner words l)) (busy_lanes words) lane fits.apart.targets is_busy

  spot : IsOwnerPlace words owner
  spot = target_spot words words lane image number fits refl (λ w. inl refl) owner target

  has : HasMark (length words) lane block
  has = has_mark (length words) lane block number inside (block_page words pointer work.block)

  place_is : IsBlockPlace words block
  place_is = record {
    in_image = let whole = image.segments in omega (arith, inside, whole);
    unreserved = not-true (is_reserved (page_of block)) (block_page words pointer work.block);
    slot = block_slot words pointer work.block;
    pages = fit.pages;
  }

  mark_which : (mark % 32768 < 64) ⊎ ((is_small_page words (page_of mark) ≡ true) × (mark % 512 ≡ 0))
  mark_which = ⊎_elim
      (λ big.
      let is : mark ≡ descriptor_at (page_of block) = cond-true (is_big_place block) (descriptor_at (page_of block)) (page_at (page_of block)) (eq-eqb (block % 512) 0 big) in
      inl (omega (arith, is)))
      (λ small.
      let is : mark ≡ page_at (page_of block) = cond-false (is_big_place block) (descriptor_at (page_of block)) (page_at (page_of block)) (ne_eqb (block % 512) 0 small) in
      let outer = (and_parts (is_small_page words (page_of block) && ltb (slot_in (class_of words (page_of block)) block) (slots_of (class_of words (page_of block)))) _ (place_is.slot small)).0 in
      let page_small = (and_parts (is_small_page words (page_of block)) _ outer).0 in
      let back : page_of mark ≡ page_of block = omega (arith, is) in
      inr (ap (is_small_page words) back ∙ page_small, omega (arith, is)))
      (cases_eq (block % 512) 0)

  -- what is written so far
  record IsWritten (new : List ℕ) : Type 0 where
    size : length new ≡ length words
    others : (w : ℕ) → w ≢ op_at → w ≢ mark → w ≢ owner → get_or new w 0 ≡ get_or words w 0
    op_is : (get_or new op_at 0 ≡ op) ⊎ (get_or new op_at 0 ≡ 0)
    owner_is : (get_or new owner 0 ≡ get_or words owner 0) ⊎ ((op ≡ 2) × (get_or new owner 0 ≡ 0))

  each : (new : List ℕ) → IsWritten new → (w : ℕ) → (get_or new w 0 ≡ get_or words w 0) ⊎ IsLaneWrite words new lane w
  each new is w = ⊎_elim
      (λ (here : w ≡ op_at). ⊎_elim (λ kept. inl (ap (λ (k : ℕ). get_or new k 0) here ∙ kept ∙ ap (λ (k : ℕ). get_or words k 0) (sym here)))
      (λ none. inr (the_op here (ap (λ (k : ℕ). get_or new k 0) here ∙ none))) is.op_is)
      (λ no_op. ⊎_elim
      (λ (here : w ≡ mark). inr (the_mark (subst (λ (k : ℕ). (k % 32768 < 64) ⊎ ((is_small_page words (page_of k) ≡ true) × (k % 512 ≡ 0))) (sym here) mark_which)))
      (λ no_mark. ⊎_elim
      (λ (here : w ≡ owner). ⊎_elim (λ kept. inl (ap (λ (k : ℕ). get_or new k 0) here ∙ kept ∙ ap (λ (k : ℕ). get_or words k 0) (sym here)))
      (λ freed. inr (the_owner here (subst (Contains (unfinished_slots words)) (sym here) (fit.frees freed.0)) (ap (λ (k : ℕ). get_or new k 0) here ∙ freed.1))) is.owner_is)
      (λ no_owner. inl (is.others w no_op no_mark no_owner))
      (cases_eq w owner))
      (cases_eq w mark))
      (cases_eq w op_at)

  op_low : (576 ≤ op_at) × (op_at < 704)
  op_low = (omega arith, omega (arith, number))

  descriptor_kept : (new : List ℕ) → IsWritten new → (page : ℕ) → descriptor_at page ≢ mark → get_or new (descriptor_at page) 0 ≡ get_or words (descriptor_at page) 0
  descriptor_kept new is page apart =
      let far = spot.no_descriptor in
      is.others (descriptor_at page) (λ e. omega (arith, e, number)) apart (λ e. omega (arith, e, far))

  bitmap_kept : (new : List ℕ) → IsWritten new → (page : ℕ) → is_small_page words page ≡ true → page_at page ≢ mark → get_or new (page_at page) 0 ≡ get_or words (page_at page) 0
  bitmap_kept new is page small apart =
      is.others (page_at page) (λ e. omega (arith, e, number)) apart (λ e.
      let back : page_of owner ≡ page = omega (arith, e) in
      spot.no_bitmap (ap (is_small_page words) back ∙ small) (omega (arith, e)))

  unreleased : (new : List ℕ) → IsWritten new → get_or new mark 0 ≡ get_or words mark 0 → (get_or new op_at 0 ≡ 0 → get_or new owner 0 ≡ pointer) → StaysPlain words new
  unreleased new is kept owned = cut_still words new lane (λ place. ⊥) image number fits (record {
    size = is.size;
    each = each new is;
    busy = busy;
    heap = shrinks words new (λ place. ⊥) is.size (heap_same words new rules heap);
    gone_is = λ place gone. absurd gone;
    disowned = λ place gone. absurd gone;
    done = λ none.
        let named_is = owned none in
        inr (owner, target_owner words owner target (λ null. ⊎_elim (λ same. pointer_some (sym named_is ∙ same ∙ null)) (λ freed. pointer_some (sym named_is ∙ freed.1)) is.owner_is), named_is);
    logged = λ one busy was. block_still words new (λ place. ⊥) is.size (heap_same words new rules heap) (lane_block words one) was;
    slot = λ at next some was. block_still words new (λ place. ⊥) is.size (heap_same words new rules heap) (get_or new at 0) was;
  })
    where
      at : (w : ℕ) → (w ≢ mark → get_or new w 0 ≡ get_or words w 0) → get_or new w 0 ≡ get_or words w 0
      at w other = ⊎_elim (λ (here : w ≡ mark). ap (λ (k : ℕ). get_or new k 0) here ∙ kept ∙ ap (λ (k : ℕ). get_or words k 0) (sym here)) other (cases_eq w mark)

      heap : SameHeap words new
      heap = record {
        size = is.size;
        pages = λ page. record {
          descriptor = at (descriptor_at page) (descriptor_kept new is page);
          bitmap = λ small. at (page_at page) (bitmap_kept new is page small);
        };
      }

  -- the block's mark is cleared
  goes_on : (new : List ℕ) → IsWritten new → get_or new mark 0 ≡ clear → HeapGoesOn words new (λ place. place ≡ block)
  goes_on new is cleared = released_goes_on words new block rules place_is (record { size = is.size; mark = cleared; descriptors = descriptor_kept new is; bitmaps = bitmap_kept new is }) image.segments

  released : (new : List ℕ) → IsWritten new → get_or new mark 0 ≡ clear → get_or new owner 0 ≢ pointer → StaysPlain words new
  released new is cleared other = cut_still words new lane (λ place. place ≡ block) image number fits (record {
    size = is.size;
    each = each new is;
    busy = busy;
    heap = shrinks words new (λ place. place ≡ block) is.size (goes_on new is cleared);
    gone_is = λ place gone. gone;
    disowned = λ place gone. other;
    done = λ none. inl refl;
    logged = λ one busy was. block_still words new (λ place. place ≡ block) is.size (goes_on new is cleared) (lane_block words one) was;
    slot = λ at next some was. block_still words new (λ place. place ≡ block) is.size (goes_on new is cleared) (get_or new at 0) was;
  })

  -- ── what is stored ──

  op_inside : op_at < length words
  op_inside = let large = image.one_or_more in omega (arith, large, number)

  no_mark : op_at ≢ mark
  no_mark e = has.outside.0 (sym e)

  no_owner : op_at ≢ owner
  no_owner e = ⊎_elim (λ low. omega (arith, e, low)) (λ high. omega (arith, e, high, number)) spot.outside_lanes

  mark_or_owner : owner ≢ mark
  mark_or_owner = owner_no_mark words owner block spot (block_slot words pointer work.block)

  start : IsWritten words
  start = record { size = refl; others = λ w a b c. refl; op_is = inl refl; owner_is = inl refl }

  -- the op cleared, behind what was written
  idle_next : (new : List ℕ) → IsWritten new → IsWritten (set new op_at 0)
  idle_next new is = record {
    size = length-set new op_at 0 ∙ is.size;
    others = λ w a b c. get_or-set_other new op_at w 0 0 a ∙ is.others w a b c;
    op_is = inr (get_or-set_same new op_at 0 0 (let size = is.size in omega (arith, op_inside, size)));
    owner_is =
        let same = get_or-set_other new op_at owner 0 0 (λ e. no_owner (sym e)) in
        ⊎_elim (λ kept. inl (same ∙ kept)) (λ freed. inr (freed.0, same ∙ freed.1)) is.owner_is;
  }

  mark_next : (new : List ℕ) → IsWritten new → IsWritten (set new mark clear)
  mark_next new is = record {
    size = length-set new mark clear ∙ is.size;
    others = λ w a b c. get_or-set_other new mark w clear 0 b ∙ is.others w a b c;
    op_is = let same = get_or-set_other new mark op_at clear 0 no_mark in ⊎_elim (λ kept. inl (same ∙ kept)) (λ none. inr (same ∙ none)) is.op_is;
    owner_is =
        let same = get_or-set_other new mark owner clear 0 mark_or_owner in
        ⊎_elim (λ kept. inl (same ∙ kept)) (λ freed. inr (freed.0, same ∙ freed.1)) is.owner_is;
  }

  owner_next : op ≡ 2 → IsWritten (set words owner 0)
  owner_next two = record {
    size = length-set words owner 0;
    others = λ w a b c. get_or-set_other words owner w 0 0 c;
    op_is = inl (get_or-set_other words owner op_at 0 0 no_owner);
    owner_is = inr (two, get_or-set_same words owner 0 0 spot.in_image);
  }

  ends_idle : (new : List ℕ) → IsWritten new → AreIdle (lane + 1) (set new op_at 0)
  ends_idle new is one lt = ⊎_elim
      (λ (e : one ≡ lane). ap (λ (l : ℕ). get_or (set new op_at 0) (lane_op_at l) 0) e ∙ get_or-set_same new op_at 0 0 (let size = is.size in omega (arith, op_inside, size)))
      (λ apart.
      let next = idle_next new is in
      ⊎_elim (λ kept. kept ∙ idle one (omega (arith, lt, apart))) (λ none. none.1)
      (op_kept words (set new op_at 0) lane image number fits next.size (each (set new op_at 0) next) one (omega (arith, lt, number))))
      (cases_eq one lane)

  -- ── the three ways ──

  owned_step : op ≡ 1 → get_or words owner 0 ≡ pointer → StepIsPlain (AreIdle (lane + 1)) (lane_mending lane) words
  owned_step one owned =
      let after = unreleased (set words op_at 0) (idle_next words start) (get_or-set_other words op_at mark 0 0 (λ e. no_mark (sym e)))
      (λ none. get_or-set_other words op_at owner 0 0 (λ e. no_owner (sym e)) ∙ owned) in
      plain_by (AreIdle (lane + 1)) (lane_mending lane) words (one_store op_at 0 ∷ []) (mending-done words lane one owned)
      ((op_inside, tt), tt)
      (cut-one_store (StaysPlain words) op_at 0 words (plain_as_it_is words fits) after, after)
      (ends_idle words start)

  undone_step : op ≡ 1 → get_or words owner 0 ≢ pointer → StepIsPlain (AreIdle (lane + 1)) (lane_mending lane) words
  undone_step one other =
      let half = set words mark clear in
      let mark_is = get_or-set_same words mark clear 0 has.within in
      let owner_same = get_or-set_other words mark owner clear 0 mark_or_owner in
      let first = released half (mark_next words start) mark_is (λ e. other (sym owner_same ∙ e)) in
      let second = released (set half op_at 0) (idle_next half (mark_next words start)) (get_or-set_other half op_at mark 0 0 (λ e. no_mark (sym e)) ∙ mark_is)
      (λ e. other (sym owner_same ∙ sym (get_or-set_other half op_at owner 0 0 (λ f. no_owner (sym f))) ∙ e)) in
      plain_by (AreIdle (lane + 1)) (lane_mending lane) words (release_part words block ∷ one_store op_at 0 ∷ []) (mending-undone words lane one other)
      ((has.within, tt), ((op_inside, tt), tt)) (
        cut-one_store (StaysPlain words) mark clear words (plain_as_it_is words fits) first,
        (cut-one_store (StaysPlain words) op_at 0 half first second, second),
      )
      (ends_idle half (mark_next words start))

  -- ── a freeing, with its words before the op is cleared ──

  abbrev bare : List ℕ
  bare = set words (lane_owner words lane) 0

  abbrev half : List ℕ
  half = set (set words (lane_owner words lane) 0) (mark_at (place_in (lane_block words lane))) (cleared_mark words (place_in (lane_block words lane)))

  record IsHalfFreed : Type 0 where
    written : IsWritten half
    null : get_or half owner 0 ≡ 0
    marked : get_or half mark 0 ≡ clear

  half_freed : op ≡ 2 → IsHalfFreed
  half_freed two =
      let is = owner_next two in
      record {
        written = mark_next bare is;
        null = get_or-set_other bare mark owner clear 0 mark_or_owner ∙ get_or-set_same words owner 0 0 spot.in_image;
        marked = get_or-set_same bare mark clear 0 (let within = has.within in let size = is.size in omega (arith, within, size));
      }

  -- behind the clearing of the op
  ended_null : op ≡ 2 → get_or (set half op_at 0) owner 0 ≡ 0
  ended_null two = get_or-set_other half op_at owner 0 0 (λ f. no_owner (sym f)) ∙ (half_freed two).null

  ended_mark : op ≡ 2 → get_or (set half op_at 0) mark 0 ≡ clear
  ended_mark two = get_or-set_other half op_at mark 0 0 (λ e. no_mark (sym e)) ∙ (half_freed two).marked

  pub freeing_cuts : op ≡ 2 → EachCut (StaysPlain words) (one_store owner 0 ∷ release_part words block ∷ one_store op_at 0 ∷ []) words
  freeing_cuts two =
      let is = half_freed two in
      let first = unreleased bare (owner_next two) (get_or-set_other words owner mark 0 0 (λ e. mark_or_owner (sym e)))
      (λ none. absurd (busy (sym (get_or-set_other words owner op_at 0 0 no_owner) ∙ none))) in
      let second = released half is.written is.marked (λ e. pointer_some (sym e ∙ is.null)) in
      let third = released (set half op_at 0) (idle_next half is.written) (ended_mark two) (λ e. pointer_some (sym e ∙ ended_null two)) in (
        cut-one_store (StaysPlain words) owner 0 words (plain_as_it_is words fits) first,
        (
          cut-one_store (StaysPlain words) mark clear bare first second,
          (cut-one_store (StaysPlain words) op_at 0 half second third, third),
        ),
      )

  freeing_step : op ≡ 2 → StepIsPlain (AreIdle (lane + 1)) (lane_mending lane) words
  freeing_step two =
      plain_by (AreIdle (lane + 1)) (lane_mending lane) words (one_store owner 0 ∷ release_part words block ∷ one_store op_at 0 ∷ []) (mending-freeing words lane two)
      ((spot.in_image, tt), ((has.within, tt), ((op_inside, tt), tt)))
      (freeing_cuts two)
      (ends_idle half (half_freed two).written)

  -- ── a page whose last block is freed ──

  module _ (two : op ≡ 2) (small : block % 512 ≢ 0) (last : clear ≡ 0) (alone : (one : ℕ) → one < 16 → one ≢ lane → get_or words (lane_op_at one) 0 ≡ 0)
      (tables : (at : ℕ) → Contains (next_table_slots words) at → (at ≡ owner) ⊎ (get_or words at 0 ≡ 0)) where
    abbrev ended : List ℕ
    ended = set half op_at 0

    abbrev page_word : ℕ
    page_word = descriptor_at (page_of (place_in (lane_block words lane)))

    abbrev emptied_words : List ℕ
    emptied_words = set (set half op_at 0) (descriptor_at (page_of (place_in (lane_block words lane)))) 0

    is_ended : IsWritten ended
    is_ended = idle_next half (half_freed two).written

    ended_heap : HeapGoesOn words ended (λ place. place ≡ block)
    ended_heap = goes_on ended is_ended (ended_mark two)

    page_small : is_small_page words (page_of block) ≡ true
    page_small =
        let outer = (and_parts (is_small_page words (page_of block) && ltb (slot_in (class_of words (page_of block)) block) (slots_of (class_of words (page_of block)))) _ (place_is.slot small)).0 in
        (and_parts (is_small_page words (page_of block)) _ outer).0

    bitmap_none : bitmap_of ended (page_of block) ≡ 0
    bitmap_none =
        let is : mark ≡ page_at (page_of block) = cond-false (is_big_place block) (descriptor_at (page_of block)) (page_at (page_of block)) (ne_eqb (block % 512) 0 small) in
        ap (λ (w : ℕ). get_or ended w 0) (sym is) ∙ ended_mark two ∙ last

    empties : HeapShrinks words emptied_words (λ place. place ≡ block)
    empties = shrinks_then words ended emptied_words (λ place. place ≡ block) ended_heap
        (emptied ended (page_of block) ended_heap.rules place_is.unreserved
        (heap_page ended (page_of block) (let lt = place_is.in_image in let size = is_ended.size in omega (arith, lt, size)) place_is.unreserved)
        (ended_heap.small (page_of block) ∙ page_small) bitmap_none)

    other_kept : (w : ℕ) → w ≢ page_word → get_or emptied_words w 0 ≡ get_or ended w 0
    other_kept w apart = get_or-set_other ended page_word w 0 0 apart

    emptied_each : (w : ℕ) → (get_or emptied_words w 0 ≡ get_or words w 0) ⊎ IsLaneWrite words emptied_words lane w
    emptied_each w = ⊎_elim
        (λ (here : w ≡ page_word). inr (the_mark (inl (omega (arith, here)))))
        (λ apart. ⊎_elim (λ same. inl (other_kept w apart ∙ same)) (λ write. inr (by apart write)) (each ended is_ended w))
        (cases_eq w page_word)
      where
        by : w ≢ page_word → IsLaneWrite words ended lane w → IsLaneWrite words emptied_words lane w
        by apart (the_op at none) = the_op at (other_kept w apart ∙ none)
        by apart (the_mark which) = the_mark which
        by apart (the_owner at among none) = the_owner at among (other_kept w apart ∙ none)

    op_apart : (one : ℕ) → one < 16 → lane_op_at one ≢ page_word
    op_apart one lt e = omega (arith, e, lt)

    owner_null : get_or emptied_words owner 0 ≡ 0
    owner_null = let far = spot.no_descriptor in other_kept owner (λ e. omega (arith, e, far)) ∙ ended_null two

    ops_null : (one : ℕ) → one < 16 → get_or emptied_words (lane_op_at one) 0 ≡ 0
    ops_null one lt = ⊎_elim
        (λ (e : one ≡ lane). ap (λ (l : ℕ). get_or emptied_words (lane_op_at l) 0) e ∙ other_kept op_at (op_apart lane number)
        ∙ get_or-set_same half op_at 0 0 (let size = (half_freed two).written.size in omega (arith, op_inside, size)))
        (λ apart. ⊎_elim (λ kept. kept ∙ alone one lt apart) (λ none. none.1) (op_kept words emptied_words lane image number fits empties_size emptied_each one lt))
        (cases_eq one lane)
      where
        empties_size : length emptied_words ≡ length words
        empties_size = length-set ended page_word 0 ∙ is_ended.size

    pub emptied_still : StaysPlain words emptied_words
    emptied_still = cut_still words emptied_words lane (λ place. place ≡ block) image number fits (record {
      size = length-set ended page_word 0 ∙ is_ended.size;
      each = emptied_each;
      busy = busy;
      heap = empties;
      gone_is = λ place gone. gone;
      disowned = λ place gone e. pointer_some (sym e ∙ owner_null);
      done = λ none. inl refl;
      logged = λ one at_work was.
          let parts = Contains-filter (λ l. not (eqb (get_or emptied_words (lane_op_at l) 0) 0)) (below 16) one at_work in
          absurd (both_ways (eqb (get_or emptied_words (lane_op_at one) 0) 0) (not-true (eqb (get_or emptied_words (lane_op_at one) 0) 0) parts.1)
          (eq-eqb (get_or emptied_words (lane_op_at one) 0) 0 (ops_null one (Contains-below 16 one parts.0))));
      slot = λ at next some was. absurd (some (⊎_elim
          (λ own. ap (λ (a : ℕ). get_or emptied_words a 0) own ∙ owner_null)
          (λ none. ⊎_elim (λ kept. kept ∙ none) (λ zeroed. zeroed.2)
          (spot_kept words emptied_words lane image number fits (length-set ended page_word 0 ∙ is_ended.size) emptied_each at
          (slot_spot words words lane image number fits refl (λ w. inl refl) at (Contains-append_left (next_table_slots words) (flat_map (next_text_slots words) (all_columns words)) at next))))
          (tables at next)));
    })

  busy_step : StepIsPlain (AreIdle (lane + 1)) (lane_mending lane) words
  busy_step = ⊎_elim
      (λ one. ⊎_elim (λ owned. owned_step one owned) (λ other. undone_step one other) (cases_eq (get_or words owner 0) pointer))
      (λ two. freeing_step two) work.op

pub lanes_are_plain : (words : List ℕ) (lane : ℕ) → IsImage words → lane < 16 → Fits words → AreIdle lane words → StepIsPlain (AreIdle (lane + 1)) (lane_mending lane) words
lanes_are_plain words lane image number fits idle = ⊎_elim
    (λ none. plain_by (AreIdle (lane + 1)) (lane_mending lane) words [] (mending-idle words lane none) tt
    (plain_as_it_is words fits)
    (λ one lt. ⊎_elim (λ (e : one ≡ lane). ap (λ (l : ℕ). get_or words (lane_op_at l) 0) e ∙ none) (λ apart. idle one (omega (arith, lt, apart))) (cases_eq one lane)))
    (λ busy. busy_step words lane image number fits idle busy)
    (cases_eq (get_or words (lane_op_at lane) 0) 0)

pub lanes_keep : LanesKeep
lanes_keep words lane image number fits idle = plain_keeps (AreIdle (lane + 1)) (lane_mending lane) words (lanes_are_plain words lane image number fits idle)
