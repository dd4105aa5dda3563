-- What a cut of the mending of a lane leaves, word by word: the lane's op cleared, a mark, or the owner's word where an
-- unfinished one is freed. All that structures read is the same.
use Rattle.std.proofs.Common.{◌≡◌, ◌⊎◌, inl, inr, ⊎_elim, ℕ, zero, suc, ◌%◌, ◌<◌, Bool, true, cond, eqb, List, [], ◌∷◌, ◌++◌, length, get_or, map, refl, ◌∙◌, ap, subst, arith}
use Rattle.std.specs.Prelude.{Contains, filter}
use Rattle.std.proofs.lemmas.Bool.{cases_Bool}
use Rattle.std.proofs.lemmas.List.Elements.{Contains-append_cases, Contains-append_left, Contains-get_or}
use Rattle.std.specs.List.{flat_map}
use Rattle.image_layout.specs.Blocks.{is_small_page}
use Rattle.image_layout.specs.Fixed.{lane_block_at, lane_dest_at, lane_op_at, version_at}
use Rattle.image_layout.specs.Objects.{pointer_after}
use Rattle.image_layout.specs.Owners.{firm_owners, lane_block, lane_owner, lane_targets, leaf_owner, new_leaf_owners, next_chunk_pointers, next_extension_pointers, Owner, owner_places, owner_words, unfinished_slots, word_of}
use Rattle.image_layout.specs.Places.{below, page_of, place_in}
use Rattle.image_layout.specs.Records.{inner_columns_at, new_leaf_at}
use Rattle.image_layout.specs.Tables.{all_columns, array_headers, column_count, inner_columns, table_block, table_count}
use Rattle.image_layout.proofs.Members.{Contains-filter, Contains-map}
use Rattle.image_layout.proofs.OwnedBlocks.{fixed, inside, IsOwnersPlace, target_place}
use Rattle.image_layout.proofs.Precedes.{Precedes}
use Rattle.heap_palloc.specs.Calls.{IsDest, KeepsHeapRules}
use Rattle.heap_palloc.specs.Law.{IsOwnerPlace}
use Rattle.heap_palloc.proofs.Dests.{dest_place}
use Rattle.shown_state.specs.Fits.{Fits}
use Rattle.shown_state.specs.OpeningParts.{IsImage}
use Rattle.shown_state.specs.ReadLaws.{IsUnread}
use Rattle.shown_state.specs.Reads.{in_codes, in_column, in_dictionary, in_head, in_header, in_leaf, in_object, in_pair, in_pointer, in_segment, in_slot, in_table, in_text, IsRead, SameReads}
use Rattle.shown_state.proofs.UnfinishedUnread.{unread_may_differ}
use Rattle.opening_steps.proofs.OwnerPlaces.{owner_place}
use Rattle.opening_steps.proofs.Structure.{IsPlace, of_codes, of_column, of_dictionary, of_extension, of_head, of_header, of_leaf, of_pair, of_ready, of_segment, of_slot, of_table, of_text, SamePlaces}

-- ── lists ──

pub precedes_at : (xs : List ℕ) (i j d : ℕ) → i < j → j < length xs → Precedes xs (get_or xs i d) (get_or xs j d)
precedes_at [] i j d order lt = absurd (omega (arith, lt))
precedes_at (x ∷ xs) i zero d order lt = absurd (omega (arith, order))
precedes_at (x ∷ xs) zero (suc j) d order lt = inl (refl, Contains-get_or xs j d (omega (arith, lt)))
precedes_at (x ∷ xs) (suc i) (suc j) d order lt = inr (precedes_at xs i j d (omega (arith, order)) (omega (arith, lt)))

pub precedes_whole : (test : ℕ → Bool) (xs : List ℕ) (x y : ℕ) → Precedes (filter test xs) x y → Precedes xs x y
precedes_whole test [] x y is = absurd is
precedes_whole test (z ∷ xs) x y is = ⊎_elim
    (λ hit.
    let among : Precedes (z ∷ filter test xs) x y = rw hit at is in
    ⊎_elim (λ here. inl (here.0, (Contains-filter test xs y here.1).0)) (λ later. inr (precedes_whole test xs x y later)) among)
    (λ miss. inr (precedes_whole test xs x y (rw miss at is)))
    (cases_Bool (test z))

-- ── what says where a structure stands is read ──

pub place_read : (words : List ℕ) (w : ℕ) → IsPlace words w → IsRead words w
place_read words w (of_head low high version apart) = in_head low high
place_read words w (of_slot table lt at) = in_slot (omega (arith, at)) (omega (arith, at, lt))
place_read words w (of_ready object lt at) = in_object (omega (arith, at)) (omega (arith, at, lt))
place_read words w (of_segment object zero lt le at) = in_object (omega (arith, at)) (omega (arith, at, lt))
place_read words w (of_segment object (suc segment) lt le at) = in_segment object segment lt (omega (arith, le)) (omega (arith, at)) (omega (arith, at))
place_read words w (of_table table word lt few apart at) = in_table table word lt (omega (arith, few)) at
place_read words w (of_column column word is few at) = in_column column word is few at
place_read words w (of_extension table extension lt le at) = in_pointer table extension lt le at
place_read words w (of_header table header word lt is few at) = in_header table header word lt is few at
place_read words w (of_codes column row is lt at) = in_codes column row is lt at
place_read words w (of_dictionary column code is known lt at) = in_dictionary column code is known lt at
place_read words w (of_text column code is text known low high) = in_text column code is text known low high
place_read words w (of_leaf column leaf is listed low high) = in_leaf column leaf is listed low high
place_read words w (of_pair column leaf slot is listed used which) = in_pair column leaf slot is listed used which

pub same_places : (old new : List ℕ) → SameReads old new → SamePlaces old new
unfolding inner_columns
same_places old new same = record { size = same.size; each = λ w is. same.each w (place_read old w is); inner = inner }
  where
    inner : (table : ℕ) → table < table_count old → inner_columns new (table_block old table) ≡ inner_columns old (table_block old table)
    inner table lt =
        let block = table_block old table in
        let says : ℕ → ℕ → ℕ → ℕ = λ version count inner. cond (eqb version 1) count inner in
        ap (λ (version : ℕ). says version (column_count new block) (get_or new (inner_columns_at block) 0)) (same.each version_at (in_head (omega arith) (omega arith)))
        ∙ ap (λ (count : ℕ). says (get_or old version_at 0) count (get_or new (inner_columns_at block) 0)) (same.each block (in_table table 0 lt (omega arith) (omega arith)))
        ∙ ap (says (get_or old version_at 0) (column_count old block)) (same.each (inner_columns_at block) (in_table table 6 lt (omega arith) refl))

-- an unfinished slot is a word into which a lane may be allocating
pub slot_target : (words : List ℕ) (at : ℕ) → Contains (unfinished_slots words) at → Contains (lane_targets words) at
slot_target words at slot =
    let slots = unfinished_slots words in
    let tables = below (table_count words) in
    let pointers = flat_map (λ table. flat_map (next_chunk_pointers words) (array_headers words (table_block words table))) tables in
    let leaves = map new_leaf_at (all_columns words) in
    let segments = map (pointer_after words) (below 16) in
    let extensions = flat_map (λ table. next_extension_pointers words (table_block words table)) tables in
    Contains-append_left (slots ++ pointers ++ leaves ++ segments) extensions at (Contains-append_left (slots ++ pointers ++ leaves) segments at
    (Contains-append_left (slots ++ pointers) leaves at (Contains-append_left slots pointers at slot)))

-- ── a cut ──

-- what the mending of a lane may have stored
pub data IsLaneWrite (old new : List ℕ) (lane w : ℕ) : Type 0 where
  the_op : w ≡ lane_op_at lane → get_or new w 0 ≡ 0 → IsLaneWrite old new lane w
  the_mark : (w % 32768 < 64) ⊎ ((is_small_page old (page_of w) ≡ true) × (w % 512 ≡ 0)) → IsLaneWrite old new lane w
  the_owner : w ≡ lane_owner old lane → Contains (unfinished_slots old) w → get_or new w 0 ≡ 0 → IsLaneWrite old new lane w

module _ (old new : List ℕ) (lane : ℕ) (image : IsImage old) (number : lane < 16) (fits : Fits old) (size : length new ≡ length old)
    (each : (w : ℕ) → (get_or new w 0 ≡ get_or old w 0) ⊎ IsLaneWrite old new lane w) where
  pub heap_rules : KeepsHeapRules old
  heap_rules = record { reserved = fits.entry.reserved; descriptors = fits.entry.descriptors; bitmaps = fits.entry.bitmaps }

  pub reads_same : SameReads old new
  reads_same = unread_may_differ old new image fits size (λ w. ⊎_elim (λ e. inl e) (λ write. inr (unread w write)) (each w))
    where
      unread : (w : ℕ) → IsLaneWrite old new lane w → IsUnread old w
      unread w (the_op at none) = inl (omega (arith, at), omega (arith, at, number))
      unread w (the_mark which) = inr (⊎_elim (λ descriptor. inl descriptor) (λ bitmap. inr (inl bitmap)) which)
      unread w (the_owner at slot none) = inr (inr (inr (inr slot)))

  -- a place that may be an owner's has its word still, or it is the lane's, which is freed
  pub spot_kept : (w : ℕ) → IsOwnerPlace old w → (get_or new w 0 ≡ get_or old w 0) ⊎ ((w ≡ lane_owner old lane) × Contains (unfinished_slots old) w × (get_or new w 0 ≡ 0))
  spot_kept w spot = ⊎_elim (λ e. inl e) (λ write. by write) (each w)
    where
      by : IsLaneWrite old new lane w → (get_or new w 0 ≡ get_or old w 0) ⊎ ((w ≡ lane_owner old lane) × Contains (unfinished_slots old) w × (get_or new w 0 ≡ 0))
      by (the_op at none) = absurd (⊎_elim (λ low. omega (arith, at, low)) (λ high. omega (arith, at, high, number)) spot.outside_lanes)
      by (the_mark which) = let far = spot.no_descriptor in absurd (⊎_elim (λ descriptor. omega (arith, descriptor, far)) (λ bitmap. spot.no_bitmap bitmap.0 bitmap.1) which)
      by (the_owner at slot none) = inr (at, slot, none)

  pub target_spot : (at : ℕ) → Contains (lane_targets old) at → IsOwnerPlace old at
  target_spot at is = (dest_place old image.segments image.one_or_more heap_rules at (dest (target_place old fits.entry fits.apart at is))).owner_is
    where
      dest : IsOwnersPlace old at → IsDest old at
      dest (fixed low high lanes) = inl (low, high, lanes)
      dest (inside block live low high) = inr (block, live, low, high)

  pub slot_spot : (at : ℕ) → Contains (unfinished_slots old) at → IsOwnerPlace old at
  slot_spot at is = target_spot at (slot_target old at is)

  -- the words of lanes but an op
  pub lane_word : (one word : ℕ) → one < 16 → (word ≡ lane_dest_at one) ⊎ (word ≡ lane_block_at one) → get_or new word 0 ≡ get_or old word 0
  lane_word one word lt which = ⊎_elim (λ e. e) (λ write. absurd (by write)) (each word)
    where
      by : IsLaneWrite old new lane word → ⊥
      by (the_op at none) = ⊎_elim (λ a. omega (arith, a, at)) (λ b. omega (arith, b, at)) which
      by (the_mark place) = ⊎_elim
          (λ descriptor. ⊎_elim (λ a. omega (arith, a, descriptor, lt)) (λ b. omega (arith, b, descriptor, lt)) which)
          (λ bitmap. let first = bitmap.1 in ⊎_elim (λ a. omega (arith, a, first, lt)) (λ b. omega (arith, b, first, lt)) which) place
      by (the_owner at slot none) =
          let spot = slot_spot word slot in
          ⊎_elim (λ low. ⊎_elim (λ a. omega (arith, a, low)) (λ b. omega (arith, b, low)) which) (λ high. ⊎_elim (λ a. omega (arith, a, high, lt)) (λ b. omega (arith, b, high, lt)) which) spot.outside_lanes

  pub owner_kept : (one : ℕ) → one < 16 → lane_owner new one ≡ lane_owner old one
  owner_kept one lt = ap place_in (lane_word one (lane_dest_at one) lt (inl refl))

  pub block_kept : (one : ℕ) → one < 16 → lane_block new one ≡ lane_block old one
  block_kept one lt = lane_word one (lane_block_at one) lt (inr refl)

  pub op_kept : (one : ℕ) → one < 16 → (get_or new (lane_op_at one) 0 ≡ get_or old (lane_op_at one) 0) ⊎ ((one ≡ lane) × (get_or new (lane_op_at one) 0 ≡ 0))
  op_kept one lt = ⊎_elim (λ e. inl e) (λ write. by write) (each (lane_op_at one))
    where
      by : IsLaneWrite old new lane (lane_op_at one) → (get_or new (lane_op_at one) 0 ≡ get_or old (lane_op_at one) 0) ⊎ ((one ≡ lane) × (get_or new (lane_op_at one) 0 ≡ 0))
      by (the_op at none) = inr (omega (arith, at), none)
      by (the_mark place) = absurd (⊎_elim (λ descriptor. omega (arith, descriptor, lt)) (λ bitmap. let first = bitmap.1 in omega (arith, first, lt)) place)
      by (the_owner at slot none) =
          let spot = slot_spot (lane_op_at one) slot in absurd (⊎_elim (λ low. omega (arith, low)) (λ high. omega (arith, high, lt)) spot.outside_lanes)

  -- ── owner words ──

  pub firm_kept : (owner : Owner) → Contains (firm_owners old) owner → word_of new owner ≡ word_of old owner
  firm_kept owner is = reads_same.each owner.at (firm_read owner is)
    where
      firm_read : (owner : Owner) → Contains (firm_owners old) owner → IsRead old owner.at
      firm_read owner is = ⊎_elim
          (λ own. place_read old owner.at (owner_place old fits owner own))
          (λ leaf.
          let (column, among, here) = Contains-map (λ c. leaf_owner (new_leaf_at c)) (all_columns old) owner leaf in
          subst (λ (o : Owner). IsRead old o.at) here (in_column column 6 among (omega arith) refl))
          (Contains-append_cases (owner_words old) (new_leaf_owners old) owner is)

  pub owner_word_kept : (at : ℕ) → Contains (owner_places old) at → (get_or new at 0 ≡ get_or old at 0) ⊎ ((at ≡ lane_owner old lane) × Contains (unfinished_slots old) at × (get_or new at 0 ≡ 0))
  owner_word_kept at is = ⊎_elim
      (λ firm.
      let (owner, among, here) = Contains-map (λ (o : Owner). o.at) (firm_owners old) at firm in
      inl (subst (λ (w : ℕ). get_or new w 0 ≡ get_or old w 0) here (firm_kept owner among)))
      (λ slot. spot_kept at (slot_spot at slot))
      (Contains-append_cases (map (λ (o : Owner). o.at) (firm_owners old)) (unfinished_slots old) at is)
