-- An image that a cut of the mending of a lane leaves fits as the words did, and shows the same.
use Rattle.std.proofs.Common.{◌≡◌, ◌≢◌, ◌⊎◌, inl, inr, ⊎_elim, ℕ, ◌+◌, ◌%◌, ◌<◌, ◌≤◌, Bool, true, not, ◌&&◌, ◌||◌, eqb, leb, ltb, List, [], ◌∷◌, length, get_or, map, refl, sym, ◌∙◌, ap, subst, arith}
use Rattle.std.specs.Prelude.{All, AllPairs, Contains, IsTrue, filter}
use Rattle.std.specs.List.{flat_map, list_any, range_with_len}
use Rattle.std.proofs.lemmas.Bool.{and_from, and_parts, both_ways, cases_Bool, cases_eq, eq-eqb, eqb-true, ne_eqb, not-true, or_cases, or_left, or_right}
use Rattle.std.proofs.lemmas.List.Elements.{All-contains, Contains-append_cases, Contains-append_left, Contains-append_right, Contains-get_or}
use Rattle.std.proofs.lemmas.List.FromFn.{get_or-range_with_len, length-range_with_len}
use Rattle.image_layout.specs.Blocks.{Block, descriptor_of, is_block_pointer, is_given_back, is_inside, is_live, is_small_page, live_blocks, says_small}
use Rattle.image_layout.specs.Checks.{Check, check, Keeps}
use Rattle.image_layout.specs.EntryRules.{is_table_slot, table_slot_rule, text_columns}
use Rattle.image_layout.specs.Fixed.{lane_dest_at, lane_op_at, table_slot_at, version_at}
use Rattle.image_layout.specs.HeapRules.{is_lane, lane_rule}
use Rattle.image_layout.specs.Owners.{busy_lanes, firm_owners, is_replaced, is_replaced_in, lane_block, lane_owner, lane_targets, NameApart, names_one, new_leaf_owners, next_table_slots, Owner, owner_places, owner_words, OwnersAreApart, owns_block, unfinished_slots, word_of}
use Rattle.image_layout.specs.Places.{below, is_pointer, page_at, page_count, page_of, place_in}
use Rattle.image_layout.specs.Pointer.{pointer_word}
use Rattle.image_layout.specs.Records.{first_leaf_at, new_leaf_at, next_leaf_at, split_leaf_at}
use Rattle.image_layout.specs.SoundRules.{given_back_rule, owner_rule, zero_check}
use Rattle.image_layout.specs.Tables.{all_columns, table_count}
use Rattle.image_layout.proofs.Faults.{Holds, mapped_hold}
use Rattle.image_layout.proofs.Heap.{small_class}
use Rattle.image_layout.proofs.Members.{below-Contains, Contains-below, Contains-cons, Contains-filter, Contains-flat_map, Contains-map, Contains-nil, filter-Contains, flat_map-Contains, map-Contains}
use Rattle.image_layout.proofs.OwnersApart.{all_from, live_at}
use Rattle.image_layout.proofs.Precedes.{pair_of, precedes_filter}
use Rattle.image_layout.proofs.TableSlots.{few_tables}
use Rattle.heap_palloc.specs.Calls.{KeepsHeapRules}
use Rattle.heap_palloc.specs.Law.{IsOwnerPlace}
use Rattle.heap_palloc.proofs.Dests.{dest_place}
use Rattle.heap_palloc.proofs.RulesKept.{rules_at}
use Rattle.shown_state.specs.Fits.{Fits, later_slot_rule, later_slots, spoken_for}
use Rattle.shown_state.specs.LaneRules.{KeepsLaneRules}
use Rattle.shown_state.specs.Logs.{BeginsPages, LaneFits, LogsFit, SlotFits, SplitFits}
use Rattle.shown_state.specs.OpeningParts.{IsImage}
use Rattle.shown_state.specs.ReadLaws.{FitsBeside, OwnedAlike, ReadAlike, TreesAlike}
use Rattle.shown_state.specs.Reads.{in_column, in_head, in_leaf, SameReads}
use Rattle.shown_state.proofs.Alike.{any_members}
use Rattle.shown_state.proofs.LaneMending.{at_work, AtWork, block_pointer, pointer_parts}
use Rattle.shown_state.proofs.ReadLaw.{reads_decide, reads_fit}
use Rattle.shown_state.proofs.SameTreeRules.{pointer_is_same}
use Rattle.shown_state.proofs.Walks.{pointers_name_their_place}
use Rattle.opening_steps.specs.QuietImages.{StaysPlain}
use Rattle.opening_steps.proofs.Beside.{null_behind}
use Rattle.opening_steps.proofs.LaneSpots.{block_kept, firm_kept, heap_rules, IsLaneWrite, lane_word, the_mark, the_op, the_owner, op_kept, owner_kept, owner_word_kept, precedes_at, precedes_whole, reads_same, same_places, spot_kept, target_spot}
use Rattle.opening_steps.proofs.NextSlots.{later_slots_same, later_spot, next_slot, slot_still_is}
use Rattle.opening_steps.proofs.Shrinks.{HeapShrinks}
use Rattle.opening_steps.proofs.Slots.{null_slot, slots_kept}
use Rattle.opening_steps.proofs.SplitLogs.{no_split_kept}
use Rattle.opening_steps.proofs.SplitsFit.{split_fits}
use Rattle.opening_steps.proofs.Structure.{SamePlaces}
use Rattle.opening_steps.proofs.Versions.{same_version}

any_true : {X : Type 0} (test : X → Bool) (xs : List X) (x : X) → Contains xs x → test x ≡ true → list_any test xs ≡ true
any_true test [] x is hit = absurd (Contains-nil x is)
any_true {X} test (first ∷ xs) x is hit = ⊎_elim
    (λ (here : first ≡ x). or_left (test first) (list_any test xs) (subst (λ (y : X). test y ≡ true) (sym here) hit))
    (λ later. or_right (test first) (list_any test xs) (any_true test xs x later hit))
    (Contains-cons first x xs is)

-- What a cut of the mending of a lane at work leaves: a block may be gone, which is the lane's, and then its owner's word
-- doesn't name it; and once the lane is idle the block is gone, or named. Of the block that a lane still at work has, and of one
-- that the table slot at the count names, the pointer is a block's still.
pub record IsLaneCut (old new : List ℕ) (lane : ℕ) (gone : ℕ → Type 0) : Type 0 where
  pub size : length new ≡ length old
  pub each : (w : ℕ) → (get_or new w 0 ≡ get_or old w 0) ⊎ IsLaneWrite old new lane w
  pub busy : get_or old (lane_op_at lane) 0 ≢ 0
  pub heap : HeapShrinks old new gone
  pub gone_is : (place : ℕ) → gone place → place ≡ place_in (lane_block old lane)
  pub disowned : (place : ℕ) → gone place → get_or new (lane_owner old lane) 0 ≢ lane_block old lane
  pub done : get_or new (lane_op_at lane) 0 ≡ 0
      → gone (place_in (lane_block old lane)) ⊎ ((at : ℕ) × Contains (owner_places old) at × (get_or new at 0 ≡ lane_block old lane))
  pub logged : (one : ℕ) → Contains (busy_lanes new) one → is_block_pointer old (lane_block old one) ≡ true → is_block_pointer new (lane_block old one) ≡ true
  pub slot : (at : ℕ) → Contains (next_table_slots old) at → get_or new at 0 ≢ 0 → is_block_pointer old (get_or new at 0) ≡ true → is_block_pointer new (get_or new at 0) ≡ true

module _ (old new : List ℕ) (lane : ℕ) (gone : ℕ → Type 0) (image : IsImage old) (number : lane < 16) (fits : Fits old) (cut : IsLaneCut old new lane gone) where
  same : SameReads old new
  same = reads_same old new lane image number fits cut.size cut.each

  abbrev heap : HeapShrinks old new gone
  heap = cut.heap

  read : ReadAlike old new
  read = let (a, b, c, d, e, f) = reads_decide old new fits same in a

  trees : TreesAlike old new
  trees = let (a, b, c, d, e, f) = reads_decide old new fits same in c

  owned : OwnedAlike old new
  owned = let (a, b, c, d, e, f) = reads_decide old new fits same in f

  -- ── lanes ──

  lane_rules : KeepsLaneRules old
  lane_rules = record { heap = heap_rules old new lane image number fits cut.size cut.each; lanes = fits.entry.lanes }

  work : AtWork old lane
  work = at_work old lane_rules lane number cut.busy

  block_is : is_pointer old (lane_block old lane) ≡ true
  block_is = block_pointer old (lane_block old lane) work.block

  block_word : lane_block old lane ≡ pointer_word (place_in (lane_block old lane))
  block_word = (pointer_parts old (lane_block old lane) block_is).0

  pointer_some : lane_block old lane ≢ 0
  pointer_some none = omega (arith, block_word, none)

  busy_old : (one : ℕ) → Contains (busy_lanes new) one → Contains (busy_lanes old) one
  busy_old one is =
      let parts = Contains-filter (λ l. not (eqb (get_or new (lane_op_at l) 0) 0)) (below 16) one is in
      let lt = Contains-below 16 one parts.0 in
      let some : get_or new (lane_op_at one) 0 ≢ 0 = λ none. both_ways (eqb (get_or new (lane_op_at one) 0) 0) (not-true (eqb (get_or new (lane_op_at one) 0) 0) parts.1) (eq-eqb (get_or new (lane_op_at one) 0) 0 none) in
      filter-Contains (λ l. not (eqb (get_or old (lane_op_at l) 0) 0)) (below 16) one parts.0
      (ap not (ne_eqb (get_or old (lane_op_at one) 0) 0 (λ none. ⊎_elim (λ kept. some (kept ∙ none)) (λ idle. some idle.1) (op_kept old new lane image number fits cut.size cut.each one lt))))

  busy_under : (one : ℕ) → Contains (busy_lanes old) one → one < 16
  busy_under one is = Contains-below 16 one (Contains-filter (λ l. not (eqb (get_or old (lane_op_at l) 0) 0)) (below 16) one is).0

  busy_number : (one : ℕ) → Contains (busy_lanes new) one → one < 16
  busy_number one is = busy_under one (busy_old one is)

  -- a lane that was at work is, or it is this one and idle
  busy_new : (one : ℕ) → Contains (busy_lanes old) one → Contains (busy_lanes new) one ⊎ ((one ≡ lane) × (get_or new (lane_op_at lane) 0 ≡ 0))
  busy_new one is =
      let parts = Contains-filter (λ l. not (eqb (get_or old (lane_op_at l) 0) 0)) (below 16) one is in
      let lt = Contains-below 16 one parts.0 in
      ⊎_elim
      (λ kept. inl (filter-Contains (λ l. not (eqb (get_or new (lane_op_at l) 0) 0)) (below 16) one parts.0 (ap (λ (w : ℕ). not (eqb w 0)) kept ∙ parts.1)))
      (λ idle. inr (idle.0, sym (ap (λ (l : ℕ). get_or new (lane_op_at l) 0) idle.0) ∙ idle.1))
      (op_kept old new lane image number fits cut.size cut.each one lt)

  lane_busy : Contains (busy_lanes old) lane
  lane_busy = filter-Contains (λ l. not (eqb (get_or old (lane_op_at l) 0) 0)) (below 16) lane (below-Contains 16 lane number) (ap not (ne_eqb (get_or old (lane_op_at lane) 0) 0 cut.busy))

  own_owner : (one : ℕ) → one < 16 → lane_owner new one ≡ lane_owner old one
  own_owner one lt = owner_kept old new lane image number fits cut.size cut.each one lt

  own_block : (one : ℕ) → one < 16 → lane_block new one ≡ lane_block old one
  own_block one lt = block_kept old new lane image number fits cut.size cut.each one lt

  -- what holds of two lanes at work goes on to hold
  pairs_kept : (R S : ℕ → ℕ → Type 0) → AllPairs R (busy_lanes old) → ((one other : ℕ) → one < 16 → other < 16 → R one other → S one other) → AllPairs S (busy_lanes new)
  pairs_kept R S all on i j d order lt =
      let busy = busy_lanes new in
      let one = get_or busy i d in
      let other = get_or busy j d in
      let first = busy_old one (Contains-get_or busy i d (omega (arith, order, lt))) in
      let second = busy_old other (Contains-get_or busy j d lt) in
      let test : ℕ → Bool = λ l. not (eqb (get_or old (lane_op_at l) 0) 0) in
      let before = precedes_filter test (below 16) one other (Contains-filter test (below 16) one first).1 (Contains-filter test (below 16) other second).1
      (precedes_whole (λ l. not (eqb (get_or new (lane_op_at l) 0) 0)) (below 16) one other (precedes_at busy i j d order lt)) in
      on one other (busy_under one first) (busy_under other second) (pair_of R (busy_lanes old) one other all before)

  pointer_same : (word : ℕ) → is_pointer new word ≡ is_pointer old word
  pointer_same word = pointer_is_same old new cut.size word

  lane_still : (one : ℕ) → one < 16 → is_lane new one ≡ true
  unfolding lane_rule
  lane_still one lt =
      let op : List ℕ → ℕ = λ words. get_or words (lane_op_at one) 0 in
      let rule = fits.entry.lanes in
      let was : is_lane old one ≡ true = All-contains Holds (lane_rule old) (check (lane_op_at one) (is_lane old one)) rule.checks (map-Contains (λ l. check (lane_op_at l) (is_lane old l)) (below 16) one (below-Contains 16 one lt)) in
      ⊎_elim
      (λ kept. ⊎_elim
      (λ none. or_left (eqb (op new) 0) _ (ap (λ (n : ℕ). eqb n 0) kept ∙ none))
      (λ busy. ⊎_elim
      (λ none. or_left (eqb (op new) 0) _ (eq-eqb (op new) 0 none))
      (λ some.
      let outer = and_parts (leb (op old) 2 && is_pointer old (dest old)) (is_block_pointer old (lane_block old one)) busy in
      let inner = and_parts (leb (op old) 2) (is_pointer old (dest old)) outer.0 in
      let at_work = filter-Contains (λ l. not (eqb (get_or new (lane_op_at l) 0) 0)) (below 16) one (below-Contains 16 one lt) (ap not (ne_eqb (op new) 0 some)) in
      or_right (eqb (op new) 0) _
      (and_from (leb (op new) 2 && is_pointer new (dest new)) (is_block_pointer new (lane_block new one))
      (and_from (leb (op new) 2) (is_pointer new (dest new)) (ap (λ (n : ℕ). leb n 2) kept ∙ inner.0)
      (ap (is_pointer new) (lane_word old new lane image number fits cut.size cut.each one (lane_dest_at one) lt (inl refl)) ∙ pointer_same (dest old) ∙ inner.1))
      (subst (λ (w : ℕ). is_block_pointer new w ≡ true) (sym (own_block one lt)) (cut.logged one at_work outer.1))))
      (cases_eq (op new) 0))
      (or_cases (eqb (op old) 0) _ was))
      (λ idle. or_left (eqb (op new) 0) _ (eq-eqb (op new) 0 idle.1))
      (op_kept old new lane image number fits cut.size cut.each one lt)
    where
      dest : List ℕ → ℕ
      dest words = get_or words (lane_dest_at one) 0

  lanes_kept : Keeps new lane_rule
  unfolding lane_rule
  lanes_kept = record { checks = mapped_hold (λ l. check (lane_op_at l) (is_lane new l)) (below 16) (λ l is. lane_still l (Contains-below 16 l is)) }

  -- ── owners ──

  -- an owner's word is as it was, or it is the lane's, and null
  abbrev WasOr : ℕ → Type 0
  WasOr at = (get_or new at 0 ≡ get_or old at 0) ⊎ ((at ≡ lane_owner old lane) × Contains (unfinished_slots old) at × (get_or new at 0 ≡ 0))

  word_kept : (at : ℕ) → Contains (owner_places old) at → WasOr at
  word_kept at is = owner_word_kept old new lane image number fits cut.size cut.each at is

  some_kept : (at : ℕ) → Contains (owner_places old) at → get_or new at 0 ≢ 0 → get_or new at 0 ≡ get_or old at 0
  some_kept at is some = ⊎_elim (λ e. e) (λ zeroed. absurd (some zeroed.2)) (word_kept at is)

  not_gone : (at : ℕ) → Contains (owner_places old) at → get_or new at 0 ≡ get_or old at 0 → is_pointer old (get_or old at 0) ≡ true → gone (place_in (get_or old at 0)) → ⊥
  not_gone at is kept pointer lost =
      let word = (pointer_parts old (get_or old at 0) pointer).0 in
      let place = cut.gone_is (place_in (get_or old at 0)) lost in
      let named : get_or old at 0 ≡ lane_block old lane = word ∙ ap pointer_word place ∙ sym block_word in
      let alone = All-contains (λ a. (a ≡ lane_owner old lane) ⊎ (get_or old a 0 ≢ lane_block old lane)) (owner_places old) at
      (All-contains (λ l. All (λ a. (a ≡ lane_owner old l) ⊎ (get_or old a 0 ≢ lane_block old l)) (owner_places old)) (busy_lanes old) lane fits.apart.alone lane_busy) is in
      ⊎_elim (λ own. cut.disowned (place_in (get_or old at 0)) lost (ap (λ (w : ℕ). get_or new w 0) (sym own) ∙ kept ∙ named)) (λ other. other named) alone

  firm_place : (owner : Owner) → Contains (firm_owners old) owner → Contains (owner_places old) owner.at
  firm_place owner is = Contains-append_left (map (λ (o : Owner). o.at) (firm_owners old)) (unfinished_slots old) owner.at (map-Contains (λ (o : Owner). o.at) (firm_owners old) owner is)

  slot_among : (at : ℕ) → Contains (unfinished_slots old) at → Contains (owner_places old) at
  slot_among at is = Contains-append_right (map (λ (o : Owner). o.at) (firm_owners old)) (unfinished_slots old) at is

  own_word : (owner : Owner) → Contains (firm_owners old) owner → word_of new owner ≡ word_of old owner
  own_word owner is = firm_kept old new lane image number fits cut.size cut.each owner is

  owns_kept : (owner : Owner) → Contains (firm_owners old) owner → owns_block old owner ≡ true → owns_block new owner ≡ true
  owns_kept owner is owns =
      let word = word_of old owner in
      let place = place_in word in
      let test : Block → Bool = λ block. eqb block.first place && eqb block.words owner.block_words in
      let parts = and_parts (is_pointer old word) (is_live old place owner.block_words) owns in
      let live = live_at old place owner.block_words parts.1 in
      let first = live.first in
      let size = live.size in
      let there : Contains (live_blocks new) live.block = ⊎_elim
      (λ lost. absurd (not_gone owner.at (firm_place owner is) (own_word owner is) parts.0 (subst gone first lost)))
      (λ still. still) (heap.kept live.block live.live) in
      subst (λ (w : ℕ). (is_pointer new w && is_live new (place_in w) owner.block_words) ≡ true) (sym (own_word owner is))
      (and_from (is_pointer new word) (is_live new place owner.block_words) (pointer_same word ∙ parts.0)
      (any_true test (live_blocks new) live.block there (and_from (eqb live.block.first place) (eqb live.block.words owner.block_words) (eq-eqb live.block.first place first) (eq-eqb live.block.words owner.block_words size))))

  replaced_same : (at other : ℕ) → is_replaced new at other ≡ is_replaced old at other
  replaced_same at other =
      ap (list_any (is_replaced_in new at other)) read.columns
      ∙ any_members (is_replaced_in new at other) (is_replaced_in old at other) (all_columns old) (λ column is.
      ap (λ (leaf : ℕ). eqb other (new_leaf_at column) && ((eqb at (first_leaf_at column)) || (not (eqb leaf 0) && eqb at (next_leaf_at (place_in leaf))))) (same.each (split_leaf_at column) (in_column column 5 is (omega arith) refl)))

  apart_kept : (at other : ℕ) → Contains (owner_places old) at → Contains (owner_places old) other → NameApart old at other → NameApart new at other
  apart_kept at other is is_other apart some some_other free equal =
      let here = some_kept at is some in
      let there = some_kept other is_other some_other in
      apart (λ none. some (here ∙ none)) (λ none. some_other (there ∙ none)) (sym (replaced_same at other) ∙ free) (ap place_in (sym here) ∙ equal ∙ ap place_in there)

  block_some : (l : ℕ) → Contains (busy_lanes old) l → lane_block old l ≢ 0
  block_some l is none =
      let parts = Contains-filter (λ k. not (eqb (get_or old (lane_op_at k) 0) 0)) (below 16) l is in
      let busy : get_or old (lane_op_at l) 0 ≢ 0 = λ zero_op. both_ways (eqb (get_or old (lane_op_at l) 0) 0) (not-true (eqb (get_or old (lane_op_at l) 0) 0) parts.1) (eq-eqb (get_or old (lane_op_at l) 0) 0 zero_op) in
      let at = at_work old lane_rules l (Contains-below 16 l parts.0) busy in
      let word = (pointer_parts old (lane_block old l) (block_pointer old (lane_block old l) at.block)).0 in
      omega (arith, word, none)

  owners_apart : OwnersAreApart new
  owners_apart = record {
    firm = subst (All (λ (owner : Owner). IsTrue (names_one new owner) → IsTrue (owns_block new owner))) (sym owned.firm)
        (all_from (λ (owner : Owner). IsTrue (names_one new owner) → IsTrue (owns_block new owner)) (firm_owners old) (λ owner is some.
        owns_kept owner is (All-contains (λ (o : Owner). IsTrue (names_one old o) → IsTrue (owns_block old o)) (firm_owners old) owner fits.apart.firm is (ap (λ (w : ℕ). not (eqb w 0)) (sym (own_word owner is)) ∙ some))));
    unfinished = subst (All (λ (at : ℕ). get_or new at 0 ≢ 0 → IsTrue (is_pointer new (get_or new at 0)) × Contains (map (λ block. block.first) (live_blocks new)) (place_in (get_or new at 0)))) (sym owned.unfinished)
        (all_from (λ (at : ℕ). get_or new at 0 ≢ 0 → IsTrue (is_pointer new (get_or new at 0)) × Contains (map (λ block. block.first) (live_blocks new)) (place_in (get_or new at 0))) (unfinished_slots old) slot_names);
    apart = subst (AllPairs (NameApart new)) (sym owned.places) (λ i j d order lt.
        apart_kept (get_or (owner_places old) i d) (get_or (owner_places old) j d) (Contains-get_or (owner_places old) i d (omega (arith, order, lt))) (Contains-get_or (owner_places old) j d lt) (fits.apart.apart i j d order lt));
    targets = all_from (λ (l : ℕ). Contains (lane_targets new) (lane_owner new l)) (busy_lanes new) (λ l is.
        subst (λ (xs : List ℕ). Contains xs (lane_owner new l)) (sym owned.targets) (subst (Contains (lane_targets old)) (sym (own_owner l (busy_number l is)))
        (All-contains (λ l. Contains (lane_targets old) (lane_owner old l)) (busy_lanes old) l fits.apart.targets (busy_old l is))));
    lanes = pairs_kept (λ l other. lane_owner old l ≢ lane_owner old other) (λ l other. lane_owner new l ≢ lane_owner new other) fits.apart.lanes
        (λ l other lt less apart e. apart (sym (own_owner l lt) ∙ e ∙ own_owner other less));
    alone = all_from (λ (l : ℕ). All (λ (at : ℕ). (at ≡ lane_owner new l) ⊎ (get_or new at 0 ≢ lane_block new l)) (owner_places new)) (busy_lanes new) (λ l is.
        subst (All (λ (at : ℕ). (at ≡ lane_owner new l) ⊎ (get_or new at 0 ≢ lane_block new l))) (sym owned.places)
        (all_from (λ (at : ℕ). (at ≡ lane_owner new l) ⊎ (get_or new at 0 ≢ lane_block new l)) (owner_places old) (λ at among. alone_kept l is at among)));
  }
    where
      slot_names : (at : ℕ) → Contains (unfinished_slots old) at → get_or new at 0 ≢ 0 → IsTrue (is_pointer new (get_or new at 0)) × Contains (map (λ block. block.first) (live_blocks new)) (place_in (get_or new at 0))
      slot_names at is some =
          let kept = some_kept at (slot_among at is) some in
          let was = All-contains (λ a. get_or old a 0 ≢ 0 → IsTrue (is_pointer old (get_or old a 0)) × Contains (map (λ block. block.first) (live_blocks old)) (place_in (get_or old a 0))) (unfinished_slots old) at fits.apart.unfinished is (λ none. some (kept ∙ none)) in
          let (block, live, first) = Contains-map (λ (b : Block). b.first) (live_blocks old) (place_in (get_or old at 0)) was.1 in
          let there : Contains (live_blocks new) block = ⊎_elim
          (λ lost. absurd (not_gone at (slot_among at is) kept was.0 (subst gone first lost))) (λ still. still) (heap.kept block live) in (
            ap (is_pointer new) kept ∙ pointer_same (get_or old at 0) ∙ was.0,
            subst (Contains (map (λ (b : Block). b.first) (live_blocks new))) (first ∙ ap place_in (sym kept)) (map-Contains (λ (b : Block). b.first) (live_blocks new) block there),
          )

      alone_kept : (l : ℕ) → Contains (busy_lanes new) l → (at : ℕ) → Contains (owner_places old) at → (at ≡ lane_owner new l) ⊎ (get_or new at 0 ≢ lane_block new l)
      alone_kept l is at among =
          let lt = busy_number l is in
          let was = All-contains (λ a. (a ≡ lane_owner old l) ⊎ (get_or old a 0 ≢ lane_block old l)) (owner_places old) at
          (All-contains (λ l. All (λ a. (a ≡ lane_owner old l) ⊎ (get_or old a 0 ≢ lane_block old l)) (owner_places old)) (busy_lanes old) l fits.apart.alone (busy_old l is)) among in
          ⊎_elim (λ own. inl (own ∙ sym (own_owner l lt)))
          (λ other. inr (λ named. ⊎_elim (λ kept. other (sym kept ∙ named ∙ own_block l lt))
          (λ zeroed. block_some l (busy_old l is) (sym (own_block l lt) ∙ sym named ∙ zeroed.2)) (word_kept at among))) was

  owners_kept : Keeps new owner_rule
  unfolding owner_rule
  owners_kept = record {
    checks = subst (λ (owners : List Owner). All Holds (map (λ (owner : Owner). check owner.at (owns_block new owner)) owners)) (sym owned.owners)
        (all_from Holds (map made (owner_words old)) (λ c is.
        let (owner, among, here) = Contains-map made (owner_words old) c is in
        subst Holds here (owns_kept owner (Contains-append_left (owner_words old) (new_leaf_owners old) owner among)
        (let rule = fits.owners in All-contains Holds (owner_rule old) (check owner.at (owns_block old owner)) rule.checks
        (map-Contains (λ (o : Owner). check o.at (owns_block old o)) (owner_words old) owner among)))));
  }
    where
      made : Owner → Check
      made owner = check owner.at (owns_block new owner)

  -- each live block is spoken for
  held : All (λ block. Contains (spoken_for new) (pointer_word block.first)) (live_blocks new)
  held = all_from (λ (block : Block). Contains (spoken_for new) (pointer_word block.first)) (live_blocks new) (λ block live. spoken block live)
    where
      by_place : (word at : ℕ) → Contains (owner_places old) at → get_or new at 0 ≡ word → Contains (spoken_for new) word
      by_place word at among here =
          let own : Contains (owner_places new) at = subst (λ (xs : List ℕ). Contains xs at) (sym owned.places) among in
          Contains-append_left (map (λ a. get_or new a 0) (owner_places new)) (map (lane_block new) (busy_lanes new)) word
          (subst (Contains (map (λ a. get_or new a 0) (owner_places new))) here (map-Contains (λ a. get_or new a 0) (owner_places new) at own))

      by_lane : (word one : ℕ) → Contains (busy_lanes new) one → lane_block old one ≡ word → Contains (spoken_for new) word
      by_lane word one busy here =
          Contains-append_right (map (λ a. get_or new a 0) (owner_places new)) (map (lane_block new) (busy_lanes new)) word
          (subst (Contains (map (lane_block new) (busy_lanes new))) (own_block one (busy_number one busy) ∙ here) (map-Contains (lane_block new) (busy_lanes new) one busy))

      by_own : (block : Block) → Contains (live_blocks new) block → pointer_word block.first ≡ lane_block old lane → Contains (spoken_for new) (pointer_word block.first)
      by_own block live is = ⊎_elim
          (λ busy. by_lane (pointer_word block.first) lane busy (sym is))
          (λ idle. ⊎_elim
          (λ lost. absurd (heap.none block live (subst gone (ap place_in (sym is) ∙ pointers_name_their_place block.first) lost)))
          (λ found. let (at, among, here) = found in by_place (pointer_word block.first) at among (here ∙ sym is))
          (cut.done idle.1))
          (busy_new lane lane_busy)

      spoken : (block : Block) → Contains (live_blocks new) block → Contains (spoken_for new) (pointer_word block.first)
      spoken block live =
          let word = pointer_word block.first in
          let was = All-contains (λ (b : Block). Contains (spoken_for old) (pointer_word b.first)) (live_blocks old) block fits.held (heap.blocks block live) in
          ⊎_elim
          (λ placed.
          let (at, among, here) = Contains-map (λ a. get_or old a 0) (owner_places old) word placed in
          ⊎_elim (λ kept. by_place word at among (kept ∙ here))
          (λ zeroed.
          let fit = All-contains (LaneFits old) (busy_lanes old) lane fits.logs.lanes lane_busy in
          let own = ap (λ (a : ℕ). get_or old a 0) zeroed.0 in
          by_own block live (⊎_elim (λ none. absurd (let some = ap (λ (n : ℕ). n) here in omega (arith, some, own, none))) (λ named. sym here ∙ own ∙ named) fit.owner))
          (word_kept at among))
          (λ lanes.
          let (one, busy, here) = Contains-map (lane_block old) (busy_lanes old) word lanes in
          ⊎_elim (λ still. by_lane word one still here) (λ idle. by_own block live (sym here ∙ ap (lane_block old) idle.0)) (busy_new one busy))
          (Contains-append_cases (map (λ a. get_or old a 0) (owner_places old)) (map (lane_block old) (busy_lanes old)) word was)

  -- ── logs ──

  begins_kept : (page : ℕ) → BeginsPages old page → BeginsPages new page
  begins_kept page was = record {
    outside = ⊎_elim (λ is. absurd (both_ways (is_inside old page) was.outside (heap.inside page is))) (λ none. none) (cases_Bool (is_inside new page));
    no_small = ⊎_elim (λ is. absurd (both_ways (is_small_page old page) was.no_small (heap.small page is))) (λ none. none) (cases_Bool (is_small_page new page));
    clean = λ k some lt. ⊎_elim
        (λ kept.
        let clean = was.clean k some (omega (arith, lt, kept)) in
        ⊎_elim (λ e. e ∙ clean) (λ none. none) (heap.descriptors (page + k)))
        (λ none. absurd (omega (arith, none, lt)))
        (heap.descriptors page);
  }

  lane_fits : (one : ℕ) → Contains (busy_lanes new) one → LaneFits new one
  lane_fits one is =
      let lt = busy_number one is in
      let was = All-contains (LaneFits old) (busy_lanes old) one fits.logs.lanes (busy_old one is) in
      let owner = own_owner one lt in
      let block = own_block one lt in
      let target = All-contains (λ l. Contains (lane_targets old) (lane_owner old l)) (busy_lanes old) one fits.apart.targets (busy_old one is) in
      record {
        owner = ⊎_elim
            (λ kept. ⊎_elim (λ none. inl (ap (λ (a : ℕ). get_or new a 0) owner ∙ kept ∙ none)) (λ named. inr (ap (λ (a : ℕ). get_or new a 0) owner ∙ kept ∙ named ∙ sym block)) was.owner)
            (λ zeroed. inl (ap (λ (a : ℕ). get_or new a 0) owner ∙ zeroed.2))
            (spot_kept old new lane image number fits cut.size cut.each (lane_owner old one) (target_spot old new lane image number fits cut.size cut.each (lane_owner old one) target));
        pages = λ big. let place = ap place_in block in subst (λ (p : ℕ). BeginsPages new (page_of p)) (sym place) (begins_kept (page_of (place_in (lane_block old one))) (was.pages (omega (arith, big, place))));
        frees = λ two. subst (λ (xs : List ℕ). Contains xs (lane_owner new one)) (sym owned.unfinished) (subst (Contains (unfinished_slots old)) (sym owner)
            (was.frees (⊎_elim (λ kept. sym kept ∙ two) (λ idle. let none = idle.1 in omega (arith, none, two)) (op_kept old new lane image number fits cut.size cut.each one lt))));
      }

  slot_fits : (at : ℕ) → Contains (unfinished_slots old) at → SlotFits new at
  slot_fits at is some big =
      let kept = some_kept at (slot_among at is) some in
      let place = ap place_in kept in
      let was = All-contains (SlotFits old) (unfinished_slots old) at fits.logs.slots is (λ none. some (kept ∙ none)) (omega (arith, big, place)) in
      subst (λ (p : ℕ). BeginsPages new (page_of p)) (sym place) (begins_kept (page_of (place_in (get_or old at 0))) was)

  splits_fit : (column : ℕ) → Contains (all_columns old) column → SplitFits new column
  splits_fit column is = split_fits old new fits column is (λ word few. same.each (column + word) (in_column column word is few refl))
      (λ leaf w listed low high. same.each w (in_leaf column leaf is listed low high))

  logs : LogsFit new
  logs = record {
    lanes = all_from (LaneFits new) (busy_lanes new) lane_fits;
    blocks = pairs_kept (λ l other. lane_block old l ≢ lane_block old other) (λ l other. lane_block new l ≢ lane_block new other) fits.logs.blocks
        (λ l other lt less apart e. apart (sym (own_block l lt) ∙ e ∙ own_block other less));
    slots = subst (All (SlotFits new)) (sym owned.unfinished) (all_from (SlotFits new) (unfinished_slots old) slot_fits);
    splits = subst (All (SplitFits new)) (sym read.columns) (all_from (SplitFits new) (all_columns old) splits_fit);
  }

  -- ── slots and pages ──

  later_kept : Keeps new later_slot_rule
  unfolding later_slot_rule
  later_kept = record {
    checks = subst (All Holds) (sym (ap (map (zero_check new)) (later_slots_same old new fits same))) (all_from Holds (map (zero_check new) (flat_map (later_slots old) (text_columns old))) (λ c is.
        let (at, among, here) = Contains-map (zero_check new) (flat_map (later_slots old) (text_columns old)) c is in
        subst Holds here (zero_still at among)));
  }
    where
      zero_still : (at : ℕ) → Contains (flat_map (later_slots old) (text_columns old)) at → eqb (get_or new at 0) 0 ≡ true
      zero_still at is =
          let rule = fits.later_slots in
          let was : eqb (get_or old at 0) 0 ≡ true = All-contains Holds (later_slot_rule old) (zero_check old at) rule.checks (map-Contains (zero_check old) (flat_map (later_slots old) (text_columns old)) at is) in
          ⊎_elim (λ kept. ap (λ (w : ℕ). eqb w 0) kept ∙ was) (λ zeroed. eq-eqb (get_or new at 0) 0 zeroed.2)
          (spot_kept old new lane image number fits cut.size cut.each at (later_spot old image fits at is))

  given_header : (page : ℕ) → is_given_back old page ≡ true → page < page_count new → page % 64 ≡ 0 → ⊥
  given_header page given lt none =
      let rules = heap_rules old new lane image number fits cut.size cut.each in
      let size = cut.size in
      let kept = rules_at old rules page (omega (arith, lt, size)) in
      let eight = kept.reserved (or_left (eqb (page % 64) 0) (ltb page 4) (eq-eqb (page % 64) 0 none)) in
      let one = eqb-true (descriptor_of old page) 1 (and_parts (not (is_inside old page)) (eqb (descriptor_of old page) 1) given).1 in
      omega (arith, eight, one)

  given_kept : Keeps new given_back_rule
  unfolding given_back_rule
  given_kept = record {
    checks = all_from Holds (map (zero_check new) (flat_map (λ page. range_with_len (page_at page) 512) (filter (is_given_back new) (below (page_count new))))) (λ c is.
        let places = flat_map (λ page. range_with_len (page_at page) 512) (filter (is_given_back new) (below (page_count new))) in
        let (at, among, here) = Contains-map (zero_check new) places c is in
        let (page, given, within) = Contains-flat_map (λ p. range_with_len (page_at p) 512) (filter (is_given_back new) (below (page_count new))) at among in
        let parts = Contains-filter (is_given_back new) (below (page_count new)) page given in
        subst Holds here (zero_still page at (Contains-below (page_count new) page parts.0) parts.1 within));
  }
    where
      zero_still : (page at : ℕ) → page < page_count new → is_given_back new page ≡ true → Contains (range_with_len (page_at page) 512) at → eqb (get_or new at 0) 0 ≡ true
      zero_still page at lt given within =
          let was = heap.given page given in
          let size = cut.size in
          let among = flat_map-Contains (λ p. range_with_len (page_at p) 512) (filter (is_given_back old) (below (page_count old))) page at
          (filter-Contains (is_given_back old) (below (page_count old)) page (below-Contains (page_count old) page (omega (arith, lt, size))) was) within in
          let rule = fits.given_back in
          let zero_old : eqb (get_or old at 0) 0 ≡ true = All-contains Holds (given_back_rule old) (zero_check old at) rule.checks
          (map-Contains (zero_check old) (flat_map (λ p. range_with_len (page_at p) 512) (filter (is_given_back old) (below (page_count old)))) at among) in
          ⊎_elim (λ kept. ap (λ (w : ℕ). eqb w 0) kept ∙ zero_old) (λ write. by zero_old write) (cut.each at)
        where
          here : page_of at ≡ page
          here =
              let (i, less, value_is) = within in
              let length_is = length-range_with_len (page_at page) 512 in
              let value = get_or-range_with_len (page_at page) 512 i at (omega (arith, less, length_is)) in
              omega (arith, value, value_is, less, length_is)

          by : eqb (get_or old at 0) 0 ≡ true → IsLaneWrite old new lane at → eqb (get_or new at 0) 0 ≡ true
          by zero_old (the_op place none) = eq-eqb (get_or new at 0) 0 none
          by zero_old (the_owner place slot none) = eq-eqb (get_or new at 0) 0 none
          by zero_old (the_mark which) = absurd (⊎_elim
              (λ descriptor. given_header page (heap.given page given) lt (omega (arith, descriptor, here)))
              (λ bitmap.
              let was = and_parts (not (is_inside old page)) (eqb (descriptor_of old page) 1) (heap.given page given) in
              let one = eqb-true (descriptor_of old page) 1 was.1 in
              let small = ap (is_small_page old) (sym here) ∙ bitmap.0 in
              let known = small_class (descriptor_of old page) (and_parts (not (is_inside old page)) (says_small (descriptor_of old page)) small).1 in
              omega (arith, one, known)) which)

  table_slots_kept : Keeps new table_slot_rule
  table_slots_kept = slots_kept old new places (same_version (same.each version_at (in_head (omega arith) (omega arith)))) fits.first (few_tables old fits.entry.table_count) fits.entry.table_slots later
    where
      places : SamePlaces old new
      places = same_places old new same

      later : (table : ℕ) → table_count old ≤ table → table < 32 → is_table_slot new table ≡ true
      later table le lt = ⊎_elim
          (λ (here : table ≡ table_count old). at_count table here lt)
          (λ behind. null_slot old new places table le (kept_null (table_slot_at table) (omega arith) (omega (arith, lt)) (null_behind old fits.entry.table_slots table (omega (arith, le, behind)) lt)))
          (cases_eq table (table_count old))
        where
          fixed_spot : (at : ℕ) → 520 ≤ at → at < 552 → IsOwnerPlace old at
          fixed_spot at low high = (dest_place old image.segments image.one_or_more (heap_rules old new lane image number fits cut.size cut.each) at (inl (omega (arith, low), omega (arith, high), inl (omega (arith, high))))).owner_is

          kept_null : (at : ℕ) → 520 ≤ at → at < 552 → get_or old at 0 ≡ 0 → get_or new at 0 ≡ 0
          kept_null at low high none = ⊎_elim (λ kept. kept ∙ none) (λ zeroed. zeroed.2) (spot_kept old new lane image number fits cut.size cut.each at (fixed_spot at low high))

          at_count : (table : ℕ) → table ≡ table_count old → table < 32 → is_table_slot new table ≡ true
          at_count table here lt =
              let at = table_slot_at table in
              ⊎_elim
              (λ kept. slot_still_is old new fits read.count table here lt kept (λ some. cut.slot at (next_slot old table here lt) some))
              (λ zeroed. null_slot old new places table (omega (arith, here)) zeroed.2)
              (spot_kept old new lane image number fits cut.size cut.each at (fixed_spot at (omega arith) (omega (arith, lt))))

  beside : FitsBeside new
  beside = record {
    reserved = rules.reserved;
    descriptors = rules.descriptors;
    bitmaps = rules.bitmaps;
    lanes = lanes_kept;
    table_slots = table_slots_kept;
    apart = owners_apart;
    logs = logs;
    held = held;
    owners = owners_kept;
    later_slots = later_kept;
    given_back = given_kept;
  }
    where
      rules : KeepsHeapRules new
      rules = heap.rules

  pub cut_still : StaysPlain old new
  cut_still = record { still = record { fits = reads_fit old new fits same beside; shows = read.state }; plain = no_split_kept old new fits same }
