-- The block that an unfinished slot names is freed through lane 0: each cut keeps what fits, and shows the same; then the slot is null.
use Rattle.std.proofs.Common.{◌≡◌, ◌≢◌, ◌⊎◌, inl, inr, ⊎_elim, ℕ, ◌%◌, ◌<◌, ◌≤◌, Bool, true, false, cond, ◌&&◌, eqb, ltb, List, [], ◌∷◌, ◌++◌, length, get_or, set, refl, sym, ◌∙◌, ap, subst, arith}
use Rattle.std.specs.Prelude.{Contains}
use Rattle.std.specs.List.{flat_map}
use Rattle.std.proofs.lemmas.List.Elements.{Contains-append_left}
use Rattle.std.proofs.lemmas.Bool.{and_parts, cases_Bool, cases_eq, cond-false, cond-true, eqb-false, eqb-true}
use Rattle.std.proofs.lemmas.List.{get_or-set_other, get_or-set_same, length-set}
use Rattle.pm_model.specs.Device.{IsBetween}
use Rattle.pm_model.specs.Needed.{AllStores}
use Rattle.pm_model.specs.Plans.{EachCut, finished, one_store, Part, store}
use Rattle.pm_model.proofs.Cuts.{between-end, cut-one_store, each_cut-append, each_cut-end, each_cut-map}
use Rattle.image_layout.specs.Blocks.{bitmap_of, class_of, is_block_pointer, is_small_page, slot_at, slot_in, slots_of}
use Rattle.image_layout.specs.Fixed.{descriptor_at, lane_block_at, lane_dest_at, lane_op_at, table_slot_at}
use Rattle.image_layout.specs.Owners.{lane_block, lane_owner, next_table_slots, next_text_slots, unfinished_slots}
use Rattle.image_layout.specs.Places.{page_at, page_of, place_in}
use Rattle.image_layout.specs.Pointer.{pointer_word}
use Rattle.image_layout.specs.Tables.{all_columns}
use Rattle.heap_palloc.specs.Choice.{freed_parts, of_pages, of_slot, pages_named, slot_named}
use Rattle.heap_palloc.specs.Lane.{is_big_place, mark_at, unmarked}
use Rattle.heap_palloc.specs.Law.{IsOwnerPlace}
use Rattle.heap_palloc.specs.Shown.{IsOutsideLane}
use Rattle.heap_small.specs.Bitmap.{without_bit}
use Rattle.shown_state.specs.Fits.{Fits}
use Rattle.shown_state.specs.Mending.{cleared_mark, free_block, release_part}
use Rattle.shown_state.specs.OpeningParts.{IsImage}
use Rattle.shown_state.specs.ReadLaws.{IsUnread, ReadAlike}
use Rattle.shown_state.specs.Reads.{SameReads}
use Rattle.shown_state.specs.StepLaws.{AreIdle, AreJoined}
use Rattle.shown_state.proofs.LaneMending.{block_page, block_pointer, block_slot, has_mark, HasMark, owner_no_mark, pointer_parts}
use Rattle.shown_state.proofs.UnfinishedUnread.{unread_may_differ}
use Rattle.shown_state.proofs.Walks.{pointers_name_their_place}
use Rattle.opening_steps.specs.QuietImages.{StaysPlain}
use Rattle.opening_steps.proofs.LaneSpots.{slot_spot}
use Rattle.opening_steps.proofs.LaneStep.{emptied_still, freeing_cuts}
use Rattle.opening_steps.proofs.Noted.{FreesAt, noted_still, read}

-- the one after the other
plain_then : (words middle image : List ℕ) → StaysPlain words middle → StaysPlain middle image → StaysPlain words image
plain_then words middle image first second =
    let before = first.still in
    let after = second.still in
    record { still = record { fits = after.fits; shows = after.shows ∙ before.shows }; plain = λ none. second.plain (first.plain none) }

module _ (words : List ℕ) (at : ℕ) (image : IsImage words) (fits : Fits words) (joined : AreJoined 512 words) (slot : Contains (unfinished_slots words) at) (some : get_or words at 0 ≢ 0)
    (pointer : is_block_pointer words (get_or words at 0) ≡ true) (tables : (place : ℕ) → Contains (next_table_slots words) place → (place ≡ at) ⊎ (get_or words place 0 ≡ 0)) where
  abbrev word : ℕ
  word = get_or words at 0

  abbrev block : ℕ
  block = place_in (get_or words at 0)

  abbrev page_word : ℕ
  page_word = descriptor_at (page_of (place_in (get_or words at 0)))

  -- ── the parts ──

  -- lane 0 gets the place and the block
  abbrev noting : Part
  noting = store (lane_dest_at 0) (pointer_word at) ∷ store (lane_block_at 0) (get_or words at 0) ∷ []

  abbrev ending : List Part
  ending = one_store at 0 ∷ release_part words (place_in (get_or words at 0)) ∷ one_store (lane_op_at 0) 0 ∷ []

  -- a small page that has no block then is free
  abbrev emptying : List Part
  emptying = cond (is_big_place (place_in (get_or words at 0))) []
      (cond (eqb (cleared_mark words (place_in (get_or words at 0))) 0) (one_store (descriptor_at (page_of (place_in (get_or words at 0)))) 0 ∷ []) [])

  is_place : word ≡ pointer_word block
  is_place = (pointer_parts words word (block_pointer words word pointer)).0

  -- by the block's place, the word that names it, its mark without it, and what becomes of its page
  abbrev parts_of : ℕ → ℕ → ℕ → List Part → List Part
  parts_of place named clear last = (store (lane_dest_at 0) (pointer_word at) ∷ store (lane_block_at 0) named ∷ []) ∷ one_store (lane_op_at 0) 2 ∷ one_store at 0 ∷ one_store (mark_at place) clear ∷ one_store (lane_op_at 0) 0 ∷ last

  parts_are : free_block words at ≡ noting ∷ one_store (lane_op_at 0) 2 ∷ ending ++ emptying
  parts_are = ⊎_elim big small (cases_Bool (is_big_place block))
    where
      by_kind : Bool → List Part
      by_kind big = freed_parts words (cond big (of_pages (pages_named words 0 at)) (of_slot (slot_named words 0 at)))

      big : is_big_place block ≡ true → free_block words at ≡ noting ∷ one_store (lane_op_at 0) 2 ∷ ending ++ emptying
      big hit =
          let first = eqb-true (block % 512) 0 hit in
          let place : page_at (page_of block) ≡ block = omega (arith, first) in
          let clear : cleared_mark words block ≡ 0 = cond-true (is_big_place block) 0 _ hit in
          ap (λ (b : Bool). by_kind b) hit
          ∙ ap (λ (p : ℕ). parts_of p (pointer_word p) 0 []) place
          ∙ ap (λ (named : ℕ). parts_of block named 0 []) (sym is_place)
          ∙ ap (λ (c : ℕ). parts_of block word c []) (sym clear)
          ∙ ap (parts_of block word (cleared_mark words block)) (sym (cond-true (is_big_place block) [] _ hit))

      small : is_big_place block ≡ false → free_block words at ≡ noting ∷ one_store (lane_op_at 0) 2 ∷ ending ++ emptying
      small miss =
          let page = page_of block in
          let is = block_slot words word pointer (eqb-false (block % 512) 0 miss) in
          let place : slot_at page (class_of words page) (slot_in (class_of words page) block) ≡ block =
          eqb-true (slot_at page (class_of words page) (slot_in (class_of words page) block)) block (and_parts (is_small_page words page && ltb (slot_in (class_of words page) block) (slots_of (class_of words page))) _ is).1 in
          let mark : mark_at block ≡ page_at page = cond-false (is_big_place block) (descriptor_at page) (page_at page) miss in
          let clear : cleared_mark words block ≡ without_bit (bitmap_of words page) (slot_in (class_of words page) block) =
          cond-false (is_big_place block) 0 (without_bit (get_or words (mark_at block) 0) (slot_in (class_of words page) block)) miss
          ∙ ap (λ (w : ℕ). without_bit (get_or words w 0) (slot_in (class_of words page) block)) mark in
          let last : ℕ → List Part = λ c. cond (eqb c 0) (one_store (descriptor_at page) 0 ∷ []) [] in
          let cleared = without_bit (bitmap_of words page) (slot_in (class_of words page) block) in
          ap (λ (b : Bool). by_kind b) miss
          ∙ ap (λ (p : ℕ). parts_of p (pointer_word p) cleared (last cleared)) place
          ∙ ap (λ (named : ℕ). parts_of block named cleared (last cleared)) (sym is_place)
          ∙ ap (λ (c : ℕ). parts_of block word c (last c)) (sym clear)
          ∙ ap (parts_of block word (cleared_mark words block)) (sym (cond-false (is_big_place block) [] _ miss))

  -- ── what is noted ──

  spot : IsOwnerPlace words at
  spot = slot_spot words words 0 image (omega arith) fits refl (λ w. inl refl) at slot

  mark : HasMark (length words) 0 block
  mark = has_mark (length words) 0 block (omega arith) (pointer_parts words word (block_pointer words word pointer)).1 (block_page words word pointer)

  lane_inside : 704 ≤ length words
  lane_inside = let large = image.one_or_more in omega (arith, large)

  -- the words with lane 0 noted, and at work
  abbrev named : List ℕ
  named = set (set words (lane_dest_at 0) (pointer_word at)) (lane_block_at 0) (get_or words at 0)

  abbrev freeing : List ℕ
  freeing = set (set (set words (lane_dest_at 0) (pointer_word at)) (lane_block_at 0) (get_or words at 0)) (lane_op_at 0) 2

  named_size : length named ≡ length words
  named_size = length-set (set words (lane_dest_at 0) (pointer_word at)) (lane_block_at 0) word ∙ length-set words (lane_dest_at 0) (pointer_word at)

  freeing_size : length freeing ≡ length words
  freeing_size = length-set named (lane_op_at 0) 2 ∙ named_size

  named_other : (w : ℕ) → w ≢ lane_dest_at 0 → w ≢ lane_block_at 0 → get_or named w 0 ≡ get_or words w 0
  named_other w no_dest no_block =
      get_or-set_other (set words (lane_dest_at 0) (pointer_word at)) (lane_block_at 0) w word 0 no_block
      ∙ get_or-set_other words (lane_dest_at 0) w (pointer_word at) 0 no_dest

  freeing_other : (w : ℕ) → w ≢ lane_op_at 0 → w ≢ lane_dest_at 0 → w ≢ lane_block_at 0 → get_or freeing w 0 ≡ get_or words w 0
  freeing_other w no_op no_dest no_block = get_or-set_other named (lane_op_at 0) w 2 0 no_op ∙ named_other w no_dest no_block

  named_still : (now : List ℕ) → IsBetween words named now → StaysPlain words now
  named_still now between = noted_still words now at image fits joined slot some pointer (record {
    size = between.size;
    each = λ w no_op no_dest no_block. ⊎_elim (λ e. e) (λ e. e ∙ named_other w no_dest no_block) (between.each w);
    op = inl (⊎_elim (λ e. e ∙ idle) (λ e. e ∙ named_other (lane_op_at 0) (λ e. omega (arith, e)) (λ e. omega (arith, e)) ∙ idle) (between.each (lane_op_at 0)));
  })
    where
      idle : get_or words (lane_op_at 0) 0 ≡ 0
      idle = joined.0 0 (omega arith)

  frees : FreesAt words freeing at
  frees = record {
    op = get_or-set_same named (lane_op_at 0) 2 0 (let size = named_size in let inside = lane_inside in omega (arith, size, inside));
    dest = get_or-set_other named (lane_op_at 0) (lane_dest_at 0) 2 0 (λ e. omega (arith, e))
        ∙ get_or-set_other (set words (lane_dest_at 0) (pointer_word at)) (lane_block_at 0) (lane_dest_at 0) word 0 (λ e. omega (arith, e))
        ∙ get_or-set_same words (lane_dest_at 0) (pointer_word at) 0 (let inside = lane_inside in omega (arith, inside));
    block = get_or-set_other named (lane_op_at 0) (lane_block_at 0) 2 0 (λ e. omega (arith, e))
        ∙ get_or-set_same (set words (lane_dest_at 0) (pointer_word at)) (lane_block_at 0) word 0
        (let size = length-set words (lane_dest_at 0) (pointer_word at) in let inside = lane_inside in omega (arith, size, inside));
  }

  freeing_still : StaysPlain words freeing
  freeing_still = noted_still words freeing at image fits joined slot some pointer (record { size = freeing_size; each = freeing_other; op = inr frees })

  -- ── the freeing is ended as a lane's ──

  freeing_image : IsImage freeing
  freeing_image = record {
    segments = ap (λ (n : ℕ). n % 32768) freeing_size ∙ image.segments;
    one_or_more = let size = freeing_size in let most = image.one_or_more in omega (arith, size, most);
  }

  fits_freeing : Fits freeing
  fits_freeing = let still = freeing_still.still in still.fits

  busy : get_or freeing (lane_op_at 0) 0 ≢ 0
  busy none = let two = frees.op in omega (arith, two, none)

  own : lane_owner freeing 0 ≡ at
  own = ap place_in frees.dest ∙ pointers_name_their_place at

  own_block : lane_block freeing 0 ≡ word
  own_block = frees.block

  clear_same : cleared_mark freeing block ≡ cleared_mark words block
  clear_same =
      let out = mark.outside in
      ap (λ (d : ℕ). unmarked block d (get_or freeing (mark_at block) 0)) (freeing_other page_word (λ e. omega (arith, e)) (λ e. omega (arith, e)) (λ e. omega (arith, e)))
      ∙ ap (unmarked block (get_or words page_word 0)) (freeing_other (mark_at block) out.0 out.1 out.2)

  ending_cuts : EachCut (StaysPlain words) ending freeing
  ending_cuts = each_cut-map (StaysPlain freeing) (StaysPlain words) ending freeing (λ now is. plain_then words freeing now freeing_still is)
      (subst (λ (c : ℕ). EachCut (StaysPlain freeing) (one_store at 0 ∷ one_store (mark_at block) c ∷ one_store (lane_op_at 0) 0 ∷ []) freeing) clear_same
      (subst (λ (b : ℕ). EachCut (StaysPlain freeing) (one_store at 0 ∷ release_part freeing (place_in b) ∷ one_store (lane_op_at 0) 0 ∷ []) freeing) own_block
      (subst (λ (o : ℕ). EachCut (StaysPlain freeing) (one_store o 0 ∷ release_part freeing (place_in (lane_block freeing 0)) ∷ one_store (lane_op_at 0) 0 ∷ []) freeing) own
      (freeing_cuts freeing 0 freeing_image (omega arith) fits_freeing (λ lane none. absurd (omega (arith, none))) busy frees.op))))

  -- ── the end ──

  abbrev ended : List ℕ
  ended = set (set (set (set (set (set words (lane_dest_at 0) (pointer_word at)) (lane_block_at 0) (get_or words at 0)) (lane_op_at 0) 2) at 0) (mark_at (place_in (get_or words at 0))) (cleared_mark words (place_in (get_or words at 0)))) (lane_op_at 0) 0

  ended_still : StaysPlain words ended
  ended_still = each_cut-end (StaysPlain words) ending freeing ending_cuts

  -- what is so at the end, beside what each cut has
  pub record IsFreed (new : List ℕ) : Type 0 where
    pub reads : SameReads words new
    pub still : StaysPlain words new
    pub idle : AreIdle 16 new
    pub null : get_or new at 0 ≡ 0
    pub kept : (place : ℕ) → Contains (unfinished_slots words) place → place ≢ at → get_or new place 0 ≡ get_or words place 0

  -- the words that the plan may leave changed
  record IsElse (w : ℕ) : Type 0 where
    no_op : w ≢ lane_op_at 0
    no_dest : w ≢ lane_dest_at 0
    no_block : w ≢ lane_block_at 0
    no_slot : w ≢ at
    no_mark : w ≢ mark_at block
    no_page : w ≢ page_word

  freed_by : (new : List ℕ) → length new ≡ length words → ((w : ℕ) → IsElse w → get_or new w 0 ≡ get_or words w 0) → get_or new (lane_op_at 0) 0 ≡ 0 → get_or new at 0 ≡ 0 → StaysPlain words new → IsFreed new
  freed_by new size others op null still = record {
    reads = unread_may_differ words new image fits size unread;
    still = still;
    idle = λ lane lt. ⊎_elim
        (λ (here : lane ≡ 0). ap (λ (l : ℕ). get_or new (lane_op_at l) 0) here ∙ op)
        (λ apart. others (lane_op_at lane) (lane_word lane lt apart) ∙ joined.0 lane lt) (cases_eq lane 0);
    null = null;
    kept = λ place is apart. others place (slot_word place is apart);
  }
    where
      out : IsOutsideLane 0 (mark_at block)
      out = mark.outside

      lane_word : (lane : ℕ) → lane < 16 → lane ≢ 0 → IsElse (lane_op_at lane)
      lane_word lane lt apart =
          let far = spot.outside_lanes in
          record {
            no_op = λ e. apart (omega (arith, e));
            no_dest = λ e. omega (arith, e);
            no_block = λ e. omega (arith, e);
            no_slot = λ e. ⊎_elim (λ low. omega (arith, e, low)) (λ high. omega (arith, e, high, lt)) far;
            no_mark = λ e. (has_mark (length words) lane block lt (pointer_parts words word (block_pointer words word pointer)).1 (block_page words word pointer)).outside.0 (sym e);
            no_page = λ e. omega (arith, e, lt);
          }

      slot_word : (place : ℕ) → Contains (unfinished_slots words) place → place ≢ at → IsElse place
      slot_word place is apart =
          let own = slot_spot words words 0 image (omega arith) fits refl (λ w. inl refl) place is in
          let far = own.outside_lanes in
          let high_word = own.no_descriptor in
          record {
            no_op = λ e. ⊎_elim (λ low. omega (arith, e, low)) (λ high. omega (arith, e, high)) far;
            no_dest = λ e. ⊎_elim (λ low. omega (arith, e, low)) (λ high. omega (arith, e, high)) far;
            no_block = λ e. ⊎_elim (λ low. omega (arith, e, low)) (λ high. omega (arith, e, high)) far;
            no_slot = apart;
            no_mark = owner_no_mark words place block own (block_slot words word pointer);
            no_page = λ e. omega (arith, e, high_word);
          }

      mark_unread : IsUnread words (mark_at block)
      mark_unread = ⊎_elim
          (λ big. let is : mark_at block ≡ page_word = cond-true (is_big_place block) page_word (page_at (page_of block)) big in inr (inl (omega (arith, is))))
          (λ miss.
          let is : mark_at block ≡ page_at (page_of block) = cond-false (is_big_place block) page_word (page_at (page_of block)) miss in
          let inner = (and_parts (is_small_page words (page_of block) && ltb (slot_in (class_of words (page_of block)) block) (slots_of (class_of words (page_of block)))) _ (block_slot words word pointer (eqb-false (block % 512) 0 miss))).0 in
          let back : page_of (mark_at block) ≡ page_of block = omega (arith, is) in
          inr (inr (inl (ap (is_small_page words) back ∙ (and_parts (is_small_page words (page_of block)) _ inner).0, omega (arith, is)))))
          (cases_Bool (is_big_place block))

      unread : (w : ℕ) → (get_or new w 0 ≡ get_or words w 0) ⊎ IsUnread words w
      unread w = ⊎_elim (λ (e : w ≡ lane_op_at 0). inr (inl (omega (arith, e), omega (arith, e)))) (λ no_op.
          ⊎_elim (λ (e : w ≡ lane_dest_at 0). inr (inl (omega (arith, e), omega (arith, e)))) (λ no_dest.
          ⊎_elim (λ (e : w ≡ lane_block_at 0). inr (inl (omega (arith, e), omega (arith, e)))) (λ no_block.
          ⊎_elim (λ (e : w ≡ at). inr (inr (inr (inr (inr (subst (Contains (unfinished_slots words)) (sym e) slot)))))) (λ no_slot.
          ⊎_elim (λ (e : w ≡ mark_at block). inr (subst (IsUnread words) (sym e) mark_unread)) (λ no_mark.
          ⊎_elim (λ (e : w ≡ page_word). inr (inr (inl (omega (arith, e))))) (λ no_page.
          inl (others w (record { no_op = no_op; no_dest = no_dest; no_block = no_block; no_slot = no_slot; no_mark = no_mark; no_page = no_page })))
          (cases_eq w page_word)) (cases_eq w (mark_at block))) (cases_eq w at)) (cases_eq w (lane_block_at 0))) (cases_eq w (lane_dest_at 0))) (cases_eq w (lane_op_at 0))

  slot_no_op : at ≢ lane_op_at 0
  slot_no_op e = let far = spot.outside_lanes in ⊎_elim (λ low. omega (arith, e, low)) (λ high. omega (arith, e, high)) far

  slot_no_mark : at ≢ mark_at block
  slot_no_mark = owner_no_mark words at block spot (block_slot words word pointer)

  slot_no_page : at ≢ page_word
  slot_no_page e = let far = spot.no_descriptor in omega (arith, e, far)

  -- the words before the op is cleared
  abbrev unowned : List ℕ
  unowned = set (set (set (set words (lane_dest_at 0) (pointer_word at)) (lane_block_at 0) (get_or words at 0)) (lane_op_at 0) 2) at 0

  abbrev released_words : List ℕ
  released_words = set (set (set (set (set words (lane_dest_at 0) (pointer_word at)) (lane_block_at 0) (get_or words at 0)) (lane_op_at 0) 2) at 0) (mark_at (place_in (get_or words at 0))) (cleared_mark words (place_in (get_or words at 0)))

  released_size : length released_words ≡ length words
  released_size = length-set unowned (mark_at block) (cleared_mark words block) ∙ length-set freeing at 0 ∙ freeing_size

  ended_size : length ended ≡ length words
  ended_size = length-set released_words (lane_op_at 0) 0 ∙ released_size

  ended_other : (w : ℕ) → IsElse w → get_or ended w 0 ≡ get_or words w 0
  ended_other w is =
      get_or-set_other released_words (lane_op_at 0) w 0 0 is.no_op
      ∙ get_or-set_other unowned (mark_at block) w (cleared_mark words block) 0 is.no_mark
      ∙ get_or-set_other freeing at w 0 0 is.no_slot
      ∙ freeing_other w is.no_op is.no_dest is.no_block

  ended_op : get_or ended (lane_op_at 0) 0 ≡ 0
  ended_op = get_or-set_same released_words (lane_op_at 0) 0 0 (let size = released_size in let inside = lane_inside in omega (arith, size, inside))

  ended_null : get_or ended at 0 ≡ 0
  ended_null =
      get_or-set_other released_words (lane_op_at 0) at 0 0 slot_no_op
      ∙ get_or-set_other unowned (mark_at block) at (cleared_mark words block) 0 slot_no_mark
      ∙ get_or-set_same freeing at 0 0 (let size = freeing_size in let inside = spot.in_image in omega (arith, size, inside))

  ended_freed : IsFreed ended
  ended_freed = freed_by ended ended_size ended_other ended_op ended_null ended_still

  -- ── its page, where no block is left ──

  module _ (small : block % 512 ≢ 0) (last : cleared_mark words block ≡ 0) where
    abbrev cleared : List ℕ
    cleared = set (set (set (set (set (set (set words (lane_dest_at 0) (pointer_word at)) (lane_block_at 0) (get_or words at 0)) (lane_op_at 0) 2) at 0) (mark_at (place_in (get_or words at 0))) (cleared_mark words (place_in (get_or words at 0)))) (lane_op_at 0) 0) (descriptor_at (page_of (place_in (get_or words at 0)))) 0

    -- by the owner's place, the block's pointer and its mark without it
    abbrev cleared_by : ℕ → ℕ → ℕ → List ℕ
    cleared_by owner named_block clear = set (set (set (set freeing owner 0) (mark_at (place_in named_block)) clear) (lane_op_at 0) 0) (descriptor_at (page_of (place_in named_block))) 0

    cleared_is : cleared_by (lane_owner freeing 0) (lane_block freeing 0) (cleared_mark freeing (place_in (lane_block freeing 0))) ≡ cleared
    cleared_is =
        ap (λ (o : ℕ). cleared_by o (lane_block freeing 0) (cleared_mark freeing (place_in (lane_block freeing 0)))) own
        ∙ ap (λ (b : ℕ). cleared_by at b (cleared_mark freeing (place_in b))) own_block
        ∙ ap (cleared_by at word) clear_same

    tables_freeing : (place : ℕ) → Contains (next_table_slots freeing) place → (place ≡ lane_owner freeing 0) ⊎ (get_or freeing place 0 ≡ 0)
    tables_freeing place is =
        let among : Contains (next_table_slots words) place = subst (λ (count : ℕ). Contains (cond (ltb count 32) (table_slot_at count ∷ []) []) place) (freeing_read).count is in
        let far = (slot_spot words words 0 image (omega arith) fits refl (λ w. inl refl) place (Contains-append_left (next_table_slots words) (flat_map (next_text_slots words) (all_columns words)) place among)).outside_lanes in
        ⊎_elim (λ here. inl (here ∙ sym own))
        (λ none. inr (freeing_other place
        (λ e. ⊎_elim (λ low. omega (arith, e, low)) (λ high. omega (arith, e, high)) far)
        (λ e. ⊎_elim (λ low. omega (arith, e, low)) (λ high. omega (arith, e, high)) far)
        (λ e. ⊎_elim (λ low. omega (arith, e, low)) (λ high. omega (arith, e, high)) far) ∙ none))
        (tables place among)
      where
        freeing_read : ReadAlike words freeing
        freeing_read = read words freeing at image fits joined slot some pointer (record { size = freeing_size; each = freeing_other; op = inr frees })

    cleared_still : StaysPlain words cleared
    cleared_still = plain_then words freeing cleared freeing_still (subst (StaysPlain freeing) cleared_is
        (emptied_still freeing 0 freeing_image (omega arith) fits_freeing (λ lane none. absurd (omega (arith, none))) busy frees.op
        (λ e. small (ap (λ (b : ℕ). place_in b % 512) (sym own_block) ∙ e))
        (ap (λ (b : ℕ). cleared_mark freeing (place_in b)) own_block ∙ clear_same ∙ last)
        (λ lane lt apart. freeing_other (lane_op_at lane) (λ e. apart (omega (arith, e))) (λ e. omega (arith, e)) (λ e. omega (arith, e)) ∙ joined.0 lane lt)
        tables_freeing))

    cleared_freed : IsFreed cleared
    cleared_freed = freed_by cleared (length-set ended page_word 0 ∙ ended_size)
        (λ w is. get_or-set_other ended page_word w 0 0 is.no_page ∙ ended_other w is)
        (get_or-set_other ended page_word (lane_op_at 0) 0 0 (λ e. omega (arith, e)) ∙ ended_op)
        (get_or-set_other ended page_word at 0 0 slot_no_page ∙ ended_null)
        cleared_still

  -- ── all parts ──

  -- what the page's parts are: none, or one store
  by_page : (P : List Part → Type 0) → P [] → (block % 512 ≢ 0 → cleared_mark words block ≡ 0 → P (one_store page_word 0 ∷ [])) → P emptying
  by_page P none one = ⊎_elim
      (λ big. subst P (sym (cond-true (is_big_place block) [] _ big)) none)
      (λ miss. subst P (sym (cond-false (is_big_place block) [] _ miss)) (⊎_elim
      (λ last. subst P (sym (cond-true (eqb (cleared_mark words block) 0) (one_store page_word 0 ∷ []) [] last)) (one (eqb-false (block % 512) 0 miss) (eqb-true (cleared_mark words block) 0 last)))
      (λ more. subst P (sym (cond-false (eqb (cleared_mark words block) 0) (one_store page_word 0 ∷ []) [] more)) none)
      (cases_Bool (eqb (cleared_mark words block) 0))))
      (cases_Bool (is_big_place block))

  all_cuts : EachCut (StaysPlain words) (noting ∷ one_store (lane_op_at 0) 2 ∷ ending ++ emptying) words
  all_cuts = (
    named_still,
    (
      cut-one_store (StaysPlain words) (lane_op_at 0) 2 named (named_still named (between-end noting words)) freeing_still,
      each_cut-append (StaysPlain words) ending emptying freeing ending_cuts
          (by_page (λ parts. EachCut (StaysPlain words) parts ended) ended_still
          (λ small last. (cut-one_store (StaysPlain words) page_word 0 ended ended_still (cleared_still small last), cleared_still small last))),
    ),
  )

  pub freed_cuts : EachCut (StaysPlain words) (free_block words at) words
  freed_cuts = subst (λ (parts : List Part). EachCut (StaysPlain words) parts words) (sym parts_are) all_cuts

  pub freed_end : IsFreed (finished (free_block words at) words)
  freed_end = subst (λ (parts : List Part). IsFreed (finished parts words)) (sym parts_are)
      (by_page (λ parts. IsFreed (finished (noting ∷ one_store (lane_op_at 0) 2 ∷ ending ++ parts) words)) ended_freed cleared_freed)

  pub freed_stores : AllStores (length words) (free_block words at)
  freed_stores =
      let inside = lane_inside in
      let within = mark.within in
      subst (AllStores (length words)) (sym parts_are) (
        (omega (arith, inside), (omega (arith, inside), tt)),
        (
          (omega (arith, inside), tt),
          (
            (spot.in_image, tt),
            (
              (within, tt),
              ((omega (arith, inside), tt), by_page (AllStores (length words)) tt (λ small last. ((page_inside, tt), tt))),
            ),
          ),
        ),
      )
    where
      page_inside : page_word < length words
      page_inside =
          let place = (pointer_parts words word (block_pointer words word pointer)).1 in
          let whole = image.segments in
          omega (arith, place, whole)
