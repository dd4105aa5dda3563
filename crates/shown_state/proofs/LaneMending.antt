-- Opening's step of a lane leaves the words with the lane mended, and so does each cut of it once it is mended anew.
use Rattle.std.proofs.Common.{◌≡◌, ◌≢◌, ◌⊎◌, inl, inr, ⊎_elim, ℕ, ◌-◌, ◌%◌, ◌<◌, ◌≤◌, Bool, true, false, not, ◌&&◌, ◌||◌, cond, ltb, leb, eqb, List, [], ◌∷◌, ◌++◌, length, get_or, set, refl, sym, ◌∙◌, ap, subst, IsTrue, arith}
use Rattle.std.proofs.lemmas.List.{get_or-set_same, get_or-set_other, length-set, set-get_or}
use Rattle.std.proofs.lemmas.List.Elements.{All-contains}
use Rattle.std.proofs.lemmas.Bool.{cases_Bool, cases_eq, eqb-true, eqb-false, ltb-true, leb-true, ltb-false, eq-eqb, ne_eqb, and_parts, not-true, or_cases, or_left, or_right, both_ways, cond-true, cond-false}
use Rattle.image_layout.specs.Fixed.{descriptor_at, lane_op_at, lane_dest_at, lane_block_at}
use Rattle.image_layout.specs.Pointer.{pointer_word}
use Rattle.image_layout.specs.Places.{below, page_of, page_at, place_in, is_pointer}
use Rattle.pm_model.specs.Plans.{Part, IsPlan, EachCut, finished, one_store}
use Rattle.pm_model.specs.Needed.{needed_parts, AllStores, StoresOfParts, after_mending}
use Rattle.image_layout.specs.Blocks.{slots_of, slot_in, class_of, is_reserved, is_small_page, is_slot, is_block_pointer}
use Rattle.image_layout.specs.Checks.{Check, check, Keeps}
use Rattle.image_layout.specs.HeapRules.{lane_rule, is_lane}
use Rattle.pm_model.proofs.Cuts.{cut-one_store, finished-append, length-finished}
use Rattle.image_layout.proofs.Members.{below-Contains, map-Contains}
use Rattle.pm_model.proofs.NeededStores.{needed-finished, needed-cuts, needed-plan}
use Rattle.heap_small.specs.Bitmap.{without_bit}
use Rattle.heap_small.proofs.Bitmaps.{without_bit-same}
use Rattle.heap_palloc.specs.Lane.{is_big_place, mark_at, unmarked, released, mended_by, mended_lane}
use Rattle.heap_palloc.specs.Shown.{IsOutsideLane}
use Rattle.heap_palloc.specs.Law.{IsOwnerPlace}
use Rattle.heap_palloc.proofs.Slots.{without_bit-clear, descriptor_outside-lane, bitmap_outside-lane}
use Rattle.heap_palloc.proofs.Stages.{mended-idle}
use Rattle.shown_state.specs.LaneRules.{KeepsLaneRules, MayMend}
use Rattle.shown_state.specs.Mending.{lane_mending, lane_parts, release_part}

-- ── a lane that is at work ──

-- it allocates or frees, and holds the pointers to its owner's word and to its block
pub record AtWork (words : List ℕ) (lane : ℕ) : Type 0 where
  pub op : (get_or words (lane_op_at lane) 0 ≡ 1) ⊎ (get_or words (lane_op_at lane) 0 ≡ 2)
  pub dest : is_pointer words (get_or words (lane_dest_at lane) 0) ≡ true
  pub block : is_block_pointer words (get_or words (lane_block_at lane) 0) ≡ true

lane_check : (words : List ℕ) → Keeps words lane_rule → (lane : ℕ) → lane < 16 → is_lane words lane ≡ true
unfolding lane_rule
lane_check words keeps lane lt =
    All-contains (λ (c : Check). IsTrue c.holds) (lane_rule words) _ keeps.checks (map-Contains (λ l. check (lane_op_at l) (is_lane words l)) (below 16) lane (below-Contains 16 lane lt))

pub at_work : (words : List ℕ) → KeepsLaneRules words → (lane : ℕ) → lane < 16 → get_or words (lane_op_at lane) 0 ≢ 0 → AtWork words lane
at_work words keeps lane lt some = ⊎_elim (λ zero_op. absurd (some (eqb-true _ _ zero_op))) busy
    (or_cases (eqb (get_or words (lane_op_at lane) 0) 0) _ (lane_check words keeps.lanes lane lt))
  where
    op_of : (op : ℕ) → op ≢ 0 → op ≤ 2 → (op ≡ 1) ⊎ (op ≡ 2)
    op_of op some le = ⊎_elim (λ e. inl e) (λ apart. inr (omega (arith, some, apart, le))) (cases_eq op 1)

    busy : ((leb (get_or words (lane_op_at lane) 0) 2 && is_pointer words (get_or words (lane_dest_at lane) 0)) && is_block_pointer words (get_or words (lane_block_at lane) 0)) ≡ true → AtWork words lane
    busy holds =
        let outer = and_parts (leb (get_or words (lane_op_at lane) 0) 2 && is_pointer words (get_or words (lane_dest_at lane) 0)) _ holds in
        let inner = and_parts (leb (get_or words (lane_op_at lane) 0) 2) _ outer.0 in
        record { op = op_of _ some (leb-true _ 2 inner.0); dest = inner.1; block = outer.1 }

pub work-other : (words : List ℕ) (lane : ℕ) → AtWork words lane → get_or words (lane_op_at lane) 0 ≢ 1 → get_or words (lane_op_at lane) 0 ≡ 2
work-other words lane work apart = ⊎_elim (λ one. absurd (apart one)) (λ two. two) work.op

-- a pointer names a place of the image
pub pointer_parts : (words : List ℕ) (word : ℕ) → is_pointer words word ≡ true → (word ≡ pointer_word (place_in word)) × (place_in word < length words)
pointer_parts words word is =
    let parts = and_parts (eqb word (pointer_word (place_in word))) _ is in
    (eqb-true word _ parts.0, ltb-true _ _ parts.1)

-- a block's pointer is one, to a page that isn't reserved, and in it to its first word or to a slot
block_parts : (words : List ℕ) (word : ℕ) → is_block_pointer words word ≡ true
    → (is_pointer words word ≡ true) × (not (is_reserved (page_of (place_in word))) ≡ true) × ((eqb (place_in word % 512) 0 || is_slot words (place_in word)) ≡ true)
block_parts words word is =
    let outer = and_parts (is_pointer words word && not (is_reserved (page_of (place_in word)))) _ is in
    let inner = and_parts (is_pointer words word) _ outer.0 in
    (inner.0, inner.1, outer.1)

pub block_pointer : (words : List ℕ) (word : ℕ) → is_block_pointer words word ≡ true → is_pointer words word ≡ true
block_pointer words word is = (block_parts words word is).0

pub block_page : (words : List ℕ) (word : ℕ) → is_block_pointer words word ≡ true → not (is_reserved (page_of (place_in word))) ≡ true
block_page words word is = (block_parts words word is).1

pub block_slot : (words : List ℕ) (word : ℕ) → is_block_pointer words word ≡ true → place_in word % 512 ≢ 0 → is_slot words (place_in word) ≡ true
block_slot words word is some =
    ⊎_elim (λ big. absurd (some (eqb-true _ 0 big))) (λ slot. slot) (or_cases (eqb (place_in word % 512) 0) (is_slot words (place_in word)) (block_parts words word is).2)

-- ── the parts that mend it ──

abbrev pub owner_of : List ℕ → ℕ → ℕ
owner_of words lane = place_in (get_or words (lane_dest_at lane) 0)

abbrev pub block_of : List ℕ → ℕ → ℕ
block_of words lane = place_in (get_or words (lane_block_at lane) 0)

pub mending-idle : (words : List ℕ) (lane : ℕ) → get_or words (lane_op_at lane) 0 ≡ 0 → lane_mending lane words ≡ []
mending-idle words lane is = ap (λ (op : ℕ). lane_parts words lane op (owner_of words lane) (get_or words (lane_block_at lane) 0)) is

pub mending-freeing : (words : List ℕ) (lane : ℕ) → get_or words (lane_op_at lane) 0 ≡ 2
    → lane_mending lane words ≡ one_store (owner_of words lane) 0 ∷ release_part words (block_of words lane) ∷ one_store (lane_op_at lane) 0 ∷ []
mending-freeing words lane is = ap (λ (op : ℕ). lane_parts words lane op (owner_of words lane) (get_or words (lane_block_at lane) 0)) is

pub mending-done : (words : List ℕ) (lane : ℕ) → get_or words (lane_op_at lane) 0 ≡ 1
    → get_or words (owner_of words lane) 0 ≡ get_or words (lane_block_at lane) 0 → lane_mending lane words ≡ one_store (lane_op_at lane) 0 ∷ []
mending-done words lane is owned =
    ap (λ (op : ℕ). lane_parts words lane op (owner_of words lane) (get_or words (lane_block_at lane) 0)) is
    ∙ cond-true (eqb (get_or words (owner_of words lane) 0) (get_or words (lane_block_at lane) 0)) _ _ (eq-eqb _ _ owned)

pub mending-undone : (words : List ℕ) (lane : ℕ) → get_or words (lane_op_at lane) 0 ≡ 1
    → get_or words (owner_of words lane) 0 ≢ get_or words (lane_block_at lane) 0
    → lane_mending lane words ≡ release_part words (block_of words lane) ∷ one_store (lane_op_at lane) 0 ∷ []
mending-undone words lane is apart =
    ap (λ (op : ℕ). lane_parts words lane op (owner_of words lane) (get_or words (lane_block_at lane) 0)) is
    ∙ cond-false (eqb (get_or words (owner_of words lane) 0) (get_or words (lane_block_at lane) 0)) _ _ (ne_eqb _ _ apart)

-- they end with the one that makes it idle
EndsIdle : List ℕ → ℕ → Type 0
EndsIdle words lane = (first : List Part) × (lane_mending lane words ≡ first ++ one_store (lane_op_at lane) 0 ∷ [])

ends-idle : (words : List ℕ) (lane : ℕ) → AtWork words lane → EndsIdle words lane
unfolding EndsIdle
ends-idle words lane work = ⊎_elim
    (λ one. ⊎_elim (λ owned. ([], mending-done words lane one owned)) (λ apart. (release_part words (block_of words lane) ∷ [], mending-undone words lane one apart))
    (cases_eq (get_or words (owner_of words lane) 0) (get_or words (lane_block_at lane) 0)))
    (λ two. (one_store (owner_of words lane) 0 ∷ release_part words (block_of words lane) ∷ [], mending-freeing words lane two))
    work.op

-- once they all were played it is idle
pub ended-idle : (words : List ℕ) (lane : ℕ) → AtWork words lane → lane_op_at lane < length words → get_or (finished (lane_mending lane words) words) (lane_op_at lane) 0 ≡ 0
unfolding EndsIdle
ended-idle words lane work within =
    let ends = ends-idle words lane work in
    let size = length-finished ends.0 words in
    ap (λ (parts : List Part). get_or (finished parts words) (lane_op_at lane) 0) ends.1
    ∙ ap (λ (ws : List ℕ). get_or ws (lane_op_at lane) 0) (finished-append ends.0 (one_store (lane_op_at lane) 0 ∷ []) words)
    ∙ get_or-set_same (finished ends.0 words) (lane_op_at lane) 0 0 (omega (arith, within, size))

-- ── the block of a lane ──

-- Its mark stands in the image, apart from the lanes and, where the block is small, from its page's descriptor.
pub record HasMark (size lane block : ℕ) : Type 0 where
  pub within : mark_at block < size
  pub outside : IsOutsideLane lane (mark_at block)
  pub two_words : (is_big_place block ≡ true) ⊎ (descriptor_at (page_of block) ≢ mark_at block)

unreserved : (page : ℕ) → not (is_reserved page) ≡ true → (page % 64 ≢ 0) × (4 ≤ page)
unreserved page free =
    let none : is_reserved page ≡ false = not-true (is_reserved page) free in (
      λ e. absurd (both_ways (is_reserved page) none (or_left (eqb (page % 64) 0) (ltb page 4) (eq-eqb (page % 64) 0 e))),
      ⊎_elim (λ low. absurd (both_ways (is_reserved page) none (or_right (eqb (page % 64) 0) (ltb page 4) low))) (λ high. ltb-false page 4 high) (cases_Bool (ltb page 4)),
    )

pub has_mark : (size lane block : ℕ) → lane < 16 → block < size → not (is_reserved (page_of block)) ≡ true → HasMark size lane block
has_mark size lane block lt within free = ⊎_elim big small (cases_Bool (is_big_place block))
  where
    big : is_big_place block ≡ true → HasMark size lane block
    big is =
        let mark_is : mark_at block ≡ descriptor_at (page_of block) = cond-true (is_big_place block) _ _ is in
        record {
          within = omega (arith, mark_is, within);
          outside = subst (IsOutsideLane lane) (sym mark_is) (descriptor_outside-lane lane (page_of block) lt);
          two_words = inl is;
        }

    small : is_big_place block ≡ false → HasMark size lane block
    small is =
        let mark_is : mark_at block ≡ page_at (page_of block) = cond-false (is_big_place block) _ _ is in
        let page_is = unreserved (page_of block) free in
        record {
          within = omega (arith, mark_is, within);
          outside = subst (IsOutsideLane lane) (sym mark_is) (bitmap_outside-lane lane (page_of block) lt);
          two_words = inr (λ e. page_is.0 (omega (arith, sym e ∙ e, e ∙ mark_is)));
        }

-- a mark that is clear stays so where it is cleared again
pub unmarked-again : (block descriptor mark : ℕ) → unmarked block descriptor (unmarked block descriptor mark) ≡ unmarked block descriptor mark
unmarked-again block descriptor mark = by_size (is_big_place block)
  where
    by_size : (big : Bool) → cond big 0 (without_bit (cond big 0 (without_bit mark (slot_in (descriptor - 2) block))) (slot_in (descriptor - 2) block)) ≡ cond big 0 (without_bit mark (slot_in (descriptor - 2) block))
    by_size true = refl
    by_size false = without_bit-clear _ _ (without_bit-same mark (slot_in (descriptor - 2) block))

-- a block is released already where its mark is clear
pub released-again : (words image : List ℕ) (block : ℕ) → (is_big_place block ≡ true) ⊎ (get_or image (descriptor_at (page_of block)) 0 ≡ get_or words (descriptor_at (page_of block)) 0)
    → get_or image (mark_at block) 0 ≡ unmarked block (get_or words (descriptor_at (page_of block)) 0) (get_or words (mark_at block) 0) → released block image ≡ image
released-again words image block same clear =
    let clear_is = unmarked-again block (get_or words (descriptor_at (page_of block)) 0) (get_or words (mark_at block) 0) in
    ap (set image (mark_at block)) (⊎_elim
    (λ big. cond-true (is_big_place block) 0 _ big ∙ sym (clear ∙ cond-true (is_big_place block) 0 _ big))
    (λ e. ap (λ (d : ℕ). unmarked block d (get_or image (mark_at block) 0)) e ∙ ap (unmarked block (get_or words (descriptor_at (page_of block)) 0)) clear ∙ clear_is ∙ sym clear)
    same) ∙ set-get_or image (mark_at block) 0

-- ── a lane at work ──

pub mended-is : (lane : ℕ) (words : List ℕ) (op dest block : ℕ) → get_or words (lane_op_at lane) 0 ≡ op → get_or words (lane_dest_at lane) 0 ≡ dest → get_or words (lane_block_at lane) 0 ≡ block
    → mended_lane lane words ≡ mended_by lane op (place_in dest) block words
unfolding mended_lane
mended-is lane words op dest block op_is dest_is block_is =
    ap (λ (n : ℕ). mended_by lane n (place_in (get_or words (lane_dest_at lane) 0)) (get_or words (lane_block_at lane) 0) words) op_is
    ∙ ap (λ (p : ℕ). mended_by lane op (place_in p) (get_or words (lane_block_at lane) 0) words) dest_is
    ∙ ap (λ (p : ℕ). mended_by lane op (place_in dest) p words) block_is

-- what parts do to a lane: they leave the lane mended, and so does each cut of them
pub record Mends (words : List ℕ) (lane : ℕ) (parts : List Part) : Type 0 where
  pub within : AllStores (length words) parts
  pub mends : finished parts words ≡ mended_lane lane words
  pub cuts : EachCut (λ image. mended_lane lane image ≡ mended_lane lane words) parts words

module _ (words : List ℕ) (lane : ℕ) (lt : lane < 16) (lanes : 704 ≤ length words) where
  abbrev dest : ℕ
  dest = get_or words (lane_dest_at lane) 0

  abbrev pointer : ℕ
  pointer = get_or words (lane_block_at lane) 0

  abbrev owner : ℕ
  owner = place_in (get_or words (lane_dest_at lane) 0)

  abbrev block : ℕ
  block = place_in (get_or words (lane_block_at lane) 0)

  abbrev Has : List ℕ → Type 0
  Has image = mended_lane lane image ≡ mended_lane lane words

  abbrev clear : ℕ
  clear = unmarked (place_in (get_or words (lane_block_at lane) 0)) (get_or words (descriptor_at (page_of (place_in (get_or words (lane_block_at lane) 0)))) 0) (get_or words (mark_at (place_in (get_or words (lane_block_at lane) 0))) 0)

  op_in : lane_op_at lane < length words
  op_in = omega (arith, lt, lanes)

  -- the last words are those of a lane that is idle
  at_end : (image : List ℕ) → length image ≡ length words → set image (lane_op_at lane) 0 ≡ mended_lane lane words → Has (set image (lane_op_at lane) 0)
  at_end image size is = mended-idle lane (set image (lane_op_at lane) 0) (get_or-set_same image (lane_op_at lane) 0 0 (subst (λ (n : ℕ). lane_op_at lane < n) (sym size) op_in)) ∙ is

  pub done_mends : get_or words (lane_op_at lane) 0 ≡ 1 → get_or words owner 0 ≡ pointer → Mends words lane (one_store (lane_op_at lane) 0 ∷ [])
  done_mends one owned =
      let ends : set words (lane_op_at lane) 0 ≡ mended_lane lane words = sym (mended-is lane words 1 dest pointer one refl refl
      ∙ ap (λ (ws : List ℕ). set ws (lane_op_at lane) 0) (cond-true (eqb (get_or words owner 0) pointer) words _ (eq-eqb _ _ owned))) in
      record {
        within = ((op_in, tt), tt);
        mends = ends;
        cuts = (cut-one_store Has (lane_op_at lane) 0 words refl (at_end words refl ends), at_end words refl ends);
      }

  module _ (mark : HasMark (length words) lane block) where
    -- the words with the block released
    abbrev freed_words : List ℕ
    freed_words = set words (mark_at block) clear

    mark_kept : (place : ℕ) → place ≢ mark_at block → get_or freed_words place 0 ≡ get_or words place 0
    mark_kept place apart = get_or-set_other words (mark_at block) place clear 0 apart

    pub undone_mends : get_or words (lane_op_at lane) 0 ≡ 1 → get_or words owner 0 ≢ pointer → Mends words lane (release_part words block ∷ one_store (lane_op_at lane) 0 ∷ [])
    undone_mends one apart = record {
      within = ((mark.within, tt), ((op_in, tt), tt));
      mends = ends;
      cuts = (
        cut-one_store Has (mark_at block) clear words refl half,
        (cut-one_store Has (lane_op_at lane) 0 freed_words half last, last),
      );
    }
      where
        ends : set freed_words (lane_op_at lane) 0 ≡ mended_lane lane words
        ends = sym (mended-is lane words 1 dest pointer one refl refl
            ∙ ap (λ (ws : List ℕ). set ws (lane_op_at lane) 0) (cond-false (eqb (get_or words owner 0) pointer) words _ (ne_eqb _ _ apart)))

        last : Has (set freed_words (lane_op_at lane) 0)
        last = at_end freed_words (length-set words (mark_at block) clear) ends

        again : released block freed_words ≡ freed_words
        again = released-again words freed_words block (⊎_elim (λ big. inl big) (λ two. inr (mark_kept _ two)) mark.two_words) (get_or-set_same words (mark_at block) clear 0 mark.within)

        undone_is : (owned : Bool) → cond owned freed_words (released block freed_words) ≡ freed_words
        undone_is true = refl
        undone_is false = again

        half : Has freed_words
        half =
            mended-is lane freed_words 1 dest pointer (mark_kept _ (λ e. mark.outside.0 (sym e)) ∙ one) (mark_kept _ (λ e. mark.outside.1 (sym e))) (mark_kept _ (λ e. mark.outside.2 (sym e)))
            ∙ ap (λ (ws : List ℕ). set ws (lane_op_at lane) 0) (undone_is (eqb (get_or freed_words owner 0) pointer))
            ∙ ends

    module _ (owner_in : owner < length words) (owner_outside : IsOutsideLane lane owner) (no_mark : owner ≢ mark_at block) (no_descriptor : owner ≢ descriptor_at (page_of block)) where
      -- the words without an owner, and then without the block
      abbrev disowned : List ℕ
      disowned = set words owner 0

      abbrev unmarked_words : List ℕ
      unmarked_words = set (set words owner 0) (mark_at block) clear

      owner_kept : (place : ℕ) → place ≢ owner → get_or disowned place 0 ≡ get_or words place 0
      owner_kept place apart = get_or-set_other words owner place 0 0 apart

      both_kept : (place : ℕ) → place ≢ owner → place ≢ mark_at block → get_or unmarked_words place 0 ≡ get_or words place 0
      both_kept place apart other = get_or-set_other disowned (mark_at block) place clear 0 other ∙ owner_kept place apart

      mark_in : mark_at block < length disowned
      mark_in = subst (λ (n : ℕ). mark_at block < n) (sym (length-set words owner 0)) mark.within

      released_is : released block disowned ≡ unmarked_words
      released_is = ap (set disowned (mark_at block))
          (ap (λ (d : ℕ). unmarked block d (get_or disowned (mark_at block) 0)) (owner_kept _ (λ e. no_descriptor (sym e)))
          ∙ ap (unmarked block (get_or words (descriptor_at (page_of block)) 0)) (owner_kept _ (λ e. no_mark (sym e))))

      still_released : released block unmarked_words ≡ unmarked_words
      still_released = released-again words unmarked_words block (⊎_elim (λ big. inl big) (λ two. inr (both_kept _ (λ e. no_descriptor (sym e)) two)) mark.two_words)
          (get_or-set_same disowned (mark_at block) clear 0 mark_in)

      -- a word without an owner stays so
      still_none : (image : List ℕ) → get_or image owner 0 ≡ 0 → set image owner 0 ≡ image
      still_none image none = ap (set image owner) (sym none) ∙ set-get_or image owner 0

      owner_none : get_or disowned owner 0 ≡ 0
      owner_none = get_or-set_same words owner 0 0 owner_in

      pub freeing_mends : get_or words (lane_op_at lane) 0 ≡ 2 → Mends words lane (one_store owner 0 ∷ release_part words block ∷ one_store (lane_op_at lane) 0 ∷ [])
      freeing_mends two = record {
        within = ((owner_in, tt), ((mark.within, tt), ((op_in, tt), tt)));
        mends = ends;
        cuts = (
          cut-one_store Has owner 0 words refl first,
          (
            cut-one_store Has (mark_at block) clear disowned first second,
            (cut-one_store Has (lane_op_at lane) 0 unmarked_words second last, last),
          ),
        );
      }
        where
          ends : set unmarked_words (lane_op_at lane) 0 ≡ mended_lane lane words
          ends = sym (mended-is lane words 2 dest pointer two refl refl ∙ ap (λ (ws : List ℕ). set ws (lane_op_at lane) 0) released_is)

          last : Has (set unmarked_words (lane_op_at lane) 0)
          last = at_end unmarked_words (length-set disowned (mark_at block) clear ∙ length-set words owner 0) ends

          first : Has disowned
          first =
              mended-is lane disowned 2 dest pointer (owner_kept _ (λ e. owner_outside.0 (sym e)) ∙ two) (owner_kept _ (λ e. owner_outside.1 (sym e))) (owner_kept _ (λ e. owner_outside.2 (sym e)))
              ∙ ap (λ (ws : List ℕ). set (released block ws) (lane_op_at lane) 0) (still_none disowned owner_none)
              ∙ ap (λ (ws : List ℕ). set ws (lane_op_at lane) 0) released_is ∙ ends

          second : Has unmarked_words
          second =
              mended-is lane unmarked_words 2 dest pointer
              (both_kept _ (λ e. owner_outside.0 (sym e)) (λ e. mark.outside.0 (sym e)) ∙ two)
              (both_kept _ (λ e. owner_outside.1 (sym e)) (λ e. mark.outside.1 (sym e)))
              (both_kept _ (λ e. owner_outside.2 (sym e)) (λ e. mark.outside.2 (sym e)))
              ∙ ap (λ (ws : List ℕ). set (released block ws) (lane_op_at lane) 0) (still_none unmarked_words (get_or-set_other disowned (mark_at block) owner clear 0 no_mark ∙ owner_none))
              ∙ ap (λ (ws : List ℕ). set ws (lane_op_at lane) 0) still_released ∙ ends

-- ── an owner's word ──

pub owner_outside : (words : List ℕ) (lane owner : ℕ) → lane < 16 → IsOwnerPlace words owner → IsOutsideLane lane owner
owner_outside words lane owner lt is = (
  λ e. ⊎_elim (λ low. omega (arith, e, low)) (λ high. omega (arith, e, high, lt)) is.outside_lanes,
  λ e. ⊎_elim (λ low. omega (arith, e, low)) (λ high. omega (arith, e, high, lt)) is.outside_lanes,
  λ e. ⊎_elim (λ low. omega (arith, e, low)) (λ high. omega (arith, e, high, lt)) is.outside_lanes,
)

pub owner_no_mark : (words : List ℕ) (owner block : ℕ) → IsOwnerPlace words owner → (block % 512 ≢ 0 → is_slot words block ≡ true) → owner ≢ mark_at block
owner_no_mark words owner block is slot e = ⊎_elim big small (cases_Bool (is_big_place block))
  where
    big : is_big_place block ≡ true → ⊥
    big b = let mark_is : mark_at block ≡ descriptor_at (page_of block) = cond-true (is_big_place block) _ _ b in omega (arith, e, mark_is, is.no_descriptor)

    small : is_big_place block ≡ false → ⊥
    small b =
        let mark_is : mark_at block ≡ page_at (page_of block) = cond-false (is_big_place block) _ _ b in
        let in_page = and_parts (is_small_page words (page_of block)) _ (and_parts (is_small_page words (page_of block) && ltb (slot_in (class_of words (page_of block)) block) (slots_of (class_of words (page_of block)))) _ (slot (eqb-false (block % 512) 0 b))).0 in
        is.no_bitmap (ap (is_small_page words) (omega (arith, e, mark_is)) ∙ in_page.0) (omega (arith, e, mark_is))

-- ── each lane ──

-- whatever the stores are
abbrev pub Any : ℕ → ℕ → Type 0
Any place value = Unit {0}

-- An idle lane, or one that allocates, is mended by its parts whatever else the words are.
pub allocating_mends : (words : List ℕ) (lane : ℕ) → get_or words (lane_op_at lane) 0 ≤ 1 → after_mending (lane_mending lane) words ≡ mended_lane lane words
allocating_mends words lane low = ⊎_elim
    (λ zero_op. ap (λ (parts : List Part). finished (needed_parts words parts) words) (mending-idle words lane zero_op) ∙ sym (mended-idle lane words zero_op))
    (λ some. by_owner (omega (arith, low, some)))
    (cases_eq (get_or words (lane_op_at lane) 0) 0)
  where
    by_owner : get_or words (lane_op_at lane) 0 ≡ 1 → after_mending (lane_mending lane) words ≡ mended_lane lane words
    by_owner one = ⊎_elim
        (λ owned. ap (λ (parts : List Part). finished (needed_parts words parts) words) (mending-done words lane one owned)
        ∙ needed-finished Any (one_store (lane_op_at lane) 0 ∷ []) words ((tt, tt), tt)
        ∙ sym (mended-is lane words 1 (get_or words (lane_dest_at lane) 0) (get_or words (lane_block_at lane) 0) one refl refl
        ∙ ap (λ (ws : List ℕ). set ws (lane_op_at lane) 0) (cond-true (eqb (get_or words (owner_of words lane) 0) (get_or words (lane_block_at lane) 0)) words _ (eq-eqb _ _ owned))))
        (λ apart. ap (λ (parts : List Part). finished (needed_parts words parts) words) (mending-undone words lane one apart)
        ∙ needed-finished Any (release_part words (block_of words lane) ∷ one_store (lane_op_at lane) 0 ∷ []) words ((tt, tt), ((tt, tt), tt))
        ∙ sym (mended-is lane words 1 (get_or words (lane_dest_at lane) 0) (get_or words (lane_block_at lane) 0) one refl refl
        ∙ ap (λ (ws : List ℕ). set ws (lane_op_at lane) 0) (cond-false (eqb (get_or words (owner_of words lane) 0) (get_or words (lane_block_at lane) 0)) words _ (ne_eqb _ _ apart))))
        (cases_eq (get_or words (owner_of words lane) 0) (get_or words (lane_block_at lane) 0))

pub work_mends : (words : List ℕ) (lane : ℕ) → MayMend words lane → AtWork words lane → Mends words lane (lane_mending lane words)
work_mends words lane may work = ⊎_elim allocating freeing work.op
  where
    inside : place_in (get_or words (lane_block_at lane) 0) < length words
    inside = (pointer_parts words _ (block_pointer words _ work.block)).1

    mark : HasMark (length words) lane (place_in (get_or words (lane_block_at lane) 0))
    mark = has_mark (length words) lane _ may.lane_is inside (block_page words _ work.block)

    allocating : get_or words (lane_op_at lane) 0 ≡ 1 → Mends words lane (lane_mending lane words)
    allocating one = ⊎_elim
        (λ owned. subst (Mends words lane) (sym (mending-done words lane one owned)) (done_mends words lane may.lane_is may.lanes one owned))
        (λ apart. subst (Mends words lane) (sym (mending-undone words lane one apart)) (undone_mends words lane may.lane_is may.lanes mark one apart))
        (cases_eq (get_or words (place_in (get_or words (lane_dest_at lane) 0)) 0) (get_or words (lane_block_at lane) 0))

    freeing : get_or words (lane_op_at lane) 0 ≡ 2 → Mends words lane (lane_mending lane words)
    freeing two =
        let owner_is = may.owner_is two in
        subst (Mends words lane) (sym (mending-freeing words lane two)) (freeing_mends words lane may.lane_is may.lanes mark owner_is.in_image
        (owner_outside words lane _ may.lane_is owner_is) (owner_no_mark words _ _ owner_is (block_slot words _ work.block)) (λ e. omega (arith, e, owner_is.no_descriptor)) two)

-- the parts that opening plays for a lane
abbrev pub lane_step : List ℕ → ℕ → List Part
lane_step words lane = needed_parts words (lane_mending lane words)

pub step-idle : (words : List ℕ) (lane : ℕ) → get_or words (lane_op_at lane) 0 ≡ 0 → lane_step words lane ≡ []
step-idle words lane is = ap (needed_parts words) (mending-idle words lane is)

module _ (words : List ℕ) (lane : ℕ) (may : MayMend words lane) where
  by_op : (P : Type 0) → (get_or words (lane_op_at lane) 0 ≡ 0 → lane_step words lane ≡ [] → P) → (Mends words lane (lane_mending lane words) → AtWork words lane → P) → P
  by_op P idle_is busy = ⊎_elim
      (λ zero_op. idle_is zero_op (step-idle words lane zero_op))
      (λ some. let work = at_work words may.rules lane may.lane_is some in busy (work_mends words lane may work) work)
      (cases_eq (get_or words (lane_op_at lane) 0) 0)

  pub lane_plan : IsPlan (length words) (lane_step words lane)
  lane_plan = by_op _ (λ zero_op none. subst (IsPlan (length words)) (sym none) tt) (λ mends work. needed-plan (length words) (lane_mending lane words) words mends.within)

  pub lane_mends : after_mending (lane_mending lane) words ≡ mended_lane lane words
  lane_mends = by_op _
      (λ zero_op none. ap (λ (parts : List Part). finished parts words) none ∙ sym (mended-idle lane words zero_op))
      (λ mends work. needed-finished (λ place value. place < length words) (lane_mending lane words) words mends.within ∙ mends.mends)

  pub lane_cuts : EachCut (λ image. mended_lane lane image ≡ mended_lane lane words) (lane_step words lane) words
  lane_cuts = by_op _
      (λ zero_op none. subst (λ (parts : List Part). EachCut (λ image. mended_lane lane image ≡ mended_lane lane words) parts words) (sym none) refl)
      (λ mends work. needed-cuts (λ image. mended_lane lane image ≡ mended_lane lane words) (λ place value. place < length words) (lane_mending lane words) words mends.within mends.cuts)

  pub lane_idle : get_or (mended_lane lane words) (lane_op_at lane) 0 ≡ 0
  lane_idle = by_op _
      (λ zero_op none. ap (λ (ws : List ℕ). get_or ws (lane_op_at lane) 0) (mended-idle lane words zero_op) ∙ zero_op)
      (λ mends work. ap (λ (ws : List ℕ). get_or ws (lane_op_at lane) 0) (sym mends.mends) ∙ ended-idle words lane work (omega (arith, may.lane_is, may.lanes)))

-- a lane at work has something to mend
pub some-at_work : (words : List ℕ) (lane : ℕ) → AtWork words lane → lane_op_at lane < length words → get_or words (lane_op_at lane) 0 ≢ 0 → lane_step words lane ≢ []
some-at_work words lane work within some none =
    let same : finished (lane_mending lane words) words ≡ words = sym (needed-finished Any (lane_mending lane words) words stores) ∙ ap (λ (parts : List Part). finished parts words) none in
    some (sym (ap (λ (ws : List ℕ). get_or ws (lane_op_at lane) 0) same) ∙ ended-idle words lane work within)
  where
    stores : StoresOfParts Any (lane_mending lane words)
    stores = ⊎_elim
        (λ one. ⊎_elim (λ owned. subst (StoresOfParts Any) (sym (mending-done words lane one owned)) ((tt, tt), tt)) (λ apart. subst (StoresOfParts Any) (sym (mending-undone words lane one apart)) ((tt, tt), ((tt, tt), tt)))
        (cases_eq (get_or words (owner_of words lane) 0) (get_or words (lane_block_at lane) 0)))
        (λ two. subst (StoresOfParts Any) (sym (mending-freeing words lane two)) ((tt, tt), ((tt, tt), ((tt, tt), tt))))
        work.op
