-- The freeing of the block that a word names: its changes, and the slot of a table that was being created.
use Rattle.std.proofs.Common.{◌≡◌, ◌≢◌, ◌⊎◌, ⊎_elim, ℕ, ◌-◌, ◌%◌, Bool, true, false, ◌&&◌, cond, eqb, ltb, List, [], ◌∷◌, ◌++◌, get_or, take, drop, sym, ◌∙◌, ap, arith}
use Rattle.std.proofs.lemmas.Bool.{eqb-true, eq-eqb, ne_eqb, and_parts, cond-true, cond-false}
use Rattle.pm_model.specs.declared.action.Action.{Action}
use Rattle.image_layout.specs.Fixed.{descriptor_at, lane_op_at, lane_dest_at, lane_block_at}
use Rattle.image_layout.specs.Pointer.{pointer_word}
use Rattle.image_layout.specs.Places.{page_of, page_at, place_in}
use Rattle.pm_model.specs.Plans.{Part, one_store, store, plan_of}
use Rattle.pm_model.specs.Needed.{needed_parts}
use Rattle.image_layout.specs.Blocks.{bitmap_of, class_of, descriptor_of, slot_at, slot_in, slots_of, is_small_page, is_block_pointer}
use Rattle.heap_small.specs.Bitmap.{without_bit}
use Rattle.heap_palloc.specs.Lane.{is_big_place, mark_at, unmarked}
use Rattle.heap_palloc.specs.Parts.{freeing_parts, free_page_parts}
use Rattle.heap_palloc.specs.Choice.{freed_parts}
use Rattle.shown_state.specs.Mending.{free_block}
use Rattle.pmem_recover.specs.declared.change.WordChange.{WordChange}
use Rattle.pmem_recover.specs.Changes.{change, change_part, change_parts}
use Rattle.pmem_recover.specs.Lanes.{release}
use Rattle.shown_state.proofs.LaneMending.{pointer_parts, block_pointer, block_slot}

-- the changes of a freeing: the log of the lane, and then one by one
abbrev pub log_of : List ℕ → ℕ → List WordChange
log_of words at = change (lane_dest_at 0) (pointer_word at) ∷ change (lane_block_at 0) (get_or words at 0) ∷ []

abbrev pub later_of : List ℕ → ℕ → List WordChange
later_of words at = change (lane_op_at 0) 2 ∷ change at 0 ∷ release words (place_in (get_or words at 0)) ∷ change (lane_op_at 0) 0 ∷ []

abbrev pub page_of_block : List ℕ → ℕ → WordChange
page_of_block words at = change (descriptor_at (page_of (place_in (get_or words at 0)))) 0

module _ (words : List ℕ) (at : ℕ) (is : is_block_pointer words (get_or words at 0) ≡ true) where
  word_is : pointer_word (place_in (get_or words at 0)) ≡ get_or words at 0
  word_is = sym (pointer_parts words (get_or words at 0) (block_pointer words (get_or words at 0) is)).0

  -- a big block
  pub free-big : place_in (get_or words at 0) % 512 ≡ 0 → free_block words at ≡ change_part (log_of words at) ∷ change_parts (later_of words at)
  free-big big =
      let b = place_in (get_or words at 0) in
      let test : is_big_place b ≡ true = eq-eqb (b % 512) 0 big in
      let here : page_at (page_of b) ≡ b = omega (arith, big) in
      ap (freed_parts words) (cond-true (is_big_place b) _ _ test)
      ∙ ap (λ (k : ℕ). freeing_parts (record { lane = 0; owner = at; block = k; marked = 0 }) 0) here
      ∙ ap (λ (w : ℕ). (store (lane_dest_at 0) (pointer_word at) ∷ store (lane_block_at 0) w ∷ []) ∷ one_store (lane_op_at 0) 2 ∷ one_store at 0 ∷ one_store (mark_at b) 0 ∷ one_store (lane_op_at 0) 0 ∷ []) word_is
      ∙ ap (λ (v : ℕ). change_part (log_of words at) ∷ one_store (lane_op_at 0) 2 ∷ one_store at 0 ∷ one_store (mark_at b) v ∷ one_store (lane_op_at 0) 0 ∷ [])
      (sym (cond-true (is_big_place b) 0 (without_bit (get_or words (mark_at b) 0) (slot_in (descriptor_of words (page_of b) - 2) b)) test))

  -- a slot of a small page
  slot_is : place_in (get_or words at 0) % 512 ≢ 0 → slot_at (page_of (place_in (get_or words at 0))) (class_of words (page_of (place_in (get_or words at 0)))) (slot_in (class_of words (page_of (place_in (get_or words at 0)))) (place_in (get_or words at 0))) ≡ place_in (get_or words at 0)
  slot_is small =
      let b = place_in (get_or words at 0) in
      eqb-true _ b (and_parts (is_small_page words (page_of b) && ltb (slot_in (class_of words (page_of b)) b) (slots_of (class_of words (page_of b)))) _ (block_slot words (get_or words at 0) is small)).1

  pub free-small : place_in (get_or words at 0) % 512 ≢ 0
      → free_block words at ≡ change_part (log_of words at) ∷ (change_parts (later_of words at) ++ cond (eqb (release words (place_in (get_or words at 0))).value 0) (free_page_parts (page_of (place_in (get_or words at 0)))) [])
  free-small small =
      let b = place_in (get_or words at 0) in
      let page = page_of b in
      let slot = slot_in (class_of words page) b in
      let test : is_big_place b ≡ false = ne_eqb (b % 512) 0 small in
      let mark : mark_at b ≡ page_at page = cond-false (is_big_place b) (descriptor_at page) (page_at page) test in
      let clear = without_bit (bitmap_of words page) slot in
      let value : unmarked b (descriptor_of words page) (get_or words (mark_at b) 0) ≡ clear =
      cond-false (is_big_place b) 0 (without_bit (get_or words (mark_at b) 0) (slot_in (descriptor_of words page - 2) b)) test ∙ ap (λ (k : ℕ). without_bit (get_or words k 0) slot) mark in
      ap (freed_parts words) (cond-false (is_big_place b) _ _ test)
      ∙ ap (λ (k : ℕ). freeing_parts (record { lane = 0; owner = at; block = k; marked = 0 }) clear ++ cond (eqb clear 0) (free_page_parts page) []) (slot_is small)
      ∙ ap (λ (w : ℕ). (store (lane_dest_at 0) (pointer_word at) ∷ store (lane_block_at 0) w ∷ []) ∷ one_store (lane_op_at 0) 2 ∷ one_store at 0 ∷ one_store (mark_at b) clear ∷ one_store (lane_op_at 0) 0 ∷ cond (eqb clear 0) (free_page_parts page) []) word_is
      ∙ ap (λ (v : ℕ). change_part (log_of words at) ∷ one_store (lane_op_at 0) 2 ∷ one_store at 0 ∷ one_store (mark_at b) v ∷ one_store (lane_op_at 0) 0 ∷ cond (eqb v 0) (free_page_parts page) []) (sym value)

-- a change by its place and value
pub change-is : (c : WordChange) (place value : ℕ) → c.place.0 ≡ place → c.value ≡ value → c ≡ change place value
change-is c place value at is = ap (λ (p : ℕ). change p c.value) at ∙ ap (change place) is

abbrev pub all_of : List ℕ → ℕ → List WordChange
all_of words at = change (lane_dest_at 0) (pointer_word at) ∷ change (lane_block_at 0) (get_or words at 0) ∷ change (lane_op_at 0) 2 ∷ change at 0 ∷ release words (place_in (get_or words at 0)) ∷ change (lane_op_at 0) 0 ∷ page_of_block words at ∷ []

-- the parts of the first changes, so many of them
abbrev pub parts_of_first : ℕ → List WordChange → List Part
parts_of_first count changes = change_part (take 2 (take count changes)) ∷ change_parts (drop 2 (take count changes))

module _ (words : List ℕ) (at : ℕ) (is : is_block_pointer words (get_or words at 0) ≡ true) where
  -- the page stays small: the block is big, or it isn't the page's last one
  pub first-six : (count : ℕ) → count ≡ 6 → (place_in (get_or words at 0) % 512 ≡ 0) ⊎ ((place_in (get_or words at 0) % 512 ≢ 0) × ((release words (place_in (get_or words at 0))).value ≢ 0)) → free_block words at ≡ parts_of_first count (all_of words at)
  first-six count six kind = ⊎_elim
      (λ big. free-big words at is big)
      (λ small. free-small words at is small.0
      ∙ ap (λ (b : Bool). change_part (log_of words at) ∷ (change_parts (later_of words at) ++ cond b (free_page_parts (page_of (place_in (get_or words at 0)))) [])) (ne_eqb _ 0 small.1))
      kind
      ∙ ap (λ (n : ℕ). parts_of_first n (all_of words at)) (sym six)

  -- the page becomes free
  pub first-seven : (count : ℕ) → count ≡ 7 → place_in (get_or words at 0) % 512 ≢ 0 → (release words (place_in (get_or words at 0))).value ≡ 0 → free_block words at ≡ parts_of_first count (all_of words at)
  first-seven count seven small clear = free-small words at is small
      ∙ ap (λ (b : Bool). change_part (log_of words at) ∷ (change_parts (later_of words at) ++ cond b (free_page_parts (page_of (place_in (get_or words at 0)))) [])) (eq-eqb _ 0 clear)
      ∙ ap (λ (n : ℕ). parts_of_first n (all_of words at)) (sym seven)

  pub freeing-planned : (changes : List WordChange) (count : ℕ) (before left : List Action) → changes ≡ all_of words at → free_block words at ≡ parts_of_first count (all_of words at) → before ≡ []
      → left ≡ before ++ plan_of (needed_parts words (parts_of_first count changes)) → left ≡ plan_of (needed_parts words (free_block words at))
  freeing-planned changes count before left changes_are parts_are empty left_is =
      left_is ∙ ap (λ (xs : List Action). xs ++ plan_of (needed_parts words (parts_of_first count changes))) empty
      ∙ ap (λ (cs : List WordChange). plan_of (needed_parts words (parts_of_first count cs))) changes_are
      ∙ ap (λ (ps : List Part). plan_of (needed_parts words ps)) (sym parts_are)

-- the changes as they were made
pub all-made : (words : List ℕ) (at block : ℕ) (c1 c2 c3 c4 c5 c6 c7 : WordChange) → block ≡ place_in (get_or words at 0)
    → c1 ≡ change (lane_dest_at 0) (pointer_word at) → c2 ≡ change (lane_block_at 0) (get_or words at 0) → c3 ≡ change (lane_op_at 0) 2 → c4 ≡ change at 0 → c5 ≡ release words block → c6 ≡ change (lane_op_at 0) 0 → c7 ≡ change (descriptor_at (page_of block)) 0
    → c1 ∷ c2 ∷ c3 ∷ c4 ∷ c5 ∷ c6 ∷ c7 ∷ [] ≡ all_of words at
all-made words at block c1 c2 c3 c4 c5 c6 c7 is e1 e2 e3 e4 e5 e6 e7 =
    ap (λ (c : WordChange). c ∷ c2 ∷ c3 ∷ c4 ∷ c5 ∷ c6 ∷ c7 ∷ []) e1
    ∙ ap (λ (c : WordChange). change (lane_dest_at 0) (pointer_word at) ∷ c ∷ c3 ∷ c4 ∷ c5 ∷ c6 ∷ c7 ∷ []) e2
    ∙ ap (λ (c : WordChange). log_of words at ++ c ∷ c4 ∷ c5 ∷ c6 ∷ c7 ∷ []) e3
    ∙ ap (λ (c : WordChange). log_of words at ++ change (lane_op_at 0) 2 ∷ c ∷ c5 ∷ c6 ∷ c7 ∷ []) e4
    ∙ ap (λ (c : WordChange). log_of words at ++ change (lane_op_at 0) 2 ∷ change at 0 ∷ c ∷ c6 ∷ c7 ∷ []) (e5 ∙ ap (release words) is)
    ∙ ap (λ (c : WordChange). log_of words at ++ change (lane_op_at 0) 2 ∷ change at 0 ∷ release words (place_in (get_or words at 0)) ∷ c ∷ c7 ∷ []) e6
    ∙ ap (λ (c : WordChange). log_of words at ++ change (lane_op_at 0) 2 ∷ change at 0 ∷ release words (place_in (get_or words at 0)) ∷ change (lane_op_at 0) 0 ∷ c ∷ []) (e7 ∙ ap (λ (b : ℕ). change (descriptor_at (page_of b)) 0) is)
