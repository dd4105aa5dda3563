-- The stages of an allocation or freeing, and what mending its lane makes of each.
use Rattle.std.proofs.Common.{◌≡◌, ◌≢◌, ◌⊎◌, ⊎_elim, ℕ, ◌<◌, eqb, List, length, get_or, set, refl, sym, ◌∙◌, ap, subst, arith}
use Rattle.std.proofs.lemmas.List.{get_or-set_same, get_or-set_other, length-set}
use Rattle.std.proofs.lemmas.Bool.{cases_eq, eq-eqb, ne_eqb, cond-true, cond-false}
use Rattle.image_layout.specs.Fixed.{descriptor_at, lane_op_at, lane_dest_at, lane_block_at}
use Rattle.image_layout.specs.Pointer.{pointer_word}
use Rattle.image_layout.specs.Places.{page_of, place_in}
use Rattle.heap_palloc.specs.Lane.{is_big_place, mark_at, unmarked, released, undone, mended_by, mended_lane}
use Rattle.heap_palloc.specs.Parts.{Allocation}
use Rattle.heap_palloc.specs.Shown.{IsOutsideLane, SameButLane, IsAt, IsPlaced, IsClearMark}
use Rattle.pm_model.proofs.Words.{ext_words}

-- a pointer names its place
pub place_in-pointer : (place : ℕ) → place_in (pointer_word place) ≡ place
place_in-pointer place = omega arith

-- and isn't null
pub pointer-some : (place : ℕ) → pointer_word place ≢ 0
pointer-some place e = omega arith

-- ── mending, by what the lane is at work on ──

pub mended-idle : (lane : ℕ) (words : List ℕ) → get_or words (lane_op_at lane) 0 ≡ 0 → mended_lane lane words ≡ words
unfolding mended_lane
mended-idle lane words idle = ap (λ (op : ℕ). mended_by lane op (place_in (get_or words (lane_dest_at lane) 0)) (get_or words (lane_block_at lane) 0) words) idle

module _ (base : List ℕ) (a : Allocation) where
  pub mended-at : (op mark owner : ℕ) (words : List ℕ) → IsAt base a op mark owner words → mended_lane a.lane words ≡ mended_by a.lane op a.owner (pointer_word a.block) words
  unfolding mended_lane
  mended-at op mark owner words at =
      ap (λ (n : ℕ). mended_by a.lane n (place_in (get_or words (lane_dest_at a.lane) 0)) (get_or words (lane_block_at a.lane) 0) words) at.op_is
      ∙ ap (λ (p : ℕ). mended_by a.lane op (place_in p) (get_or words (lane_block_at a.lane) 0) words) at.lane_owner
      ∙ ap (λ (p : ℕ). mended_by a.lane op p (get_or words (lane_block_at a.lane) 0) words) (place_in-pointer a.owner)
      ∙ ap (λ (p : ℕ). mended_by a.lane op a.owner p words) at.lane_block

module _ (base : List ℕ) (a : Allocation) (placed : IsPlaced (length base) a) where
  -- ── a store in one of the words of an allocation ──

  op_in : lane_op_at a.lane < length base
  op_in = let l = placed.lane in let s = placed.lanes in omega (arith, l, s)

  pub at-op : (op mark owner value : ℕ) (words : List ℕ) → IsAt base a op mark owner words → IsAt base a value mark owner (set words (lane_op_at a.lane) value)
  at-op op mark owner value words at = record {
    size = length-set words (lane_op_at a.lane) value ∙ at.size;
    op_is = get_or-set_same words (lane_op_at a.lane) value 0 (subst (λ (n : ℕ). lane_op_at a.lane < n) (sym at.size) op_in);
    lane_owner = get_or-set_other words (lane_op_at a.lane) (lane_dest_at a.lane) value 0 (λ e. omega (arith, e)) ∙ at.lane_owner;
    lane_block = get_or-set_other words (lane_op_at a.lane) (lane_block_at a.lane) value 0 (λ e. omega (arith, e)) ∙ at.lane_block;
    mark_is = get_or-set_other words (lane_op_at a.lane) (mark_at a.block) value 0 placed.mark_outside.0 ∙ at.mark_is;
    owner_is = get_or-set_other words (lane_op_at a.lane) a.owner value 0 placed.owner_outside.0 ∙ at.owner_is;
    others = λ w out m o. get_or-set_other words (lane_op_at a.lane) w value 0 out.0 ∙ at.others w out m o;
  }

  pub at-mark : (op mark owner value : ℕ) (words : List ℕ) → IsAt base a op mark owner words → IsAt base a op value owner (set words (mark_at a.block) value)
  at-mark op mark owner value words at = record {
    size = length-set words (mark_at a.block) value ∙ at.size;
    op_is = get_or-set_other words (mark_at a.block) (lane_op_at a.lane) value 0 (λ e. placed.mark_outside.0 (sym e)) ∙ at.op_is;
    lane_owner = get_or-set_other words (mark_at a.block) (lane_dest_at a.lane) value 0 (λ e. placed.mark_outside.1 (sym e)) ∙ at.lane_owner;
    lane_block = get_or-set_other words (mark_at a.block) (lane_block_at a.lane) value 0 (λ e. placed.mark_outside.2 (sym e)) ∙ at.lane_block;
    mark_is = get_or-set_same words (mark_at a.block) value 0 (subst (λ (n : ℕ). mark_at a.block < n) (sym at.size) placed.mark);
    owner_is = get_or-set_other words (mark_at a.block) a.owner value 0 placed.mark_apart ∙ at.owner_is;
    others = λ w out m o. get_or-set_other words (mark_at a.block) w value 0 m ∙ at.others w out m o;
  }

  pub at-owner : (op mark owner value : ℕ) (words : List ℕ) → IsAt base a op mark owner words → IsAt base a op mark value (set words a.owner value)
  at-owner op mark owner value words at = record {
    size = length-set words a.owner value ∙ at.size;
    op_is = get_or-set_other words a.owner (lane_op_at a.lane) value 0 (λ e. placed.owner_outside.0 (sym e)) ∙ at.op_is;
    lane_owner = get_or-set_other words a.owner (lane_dest_at a.lane) value 0 (λ e. placed.owner_outside.1 (sym e)) ∙ at.lane_owner;
    lane_block = get_or-set_other words a.owner (lane_block_at a.lane) value 0 (λ e. placed.owner_outside.2 (sym e)) ∙ at.lane_block;
    mark_is = get_or-set_other words a.owner (mark_at a.block) value 0 (λ e. placed.mark_apart (sym e)) ∙ at.mark_is;
    owner_is = get_or-set_same words a.owner value 0 (subst (λ (n : ℕ). a.owner < n) (sym at.size) placed.owner);
    others = λ w out m o. get_or-set_other words a.owner w value 0 o ∙ at.others w out m o;
  }

  -- the lane gets its words, with its op and the two words of the block as they are
  pub at-begin : (mark owner : ℕ) → get_or base (lane_op_at a.lane) 0 ≡ 0 → get_or base (mark_at a.block) 0 ≡ mark → get_or base a.owner 0 ≡ owner
      → IsAt base a 0 mark owner (set (set base (lane_dest_at a.lane) (pointer_word a.owner)) (lane_block_at a.lane) (pointer_word a.block))
  at-begin mark owner idle is_mark is_owner = record {
    size = length-set (set base (lane_dest_at a.lane) (pointer_word a.owner)) (lane_block_at a.lane) (pointer_word a.block) ∙ length-set base (lane_dest_at a.lane) (pointer_word a.owner);
    op_is = both (lane_op_at a.lane) (λ e. omega (arith, e)) (λ e. omega (arith, e)) ∙ idle;
    lane_owner = get_or-set_other (set base (lane_dest_at a.lane) (pointer_word a.owner)) (lane_block_at a.lane) (lane_dest_at a.lane) (pointer_word a.block) 0 (λ e. omega (arith, e))
        ∙ get_or-set_same base (lane_dest_at a.lane) (pointer_word a.owner) 0 (let l = placed.lane in let s = placed.lanes in omega (arith, l, s));
    lane_block = get_or-set_same (set base (lane_dest_at a.lane) (pointer_word a.owner)) (lane_block_at a.lane) (pointer_word a.block) 0
        (let l = placed.lane in let s = placed.lanes in let n = length-set base (lane_dest_at a.lane) (pointer_word a.owner) in omega (arith, l, s, n));
    mark_is = both (mark_at a.block) placed.mark_outside.1 placed.mark_outside.2 ∙ is_mark;
    owner_is = both a.owner placed.owner_outside.1 placed.owner_outside.2 ∙ is_owner;
    others = λ w out m o. both w out.1 out.2;
  }
    where
      both : (w : ℕ) → w ≢ lane_dest_at a.lane → w ≢ lane_block_at a.lane
          → get_or (set (set base (lane_dest_at a.lane) (pointer_word a.owner)) (lane_block_at a.lane) (pointer_word a.block)) w 0 ≡ get_or base w 0
      both w x y = get_or-set_other (set base (lane_dest_at a.lane) (pointer_word a.owner)) (lane_block_at a.lane) w (pointer_word a.block) 0 y ∙ get_or-set_other base (lane_dest_at a.lane) w (pointer_word a.owner) 0 x

  -- ── what a stage says of the words ──

  by_place : (P : ℕ → Type 0) → P (lane_op_at a.lane) → P (lane_dest_at a.lane) → P (lane_block_at a.lane) → P (mark_at a.block) → P a.owner
      → ((w : ℕ) → IsOutsideLane a.lane w → w ≢ mark_at a.block → w ≢ a.owner → P w) → (w : ℕ) → P w
  by_place P op lane_owner lane_block mark owner others w =
      is (lane_op_at a.lane) op (λ x. is (lane_dest_at a.lane) lane_owner (λ y. is (lane_block_at a.lane) lane_block (λ z.
      is (mark_at a.block) mark (λ m. is a.owner owner (λ o. others w (x, y, z) m o)))))
    where
      is : (place : ℕ) → P place → (w ≢ place → P w) → P w
      is place here elsewhere = ⊎_elim (λ (e : w ≡ place). subst P (sym e) here) elsewhere (cases_eq w place)

  -- a stage settles the words
  pub at-same : (op mark owner : ℕ) (xs ys : List ℕ) → IsAt base a op mark owner xs → IsAt base a op mark owner ys → xs ≡ ys
  at-same op mark owner xs ys at_xs at_ys = ext_words xs ys (at_xs.size ∙ sym at_ys.size) (by_place (λ w. get_or xs w 0 ≡ get_or ys w 0)
      (at_xs.op_is ∙ sym at_ys.op_is) (at_xs.lane_owner ∙ sym at_ys.lane_owner) (at_xs.lane_block ∙ sym at_ys.lane_block) (at_xs.mark_is ∙ sym at_ys.mark_is) (at_xs.owner_is ∙ sym at_ys.owner_is)
      (λ w out m o. at_xs.others w out m o ∙ sym (at_ys.others w out m o)))

  -- where the words of the block are as in the base, all are but the lane's
  pub at-base : (op mark owner : ℕ) (words : List ℕ) → get_or base (lane_op_at a.lane) 0 ≡ op → get_or base (mark_at a.block) 0 ≡ mark → get_or base a.owner 0 ≡ owner
      → IsAt base a op mark owner words → SameButLane a.lane base words
  at-base op mark owner words is_op is_mark is_owner at = record {
    size = at.size;
    each = by_place (λ w. w ≢ lane_dest_at a.lane → w ≢ lane_block_at a.lane → get_or words w 0 ≡ get_or base w 0)
        (λ x y. at.op_is ∙ sym is_op) (λ x y. absurd (x refl)) (λ x y. absurd (y refl)) (λ x y. at.mark_is ∙ sym is_mark) (λ x y. at.owner_is ∙ sym is_owner)
        (λ w out m o x y. at.others w out m o);
  }

  -- ── mending a stage ──

  module _ (clear : ℕ) (is_clear : IsClearMark base a clear) where
    -- the block is released: its mark is clear
    pub at-released : (op mark owner : ℕ) (words : List ℕ) → (mark ≡ clear) ⊎ (mark ≡ a.marked) → IsAt base a op mark owner words → IsAt base a op clear owner (released (place_in (pointer_word a.block)) words)
    at-released op mark owner words either at =
        subst (λ (block : ℕ). IsAt base a op clear owner (released block words)) (sym (place_in-pointer a.block))
        (subst (λ (value : ℕ). IsAt base a op clear owner (set words (mark_at a.block) value)) (sym value_is) (at-mark op mark owner clear words at))
      where
        descriptor_is : (m : ℕ) → unmarked a.block (get_or words (descriptor_at (page_of a.block)) 0) m ≡ unmarked a.block (get_or base (descriptor_at (page_of a.block)) 0) m
        descriptor_is m = ⊎_elim
            (λ big. cond-true (is_big_place a.block) 0 _ big ∙ sym (cond-true (is_big_place a.block) 0 _ big))
            (λ apart. ap (λ (d : ℕ). unmarked a.block d m) (at.others (descriptor_at (page_of a.block)) placed.descriptor_outside apart (λ e. placed.descriptor_apart (sym e))))
            placed.two_words

        value_is : unmarked a.block (get_or words (descriptor_at (page_of a.block)) 0) (get_or words (mark_at a.block) 0) ≡ clear
        value_is = descriptor_is (get_or words (mark_at a.block) 0) ∙ ap (unmarked a.block (get_or base (descriptor_at (page_of a.block)) 0)) at.mark_is
            ∙ ⊎_elim (λ (e : mark ≡ clear). ap (unmarked a.block (get_or base (descriptor_at (page_of a.block)) 0)) e ∙ is_clear.again)
            (λ (e : mark ≡ a.marked). ap (unmarked a.block (get_or base (descriptor_at (page_of a.block)) 0)) e ∙ is_clear.set) either

    -- an allocation whose owner hasn't got the block is undone
    pub mended-undone : (mark owner : ℕ) (words : List ℕ) → (mark ≡ clear) ⊎ (mark ≡ a.marked) → owner ≢ pointer_word a.block → IsAt base a 1 mark owner words → IsAt base a 0 clear owner (mended_lane a.lane words)
    mended-undone mark owner words either apart at =
        subst (λ (xs : List ℕ). IsAt base a 0 clear owner xs) (sym (mended-at base a 1 mark owner words at ∙ ap (λ (xs : List ℕ). set xs (lane_op_at a.lane) 0) undone_is))
        (at-op 1 clear owner 0 (released (place_in (pointer_word a.block)) words) (at-released 1 mark owner words either at))
      where
        undone_is : undone a.owner (pointer_word a.block) words ≡ released (place_in (pointer_word a.block)) words
        undone_is = cond-false (eqb (get_or words a.owner 0) (pointer_word a.block)) words _ (ne_eqb (get_or words a.owner 0) (pointer_word a.block) (λ e. apart (sym at.owner_is ∙ e)))

    -- a freeing is done
    pub mended-freed : (mark owner : ℕ) (words : List ℕ) → (mark ≡ clear) ⊎ (mark ≡ a.marked) → IsAt base a 2 mark owner words → IsAt base a 0 clear 0 (mended_lane a.lane words)
    mended-freed mark owner words either at =
        subst (λ (xs : List ℕ). IsAt base a 0 clear 0 xs) (sym (mended-at base a 2 mark owner words at))
        (at-op 2 clear 0 0 (released (place_in (pointer_word a.block)) (set words a.owner 0)) (at-released 2 mark 0 (set words a.owner 0) either (at-owner 2 mark owner 0 words at)))

  -- an allocation whose owner has the block is done
  pub mended-done : (mark owner : ℕ) (words : List ℕ) → owner ≡ pointer_word a.block → IsAt base a 1 mark owner words → IsAt base a 0 mark owner (mended_lane a.lane words)
  mended-done mark owner words same at =
      subst (λ (xs : List ℕ). IsAt base a 0 mark owner xs) (sym (mended-at base a 1 mark owner words at ∙ ap (λ (xs : List ℕ). set xs (lane_op_at a.lane) 0) undone_is))
      (at-op 1 mark owner 0 words at)
    where
      undone_is : undone a.owner (pointer_word a.block) words ≡ words
      undone_is = cond-true (eqb (get_or words a.owner 0) (pointer_word a.block)) words _ (eq-eqb (get_or words a.owner 0) (pointer_word a.block) (at.owner_is ∙ same))
