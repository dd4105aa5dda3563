-- An allocation and a freeing are atomic: mended, each image of them shows the words before or after.
use Rattle.std.proofs.Common.{◌≡◌, ◌≢◌, ◌⊎◌, inl, inr, ⊎_elim, ℕ, false, eqb, List, length, get_or, set, refl, sym, ◌∙◌, ap, subst, arith}
use Rattle.std.proofs.lemmas.Bool.{ne_eqb, or_from}
use Rattle.pm_model.specs.Device.{IsBetween}
use Rattle.pm_model.specs.Plans.{words_after, finished}
use Rattle.image_layout.specs.Pointer.{pointer_word}
use Rattle.pm_model.proofs.PlanLaw.{words_after-kept}
use Rattle.image_layout.specs.Fixed.{lane_op_at, lane_dest_at, lane_block_at}
use Rattle.heap_palloc.specs.Lane.{mark_at, mended_lane}
use Rattle.heap_palloc.specs.Parts.{Allocation, lane_part, allocation_parts, freeing_parts}
use Rattle.heap_palloc.specs.Shown.{SameButLane, IsAt, MayAllocate, MayFree, IsAtomic}
use Rattle.pm_model.proofs.Cuts.{cut-one_store}
use Rattle.heap_palloc.proofs.Stages.{pointer-some, mended-idle, at-op, at-mark, at-owner, at-begin, at-same, at-base, mended-undone, mended-freed, mended-done}

-- the same words are so but for a lane
pub same-lane : (lane : ℕ) (xs ys : List ℕ) → ys ≡ xs → SameButLane lane xs ys
same-lane lane xs ys e = record { size = ap (length {A = ℕ}) e; each = λ w x y. ap (λ (zs : List ℕ). get_or zs w 0) e }

-- until the lane is at work, an image differs from the words before in the lane alone
pub lane_part-same : (base : List ℕ) (a : Allocation) (image : List ℕ) → IsBetween base (words_after (lane_part a) base) image → SameButLane a.lane base image
lane_part-same base a image between = record {
  size = between.size;
  each = λ w x y. ⊎_elim (λ e. e) (λ e. e ∙ words_after-kept (lane_part a) base w
      (or_from (eqb w (lane_dest_at a.lane)) _ (ne_eqb w (lane_dest_at a.lane) x) (or_from (eqb w (lane_block_at a.lane)) false (ne_eqb w (lane_block_at a.lane) y) refl))) (between.each w);
}

-- so, mended, it has the words before
pub lane_part-cut : (base : List ℕ) (a : Allocation) → get_or base (lane_op_at a.lane) 0 ≡ 0 → (image : List ℕ) → IsBetween base (words_after (lane_part a) base) image → SameButLane a.lane base (mended_lane a.lane image)
lane_part-cut base a idle image between =
    let same = lane_part-same base a image between in
    subst (λ (xs : List ℕ). SameButLane a.lane base xs) (sym (mended-idle a.lane image (same.each (lane_op_at a.lane) (λ e. omega (arith, e)) (λ e. omega (arith, e)) ∙ idle))) same

module _ (base : List ℕ) (a : Allocation) where
  -- the words after each part
  abbrev begun : List ℕ
  begun = set (set base (lane_dest_at a.lane) (pointer_word a.owner)) (lane_block_at a.lane) (pointer_word a.block)

  abbrev logged : ℕ → List ℕ
  logged op = set begun (lane_op_at a.lane) op

  abbrev marked_words : List ℕ
  marked_words = set (logged 1) (mark_at a.block) a.marked

  abbrev owned_words : List ℕ
  owned_words = set marked_words a.owner (pointer_word a.block)

  abbrev allocated : List ℕ
  allocated = set owned_words (lane_op_at a.lane) 0

  abbrev disowned : List ℕ
  disowned = set (logged 2) a.owner 0

  abbrev cleared : ℕ → List ℕ
  cleared clear = set disowned (mark_at a.block) clear

  abbrev freed : ℕ → List ℕ
  freed clear = set (cleared clear) (lane_op_at a.lane) 0

  abbrev old_mark : ℕ
  old_mark = get_or base (mark_at a.block) 0

  -- mended, an image shows the words before or the last ones
  abbrev HalfDone : List ℕ → List ℕ → Type 0
  HalfDone last image = (SameButLane a.lane base (mended_lane a.lane image)) ⊎ (SameButLane a.lane last (mended_lane a.lane image))

  -- what stands at the end
  pub allocation_ends : MayAllocate base a → IsAt base a 0 a.marked (pointer_word a.block) (finished (allocation_parts a) base)
  allocation_ends may =
      at-op base a may.placed 1 a.marked (pointer_word a.block) 0 owned_words
      (at-owner base a may.placed 1 a.marked 0 (pointer_word a.block) marked_words
      (at-mark base a may.placed 1 old_mark 0 a.marked (logged 1)
      (at-op base a may.placed 0 old_mark 0 1 begun (at-begin base a may.placed old_mark 0 may.idle refl may.unowned))))

  pub freeing_ends : (clear : ℕ) → MayFree base a clear → IsAt base a 0 clear 0 (finished (freeing_parts a clear) base)
  freeing_ends clear may =
      at-op base a may.placed 2 clear 0 0 (cleared clear)
      (at-mark base a may.placed 2 a.marked 0 clear disowned
      (at-owner base a may.placed 2 a.marked (pointer_word a.block) 0 (logged 2)
      (at-op base a may.placed 0 a.marked (pointer_word a.block) 2 begun (at-begin base a may.placed a.marked (pointer_word a.block) may.idle may.allocated may.owned))))

  pub allocation_atomic : MayAllocate base a → IsAtomic a.lane (allocation_parts a) base
  allocation_atomic may = record {
    cuts = (
      λ image between. inl (lane_part-cut base a may.idle image between),
      (
        cut-one_store (HalfDone allocated) (lane_op_at a.lane) 1 begun has0 has1,
        (
          cut-one_store (HalfDone allocated) (mark_at a.block) a.marked (logged 1) has1 has2,
          (
            cut-one_store (HalfDone allocated) a.owner (pointer_word a.block) marked_words has2 has3,
            (cut-one_store (HalfDone allocated) (lane_op_at a.lane) 0 owned_words has3 has4, has4),
          ),
        ),
      ),
    );
    ends = ends;
    idle = at4.op_is;
  }
    where
      null : 0 ≢ pointer_word a.block
      null e = pointer-some a.block (sym e)

      at0 : IsAt base a 0 old_mark 0 begun
      at0 = at-begin base a may.placed old_mark 0 may.idle refl may.unowned

      at1 : IsAt base a 1 old_mark 0 (logged 1)
      at1 = at-op base a may.placed 0 old_mark 0 1 begun at0

      at2 : IsAt base a 1 a.marked 0 marked_words
      at2 = at-mark base a may.placed 1 old_mark 0 a.marked (logged 1) at1

      at3 : IsAt base a 1 a.marked (pointer_word a.block) owned_words
      at3 = at-owner base a may.placed 1 a.marked 0 (pointer_word a.block) marked_words at2

      at4 : IsAt base a 0 a.marked (pointer_word a.block) allocated
      at4 = at-op base a may.placed 1 a.marked (pointer_word a.block) 0 owned_words at3

      ends : mended_lane a.lane allocated ≡ allocated
      ends = mended-idle a.lane allocated at4.op_is

      before : (words : List ℕ) → IsAt base a 0 old_mark 0 (mended_lane a.lane words) → (HalfDone allocated) words
      before words at = inl (at-base base a may.placed 0 old_mark 0 (mended_lane a.lane words) may.idle refl may.unowned at)

      has0 : HalfDone allocated begun
      has0 = before begun (subst (λ (xs : List ℕ). IsAt base a 0 old_mark 0 xs) (sym (mended-idle a.lane begun at0.op_is)) at0)

      has1 : HalfDone allocated (logged 1)
      has1 = before (logged 1) (mended-undone base a may.placed old_mark may.clears old_mark 0 (logged 1) (inl refl) null at1)

      has2 : HalfDone allocated marked_words
      has2 = before marked_words (mended-undone base a may.placed old_mark may.clears a.marked 0 marked_words (inr refl) null at2)

      has3 : HalfDone allocated owned_words
      has3 = inr (same-lane a.lane allocated (mended_lane a.lane owned_words)
          (at-same base a may.placed 0 a.marked (pointer_word a.block) (mended_lane a.lane owned_words) allocated (mended-done base a may.placed a.marked (pointer_word a.block) owned_words refl at3) at4))

      has4 : HalfDone allocated allocated
      has4 = inr (same-lane a.lane allocated (mended_lane a.lane allocated) ends)

  pub freeing_atomic : (clear : ℕ) → MayFree base a clear → IsAtomic a.lane (freeing_parts a clear) base
  freeing_atomic clear may = record {
    cuts = (
      λ image between. inl (lane_part-cut base a may.idle image between),
      (
        cut-one_store (HalfDone (freed clear)) (lane_op_at a.lane) 2 begun has0 has1,
        (
          cut-one_store (HalfDone (freed clear)) a.owner 0 (logged 2) has1 has2,
          (
            cut-one_store (HalfDone (freed clear)) (mark_at a.block) clear disowned has2 has3,
            (cut-one_store (HalfDone (freed clear)) (lane_op_at a.lane) 0 (cleared clear) has3 has4, has4),
          ),
        ),
      ),
    );
    ends = ends;
    idle = at4.op_is;
  }
    where
      at0 : IsAt base a 0 a.marked (pointer_word a.block) begun
      at0 = at-begin base a may.placed a.marked (pointer_word a.block) may.idle may.allocated may.owned

      at1 : IsAt base a 2 a.marked (pointer_word a.block) (logged 2)
      at1 = at-op base a may.placed 0 a.marked (pointer_word a.block) 2 begun at0

      at2 : IsAt base a 2 a.marked 0 disowned
      at2 = at-owner base a may.placed 2 a.marked (pointer_word a.block) 0 (logged 2) at1

      at3 : IsAt base a 2 clear 0 (cleared clear)
      at3 = at-mark base a may.placed 2 a.marked 0 clear disowned at2

      at4 : IsAt base a 0 clear 0 (freed clear)
      at4 = at-op base a may.placed 2 clear 0 0 (cleared clear) at3

      ends : mended_lane a.lane (freed clear) ≡ (freed clear)
      ends = mended-idle a.lane (freed clear) at4.op_is

      after : (words : List ℕ) → IsAt base a 0 clear 0 (mended_lane a.lane words) → (HalfDone (freed clear)) words
      after words at = inr (same-lane a.lane (freed clear) (mended_lane a.lane words) (at-same base a may.placed 0 clear 0 (mended_lane a.lane words) (freed clear) at at4))

      has0 : HalfDone (freed clear) begun
      has0 = inl (at-base base a may.placed 0 a.marked (pointer_word a.block) (mended_lane a.lane begun) may.idle may.allocated may.owned
          (subst (λ (xs : List ℕ). IsAt base a 0 a.marked (pointer_word a.block) xs) (sym (mended-idle a.lane begun at0.op_is)) at0))

      has1 : HalfDone (freed clear) (logged 2)
      has1 = after (logged 2) (mended-freed base a may.placed clear may.clears a.marked (pointer_word a.block) (logged 2) (inr refl) at1)

      has2 : HalfDone (freed clear) disowned
      has2 = after disowned (mended-freed base a may.placed clear may.clears a.marked 0 disowned (inr refl) at2)

      has3 : HalfDone (freed clear) (cleared clear)
      has3 = after (cleared clear) (mended-freed base a may.placed clear may.clears clear 0 (cleared clear) (inl refl) at3)

      has4 : HalfDone (freed clear) (freed clear)
      has4 = inr (same-lane a.lane (freed clear) (mended_lane a.lane (freed clear)) ends)
