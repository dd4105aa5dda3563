-- What plans show, from what they are by words and one after the other.
use Rattle.std.proofs.Common.{◌≡◌, ◌⊎◌, inl, inr, ⊎_elim, ℕ, ◌<◌, List, ◌++◌, get_or, refl, sym, ◌∙◌, ap, subst}
use Rattle.pm_model.specs.declared.action.Action.{Action}
use Rattle.pm_model.specs.Plans.{EachCut, finished}
use Rattle.image_layout.specs.Blocks.{Block, live_blocks}
use Rattle.image_layout.specs.Fixed.{lane_op_at}
use Rattle.heap_palloc.specs.Lane.{mended_lane}
use Rattle.heap_palloc.specs.Shown.{IsOutsideLane, SameButLane, IsAtomic}
use Rattle.heap_palloc.specs.Law.{KeepsElsewhere, Shows, ChangesShown}
use Rattle.pm_model.proofs.Cuts.{each_cut-map, each_cut-append, each_cut-end, finished-append}
use Rattle.heap_palloc.proofs.Stages.{mended-idle}
use Rattle.heap_palloc.proofs.LiveBlocks.{live_blocks-same}
use Rattle.heap_palloc.proofs.Slots.{lane-same_heap}

-- what is kept elsewhere, step by step
pub keeps-all : (lane owner page pages : ℕ) (words : List ℕ) → KeepsElsewhere lane owner page pages words words
keeps-all lane owner page pages words = record { size = refl; each = λ w e. refl }

pub keeps-then : (lane owner page pages : ℕ) (xs ys zs : List ℕ) → KeepsElsewhere lane owner page pages xs ys → KeepsElsewhere lane owner page pages ys zs → KeepsElsewhere lane owner page pages xs zs
keeps-then lane owner page pages xs ys zs x y = record { size = y.size ∙ x.size; each = λ w e. y.each w e ∙ x.each w e }

lane-keeps : (lane owner page pages : ℕ) (old new : List ℕ) → SameButLane lane old new → KeepsElsewhere lane owner page pages old new
lane-keeps lane owner page pages old new same = record { size = same.size; each = λ w e. same.each w e.outside_lane.1 e.outside_lane.2 }

-- What is atomic by words changes what is shown from that of the words before to that of the words after.
pub shown_from_atomic : (lane owner page pages : ℕ) (parts : List (List Action)) (base : List ℕ) → lane < 16 → IsOutsideLane lane owner → KeepsElsewhere lane owner page pages base (finished parts base) → IsAtomic lane parts base
    → ChangesShown lane owner page pages base (live_blocks base) (get_or base owner 0) (live_blocks (finished parts base)) (get_or (finished parts base) owner 0) parts base
shown_from_atomic lane owner page pages parts base lt out keeps atomic = record {
  cuts = each_cut-map (λ image. (SameButLane lane base (mended_lane lane image)) ⊎ (SameButLane lane (finished parts base) (mended_lane lane image)))
      (λ image. (Shows lane owner page pages base (live_blocks base) (get_or base owner 0) (mended_lane lane image)) ⊎ (Shows lane owner page pages base (live_blocks (finished parts base)) (get_or (finished parts base) owner 0) (mended_lane lane image)))
      parts base (λ image. ⊎_elim (λ before. inl (shows base (mended_lane lane image) (keeps-all lane owner page pages base) before)) (λ after. inr (shows (finished parts base) (mended_lane lane image) keeps after))) atomic.cuts;
  ends = record {
    blocks_are = ap live_blocks atomic.ends;
    word_is = ap (λ (words : List ℕ). get_or words owner 0) atomic.ends;
    keeps = subst (KeepsElsewhere lane owner page pages base) (sym atomic.ends) keeps;
  };
  idle = atomic.idle;
}
  where
    shows : (old new : List ℕ) → KeepsElsewhere lane owner page pages base old → SameButLane lane old new → Shows lane owner page pages base (live_blocks old) (get_or old owner 0) new
    shows old new kept same = record {
      blocks_are = live_blocks-same old new (lane-same_heap lane old new lt same);
      word_is = same.each owner out.1 out.2;
      keeps = keeps-then lane owner page pages base old new kept (lane-keeps lane owner page pages old new same);
    }

-- a lane that is idle shows the words as they are
pub shows-idle : (lane owner page pages : ℕ) (origin : List ℕ) (blocks : List Block) (word : ℕ) (words : List ℕ) → get_or words (lane_op_at lane) 0 ≡ 0 → live_blocks words ≡ blocks → get_or words owner 0 ≡ word → KeepsElsewhere lane owner page pages origin words
    → Shows lane owner page pages origin blocks word (mended_lane lane words)
shows-idle lane owner page pages origin blocks word words idle blocks_are word_is keeps =
    subst (Shows lane owner page pages origin blocks word) (sym (mended-idle lane words idle)) (record { blocks_are = blocks_are; word_is = word_is; keeps = keeps })

-- so after the last part the words show it as they are
pub change_settles : (lane owner page pages : ℕ) (origin : List ℕ) (before : List Block) (old : ℕ) (after : List Block) (new : ℕ) (parts : List (List Action)) (base : List ℕ) → ChangesShown lane owner page pages origin before old after new parts base
    → Shows lane owner page pages origin after new (finished parts base)
change_settles lane owner page pages origin before old after new parts base change = subst (Shows lane owner page pages origin after new) (mended-idle lane (finished parts base) change.idle) change.ends

module _ (lane owner page pages : ℕ) (origin : List ℕ) (before : List Block) (old : ℕ) (after : List Block) (new : ℕ) where
  abbrev Before : List ℕ → Type 0
  Before image = Shows lane owner page pages origin before old (mended_lane lane image)

  abbrev After : List ℕ → Type 0
  After image = Shows lane owner page pages origin after new (mended_lane lane image)

  abbrev Either : List ℕ → Type 0
  Either image = (Shows lane owner page pages origin before old (mended_lane lane image)) ⊎ (Shows lane owner page pages origin after new (mended_lane lane image))

  -- parts in front that keep what stands before
  pub changes-front : (xs ys : List (List Action)) (base : List ℕ) → EachCut (λ image. Shows lane owner page pages origin before old (mended_lane lane image)) xs base
      → ChangesShown lane owner page pages origin before old after new ys (finished xs base) → ChangesShown lane owner page pages origin before old after new (xs ++ ys) base
  changes-front xs ys base keep change = record {
    cuts = each_cut-append Either xs ys base (each_cut-map Before Either xs base (λ image. inl) keep) change.cuts;
    ends = subst After (sym (finished-append xs ys base)) change.ends;
    idle = ap (λ (words : List ℕ). get_or words (lane_op_at lane) 0) (finished-append xs ys base) ∙ change.idle;
  }

  -- parts behind that keep what stands after
  pub changes-back : (xs ys : List (List Action)) (base : List ℕ) → ChangesShown lane owner page pages origin before old after new xs base
      → EachCut (λ image. Shows lane owner page pages origin after new (mended_lane lane image)) ys (finished xs base)
      → get_or (finished ys (finished xs base)) (lane_op_at lane) 0 ≡ 0 → ChangesShown lane owner page pages origin before old after new (xs ++ ys) base
  changes-back xs ys base change keep idle = record {
    cuts = each_cut-append Either xs ys base change.cuts (each_cut-map After Either ys (finished xs base) (λ image. inr) keep);
    ends = subst After (sym (finished-append xs ys base)) (each_cut-end After ys (finished xs base) keep);
    idle = ap (λ (words : List ℕ). get_or words (lane_op_at lane) 0) (finished-append xs ys base) ∙ idle;
  }

  -- from an earlier origin
  pub changes-origin : (start : List ℕ) (parts : List (List Action)) (base : List ℕ) → KeepsElsewhere lane owner page pages start origin → ChangesShown lane owner page pages origin before old after new parts base
      → ChangesShown lane owner page pages start before old after new parts base
  changes-origin start parts base kept change = record {
    cuts = each_cut-map Either (λ image. (Shows lane owner page pages start before old (mended_lane lane image)) ⊎ (Shows lane owner page pages start after new (mended_lane lane image))) parts base
        (λ image. ⊎_elim (λ b. inl (from before old (mended_lane lane image) b)) (λ a. inr (from after new (mended_lane lane image) a))) change.cuts;
    ends = from after new (mended_lane lane (finished parts base)) change.ends;
    idle = change.idle;
  }
    where
      from : (blocks : List Block) (word : ℕ) (words : List ℕ) → Shows lane owner page pages origin blocks word words → Shows lane owner page pages start blocks word words
      from blocks word words shows = record { blocks_are = shows.blocks_are; word_is = shows.word_is; keeps = keeps-then lane owner page pages start origin words kept shows.keeps }
