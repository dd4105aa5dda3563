-- The allocation of a leaf leaves the words of the tree.
use Rattle.std.proofs.Common.{◌≡◌, ◌≢◌, ℕ, ◌+◌, ◌%◌, ◌<◌, ◌≤◌, List, get_or, set, sym, subst, arith, refl}
use Rattle.std.proofs.lemmas.List.{get_or-set_other, length-set}
use Rattle.pm_model.specs.Plans.{EachCut, finished}
use Rattle.pm_model.proofs.Cuts.{each_cut-map}
use Rattle.image_layout.specs.Fixed.{descriptor_at}
use Rattle.image_layout.specs.Places.{page_of}
use Rattle.image_layout.specs.Pointer.{pointer_word}
use Rattle.image_layout.specs.Records.{new_leaf_at}
use Rattle.image_layout.specs.Blocks.{descriptor_of, is_inside}
use Rattle.heap_palloc.specs.Changes.{AllocationStage, IsBeside, SameChoiceRead, ShowsAllocation, before, logged, marked, owned, made, choice_lane, choice_owner}
use Rattle.heap_palloc.specs.Choice.{Choice, in_page, on_new_page, in_run, choice_page, choice_pages, choice_parts, MayMake}
use Rattle.heap_palloc.specs.Law.{KeepsElsewhere}
use Rattle.heap_palloc.proofs.ChangesHold.{allocation_holds}
use Rattle.heap_palloc.proofs.LiveBlocks.{is_inside-same, inside_from}
use Rattle.tree_cuts.specs.Lists.{Each}
use Rattle.tree_cuts.specs.Split.{IsTaking}
use Rattle.tree_cuts.proofs.Lists.{each-map}
use Rattle.fp_tree.specs.Changes.{new_leaf}

stage_keeps : (base : List ℕ) (choice : Choice) (image : List ℕ) → AllocationStage base choice image → KeepsElsewhere (choice_lane choice) (choice_owner choice) (choice_page choice) (choice_pages choice) base image
stage_keeps base choice image (before lane shows) = shows.keeps
stage_keeps base choice image (logged lane shows) = shows.keeps
stage_keeps base choice image (marked lane shows) = shows.keeps
stage_keeps base choice image (owned lane shows) = shows.keeps
stage_keeps base choice image (made lane shows) = shows.keeps

module _ (base : List ℕ) (column : ℕ) (leaves : List ℕ) (choice : Choice) (may : MayMake base choice)
    (record_is : (k : ℕ) → k < 6 → IsBeside choice (column + k)) (leaves_are : Each (λ leaf. (k : ℕ) → k < 104 → IsBeside choice (leaf + k)) leaves) where
  is_taking : (image : List ℕ) → ShowsAllocation choice base image → IsTaking base column leaves image
  is_taking image shows =
      let keeps = stage_keeps base choice image shows.stage in
      record {
        size = keeps.size;
        column_words = λ k lt. keeps.each (column + k) (record_is k lt);
        leaf_words = each-map (λ leaf. (k : ℕ) → k < 104 → IsBeside choice (leaf + k)) _ (λ leaf is k lt. keeps.each (leaf + k) (is k lt)) leaves leaves_are;
      }

  pub choice_takes : EachCut (IsTaking base column leaves) (choice_parts base choice) base
  choice_takes = each_cut-map (ShowsAllocation choice base) (IsTaking base column leaves) (choice_parts base choice) base is_taking ((allocation_holds choice).cuts base may)

pub choice_named : (base : List ℕ) (column : ℕ) (choice : Choice) → MayMake base choice → choice_owner choice ≡ new_leaf_at column → get_or (finished (choice_parts base choice) base) (new_leaf_at column) 0 ≡ pointer_word (new_leaf choice)
choice_named base column choice may owner = subst (λ (w : ℕ). get_or (finished (choice_parts base choice) base) w 0 ≡ pointer_word (new_leaf choice)) owner ((allocation_holds choice).end base may).made.word_is

-- ── a word that the allocation doesn't read ──

module _ (base : List ℕ) (w value : ℕ) (no_descriptor : 64 ≤ w % 32768) where
  noted : List ℕ
  noted = set base w value

  other_word : (place : ℕ) → w ≢ place → get_or noted place 0 ≡ get_or base place 0
  unfolding noted
  other_word place apart = get_or-set_other base w place value 0 (λ e. apart (sym e))

  same_descriptor : (page : ℕ) → descriptor_of noted page ≡ descriptor_of base page
  same_descriptor page = other_word (descriptor_at page) (λ e. let low : w % 32768 < 64 = omega (arith, e) in omega (arith, low, no_descriptor))

  same_inside : (page : ℕ) → is_inside noted page ≡ is_inside base page
  same_inside page = is_inside-same base noted (inside_from base noted same_descriptor) page

  pub noted_reads : (choice : Choice) → IsBeside choice w → SameChoiceRead choice base (set base w value)
  unfolding noted
  noted_reads (in_page s) beside = record {
    size = length-set base w value;
    op = other_word _ beside.outside_lane.0;
    owner = other_word s.owner beside.no_owner;
    descriptor = same_descriptor s.page;
    bitmap = other_word _ beside.no_bitmap;
    small = rw (same_inside s.page, same_descriptor s.page) refl;
    is_free = rw (same_inside s.page, same_descriptor s.page) refl;
    owner_small = rw (same_inside (page_of s.owner), same_descriptor (page_of s.owner)) refl;
  }
  noted_reads (on_new_page s) beside = record {
    size = length-set base w value;
    op = other_word _ beside.outside_lane.0;
    owner = other_word s.owner beside.no_owner;
    descriptor = same_descriptor s.page;
    bitmap = other_word _ beside.no_bitmap;
    small = rw (same_inside s.page, same_descriptor s.page) refl;
    is_free = rw (same_inside s.page, same_descriptor s.page) refl;
    owner_small = rw (same_inside (page_of s.owner), same_descriptor (page_of s.owner)) refl;
  }
  noted_reads (in_run r) beside = record {
    size = length-set base w value;
    op = other_word _ beside.outside_lane.0;
    owner = other_word r.owner beside.no_owner;
    descriptors = λ k lt. same_descriptor (r.first + k);
    inside = same_inside r.first;
    owner_small = rw (same_inside (page_of r.owner), same_descriptor (page_of r.owner)) refl;
  }
