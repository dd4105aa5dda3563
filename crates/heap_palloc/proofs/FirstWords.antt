-- A plan on a big block doesn't write the first word of its pages, unless that is the owner's.
use Rattle.std.proofs.Common.{◌≡◌, ◌≢◌, ℕ, ◌+◌, false, ◌||◌, eqb, List, [], ◌∷◌, get_or, refl, ◌∙◌, ap, arith}
use Rattle.std.specs.List.{range_with_len}
use Rattle.std.proofs.lemmas.Bool.{ne_eqb, or_from}
use Rattle.image_layout.specs.Fixed.{descriptor_at, lane_op_at, lane_dest_at, lane_block_at}
use Rattle.image_layout.specs.Pointer.{pointer_word}
use Rattle.image_layout.specs.Places.{page_of, page_at}
use Rattle.pm_model.specs.Plans.{Part, EachCut, finished, footprint, one_store, unless_empty, words_after}
use Rattle.pm_model.proofs.Cuts.{between-kept, each_cut-append, each_cut-map, each_cut-unless_empty, finished-unless_empty, footprint-one_store}
use Rattle.pm_model.proofs.PlanLaw.{words_after-kept}
use Rattle.heap_palloc.specs.Lane.{mark_at}
use Rattle.heap_palloc.specs.Law.{Pages, pages_allocation, IsIdle, IsPageRun}
use Rattle.heap_palloc.specs.Parts.{lane_part, allocation_parts, big_allocation_parts, freeing_parts, forget_given_back}
use Rattle.heap_palloc.proofs.BigPlans.{mark-page}
use Rattle.heap_palloc.proofs.GivenBack.{forget-out}

-- no part writes the word
abbrev Spares : List Part → ℕ → Type 0
Spares [] w = Unit {0}
Spares (part ∷ parts) w = (footprint part w ≡ false) × Spares parts w

abbrev IsSame : ℕ → List ℕ → List ℕ → Type 0
IsSame w words image = get_or image w 0 ≡ get_or words w 0

-- then it stays at each cut
each_spared : (parts : List Part) (words : List ℕ) (w : ℕ) → Spares parts w → EachCut (IsSame w words) parts words
each_spared [] words w out = refl
each_spared (part ∷ parts) words w out = (
  λ image between. between-kept part words image w between out.0,
  each_cut-map (IsSame w (words_after part words)) (IsSame w words) parts (words_after part words) (λ image same. same ∙ words_after-kept part words w out.0) (each_spared parts (words_after part words) w out.1),
)

module _ (base : List ℕ) (r : Pages) (idle : IsIdle base r.lane r.owner) (run : IsPageRun base r.first r.pages) (apart : page_at r.first ≢ r.owner) where
  no_descriptor : (page : ℕ) → page_at r.first ≢ descriptor_at page
  no_descriptor page e = omega (arith, e, run.page_is.behind_header)

  out_lane : footprint (lane_part (pages_allocation r)) (page_at r.first) ≡ false
  out_lane = or_from (eqb (page_at r.first) (lane_dest_at r.lane)) (eqb (page_at r.first) (lane_block_at r.lane) || false)
      (ne_eqb (page_at r.first) (lane_dest_at r.lane) (λ e. omega (arith, e, idle.lane_is, run.page_is.behind_fixed)))
      (or_from (eqb (page_at r.first) (lane_block_at r.lane)) false (ne_eqb (page_at r.first) (lane_block_at r.lane) (λ e. omega (arith, e, idle.lane_is, run.page_is.behind_fixed))) refl)

  out_op : (value : ℕ) → footprint (one_store (lane_op_at r.lane) value) (page_at r.first) ≡ false
  out_op value = footprint-one_store (lane_op_at r.lane) value (page_at r.first) (λ e. omega (arith, e, idle.lane_is, run.page_is.behind_fixed))

  out_mark : (value : ℕ) → footprint (one_store (mark_at (page_at r.first)) value) (page_at r.first) ≡ false
  out_mark value = footprint-one_store (mark_at (page_at r.first)) value (page_at r.first) (λ e. no_descriptor r.first (e ∙ mark-page r.first))

  out_owner : (value : ℕ) → footprint (one_store r.owner value) (page_at r.first) ≡ false
  out_owner value = footprint-one_store r.owner value (page_at r.first) apart

  abbrev forgetting : Part
  forgetting = forget_given_back base (range_with_len (page_of (page_at r.first)) r.pages)

  out_forgetting : footprint forgetting (page_at r.first) ≡ false
  out_forgetting = forget-out base r.pages (page_of (page_at r.first)) (page_at r.first) (λ page from to. no_descriptor page)

  abbrev IsFirstSame : List ℕ → Type 0
  IsFirstSame image = get_or image (page_at r.first) 0 ≡ get_or base (page_at r.first) 0

  forgotten : get_or (finished (unless_empty forgetting) base) (page_at r.first) 0 ≡ get_or base (page_at r.first) 0
  forgotten = ap (λ (words : List ℕ). get_or words (page_at r.first) 0) (finished-unless_empty forgetting base) ∙ words_after-kept forgetting base (page_at r.first) out_forgetting

  pub taken_first : EachCut IsFirstSame (big_allocation_parts base r.pages (pages_allocation r)) base
  taken_first = each_cut-append IsFirstSame (unless_empty forgetting) (allocation_parts (pages_allocation r)) base
      (each_cut-unless_empty IsFirstSame forgetting base (λ image between. between-kept forgetting base image (page_at r.first) between out_forgetting))
      (each_cut-map (IsSame (page_at r.first) (finished (unless_empty forgetting) base)) IsFirstSame (allocation_parts (pages_allocation r)) (finished (unless_empty forgetting) base) (λ image same. same ∙ forgotten)
      (each_spared (allocation_parts (pages_allocation r)) (finished (unless_empty forgetting) base) (page_at r.first)
      (out_lane, (out_op 1, (out_mark (16 + r.pages), (out_owner (pointer_word (page_at r.first)), (out_op 0, tt)))))))

  pub freed_first : EachCut IsFirstSame (freeing_parts (pages_allocation r) 0) base
  freed_first = each_spared (freeing_parts (pages_allocation r) 0) base (page_at r.first) (out_lane, (out_op 2, (out_owner 0, (out_mark 0, (out_op 0, tt)))))
