-- The words of the blocks that were live before a creation: neither it nor its mending writes one.
use Rattle.std.proofs.Common.{◌≡◌, ◌≢◌, ◌⊎◌, inl, inr, ⊎_elim, ℕ, ◌+◌, ◌<◌, ◌≤◌, true, not, leb, List, length, ap, subst, arith}
use Rattle.std.specs.Prelude.{Contains}
use Rattle.std.proofs.lemmas.Bool.{both_ways, and_from, not_from_false, le-leb}
use Rattle.image_layout.specs.Fixed.{table_slot_at}
use Rattle.image_layout.specs.Places.{page_of, page_at}
use Rattle.pm_model.specs.Plans.{finished}
use Rattle.image_layout.specs.Blocks.{Block, descriptor_of, is_free_page, is_inside, is_small_page, live_blocks}
use Rattle.image_layout.specs.Tables.{table_count}
use Rattle.image_layout.proofs.Heap.{live_blocks_apart}
use Rattle.image_layout.proofs.OwnersApart.{live_behind}
use Rattle.heap_palloc.specs.Choice.{Choice, in_page, on_new_page, in_run, choice_block, choice_page, choice_pages, choice_parts, MayMake}
use Rattle.heap_palloc.specs.Law.{IsElsewhere}
use Rattle.heap_palloc.proofs.Dests.{IsDestPlace, dest_place}
use Rattle.heap_palloc.proofs.Owners.{allocation_new, more_live}
use Rattle.catalog.specs.Creation.{Creation, new_block, table_record}
use Rattle.catalog.specs.Shown.{IsUntouched, MayCreateOn}
use Rattle.catalog.proofs.Creating.{record_size, taken_live, taken_rules}
use Rattle.catalog.proofs.Surviving.{gains}

-- a word that may hold a pointer isn't the first one of the page where a block is allocated
not_first : (base : List ℕ) (choice : Choice) → MayMake base choice → (w : ℕ) → IsDestPlace base w → w ≢ page_at (choice_page choice)
not_first base (in_page s) may w dest e =
    let here : s.page ≡ page_of w = omega (arith, e) in
    dest.owner_is.no_bitmap (subst (λ (p : ℕ). is_small_page base p ≡ true) here may.page_is.small) (omega (arith, e))
not_first base (on_new_page s) may w dest e =
    let here : s.page ≡ page_of w = omega (arith, e) in
    both_ways (is_free_page base (page_of w)) dest.not_free (subst (λ (p : ℕ). is_free_page base p ≡ true) here may.is_free)
not_first base (in_run r) may w dest e =
    let here : r.first ≡ page_of w = omega (arith, e) in
    let low : descriptor_of base r.first ≤ 1 = subst (λ (p : ℕ). descriptor_of base p ≤ 1) (omega arith) (may.are_free 0 may.run.some) in
    let free : is_free_page base r.first ≡ true = and_from (not (is_inside base r.first)) (leb (descriptor_of base r.first) 1) (not_from_false (is_inside base r.first) may.run.not_inside) (le-leb (descriptor_of base r.first) 1 low) in
    both_ways (is_free_page base (page_of w)) dest.not_free (subst (λ (p : ℕ). is_free_page base p ≡ true) here free)

module _ (base : List ℕ) (c : Creation) (on : MayCreateOn base c) (block : Block) (live : Contains (live_blocks base) block) (w : ℕ) (low : block.first ≤ w) (high : w < block.first + block.words) where
  dest : IsDestPlace base w
  dest = dest_place base on.segments on.one_or_more on.rules w (inr (block, live, low, high))

  from_here : 2048 ≤ w
  from_here = let first = live_behind base on.rules.reserved block live in omega (arith, first, low)

  elsewhere : (lane : ℕ) → lane < 16 → IsElsewhere lane (table_slot_at (table_count base)) (choice_page c.choice) (choice_pages c.choice) w
  elsewhere lane lt =
      let behind = from_here in
      let few = on.may.count in
      let no_descriptor = dest.owner_is.no_descriptor in
      record {
        outside_lane = (λ e. omega (arith, e, behind, lt), λ e. omega (arith, e, behind, lt), λ e. omega (arith, e, behind, lt));
        no_owner = λ e. omega (arith, e, behind, few);
        no_descriptor = λ k _ _ e. omega (arith, e, no_descriptor);
        no_bitmap = not_first base c.choice on.may.may w dest;
      }

  outside_record : (w < new_block c) ⊎ (new_block c + length (table_record c.name c.columns) ≤ w)
  outside_record =
      let rules = taken_rules base on.segments on.one_or_more on.rules c on.may in
      let size = record_size base on.segments on.one_or_more on.rules c on.may in
      ⊎_elim (λ (same : block ≡ choice_block c.choice). absurd (allocation_new base c.choice block on.may.may live (ap (λ (b : Block). b.first) same)))
      (λ apart. ⊎_elim (λ before. inl (omega (arith, before, high))) (λ behind. inr (omega (arith, behind, low, size))) apart)
      (live_blocks_apart (finished (choice_parts base c.choice) base) rules.reserved rules.descriptors block (choice_block c.choice)
      (more_live (live_blocks base) (live_blocks (finished (choice_parts base c.choice) base)) (choice_block c.choice) block (gains base c on) live)
      (taken_live base on.segments on.one_or_more on.rules c on.may))

  pub old_word : c.lane < 16 → IsUntouched base c w
  old_word lt = record {
    lane = elsewhere c.lane lt;
    lane_zero = elsewhere 0 (omega arith);
    no_count = λ e. let behind = from_here in omega (arith, e, behind);
    no_record = outside_record;
  }
