-- The leaf that the heap chooses: its allocation writes no word of the tree, and the heap goes on behind the plan.
use Rattle.std.proofs.Common.{◌≡◌, ◌≢◌, ◌⊎◌, inl, inr, ⊎_elim, ℕ, ◌+◌, ◌%◌, ◌<◌, ◌≤◌, true, not, leb, List, length, get_or, sym, ◌∙◌, ap, subst, arith}
use Rattle.std.specs.Prelude.{Contains}
use Rattle.std.proofs.lemmas.Bool.{both_ways, and_from, not_from_false, le-leb}
use Rattle.std.proofs.lemmas.List.{length-append}
use Rattle.std.proofs.lemmas.Grind.{flat_map-append}
use Rattle.pm_model.specs.declared.action.Action.{Action}
use Rattle.pm_model.specs.Plans.{finished, plan_of, part_actions}
use Rattle.pm_model.proofs.Cuts.{length-finished}
use Rattle.image_layout.specs.Blocks.{Block, descriptor_of, is_free_page, is_inside, is_small_page, live_blocks, slot_words}
use Rattle.image_layout.specs.Fixed.{lane_op_at}
use Rattle.image_layout.specs.Places.{page_at, page_of}
use Rattle.image_layout.specs.Records.{new_leaf_at}
use Rattle.image_layout.specs.Trees.{leaf_list}
use Rattle.image_layout.proofs.Heap.{live_blocks_apart}
use Rattle.image_layout.proofs.OwnersApart.{live_behind}
use Rattle.heap_big.specs.declared.run.Run.{Run}
use Rattle.heap_small.specs.Bitmap.{with_bit}
use Rattle.heap_palloc.specs.Calls.{IsAllocated, KeepsHeapRules, MayCall}
use Rattle.heap_palloc.specs.Changes.{IsBeside, choice_lane, choice_owner}
use Rattle.heap_palloc.specs.Choice.{Choice, in_page, on_new_page, in_run, IsChosen, IsThrough, MayMake, choice_block, choice_page, choice_parts}
use Rattle.heap_palloc.specs.Index.{HeapIndex}
use Rattle.heap_palloc.specs.Law.{slot_allocation, taking}
use Rattle.heap_palloc.specs.Parts.{allocation_parts, new_page_parts}
use Rattle.heap_palloc.specs.Shown.{GainsOne}
use Rattle.heap_palloc.proofs.ChangesHold.{allocation_holds}
use Rattle.heap_palloc.proofs.Dests.{IsDestPlace, dest_place}
use Rattle.heap_palloc.proofs.Lengths.{allocation_length}
use Rattle.heap_palloc.proofs.LiveBlocks.{SameHeap, live_blocks-same}
use Rattle.heap_palloc.proofs.Owners.{allocation_new, more_live}
use Rattle.heap_palloc.proofs.RulesKept.{choice_rules}
use Rattle.heap_palloc.proofs.SameHeaps.{index_kept, rules_same}
use Rattle.heap_palloc.proofs.Settled.{gained_live}
use Rattle.tree_cuts.specs.Lists.{Each}
use Rattle.tree_cuts.specs.Tree.{AreApart, IsPlaced, IsTree}
use Rattle.tree_cuts.proofs.Lists.{each-both, each-map}
use Rattle.fp_tree.specs.Changes.{IsLeafChoice, new_leaf}
use Rattle.fp_tree.specs.Planned.{MayPlanLeaf, leaf_block}
use Rattle.fp_tree.proofs.Marks.{IsMark, no_mark, same_marks}

-- ── what the heap chooses for a leaf ──

block_words : (words : List ℕ) (runs : List Run) (choice : Choice) → IsChosen words runs 104 choice → (choice_block choice).words ≡ 128
block_words words runs (in_page s) chosen = ap slot_words chosen.1
block_words words runs (on_new_page s) chosen = ap slot_words chosen.1
block_words words runs (in_run r) chosen = absurd (omega (arith, chosen.0))

lane_is : (lane owner : ℕ) (choice : Choice) → IsThrough lane owner choice → choice_lane choice ≡ lane
lane_is lane owner (in_page s) through = through.0
lane_is lane owner (on_new_page s) through = through.0
lane_is lane owner (in_run r) through = through.0

owner_is : (lane owner : ℕ) (choice : Choice) → IsThrough lane owner choice → choice_owner choice ≡ owner
owner_is lane owner (in_page s) through = through.1
owner_is lane owner (on_new_page s) through = through.1
owner_is lane owner (in_run r) through = through.1

pub choice_length : (words : List ℕ) (runs : List Run) (choice : Choice) → IsChosen words runs 104 choice → length (plan_of (choice_parts words choice)) ≤ 23
choice_length words runs (in_page s) chosen = let most = allocation_length (taking words s) in omega (arith, most)
choice_length words runs (on_new_page s) chosen =
    let a = slot_allocation s (with_bit 0 s.slot) in
    let both = ap (length {A = Action}) (flat_map-append part_actions (new_page_parts s.page s.class) (allocation_parts a)) in
    let sum = length-append (plan_of (new_page_parts s.page s.class)) (plan_of (allocation_parts a)) in
    let most = allocation_length a in
    omega (arith, both, sum, most)
choice_length words runs (in_run r) chosen = absurd (omega (arith, chosen.0))

-- a word that may hold a pointer isn't the first one of the page where a block is allocated
not_first : (base : List ℕ) (choice : Choice) → MayMake base choice → (w : ℕ) → IsDestPlace base w → w ≢ page_at (choice_page choice)
not_first base (in_page s) may w dest e =
    let here : s.page ≡ page_of w = omega (arith, e) in
    dest.owner_is.no_bitmap (subst (λ (p : ℕ). is_small_page base p ≡ true) here may.page_is.small) (omega (arith, e))
not_first base (on_new_page s) may w dest e =
    let here : s.page ≡ page_of w = omega (arith, e) in
    both_ways (is_free_page base (page_of w)) dest.not_free (subst (λ (p : ℕ). is_free_page base p ≡ true) here may.is_free)
not_first base (in_run r) may w dest e =
    let here : r.first ≡ page_of w = omega (arith, e) in
    let low : descriptor_of base r.first ≤ 1 = subst (λ (p : ℕ). descriptor_of base p ≤ 1) (omega arith) (may.are_free 0 may.run.some) in
    let free : is_free_page base r.first ≡ true = and_from (not (is_inside base r.first)) (leb (descriptor_of base r.first) 1) (not_from_false (is_inside base r.first) may.run.not_inside) (le-leb (descriptor_of base r.first) 1 low) in
    both_ways (is_free_page base (page_of w)) dest.not_free (subst (λ (p : ℕ). is_free_page base p ≡ true) here free)

module _ (words : List ℕ) (segments : length words % 32768 ≡ 0) (some : 32768 ≤ length words) (column : ℕ) (index : HeapIndex) (lane : ℕ) (may : MayPlanLeaf words index lane column) where
  pub may_call : MayCall words index lane (new_leaf_at column)
  may_call =
      let from = may.record_in.begins in let to = may.record_in.ends in
      record {
        rules = may.rules;
        index_of = may.index_of;
        lane_is = may.lane_is;
        idle = may.idle;
        dest_is = inr (may.record_in.block, may.record_in.live, omega (arith, from), omega (arith, to));
      }

  dest : (block : Block) → Contains (live_blocks words) block → (w : ℕ) → block.first ≤ w → w < block.first + block.words → IsDestPlace words w
  dest block live w low high = dest_place words segments some may.rules w (inr (block, live, low, high))

  pub record_within : column + 40 ≤ length words
  record_within =
      let from = may.record_in.begins in let to = may.record_in.ends in
      let last = (dest may.record_in.block may.record_in.live (column + 39) (omega (arith, from)) (omega (arith, to))).owner_is.in_image in
      omega (arith, last)

  pub noted : 64 ≤ (column + 5) % 32768
  noted = let from = may.record_in.begins in let to = may.record_in.ends in
      (dest may.record_in.block may.record_in.live (column + 5) (omega (arith, from)) (omega (arith, to))).owner_is.no_descriptor

  pub few_actions : (new : HeapIndex) (left : List Action) (first size : ℕ) → IsAllocated words index new lane (new_leaf_at column) 104 left first size → length left ≤ 23
  few_actions new left first size made =
      let is = ap (length {A = Action}) made.planned.plan_is in
      let most = choice_length words index.free.runs made.choice made.chosen in
      omega (arith, is, most)

module _ (words : List ℕ) (segments : length words % 32768 ≡ 0) (some : 32768 ≤ length words) (column : ℕ) (leaves : List ℕ) (tree : IsTree words column leaves)
    (listed : leaf_list words column ≡ leaves) (index : HeapIndex) (lane : ℕ) (may : MayPlanLeaf words index lane column) where
  live_leaves : Each (λ leaf. Contains (live_blocks words) (leaf_block leaf)) leaves
  live_leaves = subst (Each (λ leaf. Contains (live_blocks words) (leaf_block leaf))) listed may.leaves_in

  old_dest : (block : Block) → Contains (live_blocks words) block → (w : ℕ) → block.first ≤ w → w < block.first + block.words → IsDestPlace words w
  old_dest = dest words segments some column index lane may

  module _ (new : HeapIndex) (left : List Action) (first size : ℕ) (made : IsAllocated words index new lane (new_leaf_at column) 104 left first size) where
    abbrev choice : Choice
    choice = made.choice

    makes : MayMake words made.choice
    makes = made.planned.may

    count : (choice_block made.choice).words ≡ 128
    count = block_words words index.free.runs made.choice made.chosen

    beside : (block : Block) → Contains (live_blocks words) block → (w : ℕ) → block.first ≤ w → w < block.first + block.words → w ≢ new_leaf_at column → IsBeside made.choice w
    beside block live w low high apart =
        let behind : 2048 ≤ w = (let from = live_behind words may.rules.reserved block live in omega (arith, from, low)) in
        let lane_at = lane_is lane (new_leaf_at column) made.choice made.through in
        let few = may.lane_is in
        let no_descriptor = (old_dest block live w low high).owner_is.no_descriptor in
        record {
          outside_lane = (λ e. omega (arith, e, behind, lane_at, few), λ e. omega (arith, e, behind, lane_at, few), λ e. omega (arith, e, behind, lane_at, few));
          no_owner = λ e. apart (e ∙ owner_is lane (new_leaf_at column) made.choice made.through);
          no_descriptor = λ k _ _ e. omega (arith, e, no_descriptor);
          no_bitmap = not_first words made.choice makes w (old_dest block live w low high);
        }

    -- ── the words once it is allocated ──

    abbrev taken : List ℕ
    taken = finished (choice_parts words made.choice) words

    taken_size : length taken ≡ length words
    taken_size = length-finished (choice_parts words made.choice) words

    taken_rules : KeepsHeapRules taken
    taken_rules = choice_rules words made.choice may.rules makes

    gains : GainsOne (live_blocks words) (choice_block made.choice) (live_blocks taken)
    gains = ((allocation_holds made.choice).end words makes).gains

    new_live : Contains (live_blocks taken) (choice_block made.choice)
    new_live = gained_live (live_blocks words) (live_blocks taken) (choice_block made.choice) gains

    old_live : (block : Block) → Contains (live_blocks words) block → Contains (live_blocks taken) block
    old_live block live = more_live (live_blocks words) (live_blocks taken) (choice_block made.choice) block gains live

    block_is : choice_block made.choice ≡ leaf_block (new_leaf made.choice)
    block_is = λ i. record { first = (choice_block made.choice).first; words = count i }

    pub leaf_live : Contains (live_blocks taken) (leaf_block (new_leaf made.choice))
    leaf_live = subst (λ (block : Block). Contains (live_blocks taken) block) block_is new_live

    pub leaves_live : Each (λ leaf. Contains (live_blocks taken) (leaf_block leaf)) leaves
    leaves_live = each-map (λ leaf. Contains (live_blocks words) (leaf_block leaf)) (λ leaf. Contains (live_blocks taken) (leaf_block leaf)) (λ leaf live. old_live (leaf_block leaf) live) leaves live_leaves

    taken_dest : (block : Block) → Contains (live_blocks taken) block → (w : ℕ) → block.first ≤ w → w < block.first + block.words → IsDestPlace taken w
    taken_dest block live w low high = dest_place taken (ap (λ (n : ℕ). n % 32768) taken_size ∙ segments) (let same = taken_size in omega (arith, same, some)) taken_rules w (inr (block, live, low, high))

    block_apart : (block : Block) → Contains (live_blocks words) block → (block.first + block.words ≤ new_leaf made.choice) ⊎ (new_leaf made.choice + 128 ≤ block.first)
    block_apart block live = ⊎_elim
        (λ (same : block ≡ choice_block made.choice). absurd (allocation_new words made.choice block makes live (ap (λ (b : Block). b.first) same)))
        (λ apart. ⊎_elim (λ before. inl before) (λ behind. inr (let many = count in omega (arith, behind, many))) apart)
        (live_blocks_apart taken taken_rules.reserved taken_rules.descriptors block (choice_block made.choice) (old_live block live) new_live)

    pub new_within : new_leaf made.choice + 104 ≤ length words
    new_within =
        let inside = (taken_dest (choice_block made.choice) new_live (new_leaf made.choice + 103) (omega arith) (let many = count in omega (arith, many))).owner_is.in_image in
        let same = taken_size in omega (arith, inside, same)

    pub new_placed : IsPlaced (length words) column (new_leaf made.choice)
    new_placed =
        let from = may.record_in.begins in let to = may.record_in.ends in
        record { within = new_within; apart = ⊎_elim (λ h. inl (omega (arith, h, to))) (λ h. inr (omega (arith, h, from))) (block_apart may.record_in.block may.record_in.live) }

    pub leaves_apart : Each (λ leaf. AreApart leaf 104 (new_leaf made.choice) 104) leaves
    leaves_apart = each-map (λ leaf. Contains (live_blocks words) (leaf_block leaf)) (λ leaf. AreApart leaf 104 (new_leaf made.choice) 104)
        (λ leaf live. ⊎_elim (λ h. inl (omega (arith, h))) (λ h. inr (omega (arith, h))) (block_apart (leaf_block leaf) live)) leaves live_leaves

    pub leaf_choice : IsLeafChoice words column leaves made.choice
    leaf_choice =
        let from = may.record_in.begins in let to = may.record_in.ends in
        record {
          may = makes;
          owner = owner_is lane (new_leaf_at column) made.choice made.through;
          placed = new_placed;
          beside_record = λ k lt. beside may.record_in.block may.record_in.live (column + k) (omega (arith, from)) (omega (arith, to, lt)) (λ e. omega (arith, e, lt));
          beside_leaves = each-both (λ leaf. Contains (live_blocks words) (leaf_block leaf)) (IsPlaced (length words) column) (λ leaf. (k : ℕ) → k < 104 → IsBeside made.choice (leaf + k))
              (λ leaf live placed k lt. beside (leaf_block leaf) live (leaf + k) (omega arith) (omega (arith, lt)) (λ e. ⊎_elim (λ h. omega (arith, h, e)) (λ h. omega (arith, h, e, lt)) placed.apart))
              leaves live_leaves tree.placed;
        }

    pub first_is : first ≡ new_leaf made.choice
    first_is = made.planned.first_is

    -- ── the heap behind the whole plan ──

    off_marks : (block : Block) → Contains (live_blocks taken) block → (place many : ℕ) → block.first ≤ place → place + many ≤ block.first + block.words → (w : ℕ) → IsMark taken w → AreApart place many w 1
    off_marks = no_mark taken (ap (λ (n : ℕ). n % 32768) taken_size ∙ segments) (let same = taken_size in omega (arith, same, some)) taken_rules

    module _ (after : List ℕ) (after_size : length after ≡ length words)
        (away : (w : ℕ) → AreApart column 40 w 1 → Each (λ leaf. AreApart leaf 104 w 1) leaves → AreApart (new_leaf made.choice) 104 w 1 → get_or after w 0 ≡ get_or taken w 0) where
      marks : (w : ℕ) → IsMark taken w → get_or after w 0 ≡ get_or taken w 0
      marks w mark =
          let from = may.record_in.begins in let to = may.record_in.ends in
          away w (off_marks may.record_in.block (old_live may.record_in.block may.record_in.live) column 40 from to w mark)
          (each-map (λ leaf. Contains (live_blocks taken) (leaf_block leaf)) (λ leaf. AreApart leaf 104 w 1) (λ leaf live. off_marks (leaf_block leaf) live leaf 104 (omega arith) (omega arith) w mark) leaves leaves_live)
          (off_marks (leaf_block (new_leaf made.choice)) leaf_live (new_leaf made.choice) 104 (omega arith) (omega arith) w mark)

      same_heap : SameHeap taken after
      same_heap = same_marks taken after (let same = taken_size in omega (arith, same, after_size)) marks

      lane_apart : (place many : ℕ) → 2048 ≤ place → AreApart place many (lane_op_at lane) 1
      lane_apart place many from = let few = may.lane_is in inr (omega (arith, from, few))

      lane_idle : get_or after (lane_op_at lane) 0 ≡ 0
      lane_idle =
          away (lane_op_at lane) (lane_apart column 40 (let behind = live_behind words may.rules.reserved may.record_in.block may.record_in.live in let from = may.record_in.begins in omega (arith, behind, from)))
          (each-map (λ leaf. Contains (live_blocks words) (leaf_block leaf)) (λ leaf. AreApart leaf 104 (lane_op_at lane) 1) (λ leaf live. lane_apart leaf 104 (live_behind words may.rules.reserved (leaf_block leaf) live)) leaves live_leaves)
          (lane_apart (new_leaf made.choice) 104 (live_behind taken taken_rules.reserved (leaf_block (new_leaf made.choice)) leaf_live))
          ∙ subst (λ (l : ℕ). get_or taken (lane_op_at l) 0 ≡ 0) (lane_is lane (new_leaf_at column) made.choice made.through) ((allocation_holds made.choice).end words makes).idle

      pub goes_on : (after_leaves : List ℕ) → leaf_list after column ≡ after_leaves → Each (λ leaf. Contains (live_blocks taken) (leaf_block leaf)) after_leaves → MayPlanLeaf after new lane column
      goes_on after_leaves after_listed live = record {
        rules = rules_same taken after same_heap taken_rules;
        index_of = index_kept taken after new same_heap made.planned.index_of;
        lane_is = may.lane_is;
        idle = lane_idle;
        record_in = record {
          block = may.record_in.block;
          live = subst (λ (blocks : List Block). Contains blocks may.record_in.block) (sym (live_blocks-same taken after same_heap)) (old_live may.record_in.block may.record_in.live);
          begins = may.record_in.begins;
          ends = may.record_in.ends;
        };
        leaves_in = subst (λ (blocks : List Block). Each (λ leaf. Contains blocks (leaf_block leaf)) (leaf_list after column)) (sym (live_blocks-same taken after same_heap))
            (subst (Each (λ leaf. Contains (live_blocks taken) (leaf_block leaf))) (sym after_listed) live);
      }
