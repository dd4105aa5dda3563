-- What a growth reads: where it is the same, the growth may begin and has the same parts.
use Rattle.std.proofs.Common.{◌≡◌, ⊎_elim, inl, inr, ◌⊎◌, ℕ, ◌+◌, ◌-◌, ◌*◌, ◌/◌, ◌<◌, ◌≤◌, min, true, false, cond, eqb, List, [], ◌++◌, length, get_or, sym, ◌∙◌, ap, subst, arith}
use Rattle.std.specs.Prelude.{Contains}
use Rattle.std.proofs.lemmas.Nat.{pow_pos}
use Rattle.image_layout.specs.Fixed.{lane_op_at}
use Rattle.image_layout.specs.Places.{page_of, page_at, page_count}
use Rattle.pm_model.specs.Plans.{Part}
use Rattle.image_layout.specs.Blocks.{Block, slot_words, says_big, descriptor_of, class_of, is_inside, is_small_page, live_blocks}
use Rattle.image_layout.proofs.Heap.{slot_fits, page_of_block, small_class, big_pages, big_live, IsSmallOf, IsBigOf}
use Rattle.heap_palloc.specs.Parts.{big_allocation_parts}
use Rattle.heap_palloc.specs.Law.{Pages, pages_allocation, MayTakeRun}
use Rattle.heap_palloc.specs.Changes.{SameRunRead}
use Rattle.heap_palloc.proofs.Rereading.{owner_same, heap_page_same, take_run-read, big_parts-same}
use Rattle.image_layout.specs.Arrays.{chunk_pages, chunk_count}
use Rattle.seg_array.specs.Growth.{Growth, next_pointer_at, next_chunk, chunk_block, allocating_parts, publishing_parts, growth_parts, OwnsChunk, MayGrow, SameGrowthRead}

-- ── what is read of the chunk ──

record SameChunkRead (old new : List ℕ) (r : Pages) : Type 0 where
  pub size : length new ≡ length old
  pub pointer : get_or new r.owner 0 ≡ get_or old r.owner 0
  pub op : get_or new (lane_op_at r.lane) 0 ≡ get_or old (lane_op_at r.lane) 0
  pub descriptors : (k : ℕ) → k < r.pages → descriptor_of new (r.first + k) ≡ descriptor_of old (r.first + k)
  pub inside : is_inside new r.first ≡ is_inside old r.first

module _ (old new : List ℕ) (r : Pages) (same : SameChunkRead old new r) where
  in_image_same : r.first + r.pages ≤ page_count old → r.first + r.pages ≤ page_count new
  in_image_same le = subst (λ (n : ℕ). r.first + r.pages ≤ n / 512) (sym same.size) le

  run_same : is_small_page new (page_of r.owner) ≡ is_small_page old (page_of r.owner) → SameRunRead old new r
  run_same small = record { size = same.size; op = same.op; owner = same.pointer; descriptors = same.descriptors; inside = same.inside; owner_small = small }

  -- a live block of pages is told from its head alone
  head : 0 < r.pages → Contains (live_blocks old) (chunk_block r) → (is_inside old r.first ≡ false) × (says_big (descriptor_of old r.first) ≡ true) × (descriptor_of old r.first ≡ 16 + r.pages)
  head some live = let (page, lt, of) = page_of_block old (chunk_block r) live in ⊎_elim (no_slot page) (is_head page) of
    where
      no_slot : (page : ℕ) → IsSmallOf old page (chunk_block r) → (is_inside old r.first ≡ false) × (says_big (descriptor_of old r.first) ≡ true) × (descriptor_of old r.first ≡ 16 + r.pages)
      no_slot page of =
          let class = small_class (descriptor_of old page) of.small in
          let fits = slot_fits (class_of old page) of.slot (omega (arith, class.1)) of.within in
          let size : slot_words (class_of old page) ≡ 512 * r.pages = ap (λ (b : Block). b.words) of.block_is in
          absurd (omega (arith, fits, size, some))

      is_head : (page : ℕ) → IsBigOf old page (chunk_block r) → (is_inside old r.first ≡ false) × (says_big (descriptor_of old r.first) ≡ true) × (descriptor_of old r.first ≡ 16 + r.pages)
      is_head page of =
          let first : page_at page ≡ page_at r.first = ap (λ (b : Block). b.first) of.block_is in
          let size : 512 * (descriptor_of old page - 16) ≡ 512 * r.pages = ap (λ (b : Block). b.words) of.block_is in
          let big = (big_pages (descriptor_of old page) of.big).0 in
          let here : page ≡ r.first = omega (arith, first) in
          let inside = ap (is_inside old) here in
          let descriptor = ap (descriptor_of old) here in
          (sym inside ∙ of.outside, ap says_big (sym descriptor) ∙ of.big, omega (arith, descriptor, size, big))

  live_same : 0 < r.pages → r.first < page_count new → Contains (live_blocks old) (chunk_block r) → Contains (live_blocks new) (chunk_block r)
  live_same some lt live =
      let was = head some live in
      let zero_is : r.first + 0 ≡ r.first = omega arith in
      let descriptor : descriptor_of new r.first ≡ descriptor_of old r.first = subst (λ (page : ℕ). descriptor_of new page ≡ descriptor_of old page) zero_is (same.descriptors 0 some) in
      let pages : descriptor_of new r.first - 16 ≡ r.pages = omega (arith, descriptor, was.2) in
      subst (λ (n : ℕ). Contains (live_blocks new) (record { first = page_at r.first; words = 512 * n })) pages
      (big_live new r.first lt (same.inside ∙ was.0) (ap says_big descriptor ∙ was.1))

  owning_same : 0 < r.pages → OwnsChunk old r → OwnsChunk new r
  owning_same some owns =
      let page = heap_page_same old new r.first same.size owns.page_is in
      record {
        named = same.pointer ∙ owns.named;
        live = live_same some page.in_image owns.live;
        page_is = page;
        in_image = in_image_same owns.in_image;
        in_segment = owns.in_segment;
      }

  -- ── its allocation ──

  allocating-same : allocating_parts new r ≡ allocating_parts old r
  allocating-same =
      ap (λ (p : ℕ). cond (eqb p 0) (big_allocation_parts new r.pages (pages_allocation r)) []) same.pointer
      ∙ ap (λ (parts : List Part). cond (eqb (get_or old r.owner 0) 0) parts []) (big_parts-same old new r same.descriptors)

-- ── the growth ──

module _ (old new : List ℕ) (g : Growth) (same : SameGrowthRead old new g) where
  chunk_same : SameChunkRead old new (next_chunk old g)
  chunk_same = record { size = same.size; pointer = same.pointer; op = same.op; descriptors = same.descriptors; inside = same.inside }

  pub reads_may : MayGrow old g → MayGrow new g
  reads_may may = record {
    count = omega (arith, same.count, may.count);
    header_is = λ k lt. owner_same old new (g.header + k) same.size (same.header_small k lt) (may.header_is k lt);
    apart = subst (λ (c : ℕ). (g.header + 16 ≤ page_at g.first) ⊎ (page_at (g.first + chunk_pages c) ≤ g.header)) (sym same.count) may.apart;
    lane_is = may.lane_is;
    idle = same.op ∙ may.idle;
    chunk = subst (λ (c : ℕ). MayTakeRun new (record { lane = g.lane; owner = g.header + 1 + c; first = g.first; pages = chunk_pages c }) ⊎ OwnsChunk new (record { lane = g.lane; owner = g.header + 1 + c; first = g.first; pages = chunk_pages c })) (sym same.count)
        (⊎_elim (λ run. inl (take_run-read old new (next_chunk old g) (run_same old new (next_chunk old g) chunk_same owner_small) run)) (λ owns. inr (owning_same old new (next_chunk old g) chunk_same some_pages owns)) may.chunk);
  }
    where
      some_pages : 0 < chunk_pages (chunk_count old g.header)
      some_pages = pow_pos (min (chunk_count old g.header) 5)

      owner_small : is_small_page new (page_of (next_pointer_at old g.header)) ≡ is_small_page old (page_of (next_pointer_at old g.header))
      owner_small =
          let at : g.header + (chunk_count old g.header + 1) ≡ g.header + 1 + chunk_count old g.header = omega arith in
          subst (λ (w : ℕ). is_small_page new (page_of w) ≡ is_small_page old (page_of w)) at (same.header_small (chunk_count old g.header + 1) (omega (arith, may.count)))

  pub reads_parts : growth_parts new g ≡ growth_parts old g
  reads_parts =
      ap (λ (c : ℕ). allocating_parts new (record { lane = g.lane; owner = g.header + 1 + c; first = g.first; pages = chunk_pages c }) ++ publishing_parts g.header c g.first (chunk_pages c)) same.count
      ∙ ap (λ (parts : List Part). parts ++ publishing_parts g.header (chunk_count old g.header) g.first (chunk_pages (chunk_count old g.header))) (allocating-same old new (next_chunk old g) chunk_same)
