-- The growth of an array, part by part.
use Rattle.std.proofs.Common.{◌≡◌, ◌≢◌, ◌⊎◌, inl, inr, ⊎_elim, ℕ, ◌+◌, ◌-◌, ◌*◌, ◌%◌, ◌<◌, ◌≤◌, min, true, false, not, List, length, get_or, set, sym, ◌∙◌, ap, subst, arith}
use Rattle.std.specs.Prelude.{Contains}
use Rattle.std.proofs.lemmas.Nat.{pow_pos}
use Rattle.std.proofs.lemmas.List.{get_or-set_same, get_or-set_other, length-set}
use Rattle.std.proofs.lemmas.Bool.{cases_eq, cases_lt, not-true, and_parts}
use Rattle.image_layout.specs.Fixed.{descriptor_at, lane_op_at}
use Rattle.image_layout.specs.Pointer.{pointer_word}
use Rattle.image_layout.specs.Places.{page_of, page_at, page_count, place_in}
use Rattle.pm_model.specs.Device.{IsBetween}
use Rattle.pm_model.specs.Plans.{words_after, EachCut, finished}
use Rattle.image_layout.specs.Blocks.{Block, slot_words, says_small, descriptor_of, class_of, is_inside, is_small_page, live_blocks}
use Rattle.pm_model.proofs.Alone.{length-words_after}
use Rattle.pm_model.proofs.PlanLaw.{words_after-kept}
use Rattle.pm_model.proofs.Cuts.{between-kept, between-end, cut-one_store}
use Rattle.image_layout.proofs.Heap.{behind_block, slot_fits, page_of_block, small_class, big_pages, IsSmallOf, IsBigOf}
use Rattle.heap_palloc.specs.Lane.{mended_lane}
use Rattle.heap_palloc.specs.Law.{IsElsewhere, Shows, IsHeapPage}
use Rattle.heap_palloc.proofs.Stages.{place_in-pointer, mended-idle}
use Rattle.heap_palloc.proofs.LiveBlocks.{SameHeap, live_blocks-same}
use Rattle.image_layout.specs.Arrays.{chunk_pages, capacity_of, chunk_of, chunk_count, place_of}
use Rattle.seg_array.specs.Growth.{Growth, next_pointer_at, next_chunk, chunk_block, punches, publishing_parts, growth_parts, MayGrow}
use Rattle.seg_array.specs.Shown.{IsOutsidePages, KeepsArray, HasChunk, HasNoChunk, IsUngrown, IsGrown}
use Rattle.image_layout.proofs.ChunkSizes.{capacity_next, chunk_is, chunk_below}
use Rattle.seg_array.proofs.Punches.{punches-out, punches-zero}

module _ (base : List ℕ) (g : Growth) (may : MayGrow base g) where
  abbrev count : ℕ
  count = chunk_count base g.header

  abbrev owner : ℕ
  owner = next_pointer_at base g.header

  abbrev pages : ℕ
  pages = chunk_pages count

  some_pages : 0 < pages
  some_pages = pow_pos (min (chunk_count base g.header) 5)

  pub page_is : IsHeapPage base g.first
  page_is = ⊎_elim (λ run. run.run.page_is) (λ owns. owns.page_is) may.chunk

  pub in_image : g.first + pages ≤ page_count base
  in_image = ⊎_elim (λ run. run.run.in_image) (λ owns. owns.in_image) may.chunk

  pub in_segment : g.first % 64 + pages ≤ 64
  in_segment = ⊎_elim (λ run. run.run.in_segment) (λ owns. owns.in_segment) may.chunk

  -- ── the words of the header ──

  pub header_outside : (w k : ℕ) → w ≡ g.header + k → k < 16 → IsOutsidePages g.first pages w
  header_outside w k is lt = ⊎_elim (λ before. inl (omega (arith, is, lt, before))) (λ behind. inr (omega (arith, is, behind))) may.apart

  pub header_elsewhere : (w k : ℕ) → w ≡ g.header + k → k < 16 → k ≢ count + 1 → IsElsewhere g.lane owner g.first pages w
  header_elsewhere w k is lt apart =
      let place = may.header_is k lt in
      let lane = may.lane_is in
      let outside : (n : ℕ) → n < 3 → w ≢ 576 + 8 * g.lane + n = λ n small e. ⊎_elim (λ low. omega (arith, low, is, e, lane, small)) (λ high. omega (arith, high, is, e, lane, small)) place.outside_lanes in
      let free = place.no_descriptor in
      record {
        outside_lane = (outside 0 (omega arith), outside 1 (omega arith), outside 2 (omega arith));
        no_owner = λ e. apart (omega (arith, e, is));
        no_descriptor = λ page from to e. omega (arith, e, is, free);
        no_bitmap = λ e. ⊎_elim (λ before. omega (arith, is, lt, before, e)) (λ behind. omega (arith, is, behind, e, some_pages)) may.apart;
      }

  -- what is kept elsewhere keeps the places of the array
  module _ (words : List ℕ) (size : length words ≡ length base)
      (others : (w : ℕ) → IsElsewhere g.lane owner g.first pages w → w ≢ g.header → IsOutsidePages g.first pages w → get_or words w 0 ≡ get_or base w 0) where
    pub keeps_from : KeepsArray base g words
    keeps_from = record {
      size = size;
      places = λ index lt.
          let below = (chunk_below index (chunk_count base g.header) (omega (arith, may.count)) lt).0 in
          let k = chunk_of index in
          let at : g.header + 1 + k ≡ g.header + (k + 1) = omega arith in
          let same = others (g.header + 1 + k) (header_elsewhere (g.header + 1 + k) (k + 1) at (omega (arith, below, may.count)) (λ e. omega (arith, e, below)))
          (λ e. omega (arith, e)) (header_outside (g.header + 1 + k) (k + 1) at (omega (arith, below, may.count))) in
          ap (λ (word : ℕ). place_in word + (index - capacity_of (chunk_of index))) same;
      others = others;
    }

  -- ── while the chunk is allocated ──

  pub shows_ungrown : (blocks : List Block) (word : ℕ) (words : List ℕ) → Shows g.lane owner g.first pages base blocks word words
      → ((live_blocks words ≡ blocks) → (get_or words owner 0 ≡ word) → HasNoChunk base g words ⊎ HasChunk base g words) → IsUngrown base g words
  shows_ungrown blocks word words shows chunk = record {
    keeps = keeps_from words shows.keeps.size (λ w away _ _. shows.keeps.each w away);
    capacity_is = ap capacity_of (shows.keeps.each g.header (header_elsewhere g.header 0 (omega arith) (omega arith) (λ e. omega (arith, e))));
    chunk = chunk shows.blocks_are shows.word_is;
  }

  -- ── once the array owns the chunk ──

  abbrev After : List ℕ → List ℕ
  After words = finished (publishing_parts g.header count g.first pages) words

  pub record AtChunk (now : List ℕ) : Type 0 where
    pub size : length now ≡ length base
    pub op : get_or now (lane_op_at g.lane) 0 ≡ 0
    pub count_is : get_or now g.header 0 ≡ chunk_count base g.header
    pub named : get_or now (next_pointer_at base g.header) 0 ≡ pointer_word (page_at g.first)
    pub live : Contains (live_blocks now) (chunk_block (next_chunk base g))
    pub no_bitmap : is_small_page now (page_of g.header) ≡ true → g.header % 512 ≢ 0
    pub others : (w : ℕ) → IsElsewhere g.lane (next_pointer_at base g.header) g.first (chunk_pages (chunk_count base g.header)) w → get_or now w 0 ≡ get_or base w 0
    pub ends : finished (growth_parts base g) base ≡ finished (publishing_parts g.header (chunk_count base g.header) g.first (chunk_pages (chunk_count base g.header))) now

  -- the same words, but for the count and the chunk's words
  pub record SameButArray (now words : List ℕ) : Type 0 where
    pub size : length words ≡ length now
    pub each : (w : ℕ) → IsOutsidePages g.first (chunk_pages (chunk_count base g.header)) w → w ≢ g.header → get_or words w 0 ≡ get_or now w 0

  module _ (now : List ℕ) (at : AtChunk now) where
    head : (is_inside now g.first ≡ false) × (descriptor_of now g.first ≡ 16 + pages)
    head = let (page, lt, of) = page_of_block now (chunk_block (next_chunk base g)) at.live in ⊎_elim (no_slot page) (is_head page) of
      where
        no_slot : (page : ℕ) → IsSmallOf now page (chunk_block (next_chunk base g)) → (is_inside now g.first ≡ false) × (descriptor_of now g.first ≡ 16 + pages)
        no_slot page of =
            let class = small_class (descriptor_of now page) of.small in
            let fits = slot_fits (class_of now page) of.slot (omega (arith, class.1)) of.within in
            let size : slot_words (class_of now page) ≡ 512 * chunk_pages (chunk_count base g.header) = ap (λ (b : Block). b.words) of.block_is in
            absurd (omega (arith, fits, size, some_pages))

        is_head : (page : ℕ) → IsBigOf now page (chunk_block (next_chunk base g)) → (is_inside now g.first ≡ false) × (descriptor_of now g.first ≡ 16 + pages)
        is_head page of =
            let first : page_at page ≡ page_at g.first = ap (λ (b : Block). b.first) of.block_is in
            let size : 512 * (descriptor_of now page - 16) ≡ 512 * chunk_pages (chunk_count base g.header) = ap (λ (b : Block). b.words) of.block_is in
            let big = (big_pages (descriptor_of now page) of.big).0 in
            let same : page ≡ g.first = omega (arith, first) in
            let inside = ap (is_inside now) same in
            let descriptor = ap (descriptor_of now) same in
            (sym inside ∙ of.outside, omega (arith, descriptor, size, big))

    no_small : (page : ℕ) → g.first ≤ page → page < g.first + pages → is_small_page now page ≡ true → ⊥
    no_small page from to small =
        let parts = and_parts (not (is_inside now page)) (says_small (descriptor_of now page)) small in
        let outside = not-true (is_inside now page) parts.0 in
        let class = (small_class (descriptor_of now page) parts.1).1 in
        ⊎_elim
        (λ (same : page ≡ g.first). let is = ap (descriptor_of now) same in omega (arith, is, class, head.1, some_pages))
        (λ apart. let past = behind_block now g.first page head.0 outside (omega (arith, head.1, some_pages)) (omega (arith, head.1, in_segment)) (omega (arith, from, apart)) in
        omega (arith, past, head.1, to))
        (cases_eq page g.first)

    outside_or_in : (w : ℕ) → IsOutsidePages g.first pages w ⊎ ((page_at g.first ≤ w) × (w < page_at (g.first + pages)))
    outside_or_in w = ⊎_elim (λ before. inl (inl before)) (λ from. ⊎_elim (λ to. inr (from, to)) (λ behind. inl (inr behind)) (cases_lt w (page_at (g.first + chunk_pages (chunk_count base g.header))))) (cases_lt w (page_at g.first))

    descriptor_outside : (page : ℕ) → IsOutsidePages g.first pages (descriptor_at page)
    descriptor_outside page = ⊎_elim (λ out. out) (λ (from, to). absurd (omega (arith, from, to, in_segment, page_is.behind_header))) (outside_or_in (descriptor_at page))

    module _ (words : List ℕ) (same : SameButArray now words) where
      same_heap : SameHeap now words
      same_heap = record {
        size = same.size;
        pages = λ page. record {
          descriptor = same.each (descriptor_at page) (descriptor_outside page) (λ e. let free = (may.header_is 0 (omega arith)).no_descriptor in omega (arith, e, free));
          bitmap = λ small. same.each (page_at page)
              (⊎_elim (λ out. out) (λ (from, to). absurd (no_small page (omega (arith, from)) (omega (arith, to)) small)) (outside_or_in (page_at page)))
              (λ e. let here : page ≡ page_of g.header = omega (arith, e) in at.no_bitmap (ap (is_small_page now) (sym here) ∙ small) (omega (arith, e)));
        };
      }

      op_kept : get_or words (lane_op_at g.lane) 0 ≡ 0
      op_kept =
          let fixed = page_is.behind_fixed in let lane = may.lane_is in
          same.each (lane_op_at g.lane) (inl (omega (arith, fixed, lane)))
          (λ e. ⊎_elim (λ low. omega (arith, low, e)) (λ high. omega (arith, high, e, lane)) (may.header_is 0 (omega arith)).outside_lanes) ∙ at.op

      named_kept : get_or words owner 0 ≡ pointer_word (page_at g.first)
      named_kept = same.each owner (header_outside owner (chunk_count base g.header + 1) (omega arith) (omega (arith, may.count))) (λ e. omega (arith, e)) ∙ at.named

      keeps_words : KeepsArray base g words
      keeps_words = keeps_from words (same.size ∙ at.size) (λ w away no_header out. same.each w out no_header ∙ at.others w away)

    pub published : List ℕ
    published = set (words_after (punches g.first (chunk_pages (chunk_count base g.header))) now) g.header (chunk_count base g.header + 1)

    punched_same : (image : List ℕ) → IsBetween now (words_after (punches g.first pages) now) image → SameButArray now image
    punched_same image between = record { size = between.size; each = λ w out _. between-kept (punches g.first (chunk_pages (chunk_count base g.header))) now image w between (punches-out g.first (chunk_pages (chunk_count base g.header)) w out) }

    punched_count : (image : List ℕ) → IsBetween now (words_after (punches g.first pages) now) image → get_or image g.header 0 ≡ count
    punched_count image between =
        between-kept (punches g.first (chunk_pages (chunk_count base g.header))) now image g.header between (punches-out g.first (chunk_pages (chunk_count base g.header)) g.header (header_outside g.header 0 (omega arith) (omega arith))) ∙ at.count_is

    published_same : SameButArray now published
    unfolding published
    published_same =
        let punched = words_after (punches g.first (chunk_pages (chunk_count base g.header))) now in
        record {
          size = length-set punched g.header (chunk_count base g.header + 1) ∙ length-words_after (punches g.first (chunk_pages (chunk_count base g.header))) now;
          each = λ w out apart. get_or-set_other punched g.header w (chunk_count base g.header + 1) 0 apart
              ∙ words_after-kept (punches g.first (chunk_pages (chunk_count base g.header))) now w (punches-out g.first (chunk_pages (chunk_count base g.header)) w out);
        }

    published_count : get_or published g.header 0 ≡ count + 1
    unfolding published
    published_count =
        let punched = words_after (punches g.first (chunk_pages (chunk_count base g.header))) now in
        let there = (may.header_is 0 (omega arith)).in_image in
        get_or-set_same punched g.header (chunk_count base g.header + 1) 0 (omega (arith, there, at.size, length-words_after (punches g.first (chunk_pages (chunk_count base g.header))) now))

    published_zero : (w : ℕ) → page_at g.first ≤ w → w < page_at (g.first + pages) → get_or published w 0 ≡ 0
    unfolding published
    published_zero w from to =
        let punched = words_after (punches g.first (chunk_pages (chunk_count base g.header))) now in
        get_or-set_other punched g.header w (chunk_count base g.header + 1) 0 (λ e. ⊎_elim (λ before. omega (arith, before, e, from)) (λ behind. omega (arith, behind, e, to)) may.apart)
        ∙ punches-zero g.first (chunk_pages (chunk_count base g.header)) now w from to

    pub ends_published : finished (growth_parts base g) base ≡ published
    unfolding published
    ends_published = at.ends

    pub ends_count : get_or (finished (growth_parts base g) base) g.header 0 ≡ chunk_count base g.header + 1
    ends_count = ap (λ (words : List ℕ). get_or words g.header 0) ends_published ∙ published_count

    pub ends_idle : get_or (finished (growth_parts base g) base) (lane_op_at g.lane) 0 ≡ 0
    ends_idle = ap (λ (words : List ℕ). get_or words (lane_op_at g.lane) 0) ends_published ∙ op_kept published published_same

    pub blocks_kept : live_blocks (finished (growth_parts base g) base) ≡ live_blocks now
    blocks_kept = ap live_blocks ends_published ∙ live_blocks-same now published (same_heap published published_same)

    pub ends_heap : SameHeap now (finished (growth_parts base g) base)
    ends_heap = subst (SameHeap now) (sym ends_published) (same_heap published published_same)

    has_chunk : (words : List ℕ) → SameButArray now words → HasChunk base g words
    has_chunk words same = record { blocks_are = live_blocks-same now words (same_heap words same) ∙ sym blocks_kept; named = named_kept words same }

    ungrown : (image : List ℕ) → IsBetween now (words_after (punches g.first pages) now) image → IsUngrown base g image
    ungrown image between = record {
      keeps = keeps_words image (punched_same image between);
      capacity_is = ap capacity_of (punched_count image between);
      chunk = inr (has_chunk image (punched_same image between));
    }

    pub grown : IsGrown base g published
    grown = record {
      keeps = keeps_words published published_same;
      capacity_is = ap capacity_of published_count;
      new_words = λ index from to.
          let n = chunk_count base g.header in
          let end = ap capacity_of published_count in
          let here = chunk_is n index may.count from (omega (arith, to, end)) in
          let chunk : g.header + 1 + chunk_of index ≡ g.header + 1 + n = omega (arith, here) in
          let pointer = ap (λ (w : ℕ). place_in (get_or published w 0)) chunk ∙ ap place_in (named_kept published published_same) ∙ place_in-pointer (page_at g.first) in
          let before = ap capacity_of here in
          let next = capacity_next n in
          published_zero (place_of published g.header index) (omega (arith, pointer)) (omega (arith, pointer, before, next, to, end, from));
      chunk = has_chunk published published_same;
    }

    abbrev Mended : List ℕ → Type 0
    Mended image = (IsUngrown base g (mended_lane g.lane image)) ⊎ (IsGrown base g (mended_lane g.lane image))

    mended_ungrown : (image : List ℕ) → IsBetween now (words_after (punches g.first pages) now) image → (IsUngrown base g (mended_lane g.lane image)) ⊎ (IsGrown base g (mended_lane g.lane image))
    mended_ungrown image between = inl (subst (IsUngrown base g) (sym (mended-idle g.lane image (op_kept image (punched_same image between)))) (ungrown image between))

    pub mended_published : mended_lane g.lane published ≡ published
    mended_published = mended-idle g.lane published (op_kept published published_same)

    mended_grown : (IsUngrown base g (mended_lane g.lane published)) ⊎ (IsGrown base g (mended_lane g.lane published))
    mended_grown = inr (subst (IsGrown base g) (sym mended_published) grown)

    pub publishing_cuts : EachCut (λ image. (IsUngrown base g (mended_lane g.lane image)) ⊎ (IsGrown base g (mended_lane g.lane image))) (publishing_parts g.header count g.first pages) now
    unfolding published
    publishing_cuts =
        let punched = words_after (punches g.first (chunk_pages (chunk_count base g.header))) now in (
          mended_ungrown,
          (
            cut-one_store (λ image. (IsUngrown base g (mended_lane g.lane image)) ⊎ (IsGrown base g (mended_lane g.lane image))) g.header (chunk_count base g.header + 1) punched
                (mended_ungrown punched (between-end (punches g.first (chunk_pages (chunk_count base g.header))) now)) mended_grown,
            mended_grown,
          ),
        )
