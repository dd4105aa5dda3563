-- What planning a growth relies on lets the growth begin.
use Rattle.std.proofs.Common.{◌≡◌, ◌≢◌, ◌⊎◌, inl, inr, ⊎_elim, ℕ, ◌+◌, ◌*◌, ◌/◌, ◌<◌, ◌≤◌, min, true, List, [], ◌++◌, length, get_or, refl, sym, ◌∙◌, ap, subst, append-nil, arith, pow_mono}
use Rattle.std.specs.Prelude.{Contains}
use Rattle.std.proofs.lemmas.Nat.{pow_pos}
use Rattle.std.proofs.lemmas.Bool.{cases_lt}
use Rattle.std.proofs.lemmas.Grind.{flat_map-append}
use Rattle.pm_model.specs.declared.action.Action.{Action}
use Rattle.image_layout.specs.Pointer.{pointer_word}
use Rattle.image_layout.specs.Places.{page_at, page_count, place_in}
use Rattle.pm_model.specs.Device.{Device, IsWhole}
use Rattle.pm_model.specs.Plans.{Part, plan_of, finished, part_actions}
use Rattle.image_layout.specs.Blocks.{Block, slot_words, descriptor_of, class_of, is_free_page, live_blocks}
use Rattle.image_layout.proofs.Heap.{slot_fits, page_of_block, small_class, IsSmallOf, IsBigOf, free_pages_unused}
use Rattle.heap_big.specs.declared.run.Run.{Run}
use Rattle.heap_big.specs.Fit.{TakesBestFit}
use Rattle.heap_palloc.specs.Parts.{big_allocation_parts}
use Rattle.heap_palloc.specs.Law.{IsOwnerPlace, IsHeapPage, Pages, pages_allocation, MayTakeRun}
use Rattle.heap_palloc.specs.Index.{HeapIndex, IsIndexOf}
use Rattle.heap_palloc.specs.Choice.{Choice, in_page, on_new_page, in_run, IsThrough, IsChosen}
use Rattle.heap_palloc.specs.Calls.{IsDest, MayCall, IsPlanned, IsAllocated}
use Rattle.heap_palloc.proofs.BigBlocks.{run_was_free}
use Rattle.heap_palloc.proofs.BigPlans.{take_heads}
use Rattle.heap_palloc.proofs.GivenBack.{cleaned, cleaned_forgets, cleaned_may, forgets_free}
use Rattle.heap_palloc.proofs.Dests.{dest_place, big_heap_page}
use Rattle.heap_palloc.proofs.SameHeaps.{index_kept}
use Rattle.heap_palloc.proofs.Lengths.{taking_length}
use Rattle.image_layout.specs.Arrays.{chunk_pages, chunk_words, chunk_count}
use Rattle.seg_array.specs.Growth.{Growth, next_pointer_at, next_chunk, allocating_parts, publishing_parts, growth_parts, MayGrow}
use Rattle.seg_array.specs.Calls.{MayPlanGrowth, OwnsNext, IsChunkPlanned, IsGrowthPlanned}
use Rattle.seg_array.proofs.Headers.{NamesChunk, owned, at_most_12}
use Rattle.seg_array.proofs.Growing.{in_image, ends_heap}
use Rattle.seg_array.proofs.Whole.{taking_is, owning_is, taken, taken_at, owned_at, owner_some}

-- ── how large a chunk is ──

pub pages_some : (chunk : ℕ) → 0 < chunk_pages chunk
pages_some chunk = pow_pos (min chunk 5)

pub pages_most : (chunk : ℕ) → chunk_pages chunk ≤ 32
pages_most chunk = pow_mono (at_most_5 (min chunk 5) chunk refl)
  where
    at_most_5 : (m k : ℕ) → m ≡ min k 5 → m ≤ 5
    at_most_5 m k e = omega (arith, e)

-- ── the index of the heap ──

pub growth_index : (words : List ℕ) (g : Growth) (index : HeapIndex) → MayGrow words g → IsIndexOf (finished (allocating_parts words (next_chunk words g)) words) index → IsIndexOf (finished (growth_parts words g) words) index
growth_index words g index may is = ⊎_elim
    (λ run. index_kept (taken words g may run) (finished (growth_parts words g) words) index (ends_heap words g may (taken words g may run) (taken_at words g may run))
    (subst (λ (parts : List Part). IsIndexOf (finished parts words) index) (taking_is words (next_chunk words g) run.unowned) is))
    (λ owns. index_kept words (finished (growth_parts words g) words) index (ends_heap words g may words (owned_at words g may owns))
    (subst (λ (parts : List Part). IsIndexOf (finished parts words) index) (owning_is words (next_chunk words g) (owner_some words g may owns)) is))
    may.chunk

module _ (d : Device) (whole : IsWhole d) (index : HeapIndex) (lane header : ℕ) (may : MayPlanGrowth d.cached index lane header) where
  abbrev words : List ℕ
  words = d.cached

  abbrev count : ℕ
  count = chunk_count d.cached header

  abbrev pointer : ℕ
  pointer = get_or d.cached (next_pointer_at d.cached header) 0

  abbrev growth : ℕ → Growth
  growth first = record { lane = lane; header = header; first = first }

  -- ── the header ──

  pub header_dest : (k : ℕ) → k < 16 → IsDest d.cached (header + k)
  header_dest k lt =
      let low = may.header_is.begins in let high = may.header_is.ends in
      inr (may.header_is.block, may.header_is.live, omega (arith, low), omega (arith, high, lt))

  pub header_word : (k : ℕ) → k < 16 → IsOwnerPlace d.cached (header + k)
  header_word k lt = (dest_place d.cached whole.segments whole.one_or_more may.rules (header + k) (header_dest k lt)).owner_is

  pub header_in_image : header + 16 ≤ length d.cached
  header_in_image = let last = (header_word 15 (omega arith)).in_image in omega (arith, last)

  pub most_chunks : chunk_count d.cached header ≤ 12
  most_chunks = at_most_12 d.cached header may.rule

  -- ── the array owns the chunk ──

  module _ (lt : count < 12) (some : pointer ≢ 0) where
    pub named : NamesChunk d.cached (chunk_words count) pointer
    named = owned d.cached header may.rule lt some

    own : OwnsNext d.cached header
    own = may.owned lt some

    own_page : (page_at (place_in pointer / 512) ≡ place_in pointer) × IsHeapPage d.cached (place_in pointer / 512)
    own_page = let (page, within, of) = page_of_block d.cached _ own.live in ⊎_elim (no_slot page) (is_head page within) of
      where
        no_slot : (page : ℕ) → IsSmallOf d.cached page (record { first = place_in (get_or d.cached (next_pointer_at d.cached header) 0); words = chunk_words (chunk_count d.cached header) })
            → (page_at (place_in (get_or d.cached (next_pointer_at d.cached header) 0) / 512) ≡ place_in (get_or d.cached (next_pointer_at d.cached header) 0)) × IsHeapPage d.cached (place_in (get_or d.cached (next_pointer_at d.cached header) 0) / 512)
        no_slot page of =
            let class = small_class (descriptor_of d.cached page) of.small in
            let fits = slot_fits (class_of d.cached page) of.slot (omega (arith, class.1)) of.within in
            let size : slot_words (class_of d.cached page) ≡ 512 * chunk_pages (chunk_count d.cached header) = ap (λ (b : Block). b.words) of.block_is in
            absurd (omega (arith, fits, size, pages_some (chunk_count d.cached header)))

        is_head : (page : ℕ) → page < page_count d.cached → IsBigOf d.cached page (record { first = place_in (get_or d.cached (next_pointer_at d.cached header) 0); words = chunk_words (chunk_count d.cached header) })
            → (page_at (place_in (get_or d.cached (next_pointer_at d.cached header) 0) / 512) ≡ place_in (get_or d.cached (next_pointer_at d.cached header) 0)) × IsHeapPage d.cached (place_in (get_or d.cached (next_pointer_at d.cached header) 0) / 512)
        is_head page within of =
            let first : 512 * page ≡ place_in (get_or d.cached (next_pointer_at d.cached header) 0) = ap (λ (b : Block). b.first) of.block_is in
            let same : page ≡ place_in (get_or d.cached (next_pointer_at d.cached header) 0) / 512 = omega (arith, first) in
            (omega (arith, first), subst (IsHeapPage d.cached) same (big_heap_page d.cached may.rules page within of.big))

    pub owned_may : MayGrow d.cached (record { lane = lane; header = header; first = place_in pointer / 512 })
    owned_may =
        let at = own_page.0 in
        let begins = named.begins in
        let in_segment = named.in_segment in
        record {
          count = lt;
          header_is = header_word;
          apart = ⊎_elim (λ before. inl (omega (arith, before, at))) (λ behind. inr (omega (arith, behind, at))) own.apart;
          lane_is = may.lane_is;
          idle = may.idle;
          chunk = inr (record {
            named = named.word_is ∙ ap pointer_word (sym at);
            live = subst (λ (first : ℕ). Contains (live_blocks d.cached) (record { first = first; words = chunk_words (chunk_count d.cached header) })) (sym at) own.live;
            page_is = own_page.1;
            in_image = omega (arith, at, begins, in_segment, whole.segments);
            in_segment = omega (arith, at, in_segment);
          });
        }

    pub owned_planned : (before : List Action) → IsChunkPlanned d.cached index index lane header (place_in pointer / 512) before before
    owned_planned before =
        let parts = owning_is d.cached (next_chunk d.cached (record { lane = lane; header = header; first = place_in (get_or d.cached (next_pointer_at d.cached header) 0) / 512 })) some in
        record {
          may = owned_may;
          plan_is = sym (append-nil before) ∙ ap (λ (xs : List Part). before ++ plan_of xs) (sym parts);
          chosen = λ none. absurd (some none);
          kept = λ _. refl;
          index_of = subst (λ (xs : List Part). IsIndexOf (finished xs d.cached) index) (sym parts) may.index_of;
        }

  -- ── the chunk is allocated ──

  run_is : (r : Pages) (owner pages : ℕ) → r.lane ≡ lane → r.owner ≡ owner → r.pages ≡ pages → ◌≡◌ {A = Pages} r (record { lane = lane; owner = owner; first = r.first; pages = pages })
  run_is r owner pages a b c = ap (λ (l : ℕ). with l r.owner r.pages) a ∙ ap (λ (o : ℕ). with lane o r.pages) b ∙ ap (λ (p : ℕ). with lane owner p) c
    where
      with : ℕ → ℕ → ℕ → Pages
      with l o p = record { lane = l; owner = o; first = r.first; pages = p }

  -- the pages of the run were free, so the header isn't among them
  run_apart : (first pages : ℕ) → 0 < pages → first + pages ≤ page_count d.cached → ((page : ℕ) → first ≤ page → page < first + pages → is_free_page d.cached page ≡ true) → (header + 16 ≤ page_at first) ⊎ (page_at (first + pages) ≤ header)
  run_apart first pages some within free = ⊎_elim
      (λ meets. ⊎_elim (λ reaches. absurd (⊎_elim (λ low. clash (page_at first) (omega arith) (omega (arith, low)) (omega (arith, low, meets, reaches)) (omega (arith, some)))
      (λ high. clash header (omega (arith, high)) (omega arith) (omega arith) (omega (arith, reaches))) (cases_lt header (page_at first)))) (λ behind. inr behind) (cases_lt header (page_at (first + pages))))
      (λ before. inl before)
      (cases_lt (page_at first) (header + 16))
    where
      clash : (w : ℕ) → page_at first ≤ w → header ≤ w → w < header + 16 → w < page_at (first + pages) → ⊥
      clash w from low high to =
          let begins = may.header_is.begins in let ends = may.header_is.ends in
          ((free_pages_unused d.cached may.rules.reserved may.rules.descriptors (w / 512) (omega (arith, to, within))).0 (free (w / 512) (omega (arith, from)) (omega (arith, to)))).2
          may.header_is.block may.header_is.live (omega (arith, begins, low), omega (arith, ends, high))

  module _ (lt : count < 12) (none : pointer ≡ 0) where
    pub may_call : MayCall d.cached index lane (next_pointer_at d.cached header)
    may_call =
        let at : header + (chunk_count d.cached header + 1) ≡ next_pointer_at d.cached header = omega arith in
        record { rules = may.rules; index_of = may.index_of; lane_is = may.lane_is; idle = may.idle; dest_is = subst (IsDest d.cached) at (header_dest (chunk_count d.cached header + 1) (omega (arith, lt))) }

    module _ (after : HeapIndex) (left before : List Action) (first size : ℕ) where
      abbrev Planned : Type 0
      Planned = IsChunkPlanned d.cached index after lane header (first / 512) before (before ++ left)

      of_run : (r : Pages) → MayTakeRun d.cached r → left ≡ plan_of (big_allocation_parts d.cached r.pages (pages_allocation r)) → first ≡ page_at r.first
          → ((rest : List Run) × TakesBestFit index.free.runs r.pages (record { first = r.first; pages = r.pages }) rest) → IsIndexOf (finished (big_allocation_parts d.cached r.pages (pages_allocation r)) d.cached) after
          → r ≡ next_chunk d.cached (growth (first / 512)) → IsChunkPlanned d.cached index after lane header (first / 512) before (before ++ left)
      of_run r run left_is first_is best index_is same =
          let chunk : Pages = next_chunk d.cached (record { lane = lane; header = header; first = first / 512 }) in
          let taking : MayTakeRun d.cached chunk = subst (MayTakeRun d.cached) same run in
          let grow : MayGrow d.cached (record { lane = lane; header = header; first = first / 512 }) = record {
            count = lt;
            header_is = header_word;
            apart = run_apart chunk.first chunk.pages taking.run.some taking.run.in_image (λ page from to.
                sym (forgets_free d.cached (cleaned d.cached chunk taking) (cleaned_forgets d.cached chunk taking) page)
                ∙ run_was_free (cleaned d.cached chunk taking) _ chunk.first chunk.pages (take_heads (cleaned d.cached chunk taking) chunk (cleaned_may d.cached chunk taking)) page from to);
            lane_is = may.lane_is;
            idle = may.idle;
            chunk = inl taking;
          } in
          record {
            may = grow;
            plan_is = ap (λ (xs : List Action). before ++ xs) (left_is ∙ ap (λ (x : Pages). plan_of (big_allocation_parts d.cached x.pages (pages_allocation x))) same ∙ ap plan_of (sym (taking_is d.cached chunk none)));
            chosen = λ _. subst (λ (x : Pages). (rest : List Run) × TakesBestFit index.free.runs x.pages (record { first = x.first; pages = x.pages }) rest) same best;
            kept = λ some. absurd (some none);
            index_of = subst (λ (parts : List Part). IsIndexOf (finished parts d.cached) after) (sym (taking_is d.cached chunk none))
                (subst (λ (x : Pages). IsIndexOf (finished (big_allocation_parts d.cached x.pages (pages_allocation x)) d.cached) after) same index_is);
          }

      of_choice : (choice : Choice) → IsChosen d.cached index.free.runs (512 * chunk_pages count) choice → IsThrough lane (next_pointer_at d.cached header) choice → IsPlanned d.cached after choice left first size
          → IsChunkPlanned d.cached index after lane header (first / 512) before (before ++ left)
      of_choice (in_page s) chosen through planned = absurd (omega (arith, chosen.0, pages_some (chunk_count d.cached header)))
      of_choice (on_new_page s) chosen through planned = absurd (omega (arith, chosen.0, pages_some (chunk_count d.cached header)))
      of_choice (in_run r) chosen through planned =
          let first_page : first / 512 ≡ r.first = let at = planned.first_is in omega (arith, at) in
          let size_is : r.pages ≡ chunk_pages (chunk_count d.cached header) = omega (arith, chosen.1) in
          of_run r planned.may planned.plan_is planned.first_is chosen.2 planned.index_of
          (run_is r (next_pointer_at d.cached header) (chunk_pages (chunk_count d.cached header)) through.0 through.1 size_is
          ∙ ap (λ (f : ℕ). next_chunk d.cached (record { lane = lane; header = header; first = f })) (sym first_page))

      pub allocated_planned : IsAllocated d.cached index after lane (next_pointer_at d.cached header) (512 * chunk_pages count) left first size → IsChunkPlanned d.cached index after lane header (first / 512) before (before ++ left)
      allocated_planned made = of_choice made.choice made.chosen made.through made.planned

    pub allocated_here : (owner count_is size first : ℕ) (after : HeapIndex) (left : List Action) → owner ≡ next_pointer_at d.cached header → count_is ≡ 512 * chunk_pages count
        → IsAllocated d.cached index after lane owner count_is left first size → IsAllocated d.cached index after lane (next_pointer_at d.cached header) (512 * chunk_pages count) left first size
    allocated_here owner count_is size first after left at words_is made =
        subst (λ (n : ℕ). IsAllocated d.cached index after lane (next_pointer_at d.cached header) n left first size) words_is (subst (λ (o : ℕ). IsAllocated d.cached index after lane o count_is left first size) at made)

    pub allocated_length : (after : HeapIndex) (left : List Action) (first size : ℕ) → IsAllocated d.cached index after lane (next_pointer_at d.cached header) (512 * chunk_pages count) left first size → length left ≤ 2 * chunk_pages count + 18
    allocated_length after left first size made =
        let chunk : Pages = next_chunk d.cached (record { lane = lane; header = header; first = first / 512 }) in
        let planned = allocated_planned after left [] first size made in
        let is = ap (length {A = Action}) (planned.plan_is ∙ ap plan_of (taking_is d.cached chunk none)) in
        let most = taking_length d.cached (chunk_pages (chunk_count d.cached header)) (pages_allocation chunk) in
        omega (arith, is, most)

  -- the chunk's pages are pages of the device
  pub planned_page : (old new : HeapIndex) (first : ℕ) (before left : List Action) → IsChunkPlanned d.cached old new lane header first before left → first + chunk_pages count ≤ 8192
  planned_page old new first before left planned = omega (arith, in_image d.cached (record { lane = lane; header = header; first = first }) planned.may, whole.most)

-- ── the whole plan ──

pub grown_planned : (words : List ℕ) (old new : HeapIndex) (lane header first : ℕ) (before left : List Action) → before ≡ [] → IsChunkPlanned words old new lane header first before left → (plan : List Action)
    → plan ≡ left ++ plan_of (publishing_parts header (chunk_count words header) first (chunk_pages (chunk_count words header))) → IsGrowthPlanned words old new lane header plan
grown_planned words old new lane header first before left none chunk plan is = record {
  first = first;
  may = chunk.may;
  plan_is = is ∙ ap (λ (xs : List Action). xs ++ plan_of (publishing_parts header (chunk_count words header) first (chunk_pages (chunk_count words header)))) (chunk.plan_is ∙ ap (λ (xs : List Action). xs ++ plan_of (allocating_parts words (next_chunk words (record { lane = lane; header = header; first = first })))) none)
      ∙ sym (flat_map-append part_actions (allocating_parts words (next_chunk words (record { lane = lane; header = header; first = first }))) (publishing_parts header (chunk_count words header) first (chunk_pages (chunk_count words header))));
  chosen = chunk.chosen;
  kept = chunk.kept;
  index_of = growth_index words (record { lane = lane; header = header; first = first }) new chunk.may chunk.index_of;
}
