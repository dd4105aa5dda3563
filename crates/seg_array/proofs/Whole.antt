-- The growth of an array as a whole: the chunk allocated or owned already, and then published.
use Rattle.std.proofs.Common.{◌≡◌, ◌≢◌, ◌⊎◌, inl, inr, ⊎_elim, ℕ, ◌+◌, ◌*◌, ◌/◌, ◌%◌, ◌<◌, eqb, List, [], ◌++◌, length, get_or, refl, sym, ◌∙◌, ap, subst, arith}
use Rattle.std.proofs.lemmas.Bool.{cond-true, cond-false, eq-eqb, ne_eqb}
use Rattle.image_layout.specs.Pointer.{pointer_word}
use Rattle.image_layout.specs.Places.{page_of, page_at}
use Rattle.pm_model.specs.Plans.{Part, EachCut, IsPlan, finished}
use Rattle.image_layout.specs.Blocks.{Block, live_blocks}
use Rattle.pm_model.proofs.Cuts.{store_part, finished-append, plan-append, each_cut-append, each_cut-map}
use Rattle.heap_palloc.specs.Lane.{mended_lane}
use Rattle.heap_palloc.specs.Parts.{big_allocation_parts}
use Rattle.heap_palloc.specs.Shown.{GainsOne}
use Rattle.heap_palloc.specs.Law.{Shows, Allocates, IsOwnerPlace, Pages, pages_allocation, MayTakeRun}
use Rattle.heap_palloc.proofs.Stages.{pointer-some}
use Rattle.heap_palloc.proofs.Changes.{change_settles}
use Rattle.heap_palloc.proofs.GivenBack.{take_run_plan, take_run_allocates}
use Rattle.heap_palloc.proofs.Settled.{gained_live}
use Rattle.image_layout.specs.Arrays.{chunk_pages, chunk_count}
use Rattle.seg_array.specs.Growth.{Growth, next_pointer_at, next_chunk, chunk_block, allocating_parts, publishing_parts, growth_parts, OwnsChunk, MayGrow}
use Rattle.seg_array.specs.Shown.{IsUngrown, IsGrown}
use Rattle.seg_array.proofs.Punches.{punches-part}
use Rattle.seg_array.proofs.SmallPages.{taken-small}
use Rattle.seg_array.proofs.Growing.{AtChunk, in_image, header_elsewhere, shows_ungrown, publishing_cuts, grown, mended_published, ends_published, blocks_kept}

-- the parts before the punches
pub taking_is : (base : List ℕ) (chunk : Pages) → get_or base chunk.owner 0 ≡ 0 → allocating_parts base chunk ≡ big_allocation_parts base chunk.pages (pages_allocation chunk)
taking_is base chunk none = cond-true (eqb (get_or base chunk.owner 0) 0) (big_allocation_parts base chunk.pages (pages_allocation chunk)) [] (eq-eqb (get_or base chunk.owner 0) 0 none)

pub owning_is : (base : List ℕ) (chunk : Pages) → get_or base chunk.owner 0 ≢ 0 → allocating_parts base chunk ≡ []
owning_is base chunk some = cond-false (eqb (get_or base chunk.owner 0) 0) (big_allocation_parts base chunk.pages (pages_allocation chunk)) [] (ne_eqb (get_or base chunk.owner 0) 0 some)

module _ (base : List ℕ) (g : Growth) (may : MayGrow base g) where
  abbrev count : ℕ
  count = chunk_count base g.header

  abbrev pages : ℕ
  pages = chunk_pages (chunk_count base g.header)

  abbrev publishing : List Part
  publishing = publishing_parts g.header (chunk_count base g.header) g.first (chunk_pages (chunk_count base g.header))

  abbrev Mended : List ℕ → Type 0
  Mended image = (IsUngrown base g (mended_lane g.lane image)) ⊎ (IsGrown base g (mended_lane g.lane image))

  header_place : IsOwnerPlace base g.header
  header_place = let same : g.header + 0 ≡ g.header = omega arith in subst (IsOwnerPlace base) same (may.header_is 0 (omega arith))

  publishing_plan : IsPlan (length base) (publishing_parts g.header count g.first pages)
  publishing_plan =
      let there = (may.header_is 0 (omega arith)).in_image in
      (punches-part (length base) g.first (chunk_pages (chunk_count base g.header)) (omega (arith, in_image base g may)), (store_part (length base) g.header (chunk_count base g.header + 1) (omega (arith, there)), tt))

  -- ── the array owns the chunk ──

  module _ (owns : OwnsChunk base (next_chunk base g)) where
    pub owner_some : get_or base (next_pointer_at base g.header) 0 ≢ 0
    owner_some e = pointer-some (page_at g.first) (sym owns.named ∙ e)

    owned_parts : growth_parts base g ≡ publishing_parts g.header count g.first pages
    owned_parts = ap (λ (parts : List Part). parts ++ publishing_parts g.header (chunk_count base g.header) g.first (chunk_pages (chunk_count base g.header))) (owning_is base (next_chunk base g) owner_some)

    pub owned_at : AtChunk base g may base
    owned_at = record {
      size = refl;
      op = may.idle;
      count_is = refl;
      named = owns.named;
      live = owns.live;
      no_bitmap = header_place.no_bitmap;
      others = λ w away. refl;
      ends = ap (λ (parts : List Part). finished parts base) owned_parts;
    }

    pub owned_cuts : EachCut (λ image. (IsUngrown base g (mended_lane g.lane image)) ⊎ (IsGrown base g (mended_lane g.lane image))) (growth_parts base g) base
    owned_cuts = subst (λ (parts : List Part). EachCut (λ image. (IsUngrown base g (mended_lane g.lane image)) ⊎ (IsGrown base g (mended_lane g.lane image))) parts base) (sym owned_parts) (publishing_cuts base g may base owned_at)

    pub owned_plan : IsPlan (length base) (growth_parts base g)
    owned_plan = subst (IsPlan (length base)) (sym owned_parts) publishing_plan

  -- ── the chunk is allocated ──

  module _ (run : MayTakeRun base (next_chunk base g)) where
    taking : List Part
    taking = big_allocation_parts base (next_chunk base g).pages (pages_allocation (next_chunk base g))

    abbrev pub taken : List ℕ
    taken = finished (big_allocation_parts base (next_chunk base g).pages (pages_allocation (next_chunk base g))) base

    taken_parts : growth_parts base g ≡ taking ++ publishing_parts g.header count g.first pages
    unfolding taking
    taken_parts = ap (λ (parts : List Part). parts ++ publishing_parts g.header (chunk_count base g.header) g.first (chunk_pages (chunk_count base g.header))) (taking_is base (next_chunk base g) run.unowned)

    allocates : Allocates (pages_allocation (next_chunk base g)) g.first pages (512 * pages) taking base
    unfolding taking
    allocates = take_run_allocates base (next_chunk base g) run

    shown : Shows g.lane (next_pointer_at base g.header) g.first pages base (live_blocks taken) (pointer_word (page_at g.first)) taken
    unfolding taking
    shown = change_settles g.lane (next_pointer_at base g.header) g.first (chunk_pages (chunk_count base g.header)) base (live_blocks base) 0 (live_blocks taken) (pointer_word (page_at g.first)) taking base allocates.changes

    pub gained : GainsOne (live_blocks base) (chunk_block (next_chunk base g)) (live_blocks taken)
    unfolding taking
    gained = allocates.gains

    pub taken_at : AtChunk base g may taken
    unfolding taking
    taken_at = record {
      size = shown.keeps.size;
      op = allocates.changes.idle;
      count_is = shown.keeps.each g.header (header_elsewhere base g may g.header 0 (omega arith) (omega arith) (λ e. omega (arith, e)));
      named = shown.word_is;
      live = gained_live (live_blocks base) (live_blocks taken) (chunk_block (next_chunk base g)) gained;
      no_bitmap = λ small e.
          let free = header_place.no_descriptor in
          ⊎_elim
          (λ header_page. header_place.no_bitmap (taken-small base (next_chunk base g) run (page_of g.header) header_page small) e)
          (λ first_page. omega (arith, first_page, e, free))
          (page_kind (g.header / 512));
      others = shown.keeps.each;
      ends = ap (λ (parts : List Part). finished parts base) taken_parts ∙ finished-append taking (publishing_parts g.header (chunk_count base g.header) g.first (chunk_pages (chunk_count base g.header))) base;
    }
      where
        page_kind : (n : ℕ) → (0 < n % 64) ⊎ (n % 64 ≡ 0)
        page_kind n = grind arith

    pub taken_cuts : EachCut (λ image. (IsUngrown base g (mended_lane g.lane image)) ⊎ (IsGrown base g (mended_lane g.lane image))) (growth_parts base g) base
    unfolding taking
    taken_cuts =
        let P : List ℕ → Type 0 = λ image. (IsUngrown base g (mended_lane g.lane image)) ⊎ (IsGrown base g (mended_lane g.lane image)) in
        subst (λ (parts : List Part). EachCut P parts base) (sym taken_parts)
        (each_cut-append P taking (publishing_parts g.header (chunk_count base g.header) g.first (chunk_pages (chunk_count base g.header))) base
        (each_cut-map _ P taking base (λ image. ⊎_elim (λ before. inl (before_is image before)) (λ after. inl (after_is image after))) allocates.changes.cuts)
        (publishing_cuts base g may taken taken_at))
      where
        before_is : (image : List ℕ) → Shows g.lane (next_pointer_at base g.header) g.first (chunk_pages (chunk_count base g.header)) base (live_blocks base) 0 (mended_lane g.lane image) → IsUngrown base g (mended_lane g.lane image)
        before_is image shows = shows_ungrown base g may (live_blocks base) 0 (mended_lane g.lane image) shows (λ blocks word. inl (record { blocks_are = blocks; named = word ∙ sym run.unowned }))

        after_is : (image : List ℕ) → Shows g.lane (next_pointer_at base g.header) g.first (chunk_pages (chunk_count base g.header)) base (live_blocks taken) (pointer_word (page_at g.first)) (mended_lane g.lane image) → IsUngrown base g (mended_lane g.lane image)
        after_is image shows = shows_ungrown base g may (live_blocks taken) (pointer_word (page_at g.first)) (mended_lane g.lane image) shows
            (λ blocks word. inr (record { blocks_are = blocks ∙ sym (blocks_kept base g may taken taken_at); named = word }))

    pub taken_plan : IsPlan (length base) (growth_parts base g)
    unfolding taking
    taken_plan = subst (IsPlan (length base)) (sym taken_parts)
        (plan-append (length base) taking (publishing_parts g.header (chunk_count base g.header) g.first (chunk_pages (chunk_count base g.header))) (take_run_plan base (next_chunk base g) run) publishing_plan)

  -- ── either way ──

  pub growth_plan : IsPlan (length base) (growth_parts base g)
  growth_plan = ⊎_elim taken_plan owned_plan may.chunk

  pub growth_cuts : EachCut (λ image. (IsUngrown base g (mended_lane g.lane image)) ⊎ (IsGrown base g (mended_lane g.lane image))) (growth_parts base g) base
  growth_cuts = ⊎_elim taken_cuts owned_cuts may.chunk

  ended_by : (now : List ℕ) → AtChunk base g may now → IsGrown base g (finished (growth_parts base g) base) × (mended_lane g.lane (finished (growth_parts base g) base) ≡ finished (growth_parts base g) base)
  ended_by now at =
      let is = sym (ends_published base g may now at) in
      (subst (IsGrown base g) is (grown base g may now at), subst (λ (words : List ℕ). mended_lane g.lane words ≡ words) is (mended_published base g may now at))

  pub growth_ended : IsGrown base g (finished (growth_parts base g) base) × (mended_lane g.lane (finished (growth_parts base g) base) ≡ finished (growth_parts base g) base)
  growth_ended = ⊎_elim (λ run. ended_by (taken run) (taken_at run)) (λ owns. ended_by base (owned_at owns)) may.chunk

  pub growth_allocates : get_or base (next_pointer_at base g.header) 0 ≡ 0 → GainsOne (live_blocks base) (chunk_block (next_chunk base g)) (live_blocks (finished (growth_parts base g) base))
  growth_allocates none = ⊎_elim
      (λ run. subst (λ (blocks : List Block). GainsOne (live_blocks base) (chunk_block (next_chunk base g)) blocks) (sym (blocks_kept base g may (taken run) (taken_at run))) (gained run))
      (λ owns. absurd (owner_some owns none)) may.chunk

  pub growth_owned : get_or base (next_pointer_at base g.header) 0 ≢ 0 → live_blocks (finished (growth_parts base g) base) ≡ live_blocks base
  growth_owned some = ⊎_elim (λ run. absurd (some run.unowned)) (λ owns. blocks_kept base g may base (owned_at owns)) may.chunk
