-- The words once the block of a new table is allocated, and once the table is published.
use Rattle.std.proofs.Common.{◌≡◌, ◌≢◌, ◌⊎◌, inl, inr, ⊎_elim, ℕ, ◌+◌, ◌-◌, ◌%◌, ◌<◌, ◌≤◌, List, length, get_or, set, sym, ◌∙◌, ap, subst, arith}
use Rattle.std.specs.Prelude.{Contains}
use Rattle.std.proofs.lemmas.Bool.{cases_lt}
use Rattle.std.proofs.lemmas.List.{get_or-set_other, length-set}
use Rattle.image_layout.specs.Fixed.{descriptor_at, table_count_at}
use Rattle.image_layout.specs.Places.{page_of, page_at}
use Rattle.pm_model.specs.Plans.{words_after, finished, IsPlan}
use Rattle.image_layout.specs.Blocks.{is_small_page, live_blocks}
use Rattle.image_layout.specs.Tables.{table_count}
use Rattle.pm_model.proofs.Alone.{length-words_after}
use Rattle.pm_model.proofs.Cuts.{store_part, finished-append, length-finished, plan-append}
use Rattle.pm_model.proofs.PlanLaw.{words_after-kept}
use Rattle.heap_palloc.specs.Calls.{KeepsHeapRules}
use Rattle.heap_palloc.specs.Choice.{Choice, in_page, on_new_page, in_run, choice_allocation, choice_block, choice_parts, choice_page, choice_pages}
use Rattle.heap_palloc.specs.Index.{HeapIndex, IsIndexOf}
use Rattle.heap_palloc.specs.Law.{Allocates, IsOwnerPlace}
use Rattle.heap_palloc.proofs.Choices.{choice_plan, choice_allocates}
use Rattle.heap_palloc.proofs.Dests.{dest_place}
use Rattle.heap_palloc.proofs.LiveBlocks.{SameHeap}
use Rattle.heap_palloc.proofs.RulesKept.{choice_rules}
use Rattle.heap_palloc.proofs.Settled.{gained_live}
use Rattle.heap_palloc.proofs.SameHeaps.{index_kept}
use Rattle.shown_state.specs.Mending.{fill_from}
use Rattle.catalog.specs.Creation.{Creation, MayCreate, new_block, table_record, publishing_parts, creation_parts}
use Rattle.catalog.proofs.Filling.{length-table_record}
use Rattle.catalog.proofs.Filled.{filled-out, filled-part}

module _ (base : List ℕ) (whole : length base % 32768 ≡ 0) (some : 32768 ≤ length base) (rules : KeepsHeapRules base) (c : Creation) (may : MayCreate base c) where
  -- the words once the block is allocated
  abbrev pub taken : List ℕ
  taken = finished (choice_parts base c.choice) base

  abbrev values : List ℕ
  values = table_record c.name c.columns

  pub taken_size : length taken ≡ length base
  taken_size = length-finished (choice_parts base c.choice) base

  pub taken_rules : KeepsHeapRules taken
  taken_rules = choice_rules base c.choice rules may.may

  pub allocates : Allocates (choice_allocation base c.choice) (choice_page c.choice) (choice_pages c.choice) (choice_block c.choice).words (choice_parts base c.choice) base
  allocates = choice_allocates base c.choice may.may

  pub taken_live : Contains (live_blocks taken) (choice_block c.choice)
  taken_live = live c.choice allocates
    where
      live : (choice : Choice) → Allocates (choice_allocation base choice) (choice_page choice) (choice_pages choice) (choice_block choice).words (choice_parts base choice) base → Contains (live_blocks (finished (choice_parts base choice) base)) (choice_block choice)
      live (in_page s) is = gained_live (live_blocks base) (live_blocks (finished (choice_parts base (in_page s)) base)) (choice_block (in_page s)) is.gains
      live (on_new_page s) is = gained_live (live_blocks base) (live_blocks (finished (choice_parts base (on_new_page s)) base)) (choice_block (on_new_page s)) is.gains
      live (in_run r) is = gained_live (live_blocks base) (live_blocks (finished (choice_parts base (in_run r)) base)) (choice_block (in_run r)) is.gains

  -- a word of the block is no bitmap and no descriptor
  pub block_word : (w : ℕ) → new_block c ≤ w → w < new_block c + (choice_block c.choice).words → IsOwnerPlace taken w
  block_word w low high =
      let size = taken_size in
      (dest_place taken (ap (λ (n : ℕ). n % 32768) taken_size ∙ whole) (omega (arith, size, some)) taken_rules w (inr (choice_block c.choice, taken_live, low, high))).owner_is

  -- the words that the record takes
  pub record_size : length values ≤ (choice_block c.choice).words
  record_size = omega (arith, may.room, length-table_record c.name c.columns)

  pub record_within : new_block c + length values ≤ length taken
  record_within =
      let size = length-table_record c.name c.columns in
      let last = (block_word (new_block c + length values - 1) (omega (arith, size)) (omega (arith, size, record_size))).in_image in
      omega (arith, last, size)

  -- outside the block's record and the count
  pub record Same (words : List ℕ) : Type 0 where
    pub size : length words ≡ length (finished (choice_parts base c.choice) base)
    pub each : (w : ℕ) → (w < new_block c) ⊎ (new_block c + length (table_record c.name c.columns) ≤ w) → w ≢ table_count_at → get_or words w 0 ≡ get_or (finished (choice_parts base c.choice) base) w 0

  -- a word of the record, or not
  where_is : (w : ℕ) → ((w < new_block c) ⊎ (new_block c + length values ≤ w)) ⊎ ((new_block c ≤ w) × (w < new_block c + length values))
  where_is w = ⊎_elim (λ before. inl (inl before)) (λ from. ⊎_elim (λ to. inr (from, to)) (λ behind. inl (inr behind)) (cases_lt w (new_block c + length (table_record c.name c.columns)))) (cases_lt w (new_block c))

  pub same_heap : (words : List ℕ) → Same words → SameHeap taken words
  same_heap words same = record {
    size = same.size;
    pages = λ page. record {
      descriptor = ⊎_elim (λ out. same.each (descriptor_at page) out (λ e. omega (arith, e)))
          (λ (from, to). let free = (block_word (descriptor_at page) from (omega (arith, to, record_size))).no_descriptor in absurd (omega (arith, free))) (where_is (descriptor_at page));
      bitmap = λ small. ⊎_elim (λ out. same.each (page_at page) out (λ e. omega (arith, e)))
          (λ (from, to). let here : page ≡ page_of (page_at page) = omega arith in absurd ((block_word (page_at page) from (omega (arith, to, record_size))).no_bitmap (ap (is_small_page (finished (choice_parts base c.choice) base)) (sym here) ∙ small) (omega arith))) (where_is (page_at page));
    };
  }

  -- ── published ──

  abbrev pub filled : List ℕ
  filled = words_after (fill_from (new_block c) (table_record c.name c.columns)) (finished (choice_parts base c.choice) base)

  abbrev pub published : List ℕ
  published = set filled table_count_at (table_count base + 1)

  pub filled_same : Same filled
  filled_same = record {
    size = length-words_after (fill_from (new_block c) (table_record c.name c.columns)) taken;
    each = λ w out _. words_after-kept (fill_from (new_block c) (table_record c.name c.columns)) taken w (filled-out (new_block c) (table_record c.name c.columns) w out);
  }

  pub published_same : Same published
  published_same = record {
    size = length-set filled table_count_at (table_count base + 1) ∙ filled_same.size;
    each = λ w out apart. get_or-set_other filled table_count_at w (table_count base + 1) 0 apart ∙ filled_same.each w out apart;
  }

  pub ends_published : finished (creation_parts base c) base ≡ published
  ends_published = finished-append (choice_parts base c.choice) (publishing_parts (new_block c) (table_record c.name c.columns) (table_count base)) base

  pub created_index : (index : HeapIndex) → IsIndexOf taken index → IsIndexOf (finished (creation_parts base c) base) index
  created_index index is = subst (λ (words : List ℕ). IsIndexOf words index) (sym ends_published) (index_kept taken published index (same_heap published published_same) is)

  pub creation_plan : IsPlan (length base) (creation_parts base c)
  creation_plan =
      let within = record_within in
      let size = taken_size in
      plan-append (length base) (choice_parts base c.choice) (publishing_parts (new_block c) (table_record c.name c.columns) (table_count base)) (choice_plan base c.choice may.may)
      (filled-part (length base) (new_block c) (table_record c.name c.columns) (omega (arith, within, size)), (store_part (length base) table_count_at (table_count base + 1) (omega (arith, some)), tt))
