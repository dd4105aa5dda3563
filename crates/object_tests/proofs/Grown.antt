-- What the test of a table that is created and then grown carries from the creation to the growth.
use Rattle.std.proofs.Common.{◌≡◌, inr, ⊎_elim, ℕ, ◌+◌, ◌<◌, ◌≤◌, List, [], ◌∷◌, ◌++◌, length, get_or, refl, sym, ◌∙◌, ap, subst, arith}
use Rattle.std.specs.Prelude.{Contains, IfSome, Some, option_map, slice_get}
use Rattle.std.proofs.lemmas.Bool.{cases_eq}
use Rattle.mv_model.specs.declared.shape.Column.{Column}
use Rattle.pm_model.specs.declared.action.Action.{Action}
use Rattle.pm_model.specs.Device.{Device, IsWhole}
use Rattle.pm_model.specs.Plans.{Part, IsPlan, finished, plan_of}
use Rattle.image_layout.specs.Arrays.{chunk_pointer_at}
use Rattle.image_layout.specs.Blocks.{Block, live_blocks}
use Rattle.heap_palloc.specs.Calls.{IsSettled}
use Rattle.heap_palloc.specs.Choice.{choice_block}
use Rattle.heap_palloc.specs.Index.{HeapIndex}
use Rattle.heap_palloc.proofs.Dests.{dest_place}
use Rattle.heap_palloc.proofs.LiveBlocks.{live_blocks-same}
use Rattle.seg_array.specs.Calls.{IsHeader, IsGrowthPlanned, MayPlanGrowth}
use Rattle.seg_array.specs.Growth.{growth_by, growth_parts}
use Rattle.seg_array.proofs.Headers.{no_chunks}
use Rattle.seg_array.proofs.Whole.{growth_plan}
use Rattle.catalog.specs.Creation.{Creation, creation_by, creation_parts}
use Rattle.catalog.specs.Calls.{IsCreationPlanned, with_planned}
use Rattle.catalog.specs.Entries.{CatalogState, CatalogTable}
use Rattle.catalog.proofs.Creating.{taken_live, same_heap, published_same, ends_published, creation_plan}

-- the words of a header without chunks
abbrev pub Zeros : List ℕ → ℕ → ℕ → Type 0
Zeros words header count = (k : ℕ) → k < count → get_or words (header + k) 0 ≡ 0

pub zeros_more : (words : List ℕ) (header count word : ℕ) → Zeros words header count → word ≡ get_or words (header + count) 0 → word ≡ 0 → Zeros words header (count + 1)
zeros_more words header count word zeros here none k lt =
    ⊎_elim (λ (e : k ≡ count). ap (λ (n : ℕ). get_or words (header + n) 0) e ∙ sym here ∙ none) (λ apart. zeros k (omega (arith, lt, apart))) (cases_eq k count)

module _ (d : Device) (whole : IsWhole d) (index : HeapIndex) (settled : IsSettled d index) where
  -- ── a creation ──

  module _ (new : HeapIndex) (name : List ℕ) (columns : List Column) (first : ℕ) (left : List Action) (planned : IsCreationPlanned d.cached index new 0 name columns first left) where
    abbrev creation : Creation
    creation = creation_by 0 planned.choice name columns

    block_live : (e : Device) → ((parts : List Part) → left ≡ plan_of parts → IsPlan (length d.cached) parts → e.cached ≡ finished parts d.cached)
        → Contains (live_blocks e.cached) (choice_block planned.choice)
    block_live e words =
        let c = creation in
        let is = words (creation_parts d.cached c) planned.plan_is (creation_plan d.cached whole.segments whole.one_or_more settled.rules c planned.may) in
        let ends = ends_published d.cached whole.segments whole.one_or_more settled.rules c planned.may in
        let blocks = live_blocks-same _ _ (same_heap d.cached whole.segments whole.one_or_more settled.rules c planned.may _ (published_same d.cached whole.segments whole.one_or_more settled.rules c planned.may)) in
        subst (λ (xs : List Block). Contains xs (choice_block planned.choice)) (sym (ap live_blocks (is ∙ ends) ∙ blocks)) (taken_live d.cached whole.segments whole.one_or_more settled.rules c planned.may)

    -- the block has room for the headers of a table with one column
    pub tested_header : (e : Device) → ((parts : List Part) → left ≡ plan_of parts → IsPlan (length d.cached) parts → e.cached ≡ finished parts d.cached)
        → length columns ≡ 1 → (block array : ℕ) → block ≡ first → array + 16 ≤ 80 → IsHeader e.cached (block + array)
    tested_header e words one block array is room =
        let enough = planned.may.room in
        let begins = planned.first_is in
        record {
          block = choice_block planned.choice;
          live = block_live e words;
          begins = omega (arith, is, begins);
          ends = omega (arith, is, begins, room, enough, one);
        }

  -- ── a growth ──

  module _ (header : ℕ) (header_is : IsHeader d.cached header) where
    pub header_within : (k : ℕ) → k < 16 → header + k < length d.cached
    header_within k lt =
        let low = header_is.begins in
        let high = header_is.ends in
        (dest_place d.cached whole.segments whole.one_or_more settled.rules (header + k) (inr (header_is.block, header_is.live, omega (arith, low), omega (arith, high, lt)))).owner_is.in_image

    pub tested_may_grow : get_or d.cached 576 0 ≡ 0 → Zeros d.cached header 13 → MayPlanGrowth d.cached index 0 header
    tested_may_grow idle zeros = record {
      rules = settled.rules;
      index_of = settled.index_of;
      rule = no_chunks d.cached header zeros;
      lane_is = omega arith;
      idle = idle;
      header_is = header_is;
      owned = λ lt owns. absurd (owns (ap (λ (n : ℕ). get_or d.cached (chunk_pointer_at header n) 0) count ∙ pointer));
    }
      where
        count : get_or d.cached header 0 ≡ 0
        count = let at : header + 0 ≡ header = omega arith in subst (λ (w : ℕ). get_or d.cached w 0 ≡ 0) at (zeros 0 (omega arith))

        pointer : get_or d.cached (chunk_pointer_at header 0) 0 ≡ 0
        pointer = let at : header + 1 ≡ header + 1 + 0 = omega arith in subst (λ (w : ℕ). get_or d.cached w 0 ≡ 0) at (zeros 1 (omega arith))

    pub grown_parts : (new : HeapIndex) (left : List Action) → IsGrowthPlanned d.cached index new 0 header left → (parts : List Part) × (left ≡ plan_of parts) × IsPlan (length d.cached) parts
    grown_parts new left planned = (growth_parts d.cached (growth_by 0 header planned.first), planned.plan_is, growth_plan d.cached (growth_by 0 header planned.first) planned.may)

-- the table whose creation was planned becomes the last one of the catalog
pub published_block : (old made new : CatalogState) (name : List ℕ) (columns : List Column) (first count block : ℕ) → made ≡ with_planned old name columns first
    → IfSome made.planned (λ table. new.tables ≡ made.tables ++ table ∷ []) → count ≡ length old.tables → option_map (λ found. found.block) (slice_get new.tables count) ≡ Some block → block ≡ first
published_block old made new name columns first count block is published counted found =
    let table : CatalogTable = record { name = name; columns = columns; block = first } in
    let tables : new.tables ≡ old.tables ++ table ∷ [] = subst (λ (c : CatalogState). IfSome c.planned (λ t. new.tables ≡ c.tables ++ t ∷ [])) is published in
    some_block (sym found ∙ ap (λ (xs : List CatalogTable). option_map (λ t. t.block) (slice_get xs count)) tables
    ∙ ap (λ (n : ℕ). option_map (λ t. t.block) (slice_get (old.tables ++ table ∷ []) n)) counted ∙ ap (option_map (λ t. t.block)) (at_end table old.tables))
  where
    at_end : (table : CatalogTable) (xs : List CatalogTable) → slice_get (xs ++ table ∷ []) (length xs) ≡ Some table
    at_end table [] = refl
    at_end table (x ∷ xs) = at_end table xs

    some_block : Some block ≡ Some first → block ≡ first
    some_block e = cc
