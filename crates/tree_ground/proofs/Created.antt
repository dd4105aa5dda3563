-- The column of the first table.
use Rattle.std.proofs.Common.{◌≡◌, ℕ, ◌+◌, ◌<◌, ◌≤◌, false, List, [], ◌∷◌, ◌++◌, length, get_or, sym, ◌∙◌, ap, subst, arith}
use Rattle.std.specs.Prelude.{Contains, None, Option, Some, option_map, slice_get}
use Rattle.mv_model.specs.declared.shape.Column.{Column}
use Rattle.pm_model.specs.declared.action.Action.{Action}
use Rattle.pm_model.specs.Device.{Device, IsClean, IsWhole}
use Rattle.pm_model.specs.Plans.{Part, IsPlan, finished, plan_of}
use Rattle.image_layout.specs.Blocks.{Block, live_blocks}
use Rattle.image_layout.specs.Fixed.{lane_op_at}
use Rattle.image_layout.specs.Fresh.{fresh_words}
use Rattle.image_layout.specs.Records.{first_leaf_at}
use Rattle.image_layout.specs.Tables.{is_text}
use Rattle.image_layout.specs.Trees.{leaf_list}
use Rattle.heap_palloc.specs.Calls.{IsSettled, KeepsHeapRules}
use Rattle.heap_palloc.specs.Choice.{choice_block}
use Rattle.heap_palloc.specs.Index.{HeapIndex, IsIndexOf}
use Rattle.heap_palloc.proofs.LiveBlocks.{live_blocks-same}
use Rattle.heap_palloc.proofs.SameHeaps.{rules_same}
use Rattle.shown_state.proofs.FormattedImage.{formatted_is_sound}
use Rattle.catalog.specs.Entries.{CatalogTable, KeepsTableRules}
use Rattle.catalog.specs.Creation.{Creation, creation_by, creation_parts, new_block}
use Rattle.catalog.specs.Calls.{IsCreationPlanned}
use Rattle.catalog.proofs.Rebuilding.{intact_keeps}
use Rattle.catalog.proofs.Creating.{block_word, creation_plan, ends_published, published_same, same_heap, taken_live, taken_rules, taken_size}
use Rattle.tree_cuts.specs.Lists.{Each}
use Rattle.tree_cuts.specs.Tree.{HasNoSplit, IsTree}
use Rattle.tree_cuts.proofs.Reading.{list-quiet, quiet-no_split, tree-walks}
use Rattle.fp_tree.specs.Planned.{leaf_block}
use Rattle.tree_ground.specs.Ready.{IsColumn}

pub fresh_keeps : (segments : ℕ) → 0 < segments → KeepsTableRules (fresh_words segments)
fresh_keeps segments some = intact_keeps (fresh_words segments) (formatted_is_sound segments some).intact

number : Option ℕ → ℕ
number None = 0
number (Some n) = n

-- the block of a table behind none
pub first_block : (old new : List CatalogTable) (table : CatalogTable) (place : ℕ) → length old ≡ 0 → new ≡ old ++ table ∷ [] → option_map (λ found. found.block) (slice_get new 0) ≡ Some place → place ≡ table.block
unfolding number
first_block [] new table place none is found = sym (ap number (sym (ap (λ (tables : List CatalogTable). option_map (λ t. t.block) (slice_get tables 0)) is) ∙ found))
first_block (t ∷ old) new table place none is found = absurd (omega (arith, none))

module _ (d : Device) (whole : IsWhole d) (index : HeapIndex) (settled : IsSettled d index) (new : HeapIndex) (name : List ℕ) (columns : List Column) (first : ℕ) (left : List Action)
    (planned : IsCreationPlanned d.cached index new 0 name columns first left) (one : length columns ≡ 1) where
  abbrev creation : Creation
  creation = creation_by 0 planned.choice name columns

  creation_plays : IsPlan (length d.cached) (creation_parts d.cached (creation_by 0 planned.choice name columns))
  creation_plays = creation_plan d.cached whole.segments whole.one_or_more settled.rules creation planned.may

  pub created_parts : (parts : List Part) × (left ≡ plan_of parts) × IsPlan (length d.cached) parts
  created_parts = (creation_parts d.cached creation, planned.plan_is, creation_plays)

  room : 80 ≤ (choice_block planned.choice).words
  room = let most = planned.may.room in omega (arith, most, one)

  pub within : first + 80 ≤ length d.cached
  within =
      let last = (block_word d.cached whole.segments whole.one_or_more settled.rules creation planned.may (new_block creation + 79) (omega arith) (let most = room in omega (arith, most))).in_image in
      let size = taken_size d.cached whole.segments whole.one_or_more settled.rules creation planned.may in
      let is = planned.first_is in
      omega (arith, last, size, is)

  module _ (e : Device) (plays : (parts : List Part) → left ≡ plan_of parts → IsPlan (length d.cached) parts → e.cached ≡ finished parts d.cached) where
    abbrev published : List ℕ
    published = finished (creation_parts d.cached creation) d.cached

    words_are : e.cached ≡ published
    words_are = plays (creation_parts d.cached creation) planned.plan_is creation_plays

    block_live : Contains (live_blocks e.cached) (choice_block planned.choice)
    block_live =
        subst (λ (words : List ℕ). Contains (live_blocks words) (choice_block planned.choice)) (sym (words_are ∙ ends_published d.cached whole.segments whole.one_or_more settled.rules creation planned.may))
        (subst (λ (blocks : List Block). Contains blocks (choice_block planned.choice))
        (sym (live_blocks-same _ _ (same_heap d.cached whole.segments whole.one_or_more settled.rules creation planned.may _ (published_same d.cached whole.segments whole.one_or_more settled.rules creation planned.may))))
        (taken_live d.cached whole.segments whole.one_or_more settled.rules creation planned.may))

    rules : KeepsHeapRules e.cached
    rules = subst KeepsHeapRules (sym (words_are ∙ ends_published d.cached whole.segments whole.one_or_more settled.rules creation planned.may))
        (rules_same _ _ (same_heap d.cached whole.segments whole.one_or_more settled.rules creation planned.may _ (published_same d.cached whole.segments whole.one_or_more settled.rules creation planned.may)) (taken_rules d.cached whole.segments whole.one_or_more settled.rules creation planned.may))

    module _ (size : length e.cached ≡ length d.cached) (at : ℕ) (at_is : at ≡ first + 40) (integers : is_text e.cached at ≡ false) (null : get_or e.cached (first_leaf_at at) 0 ≡ 0) (quiet : HasNoSplit e.cached at)
        (idle : get_or e.cached (lane_op_at 0) 0 ≡ 0) (clean : (w : ℕ) → IsClean e w) where
      tree : IsTree e.cached at []
      tree = record {
        integers = integers;
        column_within = let inside = within in omega (arith, inside, at_is, size);
        walk = null;
        fewer = let inside = within in omega (arith, inside, size);
        placed = tt;
        apart = tt;
        distinct = tt;
      }

      listed : leaf_list e.cached at ≡ []
      listed = list-quiet e.cached at [] (tree-walks e.cached at [] tree) (quiet-no_split e.cached at quiet.no_split)

      pub is_column : IsColumn e new at
      is_column = record {
        sound = ([], record { tree_is = tree; quiet = quiet; ordered = tt; prints = tt; sound = tt });
        may = record {
          rules = rules;
          index_of = subst (λ (words : List ℕ). IsIndexOf words new) (sym words_are) planned.index_of;
          lane_is = omega arith;
          idle = idle;
          record_in = record {
            block = choice_block planned.choice;
            live = block_live;
            begins = let is = planned.first_is in omega (arith, is, at_is);
            ends = let is = planned.first_is in let many = room in omega (arith, is, at_is, many);
          };
          leaves_in = subst (Each (λ leaf. Contains (live_blocks e.cached) (leaf_block leaf))) (sym listed) tt;
        };
        clean = clean;
      }
