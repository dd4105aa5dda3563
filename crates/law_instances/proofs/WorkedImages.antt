-- Images that are written out keep the rules: that of two commits and two later columns is sound, and that of version 1
-- is intact.
use Rattle.std.proofs.Common.{◌≡◌, ⊎_elim, inl, ℕ, zero, suc, ◌+◌, ◌<◌, ◌≤◌, true, false, List, [], ◌∷◌, ◌++◌, length, map, get_or, refl, ap, subst, sym, ◌∙◌, arith}
use Rattle.std.specs.Prelude.{Contains, Some, slice_index}
use Rattle.std.specs.List.{flat_map}
use Rattle.std.proofs.lemmas.Bool.{true≢false}
use Rattle.std.proofs.lemmas.List.Elements.{All-cons, All-nil, Contains-append_right}
use Rattle.image_layout.specs.EntryRules.{KeepsEntryRules, arrays_rule, entries_rule, extension_checks, last_rule, magic_rule, name_checks, name_rule, object_rule, objects_rule, since_checks, table_count_rule, table_slot_rule, text_columns, text_key_checks, text_key_rule, tree_checks, tree_rule, version_rule}
use Rattle.image_layout.specs.HeapRules.{bitmap_rule, descriptor_rule, lane_rule, reserved_rule}
use Rattle.image_layout.specs.SoundRules.{IsIntact, IsSound, fault, closed_rule, code_rule, column_slots, distinct_name_rule, fingerprint_checks, fingerprint_rule, given_back_rule, idle_rule, latest_version_rule, order_rule, owned_rule, owner_rule, row_code_rule, single_owner_rule, spare_slot_rule, split_log_rule, stamp_checks, stamp_rule, text_checks, text_rule}
use Rattle.image_layout.specs.Arrays.{array_rule, chunk_of}
use Rattle.image_layout.specs.Blocks.{blocks_of_page, is_free_page, is_inside}
use Rattle.image_layout.specs.Objects.{entry_places, pointer_after}
use Rattle.image_layout.specs.Owners.{column_owners, extension_owners, lane_targets, next_chunk_pointers, next_extension_pointers, owner_words, unfinished_slots}
use Rattle.image_layout.specs.Tables.{all_columns, array_headers, column_headers, column_record, columns_of, inner_columns, is_first_version, since_of, table_block, table_count}
use Rattle.image_layout.specs.Places.{below}
use Rattle.image_layout.specs.Records.{ended_header, first_leaf_at, new_leaf_at}
use Rattle.image_layout.proofs.Members.{Contains-cons, Contains-here, Contains-nil}
use Rattle.image_layout.specs.Trees.{key_below, key_fingerprint, leaf_list, leaf_pairs, leaves_from, pairs, text_at}
use Rattle.image_layout.proofs.Faults.{all_hold}
use Rattle.image_layout.proofs.SoundApart.{intact_apart}
use Rattle.image_layout.specs.Fixed.{lane_op_at, table_slot_at}
use Rattle.image_rules.specs.BuiltOwners.{HasNoTexts}
use Rattle.mv_model.specs.declared.shape.Column.{Column}
use Rattle.heap_palloc.specs.Index.{HeapIndex, IsIndexOf}
use Rattle.heap_palloc.specs.Law.{slot_by, MayTakeNewSlot}
use Rattle.opening_steps.specs.QuietImages.{IsQuiet}
use Rattle.opening_steps.proofs.Intact.{intact_quiet}
use Rattle.catalog.specs.Changes.{IsCreationOn}
use Rattle.law_instances.specs.FirstTable.{second_table}
use Rattle.seg_array.specs.Calls.{IsTableArray, MayPlanGrowth}
use Rattle.seg_array.proofs.ChangesHold.{table_may_grow}
use Rattle.shown_state.specs.CommitLaws.{two_commit_image}
use Rattle.shown_state.specs.Fits.{BeginFirst}
use Rattle.law_instances.specs.FirstVersion.{first_version_image, OneRowIsShown}
use Rattle.shown_state.specs.LogicalState.{logical_state, name_at}
use Rattle.shown_state.specs.OpeningParts.{IsImage}

two_commits_keep : KeepsEntryRules two_commit_image
unfolding two_commit_image extension_checks table_slot_rule arrays_rule tree_checks tree_rule name_checks since_checks name_rule text_key_checks text_key_rule object_rule objects_rule entries_rule reserved_rule descriptor_rule bitmap_rule lane_rule idle_rule split_log_rule closed_rule owner_rule single_owner_rule owned_rule order_rule fingerprint_checks fingerprint_rule column_slots code_rule text_checks text_rule spare_slot_rule stamp_checks stamp_rule row_code_rule given_back_rule distinct_name_rule latest_version_rule chunk_of array_rule is_inside blocks_of_page entry_places column_owners extension_owners owner_words inner_columns column_record leaves_from leaf_list leaf_pairs text_at key_below pairs key_fingerprint
two_commits_keep = record {
  magic = record { checks = all_hold (magic_rule two_commit_image) refl };
  version = record { checks = all_hold (version_rule two_commit_image) refl };
  last = record { checks = all_hold (last_rule two_commit_image) refl };
  table_count = record { checks = all_hold (table_count_rule two_commit_image) refl };
  reserved = record { checks = all_hold (reserved_rule two_commit_image) refl };
  descriptors = record { checks = all_hold (descriptor_rule two_commit_image) refl };
  bitmaps = record { checks = all_hold (bitmap_rule two_commit_image) refl };
  lanes = record { checks = all_hold (lane_rule two_commit_image) refl };
  table_slots = record { checks = all_hold (table_slot_rule two_commit_image) refl };
  arrays = record { checks = all_hold (arrays_rule two_commit_image) refl };
  trees = record { checks = all_hold (tree_rule two_commit_image) refl };
  names = record { checks = all_hold (name_rule two_commit_image) refl };
  text_keys = record { checks = all_hold (text_key_rule two_commit_image) refl };
  objects = record { checks = all_hold (objects_rule two_commit_image) refl };
  entries = record { checks = all_hold (entries_rule two_commit_image) refl };
}

two_commits_are_intact : IsIntact two_commit_image
unfolding two_commit_image extension_checks table_slot_rule arrays_rule tree_checks tree_rule name_checks since_checks name_rule text_key_checks text_key_rule object_rule objects_rule entries_rule reserved_rule descriptor_rule bitmap_rule lane_rule idle_rule split_log_rule closed_rule owner_rule single_owner_rule owned_rule order_rule fingerprint_checks fingerprint_rule column_slots code_rule text_checks text_rule spare_slot_rule stamp_checks stamp_rule row_code_rule given_back_rule distinct_name_rule latest_version_rule chunk_of array_rule is_inside blocks_of_page entry_places column_owners extension_owners owner_words inner_columns column_record leaves_from leaf_list leaf_pairs text_at key_below pairs key_fingerprint
two_commits_are_intact = record {
  entry = two_commits_keep;
  idle = record { checks = all_hold (idle_rule two_commit_image) refl };
  split_logs = record { checks = all_hold (split_log_rule two_commit_image) refl };
  closed = record { checks = all_hold (closed_rule two_commit_image) refl };
  owners = record { checks = all_hold (owner_rule two_commit_image) refl };
  single_owners = record { checks = all_hold (single_owner_rule two_commit_image) refl };
  owned = record { checks = all_hold (owned_rule two_commit_image) refl };
  order = record { checks = all_hold (order_rule two_commit_image) refl };
  fingerprints = record { checks = all_hold (fingerprint_rule two_commit_image) refl };
  codes = record { checks = all_hold (code_rule two_commit_image) refl };
  texts = record { checks = all_hold (text_rule two_commit_image) refl };
  spare_slots = record { checks = all_hold (spare_slot_rule two_commit_image) refl };
  stamps = record { checks = all_hold (stamp_rule two_commit_image) refl };
  row_codes = record { checks = all_hold (row_code_rule two_commit_image) refl };
  given_back = record { checks = all_hold (given_back_rule two_commit_image) refl };
  names = record { checks = all_hold (distinct_name_rule two_commit_image) refl };
}

pub two_commits_are_sound : IsSound two_commit_image
unfolding two_commit_image latest_version_rule
two_commits_are_sound = record {
  intact = two_commits_are_intact;
  latest = record { checks = all_hold (latest_version_rule two_commit_image) refl };
}

first_version_keeps : KeepsEntryRules first_version_image
unfolding first_version_image extension_checks table_slot_rule arrays_rule tree_checks tree_rule name_checks since_checks name_rule text_key_checks text_key_rule object_rule objects_rule entries_rule reserved_rule descriptor_rule bitmap_rule lane_rule idle_rule split_log_rule closed_rule owner_rule single_owner_rule owned_rule order_rule fingerprint_checks fingerprint_rule column_slots code_rule text_checks text_rule spare_slot_rule stamp_checks stamp_rule row_code_rule given_back_rule distinct_name_rule latest_version_rule chunk_of array_rule is_inside blocks_of_page entry_places column_owners extension_owners owner_words inner_columns column_record leaves_from leaf_list leaf_pairs text_at key_below pairs key_fingerprint
first_version_keeps = record {
  magic = record { checks = all_hold (magic_rule first_version_image) refl };
  version = record { checks = all_hold (version_rule first_version_image) refl };
  last = record { checks = all_hold (last_rule first_version_image) refl };
  table_count = record { checks = all_hold (table_count_rule first_version_image) refl };
  reserved = record { checks = all_hold (reserved_rule first_version_image) refl };
  descriptors = record { checks = all_hold (descriptor_rule first_version_image) refl };
  bitmaps = record { checks = all_hold (bitmap_rule first_version_image) refl };
  lanes = record { checks = all_hold (lane_rule first_version_image) refl };
  table_slots = record { checks = all_hold (table_slot_rule first_version_image) refl };
  arrays = record { checks = all_hold (arrays_rule first_version_image) refl };
  trees = record { checks = all_hold (tree_rule first_version_image) refl };
  names = record { checks = all_hold (name_rule first_version_image) refl };
  text_keys = record { checks = all_hold (text_key_rule first_version_image) refl };
  objects = record { checks = all_hold (objects_rule first_version_image) refl };
  entries = record { checks = all_hold (entries_rule first_version_image) refl };
}

pub first_version_is_intact : IsIntact first_version_image
unfolding first_version_image extension_checks table_slot_rule arrays_rule tree_checks tree_rule name_checks since_checks name_rule text_key_checks text_key_rule object_rule objects_rule entries_rule reserved_rule descriptor_rule bitmap_rule lane_rule idle_rule split_log_rule closed_rule owner_rule single_owner_rule owned_rule order_rule fingerprint_checks fingerprint_rule column_slots code_rule text_checks text_rule spare_slot_rule stamp_checks stamp_rule row_code_rule given_back_rule distinct_name_rule latest_version_rule chunk_of array_rule is_inside blocks_of_page entry_places column_owners extension_owners owner_words inner_columns column_record leaves_from leaf_list leaf_pairs text_at key_below pairs key_fingerprint
first_version_is_intact = record {
  entry = first_version_keeps;
  idle = record { checks = all_hold (idle_rule first_version_image) refl };
  split_logs = record { checks = all_hold (split_log_rule first_version_image) refl };
  closed = record { checks = all_hold (closed_rule first_version_image) refl };
  owners = record { checks = all_hold (owner_rule first_version_image) refl };
  single_owners = record { checks = all_hold (single_owner_rule first_version_image) refl };
  owned = record { checks = all_hold (owned_rule first_version_image) refl };
  order = record { checks = all_hold (order_rule first_version_image) refl };
  fingerprints = record { checks = all_hold (fingerprint_rule first_version_image) refl };
  codes = record { checks = all_hold (code_rule first_version_image) refl };
  texts = record { checks = all_hold (text_rule first_version_image) refl };
  spare_slots = record { checks = all_hold (spare_slot_rule first_version_image) refl };
  stamps = record { checks = all_hold (stamp_rule first_version_image) refl };
  row_codes = record { checks = all_hold (row_code_rule first_version_image) refl };
  given_back = record { checks = all_hold (given_back_rule first_version_image) refl };
  names = record { checks = all_hold (distinct_name_rule first_version_image) refl };
}

pub first_version_begins : BeginFirst first_version_image
unfolding first_version_image inner_columns column_record
first_version_begins first zero lt = record { no_extension = refl; all_rows = All-cons (λ column. since_of first_version_image column ≡ 0) 2096 [] refl (All-nil (λ column. since_of first_version_image column ≡ 0)) }
first_version_begins first (suc table) lt = absurd (no_more table lt)
  where
    no_more : (table : ℕ) → suc table < 1 → ⊥
    no_more table lt = omega (arith, lt)

-- a lane may allocate the extension after the published columns
pub next_extension_is_target : Contains (lane_targets two_commit_image) 4680
unfolding two_commit_image inner_columns column_record leaf_list leaves_from
next_extension_is_target =
    let words = two_commit_image in
    Contains-append_right (unfinished_slots words)
    (flat_map (λ table. flat_map (next_chunk_pointers words) (array_headers words (table_block words table))) (below (table_count words))
    ++ map new_leaf_at (all_columns words)
    ++ map (pointer_after words) (below 16)
    ++ flat_map (λ table. next_extension_pointers words (table_block words table)) (below (table_count words))) 4680
    (Contains-append_right (flat_map (λ table. flat_map (next_chunk_pointers words) (array_headers words (table_block words table))) (below (table_count words)))
    (map new_leaf_at (all_columns words)
    ++ map (pointer_after words) (below 16)
    ++ flat_map (λ table. next_extension_pointers words (table_block words table)) (below (table_count words))) 4680
    (Contains-append_right (map new_leaf_at (all_columns words))
    (map (pointer_after words) (below 16)
    ++ flat_map (λ table. next_extension_pointers words (table_block words table)) (below (table_count words))) 4680
    (Contains-append_right (map (pointer_after words) (below 16))
    (flat_map (λ table. next_extension_pointers words (table_block words table)) (below (table_count words))) 4680
    (Contains-here 4680 []))))

count_is : table_count two_commit_image ≡ 1
unfolding two_commit_image
count_is = refl

block_is : table_block two_commit_image 0 ≡ 2056
unfolding two_commit_image
block_is = refl

is_idle : slice_index two_commit_image (lane_op_at 0) ≡ 0
unfolding two_commit_image
is_idle = refl

-- each array of the table may be planned to grow, as that of the rows' creators
pub two_commits_have_arrays : (header : ℕ) → Contains (array_headers two_commit_image 2056) header → IsTableArray two_commit_image 0 0 header
two_commits_have_arrays header one_of = record {
  rules = two_commits_keep;
  owners = intact_apart two_commit_image two_commits_are_intact;
  published = let is = count_is in omega (arith, is);
  one_of = subst (λ (block : ℕ). Contains (array_headers two_commit_image block) header) (sym block_is) one_of;
  lane_is = omega arith;
  idle = is_idle;
}

pub two_commits_may_grow : (index : HeapIndex) → IsIndexOf two_commit_image index → MayPlanGrowth two_commit_image index 0 2064
two_commits_may_grow index index_of = table_may_grow two_commit_image index 0 0 2064 (two_commits_have_arrays 2064 (Contains-here 2064 (ended_header 2056 ∷ flat_map column_headers (columns_of two_commit_image 2056)))) index_of

-- its one column of texts is the last one, which has no leaf
texts_are : text_columns two_commit_image ≡ 4688 ∷ []
unfolding two_commit_image inner_columns column_record
texts_are = refl

no_leaf : slice_index two_commit_image (first_leaf_at 4688) ≡ 0
unfolding two_commit_image
no_leaf = refl

pub two_commits_have_no_texts : HasNoTexts two_commit_image
two_commits_have_no_texts = record {
  trees = two_commits_keep.trees;
  none = λ column texts. ⊎_elim
      (λ (here : 4688 ≡ column). subst (λ (at : ℕ). slice_index two_commit_image (first_leaf_at at) ≡ 0) here no_leaf)
      (λ other. absurd (Contains-nil column other))
      (Contains-cons 4688 column [] (subst (λ (columns : List ℕ). Contains columns column) texts_are texts));
}

-- an image of one segment
pub first_version_is_image : IsImage first_version_image
unfolding first_version_image
first_version_is_image = record { segments = refl; one_or_more = omega (arith, size) }
  where
    size : length first_version_image ≡ 32768
    size = refl

pub first_version_is_shown : OneRowIsShown
unfolding first_version_image logical_state name_at entry_places chunk_of inner_columns column_record
first_version_is_shown = refl

-- the rule of the version alone is broken
pub first_version_is_old : fault first_version_image ≡ Some (record { rule = 31; place = 513 })
unfolding first_version_image extension_checks table_slot_rule arrays_rule tree_checks tree_rule name_checks since_checks name_rule text_key_checks text_key_rule object_rule objects_rule entries_rule reserved_rule descriptor_rule bitmap_rule lane_rule idle_rule split_log_rule closed_rule owner_rule single_owner_rule owned_rule order_rule fingerprint_checks fingerprint_rule column_slots code_rule text_checks text_rule spare_slot_rule stamp_checks stamp_rule row_code_rule given_back_rule distinct_name_rule latest_version_rule chunk_of array_rule is_inside blocks_of_page entry_places column_owners extension_owners owner_words inner_columns column_record leaves_from leaf_list leaf_pairs text_at key_below pairs key_fingerprint
first_version_is_old = refl

-- ── another table, and quiet images ──

two_commits_are_image : IsImage two_commit_image
unfolding two_commit_image
two_commits_are_image = record { segments = refl; one_or_more = omega (arith, size) }
  where
    size : length two_commit_image ≡ 32768
    size = refl

-- page 12 is free, and the words of lane 1 and of the next table slots are 0
twelve_is_free : is_free_page two_commit_image 12 ≡ true
unfolding two_commit_image is_inside
twelve_is_free = refl

size_is : length two_commit_image ≡ 32768
unfolding two_commit_image
size_is = refl

lane_idle : get_or two_commit_image (lane_op_at 1) 0 ≡ 0
unfolding two_commit_image
lane_idle = refl

slot_null : get_or two_commit_image (table_slot_at 1) 0 ≡ 0
unfolding two_commit_image
slot_null = refl

next_null : get_or two_commit_image (table_slot_at 2) 0 ≡ 0
unfolding two_commit_image
next_null = refl

two_commits_take : MayTakeNewSlot two_commit_image (slot_by 1 (table_slot_at 1) 12 5 0)
two_commits_take = record {
  idle = record {
    lane_is = omega arith;
    op = lane_idle;
    owner_is = record {
      in_image = let size = size_is in omega (arith, size);
      outside_lanes = inl (omega arith);
      no_descriptor = omega arith;
      no_bitmap = λ small e. omega (arith, e);
    };
  };
  unowned = slot_null;
  page_is = record { in_image = let size = size_is in omega (arith, size); behind_header = omega arith; behind_fixed = omega arith };
  class_is = omega arith;
  is_free = twelve_is_free;
  owner_elsewhere = λ e. omega (arith, e);
  slot_is = omega arith;
}

pub two_commits_create : (name : List ℕ) (columns : List Column) → length columns ≤ 5 → IsCreationOn two_commit_image (second_table name columns)
two_commits_create name columns few =
    let count = count_is in
    record {
      may = record {
        may = record {
          count = omega (arith, count);
          through = (refl, sym (ap table_slot_at count));
          may = two_commits_take;
          room = omega (arith, few);
        };
        rules = record { reserved = two_commits_keep.reserved; descriptors = two_commits_keep.descriptors; bitmaps = two_commits_keep.bitmaps };
        segments = two_commits_are_image.segments;
        one_or_more = two_commits_are_image.one_or_more;
        idle = is_idle;
        next = λ lt. ap (λ (n : ℕ). get_or two_commit_image (table_slot_at (n + 1)) 0) count ∙ next_null;
      };
      rules = two_commits_keep;
      owners = intact_apart two_commit_image two_commits_are_intact;
    }

second_version : is_first_version two_commit_image ≡ false
unfolding two_commit_image
second_version = refl

pub two_commits_are_quiet : IsQuiet two_commit_image
two_commits_are_quiet = intact_quiet two_commit_image two_commits_are_image two_commits_are_intact (λ first table lt. absurd (true≢false (sym first ∙ second_version)))

pub first_version_is_quiet : IsQuiet first_version_image
first_version_is_quiet = intact_quiet first_version_image first_version_is_image first_version_is_intact first_version_begins
