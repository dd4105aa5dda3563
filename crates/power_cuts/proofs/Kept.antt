-- An image that is accepted keeps the rules on which the steps of opening and the plans of changes rely.
use Rattle.std.proofs.Common.{◌≡◌, ℕ, List, [], length, get_or, map, sym, ◌∙◌, ap, subst, arith}
use Rattle.std.specs.Prelude.{None, All}
use Rattle.std.proofs.lemmas.List.{length-map}
use Rattle.std.proofs.lemmas.List.FromFn.{length-range_with_len}
use Rattle.std.proofs.lemmas.List.Elements.{All-nil}
use Rattle.image_layout.specs.Fixed.{lane_op_at, ready_at, first_segment_at, table_count_at, table_slot_at}
use Rattle.image_layout.specs.Places.{below}
use Rattle.image_layout.specs.Objects.{segment_pointer_at}
use Rattle.image_layout.specs.Checks.{Keeps, first_failing, first_fault}
use Rattle.image_layout.specs.HeapRules.{reserved_rule}
use Rattle.image_layout.specs.EntryRules.{table_count_rule, table_slot_rule, objects_rule}
use Rattle.image_layout.specs.SoundRules.{table_name_checks, distinct_name_rule}
use Rattle.image_layout.specs.Tables.{table_block}
use Rattle.image_layout.proofs.Faults.{Holds, all_hold, keeps_all}
use Rattle.image_layout.proofs.OwnedBlocks.{one_object}
use Rattle.heap_palloc.specs.Index.{HeapIndex, IsIndexOf}
use Rattle.heap_palloc.specs.Calls.{KeepsHeapRules}
use Rattle.txn_object.specs.Calls.{MayPlanExtension}
use Rattle.catalog.specs.Entries.{CatalogTable, published_table, published_tables, KeepsTableRules}
use Rattle.catalog.specs.Calls.{MayPlanCreation}
use Rattle.pmem_recover.specs.EntryRules.{entry_rules}
use Rattle.pmem_recover.proofs.FirstFault.{entry-lanes}

pub keeps_table_count : (words : List ℕ) → first_fault entry_rules words ≡ None → Keeps words table_count_rule
keeps_table_count words none = keeps_all entry_rules words none 3 (record { number = 0; rule = reserved_rule }) (omega arith)

pub keeps_heap : (words : List ℕ) → first_fault entry_rules words ≡ None → KeepsHeapRules words
keeps_heap words none = (entry-lanes words none).heap

pub keeps_table_slots : (words : List ℕ) → first_fault entry_rules words ≡ None → Keeps words table_slot_rule
keeps_table_slots words none = keeps_all entry_rules words none 8 (record { number = 0; rule = reserved_rule }) (omega arith)

pub keeps_objects : (words : List ℕ) → first_fault entry_rules words ≡ None → Keeps words objects_rule
keeps_objects words none = keeps_all entry_rules words none 12 (record { number = 0; rule = reserved_rule }) (omega arith)

-- an object without segments may be extended
pub may_extend : (words : List ℕ) (index : HeapIndex) → first_fault entry_rules words ≡ None → get_or words (lane_op_at 0) 0 ≡ 0 → get_or words (ready_at 0) 0 ≡ 0 → get_or words (first_segment_at 0) 0 ≡ 0 → IsIndexOf words index → MayPlanExtension words index 0
may_extend words index none idle ready pointer index_of =
    let P : ℕ → Type 0 = λ n. get_or words (segment_pointer_at words 0 n) 0 ≡ 0 in
    record {
      segments = record {
        rules = keeps_heap words none;
        rule = one_object words 0 (keeps_objects words none) (omega arith);
        live = λ segment lt. absurd (omega arith);
      };
      index_of = index_of;
      idle = idle;
      owned = λ lt some. absurd (some (subst P (sym ready) pointer));
    }

-- a first table may be created
pub may_create : (words : List ℕ) (index : HeapIndex) (tables : List CatalogTable) → first_fault entry_rules words ≡ None → get_or words (lane_op_at 0) 0 ≡ 0 → get_or words table_count_at 0 ≡ 0 → get_or words (table_slot_at 0) 0 ≡ 0 → IsIndexOf words index → length tables ≡ get_or words table_count_at 0 → MayPlanCreation words index tables 0
may_create words index tables none idle count slot index_of count_of =
    let P : ℕ → Type 0 = λ n. get_or words (table_slot_at n) 0 ≡ 0 in
    record {
      rules = keeps_heap words none;
      index_of = index_of;
      count_of = count_of;
      lane_is = omega arith;
      idle = idle;
      most = omega arith;
      slot = λ lt. subst P (sym count) slot;
    }

-- a catalog of the published tables has as many as are published
pub count_of_published : (words : List ℕ) (tables : List CatalogTable) → tables ≡ published_tables words → length tables ≡ get_or words table_count_at 0
count_of_published words tables is = ap length is ∙ length-map (below (get_or words table_count_at 0)) (published_table words) ∙ length-range_with_len 0 (get_or words table_count_at 0)

-- where there is no table, no two names are one
no_names : (words : List ℕ) → get_or words table_count_at 0 ≡ 0 → Keeps words distinct_name_rule
unfolding distinct_name_rule
no_names words count = record { checks = subst (λ (n : ℕ). All Holds (table_name_checks words [] (map (table_block words) (below n)))) (sym count) (All-nil Holds) }

pub keeps_tables : (words : List ℕ) → first_fault entry_rules words ≡ None → get_or words table_count_at 0 ≡ 0 → KeepsTableRules words
keeps_tables words none count = record {
  table_count = keeps_table_count words none;
  table_slots = keeps_table_slots words none;
  names = keeps_all entry_rules words none 11 (record { number = 0; rule = reserved_rule }) (omega arith);
  distinct_names = no_names words count;
}

-- tables whose names differ may be read back
pub keeps_named_tables : (words : List ℕ) → first_fault entry_rules words ≡ None → first_failing (distinct_name_rule words) ≡ None → KeepsTableRules words
keeps_named_tables words none distinct = record {
  table_count = keeps_table_count words none;
  table_slots = keeps_table_slots words none;
  names = keeps_all entry_rules words none 11 (record { number = 0; rule = reserved_rule }) (omega arith);
  distinct_names = record { checks = all_hold (distinct_name_rule words) distinct };
}
