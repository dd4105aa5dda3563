-- The first table of a formatted image.
use Rattle.std.proofs.Common.{◌≡◌, inl, ℕ, suc, ◌+◌, ◌*◌, ◌<◌, ◌≤◌, List, [], ◌∷◌, ◌++◌, length, map, get_or, refl, sym, ◌∙◌, ap, subst, arith}
use Rattle.std.specs.List.{flat_map}
use Rattle.std.proofs.lemmas.List.{get_or-replicate, get_or_append_left}
use Rattle.mv_model.specs.State.{State}
use Rattle.mv_model.specs.declared.reply.Entry.{Entry as Answered}
use Rattle.mv_model.specs.declared.shape.Column.{Column}
use Rattle.mv_model.specs.Consistent.{IsConsistent}
use Rattle.mv_model.specs.History.{IsLegal, state_after}
use Rattle.mv_model.proofs.Keeping.{empty_is_consistent}
use Rattle.mv_model.proofs.Runs.{entries_keep}
use Rattle.image_layout.specs.Arrays.{chunk_pointer_at}
use Rattle.image_layout.specs.Blocks.{live_blocks}
use Rattle.image_layout.specs.Fixed.{lane_op_at, table_count_at, table_slot_at}
use Rattle.image_layout.specs.Fresh.{fresh_words}
use Rattle.image_layout.specs.Places.{below}
use Rattle.image_layout.specs.SoundRules.{IsSound}
use Rattle.image_layout.specs.Tables.{table_count}
use Rattle.image_layout.proofs.FreshImage.{length-fresh_words}
use Rattle.image_layout.proofs.SoundApart.{intact_apart}
use Rattle.heap_palloc.specs.Calls.{KeepsHeapRules}
use Rattle.heap_palloc.specs.Choice.{choice_block}
use Rattle.heap_palloc.specs.Index.{HeapIndex, IsIndexOf}
use Rattle.heap_palloc.specs.Law.{slot_by, IsElsewhere, MayTakeNewSlot}
use Rattle.heap_palloc.proofs.RulesKept.{fresh_rules}
use Rattle.heap_palloc.proofs.SameHeaps.{rules_same}
use Rattle.heap_palloc.proofs.Settled.{gained_live}
use Rattle.seg_array.specs.Calls.{MayPlanGrowth}
use Rattle.seg_array.proofs.Headers.{no_chunks}
use Rattle.shown_state.specs.LogicalState.{logical_state}
use Rattle.shown_state.proofs.FormattedImage.{formatted_is_sound}
use Rattle.shown_state.proofs.Opening.{formatted_shows_nothing}
use Rattle.catalog.specs.Changes.{EndsCreation, IsCreationOn}
use Rattle.catalog.specs.Creation.{column_record, created_words, head_record}
use Rattle.catalog.specs.Entries.{HasNames, published_table, published_tables, CatalogTable}
use Rattle.catalog.specs.Shown.{MayCreateOn, IsCreated, IsUntouched, new_table, shown_table}
use Rattle.catalog.proofs.Creating.{ends_published, published_same, same_heap, taken_rules}
use Rattle.catalog.proofs.Filling.{length-head_record, length-table_record}
use Rattle.catalog.proofs.ChangesHold.{creation_holds, published_after, tables_shown_after}
use Rattle.law_instances.specs.FirstTable.{first_table}
use Rattle.law_instances.proofs.FreshWords.{fresh_zero, four_is_free}

module _ (segments : ℕ) (some : 0 < segments) where
  size : length (fresh_words segments) ≡ 32768 * segments
  size = length-fresh_words segments

  sound : IsSound (fresh_words segments)
  sound = formatted_is_sound segments some

  no_table : table_count (fresh_words segments) ≡ 0
  no_table = fresh_zero segments some table_count_at (omega arith) (omega arith)

  slot_at_count : table_slot_at (table_count (fresh_words segments)) ≡ table_slot_at 0
  slot_at_count = ap table_slot_at no_table

  -- the first slot of page 4 may be taken into the first table's slot
  may_take : MayTakeNewSlot (fresh_words segments) (slot_by 1 (table_slot_at 0) 4 5 0)
  may_take = record {
    idle = record {
      lane_is = omega arith;
      op = fresh_zero segments some (lane_op_at 1) (omega arith) (omega arith);
      owner_is = record {
        in_image = omega (arith, size, some);
        outside_lanes = inl (omega arith);
        no_descriptor = omega arith;
        no_bitmap = λ small e. omega (arith, e);
      };
    };
    unowned = fresh_zero segments some (table_slot_at 0) (omega arith) (omega arith);
    page_is = record { in_image = omega (arith, size, some); behind_header = omega arith; behind_fixed = omega arith };
    class_is = omega arith;
    is_free = four_is_free segments some;
    owner_elsewhere = λ e. omega (arith, e);
    slot_is = omega arith;
  }

  module _ (name : List ℕ) (columns : List Column) (few : length columns ≤ 5) where
    may_create : MayCreateOn (fresh_words segments) (first_table name columns)
    may_create = record {
      may = record {
        count = omega (arith, no_table);
        through = (refl, sym slot_at_count);
        may = may_take;
        room = omega (arith, few);
      };
      rules = fresh_rules segments;
      segments = omega (arith, size);
      one_or_more = omega (arith, size, some);
      idle = fresh_zero segments some (lane_op_at 0) (omega arith) (omega arith);
      next = λ lt. ap (λ (n : ℕ). get_or (fresh_words segments) (table_slot_at (n + 1)) 0) no_table
          ∙ fresh_zero segments some (table_slot_at 1) (omega arith) (omega arith);
    }

    pub asked : IsCreationOn (fresh_words segments) (first_table name columns)
    asked = record { may = may_create; rules = sound.intact.entry; owners = intact_apart (fresh_words segments) sound.intact }

    ends : EndsCreation (first_table name columns) (fresh_words segments) (created_words (fresh_words segments) (first_table name columns))
    ends = (creation_holds (first_table name columns)).end (fresh_words segments) may_create

    pub created : IsCreated (fresh_words segments) (first_table name columns) (created_words (fresh_words segments) (first_table name columns))
    created = ends.created

    -- ── the first growth of an array ──

    abbrev words : List ℕ
    words = created_words (fresh_words segments) (first_table name columns)

    created_rules : KeepsHeapRules words
    created_rules = subst KeepsHeapRules (sym (ends_published (fresh_words segments) may_create.segments may_create.one_or_more may_create.rules (first_table name columns) may_create.may))
        (rules_same _ _ (same_heap (fresh_words segments) may_create.segments may_create.one_or_more may_create.rules (first_table name columns) may_create.may _
        (published_same (fresh_words segments) may_create.segments may_create.one_or_more may_create.rules (first_table name columns) may_create.may))
        (taken_rules (fresh_words segments) may_create.segments may_create.one_or_more may_create.rules (first_table name columns) may_create.may))

    -- the words of a header are 0 in the record of a new table
    record_zero : (k : ℕ) → k < 13 → get_or (head_record name (length columns)) (8 + k) 0 ≡ 0
    record_zero k lt =
        let at : 8 + k ≡ suc (suc (suc (suc (suc (suc (suc (suc k))))))) = omega arith in
        ap (λ (n : ℕ). get_or (head_record name (length columns)) n 0) at ∙ get_or-replicate 33 (suc k) 0 0 (omega (arith, lt))

    header_zero : (k : ℕ) → k < 13 → get_or words (2064 + k) 0 ≡ 0
    header_zero k lt =
        let size = length-table_record name columns in
        let head = length-head_record name (length columns) in
        let at : 2064 + k ≡ 2056 + (8 + k) = omega arith in
        ap (λ (p : ℕ). get_or words p 0) at ∙ created.record_is (8 + k) (omega (arith, lt, size))
        ∙ get_or_append_left (head_record name (length columns)) (flat_map column_record columns) 0 (8 + k) (omega (arith, lt, head)) ∙ record_zero k lt

    pub grows : (index : HeapIndex) → IsIndexOf words index → MayPlanGrowth words index 2 2064
    grows index index_of = record {
      rules = created_rules;
      index_of = index_of;
      rule = no_chunks words 2064 header_zero;
      lane_is = omega arith;
      idle = created.keeps.each (lane_op_at 2) untouched ∙ fresh_zero segments some (lane_op_at 2) (omega arith) (omega arith);
      header_is = record {
        block = choice_block (first_table name columns).choice;
        live = gained_live (live_blocks (fresh_words segments)) (live_blocks words) (choice_block (first_table name columns).choice) ends.gains;
        begins = omega arith;
        ends = omega arith;
      };
      owned = λ lt owns. absurd (owns (ap (λ (n : ℕ). get_or words (chunk_pointer_at 2064 n) 0) (header_zero 0 (omega arith)) ∙ header_zero 1 (omega arith)));
    }
      where
        elsewhere : (lane : ℕ) → lane < 2 → IsElsewhere lane (table_slot_at (table_count (fresh_words segments))) 4 1 (lane_op_at 2)
        elsewhere lane lt = record {
          outside_lane = (omega (arith, lt), omega (arith, lt), omega (arith, lt));
          no_owner = omega (arith, no_table);
          no_descriptor = λ k from to. omega (arith, from, to);
          no_bitmap = omega arith;
        }

        untouched : IsUntouched (fresh_words segments) (first_table name columns) (lane_op_at 2)
        untouched = record {
          lane = elsewhere 1 (omega arith);
          lane_zero = elsewhere 0 (omega arith);
          no_count = omega arith;
          no_record = inl (omega arith);
        }

    none_published : published_tables (fresh_words segments) ≡ []
    none_published = ap (λ (n : ℕ). map (published_table (fresh_words segments)) (below n)) no_table

    module _ (named : HasNames name columns) where
      pub shown : (logical_state (created_words (fresh_words segments) (first_table name columns))).tables ≡ shown_table (first_table name columns) ∷ []
      shown = tables_shown_after (fresh_words segments) (created_words (fresh_words segments) (first_table name columns)) (first_table name columns) asked named created
          ∙ ap (λ (s : State). s.tables ++ shown_table (first_table name columns) ∷ []) (formatted_shows_nothing segments some)

      pub published : published_tables (created_words (fresh_words segments) (first_table name columns)) ≡ new_table (first_table name columns) ∷ []
      published = published_after (fresh_words segments) (created_words (fresh_words segments) (first_table name columns)) (first_table name columns) asked named created
          ∙ ap (λ (l : List CatalogTable). l ++ new_table (first_table name columns) ∷ []) none_published

  -- ── consistent states ──

  pub fresh_consistent : IsConsistent (logical_state (fresh_words segments))
  fresh_consistent = subst IsConsistent (sym (formatted_shows_nothing segments some)) empty_is_consistent

  pub histories_consistent : (entries : List Answered) → IsLegal (logical_state (fresh_words segments)) entries → IsConsistent (state_after (logical_state (fresh_words segments)) entries)
  histories_consistent entries legal = entries_keep (logical_state (fresh_words segments)) entries fresh_consistent legal.follows
