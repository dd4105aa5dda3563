-- What planning a creation relies on lets the creation begin.
use Rattle.std.proofs.Common.{◌≡◌, ◌≢◌, ℕ, ◌+◌, ◌<◌, ◌≤◌, true, ltb, List, [], ◌++◌, length, get_or, sym, ◌∙◌, ap, subst, arith, append-nil, append_assoc}
use Rattle.std.specs.Prelude.{Option, Some}
use Rattle.std.proofs.lemmas.Bool.{and_parts, ltb-true}
use Rattle.std.proofs.lemmas.Grind.{flat_map-append}
use Rattle.mv_model.specs.declared.shape.Column.{Column}
use Rattle.mv_model.specs.Shape.{is_shape, names_differ}
use Rattle.pm_model.specs.declared.action.Action.{Action}
use Rattle.pm_model.specs.Device.{Device, IsWhole}
use Rattle.image_layout.specs.Fixed.{table_count_at, table_slot_at}
use Rattle.pm_model.specs.Plans.{plan_of, part_actions, one_store}
use Rattle.image_layout.specs.Records.{table_words}
use Rattle.image_layout.specs.Tables.{table_count}
use Rattle.heap_palloc.specs.Calls.{IsAllocated}
use Rattle.heap_palloc.specs.Choice.{choice_parts}
use Rattle.heap_palloc.specs.Index.{HeapIndex}
use Rattle.shown_state.specs.Mending.{fill_from}
use Rattle.catalog.specs.Entries.{CatalogTable, CatalogState}
use Rattle.catalog.specs.Creation.{Creation, MayCreate, table_record, publishing_parts, creation_parts}
use Rattle.catalog.specs.Calls.{MayPlanCreation, IsCreationPlanned}
use Rattle.catalog.proofs.Creating.{taken_size, record_within, created_index}
use Rattle.catalog.proofs.Filling.{length-table_record}
use Rattle.catalog.proofs.Lengths.{chosen_room, chosen_length}

pub state_is : (s : CatalogState) (tables : List CatalogTable) (planned : Option CatalogTable) → s.tables ≡ tables → s.planned ≡ planned → s ≡ record { tables = tables; planned = planned }
state_is s tables planned a b = ap (λ (xs : List CatalogTable). with xs s.planned) a ∙ ap (λ (p : Option CatalogTable). with tables p) b
  where
    with : List CatalogTable → Option CatalogTable → CatalogState
    with xs p = record { tables = xs; planned = p }

pub table_is : (name kept : List ℕ) (columns shape : List Column) (block : ℕ) → kept ≡ name → shape ≡ columns → ◌≡◌ {A = Option CatalogTable} (Some (record { name = kept; columns = shape; block = block })) (Some (record { name = name; columns = columns; block = block }))
table_is name kept columns shape block a b = ap (λ (n : List ℕ). with n shape) a ∙ ap (λ (cs : List Column). with name cs) b
  where
    with : List ℕ → List Column → Option CatalogTable
    with n cs = Some (record { name = n; columns = cs; block = block })

-- a shape has a column
pub shape_some : (columns : List Column) → is_shape columns ≡ true → 0 < length columns
shape_some columns is = ltb-true 0 (length columns) (and_parts (ltb 0 (length columns)) (names_differ columns) is).0

module _ (d : Device) (whole : IsWhole d) (index : HeapIndex) (tables : List CatalogTable) (lane : ℕ) (may : MayPlanCreation d.cached index tables lane) where
  pub tables_count : length tables ≡ table_count d.cached
  tables_count = may.count_of

  -- the slot of the new table
  module _ (count owner : ℕ) (count_is : count ≡ length tables) (few : count ≢ 32) (owner_is : owner ≡ table_slot_at count) where
    pub count_low : table_count d.cached < 32
    count_low = let e = tables_count in let most = may.most in omega (arith, e, most, count_is, few)

    owner_at : owner ≡ table_slot_at (table_count d.cached)
    owner_at = owner_is ∙ ap table_slot_at (count_is ∙ tables_count)

    pub slot_empty : get_or d.cached owner 0 ≡ 0
    slot_empty = ap (λ (w : ℕ). get_or d.cached w 0) owner_at ∙ may.slot count_low

    module _ (name : List ℕ) (columns : List Column) (some : 0 < length columns) (most : length columns ≤ 16) (words : ℕ) (words_is : words ≡ table_words (length columns))
        (after : HeapIndex) (left : List Action) (first size : ℕ) (made : IsAllocated d.cached index after lane owner words left first size) where
      pub at_slot : IsAllocated d.cached index after lane (table_slot_at (table_count d.cached)) (table_words (length columns)) left first size
      at_slot =
          subst (λ (n : ℕ). IsAllocated d.cached index after lane (table_slot_at (table_count d.cached)) n left first size) words_is
          (subst (λ (o : ℕ). IsAllocated d.cached index after lane o words left first size) owner_at made)

      abbrev creation : Creation
      creation = record { lane = lane; choice = at_slot.choice; name = name; columns = columns }

      pub can : MayCreate d.cached (record { lane = lane; choice = at_slot.choice; name = name; columns = columns })
      can = record {
        count = count_low;
        through = at_slot.through;
        may = at_slot.planned.may;
        room = chosen_room d.cached index.free.runs (table_words (length columns)) at_slot.choice (omega (arith, some)) at_slot.chosen;
      }

      pub few_actions : length left ≤ 23
      few_actions =
          let is = ap (length {A = Action}) at_slot.planned.plan_is in
          let fits = chosen_length d.cached index.free.runs (table_words (length columns)) at_slot.choice (omega (arith, most)) at_slot.chosen in
          omega (arith, is, fits)

      pub block_place : first + table_words (length columns) ≤ 4194304
      block_place =
          let within = record_within d.cached whole.segments whole.one_or_more may.rules (record { lane = lane; choice = at_slot.choice; name = name; columns = columns }) can in
          let size_is = taken_size d.cached whole.segments whole.one_or_more may.rules (record { lane = lane; choice = at_slot.choice; name = name; columns = columns }) can in
          let long = length-table_record name columns in
          let at = at_slot.planned.first_is in
          omega (arith, within, size_is, long, at, whole.most)

      pub create_planned : (begun placed stored whole_plan : List Action) (place value : ℕ) → begun ≡ [] → placed ≡ begun ++ left → stored ≡ placed ++ part_actions (fill_from first (table_record name columns))
          → place ≡ table_count_at → value ≡ count + 1 → whole_plan ≡ stored ++ part_actions (one_store place value) → IsCreationPlanned d.cached index after lane name columns first whole_plan
      create_planned begun placed stored whole_plan place value none placed_is stored_is place_is value_is whole_is = record {
        choice = at_slot.choice;
        chosen = at_slot.chosen;
        may = can;
        first_is = at_slot.planned.first_is;
        plan_is = plan_is;
        index_of = created_index d.cached whole.segments whole.one_or_more may.rules (record { lane = lane; choice = at_slot.choice; name = name; columns = columns }) can after at_slot.planned.index_of;
      }
        where
          plan_is : whole_plan ≡ plan_of (creation_parts d.cached (record { lane = lane; choice = at_slot.choice; name = name; columns = columns }))
          plan_is =
              let block_is = at_slot.planned.first_is in
              let parts = choice_parts d.cached at_slot.choice in
              let last = publishing_parts first (table_record name columns) (table_count d.cached) in
              whole_is
              ∙ ap (λ (p : ℕ). stored ++ part_actions (one_store p value)) place_is
              ∙ ap (λ (v : ℕ). stored ++ part_actions (one_store 515 v)) (value_is ∙ ap (λ (n : ℕ). n + 1) (count_is ∙ tables_count))
              ∙ ap (λ (xs : List Action). xs ++ part_actions (one_store 515 (table_count d.cached + 1))) (stored_is ∙ ap (λ (xs : List Action). xs ++ part_actions (fill_from first (table_record name columns))) (placed_is ∙ ap (λ (xs : List Action). xs ++ left) none))
              ∙ append_assoc left (part_actions (fill_from first (table_record name columns))) (part_actions (one_store 515 (table_count d.cached + 1)))
              ∙ ap (λ (xs : List Action). left ++ (part_actions (fill_from first (table_record name columns)) ++ xs)) (sym (append-nil (part_actions (one_store 515 (table_count d.cached + 1)))))
              ∙ ap (λ (xs : List Action). xs ++ plan_of last) at_slot.planned.plan_is
              ∙ sym (flat_map-append part_actions parts last)
              ∙ ap (λ (f : ℕ). plan_of (parts ++ publishing_parts f (table_record name columns) (table_count d.cached))) block_is
