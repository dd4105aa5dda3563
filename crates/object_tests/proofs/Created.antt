-- What the tests of tables carry from one creation to the next.
use Rattle.std.proofs.Common.{◌≡◌, ℕ, ◌+◌, ◌<◌, ◌≤◌, List, length, get_or, sym, ◌∙◌, ap, subst, arith}
use Rattle.mv_model.specs.declared.shape.Column.{Column}
use Rattle.pm_model.specs.declared.action.Action.{Action}
use Rattle.pm_model.specs.Device.{Device, IsClean, IsWhole}
use Rattle.image_layout.specs.Fresh.{fresh_words}
use Rattle.pm_model.specs.Plans.{Part, IsPlan, finished, plan_of}
use Rattle.heap_palloc.specs.Calls.{IsSettled, KeepsHeapRules}
use Rattle.heap_palloc.specs.Index.{HeapIndex, IsIndexOf}
use Rattle.heap_palloc.proofs.SameHeaps.{rules_same}
use Rattle.shown_state.proofs.FormattedImage.{formatted_is_sound}
use Rattle.catalog.specs.Entries.{CatalogTable, KeepsTableRules}
use Rattle.catalog.specs.Creation.{Creation, creation_parts}
use Rattle.catalog.specs.Calls.{MayPlanCreation, IsCreationPlanned}
use Rattle.catalog.proofs.Rebuilding.{intact_keeps}
use Rattle.catalog.proofs.Creating.{taken_rules, same_heap, published_same, ends_published, creation_plan}

pub fresh_keeps : (segments : ℕ) → 0 < segments → KeepsTableRules (fresh_words segments)
fresh_keeps segments some = intact_keeps (fresh_words segments) (formatted_is_sound segments some).intact

module _ (d : Device) (whole : IsWhole d) (index : HeapIndex) (settled : IsSettled d index) where
  pub tested_may : (tables : List CatalogTable) (count : ℕ) → count ≡ length tables → count ≤ 32 → get_or d.cached 576 0 ≡ 0 → get_or d.cached 515 0 ≡ count → (count < 32 → get_or d.cached (520 + count) 0 ≡ 0) → MayPlanCreation d.cached index tables 0
  tested_may tables count counted most idle stored slot = record {
    rules = settled.rules;
    index_of = settled.index_of;
    count_of = sym counted ∙ sym stored;
    lane_is = omega arith;
    idle = idle;
    most = omega (arith, stored, most);
    slot = λ lt. ap (λ (n : ℕ). get_or d.cached (520 + n) 0) stored ∙ slot (omega (arith, lt, stored));
  }

  module _ (new : HeapIndex) (name : List ℕ) (columns : List Column) (first : ℕ) (left : List Action) (planned : IsCreationPlanned d.cached index new 0 name columns first left) where
    abbrev creation : Creation
    creation = record { lane = 0; choice = planned.choice; name = name; columns = columns }

    pub tested_parts : (parts : List Part) × (left ≡ plan_of parts) × IsPlan (length d.cached) parts
    tested_parts = (
      creation_parts d.cached (record { lane = 0; choice = planned.choice; name = name; columns = columns }),
      planned.plan_is,
      creation_plan d.cached whole.segments whole.one_or_more settled.rules (record { lane = 0; choice = planned.choice; name = name; columns = columns }) planned.may,
    )

    pub tested_settled : (e : Device) → ((parts : List Part) → left ≡ plan_of parts → IsPlan (length d.cached) parts → e.cached ≡ finished parts d.cached) → ((w : ℕ) → IsClean e w) → IsSettled e new
    tested_settled e words clean =
        let c : Creation = record { lane = 0; choice = planned.choice; name = name; columns = columns } in
        let is : e.cached ≡ finished (creation_parts d.cached c) d.cached = words (creation_parts d.cached c) planned.plan_is (creation_plan d.cached whole.segments whole.one_or_more settled.rules c planned.may) in
        record {
          rules = subst KeepsHeapRules (sym (is ∙ ends_published d.cached whole.segments whole.one_or_more settled.rules c planned.may))
              (rules_same _ _ (same_heap d.cached whole.segments whole.one_or_more settled.rules c planned.may _ (published_same d.cached whole.segments whole.one_or_more settled.rules c planned.may)) (taken_rules d.cached whole.segments whole.one_or_more settled.rules c planned.may));
          index_of = subst (λ (xs : List ℕ). IsIndexOf xs new) (sym is) planned.index_of;
          clean = clean;
        }
