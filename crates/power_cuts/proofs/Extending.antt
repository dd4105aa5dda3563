-- What the tests of extensions rest on: an object without entries may be extended, and goes on so.
use Rattle.std.proofs.Common.{◌≡◌, ⊎_elim, ℕ, ◌+◌, ◌<◌, ◌≤◌, Bool, true, false, not, eqb, List, [], ◌∷◌, length, filter, get_or, map, sym, ◌∙◌, ap, subst, refl, arith}
use Rattle.std.specs.Prelude.{None}
use Rattle.std.specs.List.{count_by}
use Rattle.std.proofs.lemmas.Bool.{cases_Bool, cond-true, cond-false}
use Rattle.std.proofs.lemmas.List.Sums.{length-filter, count_by-le-length}
use Rattle.pm_model.specs.declared.action.Action.{Action}
use Rattle.image_layout.specs.Fixed.{lane_op_at, ready_at, first_segment_at}
use Rattle.image_layout.specs.Places.{place_in}
use Rattle.pm_model.specs.Device.{Device, IsClean}
use Rattle.pm_model.specs.Plans.{Part, IsPlan, at_rest, plan_of, finished}
use Rattle.image_layout.specs.Checks.{first_fault}
use Rattle.image_layout.specs.Objects.{ready_count, segment_pointer_at, pointer_after, entry_places, entries}
use Rattle.heap_palloc.specs.Index.{HeapIndex, IsIndexOf}
use Rattle.heap_palloc.specs.Calls.{MayCall, IsAllocated}
use Rattle.heap_palloc.specs.Choice.{choice_parts, IsThrough}
use Rattle.heap_palloc.proofs.Choices.{choice_plan}
use Rattle.txn_object.specs.Object.{free_entries_in}
use Rattle.txn_object.specs.Extension.{allocated, MayExtend}
use Rattle.txn_object.specs.Calls.{MayPlanExtension}
use Rattle.txn_object.specs.TestObject.{IsExtendable}
use Rattle.txn_object.proofs.HalfWay.{half_way, half_entries}
use Rattle.txn_object.proofs.Places.{length-entry_places}
use Rattle.txn_object.proofs.Planning.{may_call}
use Rattle.txn_object.proofs.Taken.{fresh}
use Rattle.pmem_recover.specs.EntryRules.{entry_rules}
use Rattle.power_cuts.proofs.Kept.{may_extend}

pub rest_clean : (d : Device) (words : List ℕ) → d ≡ at_rest words → (w : ℕ) → IsClean d w
rest_clean d words is w = subst (λ (x : Device). IsClean x w) (sym is) refl

-- ── no entries ──

-- where all words at places are 0, none is an entry
none_set : (words places : List ℕ) → length (filter (λ at. eqb (get_or words at 0) 0) places) ≡ length places → filter (λ word. not (eqb word 0)) (map (λ at. get_or words at 0) places) ≡ []
none_set words [] all = refl
none_set words (place ∷ places) all = ⊎_elim
    (λ (hit : eqb (get_or words place 0) 0 ≡ true). rw hit (none_set words places (let more = rw hit at all in omega (arith, more))))
    (λ (miss : eqb (get_or words place 0) 0 ≡ false).
    let fewer = rw miss at all in
    let size = length-filter (λ at. eqb (get_or words at 0) 0) places in
    let most = count_by-le-length (λ at. eqb (get_or words at 0) 0) places in absurd (omega (arith, fewer, size, most)))
    (cases_Bool (eqb (get_or words place 0) 0))

pub none_entered : (words : List ℕ) (free : ℕ) → ready_count words 0 ≡ 0 → free ≡ free_entries_in words 0 → free ≡ 60 → entries words 0 ≡ []
none_entered words free ready is count =
    let all = length-entry_places words 0 in
    none_set words (entry_places words 0) (length-filter (λ at. eqb (get_or words at 0) 0) (entry_places words 0) ∙ sym is ∙ count ∙ omega (arith, all, ready))

pub idle_extendable : (d : Device) (index : HeapIndex) (free : ℕ) → first_fault entry_rules d.cached ≡ None → get_or d.cached (lane_op_at 0) 0 ≡ 0 → get_or d.cached (ready_at 0) 0 ≡ 0 → get_or d.cached (first_segment_at 0) 0 ≡ 0
    → ((w : ℕ) → IsClean d w) → free ≡ free_entries_in d.cached 0 → free ≡ 60 → IsIndexOf d.cached index → IsExtendable d index
idle_extendable d index free rules idle none pointer clean is count index_of = record {
  may = may_extend d.cached index rules idle none pointer index_of;
  none = none_entered d.cached free none is count;
  clean = clean;
}

-- ── a segment that the object owns ──

module _ (d : Device) (index : HeapIndex) (is : IsExtendable d index) (owner : ℕ) (ready : get_or d.cached (ready_at 0) 0 ≡ 1) (here : owner ≡ place_in (get_or d.cached (first_segment_at 0) 0)) where
  owner_is : pointer_after d.cached 0 ≡ owner
  owner_is = ap (λ (n : ℕ). segment_pointer_at d.cached 0 n) ready ∙ sym here

  few : ready_count d.cached 0 < 32
  few = omega (arith, ready)

  pub own_may_call : MayCall d.cached index 0 owner
  own_may_call = subst (λ (at : ℕ). MayCall d.cached index 0 at) owner_is (may_call d.cached index 0 is.may (omega arith) few)

  module _ (new : HeapIndex) (left : List Action) (first size : ℕ) (made : IsAllocated d.cached index new 0 owner 256 left first size) where
    own_may : MayExtend d.cached (record { object = 0; source = allocated made.choice })
    own_may =
        let taken = fresh d.cached 0 is.may.segments index.free.runs made.choice made.planned.may made.chosen in
        record {
          number = omega arith;
          segments = is.may.segments;
          count = few;
          idle = is.may.idle;
          apart = taken.apart;
          source = (made.planned.may, subst (λ (at : ℕ). IsThrough 0 at made.choice) (sym owner_is) made.through, taken.size);
        }

    pub own_plan : (parts : List Part) × (left ≡ plan_of parts) × IsPlan (length d.cached) parts
    own_plan = (choice_parts d.cached made.choice, made.planned.plan_is, choice_plan d.cached made.choice made.planned.may)

    own_ended : (e : Device) → e.cached ≡ finished (choice_parts d.cached made.choice) d.cached → ((w : ℕ) → IsClean e w) → IsExtendable e new
    own_ended e words clean = record {
      may = subst (λ (l : List ℕ). MayPlanExtension l new 0) (sym words) (half_way d.cached (record { object = 0; source = allocated made.choice }) own_may new made.planned.index_of);
      none = ap (λ (l : List ℕ). entries l 0) words ∙ half_entries d.cached 0 made.choice own_may ∙ is.none;
      clean = clean;
    }

    pub own_played : (e : Device) → ((parts : List Part) → left ≡ plan_of parts → IsPlan (length d.cached) parts → e.cached ≡ finished parts d.cached) → ((w : ℕ) → IsClean e w) → IsExtendable e new
    unfolding own_plan
    own_played e plays clean = own_ended e (plays (choice_parts d.cached made.choice) own_plan.1 own_plan.2) clean
