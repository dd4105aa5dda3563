-- What the tests rest on: a formatted image's first object may be extended, and goes on so.
use Rattle.std.proofs.Common.{◌≡◌, ⊎_elim, ℕ, zero, suc, ◌+◌, ◌-◌, ◌%◌, ◌^◌, ◌<◌, ◌≤◌, min, ◌||◌, eqb, ltb, List, [], ◌∷◌, length, get_or, refl, sym, ◌∙◌, ap, subst, arith}
use Rattle.std.proofs.lemmas.Bool.{cases_eq, cond-false, ne_eqb, eq-eqb, or_from, or_left, le-leb, le-ltb}
use Rattle.std.proofs.lemmas.List.{get_or-map, length-map}
use Rattle.pm_model.specs.declared.action.Action.{Action}
use Rattle.image_layout.specs.Fixed.{state_at, commit_word_at, ready_at, last_at, first_segment_at, lane_op_at}
use Rattle.image_layout.specs.Places.{is_pointer_to}
use Rattle.pm_model.specs.Device.{Device, IsClean}
use Rattle.pm_model.specs.Plans.{Part, IsPlan, plan_of, finished, at_rest}
use Rattle.image_layout.specs.Fresh.{fresh_words}
use Rattle.image_layout.specs.Checks.{Keeps}
use Rattle.image_layout.specs.Objects.{commit_word, ready_count, segment_pointer_at, pointer_after, entry_places, entries}
use Rattle.image_layout.specs.EntryRules.{object_rule}
use Rattle.image_layout.proofs.FreshImage.{get_or-fresh_words}
use Rattle.heap_palloc.specs.Index.{HeapIndex, IsIndexOf}
use Rattle.heap_palloc.proofs.RulesKept.{fresh_rules}
use Rattle.txn_object.specs.Object.{NoEntryFollowsZero}
use Rattle.txn_object.specs.Extension.{extension_parts}
use Rattle.txn_object.specs.Calls.{MayPlanExtension, IsExtensionPlanned}
use Rattle.txn_object.specs.TestObject.{IsExtendable}
use Rattle.txn_object.proofs.Rule.{rule_from}
use Rattle.txn_object.proofs.Runs.{set_words, set-yes, set-no}
use Rattle.txn_object.proofs.Walk.{words_at}
use Rattle.txn_object.proofs.Frames.{place_cases}
use Rattle.txn_object.proofs.Whole.{extension_shown}

-- a word behind the fixed ones of page 1 is 0
fresh_zero : (w : ℕ) → 514 ≤ w → w < 2048 → get_or (fresh_words 1) w 0 ≡ 0
fresh_zero w from to =
    get_or-fresh_words 1 w (omega (arith, to))
    ∙ cond-false (eqb (w % 32768) 0 || ltb w 4) _ _ (or_from (eqb (w % 32768) 0) (ltb w 4) (ne_eqb (w % 32768) 0 (λ e. omega (arith, e, from, to))) (le-ltb w 4 (omega (arith, from))))
    ∙ cond-false (eqb w 512) _ _ (ne_eqb w 512 (λ e. omega (arith, e, from))) ∙ cond-false (eqb w 513) _ _ (ne_eqb w 513 (λ e. omega (arith, e, from)))

no_segment : ready_count (fresh_words 1) 0 ≡ 0
no_segment = fresh_zero (ready_at 0) (omega arith) (omega arith)

null_after : get_or (fresh_words 1) (pointer_after (fresh_words 1) 0) 0 ≡ 0
null_after = ap (λ (n : ℕ). get_or (fresh_words 1) (segment_pointer_at (fresh_words 1) 0 n) 0) no_segment ∙ fresh_zero (first_segment_at 0) (omega arith) (omega arith)

fresh_rule : Keeps (fresh_words 1) (object_rule 0)
fresh_rule = rule_from (fresh_words 1) 0
    (let is = fresh_zero (state_at 0) (omega arith) (omega arith) in omega (arith, is))
    (le-leb (commit_word (fresh_words 1) 0) (min (get_or (fresh_words 1) last_at 0 + 1) (2 ^ 40 - 1)) (let is = fresh_zero (commit_word_at 0) (omega arith) (omega arith) in omega (arith, is)))
    (let is = no_segment in omega (arith, is))
    (λ k lt. let is = no_segment in absurd (omega (arith, is, lt)))
    (or_left (eqb (get_or (fresh_words 1) (pointer_after (fresh_words 1) 0) 0) 0) (is_pointer_to (fresh_words 1) 256 (get_or (fresh_words 1) (pointer_after (fresh_words 1) 0) 0)) (eq-eqb (get_or (fresh_words 1) (pointer_after (fresh_words 1) 0) 0) 0 null_after))

-- words that are all 0 are no entries, and the other way round
zeros-none : (words : List ℕ) → ((k : ℕ) → k < length words → get_or words k 0 ≡ 0) → set_words words ≡ []
zeros-none [] none = refl
zeros-none (word ∷ words) none = set-no word words (none 0 (omega arith)) ∙ zeros-none words (λ k lt. none (suc k) (omega (arith, lt)))

none-zeros : (words : List ℕ) → set_words words ≡ [] → (k : ℕ) → k < length words → get_or words k 0 ≡ 0
none-zeros [] none k lt = absurd (omega (arith, lt))
none-zeros (word ∷ words) none zero lt = ⊎_elim (λ is. is) (λ ne. let size = ap (λ (l : List ℕ). length l) (sym (set-yes word words ne) ∙ none) in absurd (omega (arith, size))) (cases_eq word 0)
none-zeros (word ∷ words) none (suc k) lt = ⊎_elim
    (λ is. none-zeros words (sym (set-no word words is) ∙ none) k (omega (arith, lt)))
    (λ ne. let size = ap (λ (l : List ℕ). length l) (sym (set-yes word words ne) ∙ none) in absurd (omega (arith, size)))
    (cases_eq word 0)

fresh_none : entries (fresh_words 1) 0 ≡ []
fresh_none = zeros-none (words_at (fresh_words 1) (entry_places (fresh_words 1) 0)) (λ k lt.
    let size = length-map (entry_places (fresh_words 1) 0) (λ w. get_or (fresh_words 1) w 0) in
    let there : k < length (entry_places (fresh_words 1) 0) = omega (arith, lt, size) in
    get_or-map (λ w. get_or (fresh_words 1) w 0) (entry_places (fresh_words 1) 0) k 0 0 there ∙ ⊎_elim
    (λ own. let at = own.1 in let small = own.0 in fresh_zero (get_or (entry_places (fresh_words 1) 0) k 0) (omega (arith, at)) (omega (arith, at, small)))
    (λ more. let ready = more.ready in let is = no_segment in absurd (omega (arith, ready, is)))
    (place_cases (fresh_words 1) 0 k there))

pub fresh_extendable : (d : Device) (words : List ℕ) (index : HeapIndex) → d ≡ at_rest words → words ≡ fresh_words 1 → IsIndexOf d.cached index → IsExtendable d index
fresh_extendable d words index is fresh index_of =
    let same : d.cached ≡ fresh_words 1 = ap (λ (x : Device). x.cached) is ∙ fresh in
    record {
      may = subst (λ (l : List ℕ). MayPlanExtension l index 0) (sym same) (record {
        segments = record { rules = fresh_rules 1; rule = fresh_rule; live = λ k lt. let none = no_segment in absurd (omega (arith, none, lt)) };
        index_of = subst (λ (l : List ℕ). IsIndexOf l index) same index_of;
        idle = fresh_zero (lane_op_at 0) (omega arith) (omega arith);
        owned = λ lt some. absurd (some null_after);
      });
      none = subst (λ (l : List ℕ). entries l 0 ≡ []) (sym same) fresh_none;
      clean = λ w. subst (λ (x : Device). IsClean x w) (sym is) refl;
    }

-- ── an extension that is played whole ──

module _ (d : Device) (old new : HeapIndex) (is : IsExtendable d old) (plan : List Action) (planned : IsExtensionPlanned d.cached old new 0 plan) where
  pub extension_plan : (parts : List Part) × (plan ≡ plan_of parts) × IsPlan (length d.cached) parts
  extension_plan = (extension_parts d.cached (record { object = 0; source = planned.source }), planned.plan_is, (extension_shown d.cached (record { object = 0; source = planned.source }) planned.may).plan)

  pub extension_parts_plan : IsPlan (length d.cached) (extension_parts d.cached (record { object = 0; source = planned.source }))
  extension_parts_plan = (extension_shown d.cached (record { object = 0; source = planned.source }) planned.may).plan

  pub extension_played : (after : Device) → after.cached ≡ finished (extension_parts d.cached (record { object = 0; source = planned.source })) d.cached → ((w : ℕ) → IsClean after w) → IsExtendable after new
  extension_played after words clean =
      let shown = extension_shown d.cached (record { object = 0; source = planned.source }) planned.may in
      record {
        may = subst (λ (l : List ℕ). MayPlanExtension l new 0) (sym words) (shown.goes_on new planned.index_of);
        none = subst (λ (l : List ℕ). entries l 0 ≡ []) (sym words) (shown.ends.keeps.entries ∙ is.none);
        clean = clean;
      }

pub none_packed : (words : List ℕ) → entries words 0 ≡ [] → NoEntryFollowsZero words 0
none_packed words none nth lt zero_here =
    let size = length-map (entry_places words 0) (λ w. get_or words w 0) in
    sym (get_or-map (λ w. get_or words w 0) (entry_places words 0) (nth + 1) 0 0 lt) ∙ none-zeros (words_at words (entry_places words 0)) none (nth + 1) (omega (arith, lt, size))
