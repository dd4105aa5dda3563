-- A plan that is played whole on a device of which every word is clean.
use Rattle.std.proofs.Common.{◌≡◌, inl, ℕ, zero, suc, ◌+◌, ◌*◌, ◌/◌, ◌<◌, ◌≤◌, true, List, [], ◌∷◌, length, take, drop, get_or, refl, sym, ◌∙◌, ap, subst, arith}
use Rattle.std.specs.Prelude.{Contains, Result, Ok, IfOk}
use Rattle.std.proofs.lemmas.List.Elements.{Contains-append_right}
use Rattle.pm_model.specs.declared.action.Action.{Action}
use Rattle.pm_model.specs.Device.{Device, IsClean, IsWhole}
use Rattle.image_layout.specs.Pointer.{pointer_word}
use Rattle.pm_model.specs.Plans.{Part, Play, IsPlan, IsPlaying, MayPlay, HasEnded, plan_of, finished, run, at_rest}
use Rattle.image_layout.specs.Places.{page_of, page_at}
use Rattle.image_layout.specs.Blocks.{Block, slot_words, slots_of, slot_at, live_blocks}
use Rattle.image_layout.proofs.Heap.{slot_fits}
use Rattle.image_layout.specs.Fresh.{fresh_words}
use Rattle.pm_model.proofs.Cuts.{length-finished}
use Rattle.image_layout.proofs.Members.{Contains-here}
use Rattle.pm_model.proofs.PlanLaw.{plan_begins, plan_may_play, plan_plays_on, plan_ends, size_start}
use Rattle.pm_model.proofs.Words.{ext_words}
use Rattle.heap_palloc.specs.Shown.{GainsOne}
use Rattle.heap_palloc.specs.Index.{HeapIndex, IsIndexOf}
use Rattle.heap_palloc.specs.Choice.{choice_parts, choice_block, in_page, on_new_page, in_run, Choice, IsThrough, IsChosen, MayMake, freed_parts, freed_named}
use Rattle.heap_palloc.specs.Calls.{KeepsHeapRules, MayCall, IsPlanned, IsReleased, OwnsBlock, IsSettled}
use Rattle.heap_palloc.proofs.Changes.{change_settles}
use Rattle.heap_palloc.proofs.Slots.{slot_place}
use Rattle.heap_palloc.proofs.Choices.{choice_plan, choice_allocates, freed_plan}
use Rattle.heap_palloc.proofs.RulesKept.{choice_rules, freed_rules, fresh_rules}

drop-past : (count : ℕ) (xs : List Action) → length xs ≤ count → drop count xs ≡ []
drop-past zero [] le = refl
drop-past (suc count) [] le = refl
drop-past zero (x ∷ xs) le = absurd (omega arith)
drop-past (suc count) (x ∷ xs) le = drop-past count xs (omega arith)

module _ (session : ℕ) (parts : List Part) (d : Device) (whole : IsWhole d) (clean : (w : ℕ) → IsClean d w) (plan : IsPlan (length d.cached) parts) where
  abbrev play : Play
  play = record { own = λ w. true; session = session; parts = parts; start = d.cached }

  begins : IsPlaying play 0 (plan_of parts) d
  begins = plan_begins play d (record { plan = plan; within = λ w hit. refl }) (record { cached_size = refl; durable_size = whole.durable; same = λ w own. refl; clean = λ w own. clean w })

  pub whole_may : (left : List Action) → left ≡ plan_of parts → MayPlay session left d
  whole_may left is = subst (λ (l : List Action). MayPlay session l d) (sym is) (plan_may_play play 0 (plan_of parts) d begins)

  pub whole_played : (left : List Action) (count : ℕ) (e : Device) → left ≡ plan_of parts → count ≡ length left → e ≡ run session (take count left) d → (e.cached ≡ finished parts d.cached) × ((w : ℕ) → IsClean e w)
  whole_played left count e is counted runs =
      let on = plan_plays_on play 0 count (plan_of parts) d begins (omega (arith, counted, ap (length {A = Action}) is)) in
      let none : drop count (plan_of parts) ≡ [] = drop-past count (plan_of parts) (omega (arith, counted, ap (length {A = Action}) is)) in
      let there : run session (take count (plan_of parts)) d ≡ e = ap (λ (l : List Action). run session (take count l) d) (sym is) ∙ sym runs in
      let last : IsPlaying play (0 + count) [] e = subst (λ (x : Device). IsPlaying play (0 + count) [] x) there (subst (λ (l : List Action). IsPlaying play (0 + count) l (run session (take count (plan_of parts)) d)) none on) in
      let ended : HasEnded play e = plan_ends play (0 + count) e last in (
        ext_words e.cached (finished parts d.cached) (last.looks.cached_size ∙ size_start play (0 + count) e ∙ sym (length-finished parts d.cached)) (λ w. ended.same w refl),
        λ w. ended.clean w refl,
      )

-- a block that was gained is live
pub gained_live : (old new : List Block) (block : Block) → GainsOne old block new → Contains new block
gained_live old new block gains = subst (λ (xs : List Block). Contains xs block) (sym gains.new_is) (Contains-append_right gains.front (block ∷ gains.back) block (Contains-here block gains.back))

-- a slot lies in its page
pub in_one : (page class slot : ℕ) → class < 6 → slot < slots_of class → (other : ℕ) → page_of (slot_at page class slot) < other → page_at other < slot_at page class slot + slot_words class → ⊥
in_one page class slot class_is slot_is other after before =
    let place = slot_place page class slot class_is slot_is in
    let fits = slot_fits class slot (omega (arith, class_is)) slot_is in
    omega (arith, place.page_is, after, before, fits)

-- what is said of a success, of the value that it has
pub ok_is : {T E : Type 0} (P : T → Type 0) (result : Result T E) (value : T) → result ≡ Ok value → IfOk result P → P value
ok_is P result value is holds = subst (λ (r : Result _ _). IfOk r P) is holds

-- ── a call and its plan ──

pub fresh_settled : (d : Device) (words : List ℕ) (index : HeapIndex) (segments : ℕ) → d ≡ at_rest words → words ≡ fresh_words segments → IsIndexOf d.cached index → IsSettled d index
fresh_settled d words index segments is fresh index_of = record {
  rules = subst KeepsHeapRules (sym (ap (λ (x : Device). x.cached) is ∙ fresh)) (fresh_rules segments);
  index_of = index_of;
  clean = λ w. subst (λ (x : Device). IsClean x w) (sym is) refl;
}

module _ (d : Device) (old : HeapIndex) (settled : IsSettled d old) where
  pub may_call : (lane dest : ℕ) → lane < 16 → get_or d.cached (576 + 8 * lane + 0) 0 ≡ 0 → 512 ≤ dest → dest < 576 → MayCall d.cached old lane dest
  may_call lane dest lt idle low high = record {
    rules = settled.rules;
    index_of = settled.index_of;
    lane_is = lt;
    idle = idle;
    dest_is = inl (low, omega (arith, high), inl high);
  }

  module _ (new : HeapIndex) (choice : Choice) (left : List Action) (first size : ℕ) (planned : IsPlanned d.cached new choice left first size) where
    abbrev pub planned_parts : (parts : List Part) × (left ≡ plan_of parts) × IsPlan (length d.cached) parts
    planned_parts = (choice_parts d.cached choice, planned.plan_is, choice_plan d.cached choice planned.may)

    pub planned_settled : (e : Device) → e.cached ≡ finished (choice_parts d.cached choice) d.cached → ((w : ℕ) → IsClean e w) → IsSettled e new
    planned_settled e is clean = record {
      rules = subst KeepsHeapRules (sym is) (choice_rules d.cached choice settled.rules planned.may);
      index_of = subst (λ (words : List ℕ). IsIndexOf words new) (sym is) planned.index_of;
      clean = clean;
    }

    pub planned_gains : (e : Device) → e.cached ≡ finished (choice_parts d.cached choice) d.cached → GainsOne (live_blocks d.cached) (record { first = first; words = size }) (live_blocks e.cached)
    planned_gains e is =
        subst (λ (words : List ℕ). GainsOne (live_blocks d.cached) (record { first = first; words = size }) (live_blocks words)) (sym is)
        (subst (λ (b : Block). GainsOne (live_blocks d.cached) b (live_blocks (finished (choice_parts d.cached choice) d.cached))) (block_is choice planned.first_is planned.size_is) (gains choice planned.may))
      where
        of : ℕ → ℕ → Block
        of f s = record { first = f; words = s }

        block_is : (c : Choice) → first ≡ (choice_block c).first → size ≡ (choice_block c).words → ◌≡◌ {A = Block} (choice_block c) (record { first = first; words = size })
        block_is (in_page s) a b = sym (ap (λ (f : ℕ). of f size) a ∙ ap (λ (n : ℕ). of (choice_block (in_page s)).first n) b)
        block_is (on_new_page s) a b = sym (ap (λ (f : ℕ). of f size) a ∙ ap (λ (n : ℕ). of (choice_block (on_new_page s)).first n) b)
        block_is (in_run r) a b = sym (ap (λ (f : ℕ). of f size) a ∙ ap (λ (n : ℕ). of (choice_block (in_run r)).first n) b)

        gains : (c : Choice) → MayMake d.cached c → GainsOne (live_blocks d.cached) (choice_block c) (live_blocks (finished (choice_parts d.cached c) d.cached))
        gains (in_page s) m = (choice_allocates d.cached (in_page s) m).gains
        gains (on_new_page s) m = (choice_allocates d.cached (on_new_page s) m).gains
        gains (in_run r) m = (choice_allocates d.cached (in_run r) m).gains

    named : (c : Choice) (lane dest : ℕ) → IsThrough lane dest c → MayMake d.cached c → get_or (finished (choice_parts d.cached c) d.cached) dest 0 ≡ pointer_word (choice_block c).first
    named (in_page s) lane dest through m = subst (λ (w : ℕ). get_or (finished (choice_parts d.cached (in_page s)) d.cached) w 0 ≡ pointer_word (choice_block (in_page s)).first) through.1
        (change_settles s.lane s.owner s.page 1 d.cached (live_blocks d.cached) 0 (live_blocks (finished (choice_parts d.cached (in_page s)) d.cached)) (pointer_word (choice_block (in_page s)).first) (choice_parts d.cached (in_page s)) d.cached (choice_allocates d.cached (in_page s) m).changes).word_is
    named (on_new_page s) lane dest through m = subst (λ (w : ℕ). get_or (finished (choice_parts d.cached (on_new_page s)) d.cached) w 0 ≡ pointer_word (choice_block (on_new_page s)).first) through.1
        (change_settles s.lane s.owner s.page 1 d.cached (live_blocks d.cached) 0 (live_blocks (finished (choice_parts d.cached (on_new_page s)) d.cached)) (pointer_word (choice_block (on_new_page s)).first) (choice_parts d.cached (on_new_page s)) d.cached (choice_allocates d.cached (on_new_page s) m).changes).word_is
    named (in_run r) lane dest through m = subst (λ (w : ℕ). get_or (finished (choice_parts d.cached (in_run r)) d.cached) w 0 ≡ pointer_word (choice_block (in_run r)).first) through.1
        (change_settles r.lane r.owner r.first r.pages d.cached (live_blocks d.cached) 0 (live_blocks (finished (choice_parts d.cached (in_run r)) d.cached)) (pointer_word (choice_block (in_run r)).first) (choice_parts d.cached (in_run r)) d.cached (choice_allocates d.cached (in_run r) m).changes).word_is

    -- a block of at most 256 words stands in one page
    small_clean : (count : ℕ) (c : Choice) → IsChosen d.cached old.free.runs count c → count ≤ 256 → MayMake d.cached c → (page : ℕ) → page_of (choice_block c).first < page → page_at page < (choice_block c).first + (choice_block c).words → ⊥
    small_clean count (in_page s) chosen few m page after before = in_one s.page s.class s.slot m.page_is.class_is m.slot_is page after before
    small_clean count (on_new_page s) chosen few m page after before = in_one s.page s.class s.slot m.class_is m.slot_is page after before
    small_clean count (in_run r) chosen few m page after before = omega (arith, chosen.0, few)

    pub planned_owned : (count lane dest : ℕ) (e : Device) → IsChosen d.cached old.free.runs count choice → IsThrough lane dest choice → count ≤ 256 → e.cached ≡ finished (choice_parts d.cached choice) d.cached
        → OwnsBlock e.cached dest (record { first = first; words = size })
    planned_owned count lane dest e chosen through few is =
        let at : first ≡ (choice_block choice).first = planned.first_is in
        let words : size ≡ (choice_block choice).words = planned.size_is in
        record {
          live = gained_live (live_blocks d.cached) (live_blocks e.cached) (record { first = first; words = size }) (planned_gains e is);
          named = ap (λ (xs : List ℕ). get_or xs dest 0) is ∙ named choice lane dest through planned.may ∙ ap pointer_word (sym at);
          clean = λ page after before. absurd (small_clean count choice chosen few planned.may page (subst (λ (f : ℕ). f / 512 < page) at after)
              (subst (λ (f : ℕ). page_at page < f + (choice_block choice).words) at (subst (λ (n : ℕ). page_at page < first + n) words before)));
        }

  module _ (new : HeapIndex) (lane dest : ℕ) (left : List Action) (released : IsReleased d.cached new dest (freed_named d.cached lane dest) left) where
    abbrev pub released_parts : (parts : List Part) × (left ≡ plan_of parts) × IsPlan (length d.cached) parts
    released_parts = (freed_parts d.cached (freed_named d.cached lane dest), released.plan_is, freed_plan d.cached (freed_named d.cached lane dest) released.may)

    pub released_settled : (e : Device) → e.cached ≡ finished (freed_parts d.cached (freed_named d.cached lane dest)) d.cached → ((w : ℕ) → IsClean e w) → IsSettled e new
    released_settled e is clean = record {
      rules = subst KeepsHeapRules (sym is) (freed_rules d.cached (freed_named d.cached lane dest) settled.rules released.may);
      index_of = subst (λ (words : List ℕ). IsIndexOf words new) (sym is) released.index_of;
      clean = clean;
    }
