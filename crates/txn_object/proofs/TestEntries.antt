-- What the tests of a whole transaction rest on.
use Rattle.std.proofs.Common.{◌≡◌, inl, ℕ, ◌+◌, ◌*◌, ◌-◌, ◌^◌, ◌<◌, ◌≤◌, min, true, List, [], ◌∷◌, ◌++◌, length, get_or, set, sym, ◌∙◌, ap, subst, append-nil, arith}
use Rattle.std.proofs.lemmas.Bool.{le-leb}
use Rattle.std.proofs.lemmas.List.{get_or-set_same, get_or-set_other, length-set, length-map}
use Rattle.pm_model.specs.declared.action.Action.{Action}
use Rattle.image_layout.specs.Fixed.{state_at, commit_word_at, ready_at, last_at}
use Rattle.pm_model.specs.Device.{Device, IsClean, IsWhole}
use Rattle.pm_model.specs.Plans.{Part, IsPlan, one_store, part_actions, plan_of, finished}
use Rattle.image_layout.specs.Objects.{commit_word, ready_count, entry_places, entries}
use Rattle.pm_model.proofs.Cuts.{store_part, each_cut-end}
use Rattle.heap_palloc.specs.Index.{HeapIndex, IsIndexOf}
use Rattle.txn_object.specs.declared.entry.Entry.{Entry}
use Rattle.txn_object.specs.declared.entry.EntryKind.TheVariants.{Created}
use Rattle.txn_object.specs.Entries.{entry_word, entry_of}
use Rattle.txn_object.specs.Object.{begin_parts, entry_part, retire_parts, NoEntryFollowsZero}
use Rattle.txn_object.specs.Shown.{HasObject, MayAddEntry}
use Rattle.txn_object.specs.Calls.{MayPlanExtension}
use Rattle.txn_object.specs.TestObject.{IsExtendable, HasEntries}
use Rattle.txn_object.proofs.Rule.{state_ok}
use Rattle.txn_object.proofs.Runs.{set_words}
use Rattle.txn_object.proofs.Walk.{words_at}
use Rattle.txn_object.proofs.Places.{length-entry_places}
use Rattle.txn_object.proofs.Frames.{frame_places, entry_not_fixed, entry_in}
use Rattle.txn_object.proofs.Entering.{words_at-same, state_frame, state_words, entry_frame, entry_object, entry_packed}
use Rattle.txn_object.proofs.Retire.{retire_plan, retire_ends, frame}
use Rattle.txn_object.proofs.Whole.{apart_from_blocks}
use Rattle.txn_object.proofs.Keeping.{SameButEntries, kept_frame, kept_object, kept_extension}
use Rattle.txn_object.proofs.Parts.{begin_goes_on, entry_goes_on, entry_count, retire_begins, retire_goes_on}
use Rattle.txn_object.proofs.TestObject.{none_packed}

-- a plan of these parts alone
abbrev IsPlanned : ℕ → List Action → Type 0
IsPlanned size left = (parts : List Part) × (left ≡ plan_of parts) × IsPlan size parts

-- the words after the parts of a plan that is played whole
abbrev Plays : Device → List Action → Device → Type 0
Plays d left e = (parts : List Part) → left ≡ plan_of parts → IsPlan (length d.cached) parts → e.cached ≡ finished parts d.cached

first : (before left more : List Action) → before ≡ [] → left ≡ before ++ more → left ≡ more
first before left more none is = is ∙ ap (λ (l : List Action). l ++ more) none

one_part : (part : Part) (before left : List Action) → before ≡ [] → left ≡ before ++ part_actions part → left ≡ plan_of (part ∷ [])
one_part part before left none is = first before left (part_actions part) none is ∙ sym (append-nil (part_actions part))

-- ── a begin ──

pub extendable_object : (d : Device) (index : HeapIndex) → IsExtendable d index → IsWhole d → HasObject d.cached 0
extendable_object d index is whole = let some = whole.one_or_more in apart_from_blocks d.cached 0 (omega arith) (omega (arith, some)) whole.segments is.may.segments

module _ (d : Device) (index : HeapIndex) (is : IsExtendable d index) (whole : IsWhole d) where
  pub begin_plan : IsPlan (length d.cached) (begin_parts 0)
  begin_plan = (store_part (length d.cached) (state_at 0) 1 (let some = whole.one_or_more in omega (arith, some)), tt)

  pub begin_played : (e : Device) → e.cached ≡ finished (begin_parts 0) d.cached → ((w : ℕ) → IsClean e w) → IsExtendable e index
  begin_played e words clean =
      let has = extendable_object d index is whole in record {
        may = subst (λ (l : List ℕ). MayPlanExtension l index 0) (sym words) (begin_goes_on d.cached 0 has index is.may).1;
        none = ap (λ (l : List ℕ). entries l 0) words
            ∙ ap (λ (places : List ℕ). set_words (words_at (set d.cached (state_at 0) 1) places)) (frame_places d.cached (set d.cached (state_at 0) 1) 0 (state_frame d.cached 0 1 has))
            ∙ ap (λ (l : List ℕ). set_words l) (state_words d.cached 0 1 has) ∙ is.none;
        clean = clean;
      }

  -- with so many segments
  pub filled : (ready : ℕ) → get_or d.cached (ready_at 0) 0 ≡ ready → HasEntries d ready 0
  filled ready is_ready = record {
    is_object = extendable_object d index is whole;
    ready_is = is_ready;
    count_is = ap (λ (l : List ℕ). length l) is.none;
    packed = none_packed d.cached is.none;
    extends = (index, is.may);
    clean = is.clean;
  }

-- ── entries ──

-- the next extension may be planned by any index of the words
pub reindexed : (d : Device) (ready count : ℕ) → HasEntries d ready count → (index : HeapIndex) → IsIndexOf d.cached index → MayPlanExtension d.cached index 0
reindexed d ready count is index index_of = let may = is.extends.1 in record { segments = may.segments; index_of = index_of; idle = may.idle; owned = may.owned }

pub places_are : (d : Device) (ready count : ℕ) → HasEntries d ready count → length (entry_places d.cached 0) ≡ 60 + 255 * ready
places_are d ready count is = let all = length-entry_places d.cached 0 in let n = is.ready_is in omega (arith, all, n)

module _ (d : Device) (ready nth : ℕ) (entry : Entry) (is : HasEntries d ready nth) (lt : nth < 60 + 255 * ready) (table : entry.table < 2 ^ 24) (row : entry.row < 2 ^ 32) where
  may_enter : MayAddEntry d.cached 0 nth entry
  may_enter = record {
    is_object = is.is_object;
    count = is.count_is;
    room = let all = places_are d ready nth is in omega (arith, all, lt);
    packed = is.packed;
    table = table;
    row = row;
  }

  pub enter_plan : (before left : List Action) → before ≡ [] → left ≡ before ++ part_actions (entry_part d.cached 0 nth entry) → IsPlanned (length d.cached) left
  enter_plan before left none planned = (
    entry_part d.cached 0 nth entry ∷ [],
    one_part (entry_part d.cached 0 nth entry) before left none planned,
    (store_part (length d.cached) (get_or (entry_places d.cached 0) nth 0) (entry_word entry) (entry_in d.cached 0 is.is_object nth may_enter.room), tt),
  )

  enter_ended : (e : Device) → e.cached ≡ finished (entry_part d.cached 0 nth entry ∷ []) d.cached → ((w : ℕ) → IsClean e w) → HasEntries e ready (nth + 1)
  enter_ended e words clean = record {
    is_object = subst (λ (l : List ℕ). HasObject l 0) (sym words) (entry_object d.cached 0 nth entry may_enter);
    ready_is = ap (λ (l : List ℕ). ready_count l 0) words ∙ (entry_frame d.cached 0 nth entry may_enter).ready ∙ is.ready_is;
    count_is = ap (λ (l : List ℕ). length (entries l 0)) words ∙ entry_count d.cached 0 nth entry may_enter;
    packed = subst (λ (l : List ℕ). NoEntryFollowsZero l 0) (sym words) (entry_packed d.cached 0 nth entry may_enter);
    extends = (is.extends.0, subst (λ (l : List ℕ). MayPlanExtension l is.extends.0 0) (sym words) (entry_goes_on d.cached 0 nth entry may_enter is.extends.0 is.extends.1).1);
    clean = clean;
  }

  pub enter_played : (before left : List Action) → before ≡ [] → left ≡ before ++ part_actions (entry_part d.cached 0 nth entry) → (e : Device) → Plays d left e → ((w : ℕ) → IsClean e w) → HasEntries e ready (nth + 1)
  unfolding enter_plan
  enter_played before left none planned e plays clean =
      let plan = enter_plan before left none planned in enter_ended e (plays (entry_part d.cached 0 nth entry ∷ []) plan.1 plan.2) clean

-- ── a commit word ──

module _ (d : Device) (ready count : ℕ) (is : HasEntries d ready count) where
  abbrev stored : List ℕ
  stored = set d.cached (commit_word_at 0) 1

  pub commit_plan : (before left : List Action) → before ≡ [] → left ≡ before ++ part_actions (one_store (commit_word_at 0) 1) → IsPlanned (length d.cached) left
  commit_plan before left none planned = (
    one_store (commit_word_at 0) 1 ∷ [],
    one_part (one_store (commit_word_at 0) 1) before left none planned,
    (store_part (length d.cached) (commit_word_at 0) 1 (let size = is.is_object.size in omega (arith, size)), tt),
  )

  commit_same : SameButEntries d.cached stored 0
  commit_same = record {
    size = length-set d.cached (commit_word_at 0) 1;
    state = let ok = state_ok d.cached 0 is.is_object.rule in let same = get_or-set_other d.cached (commit_word_at 0) (state_at 0) 1 0 (λ e. omega (arith, e)) in omega (arith, ok, same);
    commit = le-leb (commit_word stored 0) (min (get_or d.cached last_at 0 + 1) (2 ^ 40 - 1))
        (let now = get_or-set_same d.cached (commit_word_at 0) 1 0 (let size = is.is_object.size in omega (arith, size)) in omega (arith, now));
    each = λ w _ apart _. get_or-set_other d.cached (commit_word_at 0) w 1 0 apart;
  }

  commit_entry : (k : ℕ) → k < length (entry_places d.cached 0) → get_or stored (get_or (entry_places d.cached 0) k 0) 0 ≡ get_or d.cached (get_or (entry_places d.cached 0) k 0) 0
  commit_entry k lt = get_or-set_other d.cached (commit_word_at 0) (get_or (entry_places d.cached 0) k 0) 1 0 (entry_not_fixed d.cached 0 is.is_object k (commit_word_at 0) lt (omega arith) (inl (omega arith)))

  commit_places : entry_places stored 0 ≡ entry_places d.cached 0
  commit_places = frame_places d.cached stored 0 (kept_frame d.cached stored 0 is.is_object commit_same)

  commit_packed : NoEntryFollowsZero stored 0
  commit_packed k lt none =
      let below : k + 1 < length (entry_places d.cached 0) = subst (λ (l : List ℕ). k + 1 < length l) commit_places lt in
      at (k + 1) below ∙ is.packed k below (sym (at k (omega (arith, below))) ∙ none)
    where
      at : (n : ℕ) → n < length (entry_places d.cached 0) → get_or stored (get_or (entry_places stored 0) n 0) 0 ≡ get_or d.cached (get_or (entry_places d.cached 0) n 0) 0
      at n there = ap (λ (l : List ℕ). get_or stored (get_or l n 0) 0) commit_places ∙ commit_entry n there

  commit_ended : (e : Device) → e.cached ≡ finished (one_store (commit_word_at 0) 1 ∷ []) d.cached → ((w : ℕ) → IsClean e w) → HasEntries e ready count
  commit_ended e words clean = record {
    is_object = subst (λ (l : List ℕ). HasObject l 0) (sym words) (kept_object d.cached stored 0 is.is_object commit_same);
    ready_is = ap (λ (l : List ℕ). ready_count l 0) words ∙ (kept_frame d.cached stored 0 is.is_object commit_same).ready ∙ is.ready_is;
    count_is = ap (λ (l : List ℕ). length (entries l 0)) words ∙ ap (λ (l : List ℕ). length (set_words (words_at stored l))) commit_places
        ∙ ap (λ (l : List ℕ). length (set_words l)) (words_at-same d.cached stored (entry_places d.cached 0) commit_entry) ∙ is.count_is;
    packed = subst (λ (l : List ℕ). NoEntryFollowsZero l 0) (sym words) commit_packed;
    extends = (is.extends.0, subst (λ (l : List ℕ). MayPlanExtension l is.extends.0 0) (sym words) (kept_extension d.cached stored 0 is.is_object commit_same is.extends.0 is.extends.1));
    clean = clean;
  }

  pub commit_played : (before left : List Action) → before ≡ [] → left ≡ before ++ part_actions (one_store (commit_word_at 0) 1) → (e : Device) → Plays d left e → ((w : ℕ) → IsClean e w) → HasEntries e ready count
  unfolding commit_plan
  commit_played before left none is e plays clean =
      let plan = commit_plan before left none is in commit_ended e (plays (one_store (commit_word_at 0) 1 ∷ []) plan.1 plan.2) clean

-- ── a retire ──

module _ (d : Device) (is : HasEntries d 32 8220) where
  pub all_there : 8220 ≤ length (entry_places d.cached 0)
  all_there = let all = places_are d 32 8220 is in omega (arith, all)

  pub retire_planned : (before left : List Action) → before ≡ [] → left ≡ before ++ plan_of (retire_parts d.cached 0 8220 true) → IsPlanned (length d.cached) left
  retire_planned before left none planned = (retire_parts d.cached 0 8220 true, first before left (plan_of (retire_parts d.cached 0 8220 true)) none planned, retire_plan d.cached 0 8220 true is.is_object all_there)

  retire_ended : (e : Device) → e.cached ≡ finished (retire_parts d.cached 0 8220 true) d.cached → ((w : ℕ) → IsClean e w) → HasEntries e 32 0
  retire_ended e words clean =
      let ends = retire_ends d.cached 0 8220 true is.is_object all_there in
      let size = length-map (entries d.cached 0) entry_of in
      let count = is.count_is in
      let entry : Entry = record { kind = Created; table = 0; row = 0 } in
      let begins : MayAddEntry (finished (retire_parts d.cached 0 8220 true) d.cached) 0 0 (record { kind = Created; table = 0; row = 0 }) =
      retire_begins d.cached 0 8220 true is.is_object all_there (finished (retire_parts d.cached 0 8220 true) d.cached) (record { kind = Created; table = 0; row = 0 }) ends (omega (arith, size, count)) is.packed (omega arith) (omega arith) in
      record {
        is_object = subst (λ (l : List ℕ). HasObject l 0) (sym words) begins.is_object;
        ready_is = ap (λ (l : List ℕ). ready_count l 0) words ∙ (frame d.cached 0 8220 true is.is_object all_there (finished (retire_parts d.cached 0 8220 true) d.cached) ends).ready ∙ is.ready_is;
        count_is = ap (λ (l : List ℕ). length (entries l 0)) words ∙ begins.count;
        packed = subst (λ (l : List ℕ). NoEntryFollowsZero l 0) (sym words) begins.packed;
        extends = (
          is.extends.0,
          subst (λ (l : List ℕ). MayPlanExtension l is.extends.0 0) (sym words)
              (each_cut-end (λ image. MayPlanExtension image is.extends.0 0) (retire_parts d.cached 0 8220 true) d.cached (retire_goes_on d.cached 0 8220 true is.is_object all_there is.extends.0 is.extends.1)),
        );
        clean = clean;
      }

  pub retire_played : (before left : List Action) → before ≡ [] → left ≡ before ++ plan_of (retire_parts d.cached 0 8220 true) → (e : Device) → Plays d left e → ((w : ℕ) → IsClean e w) → HasEntries e 32 0
  unfolding retire_planned
  retire_played before left none is e plays clean =
      let plan = retire_planned before left none is in retire_ended e (plays (retire_parts d.cached 0 8220 true) plan.1 plan.2) clean
