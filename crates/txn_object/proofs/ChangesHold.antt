-- A begin, an entry, an extension and a retire hold what their changes say.
use Rattle.std.proofs.Common.{◌≡◌, ◌⊎◌, inl, inr, ⊎_elim, ℕ, ◌<◌, ◌≤◌, cond, take, List, [], ◌∷◌, ◌++◌, length, get_or, set, refl, sym, ◌∙◌, ap, subst, arith}
use Rattle.std.specs.Prelude.{Contains}
use Rattle.std.proofs.lemmas.List.{get_or-set_same, get_or-set_other, length-set, length-map}
use Rattle.pm_model.specs.Changes.{HoldsOnWords}
use Rattle.pm_model.specs.Plans.{Part, EachCut, one_store, stores, unless_empty}
use Rattle.pm_model.proofs.Cuts.{store_part, one_store-cut, each_cut-map}
use Rattle.image_layout.specs.declared.layout.TheConstants.{OBJECTS}
use Rattle.image_layout.specs.Blocks.{live_blocks}
use Rattle.image_layout.specs.SoundRules.{IsIntact}
use Rattle.heap_palloc.specs.Index.{HeapIndex, IsIndexOf}
use Rattle.image_layout.specs.Fixed.{lane_op_at, state_at, commit_word_at}
use Rattle.image_layout.specs.Objects as objects
use Rattle.image_layout.specs.Objects.{ready_count, segment_of, segment_pointer_at, pointer_after, entry_places}
use Rattle.heap_palloc.specs.Choice.{IsThrough}
use Rattle.heap_palloc.proofs.Rereading.{choice_stable}
use Rattle.txn_object.specs.declared.entry.Entry.{Entry}
use Rattle.txn_object.specs.Calls.{MayPlanExtension}
use Rattle.txn_object.specs.Changes.{SameObjectRead, GoesOn, IsBegun, beginning, IsSpelt, NewEntry, IsEntered, entering, extended_words, EndsExtension, SameSourceRead, SameExtensionRead, extending, Retirement, MayBeRetired, ShowsRetire, ClearsAll, ClearsCommit, no_transaction, retiring, IsObjectOf, IsObjectPlace}
use Rattle.txn_object.specs.Entries.{entry_word, entry_of}
use Rattle.txn_object.specs.Extension.{Source, owned, allocated, Extension, new_segment, source_parts, readying_parts, extension_parts, segment_block, HasSegments, MayTake, MayExtend}
use Rattle.txn_object.specs.Object.{entries_in, entry_part, nth_place, clear_part, retire_parts}
use Rattle.txn_object.specs.Shown.{Shows, HasObject, MayAddEntry, IsRetiring, IsRetired}
use Rattle.txn_object.specs.Spared.{its_pointer}
use Rattle.txn_object.proofs.After.{begun_enters, enters_after, owns_after}
use Rattle.txn_object.proofs.Entering.{state_object, state_shows, entry_object, entry_shows, entry_packed}
use Rattle.txn_object.proofs.Frames.{SameFrame, entry_in, pointer_same, segment_same, ready_pointers_same}
use Rattle.txn_object.proofs.Parts.{begin_segments, begin_goes_on, entry_segments, entry_goes_on, entry_places_stay, entry_next, retiring_same, retire_begins}
use Rattle.txn_object.proofs.Keeping.{kept_object, kept_segments, kept_extension}
use Rattle.txn_object.proofs.Retire.{retire_plan, retire_each, retire_ends, retire_shows, retire_free}
use Rattle.txn_object.proofs.Spared.{keeps_frame, keeps_places, keeps_shows, keeps_object, keeps_packed}
use Rattle.txn_object.proofs.OwnedSegments.{has_segments, may_extend}
use Rattle.txn_object.proofs.Sound.{intact_extends}
use Rattle.txn_object.proofs.Whole.{extension_shown, apart_from_blocks}

-- a plan of one store leaves the words as they were, or with the store
one_store_cuts : (P : List ℕ → Type 0) (place value : ℕ) (base : List ℕ) → P (set base place value) → EachCut (λ image. (image ≡ base) ⊎ P image) (one_store place value ∷ []) base
one_store_cuts P place value base after = (
  λ image between. ⊎_elim (λ old. inl old) (λ (new : image ≡ set base place value). inr (subst P (sym new) after)) (one_store-cut place value base image between),
  inr after,
)

-- ── a begin ──

begin_is : (object : ℕ) (base : List ℕ) → HasObject base object → IsBegun object base (set base (state_at object) 1)
begin_is object base has = record {
  size = length-set base (state_at object) 1;
  state = get_or-set_same base (state_at object) 1 0 (let number = has.number in let size = has.size in omega (arith, number, size));
  others = λ w apart. get_or-set_other base (state_at object) w 1 0 apart;
  shows = λ transaction shows. state_shows base object 1 has transaction shows;
  is_object = state_object base object 1 has (omega arith);
  next = λ nth entry may. begun_enters base object nth entry may;
  goes_on = record {
    segments = λ segments. (begin_segments base object has segments).1;
    extends = λ index may. (begin_goes_on base object has index may).1;
  };
}

pub begin_holds : (object : ℕ) → HoldsOnWords (beginning object)
begin_holds object = record {
  plan = λ base has. (store_part (length base) (state_at object) 1 (let number = has.number in let size = has.size in omega (arith, number, size)), tt);
  cuts = λ base has. one_store_cuts (IsBegun object base) (state_at object) 1 base (begin_is object base has);
  end = λ base has. begin_is object base has;
  stable = λ old new same has. (keeps_object old new object same.keeps same.last has, refl);
}

-- ── an entry ──

entry_is : (object nth : ℕ) (entry : Entry) (base : List ℕ) → MayAddEntry base object nth entry → IsEntered (record { object = object; nth = nth; entry = entry }) base (set base (get_or (entry_places base object) nth 0) (entry_word entry))
entry_is object nth entry base may = record {
  size = length-set base (get_or (entry_places base object) nth 0) (entry_word entry);
  word = get_or-set_same base (get_or (entry_places base object) nth 0) (entry_word entry) 0 (entry_in base object may.is_object nth may.room);
  others = λ w apart. get_or-set_other base (get_or (entry_places base object) nth 0) w (entry_word entry) 0 apart;
  places = entry_places_stay base object nth entry may;
  shows = λ transaction shows. entry_shows base object nth entry may transaction shows;
  is_object = entry_object base object nth entry may;
  packed = entry_packed base object nth entry may;
  next = λ other lt spelt. entry_next base object nth entry may other lt spelt.table spelt.row;
  goes_on = record {
    segments = λ segments. (entry_segments base object nth entry may segments).1;
    extends = λ index extends. (entry_goes_on base object nth entry may index extends).1;
  };
}

entry_stable : (object nth : ℕ) (entry : Entry) (old new : List ℕ) → SameObjectRead object old new → MayAddEntry old object nth entry
    → MayAddEntry new object nth entry × ((entry_part new object nth entry ∷ []) ≡ (entry_part old object nth entry ∷ []))
entry_stable object nth entry old new same may = (
  record {
    is_object = keeps_object old new object same.keeps same.last may.is_object;
    count =
        let now = length-map (objects.entries new object) entry_of in
        let was = length-map (objects.entries old object) entry_of in
        let entries = ap (λ (l : List Entry). length l) (keeps_shows old new object same.keeps (record { state = get_or old (state_at object) 0; commit_word = get_or old (commit_word_at object) 0; entries = entries_in old object }) (record { state = refl; commit_word = refl; entries = refl })).entries in
        let count = may.count in
        omega (arith, now, was, entries, count);
    room = subst (λ (l : List ℕ). nth < length l) (sym (keeps_places old new object same.keeps)) may.room;
    packed = keeps_packed old new object same.keeps may.packed;
    table = may.table;
    row = may.row;
  },
  ap (λ (l : List ℕ). one_store (get_or l nth 0) (entry_word entry) ∷ []) (keeps_places old new object same.keeps),
)

pub entry_holds : (n : NewEntry) → HoldsOnWords (entering n)
entry_holds n = record {
  plan = λ base may. (store_part (length base) (get_or (entry_places base n.object) n.nth 0) (entry_word n.entry) (entry_in base n.object may.is_object n.nth may.room), tt);
  cuts = λ base may. one_store_cuts (IsEntered n base) (get_or (entry_places base n.object) n.nth 0) (entry_word n.entry) base (entry_is n.object n.nth n.entry base may);
  end = λ base may. entry_is n.object n.nth n.entry base may;
  stable = λ old new same may. entry_stable n.object n.nth n.entry old new same may;
}

-- ── an extension ──

extension_ends : (e : Extension) (base : List ℕ) → MayExtend base e → EndsExtension e base (extended_words base e)
extension_ends e base may =
    let shown = extension_shown base e may in
    record {
      extended = shown.ends;
      allocates = shown.allocates;
      owned = shown.owned_stays;
      owns = owns_after e base may;
      mended = shown.mended;
      segments = shown.again;
      next = λ has packed entry spelt. enters_after e base may has packed entry spelt;
      again = shown.goes_on;
    }

module _ (e : Extension) (old new : List ℕ) (same : SameExtensionRead e old new) where
  frame : SameFrame old new e.object
  frame = keeps_frame old new e.object same.object

  segment_is : (k : ℕ) → k < ready_count old e.object → segment_of new e.object k ≡ segment_of old e.object k
  segment_is k lt = segment_same old new e.object (ready_count old e.object) (ready_pointers_same old new e.object frame) k lt

  after_is : pointer_after new e.object ≡ pointer_after old e.object
  after_is =
      ap (λ (n : ℕ). segment_pointer_at new e.object n) frame.ready
      ∙ pointer_same old new e.object (ready_count old e.object) (ready_pointers_same old new e.object frame) (ready_count old e.object) (omega arith)

  source_stable : (source : Source) → SameSourceRead source old new → MayTake old e.object source
      → MayTake new e.object source × (source_parts new source ≡ source_parts old source)
  source_stable (owned segment) live take = (
    (ap (λ (at : ℕ). get_or new at 0) after_is ∙ same.object.each _ (its_pointer (ready_count old e.object) (omega arith)) ∙ take.0, live),
    refl,
  )
  source_stable (allocated choice) read take =
      let stable = choice_stable choice old new read take.0 in
      ((stable.0, subst (λ (at : ℕ). IsThrough e.object at choice) (sym after_is) take.1, take.2), stable.1)

  extension_stable : MayExtend old e → MayExtend new e × (extension_parts new e ≡ extension_parts old e)
  extension_stable may =
      let source = source_stable e.source same.source may.source in
      let ready = frame.ready in (
        record {
          number = may.number;
          segments = record {
            rules = same.rules;
            rule = same.rule;
            live = λ k lt. let below : k < ready_count old e.object = subst (λ (n : ℕ). k < n) ready lt in
                subst (λ (s : ℕ). Contains (live_blocks new) (segment_block s)) (sym (segment_is k below)) (same.live k below);
          };
          count = let few = may.count in omega (arith, ready, few);
          idle = same.op ∙ may.idle;
          apart = λ k lt is. let below : k < ready_count old e.object = subst (λ (n : ℕ). k < n) ready lt in may.apart k below (sym (segment_is k below) ∙ is);
          source = source.0;
        },
        ap (λ (parts : List Part). parts ++ readying_parts e.object (ready_count new e.object) (new_segment e)) source.1
            ∙ ap (λ (n : ℕ). source_parts old e.source ++ readying_parts e.object n (new_segment e)) ready,
      )

pub extension_holds : (e : Extension) → HoldsOnWords (extending e)
extension_holds e = record {
  plan = λ base may. (extension_shown base e may).plan;
  cuts = λ base may. (extension_shown base e may).cuts;
  end = λ base may. extension_ends e base may;
  stable = λ old new same may. extension_stable e old new same may;
}

-- ── a retire ──

module _ (r : Retirement) (base : List ℕ) (may : MayBeRetired base r) where
  retire_is_object : (image : List ℕ) → IsRetiring base r.object r.entries r.word image → HasObject image r.object
  retire_is_object image is = kept_object base image r.object may.is_object (retiring_same base r.object r.entries r.word may.is_object may.most image is)

  retire_going : (image : List ℕ) → IsRetiring base r.object r.entries r.word image → GoesOn r.object base image
  retire_going image is =
      let same = retiring_same base r.object r.entries r.word may.is_object may.most image is in
      record {
        segments = λ segments. kept_segments base image r.object may.is_object same segments;
        extends = λ index extends. kept_extension base image r.object may.is_object same index extends;
      }

  going_still : GoesOn r.object base base
  going_still = record { segments = λ segments. segments; extends = λ index extends. extends }

  retire_cut : (image : List ℕ) → (image ≡ base) ⊎ IsRetiring base r.object r.entries r.word image → ShowsRetire r base image
  retire_cut image (inl old) = record {
    words = inl old;
    is_object = subst (λ (l : List ℕ). HasObject l r.object) (sym old) may.is_object;
    goes_on = subst (λ (l : List ℕ). GoesOn r.object base l) (sym old) going_still;
  }
  retire_cut image (inr is) = record { words = inr is; is_object = retire_is_object image is; goes_on = retire_going image is }

  retire_cuts : EachCut (ShowsRetire r base) (retire_parts base r.object r.entries r.word) base
  retire_cuts = each_cut-map (λ image. (image ≡ base) ⊎ IsRetiring base r.object r.entries r.word image) (ShowsRetire r base) (retire_parts base r.object r.entries r.word) base
      retire_cut (retire_each base r.object r.entries r.word may.is_object may.most)

retire_stable : (r : Retirement) (old new : List ℕ) → SameObjectRead r.object old new → MayBeRetired old r
    → MayBeRetired new r × (retire_parts new r.object r.entries r.word ≡ retire_parts old r.object r.entries r.word)
unfolding clear_part
retire_stable r old new same may =
    let places = keeps_places old new r.object same.keeps in (
      record { is_object = keeps_object old new r.object same.keeps same.last may.is_object; most = subst (λ (l : List ℕ). r.entries ≤ length l) (sym places) may.most },
      ap (λ (l : List ℕ). one_store (state_at r.object) 0 ∷ unless_empty (stores 0 (take r.entries l) ++ (cond r.word (one_store (commit_word_at r.object) 0) []))) places,
    )

pub retire_holds : (r : Retirement) → HoldsOnWords (retiring r)
retire_holds r = record {
  plan = λ base may. retire_plan base r.object r.entries r.word may.is_object may.most;
  cuts = λ base may. retire_cuts r base may;
  end = λ base may. retire_ends base r.object r.entries r.word may.is_object may.most;
  stable = λ old new same may. retire_stable r old new same may;
}

-- ── once all its entries are cleared ──

module _ (r : Retirement) (old words : List ℕ) (clears : ClearsAll old r) (retired : IsRetired old r.object r.entries r.word words) where
  few : length (objects.entries old r.object) ≤ r.entries
  few = let count = length-map (objects.entries old r.object) entry_of in let all = clears.all in omega (arith, count, all)

  pub retired_shows : ClearsCommit old r → Shows words r.object no_transaction
  retired_shows commit = retire_shows old r.object r.entries r.word clears.may.is_object clears.may.most words retired few clears.packed commit

  pub retired_empty : (nth : ℕ) → nth < length (entry_places old r.object) → get_or words (nth_place old r.object nth) 0 ≡ 0
  retired_empty nth lt = retire_free old r.object r.entries r.word clears.may.is_object clears.may.most words retired few clears.packed nth lt

  pub retired_begins : (entry : Entry) → IsSpelt entry → MayAddEntry words r.object 0 entry
  retired_begins entry spelt = retire_begins old r.object r.entries r.word clears.may.is_object clears.may.most words entry retired clears.all clears.packed spelt.table spelt.row

-- ── in which images there are such objects ──

pub place_object : (words : List ℕ) (object : ℕ) → IsObjectPlace words object → HasSegments words object → HasObject words object
place_object words object is has =
    let number = is.number in
    let size = is.size in
    apart_from_blocks words object (omega (arith, number)) (omega (arith, size)) is.whole has

pub intact_extension : (words : List ℕ) (index : HeapIndex) (object : ℕ) → object < OBJECTS → IsIntact words → IsIndexOf words index → MayPlanExtension words index object
intact_extension words index object number intact is = intact_extends words intact object (omega (arith, number)) index is

pub own_segments : (words : List ℕ) (object : ℕ) → IsObjectOf words object → HasSegments words object
own_segments words object is = let number = is.number in has_segments words object is.rules is.owners (omega (arith, number))

pub own_extension : (words : List ℕ) (index : HeapIndex) (object : ℕ) → IsObjectOf words object → IsIndexOf words index → get_or words (lane_op_at object) 0 ≡ 0 → MayPlanExtension words index object
own_extension words index object is index_of idle = let number = is.number in may_extend words index object is.rules is.owners (omega (arith, number)) index_of idle
