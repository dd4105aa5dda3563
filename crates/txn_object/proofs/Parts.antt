-- A begin and an entry before other parts, and what goes on to hold at each cut of a begin, an entry and a retire.
use Rattle.std.proofs.Common.{◌≡◌, ◌≢◌, ◌⊎◌, inl, inr, ⊎_elim, ℕ, ◌+◌, ◌-◌, ◌^◌, ◌<◌, ◌≤◌, min, Bool, true, false, leb, List, [], ◌∷◌, ◌++◌, length, get_or, set, refl, sym, ◌∙◌, ap, subst, arith}
use Rattle.std.proofs.lemmas.Bool.{le-leb, both_ways}
use Rattle.std.proofs.lemmas.List.{get_or-set_same, get_or-set_other, length-set, length-map, length-append}
use Rattle.image_layout.specs.Fixed.{state_at, commit_word_at, last_at}
use Rattle.pm_model.specs.Plans.{Part, finished, EachCut}
use Rattle.image_layout.specs.Objects as objects
use Rattle.image_layout.specs.Objects.{commit_word, entry_places}
use Rattle.pm_model.proofs.Cuts.{cut-one_store, each_cut-map, each_cut-end}
use Rattle.heap_palloc.specs.Index.{HeapIndex}
use Rattle.txn_object.specs.declared.entry.Entry.{Entry}
use Rattle.txn_object.specs.Entries.{entry_word, entry_of}
use Rattle.txn_object.specs.Object.{entries_in, begin_parts, entry_part, retire_parts, NoEntryFollowsZero}
use Rattle.txn_object.specs.Extension.{HasSegments}
use Rattle.txn_object.specs.Calls.{MayPlanExtension}
use Rattle.txn_object.specs.Shown.{Transaction, Shows, HasObject, MayAddEntry, IsCleared, IsRetiring, IsRetired}
use Rattle.txn_object.specs.Spared.{SparesObject}
use Rattle.txn_object.proofs.Rule.{state_ok, commit_ok}
use Rattle.txn_object.proofs.Frames.{frame_places, entry_not_fixed}
use Rattle.txn_object.proofs.Entering.{state_frame, state_shows, entry_frame, fixed_kept, entry_object, entry_shows, entry_packed}
use Rattle.txn_object.proofs.Places.{length-entry_places}
use Rattle.txn_object.proofs.Retire.{retire_each, retire_free, retire_none, frame}
use Rattle.txn_object.proofs.Spared.{spared_shows, frame_own}
use Rattle.txn_object.proofs.Keeping.{SameButEntries, kept_object, kept_segments, kept_extension}

abbrev OneOf : ℕ → Transaction → Transaction → List ℕ → Type 0
OneOf object before after image = Shows image object before ⊎ Shows image object after

-- ── a begin ──

module _ (base : List ℕ) (object : ℕ) (has : HasObject base object) where
  begin_same : SameButEntries base (set base (state_at object) 1) object
  begin_same = record {
    size = length-set base (state_at object) 1;
    state = let now = get_or-set_same base (state_at object) 1 0 (let number = has.number in let size = has.size in omega (arith, number, size)) in omega (arith, now);
    commit = ap (λ (n : ℕ). leb n (min (get_or base last_at 0 + 1) (2 ^ 40 - 1))) (get_or-set_other base (state_at object) (commit_word_at object) 1 0 (λ e. omega (arith, e))) ∙ commit_ok base object has.rule;
    each = λ w apart _ _. get_or-set_other base (state_at object) w 1 0 apart;
  }

  pub begin_segments : HasSegments base object → EachCut (λ image. HasSegments image object) (begin_parts object) base
  begin_segments segments =
      let after = kept_segments base (set base (state_at object) 1) object has begin_same segments in
      (cut-one_store (λ image. HasSegments image object) (state_at object) 1 base segments after, after)

  pub begin_goes_on : (index : HeapIndex) → MayPlanExtension base index object → EachCut (λ image. MayPlanExtension image index object) (begin_parts object) base
  begin_goes_on index may =
      let after = kept_extension base (set base (state_at object) 1) object has begin_same index may in
      (cut-one_store (λ image. MayPlanExtension image index object) (state_at object) 1 base may after, after)

  module _ (transaction : Transaction) (shows : Shows base object transaction) (parts : List Part) (spares : SparesObject base object parts) where
    begin_rest : EachCut (λ image. Shows image object (record transaction { state = 1 })) parts (set base (state_at object) 1)
    begin_rest = spared_shows (set base (state_at object) 1) object (record transaction { state = 1 }) parts
        (λ w own. spares w (frame_own base (set base (state_at object) 1) object (state_frame base object 1 has) w own))
        (state_shows base object 1 has transaction shows)

    pub begin_before : EachCut (λ image. Shows image object transaction ⊎ Shows image object (record transaction { state = 1 })) (begin_parts object ++ parts) base
    begin_before = (
      cut-one_store (OneOf object transaction (record transaction { state = 1 })) (state_at object) 1 base (inl shows) (inr (state_shows base object 1 has transaction shows)),
      each_cut-map (λ image. Shows image object (record transaction { state = 1 })) (OneOf object transaction (record transaction { state = 1 })) parts (set base (state_at object) 1) (λ image s. inr s) begin_rest,
    )

    pub begin_finished : Shows (finished (begin_parts object ++ parts) base) object (record transaction { state = 1 })
    begin_finished = each_cut-end (λ image. Shows image object (record transaction { state = 1 })) parts (set base (state_at object) 1) begin_rest

-- ── an entry ──

module _ (base : List ℕ) (object nth : ℕ) (entry : Entry) (may : MayAddEntry base object nth entry) where
  abbrev entered : List ℕ
  entered = set base (get_or (entry_places base object) nth 0) (entry_word entry)

  entry_same : SameButEntries base entered object
  entry_same = record {
    size = length-set base (get_or (entry_places base object) nth 0) (entry_word entry);
    state = let ok = state_ok base object may.is_object.rule in let same = fixed_kept base object nth entry may (state_at object) (omega arith) in omega (arith, ok, same);
    commit = ap (λ (n : ℕ). leb n (min (get_or base last_at 0 + 1) (2 ^ 40 - 1))) (fixed_kept base object nth entry may (commit_word_at object) (omega arith)) ∙ commit_ok base object may.is_object.rule;
    each = λ w _ _ apart. get_or-set_other base (get_or (entry_places base object) nth 0) w (entry_word entry) 0 (apart nth may.room);
  }

  pub entry_segments : HasSegments base object → EachCut (λ image. HasSegments image object) (entry_part base object nth entry ∷ []) base
  entry_segments segments =
      let after = kept_segments base entered object may.is_object entry_same segments in
      (cut-one_store (λ image. HasSegments image object) (get_or (entry_places base object) nth 0) (entry_word entry) base segments after, after)

  pub entry_goes_on : (index : HeapIndex) → MayPlanExtension base index object → EachCut (λ image. MayPlanExtension image index object) (entry_part base object nth entry ∷ []) base
  entry_goes_on index extends =
      let after = kept_extension base entered object may.is_object entry_same index extends in
      (cut-one_store (λ image. MayPlanExtension image index object) (get_or (entry_places base object) nth 0) (entry_word entry) base extends after, after)

  pub entry_places_stay : entry_places entered object ≡ entry_places base object
  entry_places_stay = frame_places base entered object (entry_frame base object nth entry may)

  pub entry_count : length (objects.entries entered object) ≡ nth + 1
  entry_count =
      let now = length-map (objects.entries entered object) entry_of in
      let was = length-map (objects.entries base object) entry_of in
      let one = ap (λ (l : List Entry). length l) (entry_shows base object nth entry may (record { state = get_or base (state_at object) 0; commit_word = get_or base (commit_word_at object) 0; entries = entries_in base object }) (record { state = refl; commit_word = refl; entries = refl })).entries in
      let sum = length-append (entries_in base object) (entry ∷ []) in
      let count = may.count in omega (arith, now, was, one, sum, count)

  -- so the next entry may be the next one
  pub entry_next : (other : Entry) → nth + 1 < length (entry_places base object) → other.table < 2 ^ 24 → other.row < 2 ^ 32 → MayAddEntry entered object (nth + 1) other
  entry_next other lt table row = record {
    is_object = entry_object base object nth entry may;
    count = entry_count;
    room = subst (λ (l : List ℕ). nth + 1 < length l) (sym entry_places_stay) lt;
    packed = entry_packed base object nth entry may;
    table = table;
    row = row;
  }

  module _ (transaction : Transaction) (shows : Shows base object transaction) (parts : List Part) (spares : SparesObject base object parts) where
    entry_rest : EachCut (λ image. Shows image object (record transaction { entries = transaction.entries ++ entry ∷ [] })) parts entered
    entry_rest = spared_shows entered object (record transaction { entries = transaction.entries ++ entry ∷ [] }) parts
        (λ w own. spares w (frame_own base entered object (entry_frame base object nth entry may) w own))
        (entry_shows base object nth entry may transaction shows)

    pub entry_before : EachCut (λ image. Shows image object transaction ⊎ Shows image object (record transaction { entries = transaction.entries ++ entry ∷ [] })) (entry_part base object nth entry ∷ parts) base
    entry_before = (
      cut-one_store (OneOf object transaction (record transaction { entries = transaction.entries ++ entry ∷ [] })) (get_or (entry_places base object) nth 0) (entry_word entry) base
          (inl shows) (inr (entry_shows base object nth entry may transaction shows)),
      each_cut-map (λ image. Shows image object (record transaction { entries = transaction.entries ++ entry ∷ [] })) (OneOf object transaction (record transaction { entries = transaction.entries ++ entry ∷ [] })) parts entered (λ image s. inr s) entry_rest,
    )

    pub entry_finished : Shows (finished (entry_part base object nth entry ∷ parts) base) object (record transaction { entries = transaction.entries ++ entry ∷ [] })
    entry_finished = each_cut-end (λ image. Shows image object (record transaction { entries = transaction.entries ++ entry ∷ [] })) parts entered entry_rest

-- ── a retire ──

module _ (base : List ℕ) (object entries : ℕ) (word : Bool) (has : HasObject base object) (le : entries ≤ length (entry_places base object)) where
  -- what isn't cleared isn't the commit word, where that stays, and no entry
  not_cleared : (w : ℕ) → w ≢ commit_word_at object → ((nth : ℕ) → nth < length (entry_places base object) → w ≢ get_or (entry_places base object) nth 0) → IsCleared base object entries word w → ⊥
  not_cleared w commit entry cleared = ⊎_elim
      (λ one. let lt = one.1 in entry one.0 (omega (arith, lt, le)) one.2)
      (λ two. commit two.1)
      cleared

  commit_stands : (b : Bool) → word ≡ b → (image : List ℕ) → IsRetiring base object entries word image → (get_or image (commit_word_at object) 0 ≡ get_or base (commit_word_at object) 0) ⊎ (get_or image (commit_word_at object) 0 ≡ 0)
  commit_stands true is image retiring = retiring.cleared (commit_word_at object) (inr (is, refl))
  commit_stands false is image retiring = inl (retiring.others (commit_word_at object) (λ e. omega (arith, e)) (λ cleared. ⊎_elim
      (λ one. let lt = one.1 in entry_not_fixed base object has one.0 (commit_word_at object) (omega (arith, lt, le)) (let number = has.number in omega (arith, number)) (inl (omega arith)) (sym one.2))
      (λ two. both_ways word is two.0) cleared))

  pub retiring_same : (image : List ℕ) → IsRetiring base object entries word image → SameButEntries base image object
  retiring_same image retiring = record {
    size = retiring.size;
    state = let none = retiring.state in omega (arith, none);
    commit = ⊎_elim
        (λ old. ap (λ (n : ℕ). leb n (min (get_or base last_at 0 + 1) (2 ^ 40 - 1))) old ∙ commit_ok base object has.rule)
        (λ none. le-leb (commit_word image object) (min (get_or base last_at 0 + 1) (2 ^ 40 - 1)) (omega (arith, none)))
        (commit_stands word refl image retiring);
    each = λ w state commit entry. retiring.others w state (not_cleared w commit entry);
  }

  pub retired_same : (image : List ℕ) → IsRetired base object entries word image → SameButEntries base image object
  retired_same image retired = retiring_same image (record { size = retired.size; state = retired.state; cleared = λ w cleared. inr (retired.cleared w cleared); others = retired.others })

  -- what holds of the words at the start and wherever only the entries change holds at each cut
  retire_keeps : (P : List ℕ → Type 0) → P base → ((image : List ℕ) → SameButEntries base image object → P image) → EachCut P (retire_parts base object entries word) base
  retire_keeps P before after =
      each_cut-map (λ image. (image ≡ base) ⊎ IsRetiring base object entries word image) P (retire_parts base object entries word) base
      (λ image. ⊎_elim (λ (old : image ≡ base). subst P (sym old) before) (λ retiring. after image (retiring_same image retiring)))
      (retire_each base object entries word has le)

  pub retire_object : EachCut (λ image. HasObject image object) (retire_parts base object entries word) base
  retire_object = retire_keeps (λ image. HasObject image object) has (λ image same. kept_object base image object has same)

  pub retire_segments : HasSegments base object → EachCut (λ image. HasSegments image object) (retire_parts base object entries word) base
  retire_segments segments = retire_keeps (λ image. HasSegments image object) segments (λ image same. kept_segments base image object has same segments)

  pub retire_goes_on : (index : HeapIndex) → MayPlanExtension base index object → EachCut (λ image. MayPlanExtension image index object) (retire_parts base object entries word) base
  retire_goes_on index may = retire_keeps (λ image. MayPlanExtension image index object) may (λ image same. kept_extension base image object has same index may)

  -- the object is as one before its first entry
  pub retire_begins : (words : List ℕ) (entry : Entry) → IsRetired base object entries word words → length (entries_in base object) ≤ entries → NoEntryFollowsZero base object → entry.table < 2 ^ 24 → entry.row < 2 ^ 32 → MayAddEntry words object 0 entry
  retire_begins words entry retired few packed table row =
      let count = length-map (objects.entries base object) entry_of in
      let most : length (objects.entries base object) ≤ entries = omega (arith, count, few) in
      let places = frame_places base words object (frame base object entries word has le words retired) in
      let size = length-entry_places words object in
      record {
        is_object = kept_object base words object has (retired_same words retired);
        count = ap (λ (l : List ℕ). length l) (retire_none base object entries word has le words retired most packed);
        room = omega (arith, size);
        packed = λ nth lt none.
            let there : nth + 1 < length (entry_places base object) = subst (λ (l : List ℕ). nth + 1 < length l) places lt in
            ap (λ (l : List ℕ). get_or words (get_or l (nth + 1) 0) 0) places ∙ retire_free base object entries word has le words retired most packed (nth + 1) there;
        table = table;
        row = row;
      }
