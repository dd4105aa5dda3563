-- A begin and an entry: what the object shows after the one store that each of them is.
use Rattle.std.proofs.Common.{◌≡◌, ◌≢◌, ◌⊎◌, inl, inr, ⊎_elim, ℕ, zero, suc, ◌+◌, ◌/◌, ◌%◌, ◌^◌, ◌<◌, ◌≤◌, cond, eqb, List, [], ◌∷◌, ◌++◌, length, map, get_or, set, refl, sym, ◌∙◌, ap, subst, arith}
use Rattle.std.proofs.lemmas.List.{get_or-set_same, get_or-set_other, length-set, length-map, get_or-map, map-append}
use Rattle.std.proofs.lemmas.Bool.{cases_eq, cond-true, cond-false, eq-eqb, ne_eqb}
use Rattle.image_layout.specs.Fixed.{state_at, commit_word_at, entry_at, ready_at, last_at}
use Rattle.image_layout.specs.Objects.{segment_pointer_at, entry_places}
use Rattle.txn_object.specs.declared.entry.Entry.{Entry}
use Rattle.txn_object.specs.declared.entry.EntryKind.{EntryKind}
use Rattle.txn_object.specs.declared.entry.EntryKind.TheVariants.{Created, Ended}
use Rattle.txn_object.specs.Entries.{kind_number, entry_word, entry_of}
use Rattle.txn_object.specs.Object.{NoEntryFollowsZero}
use Rattle.txn_object.specs.Shown.{Transaction, Shows, HasObject, MayAddEntry}
use Rattle.txn_object.proofs.Runs.{set_words, set-no, set-yes}
use Rattle.txn_object.proofs.Walk.{words_at}
use Rattle.txn_object.proofs.Rule.{state_ok}
use Rattle.txn_object.proofs.Frames.{SameFrame, frame_places, commit_stays, frame_object, pointer_not_low, entry_not_fixed, entry_not_pointer, entry_in, entries_differ}

-- ── lists of entry words ──

-- no word of a list follows a 0
abbrev pub IsPacked : List ℕ → Type 0
IsPacked words = (nth : ℕ) → nth + 1 < length words → get_or words nth 0 ≡ 0 → get_or words (nth + 1) 0 ≡ 0

packed-rest : (word : ℕ) (words : List ℕ) → IsPacked (word ∷ words) → IsPacked words
packed-rest word words packed nth lt none = let next : nth + 1 ≡ suc nth = omega arith in
    ap (λ (n : ℕ). get_or (word ∷ words) n 0) (sym_suc nth) ∙ packed (suc nth) (omega (arith, lt)) none
  where
    sym_suc : (n : ℕ) → suc (n + 1) ≡ suc n + 1
    sym_suc n = omega arith

-- behind a 0 there is no entry
packed-none : (word : ℕ) (words : List ℕ) → IsPacked (word ∷ words) → word ≡ 0 → set_words (word ∷ words) ≡ []
packed-none word [] packed is = set-no word [] is
packed-none word (next ∷ words) packed is =
    set-no word (next ∷ words) is ∙ packed-none next words (packed-rest word (next ∷ words) packed) (packed 0 (omega arith) is)

-- one more word behind the others is one more entry
pub packed-more : (words : List ℕ) (nth word : ℕ) → IsPacked words → length (set_words words) ≡ nth → nth < length words → word ≢ 0 → set_words (set words nth word) ≡ set_words words ++ word ∷ []
packed-more [] nth word packed count lt some = absurd (omega (arith, lt))
packed-more (first ∷ words) zero word packed count lt some =
    let none : first ≡ 0 = first_zero first refl in
    let rest : set_words (first ∷ words) ≡ [] = packed-none first words packed none in
    set-yes word words some ∙ ap (λ (l : List ℕ). word ∷ l) (sym (set-no first words none) ∙ rest) ∙ ap (λ (l : List ℕ). l ++ word ∷ []) (sym rest)
  where
    first_zero : (n : ℕ) → first ≡ n → first ≡ 0
    first_zero n is = ⊎_elim (λ e. e) (λ ne. let size = ap (λ (l : List ℕ). length l) (set-yes first words ne) in absurd (omega (arith, size, count))) (cases_eq first 0)
packed-more (first ∷ words) (suc nth) word packed count lt some =
    let here : first ≢ 0 = λ e. let size = ap (λ (l : List ℕ). length l) (packed-none first words packed e) in omega (arith, size, count) in
    let size = ap (λ (l : List ℕ). length l) (set-yes first words here) in
    set-yes first (set words nth word) here
    ∙ ap (λ (l : List ℕ). first ∷ l) (packed-more words nth word (packed-rest first words packed) (omega (arith, size, count)) (omega (arith, lt)) some)
    ∙ ap (λ (l : List ℕ). l ++ word ∷ []) (sym (set-yes first words here))

-- the words before the count are set, and those from it on are 0
pub packed-at : (words : List ℕ) (nth : ℕ) → IsPacked words → nth < length words → ((nth < length (set_words words)) × (get_or words nth 0 ≢ 0)) ⊎ ((length (set_words words) ≤ nth) × (get_or words nth 0 ≡ 0))
packed-at [] nth packed lt = absurd (omega (arith, lt))
packed-at (first ∷ words) zero packed lt = ⊎_elim
    (λ is. let size = ap (λ (l : List ℕ). length l) (packed-none first words packed is) in inr (omega (arith, size), is))
    (λ ne. let size = ap (λ (l : List ℕ). length l) (set-yes first words ne) in inl (omega (arith, size), ne))
    (cases_eq first 0)
packed-at (first ∷ words) (suc nth) packed lt = ⊎_elim
    (λ is. let none = packed-none first words packed is in let size = ap (λ (l : List ℕ). length l) none in
    let rest = ap (λ (l : List ℕ). length l) (sym (set-no first words is) ∙ none) in
    ⊎_elim (λ set. absurd (omega (arith, set.0, rest))) (λ free. inr (omega (arith, size), free.1)) (packed-at words nth (packed-rest first words packed) (omega (arith, lt))))
    (λ ne. let size = ap (λ (l : List ℕ). length l) (set-yes first words ne) in
    ⊎_elim (λ set. inl (omega (arith, set.0, size), set.1)) (λ free. inr (omega (arith, free.0, size), free.1)) (packed-at words nth (packed-rest first words packed) (omega (arith, lt))))
    (cases_eq first 0)

-- the words at places of which one has another word now
pub words_at-set : (words places : List ℕ) (nth value : ℕ) → nth < length places → get_or places nth 0 < length words → ((other : ℕ) → other < length places → other ≢ nth → get_or places other 0 ≢ get_or places nth 0)
    → words_at (set words (get_or places nth 0) value) places ≡ set (words_at words places) nth value
words_at-set words [] nth value lt there differ = absurd (omega (arith, lt))
words_at-set words (place ∷ places) zero value lt there differ =
    ap (λ (w : ℕ). w ∷ words_at (set words place value) places) (get_or-set_same words place value 0 there)
    ∙ ap (λ (l : List ℕ). value ∷ l) (others places (λ k below. differ (suc k) (omega (arith, below)) (λ e. omega (arith, e))))
  where
    others : (rest : List ℕ) → ((k : ℕ) → k < length rest → get_or rest k 0 ≢ place) → words_at (set words place value) rest ≡ words_at words rest
    others [] apart = refl
    others (next ∷ rest) apart =
        ap (λ (w : ℕ). w ∷ words_at (set words place value) rest) (get_or-set_other words place next value 0 (apart 0 (omega arith)))
        ∙ ap (λ (l : List ℕ). get_or words next 0 ∷ l) (others rest (λ k below. apart (suc k) (omega (arith, below))))
words_at-set words (place ∷ places) (suc nth) value lt there differ =
    ap (λ (w : ℕ). w ∷ words_at (set words (get_or places nth 0) value) places) (get_or-set_other words (get_or places nth 0) place value 0 (differ 0 (omega arith) (λ e. omega (arith, e))))
    ∙ ap (λ (l : List ℕ). get_or words place 0 ∷ l) (words_at-set words places nth value (omega (arith, lt)) there (λ k below ne. differ (suc k) (omega (arith, below)) (λ e. ne (omega (arith, e)))))

pub words_at-same : (old new places : List ℕ) → ((k : ℕ) → k < length places → get_or new (get_or places k 0) 0 ≡ get_or old (get_or places k 0) 0) → words_at new places ≡ words_at old places
words_at-same old new [] same = refl
words_at-same old new (place ∷ places) same =
    ap (λ (w : ℕ). w ∷ words_at new places) (same 0 (omega arith)) ∙ ap (λ (l : List ℕ). get_or old place 0 ∷ l) (words_at-same old new places (λ k lt. same (suc k) (omega (arith, lt))))

-- the entry words of an object as a list without a 0 before an entry
pub packed_words : (words : List ℕ) (object : ℕ) → NoEntryFollowsZero words object → IsPacked (words_at words (entry_places words object))
packed_words words object packed nth lt none =
    let places = entry_places words object in
    let size = length-map (entry_places words object) (λ w. get_or words w 0) in
    let one = get_or-map (λ w. get_or words w 0) (entry_places words object) nth 0 0 (omega (arith, lt, size)) in
    let two = get_or-map (λ w. get_or words w 0) (entry_places words object) (nth + 1) 0 0 (omega (arith, lt, size)) in
    two ∙ packed nth (omega (arith, lt, size)) (sym one ∙ none)

-- ── a begin ──

module _ (base : List ℕ) (object value : ℕ) (has : HasObject base object) where
  pub state_frame : SameFrame base (set base (state_at object) value) object
  state_frame = record {
    size = length-set base (state_at object) value;
    ready = get_or-set_other base (state_at object) (ready_at object) value 0 (λ e. omega (arith, e));
    pointers = λ k le. get_or-set_other base (state_at object) (segment_pointer_at base object k) value 0 (pointer_not_low base object has k (state_at object) le (omega arith));
  }

  pub state_words : words_at (set base (state_at object) value) (entry_places base object) ≡ words_at base (entry_places base object)
  state_words = words_at-same base (set base (state_at object) value) (entry_places base object)
      (λ k lt. get_or-set_other base (state_at object) (get_or (entry_places base object) k 0) value 0 (entry_not_fixed base object has k (state_at object) lt (let number = has.number in omega (arith, number)) (inl (omega arith))))

  pub state_object : value ≤ 1 → HasObject (set base (state_at object) value) object
  state_object le = frame_object base (set base (state_at object) value) object state_frame has
      (let now = get_or-set_same base (state_at object) value 0 (let number = has.number in let size = has.size in omega (arith, number, size)) in omega (arith, now, le))
      (let last = get_or-set_other base (state_at object) last_at value 0 (λ e. omega (arith, e)) in
      commit_stays base (set base (state_at object) value) object state_frame has (get_or-set_other base (state_at object) (commit_word_at object) value 0 (λ e. omega (arith, e))) (omega (arith, last)))

  pub state_shows : (transaction : Transaction) → Shows base object transaction → Shows (set base (state_at object) value) object (record transaction { state = value })
  state_shows transaction shows = record {
    state = get_or-set_same base (state_at object) value 0 (let number = has.number in let size = has.size in omega (arith, number, size));
    commit_word = get_or-set_other base (state_at object) (commit_word_at object) value 0 (λ e. omega (arith, e)) ∙ shows.commit_word;
    entries = ap (λ (places : List ℕ). map entry_of (set_words (words_at (set base (state_at object) value) places))) (frame_places base (set base (state_at object) value) object state_frame)
        ∙ ap (λ (l : List ℕ). map entry_of (set_words l)) state_words ∙ shows.entries;
  }

-- ── an entry ──

-- the word of an entry spells it
kind-set : (kind : EntryKind) → kind_number kind ≢ 0
kind-set Created e = omega (arith, e)
kind-set Ended e = omega (arith, e)

pub entry_word-set : (entry : Entry) → entry_word entry ≢ 0
entry_word-set entry e = kind-set entry.kind (omega (arith, e))

kind-spelt : (kind : EntryKind) (n : ℕ) → n ≡ kind_number kind → cond (eqb n 1) Created Ended ≡ kind
kind-spelt Created n is = cond-true (eqb n 1) Created Ended (eq-eqb n 1 is)
kind-spelt Ended n is = cond-false (eqb n 1) Created Ended (ne_eqb n 1 (λ e. omega (arith, is, e)))

entry-same : (a b : EntryKind) (t u r s : ℕ) → a ≡ b → t ≡ u → r ≡ s → ◌≡◌ {A = Entry} (record { kind = a; table = t; row = r }) (record { kind = b; table = u; row = s })
entry-same a b t u r s kinds tables rows = cc

pub entry_of-entry_word : (entry : Entry) → entry.table < 2 ^ 24 → entry.row < 2 ^ 32 → entry_of (entry_word entry) ≡ entry
entry_of-entry_word entry table row =
    let word = entry_word entry in
    let kinds : word / 2 ^ 56 ≡ kind_number entry.kind = omega (arith, table, row) in
    let tables : word / 2 ^ 32 % 2 ^ 24 ≡ entry.table = omega (arith, table, row) in
    let rows : word % 2 ^ 32 ≡ entry.row = omega (arith, table, row) in
    entry-same (cond (eqb (word / 2 ^ 56) 1) Created Ended) entry.kind (word / 2 ^ 32 % 2 ^ 24) entry.table (word % 2 ^ 32) entry.row (kind-spelt entry.kind (word / 2 ^ 56) kinds) tables rows

module _ (base : List ℕ) (object nth : ℕ) (entry : Entry) (may : MayAddEntry base object nth entry) where
  abbrev place : ℕ
  place = get_or (entry_places base object) nth 0

  abbrev pub entered : List ℕ
  entered = set base (get_or (entry_places base object) nth 0) (entry_word entry)

  pub entry_frame : SameFrame base (set base (get_or (entry_places base object) nth 0) (entry_word entry)) object
  entry_frame = record {
    size = length-set base (get_or (entry_places base object) nth 0) (entry_word entry);
    ready = get_or-set_other base (get_or (entry_places base object) nth 0) (ready_at object) (entry_word entry) 0 (λ e. fixed (ready_at object) (let number = may.is_object.number in omega (arith, number)) (omega arith) (sym e));
    pointers = λ k le. get_or-set_other base (get_or (entry_places base object) nth 0) (segment_pointer_at base object k) (entry_word entry) 0 (λ e. entry_not_pointer base object may.is_object nth k may.room le (sym e));
  }
    where
      fixed : (w : ℕ) → w < 2048 → w < entry_at object 0 → get_or (entry_places base object) nth 0 ≢ w
      fixed w low before = entry_not_fixed base object may.is_object nth w may.room low (inl before)

  pub fixed_kept : (w : ℕ) → w < entry_at object 0 → get_or (set base (get_or (entry_places base object) nth 0) (entry_word entry)) w 0 ≡ get_or base w 0
  fixed_kept w before = get_or-set_other base (get_or (entry_places base object) nth 0) w (entry_word entry) 0
      (λ e. entry_not_fixed base object may.is_object nth w may.room (let number = may.is_object.number in omega (arith, number, before)) (inl before) (sym e))

  entered_words : words_at (set base (get_or (entry_places base object) nth 0) (entry_word entry)) (entry_places base object) ≡ set (words_at base (entry_places base object)) nth (entry_word entry)
  entered_words = words_at-set base (entry_places base object) nth (entry_word entry) may.room (entry_in base object may.is_object nth may.room)
      (λ other lt ne. entries_differ base object may.is_object other nth lt may.room ne)

  pub entry_object : HasObject (set base (get_or (entry_places base object) nth 0) (entry_word entry)) object
  entry_object = frame_object base (set base (get_or (entry_places base object) nth 0) (entry_word entry)) object entry_frame may.is_object
      (let ok = state_ok base object may.is_object.rule in let same = fixed_kept (state_at object) (omega arith) in omega (arith, ok, same))
      (let last = fixed_kept last_at (omega arith) in
      commit_stays base (set base (get_or (entry_places base object) nth 0) (entry_word entry)) object entry_frame may.is_object (fixed_kept (commit_word_at object) (omega arith)) (omega (arith, last)))

  pub entry_shows : (transaction : Transaction) → Shows base object transaction → Shows (set base (get_or (entry_places base object) nth 0) (entry_word entry)) object (record transaction { entries = transaction.entries ++ entry ∷ [] })
  entry_shows transaction shows =
      let new = set base (get_or (entry_places base object) nth 0) (entry_word entry) in
      let old = words_at base (entry_places base object) in
      let size = length-map (entry_places base object) (λ w. get_or base w 0) in
      record {
        state = fixed_kept (state_at object) (omega arith) ∙ shows.state;
        commit_word = fixed_kept (commit_word_at object) (omega arith) ∙ shows.commit_word;
        entries = ap (λ (places : List ℕ). map entry_of (set_words (words_at new places))) (frame_places base new object entry_frame)
            ∙ ap (λ (l : List ℕ). map entry_of (set_words l)) entered_words
            ∙ ap (λ (l : List ℕ). map entry_of l) (packed-more old nth (entry_word entry) (packed_words base object may.packed) may.count (let room = may.room in omega (arith, room, size)) (entry_word-set entry))
            ∙ map-append entry_of (set_words old) (entry_word entry ∷ [])
            ∙ ap (λ (e : Entry). map entry_of (set_words old) ++ e ∷ []) (entry_of-entry_word entry may.table may.row)
            ∙ ap (λ (l : List Entry). l ++ entry ∷ []) shows.entries;
      }

  pub entry_packed : NoEntryFollowsZero (set base (get_or (entry_places base object) nth 0) (entry_word entry)) object
  entry_packed k lt none =
      let new = set base (get_or (entry_places base object) nth 0) (entry_word entry) in
      let places = frame_places base new object entry_frame in
      let below : k + 1 < length (entry_places base object) = subst (λ (l : List ℕ). k + 1 < length l) places lt in
      let at : (n : ℕ) → n < length (entry_places base object) → get_or new (get_or (entry_places new object) n 0) 0 ≡ get_or (set (words_at base (entry_places base object)) nth (entry_word entry)) n 0 =
      λ n there. ap (λ (l : List ℕ). get_or new (get_or l n 0) 0) places
      ∙ sym (get_or-map (λ w. get_or new w 0) (entry_places base object) n 0 0 there) ∙ ap (λ (l : List ℕ). get_or l n 0) entered_words in
      at (k + 1) below ∙ packed_set k below (sym (at k (omega (arith, below))) ∙ none)
    where
      packed_set : (k : ℕ) → k + 1 < length (entry_places base object) → get_or (set (words_at base (entry_places base object)) nth (entry_word entry)) k 0 ≡ 0 → get_or (set (words_at base (entry_places base object)) nth (entry_word entry)) (k + 1) 0 ≡ 0
      packed_set k below is =
          let old = words_at base (entry_places base object) in
          let size = length-map (entry_places base object) (λ w. get_or base w 0) in
          let packed = packed_words base object may.packed in
          ⊎_elim
          (λ (here : k ≡ nth). absurd (entry_word-set entry (sym (get_or-set_same old nth (entry_word entry) 0 (omega (arith, here, below, size))) ∙ ap (λ (n : ℕ). get_or (set old nth (entry_word entry)) n 0) (sym here) ∙ is)))
          (λ ne.
          let before : get_or old k 0 ≡ 0 = sym (get_or-set_other old nth k (entry_word entry) 0 ne) ∙ is in
          ⊎_elim (λ set_one. absurd (set_one.1 before))
          (λ free.
          let count = may.count in
          get_or-set_other old nth (k + 1) (entry_word entry) 0 (λ e. omega (arith, e, count, free.0, ne)) ∙ packed k (omega (arith, below, size)) before)
          (packed-at old k packed (omega (arith, below, size))))
          (cases_eq k nth)
