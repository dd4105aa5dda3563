-- The part that undoes a transaction: what it stores, and where.
use Rattle.std.proofs.Common.{◌≡◌, ◌≢◌, ◌⊎◌, inl, inr, ⊎_elim, ℕ, zero, suc, ◌+◌, ◌-◌, ◌<◌, ◌≤◌, true, false, ◌&&◌, ◌||◌, not, eqb, ltb, List, [], ◌∷◌, ◌++◌, get_or, map, refl, sym, ◌∙◌, ap, subst, arith}
use Rattle.std.specs.List.{flat_map, range_with_len}
use Rattle.std.proofs.lemmas.Bool.{cases_eq, cond_both, cond-true, eqb-true, eq-eqb, ltb-true, lt-ltb, or_cases, or_left, or_right, both_ways}
use Rattle.image_layout.specs.Fixed.{last_at}
use Rattle.pm_model.specs.Device.{writes}
use Rattle.pm_model.specs.Plans.{Part, one_store, stores, footprint}
use Rattle.txn_object.specs.declared.entry.Entry.{Entry}
use Rattle.txn_object.specs.declared.entry.EntryKind.{EntryKind}
use Rattle.txn_object.specs.declared.entry.EntryKind.TheVariants.{Created, Ended}
use Rattle.txn_object.specs.Entries.{entry_of}
use Rattle.stage_object.specs.Object.{entries_from}
use Rattle.stage_object.proofs.EntryWords.{entries_from-stop, entries_from-next}
use Rattle.engine_core.specs.Stage.{born_at, ended_at}
use Rattle.engine_core.specs.ImageRules.{dead, is_entry, is_entry_word}
use Rattle.engine_core.specs.Opening.{undo_entry}
use Rattle.engine_core.proofs.Greatest.{entry}
use Rattle.engine_core.proofs.ImageRules.{entry-before}
use Rattle.pm_model.specs.Needed.{Stores}
use Rattle.pm_model.proofs.NeededStores.{stores-append}
use Rattle.engine_core.proofs.OpeningTrace.{born, ended}

-- ── one entry ──

undo_stores : (Q : ℕ → ℕ → Type 0) (words : List ℕ) (kind : EntryKind) (table row : ℕ)
    → (kind ≡ Created → (born words row ≡ 0) ⊎ (get_or words last_at 0 < born words row) → Q (born_at row) dead)
    → (kind ≡ Ended → get_or words last_at 0 < ended words row → Q (ended_at row) 0)
    → Stores Q (undo_entry words (record { kind = kind; table = table; row = row }))
undo_stores Q words Created table row created ends =
    cond_both (eqb (born words row) 0 || ltb (get_or words last_at 0) (born words row)) (one_store (born_at row) dead) [] (λ (part : Part). Stores Q part)
    (λ hit. (
      created refl (⊎_elim (λ none. inl (eqb-true (born words row) 0 none)) (λ above. inr (ltb-true (get_or words last_at 0) (born words row) above))
          (or_cases (eqb (born words row) 0) (ltb (get_or words last_at 0) (born words row)) hit)),
      tt,
    ))
    (λ miss. tt)
undo_stores Q words Ended table row created ends =
    cond_both (ltb (get_or words last_at 0) (ended words row)) (one_store (ended_at row) 0) [] (λ (part : Part). Stores Q part)
    (λ hit. (ends refl (ltb-true (get_or words last_at 0) (ended words row) hit), tt))
    (λ miss. tt)

pub undo_entry-stores : (Q : ℕ → ℕ → Type 0) (words : List ℕ) (entry : Entry)
    → (entry.kind ≡ Created → (born words entry.row ≡ 0) ⊎ (get_or words last_at 0 < born words entry.row) → Q (born_at entry.row) dead)
    → (entry.kind ≡ Ended → get_or words last_at 0 < ended words entry.row → Q (ended_at entry.row) 0)
    → Stores Q (undo_entry words entry)
undo_entry-stores Q words entry created ends = undo_stores Q words entry.kind entry.table entry.row created ends

created_hit : (words : List ℕ) (kind : EntryKind) (table row : ℕ) → kind ≡ Created → (born words row ≡ 0) ⊎ (get_or words last_at 0 < born words row)
    → footprint (undo_entry words (record { kind = kind; table = table; row = row })) (born_at row) ≡ true
created_hit words Created table row is undecided =
    let test : (eqb (born words row) 0 || ltb (get_or words last_at 0) (born words row)) ≡ true = ⊎_elim
    (λ none. or_left (eqb (born words row) 0) (ltb (get_or words last_at 0) (born words row)) (eq-eqb (born words row) 0 none))
    (λ above. or_right (eqb (born words row) 0) (ltb (get_or words last_at 0) (born words row)) (lt-ltb (get_or words last_at 0) (born words row) above)) undecided in
    ap (λ (part : Part). footprint part (born_at row)) (cond-true (eqb (born words row) 0 || ltb (get_or words last_at 0) (born words row)) (one_store (born_at row) dead) [] test)
    ∙ or_left (eqb (born_at row) (born_at row)) false (eq-eqb (born_at row) (born_at row) refl)
created_hit words Ended table row is undecided = absurd (cc)

pub undo_created-hit : (words : List ℕ) (entry : Entry) → entry.kind ≡ Created → (born words entry.row ≡ 0) ⊎ (get_or words last_at 0 < born words entry.row) → footprint (undo_entry words entry) (born_at entry.row) ≡ true
undo_created-hit words entry is undecided = created_hit words entry.kind entry.table entry.row is undecided

ended_hit : (words : List ℕ) (kind : EntryKind) (table row : ℕ) → kind ≡ Ended → get_or words last_at 0 < ended words row
    → footprint (undo_entry words (record { kind = kind; table = table; row = row })) (ended_at row) ≡ true
ended_hit words Ended table row is above =
    ap (λ (part : Part). footprint part (ended_at row)) (cond-true (ltb (get_or words last_at 0) (ended words row)) (one_store (ended_at row) 0) [] (lt-ltb (get_or words last_at 0) (ended words row) above))
    ∙ or_left (eqb (ended_at row) (ended_at row)) false (eq-eqb (ended_at row) (ended_at row) refl)
ended_hit words Created table row is above = absurd (cc)

pub undo_ended-hit : (words : List ℕ) (entry : Entry) → entry.kind ≡ Ended → get_or words last_at 0 < ended words entry.row → footprint (undo_entry words entry) (ended_at entry.row) ≡ true
undo_ended-hit words entry is above = ended_hit words entry.kind entry.table entry.row is above

-- ── all entries ──

pub entries-stores : (Q : ℕ → ℕ → Type 0) (words : List ℕ) (object nth places : ℕ)
    → ((k : ℕ) → nth ≤ k → k < nth + places → entry words object k ≢ 0 → Stores Q (undo_entry words (entry_of (entry words object k))))
    → Stores Q (flat_map (undo_entry words) (entries_from words object nth places))
entries-stores Q words object nth zero each = tt
entries-stores Q words object nth (suc places) each = ⊎_elim
    (λ stop. subst (λ (es : List Entry). Stores Q (flat_map (undo_entry words) es)) (sym (entries_from-stop words object nth (suc places) stop)) tt)
    (λ set. subst (λ (es : List Entry). Stores Q (flat_map (undo_entry words) es)) (sym (entries_from-next words object nth places set))
    (stores-append Q (undo_entry words (entry_of (entry words object nth))) (flat_map (undo_entry words) (entries_from words object (nth + 1) places))
    (each nth (omega arith) (omega arith) set)
    (entries-stores Q words object (nth + 1) places (λ k le lt. each k (omega (arith, le)) (omega (arith, lt))))))
    (cases_eq (entry words object nth) 0)

pub footprint-left : (xs ys : Part) (w : ℕ) → footprint xs w ≡ true → footprint (xs ++ ys) w ≡ true
footprint-left [] ys w hit = absurd (both_ways false refl hit)
footprint-left (x ∷ xs) ys w hit = ⊎_elim
    (λ here. or_left (writes x w) (footprint (xs ++ ys) w) here)
    (λ later. or_right (writes x w) (footprint (xs ++ ys) w) (footprint-left xs ys w later))
    (or_cases (writes x w) (footprint xs w) hit)

pub footprint-right : (xs ys : Part) (w : ℕ) → footprint ys w ≡ true → footprint (xs ++ ys) w ≡ true
footprint-right [] ys w hit = hit
footprint-right (x ∷ xs) ys w hit = or_right (writes x w) (footprint (xs ++ ys) w) (footprint-right xs ys w hit)

pub entries-hit : (words : List ℕ) (object nth places k w : ℕ) → nth ≤ k → k < nth + places → ((j : ℕ) → nth ≤ j → j ≤ k → entry words object j ≢ 0)
    → footprint (undo_entry words (entry_of (entry words object k))) w ≡ true → footprint (flat_map (undo_entry words) (entries_from words object nth places)) w ≡ true
entries-hit words object nth zero k w le lt set hit = absurd (omega (arith, le, lt))
entries-hit words object nth (suc places) k w le lt set hit =
    let rest = flat_map (undo_entry words) (entries_from words object (nth + 1) places) in
    let first = undo_entry words (entry_of (entry words object nth)) in
    subst (λ (es : List Entry). footprint (flat_map (undo_entry words) es) w ≡ true) (sym (entries_from-next words object nth places (set nth (omega arith) le)))
    (⊎_elim
    (λ (here : k ≡ nth). footprint-left first rest w (ap (λ (n : ℕ). footprint (undo_entry words (entry_of (entry words object n))) w) (sym here) ∙ hit))
    (λ later. footprint-right first rest w (entries-hit words object (nth + 1) places k w (omega (arith, le, later)) (omega (arith, lt)) (λ j from to. set j (omega (arith, from)) to) hit))
    (cases_eq k nth))

-- the entries before one that is set are set
pub set-before : (words : List ℕ) (object k j : ℕ) → ((nth : ℕ) → nth < 60 → is_entry_word words object nth ≡ true) → k < 60 → j ≤ k → entry words object k ≢ 0 → entry words object j ≢ 0
set-before words object zero j is lt le set = let same : j ≡ 0 = omega (arith, le) in λ e. set (ap (λ (n : ℕ). entry words object n) (sym same) ∙ e)
set-before words object (suc k) j is lt le set = ⊎_elim
    (λ (here : j ≡ suc k). λ e. set (ap (λ (n : ℕ). entry words object n) (sym here) ∙ e))
    (λ before. let more : suc k ≡ k + 1 = omega arith in
    let set_more : entry words object (k + 1) ≢ 0 = λ e. set (ap (λ (n : ℕ). entry words object n) more ∙ e) in
    set-before words object k j is (omega (arith, lt)) (omega (arith, le, before)) (λ e. entry-before words object k (is (k + 1) (omega (arith, lt))) set_more e))
    (cases_eq j (suc k))

-- an entry word with the same words is one
pub entry_word-same : (old new : List ℕ) (object nth : ℕ) → nth < 60 → ((k : ℕ) → k < 60 → entry new object k ≡ entry old object k) → is_entry_word new object nth ≡ is_entry_word old object nth
entry_word-same old new object nth lt same =
    ap (λ (word : ℕ). (eqb word 0) || (is_entry word && ((eqb nth 0) || not (eqb (entry new object (nth - 1)) 0)))) (same nth lt)
    ∙ ap (λ (word : ℕ). (eqb (entry old object nth) 0) || (is_entry (entry old object nth) && ((eqb nth 0) || not (eqb word 0)))) (same (nth - 1) (omega (arith, lt)))

-- ── one value at a run of places ──

pub stores-run : (Q : ℕ → ℕ → Type 0) (value : ℕ) (place : ℕ → ℕ) (first count : ℕ) → ((k : ℕ) → first ≤ k → k < first + count → Q (place k) value) → Stores Q (stores value (map place (range_with_len first count)))
stores-run Q value place first zero each = tt
stores-run Q value place first (suc count) each = (each first (omega arith) (omega arith), stores-run Q value place (first + 1) count (λ k le lt. each k (omega (arith, le)) (omega (arith, lt))))

pub run-hit : (value : ℕ) (place : ℕ → ℕ) (first count k : ℕ) → first ≤ k → k < first + count → footprint (stores value (map place (range_with_len first count))) (place k) ≡ true
run-hit value place first zero k le lt = absurd (omega (arith, le, lt))
run-hit value place first (suc count) k le lt = ⊎_elim
    (λ (here : k ≡ first). or_left (eqb (place k) (place first)) (footprint (stores value (map place (range_with_len (first + 1) count))) (place k)) (eq-eqb (place k) (place first) (ap place here)))
    (λ later. or_right (eqb (place k) (place first)) (footprint (stores value (map place (range_with_len (first + 1) count))) (place k)) (run-hit value place (first + 1) count k (omega (arith, le, later)) (omega (arith, lt))))
    (cases_eq k first)
