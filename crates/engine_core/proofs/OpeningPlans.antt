-- The plans of the mendings, as the code makes them.
use Rattle.std.proofs.Common.{◌≡◌, ◌⊎◌, inl, inr, ⊎_elim, ℕ, zero, suc, ◌+◌, ◌-◌, ◌<◌, ◌≤◌, max, Bool, true, false, ◌&&◌, not, eqb, List, [], ◌∷◌, ◌++◌, length, get_or, take, drop, map, refl, sym, ◌∙◌, ap, subst, append_assoc, arith}
use Rattle.std.specs.List.{flat_map, range_with_len}
use Rattle.std.proofs.lemmas.Bool.{cases_Bool, cond-true, cond-false, and_from, and_parts, eqb-true, not-true, eq-eqb, ne_eqb, eqb-false}
use Rattle.std.specs.Prelude.{reverse}
use Rattle.std.proofs.lemmas.List.{drop_more, drop_all, take_all, append-nil, length-append, length-map}
use Rattle.std.proofs.lemmas.Grind.{flat_map-append}
use Rattle.image_layout.specs.declared.place.Place.{Place}
use Rattle.pm_model.specs.Device.{Device}
use Rattle.engine_core.specs.LogicalState.{commit_count}
use Rattle.engine_core.proofs.OpeningCuts.{plan-rests}
use Rattle.pm_model.specs.declared.action.Action.{Action}
use Rattle.pm_model.specs.declared.action.Action.TheVariants.{Store, Flush, Fence, Punch}
use Rattle.image_layout.specs.Fixed.{last_at, state_at, commit_word_at, entry_at}
use Rattle.image_layout.specs.Places.{below}
use Rattle.pm_model.specs.Plans.{Part, store, one_store, stores, words_after, footprint, lines_of, part_end, part_actions, plan_of, unless_empty, finished, IsPlan, EachCut, MayPlay, run, at_rest}
use Rattle.pm_model.proofs.Alone.{may_play-plan, IsPlan-size}
use Rattle.pm_model.proofs.Cuts.{finished-append, length-finished, each_cut-start}
use Rattle.pm_model.proofs.PlanLaw.{words_after-kept}
use Rattle.txn_object.specs.declared.entry.Entry.{Entry}
use Rattle.txn_object.specs.Entries.{entry_of}
use Rattle.stage_object.specs.Object.{entries_from, entries_in}
use Rattle.stage_object.proofs.EntryWords.{entries_from-stop, entries_from-next}
use Rattle.engine_core.specs.LogicalState.{greatest}
use Rattle.engine_core.specs.ImageRules.{KeepsEntryRules}
use Rattle.pm_model.specs.Needed.{needed_stores, needed_parts, Stores, Mending, after_mending}
use Rattle.engine_core.specs.Opening.{parts_of, undo_entry, undo_part, past_created, last_mending, undo_mending, close_mending, clear_mending, mendings, opening_parts, recovered}
use Rattle.engine_core.specs.Mended.{AreMended, IsMending, IsTaken, cleared_part, mended_plan}
use Rattle.engine_core.proofs.Greatest.{state, commit, entry}
use Rattle.engine_core.proofs.ImageRules.{IsEntered, entered, entry-row}
use Rattle.pm_model.proofs.NeededStores.{stores-append, stores-map, needed-whole, after-written}
use Rattle.pm_model.proofs.Lines.{length-lines_of}
use Rattle.engine_core.proofs.OpeningStores.{Opens}
use Rattle.engine_core.proofs.OpeningTrace.{IsReached}
use Rattle.engine_core.proofs.OpeningRounds.{opening-opens}
use Rattle.engine_core.proofs.UndoParts.{undo_entry-stores, entries-stores, stores-run}
use Rattle.engine_core.proofs.FitsCuts.{rules-now}

-- ── the mendings in their order ──

drop-round : (f : ℕ → Mending) (first count : ℕ) (later : List Mending) (k : ℕ) → k < count
    → drop k (map f (range_with_len first count) ++ later) ≡ f (first + k) ∷ drop (suc k) (map f (range_with_len first count) ++ later)
drop-round f first zero later k lt = absurd (omega (arith, lt))
drop-round f first (suc count) later zero lt = let e : first ≡ first + 0 = omega arith in ap (λ (n : ℕ). f n ∷ (map f (range_with_len (first + 1) count) ++ later)) e
drop-round f first (suc count) later (suc k) lt =
    let e : first + 1 + k ≡ first + suc k = omega arith in
    drop-round f (first + 1) count later k (omega (arith, lt)) ∙ ap (λ (n : ℕ). f n ∷ drop (suc k) (map f (range_with_len (first + 1) count) ++ later)) e

drop-past : (f : ℕ → Mending) (first count : ℕ) (later : List Mending) (k : ℕ) → drop (count + k) (map f (range_with_len first count) ++ later) ≡ drop k later
drop-past f first zero later k = let e : 0 + k ≡ k = omega arith in ap (λ (n : ℕ). drop n later) e
drop-past f first (suc count) later k =
    let e : suc count + k ≡ suc (count + k) = omega arith in
    ap (λ (n : ℕ). drop n (f first ∷ (map f (range_with_len (first + 1) count) ++ later))) e ∙ drop-past f (first + 1) count later k

last-round : List Mending
last-round = map clear_mending (below 16) ++ []

close-rounds : List Mending
close-rounds = map close_mending (below 16) ++ (map clear_mending (below 16) ++ [])

undo-rounds : List Mending
undo-rounds = map undo_mending (below 16) ++ (map close_mending (below 16) ++ (map clear_mending (below 16) ++ []))

mendings-are : mendings ≡ last_mending ∷ undo-rounds
unfolding undo-rounds
mendings-are = refl

after-last : (k : ℕ) → drop (suc k) mendings ≡ drop k undo-rounds
after-last k = ap (λ (ms : List Mending). drop (suc k) ms) mendings-are

undo-at : (k : ℕ) → k < 16 → drop k undo-rounds ≡ undo_mending k ∷ drop (suc k) undo-rounds
unfolding undo-rounds
undo-at k lt = let e : 0 + k ≡ k = omega arith in
    drop-round undo_mending 0 16 (map close_mending (below 16) ++ (map clear_mending (below 16) ++ [])) k lt ∙ ap (λ (n : ℕ). undo_mending n ∷ drop (suc k) undo-rounds) e

undo-past : (k : ℕ) → drop (16 + k) undo-rounds ≡ drop k close-rounds
unfolding undo-rounds close-rounds
undo-past k = drop-past undo_mending 0 16 (map close_mending (below 16) ++ (map clear_mending (below 16) ++ [])) k

close-at : (k : ℕ) → k < 16 → drop k close-rounds ≡ close_mending k ∷ drop (suc k) close-rounds
unfolding close-rounds
close-at k lt = let e : 0 + k ≡ k = omega arith in drop-round close_mending 0 16 (map clear_mending (below 16) ++ []) k lt ∙ ap (λ (n : ℕ). close_mending n ∷ drop (suc k) close-rounds) e

close-past : (k : ℕ) → drop (16 + k) close-rounds ≡ drop k last-round
unfolding close-rounds last-round
close-past k = drop-past close_mending 0 16 (map clear_mending (below 16) ++ []) k

clear-at : (k : ℕ) → k < 16 → drop k last-round ≡ clear_mending k ∷ drop (suc k) last-round
unfolding last-round
clear-at k lt = let e : 0 + k ≡ k = omega arith in drop-round clear_mending 0 16 [] k lt ∙ ap (λ (n : ℕ). clear_mending n ∷ drop (suc k) last-round) e

pub nth-undo : (place object : ℕ) → place ≡ object + 1 → object < 16 → drop place mendings ≡ undo_mending object ∷ drop (place + 1) mendings
nth-undo place object is lt =
    let a : place ≡ suc object = omega (arith, is) in
    let b : suc (suc object) ≡ place + 1 = omega (arith, is) in
    ap (λ (n : ℕ). drop n mendings) a ∙ after-last object ∙ undo-at object lt
    ∙ ap (λ (ms : List Mending). undo_mending object ∷ ms) (sym (after-last (suc object)) ∙ ap (λ (n : ℕ). drop n mendings) b)

in-close : (k : ℕ) → drop (suc (16 + k)) mendings ≡ drop k close-rounds
in-close k = after-last (16 + k) ∙ undo-past k

in-clear : (k : ℕ) → drop (suc (16 + (16 + k))) mendings ≡ drop k last-round
in-clear k = in-close (16 + k) ∙ close-past k

pub nth-close : (place object : ℕ) → place ≡ object + 17 → object < 16 → drop place mendings ≡ close_mending object ∷ drop (place + 1) mendings
nth-close place object is lt =
    let a : place ≡ suc (16 + object) = omega (arith, is) in
    let b : suc (16 + suc object) ≡ place + 1 = omega (arith, is) in
    ap (λ (n : ℕ). drop n mendings) a ∙ in-close object ∙ close-at object lt
    ∙ ap (λ (ms : List Mending). close_mending object ∷ ms) (sym (in-close (suc object)) ∙ ap (λ (n : ℕ). drop n mendings) b)

pub nth-clear : (place object : ℕ) → place ≡ object + 33 → object < 16 → drop place mendings ≡ clear_mending object ∷ drop (place + 1) mendings
nth-clear place object is lt =
    let a : place ≡ suc (16 + (16 + object)) = omega (arith, is) in
    let b : suc (16 + (16 + suc object)) ≡ place + 1 = omega (arith, is) in
    ap (λ (n : ℕ). drop n mendings) a ∙ in-clear object ∙ clear-at object lt
    ∙ ap (λ (ms : List Mending). clear_mending object ∷ ms) (sym (in-clear (suc object)) ∙ ap (λ (n : ℕ). drop n mendings) b)

-- ── numbers ──

pub greatest-more : (value : ℕ → ℕ) (n : ℕ) → greatest value (n + 1) ≡ max (value n) (greatest value n)
unfolding greatest
greatest-more value n = let e : n + 1 ≡ suc n = omega arith in ap (greatest value) e

pub greatest-none : (value : ℕ → ℕ) → 0 ≡ greatest value 0
unfolding greatest
greatest-none value = refl

-- ── stores ──

pub run-more : (value : ℕ) (place : ℕ → ℕ) (first n : ℕ) → stores value (map place (range_with_len first (n + 1))) ≡ stores value (map place (range_with_len first n)) ++ store (place (first + n)) value ∷ []
run-more value place first zero = let e : first ≡ first + 0 = omega arith in ap (λ (k : ℕ). store (place k) value ∷ []) e
run-more value place first (suc n) =
    let a : suc n + 1 ≡ suc (n + 1) = omega arith in
    let b : first + 1 + n ≡ first + suc n = omega arith in
    ap (λ (k : ℕ). stores value (map place (range_with_len first k))) a
    ∙ ap (λ (part : Part). store (place first) value ∷ part) (run-more value place (first + 1) n ∙ ap (λ (k : ℕ). stores value (map place (range_with_len (first + 1) n)) ++ store (place k) value ∷ []) b)

pub mended-at : (part : Part) (k : ℕ) (d : Action) → AreMended part → k < length part → AreMended (get_or part k d ∷ [])
mended-at [] k d are lt = absurd (omega (arith, lt))
mended-at (Store place value ∷ part) zero d are lt = (are.0, tt)
mended-at (Store place value ∷ part) (suc k) d are lt = mended-at part k d are.1 (omega (arith, lt))
mended-at (Flush line ∷ part) k d are lt = absurd are
mended-at (Fence ∷ part) k d are lt = absurd are
mended-at (Punch page ∷ part) k d are lt = absurd are

pub mended-stores : (part : Part) → Stores (λ place value. place < 10240) part → AreMended part
mended-stores [] are = tt
mended-stores (Store place value ∷ part) are = (are.0, mended-stores part are.1)
mended-stores (Flush line ∷ part) are = absurd are
mended-stores (Fence ∷ part) are = absurd are
mended-stores (Punch page ∷ part) are = absurd are

pub drop-back : (part : Part) (done : ℕ) (d : Action) → done < length part → drop (length part - (done + 1)) part ≡ get_or part (length part - 1 - done) d ∷ drop (length part - done) part
drop-back part done d lt =
    let k = length part - 1 - done in
    let a : length part - (done + 1) ≡ length part - 1 - done = omega (arith, lt) in
    let b : length part - 1 - done + 1 ≡ length part - done = omega (arith, lt) in
    ap (λ (n : ℕ). drop n part) a ∙ drop_more part (length part - 1 - done) d (omega (arith, lt)) ∙ ap (λ (n : ℕ). get_or part (length part - 1 - done) d ∷ drop n part) b

-- ── the undo of an object ──

-- it stores the stamps of rows, and how many are used up
undo-in : (words : List ℕ) (object : ℕ) → IsEntered words → object < 16 → state words object ≡ 1 → Stores (λ place value. (place ≡ 517) ⊎ ((2048 ≤ place) × (place < 10240))) (undo_part words object)
unfolding entries_in
undo-in words object is number opened = stores-append (λ place value. (place ≡ 517) ⊎ ((2048 ≤ place) × (place < 10240))) (flat_map (undo_entry words) (entries_in words object)) (one_store 517 (max (get_or words 517 0) (past_created words object)))
    (entries-stores (λ place value. (place ≡ 517) ⊎ ((2048 ≤ place) × (place < 10240))) words object 0 60 (λ k from lt set.
    let within : k < 60 = omega (arith, lt) in
    let row = entry-row words object k (is.entry object k number within opened) set in
    undo_entry-stores (λ place value. (place ≡ 517) ⊎ ((2048 ≤ place) × (place < 10240))) words (entry_of (entry words object k))
    (λ kind was. inr (omega arith, omega (arith, row))) (λ kind was. inr (omega arith, omega (arith, row)))))
    (inl refl, tt)

pub undo-mended : (words : List ℕ) (object : ℕ) → IsEntered words → object < 16 → state words object ≡ 1 → AreMended (undo_part words object)
undo-mended words object is number opened = mended-stores (undo_part words object) (stores-map (λ place value. (place ≡ 517) ⊎ ((2048 ≤ place) × (place < 10240))) (λ place value. place < 10240) (undo_part words object)
    (λ place value at. ⊎_elim (λ high. omega (arith, high)) (λ (both : (2048 ≤ place) × (place < 10240)). both.1) at) (undo-in words object is number opened))

-- so the object is open still
state-after : (words : List ℕ) (object : ℕ) (needed : Part) → IsEntered words → object < 16 → state words object ≡ 1 → words_after needed words ≡ words_after (undo_part words object) words → get_or (words_after needed words) (state_at object) 0 ≡ 1
state-after words object needed is number opened same =
    ap (λ (ws : List ℕ). get_or ws (state_at object) 0) same ∙ ⊎_elim
    (λ hit. let size = is.size in absurd (⊎_elim (λ high. omega (arith, high)) (λ (both : (2048 ≤ state_at object) × (state_at object < 10240)). let low = both.0 in omega (arith, low, number))
    (after-written (λ place value. (place ≡ 517) ⊎ ((2048 ≤ place) × (place < 10240))) (undo_part words object) words (state_at object) (undo-in words object is number opened) (omega (arith, size, number)) hit)))
    (λ miss. words_after-kept (undo_part words object) words (state_at object) miss ∙ opened)
    (cases_Bool (footprint (undo_part words object) (state_at object)))

-- ── the plans ──

pub plan-one : (words : List ℕ) (part : Part) → plan_of (unless_empty (needed_stores words part)) ≡ plan_of (needed_parts words (part ∷ []))
plan-one words part = ap plan_of (sym (append-nil (unless_empty (needed_stores words part))))

needed-idle : (words : List ℕ) (object : ℕ) → get_or words (state_at object) 0 ≡ 1 → needed_parts words (one_store (state_at object) 0 ∷ []) ≡ one_store (state_at object) 0 ∷ []
needed-idle words object opened = ap (λ (part : Part). unless_empty part ++ []) (cond-false (eqb (get_or words (state_at object) 0) 0) [] (one_store (state_at object) 0) (ne_eqb (get_or words (state_at object) 0) 0 (λ e. omega (arith, e, opened))))

pub plan-undo : (words : List ℕ) (object : ℕ) → IsEntered words → object < 16 → state words object ≡ 1 → commit words object ≡ 0
    → plan_of (unless_empty (needed_stores words (undo_part words object))) ++ part_actions (one_store (state_at object) 0) ≡ plan_of (needed_parts words (undo_mending object words))
plan-undo words object is number opened none =
    let needed = needed_stores words (undo_part words object) in
    let test = and_from (eqb (state words object) 1) (eqb (commit words object) 0) (eq-eqb (state words object) 1 opened) (eq-eqb (commit words object) 0 none) in
    let mends : undo_mending object words ≡ undo_part words object ∷ one_store (state_at object) 0 ∷ [] = cond-true (eqb (state words object) 1 && eqb (commit words object) 0) (undo_part words object ∷ one_store (state_at object) 0 ∷ []) [] test in
    let whole = needed-whole (λ place value. (place ≡ 517) ⊎ ((2048 ≤ place) × (place < 10240))) words (undo_part words object) (undo-in words object is number opened) in
    let idle = needed-idle (words_after needed words) object (state-after words object needed is number opened whole) in
    ap (λ (l : List Action). plan_of (unless_empty needed) ++ l) (sym (append-nil (part_actions (one_store (state_at object) 0))))
    ∙ sym (flat_map-append part_actions (unless_empty needed) (one_store (state_at object) 0 ∷ []))
    ∙ ap (λ (ps : List Part). plan_of (unless_empty needed ++ ps)) (sym idle)
    ∙ ap (λ (ps : List Part). plan_of (needed_parts words ps)) (sym mends)

pub plan-undo-none : (words : List ℕ) (object : ℕ) → (eqb (state words object) 1 && eqb (commit words object) 0) ≡ false → [] ≡ plan_of (needed_parts words (undo_mending object words))
plan-undo-none words object miss = ap (λ (ps : List Part). plan_of (needed_parts words ps)) (sym (cond-false (eqb (state words object) 1 && eqb (commit words object) 0) (undo_part words object ∷ one_store (state_at object) 0 ∷ []) [] miss))

pub plan-close : (words : List ℕ) (object : ℕ) → state words object ≡ 1 → (commit words object ≡ 0 → ⊥) → part_actions (one_store (state_at object) 0) ≡ plan_of (needed_parts words (close_mending object words))
plan-close words object opened some =
    let test = and_from (eqb (state words object) 1) (not (eqb (commit words object) 0)) (eq-eqb (state words object) 1 opened) (ap not (ne_eqb (commit words object) 0 some)) in
    ap (λ (ps : List Part). plan_of ps) (sym (needed-idle words object opened))
    ∙ ap (λ (ps : List Part). plan_of (needed_parts words ps)) (sym (cond-true (eqb (state words object) 1 && not (eqb (commit words object) 0)) (one_store (state_at object) 0 ∷ []) [] test))

pub plan-close-none : (words : List ℕ) (object : ℕ) → (eqb (state words object) 1 && not (eqb (commit words object) 0)) ≡ false → [] ≡ plan_of (needed_parts words (close_mending object words))
plan-close-none words object miss = ap (λ (ps : List Part). plan_of (needed_parts words ps)) (sym (cond-false (eqb (state words object) 1 && not (eqb (commit words object) 0)) (one_store (state_at object) 0 ∷ []) [] miss))

-- ── the rest of an opening ──

-- an image that is to become these words, by the mendings that are left
abbrev pub IsOpening : List ℕ → List Mending → List ℕ → Type 0
IsOpening old left words = Opens (IsReached old) (λ last. last ≡ recovered old) left words

pub opening-starts : (old : List ℕ) → 32768 ≤ length old → KeepsEntryRules old → IsOpening old mendings old
unfolding recovered opening_parts
opening-starts old size rules = let opens = opening-opens old (entered old size rules) in record { plan = opens.plan; cuts = opens.cuts; end = refl }

plan-first : (size : ℕ) (xs ys : List Part) → IsPlan size (xs ++ ys) → IsPlan size xs × IsPlan size ys
plan-first size [] ys plan = (tt, plan)
plan-first size (x ∷ xs) ys plan = let rest = plan-first size xs ys plan.1 in ((plan.0, rest.0), rest.1)

cuts-after : (P : List ℕ → Type 0) (xs ys : List Part) (words : List ℕ) → EachCut P (xs ++ ys) words → EachCut P ys (finished xs words)
cuts-after P [] ys words cuts = cuts
cuts-after P (x ∷ xs) ys words cuts = cuts-after P xs ys (words_after x words) cuts.1

pub opening-first : (old : List ℕ) (mending : Mending) (later : List Mending) (words : List ℕ) → IsOpening old (mending ∷ later) words → IsPlan (length words) (needed_parts words (mending words))
opening-first old mending later words is =
    let parts = needed_parts words (mending words) in (plan-first (length words) parts (parts_of later (finished parts words)) is.plan).0

pub opening-next : (old : List ℕ) (mending : Mending) (later : List Mending) (words : List ℕ) → IsOpening old (mending ∷ later) words → IsOpening old later (finished (needed_parts words (mending words)) words)
opening-next old mending later words is =
    let parts = needed_parts words (mending words) in
    let rest = parts_of later (finished parts words) in
    record {
      plan = IsPlan-size (length words) (length (finished parts words)) rest (sym (length-finished parts words)) (plan-first (length words) parts rest is.plan).1;
      cuts = cuts-after (IsReached old) parts rest words is.cuts;
      end = sym (finished-append parts rest words) ∙ is.end;
    }

pub opening-rules : (old : List ℕ) → 32768 ≤ length old → KeepsEntryRules old → (left : List Mending) (words : List ℕ) → IsOpening old left words → KeepsEntryRules words
opening-rules old size rules left words is = rules-now old (entered old size rules) words (each_cut-start (IsReached old) (parts_of left words) words is.cuts)

-- ── the stores that are taken ──

pub taken-none : (words : List ℕ) (part kept : Part) (marks : List Bool) → kept ≡ [] → ((w : ℕ) → w < length marks → get_or marks w false ≡ false) → IsTaken words (drop (length part - 0) part) kept marks
taken-none words part kept marks none unmarked =
    let e : length part - 0 ≡ length part = omega arith in
    let all : drop (length part - 0) part ≡ [] = ap (λ (n : ℕ). drop n part) e ∙ drop_all (length part) part (omega arith) in
    subst (λ (p : Part). IsTaken words p kept marks) (sym all) (record { needed = ap reverse none; marked = unmarked })

pub taken-next : (words : List ℕ) (part : Part) (done : ℕ) (d : Action) (kept : Part) (marks : List Bool) → done < length part
    → IsTaken words (get_or part (length part - 1 - done) d ∷ drop (length part - done) part) kept marks → IsTaken words (drop (length part - (done + 1)) part) kept marks
taken-next words part done d kept marks lt is = subst (λ (p : Part). IsTaken words p kept marks) (sym (drop-back part done d lt)) is

pub taken-all : (words : List ℕ) (part : Part) (done : ℕ) (kept : Part) (marks : List Bool) → length part ≤ done → IsTaken words (drop (length part - done) part) kept marks → IsTaken words part kept marks
taken-all words part done kept marks le is = let e : length part - done ≡ 0 = omega (arith, le) in subst (λ (n : ℕ). IsTaken words (drop n part) kept marks) e is

-- ── the stores that clear an object ──

pub cleared-next : (object nth : ℕ) (part : Part) (place : Place) → place.0 ≡ entry_at object nth → part ≡ stores 0 (map (entry_at object) (range_with_len 0 nth)) → part ++ Store place 0 ∷ [] ≡ stores 0 (map (entry_at object) (range_with_len 0 (nth + 1)))
cleared-next object nth part place at is =
    let e : place.0 ≡ entry_at object (0 + nth) = omega (arith, at) in
    ap (λ (p : Part). p ++ Store place 0 ∷ []) is ∙ ap (λ (w : ℕ). stores 0 (map (entry_at object) (range_with_len 0 nth)) ++ store w 0 ∷ []) e ∙ sym (run-more 0 (entry_at object) 0 nth)

pub cleared-all : (object nth : ℕ) (part : Part) (place : Place) → place.0 ≡ commit_word_at object → nth ≡ 60 → part ≡ stores 0 (map (entry_at object) (range_with_len 0 nth)) → part ++ Store place 0 ∷ [] ≡ cleared_part object
unfolding cleared_part
cleared-all object nth part place at end is =
    ap (λ (p : Part). p ++ Store place 0 ∷ []) (is ∙ ap (λ (n : ℕ). stores 0 (map (entry_at object) (range_with_len 0 n))) end) ∙ ap (λ (w : ℕ). stores 0 (map (entry_at object) (below 60)) ++ store w 0 ∷ []) at

pub cleared-mended : (object : ℕ) → object < 16 → AreMended (cleared_part object)
unfolding cleared_part
cleared-mended object lt = mended-stores (stores 0 (map (entry_at object) (below 60)) ++ one_store (commit_word_at object) 0)
    (stores-append (λ place value. place < 10240) (stores 0 (map (entry_at object) (below 60))) (one_store (commit_word_at object) 0)
    (stores-run (λ place value. place < 10240) 0 (entry_at object) 0 60 (λ k from within. omega (arith, lt, within))) (omega (arith, lt), tt))

-- ── the stores that undo ──

pub undo-row : (words : List ℕ) (object nth place word : ℕ) (spelt : Entry) → 32768 ≤ length words → KeepsEntryRules words → object < 16 → get_or words (state_at object) 0 ≡ 1 → nth < 60 → place ≡ entry_at object nth
    → word ≡ get_or words place 0 → (word ≡ 0 → ⊥) → spelt ≡ entry_of word → spelt.row < 4096
undo-row words object nth place word spelt size rules number opened lt at load set is =
    let whole = entered words size rules in
    let read : word ≡ get_or words (entry_at object nth) 0 = load ∙ ap (λ (w : ℕ). get_or words w 0) at in
    let row = entry-row words object nth (whole.entry object nth number lt opened) (λ e. set (read ∙ e)) in
    let same : spelt.row ≡ (entry_of (get_or words (entry_at object nth) 0)).row = ap (λ (e : Entry). e.row) (is ∙ ap entry_of read) in
    omega (arith, row, same)

pub undo-next : (words : List ℕ) (object nth place word : ℕ) (spelt : Entry) (before after whole : Part) → nth < 60 → place ≡ entry_at object nth → word ≡ get_or words place 0 → (word ≡ 0 → ⊥) → spelt ≡ entry_of word
    → after ≡ before ++ undo_entry words spelt → before ++ flat_map (undo_entry words) (entries_from words object nth (60 - nth)) ≡ whole
    → after ++ flat_map (undo_entry words) (entries_from words object (nth + 1) (60 - (nth + 1))) ≡ whole
undo-next words object nth place word spelt before after whole lt at load set is pushed joined =
    let read : word ≡ get_or words (entry_at object nth) 0 = load ∙ ap (λ (w : ℕ). get_or words w 0) at in
    let rest = flat_map (undo_entry words) (entries_from words object (nth + 1) (60 - (nth + 1))) in
    let count : 60 - nth ≡ suc (60 - (nth + 1)) = omega (arith, lt) in
    let next : flat_map (undo_entry words) (entries_from words object nth (60 - nth)) ≡ undo_entry words spelt ++ rest =
    ap (λ (n : ℕ). flat_map (undo_entry words) (entries_from words object nth n)) count
    ∙ ap (λ (es : List Entry). flat_map (undo_entry words) es) (entries_from-next words object nth (60 - (nth + 1)) (λ e. set (read ∙ e)))
    ∙ ap (λ (e : Entry). undo_entry words e ++ rest) (sym (is ∙ ap entry_of read)) in
    ap (λ (p : Part). p ++ rest) pushed ∙ append_assoc before (undo_entry words spelt) rest ∙ ap (λ (p : Part). before ++ p) (sym next) ∙ joined

pub undo-end : (words : List ℕ) (object nth : ℕ) (part : Part) → (60 ≤ nth) ⊎ (get_or words (entry_at object nth) 0 ≡ 0)
    → part ++ flat_map (undo_entry words) (entries_from words object nth (60 - nth)) ≡ flat_map (undo_entry words) (entries_in words object) → part ≡ flat_map (undo_entry words) (entries_in words object)
undo-end words object nth part end joined =
    let none : entries_from words object nth (60 - nth) ≡ [] = ⊎_elim
    (λ le. let e : 60 - nth ≡ 0 = omega (arith, le) in ap (λ (n : ℕ). entries_from words object nth n) e) (λ stop. entries_from-stop words object nth (60 - nth) stop) end in
    sym (append-nil part) ∙ ap (λ (es : List Entry). part ++ flat_map (undo_entry words) es) (sym none) ∙ joined

-- ── a part's end ──

pub pushed : (left before stores needed : Part) → left ≡ before ++ stores → before ≡ [] → stores ≡ needed → left ≡ [] ++ needed
pushed left before stores needed is none same = is ∙ ap (λ (p : Part). p ++ stores) none ∙ same

pushed-part : (left needed : Part) (count : ℕ) → left ≡ [] ++ needed → count ≡ length needed → drop (length left - count) left ≡ needed
pushed-part left needed count is len =
    let e : length left - count ≡ 0 = let l = ap length is in omega (arith, l, len) in
    ap (λ (n : ℕ). drop n left) e ∙ is

pub end-room : (left needed : Part) (count spare before : ℕ) → left ≡ [] ++ needed → count ≡ length needed → spare + length needed ≡ before → length needed ≤ 61 → 126 ≤ before → length (lines_of (drop (length left - count) left)) < spare
end-room left needed count spare before is len spares few room =
    let le = length-lines_of needed in
    let same = ap (λ (p : Part). length (lines_of p)) (pushed-part left needed count is len) in
    omega (arith, le, same, spares, few, room)

pub end-spare : (left needed : Part) (count spare before after : ℕ) → left ≡ [] ++ needed → count ≡ length needed → spare + length needed ≡ before → length needed ≤ 61 → 126 ≤ before
    → after + length (part_end (drop (length left - count) left)) ≡ spare → 3 ≤ after
end-spare left needed count spare before after is len spares few room ends =
    let le = length-lines_of needed in
    let same : length (part_end (drop (length left - count) left)) ≡ length (lines_of needed) + 1 = ap (λ (p : Part). length (part_end p)) (pushed-part left needed count is len) ∙ length-append (map (λ line. Flush line) (lines_of needed)) (Fence ∷ []) ∙ ap (λ (n : ℕ). n + 1) (length-map (lines_of needed) (λ line. Flush line)) in
    omega (arith, le, same, spares, few, room, ends)

pub needed-nothing : (needed left : Part) → length needed ≡ 0 → left ≡ [] → left ≡ plan_of (unless_empty needed)
needed-nothing [] left none is = is
needed-nothing (x ∷ needed) left none is = absurd (omega (arith, none))

pub needed-pushed : (needed left after : Part) (count : ℕ) → (length needed ≡ 0 → ⊥) → left ≡ [] ++ needed → count ≡ length needed → after ≡ left ++ part_end (drop (length left - count) left) → after ≡ plan_of (unless_empty needed)
needed-pushed [] left after count some is len ends = absurd (some refl)
needed-pushed (x ∷ needed) left after count some is len ends =
    ends ∙ ap (λ (p : Part). left ++ part_end p) (pushed-part left (x ∷ needed) count is len) ∙ ap (λ (p : Part). p ++ part_end (x ∷ needed)) is ∙ sym (append-nil ((x ∷ needed) ++ part_end (x ∷ needed)))

-- ── one mending ──

pub opening-may : (old : List ℕ) (mending : Mending) (place : ℕ) (words : List ℕ) → drop place mendings ≡ mending ∷ drop (place + 1) mendings → IsOpening old (drop place mendings) words → IsMending mending words
opening-may old mending place words is opening = record { plan = opening-first old mending (drop (place + 1) mendings) words (subst (λ (ms : List Mending). IsOpening old ms words) is opening) }

pub opening-goes : (old : List ℕ) (mending : Mending) (place : ℕ) (words next : List ℕ) → drop place mendings ≡ mending ∷ drop (place + 1) mendings → next ≡ after_mending mending words → IsOpening old (drop place mendings) words
    → IsOpening old (drop (place + 1) mendings) next
opening-goes old mending place words next is same opening = subst (λ (ws : List ℕ). IsOpening old (drop (place + 1) mendings) ws) (sym same)
    (opening-next old mending (drop (place + 1) mendings) words (subst (λ (ms : List Mending). IsOpening old ms words) is opening))

pub opening-done : (old words : List ℕ) (place : ℕ) → 49 ≤ place → IsOpening old (drop place mendings) words → words ≡ recovered old
opening-done old words place le opening =
    let none : drop place mendings ≡ [] = drop_all place mendings le in
    let is = subst (λ (ms : List Mending). IsOpening old ms words) none opening in is.end

pub may-mend : (mending : Mending) (d : Device) (left : List Action) → d ≡ at_rest d.cached → IsMending mending d.cached → left ≡ mended_plan mending d.cached → MayPlay 0 left d
unfolding mended_plan
may-mend mending d left rests is plan =
    let parts = needed_parts d.cached (mending d.cached) in
    subst (λ (xs : List Action). MayPlay 0 xs d) (sym plan) (subst (λ (e : Device). MayPlay 0 (plan_of parts) e) (sym rests)
    (may_play-plan 0 parts d.cached (at_rest d.cached) is.plan (record { cached = refl; durable = refl; flushed = λ w. refl })))

pub mend-rests : (mending : Mending) (d : Device) (left : List Action) (count : ℕ) → count ≡ length left → d ≡ at_rest d.cached → IsMending mending d.cached → left ≡ mended_plan mending d.cached
    → run 0 (take count left) d ≡ at_rest (after_mending mending d.cached)
unfolding mended_plan
mend-rests mending d left count len rests is plan =
    let parts = needed_parts d.cached (mending d.cached) in
    ap (λ (xs : List Action). run 0 xs d) (take_all count left (omega (arith, len)) ∙ plan) ∙ ap (λ (e : Device). run 0 (plan_of parts) e) rests ∙ plan-rests d.cached parts is.plan

-- ── the plans, each as it is made ──

pub last-made : (words : List ℕ) (count : ℕ) (place : Place) (left : List Action) → place.0 ≡ last_at → count ≡ commit_count words → left ≡ plan_of (unless_empty (needed_stores words (Store place count ∷ []))) → left ≡ mended_plan last_mending words
unfolding mended_plan
last-made words count place left at is left_is =
    left_is ∙ ap (λ (w : ℕ). plan_of (unless_empty (needed_stores words (store w count ∷ [])))) at ∙ ap (λ (n : ℕ). plan_of (unless_empty (needed_stores words (store last_at n ∷ [])))) is
    ∙ plan-one words (one_store last_at (commit_count words))

pub clear-made : (words : List ℕ) (object : ℕ) (part : Part) (left : List Action) → part ≡ cleared_part object → left ≡ plan_of (unless_empty (needed_stores words part)) → left ≡ mended_plan (clear_mending object) words
unfolding mended_plan cleared_part
clear-made words object part left is left_is = left_is ∙ ap (λ (p : Part). plan_of (unless_empty (needed_stores words p))) is ∙ plan-one words (stores 0 (map (entry_at object) (below 60)) ++ one_store (commit_word_at object) 0)

pub undo-made : (words : List ℕ) (object : ℕ) (test : Bool) (part : Part) (before left : List Action) → 32768 ≤ length words → KeepsEntryRules words → object < 16
    → test ≡ (eqb (get_or words (state_at object) 0) 1 && eqb (get_or words (commit_word_at object) 0) 0) → test ≡ true
    → part ≡ undo_part words object → before ≡ plan_of (unless_empty (needed_stores words part)) → left ≡ before ++ part_actions (one_store (state_at object) 0) → left ≡ mended_plan (undo_mending object) words
unfolding mended_plan
undo-made words object test part before left size rules number is_test hit is before_is left_is =
    let both = and_parts (eqb (get_or words (state_at object) 0) 1) (eqb (get_or words (commit_word_at object) 0) 0) (sym is_test ∙ hit) in
    left_is ∙ ap (λ (xs : List Action). xs ++ part_actions (one_store (state_at object) 0)) (before_is ∙ ap (λ (p : Part). plan_of (unless_empty (needed_stores words p))) is)
    ∙ plan-undo words object (entered words size rules) number (eqb-true (get_or words (state_at object) 0) 1 both.0) (eqb-true (get_or words (commit_word_at object) 0) 0 both.1)

pub undo-stores-mended : (words : List ℕ) (object : ℕ) (part : Part) → 32768 ≤ length words → KeepsEntryRules words → object < 16 → get_or words (state_at object) 0 ≡ 1 → part ≡ undo_part words object → AreMended part
undo-stores-mended words object part size rules number opened is = subst (λ (p : Part). AreMended p) (sym is) (undo-mended words object (entered words size rules) number opened)

pub undecided-open : (words : List ℕ) (object : ℕ) (test : Bool) → test ≡ (eqb (get_or words (state_at object) 0) 1 && eqb (get_or words (commit_word_at object) 0) 0) → test ≡ true → get_or words (state_at object) 0 ≡ 1
undecided-open words object test is hit = eqb-true (get_or words (state_at object) 0) 1 (and_parts (eqb (get_or words (state_at object) 0) 1) (eqb (get_or words (commit_word_at object) 0) 0) (sym is ∙ hit)).0

pub undo-unmade : (words : List ℕ) (object : ℕ) (test : Bool) (left : List Action) → test ≡ (eqb (get_or words (state_at object) 0) 1 && eqb (get_or words (commit_word_at object) 0) 0) → test ≡ false → left ≡ [] → left ≡ mended_plan (undo_mending object) words
unfolding mended_plan
undo-unmade words object test left is miss none = none ∙ plan-undo-none words object (sym is ∙ miss)

pub close-made : (words : List ℕ) (object : ℕ) (test : Bool) (before left : List Action) → test ≡ (eqb (get_or words (state_at object) 0) 1 && not (eqb (get_or words (commit_word_at object) 0) 0)) → test ≡ true → before ≡ []
    → left ≡ before ++ part_actions (one_store (state_at object) 0) → left ≡ mended_plan (close_mending object) words
unfolding mended_plan
close-made words object test before left is hit none left_is =
    let both = and_parts (eqb (get_or words (state_at object) 0) 1) (not (eqb (get_or words (commit_word_at object) 0) 0)) (sym is ∙ hit) in
    left_is ∙ ap (λ (xs : List Action). xs ++ part_actions (one_store (state_at object) 0)) none
    ∙ plan-close words object (eqb-true (get_or words (state_at object) 0) 1 both.0) (eqb-false (get_or words (commit_word_at object) 0) 0 (not-true (eqb (get_or words (commit_word_at object) 0) 0) both.1))

pub close-unmade : (words : List ℕ) (object : ℕ) (test : Bool) (left : List Action) → test ≡ (eqb (get_or words (state_at object) 0) 1 && not (eqb (get_or words (commit_word_at object) 0) 0)) → test ≡ false → left ≡ [] → left ≡ mended_plan (close_mending object) words
unfolding mended_plan
close-unmade words object test left is miss none = none ∙ plan-close-none words object (sym is ∙ miss)

pub cleared-is-mended : (object : ℕ) (part : Part) → object < 16 → part ≡ cleared_part object → AreMended part
cleared-is-mended object part lt is = subst (λ (p : Part). AreMended p) (sym is) (cleared-mended object lt)

-- ── the device between two mendings ──

pub still-rests : (d : Device) (words : List ℕ) → d ≡ at_rest words → d ≡ at_rest d.cached
still-rests d words is = is ∙ ap (λ (e : Device). at_rest e.cached) (sym is)

pub device-done : (old : List ℕ) (d : Device) (place : ℕ) → 49 ≤ place → d ≡ at_rest d.cached → IsOpening old (drop place mendings) d.cached → d ≡ at_rest (recovered old)
device-done old d place le rests opening = rests ∙ ap at_rest (opening-done old d.cached place le opening)

pub joined-part : (now part before after : Part) → now ≡ part → part ≡ before ++ after → before ≡ [] → now ≡ after
joined-part now part before after same is none = same ∙ is ∙ ap (λ (p : Part). p ++ after) none

pub some-of : (test : Bool) (needed : Part) (len : ℕ) → len ≡ length needed → test ≡ eqb len 0 → test ≡ false → length needed ≡ 0 → ⊥
some-of test needed len same is miss = λ none. eqb-false len 0 (sym is ∙ miss) (same ∙ none)

pub none-of : (test : Bool) (needed : Part) (len : ℕ) → len ≡ length needed → test ≡ eqb len 0 → test ≡ true → length needed ≡ 0
none-of test needed len same is hit = sym same ∙ eqb-true len 0 (sym is ∙ hit)
