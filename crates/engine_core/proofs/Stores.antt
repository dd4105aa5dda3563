-- Parts that store one value at a run of places, and one more word.
use Rattle.std.proofs.Common.{◌≡◌, ◌≢◌, ◌⊎◌, inl, inr, ⊎_elim, ℕ, zero, suc, ◌+◌, ◌<◌, ◌≤◌, ◌∙◌, false, eqb, List, [], ◌∷◌, ◌++◌, length, map, get_or, set, refl, ap, sym, arith}
use Rattle.std.specs.List.{range_with_len}
use Rattle.std.proofs.lemmas.Bool.{cases_eq, eqb-true, ne_eqb, or_from}
use Rattle.std.proofs.lemmas.List.{get_or-set_same, get_or-set_other, length-set}
use Rattle.pm_model.specs.Plans.{Part, store, one_store, stores, words_after, footprint, part_actions, plan_of, finished, IsPart}
use Rattle.pm_model.proofs.PlanLaw.{words_after-kept}
use Rattle.pm_model.proofs.Alone.{words_after-append, words_after-part}
use Rattle.pm_model.proofs.Cuts.{store_part}

-- ── a plan ──

-- the words after a plan are those after its parts
pub words_after-plan : (parts : List Part) (words : List ℕ) → words_after (plan_of parts) words ≡ finished parts words
words_after-plan [] words = refl
words_after-plan (part ∷ parts) words =
    words_after-append (part_actions part) (plan_of parts) words
    ∙ ap (words_after (plan_of parts)) (words_after-part part words)
    ∙ words_after-plan parts (words_after part words)

-- ── one store ──

pub get-stored : (words : List ℕ) (place value : ℕ) → place < length words → get_or (words_after (one_store place value) words) place 0 ≡ value
get-stored words place value within = get_or-set_same words place value 0 within

pub get-beside : (words : List ℕ) (place value w : ℕ) → w ≢ place → get_or (words_after (one_store place value) words) w 0 ≡ get_or words w 0
get-beside words place value w apart = get_or-set_other words place w value 0 apart

-- ── a run of stores, and one more ──

-- the same stores, written at once
pub stores-at : (value : ℕ) (place : ℕ → ℕ) (ks : List ℕ) → map (λ k. store (place k) value) ks ≡ stores value (map place ks)
stores-at value place [] = refl
stores-at value place (k ∷ ks) = ap (λ (part : Part). store (place k) value ∷ part) (stores-at value place ks)

module _ (value : ℕ) (place : ℕ → ℕ) (base : ℕ) (is : (k : ℕ) → place k ≡ base + k) (last last_value : ℕ) where
  -- one value at so many places from the first on, and then a value at the last one
  abbrev pub run : ℕ → ℕ → Part
  run first count = stores value (map place (range_with_len first count)) ++ one_store last last_value

  pub length-run : (first count : ℕ) → length (run first count) ≡ count + 1
  length-run first zero = refl
  length-run first (suc count) = let rest = length-run (first + 1) count in omega (arith, rest)

  pub run-misses : (first count w : ℕ) → (w < base + first) ⊎ (base + first + count ≤ w) → w ≢ last → footprint (run first count) w ≡ false
  run-misses first zero w out apart = or_from (eqb w last) false (ne_eqb w last apart) refl
  run-misses first (suc count) w out apart =
      let at = is first in
      or_from (eqb w (place first)) (footprint (run (first + 1) count) w)
      (ne_eqb w (place first) (λ e. ⊎_elim (λ (low : w < base + first). omega (arith, e, low, at)) (λ (high : base + first + suc count ≤ w). omega (arith, e, high, at)) out))
      (run-misses (first + 1) count w (⊎_elim (λ (low : w < base + first). inl (omega (arith, low))) (λ (high : base + first + suc count ≤ w). inr (omega (arith, high))) out) apart)

  pub run-part : (size first count : ℕ) → base + first + count ≤ size → last < size → ((k : ℕ) → first ≤ k → k < first + count → last ≢ base + k) → IsPart size (run first count)
  run-part size first zero room within apart = store_part size last last_value within
  run-part size first (suc count) room within apart =
      let at = is first in (
        tt,
        omega (arith, room, at),
        (λ w hit. let here = eqb-true w (place first) hit in run-misses (first + 1) count w (inl (omega (arith, here, at))) (λ e. apart first (omega arith) (omega arith) (omega (arith, here, at, e)))),
        run-part size (first + 1) count (omega (arith, room)) within (λ k low high. apart k (omega (arith, low)) (omega (arith, high))),
      )

  -- a word of the run has the value
  pub get-run : (first count : ℕ) (words : List ℕ) (k : ℕ) → first ≤ k → k < first + count → base + first + count ≤ length words → last ≢ base + k
      → get_or (words_after (run first count) words) (base + k) 0 ≡ value
  get-run first zero words k low high room apart = absurd (omega (arith, low, high))
  get-run first (suc count) words k low high room apart =
      let at = is first in
      let size = length-set words (place first) value in
      ⊎_elim
      (λ (here : k ≡ first).
      run-kept (first + 1) count (set words (place first) value) (base + k) (inl (omega (arith, here))) (λ e. apart (sym e))
      ∙ ap (λ (w : ℕ). get_or (set words (place first) value) w 0) (omega (arith, here, at))
      ∙ get_or-set_same words (place first) value 0 (omega (arith, at, room)))
      (λ later. get-run (first + 1) count (set words (place first) value) k (omega (arith, low, later)) (omega (arith, high)) (omega (arith, size, room)) apart)
      (cases_eq k first)
    where
      run-kept : (first count : ℕ) (words : List ℕ) (w : ℕ) → (w < base + first) ⊎ (base + first + count ≤ w) → w ≢ last → get_or (words_after (run first count) words) w 0 ≡ get_or words w 0
      run-kept first count words w out apart = words_after-kept (run first count) words w (run-misses first count w out apart)

  -- a word beside the run stays
  pub get-run_beside : (first count : ℕ) (words : List ℕ) (w : ℕ) → (w < base + first) ⊎ (base + first + count ≤ w) → w ≢ last → get_or (words_after (run first count) words) w 0 ≡ get_or words w 0
  get-run_beside first count words w out apart = words_after-kept (run first count) words w (run-misses first count w out apart)

  -- the last word has its value
  pub get-run_last : (first count : ℕ) (words : List ℕ) → last < length words → get_or (words_after (run first count) words) last 0 ≡ last_value
  get-run_last first zero words within = get_or-set_same words last last_value 0 within
  get-run_last first (suc count) words within = get-run_last (first + 1) count (set words (place first) value) (let size = length-set words (place first) value in omega (arith, size, within))
