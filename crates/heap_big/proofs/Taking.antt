-- The first pages of the best fit are taken from the free pages.
use Rattle.std.proofs.Common.{◌≡◌, ◌≢◌, ◌⊎◌, ◌↔◌, ℕ, ◌+◌, ◌-◌, ◌*◌, ◌/◌, ◌%◌, ◌^◌, ◌<◌, ◌≤◌, true, List, length, set, get_or, refl, ap, subst, ◌∙◌, arith, bit_and, w64}
use Rattle.std.specs.Int.{bit_not}
use Rattle.std.proofs.Math.Pow.{pow_mono}
use Rattle.std.proofs.lemmas.List.{get_or_default, length-set}
use Rattle.std.proofs.lemmas.Nat.{pow_pos}
use Rattle.heap_big.specs.declared.run.Run.{Run}
use Rattle.heap_big.specs.Pages.{has_page, pages_of}
use Rattle.heap_big.specs.Runs.{HasPage, IsFree, AreRuns, FreeRuns}
use Rattle.heap_big.specs.Index.{runs_of}
use Rattle.heap_big.specs.Starts.{HasRun, IsShortest, Indexes}
use Rattle.heap_big.proofs.BestFit.{TakesBest, takes_best}
use Rattle.heap_big.proofs.Bits.{mask_of, bits_removed}
use Rattle.heap_big.proofs.Changes.{IsFront, take_index}
use Rattle.heap_big.proofs.Grouping.{runs_order, free_same, runs_indexed, bits_indexed}
use Rattle.heap_big.proofs.Indexing.{LiesIn, lies_in}
use Rattle.heap_big.proofs.Maximal.{shared_same}
use Rattle.heap_big.proofs.PutBack.{shown}

-- what is known before pages are taken: the words, and the shortest run that has so many pages
pub record IsChosen (words : List ℕ) (free : FreeRuns) (starts : List (List ℕ)) (pages : ℕ) (best : Run) (at word : ℕ) : Type 0 where
  pub view : shown words ≡ free
  pub small : length words ≤ 128
  pub indexed : Indexes starts (runs_of (pages_of words))
  pub shortest : IsShortest starts pages best
  pub segment : at ≡ best.first / 64
  pub read : word ≡ get_or words at word

-- where a run of the index lies
pub best_lies : (words : List ℕ) (starts : List (List ℕ)) (best : Run) → Indexes starts (runs_of (pages_of words)) → HasRun starts best → LiesIn 0 (64 * length words) best
best_lies words starts best indexed has = lies_in 0 (64 * length words) (runs_of (pages_of words)) best (runs_order words) ((indexed best).0 has)

-- what is left of it begins no other run
pub no_rest : (words : List ℕ) (starts mid : List (List ℕ)) (best : Run) (pages : ℕ) → Indexes starts (runs_of (pages_of words)) → HasRun starts best → pages ≤ best.pages
    → ((other : Run) → HasRun mid other ↔ (HasRun starts other × (other ≢ best))) → HasRun mid (record { first = best.first + pages; pages = best.pages - pages }) → ⊥
no_rest words starts mid best pages indexed has fits without there =
    let rest : Run = record { first = best.first + pages; pages = best.pages - pages } in
    let was = (without rest).0 there in
    let maximal = runs_indexed words starts indexed in
    let some = there.some in
    was.1 (shared_same (λ page. has_page words page ≡ true) rest best rest.first ((maximal rest).0 was.0) ((maximal best).0 has)
    (omega arith, omega (arith, some)) (omega arith, omega (arith, some)))

module _ (words : List ℕ) (free : FreeRuns) (starts : List (List ℕ)) (pages : ℕ) (best : Run) (at word : ℕ) (chosen : IsChosen words free starts pages best at word) where
  lies : LiesIn 0 (64 * length words) best
  lies = best_lies words starts best chosen.indexed chosen.shortest.is_one

  within : at < length words
  within = let some = lies.segment.some in let to = lies.to in omega (arith, chosen.segment, some, to)

  word_is : word ≡ get_or words at 0
  word_is = chosen.read ∙ get_or_default words at word 0 within

  abbrev pub taken : Run
  taken = record { first = best.first; pages = pages }

  size : best.first % 64 + pages ≤ 64
  size = let whole = lies.segment.within in omega (arith, whole, chosen.shortest.fits)

  mask-le : mask_of taken < 2 ^ 64
  mask-le =
      let high : 2 ^ (best.first % 64 + pages) ≤ 2 ^ 64 = pow_mono {i = best.first % 64 + pages} {j = 64} size in
      let low : 0 < 2 ^ (best.first % 64) = pow_pos (best.first % 64) in
      omega (arith, high, low)

  abbrev pub left : List ℕ
  left = set words at (bit_and (get_or words at 0) (bit_not w64 (mask_of taken)))

  bits : (page : ℕ) → has_page left page ≡ true ↔ ((has_page words page ≡ true) × (HasPage taken page → ⊥))
  bits = bits_removed words taken at (bit_and (get_or words at 0) (bit_not w64 (mask_of taken))) size chosen.segment within refl mask-le

  front : IsFront (λ page. has_page words page ≡ true) (λ page. has_page left page ≡ true) best pages
  front = record { maximal = (runs_indexed words starts chosen.indexed best).0 chosen.shortest.is_one; fits = chosen.shortest.fits; left = bits }

  pub indexed_left : (mid more : List (List ℕ)) → ((other : Run) → HasRun mid other ↔ (HasRun starts other × (other ≢ best)))
      → ((other : Run) → HasRun more other ↔ (HasRun mid other ⊎ ((0 < best.pages - pages) × (other ≡ record { first = best.first + pages; pages = best.pages - pages }))))
      → Indexes more (runs_of (pages_of left))
  indexed_left mid more without with_rest = bits_indexed left more
      (take_index (λ page. has_page words page ≡ true) (λ page. has_page left page ≡ true) best pages front starts mid more (runs_indexed words starts chosen.indexed) without with_rest)

  removes : (page : ℕ) → IsFree (runs_of (pages_of left)) page ↔ (IsFree (runs_of (pages_of words)) page × (HasPage taken page → ⊥))
  removes page = (
    λ free. let now = (bits page).0 ((free_same left page).1 free) in ((free_same words page).0 now.0, now.1),
    λ h. (free_same left page).0 ((bits page).1 ((free_same words page).1 h.0, h.1)),
  )

  same_length : length left ≡ length words
  same_length = length-set words at (bit_and (get_or words at 0) (bit_not w64 (mask_of taken)))

  pub taken_best : TakesBest free.page_count free.runs pages taken (runs_of (pages_of left))
  taken_best = subst (λ (f : FreeRuns). TakesBest f.page_count f.runs pages taken (runs_of (pages_of left))) chosen.view
      (takes_best (64 * length words) starts (runs_of (pages_of words)) (runs_of (pages_of left)) pages best (runs_order words)
      (subst (λ (n : ℕ). AreRuns 0 (runs_of (pages_of left)) (64 * n)) same_length (runs_order left)) chosen.indexed chosen.shortest removes)

  -- the same as the code has the word
  pub as_written : (mask written : ℕ) → mask ≡ mask_of taken → written ≡ bit_and word (bit_not w64 mask) → set words at written ≡ left
  as_written mask written mask_is written_is = ap (set words at) (written_is ∙ ap (λ (m : ℕ). bit_and word (bit_not w64 m)) mask_is ∙ ap (λ (w : ℕ). bit_and w (bit_not w64 (mask_of taken))) word_is)
