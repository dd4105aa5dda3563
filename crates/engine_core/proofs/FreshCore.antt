-- The state that an image without an open transaction stands for.
use Rattle.std.proofs.Common.{◌≡◌, ℕ, zero, suc, ◌+◌, ◌%◌, ◌<◌, ◌≤◌, ◌∙◌, eqb, List, [], ◌∷◌, get_or, None, refl, ap, arith}
use Rattle.std.proofs.lemmas.Bool.{cond-false, ne_eqb, or_from, le-ltb}
use Rattle.mv_model.specs.State.{all_idle}
use Rattle.image_layout.specs.Fixed.{last_at, state_at, commit_word_at, entry_at}
use Rattle.engine_core.specs.Stage.{high_at, stage_words}
use Rattle.engine_core.specs.LogicalState.{commit_count, commits_in, greatest, logical_state, next_row, of_open, one_empty_table, past_entry, state_of, table_of}
use Rattle.engine_core.proofs.StageImage.{get_or-stage_words}

greatest-zero : (value : ℕ → ℕ) (n : ℕ) → ((k : ℕ) → k < n → value k ≡ 0) → greatest value n ≡ 0
unfolding greatest
greatest-zero value zero none = refl
greatest-zero value (suc n) none = let here = none n (omega arith) in let rest = greatest-zero value n (λ k lt. none k (omega (arith, lt))) in omega (arith, here, rest)

-- where no object is open, the words say how many commits and rows there are
idle-none : (words : List ℕ) (value : ℕ → ℕ) (object : ℕ) → get_or words (state_at object) 0 ≡ 0 → of_open words value object ≡ 0
idle-none words value object idle = cond-false (eqb (get_or words (state_at object) 0) 1) (value object) 0 (ne_eqb (get_or words (state_at object) 0) 1 (λ e. omega (arith, idle, e)))

-- The state that the words stand for is that without a transaction.
pub logical-idle : (words : List ℕ) → ((object : ℕ) → object < 16 → get_or words (state_at object) 0 ≡ 0) → logical_state words ≡ state_of words (record { begun = 0; running = None })
logical-idle words idle =
    let commits = greatest-zero (of_open words (λ object. get_or words (commit_word_at object) 0)) 16 (λ object lt. idle-none words (λ k. get_or words (commit_word_at k) 0) object (idle object lt)) in
    let rows = greatest-zero (of_open words (λ object. greatest (λ nth. past_entry (get_or words (entry_at object nth) 0)) 60)) 16
    (λ object lt. idle-none words (λ k. greatest (λ nth. past_entry (get_or words (entry_at k nth) 0)) 60) object (idle object lt)) in
    let count : commit_count words ≡ get_or words last_at 0 = omega (arith, commits) in
    let next : next_row words ≡ get_or words high_at 0 + 0 = omega (arith, rows) in
    ap (λ (n : ℕ). record { tables = table_of n ∷ []; commits = commits_in words (commit_count words); begun = 0; running = all_idle }) next
    ∙ ap (λ (n : ℕ). record { tables = table_of (get_or words high_at 0 + 0) ∷ []; commits = commits_in words n; begun = 0; running = all_idle }) count

-- most words of a formatted image are 0
pub stage-zero : (segments w : ℕ) → 1 ≤ segments → 514 ≤ w → w < 32768 → get_or (stage_words segments) w 0 ≡ 0
stage-zero segments w some low high =
    get_or-stage_words segments w (omega (arith, some, high))
    ∙ cond-false _ _ _ (or_from _ _ (ne_eqb (w % 32768) 0 (λ e. omega (arith, e, low, high))) (le-ltb w 28 (omega (arith, low))))
    ∙ cond-false _ _ _ (ne_eqb w 512 (λ e. omega (arith, e, low)))
    ∙ cond-false _ _ _ (ne_eqb w 513 (λ e. omega (arith, e, low)))

pub state-at_rest : (segments : ℕ) → 1 ≤ segments → logical_state (stage_words segments) ≡ one_empty_table
state-at_rest segments some =
    let words = stage_words segments in
    let high = stage-zero segments high_at some (omega arith) (omega arith) in
    let last = stage-zero segments last_at some (omega arith) (omega arith) in
    logical-idle words (λ object lt. stage-zero segments (state_at object) some (omega arith) (omega (arith, lt)))
    ∙ ap (λ (n : ℕ). record { tables = table_of (n + 0) ∷ []; commits = commits_in words (get_or words last_at 0); begun = 0; running = all_idle }) high
    ∙ ap (λ (n : ℕ). record { tables = table_of 0 ∷ []; commits = commits_in words n; begun = 0; running = all_idle }) last
