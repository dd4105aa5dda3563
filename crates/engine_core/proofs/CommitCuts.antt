-- What the cuts of the plan of a commit show: up to the fence at which it is decided the commits before it, or the commit
-- too where its commit word is set; and from that fence on the commit.
use Rattle.std.proofs.Common.{◌≡◌, ◌≢◌, ◌⊎◌, inl, inr, ⊎_elim, ℕ, zero, suc, ◌+◌, ◌-◌, ◌^◌, ◌<◌, ◌≤◌, ◌∙◌, Bool, true, false, ◌&&◌, eqb, leb, ltb, List, [], ◌∷◌, ◌++◌, length, map, get_or, set, Some, refl, ap, sym, subst, arith}
use Rattle.std.specs.List.{range_with_len}
use Rattle.std.proofs.lemmas.Bool.{cases_Bool, cases_lt, both_ways, eq-eqb, eqb-true, ne_eqb, le-leb, lt-ltb, and_from, or_cases, or_left, or_right}
use Rattle.std.proofs.lemmas.List.{get_or-set_same, get_or-set_other, length-set}
use Rattle.mv_model.specs.declared.limits.TheConstants.{MAX_COMMITS}
use Rattle.mv_model.specs.State.{State, WriteSet}
use Rattle.pm_model.specs.Device.{IsBetween}
use Rattle.image_layout.specs.Fixed.{last_at, state_at, commit_word_at, entry_at}
use Rattle.pm_model.specs.Plans.{Part, EachCut, one_store, store, stores, unless_empty, words_after, footprint, finished}
use Rattle.pm_model.proofs.Alone.{length-words_after}
use Rattle.pm_model.proofs.Cuts.{between-end, between-kept, cut-one_store}
use Rattle.stage_object.specs.Object.{clear_part}
use Rattle.image_view.specs.Views.{IsCommit}
use Rattle.stage_view.specs.Quiet.{IsQuiet}
use Rattle.stage_view.specs.StageCommit.{is_in, MayCommit, ReadsForCommit}
use Rattle.stage_view.specs.StageEnding as ending
use Rattle.stage_view.specs.StageEnding.{MayEnd}
use Rattle.stage_view.specs.StageView.{any_below, past_ending, view_of}
use Rattle.stage_view.proofs.Commits.{decided-may_end, decided-shows, may-same, stamps-quiet}
use Rattle.stage_view.proofs.Endings.{end-same}
use Rattle.stage_view.proofs.Endings as endings
use Rattle.stage_view.proofs.Numbers.{any-at, any-from, commit-shown}
use Rattle.stage_view.proofs.QuietPlans.{any-none}
use Rattle.engine_core.specs.Stage.{high_at, born_at, ended_at, value_at}
use Rattle.engine_core.specs.StagePlans.{commit_early, commit_late, stamp_part}
use Rattle.engine_core.specs.StageRules.{IsStage}
use Rattle.engine_core.specs.LogicalState.{commit_count, commit_of, commits_in, past_entry, within}
use Rattle.engine_core.specs.Survival.{IsLike, IsShown, IsShownUntil, commit_reads, is_own}
use Rattle.engine_core.proofs.Commits.{born_is, entry_is, commit_of-interval, clear_run}
use Rattle.engine_core.proofs.Entries.{HasEntries, past-created, ending-created}
use Rattle.engine_core.proofs.Ruled.{IsBesideObject, IsRuled, ruled-cleared, ruled-last, ruled-self, ruled-stamps, ruled-state, ruled-word}
use Rattle.engine_core.proofs.Rows.{length-commits_in, rows_from}
use Rattle.engine_core.proofs.Shown.{fits-together, next-shown, quiet-shown}
use Rattle.engine_core.proofs.Stores.{get-run, get-run_beside, get-run_last, run-misses}

-- ── the rows of a transaction, as a list ──

in-range : (first n row : ℕ) → is_in (range_with_len first n) row ≡ true → (first ≤ row) × (row < first + n)
in-range first zero row hit = absurd (both_ways false refl hit)
in-range first (suc n) row hit = ⊎_elim
    (λ here. let is = eqb-true row first here in (omega (arith, is), omega (arith, is)))
    (λ rest. let found = in-range (first + 1) n row rest in let low = found.0 in let high = found.1 in (omega (arith, low), omega (arith, high)))
    (or_cases (eqb row first) (is_in (range_with_len (first + 1) n) row) hit)

range-in : (first n row : ℕ) → first ≤ row → row < first + n → is_in (range_with_len first n) row ≡ true
range-in first zero row low high = absurd (omega (arith, low, high))
range-in first (suc n) row low high = ⊎_elim
    (λ (is : first < row). or_right (eqb row first) (is_in (range_with_len (first + 1) n) row) (range-in (first + 1) n row (omega (arith, is)) (omega (arith, high))))
    (λ (is : row ≤ first). or_left (eqb row first) (is_in (range_with_len (first + 1) n) row) (eq-eqb row first (omega (arith, is, low))))
    (cases_lt first row)

bool-same : (a b : Bool) → (a ≡ true → b ≡ true) → (b ≡ true → a ≡ true) → a ≡ b
bool-same true b forth back = sym (forth refl)
bool-same false b forth back = ⊎_elim (λ hit. absurd (both_ways false refl (back hit))) (λ miss. sym miss) (cases_Bool b)

-- ── the places that are cleared ──

abbrev cleared_places : ℕ → List ℕ
cleared_places count = map (λ nth. entry_at 0 nth) (range_with_len 0 count) ++ commit_word_at 0 ∷ []

clear-is : (ks : List ℕ) → map (λ nth. store (entry_at 0 nth) 0) ks ++ one_store (commit_word_at 0) 0 ≡ stores 0 (map (λ nth. entry_at 0 nth) ks ++ commit_word_at 0 ∷ [])
clear-is [] = refl
clear-is (k ∷ ks) = ap (λ (part : Part). store (entry_at 0 k) 0 ∷ part) (clear-is ks)

clear_part-is : (count : ℕ) → clear_part 0 count true ≡ stores 0 (cleared_places count)
unfolding clear_part
clear_part-is count = clear-is (range_with_len 0 count)

-- the second half, as its places are cleared
pub commit_late-is : (count number : ℕ) → commit_late count number ≡ ending.commit_late 0 number (cleared_places count)
commit_late-is count number = ap (λ (parts : List Part). one_store last_at number ∷ one_store (state_at 0) 0 ∷ parts) (last-one (clear_part-is count))
  where
    not-empty : (ks : List ℕ) → unless_empty (stores 0 (ks ++ commit_word_at 0 ∷ [])) ≡ stores 0 (ks ++ commit_word_at 0 ∷ []) ∷ []
    not-empty [] = refl
    not-empty (k ∷ ks) = refl

    last-one : {part : Part} → part ≡ stores 0 (cleared_places count) → unless_empty part ≡ stores 0 (cleared_places count) ∷ []
    last-one is = ap unless_empty is ∙ not-empty (map (λ nth. entry_at 0 nth) (range_with_len 0 count))

is-cleared : (first n w : ℕ) → is_in (map (λ nth. entry_at 0 nth) (range_with_len first n) ++ commit_word_at 0 ∷ []) w ≡ true → (w ≡ 1025) ⊎ ((1028 ≤ w) × (w < 1028 + first + n))
is-cleared first zero w hit = ⊎_elim (λ here. inl (eqb-true w 1025 here)) (λ none. absurd (both_ways false refl none)) (or_cases (eqb w 1025) false hit)
is-cleared first (suc n) w hit = ⊎_elim
    (λ here. let is = eqb-true w (entry_at 0 first) here in inr (omega (arith, is), omega (arith, is)))
    (λ rest. ⊎_elim (λ word. inl word) (λ entry. let low = entry.0 in let high = entry.1 in inr (low, omega (arith, high))) (is-cleared (first + 1) n w rest))
    (or_cases (eqb w (entry_at 0 first)) (is_in (map (λ nth. entry_at 0 nth) (range_with_len (first + 1) n) ++ commit_word_at 0 ∷ []) w) hit)

-- ── what the plan rests on ──

pub within-hit : (first count w : ℕ) → first ≤ w → w < first + count → within first count w ≡ true
within-hit first count w low high = and_from (leb first w) (ltb w (first + count)) (le-leb first w low) (lt-ltb w (first + count) high)

module _ (base : List ℕ) (begun number snapshot rows high last : ℕ) (stage : IsStage base (Some (record { number = number; snapshot = snapshot; rows = rows })))
    (is_high : get_or base high_at 0 ≡ high) (is_last : get_or base last_at 0 ≡ last) (some : 0 < rows) (room : last < MAX_COMMITS) where
  entries : HasEntries base high rows
  entries = subst (λ (h : ℕ). HasEntries base h rows) is_high (record { few = stage.few; room = stage.room; entries = stage.entries; free = stage.free })

  may : MayCommit base 0 (last + 1) (range_with_len high rows) [] (high + rows)
  may = record {
    object_is = omega arith;
    state = stage.state;
    commit_word = stage.commit_word;
    number_is = omega (arith, is_last);
    creates = λ row. bool-same ((ltb 0 16 && eqb 0 0) && any_below (λ nth. eqb (past_entry (get_or base (entry_at 0 nth) 0)) (row + 1)) 60) (is_in (range_with_len high rows) row) (in-entries row) (entered row);
    ends = λ row. any-none (λ nth. eqb (past_ending (get_or base (entry_at 0 nth) 0)) (row + 1)) 60 (λ nth lt. let none = no-ending nth lt in ne_eqb (past_ending (get_or base (entry_at 0 nth) 0)) (row + 1) (λ e. omega (arith, e, none)));
    created_rows = λ row hit. let in_range = in-range high rows row hit in let low = in_range.0 in let below = in_range.1 in let fits = entries.room in
        (omega (arith, below, fits), in_range.1, stage.unborn row (omega (arith, low, is_high)) (omega (arith, below, fits)));
    ended_rows = λ row hit. absurd (both_ways false refl hit);
    least = omega (arith, is_high);
    most = λ row below. ⊎_elim (λ (old : row < high). inl (omega (arith, old, is_high))) (λ (low : high ≤ row). inr (row, range-in high rows row low below, omega arith)) (cases_lt row high);
    stamps = stage.ended;
  }
    where
      in-entries : (row : ℕ) → ((ltb 0 16 && eqb 0 0) && any_below (λ nth. eqb (past_entry (get_or base (entry_at 0 nth) 0)) (row + 1)) 60) ≡ true → is_in (range_with_len high rows) row ≡ true
      in-entries row hit =
          let at = any-at (λ nth. eqb (past_entry (get_or base (entry_at 0 nth) 0)) (row + 1)) 60 hit in
          let is = eqb-true (past_entry (get_or base (entry_at 0 at.0) 0)) (row + 1) at.2 in
          ⊎_elim
          (λ (own : at.0 < rows).
          let fits = entries.room in
          let spelt = ap past_entry (entries.entries at.0 own) ∙ past-created (high + at.0) (omega (arith, own, fits)) in
          range-in high rows row (omega (arith, is, spelt)) (omega (arith, is, spelt, own)))
          (λ (free : rows ≤ at.0). let none : past_entry (get_or base (entry_at 0 at.0) 0) ≡ 0 = ap past_entry (entries.free at.0 free at.1) in absurd (omega (arith, is, none)))
          (cases_lt at.0 rows)

      entered : (row : ℕ) → is_in (range_with_len high rows) row ≡ true → ((ltb 0 16 && eqb 0 0) && any_below (λ nth. eqb (past_entry (get_or base (entry_at 0 nth) 0)) (row + 1)) 60) ≡ true
      entered row hit =
          let in_range = in-range high rows row hit in
          let low = in_range.0 in
          let below = in_range.1 in
          let fits = entries.room in
          let few = entries.few in
          let place : high + (row - high) ≡ row = omega (arith, low) in
          let own : row - high < rows = omega (arith, low, below) in
          let spelt = ap past_entry (entries.entries (row - high) own) ∙ past-created (high + (row - high)) (omega (arith, place, below, fits)) in
          any-from (λ nth. eqb (past_entry (get_or base (entry_at 0 nth) 0)) (row + 1)) 60 (row - high) (omega (arith, own, few))
          (eq-eqb (past_entry (get_or base (entry_at 0 (row - high)) 0)) (row + 1) (omega (arith, spelt, place)))

      no-ending : (nth : ℕ) → nth < 60 → past_ending (get_or base (entry_at 0 nth) 0) ≡ 0
      no-ending nth lt = ⊎_elim
          (λ (own : nth < rows). let fits = entries.room in ap past_ending (entries.entries nth own) ∙ ending-created (high + nth) (omega (arith, own, fits)))
          (λ (free : rows ≤ nth). ap past_ending (entries.free nth free lt))
          (cases_lt nth rows)

  abbrev reads : ℕ → Bool
  reads = commit_reads high rows

  reads_are : ReadsForCommit 0 (commit_reads high rows)
  reads_are = record {
    own = λ w low below. or_left (is_own w) _ (within-hit 1024 64 w low below);
    last = refl;
    high = refl;
    stamps = λ w low below. or_right (is_own w) _ (or_right (eqb w last_at) _ (or_right (eqb w high_at) _ (or_left (within 2048 8192 w) _ (within-hit 2048 8192 w low (omega (arith, below))))));
  }

  read-value : (row : ℕ) → high ≤ row → row < high + rows → commit_reads high rows (value_at row) ≡ true
  read-value row low below =
      or_right (is_own (value_at row)) _ (or_right (eqb (value_at row) last_at) _ (or_right (eqb (value_at row) high_at) _ (or_right (within 2048 8192 (value_at row)) _
      (within-hit (value_at high) rows (value_at row) (omega (arith, low)) (omega (arith, below))))))

  -- ── the first half ──

  module _ (before after : State) (old : before.commits ≡ commits_in base last) (new : after.commits ≡ commits_in base last ++ record { created = rows_from base high rows; ended = [] } ∷ [])
      (words : List ℕ) (like : IsLike (commit_reads high rows) before base words) where
    size : 32768 ≤ length words
    size = let same = like.size in let s = stage.size in omega (arith, same, s)

    here : MayCommit words 0 (last + 1) (range_with_len high rows) [] (high + rows)
    here = may-same words base 0 (last + 1) (range_with_len high rows) [] (high + rows) (commit_reads high rows) reads_are like.same may

    count : commit_count words ≡ last
    count = sym (length-commits_in words (commit_count words)) ∙ ap length (like.shows ∙ old) ∙ length-commits_in base last

    same_last : get_or words last_at 0 ≡ last
    same_last = like.same last_at reads_are.last ∙ is_last

    below : (n : ℕ) → IsCommit (view_of words) n → n < last + 1
    below n c = let most = commit-shown words n c in let is = count in omega (arith, most, is)

    abbrev stamped : List ℕ
    stamped = words_after (stamp_part high rows (last + 1)) words

    abbrev decided : List ℕ
    decided = set stamped (commit_word_at 0) (last + 1)

    misses : (w : ℕ) → (w < 2048 + high) ⊎ (2048 + high + rows ≤ w) → w ≢ 517 → footprint (stamp_part high rows (last + 1)) w ≡ false
    misses w out apart = run-misses (last + 1) born_at 2048 born_is high_at (high + rows) high rows w out apart

    within_table : high + rows ≤ 4096
    within_table = entries.room

    cut-ruled : (image : List ℕ) → IsBetween words stamped image → IsRuled 0 words image
    cut-ruled image between = ruled-stamps 0 words image (omega arith) like.fits between.size
        (λ w out apart. between-kept (stamp_part high rows (last + 1)) words image w between
        (misses w (⊎_elim (λ (low : w < 2048). inl (omega (arith, low))) (λ (above : 10240 ≤ w). let r = within_table in inr (omega (arith, above, r))) out) apart))
        (let r = within_table in let before_high = like.fits.high in ⊎_elim
        (λ (e : get_or image high_at 0 ≡ get_or words high_at 0). omega (arith, e, before_high))
        (λ (e : get_or image high_at 0 ≡ get_or stamped high_at 0). let is = get-run_last (last + 1) born_at 2048 born_is high_at (high + rows) high rows words (let s = size in omega (arith, s)) in omega (arith, e, is, r))
        (between.each high_at))

    size_stamped : length stamped ≡ length words
    size_stamped = length-words_after (stamp_part high rows (last + 1)) words

    decided-ruled : IsRuled 0 words decided
    decided-ruled =
        let all = cut-ruled stamped (between-end (stamp_part high rows (last + 1)) words) in
        let is = between-kept (stamp_part high rows (last + 1)) words stamped last_at (between-end (stamp_part high rows (last + 1)) words) (misses last_at (inl (omega arith)) (λ e. omega (arith, e))) in
        let at = same_last in
        ruled-word 0 words stamped (omega arith) all (last + 1) (let s = size in let l = size_stamped in omega (arith, s, l)) (omega (arith, is, at)) (omega (arith, room))

    -- the commit's own rows
    own-commit : commit_of decided (last + 1) ≡ record { created = rows_from base high rows; ended = [] }
    own-commit = commit_of-interval base decided high rows (last + 1) within_table
        (λ row low above. other (born_at row) (λ e. omega (arith, e)) ∙ get-run (last + 1) born_at 2048 born_is high_at (high + rows) high rows words row low above (let s = size in let r = within_table in omega (arith, s, r)) (λ e. omega (arith, e)))
        (λ row lt out e. let same = kept-row (born_at row) (omega arith) (⊎_elim (λ (low : row < high). inl (omega (arith, low))) (λ (above : high + rows ≤ row). inr (omega (arith, above))) out) in
        let read = like.same (born_at row) (reads_are.stamps (born_at row) (omega arith) (omega (arith, lt))) in
        ⊎_elim (λ (le : get_or base (born_at row) 0 ≤ get_or base last_at 0). omega (arith, e, same, read, le, is_last))
        (λ (dead : get_or base (born_at row) 0 ≡ 2 ^ 64 - 1). omega (arith, e, same, read, dead, room)) (stage.born row lt))
        (λ row lt e. let same = kept-row (ended_at row) (omega arith) (inr (let r = within_table in omega (arith, r))) in
        let read = like.same (ended_at row) (reads_are.stamps (ended_at row) (omega arith) (omega (arith, lt))) in let most = stage.ended row lt in omega (arith, e, same, read, most, is_last))
        (λ row low above. kept-row (value_at row) (omega arith) (inr (let r = within_table in omega (arith, r))) ∙ like.same (value_at row) (read-value row low above))
      where
        other : (w : ℕ) → w ≢ commit_word_at 0 → get_or decided w 0 ≡ get_or stamped w 0
        other w apart = get_or-set_other stamped (commit_word_at 0) w (last + 1) 0 apart

        kept-row : (w : ℕ) → 2048 ≤ w → (w < 2048 + high) ⊎ (2048 + high + rows ≤ w) → get_or decided w 0 ≡ get_or words w 0
        kept-row w low out = other w (λ e. omega (arith, e, low)) ∙ get-run_beside (last + 1) born_at 2048 born_is high_at (high + rows) high rows words w out (λ e. omega (arith, e, low))

    pub decided-shown : IsShown after.commits 0 words decided
    decided-shown = next-shown 0 words decided like.fits decided-ruled (last + 1) (commits_in base last) after.commits (let is = count in omega (arith, is)) (like.shows ∙ old)
        (ap (λ (own : WriteSet). commits_in base last ++ own ∷ []) own-commit ∙ sym new)
        (decided-shows words 0 (last + 1) (range_with_len high rows) [] (high + rows) here size (fits-together words like.fits) below)

    pub early-cuts : EachCut (IsShownUntil before after (last + 1) words) (commit_early high rows (last + 1)) words
    early-cuts =
        let cut = λ (image : List ℕ) (between : IsBetween words stamped image). quiet-shown 0 words image like.fits (cut-ruled image between) 0 before.commits like.shows
        (stamps-quiet words 0 (last + 1) (range_with_len high rows) [] (high + rows) here size (fits-together words like.fits) below image between) in
        let all = cut stamped (between-end (stamp_part high rows (last + 1)) words) in
        let word = get_or-set_same stamped (commit_word_at 0) (last + 1) 0 (let s = size in let l = size_stamped in omega (arith, s, l)) in (
          λ image between. inl (cut image between),
          (cut-one_store (IsShownUntil before after (last + 1) words) (commit_word_at 0) (last + 1) stamped (inl all) (inr (decided-shown, word)), inr (decided-shown, word)),
        )

  -- ── the second half ──

  abbrev committed : List ℕ
  committed = finished (commit_early high rows (last + 1)) base

  may-end : MayEnd committed 0 (last + 1) (cleared_places rows)
  may-end = decided-may_end base 0 (last + 1) (range_with_len high rows) [] (high + rows) may stage.size (cleared_places rows)
      (λ w hit. let few = entries.few in ⊎_elim (λ (is : w ≡ 1025). (omega (arith, is), omega (arith, is))) (λ entry. let low = entry.0 in let above = entry.1 in (omega (arith, low), omega (arith, above, few))) (is-cleared 0 rows w hit))

  module _ (after : State) (words : List ℕ) (like : IsLike (commit_reads high rows) after committed words) where
    size_late : 32768 ≤ length words
    size_late =
        let same = like.size in
        let one = length-words_after (stamp_part high rows (last + 1)) base in
        let two = length-set (words_after (stamp_part high rows (last + 1)) base) (commit_word_at 0) (last + 1) in
        let s = stage.size in omega (arith, same, one, two, s)

    here_late : MayEnd words 0 (last + 1) (cleared_places rows)
    here_late = end-same words committed 0 (last + 1) (cleared_places rows) (commit_reads high rows) reads_are like.same may-end

    abbrev lasted : List ℕ
    lasted = set words last_at (last + 1)

    abbrev closed : List ℕ
    closed = set lasted (state_at 0) 0

    start : IsRuled 0 words words
    start = ruled-self 0 words (omega arith) like.fits

    lasted-ruled : IsRuled 0 words lasted
    lasted-ruled = ruled-last 0 words words (omega arith) start (last + 1) (let s = size_late in omega (arith, s)) here_late.least (omega (arith, room))

    closed-ruled : IsRuled 0 words closed
    closed-ruled = ruled-state 0 words lasted (omega arith) lasted-ruled 0 (let s = size_late in let l = length-set words last_at (last + 1) in omega (arith, s, l)) (omega arith) (λ e. absurd (omega (arith, e)))

    closed_idle : get_or closed (state_at 0) 0 ≡ 0
    closed_idle = get_or-set_same lasted (state_at 0) 0 0 (let s = size_late in let l = length-set words last_at (last + 1) in omega (arith, s, l))

    clear-ruled : (image : List ℕ) → IsBetween closed (words_after (stores 0 (cleared_places rows)) closed) image → IsRuled 0 words image
    clear-ruled image between =
        let part = clear_part-is rows in
        ruled-cleared 0 words closed image (omega arith) closed-ruled closed_idle between.size
        (λ w out. kept w (far w out) (beside w out))
        (⊎_elim (λ same. inl same)
        (λ (now : get_or image (commit_word_at 0) 0 ≡ get_or (words_after (stores 0 (cleared_places rows)) closed) (commit_word_at 0) 0).
        inr (now ∙ ap (λ (p : Part). get_or (words_after p closed) 1025 0) (sym (clear_part-is rows) ∙ clear_run rows)
        ∙ get-run_last 0 (λ nth. entry_at 0 nth) 1028 entry_is (commit_word_at 0) 0 0 rows closed
        (let s = size_late in let l = length-set words last_at (last + 1) in let m = length-set lasted (state_at 0) 0 in omega (arith, s, l, m))))
        (between.each (commit_word_at 0)))
      where
        far : (w : ℕ) → IsBesideObject 0 w → (w < 1028) ⊎ (1028 + rows ≤ w)
        far w (inl low) = inl (omega (arith, low))
        far w (inr (inl middle)) = inl middle.1
        far w (inr (inr above)) = let f = entries.few in inr (omega (arith, above, f))

        beside : (w : ℕ) → IsBesideObject 0 w → w ≢ 1025
        beside w (inl low) e = omega (arith, e, low)
        beside w (inr (inl middle)) e = let low = middle.0 in omega (arith, e, low)
        beside w (inr (inr above)) e = omega (arith, e, above)

        kept : (w : ℕ) → (w < 1028) ⊎ (1028 + rows ≤ w) → w ≢ 1025 → get_or image w 0 ≡ get_or closed w 0
        kept w out apart = between-kept (stores 0 (cleared_places rows)) closed image w between
            (ap (λ (p : Part). footprint p w) (sym (clear_part-is rows) ∙ clear_run rows)
            ∙ run-misses 0 (λ nth. entry_at 0 nth) 1028 entry_is (commit_word_at 0) 0 0 rows w
            (⊎_elim (λ (low : w < 1028). inl (omega (arith, low))) (λ (above : 1028 + rows ≤ w). inr (omega (arith, above))) out) apart)

    pub late-cuts : EachCut (IsShown after.commits 0 words) (ending.commit_late 0 (last + 1) (cleared_places rows)) words
    late-cuts =
        let quiet = endings.late-cuts words 0 (last + 1) (cleared_places rows) here_late size_late (fits-together words like.fits) in
        let shown = λ (image : List ℕ) (q : IsQuiet 0 words image) (r : IsRuled 0 words image). quiet-shown 0 words image like.fits r 0 after.commits like.shows q in (
          cut-one_store (IsShown after.commits 0 words) last_at (last + 1) words (shown words (quiet.0 words (between-self words lasted)) start) (shown lasted (quiet.1.0 lasted (between-self lasted closed)) lasted-ruled),
          (
            cut-one_store (IsShown after.commits 0 words) (state_at 0) 0 lasted (shown lasted (quiet.1.0 lasted (between-self lasted closed)) lasted-ruled)
                (shown closed (quiet.1.1.0 closed (between-self closed (words_after (stores 0 (cleared_places rows)) closed))) closed-ruled),
            (
              λ image between. shown image (quiet.1.1.0 image between) (clear-ruled image between),
              (let all = between-end (stores 0 (cleared_places rows)) closed in shown (words_after (stores 0 (cleared_places rows)) closed) quiet.1.1.1 (clear-ruled (words_after (stores 0 (cleared_places rows)) closed) all)),
            ),
          ),
        )
      where
        between-self : (old new : List ℕ) → IsBetween old new old
        between-self old new = record { size = refl; each = λ w. inl refl }
