-- What an image shows that a plan beside others may leave, from what its view shows and from the rules of each word.
use Rattle.std.proofs.Common.{◌≡◌, ⊎_elim, ℕ, ◌+◌, ◌<◌, ◌≤◌, ◌∙◌, max, eqb, List, [], ◌∷◌, ◌++◌, get_or, ap, sym, arith}
use Rattle.std.proofs.lemmas.Bool.{cases_eq, cases_lt, eq-eqb, ne_eqb}
use Rattle.mv_model.specs.State.{WriteSet}
use Rattle.pm_model.specs.Plans.{Part, EachCut, words_after}
use Rattle.image_view.specs.Views.{FitsTogether}
use Rattle.image_view.specs.Steps.{GoesOn}
use Rattle.image_view.proofs.Bounds.{same-stamp}
use Rattle.stage_view.specs.Quiet.{GivesBelow, IsQuiet}
use Rattle.stage_view.specs.StageCommit.{ShowsCommit}
use Rattle.stage_view.specs.StageView.{view_of}
use Rattle.stage_view.proofs.Commits.{stamp-is}
use Rattle.stage_view.proofs.FitsRows.{fits-view, view-fits}
use Rattle.stage_view.proofs.Numbers.{commit-counted, commit-shown, given-next, next-given}
use Rattle.engine_core.specs.Stage.{born_at, ended_at}
use Rattle.engine_core.specs.LogicalState.{commit_count, commit_of, commits_in, next_row}
use Rattle.engine_core.specs.Recoverable.{Fits}
use Rattle.engine_core.specs.Survival.{IsShown, shown_commits}
use Rattle.engine_core.proofs.Rows.{commits_in-more, commits_in-same}
use Rattle.engine_core.proofs.Ruled.{IsRuled, ruled-rules}

-- what each cut has and each cut has too
pub each_cut-both : (P Q R : List ℕ → Type 0) → ((image : List ℕ) → P image → Q image → R image) → (parts : List Part) (words : List ℕ) → EachCut P parts words → EachCut Q parts words → EachCut R parts words
each_cut-both P Q R f [] words one other = f words one other
each_cut-both P Q R f (part ∷ parts) words one other =
    (λ image between. f image (one.0 image between) (other.0 image between), each_cut-both P Q R f parts (words_after part words) one.1 other.1)

-- ── the view ──

pub fits-together : (words : List ℕ) → Fits words → FitsTogether (view_of words)
fits-together words fits = fits-view words (record { rows = fits.rows; born = fits.born; ended = fits.ended })

-- numbers that are said of each other are the same
eqb-same : (a b n : ℕ) → (a ≡ n → b ≡ n) → (b ≡ n → a ≡ n) → eqb a n ≡ eqb b n
eqb-same a b n forth back = ⊎_elim
    (λ is. eq-eqb a n is ∙ sym (eq-eqb b n (forth is)))
    (λ apart. ne_eqb a n apart ∙ sym (ne_eqb b n (λ is. apart (back is))))
    (cases_eq a n)

module _ (object : ℕ) (words image : List ℕ) (fits : Fits words) (ruled : IsRuled object words image) where
  fits_now : FitsTogether (view_of image) → Fits image
  fits_now together =
      let rows = view-fits image together in
      record { entry = ruled-rules object words image fits.entry ruled; high = ruled.high; rows = rows.rows; born = rows.born; ended = rows.ended }

  -- the commits that were shown are shown as they were
  commits_same : GoesOn (view_of words) (view_of image) → commits_in image (commit_count words) ≡ commits_in words (commit_count words)
  commits_same on = commits_in-same (commit_count words) words image (record {
    born = λ row n lt low most.
        let same = same-stamp (view_of words) (view_of image) on n 0 row low (commit-counted words n most) in
        let was = stamp-is words born_at row lt in
        let is = stamp-is image born_at row lt in
        eqb-same (get_or image (born_at row) 0) (get_or words (born_at row) 0) n (λ e. sym was ∙ same.0.0 (is ∙ e)) (λ e. sym is ∙ same.0.1 (was ∙ e));
    ended = λ row n lt low most.
        let same = same-stamp (view_of words) (view_of image) on n 0 row low (commit-counted words n most) in
        let was = stamp-is words ended_at row lt in
        let is = stamp-is image ended_at row lt in
        eqb-same (get_or image (ended_at row) 0) (get_or words (ended_at row) 0) n (λ e. sym was ∙ same.1.0 (is ∙ e)) (λ e. sym is ∙ same.1.1 (was ∙ e));
    value = λ row lt low most. ruled.value row lt low;
  })

  least_now : GoesOn (view_of words) (view_of image) → next_row words ≤ next_row image
  least_now on = ⊎_elim
      (λ (lt : next_row image < next_row words). let back = given-next image (next_row image) (on.given 0 (next_row image) (next-given words (next_row image) lt)) in absurd (omega (arith, back)))
      (λ le. le) (cases_lt (next_row image) (next_row words))

  most_now : (bound : ℕ) → GivesBelow bound words image → next_row image ≤ max (next_row words) bound
  most_now bound gives = ⊎_elim
      (λ (lt : max (next_row words) bound < next_row image). absurd (⊎_elim
      (λ old. let back = given-next words (max (next_row words) bound) old in omega (arith, back))
      (λ (few : max (next_row words) bound < bound). omega (arith, few))
      (gives (max (next_row words) bound) (next-given image (max (next_row words) bound) lt))))
      (λ le. le) (cases_lt (max (next_row words) bound) (next_row image))

  -- no commit more
  pub quiet-shown : (bound : ℕ) (commits : List WriteSet) → shown_commits words ≡ commits → IsQuiet bound words image → IsShown commits bound words image
  quiet-shown bound commits before quiet =
      let less = commit-shown words (commit_count image) (quiet.no_more (commit_count image) (commit-counted image (commit_count image) (omega arith))) in
      let more = commit-shown image (commit_count words) (quiet.goes_on.commits (commit_count words) (commit-counted words (commit_count words) (omega arith))) in
      let count : commit_count image ≡ commit_count words = omega (arith, less, more) in
      record {
        fits = fits_now quiet.fits;
        commits_are = ap (commits_in image) count ∙ commits_same quiet.goes_on ∙ before;
        least = least_now quiet.goes_on;
        most = most_now bound quiet.gives;
      }

  -- one commit more
  pub next-shown : (number : ℕ) (commits later : List WriteSet) → commit_count words + 1 ≡ number → shown_commits words ≡ commits
      → commits ++ commit_of image number ∷ [] ≡ later → ShowsCommit number words image → IsShown later 0 words image
  next-shown number commits later next before then shows =
      let least = commit-shown image number shows.one_more.0 in
      let most : commit_count image ≤ number = ⊎_elim
      (λ old. let le = commit-shown words (commit_count image) old in omega (arith, le, next))
      (λ le. le) (shows.one_more.1 (commit_count image) (commit-counted image (commit_count image) (omega arith))) in
      let count : commit_count image ≡ commit_count words + 1 = omega (arith, least, most, next) in
      record {
        fits = fits_now shows.fits;
        commits_are = ap (commits_in image) count ∙ commits_in-more image (commit_count words)
            ∙ ap (λ (xs : List WriteSet). xs ++ commit_of image (commit_count words + 1) ∷ []) (commits_same shows.goes_on ∙ before)
            ∙ ap (λ (n : ℕ). commits ++ commit_of image n ∷ []) next ∙ then;
        least = least_now shows.goes_on;
        most = most_now 0 shows.gives;
      }
