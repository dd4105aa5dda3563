-- Steps that show no commit more, one after the other.
use Rattle.std.proofs.Common.{◌≡◌, inl, inr, ⊎_elim, ℕ, ◌≤◌, Bool, List, length, refl, ◌∙◌, subst, arith}
use Rattle.pm_model.specs.Plans.{Part, EachCut, IsPlan}
use Rattle.pm_model.proofs.PlanLaw.{moments-each_cut}
use Rattle.image_view.specs.Views.{ImageView, FitsTogether, IsCommit}
use Rattle.image_view.specs.Steps.{GivesNoMore, GoesOn, IsSameOrNew, ShowsNoMore}
use Rattle.side_by_side.specs.SideBySide.{SurvivesBeside, AreSameAt, without}
use Rattle.stage_view.specs.StageView.{view_of}
use Rattle.stage_view.specs.Quiet.{Follows, GivesBelow, IsQuiet, SaysItFits}
use Rattle.stage_view.proofs.Moments.{moments-each}

pub goes-on : (u v w : ImageView) → GoesOn u v → GoesOn v w → GoesOn u w
goes-on u v w one other = record {
  commits = λ n c. other.commits n (one.commits n c);
  given = λ table row g. other.given table row (one.given table row g);
  born = λ table row some. let same = one.born table row some in other.born table row (omega (arith, same, some)) ∙ same;
  ended = λ table row some. let same = one.ended table row some in other.ended table row (omega (arith, same, some)) ∙ same;
  new_born = λ table row. new-stamp (u.born table row) (v.born table row) (w.born table row) (one.new_born table row) (other.new_born table row);
  new_ended = λ table row. new-stamp (u.ended table row) (v.ended table row) (w.ended table row) (one.new_ended table row) (other.new_ended table row);
}
  where
    new-stamp : (a b c : ℕ) → IsSameOrNew u a b → IsSameOrNew v b c → IsSameOrNew u a c
    new-stamp a b c first (inr new) = inr (λ shown. new (one.commits c shown))
    new-stamp a b c (inl same) (inl again) = inl (again ∙ same)
    new-stamp a b c (inr new) (inl again) = inr (λ shown. new (subst (IsCommit u) again shown))

pub goes-self : (v : ImageView) → GoesOn v v
goes-self v = record { commits = λ n c. c; given = λ table row g. g; born = λ table row some. refl; ended = λ table row some. refl; new_born = λ table row. inl refl; new_ended = λ table row. inl refl }

pub quiet-self : (bound : ℕ) (words : List ℕ) → FitsTogether (view_of words) → IsQuiet bound words words
quiet-self bound words fits = record { size = refl; fits = fits; goes_on = goes-self (view_of words); no_more = λ n c. c; gives = λ row given. inl given }

pub quiet-then : (bound : ℕ) (a b c : List ℕ) → IsQuiet bound a b → length c ≡ length b → FitsTogether (view_of c) × GoesOn (view_of b) (view_of c) × ShowsNoMore (view_of b) (view_of c) → GivesBelow bound b c → IsQuiet bound a c
quiet-then bound a b c one size step gives = record {
  size = size ∙ one.size;
  fits = step.0;
  goes_on = goes-on (view_of a) (view_of b) (view_of c) one.goes_on step.1;
  no_more = λ n shown. one.no_more n (step.2 n shown);
  gives = λ row given. ⊎_elim (λ old. one.gives row old) (λ lt. inr lt) (gives row given);
}

-- a step that gives out no row more
pub gives-none : (bound : ℕ) (b c : List ℕ) → GivesNoMore (view_of b) (view_of c) → GivesBelow bound b c
gives-none bound b c none row given = inl (none 0 row given)

-- a plan whose cuts are quiet survives
pub quiet-survives : (session bound : ℕ) (parts : List Part) (reads : ℕ → Bool) (base : List ℕ) (P Q : (ℕ → ℕ) → List ℕ → Type 0) → SaysItFits P → ((left : ℕ → ℕ) → Follows bound P Q (without session left) left)
    → ((words : List ℕ) → length words ≡ length base → AreSameAt reads words base → 32768 ≤ length words → FitsTogether (view_of words) → IsPlan (length words) parts × EachCut (IsQuiet bound words) parts words)
    → SurvivesBeside session P Q reads base parts
quiet-survives session bound parts reads base P Q says follows law left words size same holds =
    let now = says (without session left) words holds in
    let facts = law words size same now.0 now.1 in
    moments-each (λ k. IsQuiet bound words) (λ k image. k ≡ left session → Q left image) (λ k image quiet is. follows left words image holds quiet) parts words (moments-each_cut (IsQuiet bound words) parts words facts.0 facts.1)
