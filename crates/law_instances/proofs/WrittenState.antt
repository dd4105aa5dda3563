-- The state that the image with two commits shows is consistent.
use Rattle.std.proofs.Common.{◌≡◌, ℕ, zero, suc, ◌≤◌, [], ◌∷◌, refl, sym, subst, arith}
use Rattle.std.specs.Prelude.{pos, negsuc}
use Rattle.std.proofs.lemmas.Bool.{ne_eqb}
use Rattle.mv_model.specs.declared.shape.Kind.TheVariants as kind
use Rattle.mv_model.specs.declared.value.Value.TheVariants as value
use Rattle.mv_model.specs.State.{State, all_idle}
use Rattle.mv_model.specs.View.{next_row_of}
use Rattle.mv_model.specs.Consistent.{IsConsistent, times_created, times_ended, write_sets}
use Rattle.mv_model.proofs.Keeping.{none_running}
use Rattle.shown_state.specs.CommitLaws.{row_key, two_commit_image}
use Rattle.shown_state.specs.LogicalState.{logical_state}
use Rattle.shown_state.proofs.CommitsWorked.{two_commits_are_shown}

-- that state, with a table of two rows and two commits
abbrev two_commits : State
two_commits = record {
  tables = record {
    name = 116 ∷ [];
    columns =
        record { name = 97 ∷ []; kind = kind.Int }
        ∷ record { name = 98 ∷ []; kind = kind.Int }
        ∷ record { name = 99 ∷ []; kind = kind.Text }
        ∷ [];
    next_row = 2;
  } ∷ [];
  commits =
      record {
        created = record { key = row_key 0 0; values = value.Int (pos 7) ∷ value.Int (pos 0) ∷ value.Text [] ∷ [] } ∷ [];
        ended = [];
      }
      ∷ record {
        created = record { key = row_key 0 1; values = value.Int (negsuc 2) ∷ value.Int (pos 5) ∷ value.Text [] ∷ [] } ∷ [];
        ended = row_key 0 0 ∷ [];
      }
      ∷ [];
  begun = 0;
  running = all_idle;
}

-- rows 0 and 1 are created, under numbers below 2
given_out : (table row : ℕ) → next_row_of two_commits table ≤ row → times_created (write_sets two_commits) table row ≡ 0
given_out zero zero le = absurd (low le)
  where
    low : 2 ≤ 0 → ⊥
    low le = omega (arith, le)
given_out zero (suc zero) le = absurd (low le)
  where
    low : 2 ≤ 1 → ⊥
    low le = omega (arith, le)
given_out zero (suc (suc row)) le = rw (ne_eqb 0 (suc (suc row)) (λ e. omega (arith, e)), ne_eqb 1 (suc (suc row)) (λ e. omega (arith, e))) refl
given_out (suc table) row le = rw (ne_eqb 0 (suc table) (λ e. omega (arith, e))) refl

-- each of them once
created_once : (table row : ℕ) → times_created (write_sets two_commits) table row ≤ 1
created_once zero zero = omega arith
created_once zero (suc zero) = omega arith
created_once zero (suc (suc row)) = rw (ne_eqb 0 (suc (suc row)) (λ e. omega (arith, e)), ne_eqb 1 (suc (suc row)) (λ e. omega (arith, e))) (omega arith)
created_once (suc table) row = rw (ne_eqb 0 (suc table) (λ e. omega (arith, e))) (omega arith)

-- and row 0 is ended once
ended_once : (table row : ℕ) → times_ended (write_sets two_commits) table row ≤ 1
ended_once zero zero = omega arith
ended_once zero (suc row) = rw (ne_eqb 0 (suc row) (λ e. omega (arith, e))) (omega arith)
ended_once (suc table) row = rw (ne_eqb 0 (suc table) (λ e. omega (arith, e))) (omega arith)

two_commits_consistent : IsConsistent two_commits
two_commits_consistent = record {
  snapshots = λ session. rw (none_running 17 session) tt;
  given_out = given_out;
  created_once = created_once;
  ended_once = ended_once;
}

pub written_consistent : IsConsistent (logical_state two_commit_image)
written_consistent = subst IsConsistent (sym two_commits_are_shown.1) two_commits_consistent
