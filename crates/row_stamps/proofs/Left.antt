-- The rows that the first commits create or end, by the number of the commit.
use Rattle.std.proofs.Common.{◌≡◌, ◌⊎◌, inl, inr, ⊎_elim, ℕ, zero, suc, ◌-◌, ◌<◌, ◌≤◌, List, [], ◌∷◌, length, take, refl, arith}
use Rattle.std.specs.Prelude.{Some, Contains, slice_get}
use Rattle.std.specs.List.{flat_map}
use Rattle.std.proofs.lemmas.List.Elements.{Contains-append_left, Contains-append_right, Contains-append_cases}
use Rattle.image_layout.proofs.Members.{Contains-nil}
use Rattle.row_stamps.specs.Stamps.{Commit, IsVisible, IsLeft, AreStampsOf}

module _ (rows : Commit → List ℕ) (row : ℕ) where
  -- one of the first n commits has the row
  abbrev HasOne : List Commit → ℕ → Type 0
  HasOne commits n = (k : ℕ) × (k < n) × ((commit : Commit) × (slice_get commits k ≡ Some commit) × Contains (rows commit) row)

  pub taken_one : (commits : List Commit) (n : ℕ) → Contains (flat_map rows (take n commits)) row → HasOne commits n
  taken_one [] n is = absurd (Contains-nil row (take_nil n is))
    where
      take_nil : (m : ℕ) → Contains (flat_map rows (take m [])) row → Contains [] row
      take_nil zero has = has
      take_nil (suc m) has = has
  taken_one (commit ∷ commits) zero is = absurd (Contains-nil row is)
  taken_one (commit ∷ commits) (suc n) is = ⊎_elim
      (λ here. (0, omega arith, (commit, refl, here)))
      (λ there. let rest = taken_one commits n there in (suc rest.0, omega (arith, rest.1), rest.2))
      (Contains-append_cases (rows commit) (flat_map rows (take n commits)) row is)

  pub one_taken : (commits : List Commit) (n k : ℕ) (commit : Commit) → k < n → slice_get commits k ≡ Some commit → Contains (rows commit) row → Contains (flat_map rows (take n commits)) row
  one_taken commits zero k commit lt is has = absurd (omega (arith, lt))
  one_taken [] (suc n) k commit lt is has = absurd (cc)
  one_taken (first ∷ commits) (suc n) zero commit lt is has =
      let same : first ≡ commit = cc in
      Contains-append_left (rows first) (flat_map rows (take n commits)) row (rw same has)
  one_taken (first ∷ commits) (suc n) (suc k) commit lt is has = Contains-append_right (rows first) (flat_map rows (take n commits)) row (one_taken commits n k commit (omega (arith, lt)) is has)

-- each number below the length is that of a commit
pub commit_there : (commits : List Commit) (k : ℕ) → k < length commits → (commit : Commit) × (slice_get commits k ≡ Some commit)
commit_there [] k lt = absurd (omega (arith, lt))
commit_there (commit ∷ commits) zero lt = (commit, refl)
commit_there (commit ∷ commits) (suc k) lt = commit_there commits k (omega (arith, lt))

module _ (commits : List Commit) (row b e snapshot : ℕ) (stamps : AreStampsOf commits row b e) (within : snapshot ≤ length commits) where
  pub visible_left : IsVisible b e snapshot → IsLeft (take snapshot commits) row
  visible_left seen =
      let k : ℕ = b - 1 in
      let one = commit_there commits k (omega (arith, seen.some, seen.by_then, within)) in
      record {
        created = one_taken (λ commit. commit.created) row commits snapshot k one.0 (omega (arith, seen.some, seen.by_then)) one.1 ((stamps.created_by k one.0 one.1).1 (omega (arith, seen.some)));
        not_ended = λ ended.
            let by = taken_one (λ commit. commit.ended) row commits snapshot ended in
            let is = (stamps.ended_by by.0 by.2.0 by.2.1).0 by.2.2 in
            ⊎_elim (λ none. omega (arith, none, is)) (λ later. omega (arith, later, is, by.1)) seen.still;
      }

  pub left_visible : IsLeft (take snapshot commits) row → IsVisible b e snapshot
  left_visible left_by =
      let by = taken_one (λ commit. commit.created) row commits snapshot left_by.created in
      let is = (stamps.created_by by.0 by.2.0 by.2.1).0 by.2.2 in
      record {
        some = omega (arith, is);
        by_then = omega (arith, is, by.1);
        still = ended (cases_end e snapshot) left_by;
      }
    where
      cases_end : (x s : ℕ) → ((x ≡ 0) ⊎ (s < x)) ⊎ ((0 < x) × (x ≤ s))
      cases_end x s = grind arith

      ended : ((e ≡ 0) ⊎ (snapshot < e)) ⊎ ((0 < e) × (e ≤ snapshot)) → IsLeft (take snapshot commits) row → (e ≡ 0) ⊎ (snapshot < e)
      ended (inl still) left_in = still
      ended (inr (some, le)) left_in =
          let one = commit_there commits (e - 1) (omega (arith, some, le, within)) in
          absurd (left_in.not_ended (one_taken (λ commit. commit.ended) row commits snapshot (e - 1) one.0 (omega (arith, some, le)) one.1 ((stamps.ended_by (e - 1) one.0 one.1).1 (omega (arith, some)))))
