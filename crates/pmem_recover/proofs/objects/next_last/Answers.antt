use Rattle.std.proofs.Common.{◌≡◌, ℕ, [], ◌∷◌, ◌++◌, get_or, false, sym, ◌∙◌, ap, refl, arith}
use Rattle.std.proofs.lemmas.Bool.{both_ways}
use Rattle.image_layout.specs.Fixed.{last_at}
use Rattle.image_layout.specs.Objects.{last_commit}
use Rattle.pm_model.specs.Plans.{one_store, part_actions}
use Rattle.shown_state.specs.Mending.{last_mending}
use Rattle.pmem_recover.specs.Steps.{step_parts}
use Rattle.pmem_recover.proofs.Steps.{raising, no_raising, made-one, some-one}
use Rattle.pmem_recover.proofs.objects.next_last.Given as given
use Rattle.pmem_recover.proofs.objects.next_last.Goals as goal
use Rattle.pmem_recover.proofs.objects.next_last.Goals.{then-from-gt0-via-then-from-gt0, then-from-gt0-via-else-from-gt0+then-load-number}

pub returns-then-from-gt0-clause-none : goal.returns-then-from-gt0-clause-none
returns-then-from-gt0-clause-none g c = (
  λ e number from lt. elim c.then-from-gt0.branch [
    | then-from-gt0-via-then-from-gt0 w ↦ absurd (omega (arith, w.if-from-gt0.true, from, lt))
    | then-from-gt0-via-else-from-gt0+then-load-number w ↦ no_raising (g.M.Memory.device c.args.mem.now).cached number
        (sym (w.load.ensures ∙ ap (λ (k : ℕ). get_or (g.M.Memory.device c.args.mem.now).cached k 0) w.last_commit.ensures) ∙ w.if-load-number.true ∙ c.count_commits-number.ensures)
  ],
  λ none. refl,
)

-- the number is to be raised
raised : (g : given.Over) (c : goal.After-push_store g) → step_parts (λ n. last_mending) (g.M.Memory.device c.args.mem.now).cached 0 ≡ one_store last_at (last_commit (g.M.Memory.device c.args.mem.now).cached) ∷ []
raised g c = let words = (g.M.Memory.device c.args.mem.now).cached in
    raising words 0 (λ e. c.if-load-number.false (c.load.ensures ∙ ap (λ (k : ℕ). get_or words k 0) c.last_commit.ensures ∙ e ∙ sym c.count_commits-number.ensures))

pub returns-clause-next : goal.returns-clause-next
returns-clause-next g c = let words = (g.M.Memory.device c.args.mem.now).cached in
    record {
      is_from = omega (arith, c.if-from-gt0.false);
      number_is = omega arith;
      some = some-one _ _ (raised g c);
      plan_is = made-one _ _ _ _ c.in_ok-plan.plan.left c.push_store.new.self.left c.in_ok-plan.ensures.empty c.last_commit-2.ensures
          (c.push_store.ensures.left ∙ ap (λ (n : ℕ). c.in_ok-plan.plan.left ++ part_actions (one_store c.last_commit-2.result.0 n)) c.count_commits-number.ensures) (raised g c);
      passed = λ other from lt. absurd (omega (arith, lt));
    }

pub returns-clause-none : goal.returns-clause-none
returns-clause-none g c = (
  λ e. absurd (both_ways false refl (sym e)),
  λ none. absurd (some-one _ _ (raised g c) (none 0 (omega (arith, c.if-from-gt0.false)) (omega arith))),
)
