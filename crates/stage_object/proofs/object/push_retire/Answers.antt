use Rattle.std.proofs.Common.{◌≡◌, ◌++◌, ℕ, subst}
use Rattle.pm_model.specs.Plans.{plan_of}
use Rattle.stage_object.specs.Object.{retire_parts}
use Rattle.stage_object.proofs.Clears.{retired, retired_nothing}
use Rattle.stage_object.proofs.object.push_retire.Goals as goal

pub returns-then-entries-gt0-clause-left : goal.returns-then-entries-gt0-clause-left
returns-then-entries-gt0-clause-left c =
    subst (λ (o : ℕ). c.push_clear.new.plan.left ≡ c.args.plan.now.left ++ plan_of (retire_parts o c.args.entries c.args.word)) c.object_of-object.ensures
    (retired c.args.plan.now.left c.push_store.new.self.left c.push_clear.new.plan.left c.object_of-object.result c.args.entries c.args.word c.object_state.result.0
    c.object_state.ensures c.then-entries-gt0.either c.push_store.ensures.left c.push_clear.ensures.left)

pub returns-else-word-clause-left : goal.returns-else-word-clause-left
returns-else-word-clause-left c =
    subst (λ (o : ℕ). c.push_store.new.self.left ≡ c.args.plan.now.left ++ plan_of (retire_parts o c.args.entries c.args.word)) c.object_of-object.ensures
    (retired_nothing c.args.plan.now.left c.push_store.new.self.left c.object_of-object.result c.args.entries c.args.word c.object_state.result.0
    c.object_state.ensures c.if-entries-gt0.false c.if-word.false c.push_store.ensures.left)
