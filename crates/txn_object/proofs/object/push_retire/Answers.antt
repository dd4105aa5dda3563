use Rattle.std.proofs.Common.{◌≡◌, ◌≤◌, ◌+◌, ◌++◌, ℕ, length, sym, subst, arith}
use Rattle.image_layout.specs.Objects.{entry_places}
use Rattle.pm_model.specs.Plans.{plan_of}
use Rattle.txn_object.specs.Object.{retire_parts}
use Rattle.txn_object.proofs.Clears.{retired, retired_nothing, retire_length_some, retire_length_none}
use Rattle.txn_object.proofs.object.push_retire.Goals as goal

pub push_clear-requires-clause-room : goal.push_clear-requires-clause-room
push_clear-requires-clause-room g c =
    let there = subst (λ (o : ℕ). c.args.entries ≤ length (entry_places (g.M.Memory.device c.args.mem.now).cached o)) (sym c.object_of-object.ensures) c.requires.there in
    let room = subst (λ (o : ℕ). length (plan_of (retire_parts (g.M.Memory.device c.args.mem.now).cached o c.args.entries c.args.word)) ≤ c.args.plan.now.spare) (sym c.object_of-object.ensures) c.requires.room in
    let all = retire_length_some (g.M.Memory.device c.args.mem.now).cached c.object_of-object.result c.args.entries c.args.word there c.then-entries-gt0.either in
    omega (arith, all, c.push_store.ensures.spare, room)

pub returns-then-entries-gt0-clause-left : goal.returns-then-entries-gt0-clause-left
returns-then-entries-gt0-clause-left g c =
    let there = subst (λ (o : ℕ). c.args.entries ≤ length (entry_places (g.M.Memory.device c.args.mem.now).cached o)) (sym c.object_of-object.ensures) c.requires.there in
    subst (λ (o : ℕ). c.push_clear.new.plan.left ≡ c.args.plan.now.left ++ plan_of (retire_parts (g.M.Memory.device c.args.mem.now).cached o c.args.entries c.args.word)) c.object_of-object.ensures
    (retired (g.M.Memory.device c.args.mem.now).cached c.object_of-object.result c.args.entries c.args.plan.now.left c.push_store.new.self.left c.push_clear.new.plan.left c.args.word c.object_state.result.0
    there c.object_state.ensures c.then-entries-gt0.either c.push_store.ensures.left c.push_clear.ensures.left)

pub returns-then-entries-gt0-clause-spare : goal.returns-then-entries-gt0-clause-spare
returns-then-entries-gt0-clause-spare g c =
    let there = subst (λ (o : ℕ). c.args.entries ≤ length (entry_places (g.M.Memory.device c.args.mem.now).cached o)) (sym c.object_of-object.ensures) c.requires.there in
    let all = retire_length_some (g.M.Memory.device c.args.mem.now).cached c.object_of-object.result c.args.entries c.args.word there c.then-entries-gt0.either in
    subst (λ (o : ℕ). c.push_clear.new.plan.spare + length (plan_of (retire_parts (g.M.Memory.device c.args.mem.now).cached o c.args.entries c.args.word)) ≡ c.args.plan.now.spare) c.object_of-object.ensures
    (omega (arith, all, c.push_store.ensures.spare, c.push_clear.ensures.spare))

pub returns-else-word-clause-left : goal.returns-else-word-clause-left
returns-else-word-clause-left g c =
    subst (λ (o : ℕ). c.push_store.new.self.left ≡ c.args.plan.now.left ++ plan_of (retire_parts (g.M.Memory.device c.args.mem.now).cached o c.args.entries c.args.word)) c.object_of-object.ensures
    (retired_nothing (g.M.Memory.device c.args.mem.now).cached c.object_of-object.result c.args.entries c.args.plan.now.left c.push_store.new.self.left c.args.word c.object_state.result.0
    c.object_state.ensures c.if-entries-gt0.false c.if-word.false c.push_store.ensures.left)

pub returns-else-word-clause-spare : goal.returns-else-word-clause-spare
returns-else-word-clause-spare g c =
    let all = retire_length_none (g.M.Memory.device c.args.mem.now).cached c.object_of-object.result c.args.entries c.args.word c.if-entries-gt0.false c.if-word.false in
    subst (λ (o : ℕ). c.push_store.new.self.spare + length (plan_of (retire_parts (g.M.Memory.device c.args.mem.now).cached o c.args.entries c.args.word)) ≡ c.args.plan.now.spare) c.object_of-object.ensures
    (omega (arith, all, c.push_store.ensures.spare))
