use Rattle.std.proofs.Common.{◌≡◌, ℕ, get_or, max, arith, sym, ◌∙◌, ap}
use Rattle.image_layout.specs.Fixed.{last_at, commit_word_at}
use Rattle.engine_core.specs.LogicalState.{greatest, of_open}
use Rattle.engine_core.proofs.OpeningPlans.{greatest-more, greatest-none}
use Rattle.engine_core.proofs.opening.count_commits.Goals as goal

pub loop-object-init : goal.loop-object-init
loop-object-init g c = greatest-none (of_open (g.M.Memory.device c.args.memory.now).cached (λ k. get_or (g.M.Memory.device c.args.memory.now).cached (commit_word_at k) 0))

pub loop-object-preserved : goal.loop-object-preserved
loop-object-preserved g c =
    let value = of_open (g.M.Memory.device c.args.memory.now).cached (λ k. get_or (g.M.Memory.device c.args.memory.now).cached (commit_word_at k) 0) in
    let more = greatest-more value c.loop-object.object in
    let this : c.open_commit.result ≡ value c.loop-object.object = c.open_commit.ensures in
    let before : c.loop-object.count ≡ greatest value c.loop-object.object = c.loop-object.invariant in
    c.max-count.ensures ∙ ap (λ (n : ℕ). max n c.loop-object.count) this ∙ ap (λ (n : ℕ). max (value c.loop-object.object) n) before ∙ sym more

pub returns : goal.returns
returns g c =
    let words = (g.M.Memory.device c.args.memory.now).cached in
    let value = of_open words (λ k. get_or words (commit_word_at k) 0) in
    let end : c.loop-object.object ≡ 16 = omega arith in
    c.max.ensures ∙ ap (λ (n : ℕ). max n c.loop-object.count) (c.load.ensures ∙ ap (λ (w : ℕ). get_or words w 0) c.last_commit.ensures)
    ∙ ap (λ (n : ℕ). max (get_or words last_at 0) n) (c.loop-object.invariant ∙ ap (greatest value) end)
