use Rattle.std.proofs.Common.{◌≡◌, ℕ, get_or, max, arith, sym, ◌∙◌, ap}
use Rattle.image_layout.specs.Fixed.{entry_at}
use Rattle.engine_core.specs.LogicalState.{greatest, past_entry}
use Rattle.engine_core.proofs.OpeningPlans.{greatest-more, greatest-none}
use Rattle.engine_core.proofs.opening.past_rows.Goals as goal

pub loop-nth-init : goal.loop-nth-init
loop-nth-init g c = greatest-none (λ nth. past_entry (get_or (g.M.Memory.device c.args.memory.now).cached (entry_at c.args.object nth) 0))

pub loop-nth-preserved : goal.loop-nth-preserved
loop-nth-preserved g c =
    let words = (g.M.Memory.device c.args.memory.now).cached in
    let value = λ (nth : ℕ). past_entry (get_or words (entry_at c.args.object nth) 0) in
    let more = greatest-more value c.loop-nth.nth in
    let this : c.past_row.result ≡ value c.loop-nth.nth = c.past_row.ensures ∙ ap past_entry (c.load.ensures ∙ ap (λ (w : ℕ). get_or words w 0) c.entry_word.ensures) in
    c.max-past.ensures ∙ ap (λ (n : ℕ). max n c.loop-nth.past) this ∙ ap (λ (n : ℕ). max (value c.loop-nth.nth) n) c.loop-nth.invariant ∙ sym more

pub returns : goal.returns
returns g c =
    let words = (g.M.Memory.device c.args.memory.now).cached in
    let end : c.loop-nth.nth ≡ 60 = omega arith in
    c.loop-nth.invariant ∙ ap (greatest (λ nth. past_entry (get_or words (entry_at c.args.object nth) 0))) end
