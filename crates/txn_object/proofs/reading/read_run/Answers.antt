use Rattle.std.proofs.Common.{◌≡◌, ◌+◌, ◌-◌, ◌∙◌, ℕ, List, ap, sym, get_or, arith}
use Rattle.txn_object.proofs.Runs.{row-more, row-stop, row-end}
use Rattle.txn_object.proofs.reading.read_run.Goals as goal

pub loop-nth-preserved : goal.loop-nth-preserved
loop-nth-preserved g c = record {
  within = omega (arith, c.loop-nth-test.true);
  room = omega (arith, c.push.ensures.spare, c.loop-nth.invariant.room);
  joined = row-more (g.M.Memory.device c.args.mem.now).cached c.args.first.0 c.loop-nth.nth c.args.count c.load-word.result c.loop-nth.list.entries c.push.new.self.entries _ c.of_word.result
      c.loop-nth-test.true c.load-word.ensures c.if-word-eq0.false c.of_word.ensures c.push.ensures.entries c.loop-nth.invariant.joined;
}

pub returns-then-word-eq0-clause-entries : goal.returns-then-word-eq0-clause-entries
returns-then-word-eq0-clause-entries g c =
    let words : List ℕ = (g.M.Memory.device c.args.mem.now).cached in
    row-end words c.args.first.0 c.loop-nth.nth c.args.count c.loop-nth.list.entries _
    (row-stop words (c.args.first.0 + c.loop-nth.nth) (c.args.count - c.loop-nth.nth)
    (λ nth lt none.
    let here : c.args.first.0 + c.loop-nth.nth + nth ≡ c.args.first.0 + (c.loop-nth.nth + nth) = omega arith in
    let next : c.args.first.0 + c.loop-nth.nth + (nth + 1) ≡ c.args.first.0 + (c.loop-nth.nth + nth + 1) = omega arith in
    ap (λ (w : ℕ). get_or words w 0) next ∙ c.requires.packed (c.loop-nth.nth + nth) (omega (arith, lt)) (ap (λ (w : ℕ). get_or words w 0) (sym here) ∙ none))
    (λ some. sym c.load-word.ensures ∙ c.if-word-eq0.true))
    c.loop-nth.invariant.joined
