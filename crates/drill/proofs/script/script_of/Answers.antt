use Rattle.std.proofs.Common.{◌≡◌, ℕ, ◌+◌, ◌*◌, ◌≤◌, ◌∙◌, add-one, ap, arith, length}
use Rattle.drill.specs.Script.{Drafted, drafted, with_statement}
use Rattle.drill.proofs.Bounds.{length-is, next-le}
use Rattle.drill.proofs.script.script_of.Goals as goal

size : (draft : Drafted) (number counter : ℕ) → draft ≡ drafted number counter → length draft.lines ≡ counter + 1
size draft number counter is = ap (λ (d : Drafted). length d.lines) is ∙ length-is number counter

used : (draft : Drafted) (number counter : ℕ) → draft ≡ drafted number counter → draft.next ≤ 5 * counter
used draft number counter is = rw is (next-le number counter)

pub push_statement-requires-clause-lines : goal.push_statement-requires-clause-lines
push_statement-requires-clause-lines c = omega (arith, size c.loop.draft c.args.number c.loop.counter c.loop.invariant)

pub push_statement-requires-clause-draws : goal.push_statement-requires-clause-draws
push_statement-requires-clause-draws c = omega (arith, used c.loop.draft c.args.number c.loop.counter c.loop.invariant)

pub loop-preserved : goal.loop-preserved
loop-preserved c = rw add-one (c.in_ok-push_statement.ensures ∙ ap with_statement c.loop.invariant)

pub of-requires : goal.of-requires
of-requires c =
    omega (
      arith,
      ap length c.into_lines.ensures,
      size c.loop.draft c.args.number c.loop.counter c.loop.invariant,
      c.loop.auto.counter-end,
      c.requires.most,
    )
