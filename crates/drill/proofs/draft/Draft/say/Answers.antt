use Rattle.std.proofs.Common.{ap, arith, length, refl}
use Rattle.drill.specs.Script.{Drafted}
use Rattle.drill.proofs.Telling.{ordinal-le, told-more}
use Rattle.drill.proofs.draft.Draft.say.Goals as goal

pub overflow_add-ordinal : goal.overflow_add-ordinal
overflow_add-ordinal c =
    omega (
      arith,
      ap (λ (draft : Drafted). length draft.lines) c.self.view_is,
      c.requires,
      c.self.invariant.ordinal c.args.session (omega arith),
      ordinal-le c.self.inside.lines.items c.args.session,
    )

pub invariant_of-self-2 : goal.invariant_of-self-2
invariant_of-self-2 c =
    told-more c.self.inside.lines.items c.push.new.self.items c.self.inside.ordinals c.self.inside.opened c.args.session _
    c.is_open_after-opened.result c.args.call c.self.invariant c.in_ok-push.ensures.items refl c.is_open_after-opened.ensures
    (omega arith) (omega arith) (omega arith)
