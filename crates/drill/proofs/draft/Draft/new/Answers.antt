use Rattle.std.proofs.Common.{refl}
use Rattle.drill.proofs.Telling.{told-nothing}
use Rattle.drill.proofs.draft.Draft.new.Goals as goal

pub invariant_of-draft : goal.invariant_of-draft
invariant_of-draft c = told-nothing _ _ _ c.new.ensures.items refl refl
