-- A plan is played action by action.
use Rattle.std.proofs.Common.{◌≡◌, ℕ, List, [], ◌∷◌, length, drop, take, sym, subst}
use Rattle.pm_model.specs.declared.action.Action.{Action}
use Rattle.pm_model.specs.Device.{Device, IsClean, IsWhole}
use Rattle.pm_model.specs.Plans.{Part, IsPlan, MayPlay, plan_of, run}
use Rattle.heap_palloc.proofs.Settled.{whole_may}

pub may_play : (d : Device) → IsWhole d → ((w : ℕ) → IsClean d w) → (left : List Action) → (parts : List Part) × (left ≡ plan_of parts) × IsPlan (length d.cached) parts → MayPlay 1 left d
may_play d whole clean left made = whole_may 1 made.0 d whole clean made.2 left made.1

pub plays_on : (left rest : List Action) (d e : Device) → e ≡ run 1 (take 1 left) d → rest ≡ drop 1 left → MayPlay 1 left d → MayPlay 1 rest e
plays_on [] rest d e is left may = subst (λ (l : List Action). MayPlay 1 l e) (sym left) tt
plays_on (action ∷ actions) rest d e is left may =
    subst (λ (l : List Action). MayPlay 1 l e) (sym left) (subst (λ (x : Device). MayPlay 1 actions x) (sym is) may.1)
