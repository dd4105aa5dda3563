-- What code pushes onto an empty plan, as the actions of an allocation.
use Rattle.std.proofs.Common.{◌≡◌, ℕ, ◌+◌, ◌*◌, List, [], ◌++◌, ◌∙◌, ap}
use Rattle.pm_model.specs.declared.action.Action.{Action}
use Rattle.pm_model.specs.Plans.{plan_of}
use Rattle.heap_palloc.specs.Parts.{Allocation, allocation_parts}

pub allocation-same : (lane owner block other marked mark : ℕ) → block ≡ other → marked ≡ mark
    → ◌≡◌ {A = Allocation} (record { lane = lane; owner = owner; block = block; marked = marked }) (record { lane = lane; owner = owner; block = other; marked = mark })
allocation-same lane owner block other marked mark e m = ap (λ (b : ℕ). allocation b marked) e ∙ ap (λ (n : ℕ). allocation other n) m
  where
    allocation : ℕ → ℕ → Allocation
    allocation b n = record { lane = lane; owner = owner; block = b; marked = n }

pub planned : (left old : List Action) (a b : Allocation) → left ≡ old ++ plan_of (allocation_parts a) → old ≡ [] → a ≡ b → left ≡ plan_of (allocation_parts b)
planned left old a b pushed empty same = pushed ∙ ap (λ (xs : List Action). xs ++ plan_of (allocation_parts a)) empty ∙ ap (λ (x : Allocation). plan_of (allocation_parts x)) same

pub block-same : (p q s t w v : ℕ) → p ≡ q → s ≡ t → w ≡ v → 512 * p + 8 + s * w ≡ 512 * q + 8 + t * v
block-same p q s t w v x y z = ap (λ (n : ℕ). 512 * n + 8 + s * w) x ∙ ap (λ (n : ℕ). 512 * q + 8 + n * w) y ∙ ap (λ (n : ℕ). 512 * q + 8 + t * n) z
