-- Plans that get part after part.
use Rattle.std.proofs.Common.{◌≡◌, ℕ, List, [], ◌∷◌, ◌++◌, sym, ◌∙◌, ap, ap₂}
use Rattle.std.proofs.lemmas.List.{append_assoc, append-nil}
use Rattle.std.proofs.lemmas.Grind.{flat_map-append}
use Rattle.pm_model.specs.declared.action.Action.{Action}
use Rattle.pm_model.specs.Plans.{Part, part_actions, plan_of, one_store}

-- the first part
pub pushed-first : (plan new : List Action) (part : Part) → new ≡ plan ++ part_actions part → new ≡ plan ++ plan_of (part ∷ [])
pushed-first plan new part is = is ∙ ap (λ (l : List Action). plan ++ l) (sym (append-nil (part_actions part)))

-- a part of one store more, whose place and value are known by other names
pub pushed-store : (plan old new : List Action) (parts : List Part) (place value at word : ℕ) → old ≡ plan ++ plan_of parts → new ≡ old ++ part_actions (one_store place value) → place ≡ at → value ≡ word
    → new ≡ plan ++ plan_of (parts ++ one_store at word ∷ [])
pushed-store plan old new parts place value at word so_far is place_is value_is =
    is ∙ ap (λ (l : List Action). l ++ part_actions (one_store place value)) so_far
    ∙ append_assoc plan (plan_of parts) (part_actions (one_store place value))
    ∙ ap₂ (λ (p v : ℕ). plan ++ (plan_of parts ++ part_actions (one_store p v))) place_is value_is
    ∙ ap (λ (l : List Action). plan ++ (plan_of parts ++ l)) (sym (append-nil (part_actions (one_store at word))))
    ∙ ap (λ (l : List Action). plan ++ l) (sym (flat_map-append part_actions parts (one_store at word ∷ [])))
