-- What holds at each moment of a plan.
use Rattle.std.proofs.Common.{◌≡◌, ℕ, ◌-◌, List, [], ◌∷◌, length, refl, arith}
use Rattle.std.proofs.lemmas.List.{length-append}
use Rattle.pm_model.specs.Plans.{Part, EachMoment, words_after, part_actions, plan_of, finished}

pub moments-each : (P Q : ℕ → List ℕ → Type 0) → ((k : ℕ) (image : List ℕ) → P k image → Q k image) → (parts : List Part) (words : List ℕ) → EachMoment P parts words → EachMoment Q parts words
moments-each P Q f [] words each = f 0 words each
moments-each P Q f (part ∷ parts) words each = (λ m image lt between. f (length (plan_of (part ∷ parts)) - m) image (each.0 m image lt between), moments-each P Q f parts (words_after part words) each.1)

pub moments-end : (parts : List Part) (words : List ℕ) → EachMoment (λ k image. k ≡ 0 → image ≡ finished parts words) parts words
moments-end [] words = λ _. refl
moments-end (part ∷ parts) words = (
  λ m image lt between none. absurd (omega (arith, lt, none, length-append (part_actions part) (plan_of parts))),
  moments-end parts (words_after part words),
)

pub moments-both : (P Q R : ℕ → List ℕ → Type 0) → ((k : ℕ) (image : List ℕ) → P k image → Q k image → R k image) → (parts : List Part) (words : List ℕ) → EachMoment P parts words → EachMoment Q parts words → EachMoment R parts words
moments-both P Q R f [] words one other = f 0 words one other
moments-both P Q R f (part ∷ parts) words one other =
    (λ m image lt between. f (length (plan_of (part ∷ parts)) - m) image (one.0 m image lt between) (other.0 m image lt between), moments-both P Q R f parts (words_after part words) one.1 other.1)
