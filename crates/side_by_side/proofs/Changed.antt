-- The law of a change gives the law of its plan beside others.
use Rattle.std.proofs.Common.{◌≡◌, ℕ, ◌-◌, ◌<◌, Bool, List, [], ◌∷◌, length, subst, sym, arith}
use Rattle.std.proofs.lemmas.List.{length-append}
use Rattle.pm_model.specs.Plans.{Part, IsPlan, EachCut, EachMoment, words_after, finished, plan_of, part_actions}
use Rattle.pm_model.specs.Changes.{Change, HoldsOnWords}
use Rattle.pm_model.proofs.PlanLaw.{moments-each_cut}
use Rattle.side_by_side.specs.SideBySide.{SurvivesBeside}
use Rattle.side_by_side.specs.Beside.{RestsOn, CutsGive, EndGives}

-- what holds at each moment while actions are left, and what holds once none is
moments-ending : (A : ℕ → List ℕ → Type 0) (B : List ℕ → Type 0) (Q : ℕ → List ℕ → Type 0) (parts : List Part) (words : List ℕ)
    → ((k : ℕ) (image : List ℕ) → 0 < k → A k image → Q k image) → ((image : List ℕ) → B image → Q 0 image)
    → EachMoment A parts words → B (finished parts words) → EachMoment Q parts words
moments-ending A B Q [] words some none each b = none words b
moments-ending A B Q (part ∷ parts) words some none each b = (
  λ m image lt between. some (length (plan_of (part ∷ parts)) - m) image (omega (arith, lt, length-append (part_actions part) (plan_of parts))) (each.0 m image lt between),
  moments-ending A B Q parts (words_after part words) some none each.1 b,
)

pub survives_beside : (c : Change) (P Q : (ℕ → ℕ) → List ℕ → Type 0) (session : ℕ) (places : ℕ → Bool) (base : List ℕ) → HoldsOnWords c → c.asks base
    → RestsOn c session P places base → CutsGive c session P Q base → EndGives c session P Q base → SurvivesBeside session P Q places base (c.parts base)
survives_beside c P Q session places base holds asked rests gives ends left words size same p =
    let reads = rests left words size same p in
    let stable = holds.stable base words reads asked in
    let plan : IsPlan (length words) (c.parts base) = subst (λ (parts : List Part). IsPlan (length words) parts) stable.1 (holds.plan words stable.0) in
    let cuts : EachCut (c.shows words) (c.parts base) words = subst (λ (parts : List Part). EachCut (c.shows words) parts words) stable.1 (holds.cuts words stable.0) in
    let end : c.ends words (finished (c.parts base) words) = subst (λ (parts : List Part). c.ends words (finished parts words)) stable.1 (holds.end words stable.0) in
    moments-ending (λ k. c.shows words) (c.ends words) (λ k image. k ≡ left session → Q left image) (c.parts base) words
    (λ k image lt shows is. gives left words image reads p (subst (λ (n : ℕ). 0 < n) is lt) shows)
    (λ image ended is. ends left words image reads p (sym is) ended)
    (moments-each_cut (c.shows words) (c.parts base) words plan cuts) end
