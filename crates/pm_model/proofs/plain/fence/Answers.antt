use Rattle.std.proofs.Common.{◌≡◌, ◌⊎◌, inl, inr, ⊎_elim, ℕ, ◌/◌, List, [], ◌∷◌, sym, subst, arith}
use Rattle.std.specs.Prelude.{Contains}
use Rattle.std.proofs.lemmas.Bool.{cases_eq}
use Rattle.std.proofs.lemmas.List.Elements.{at_from_Contains, Contains-append_right}
use Rattle.std.proofs.lemmas.Map.Made.{Contains-tail}
use Rattle.image_layout.proofs.Members.{Contains-here}
use Rattle.pm_model.proofs.Fences.{kept_unflushed}
use Rattle.pm_model.proofs.plain.fence.Goals as goal
use Rattle.pm_model.proofs.plain.fence.Goals.{then-len-capacity, else-len-capacity}

-- a line is on a list or not
listed-or-not : (lines : List ℕ) (line : ℕ) → Contains lines line ⊎ (Contains lines line → ⊥)
listed-or-not [] line = inr (λ has. let at = at_from_Contains [] line has in absurd (omega (arith, at.1)))
listed-or-not (first ∷ lines) line = ⊎_elim
    (λ (e : first ≡ line). inl (subst (Contains (first ∷ lines)) e (Contains-here first lines)))
    (λ ne. ⊎_elim (λ has. inl (Contains-append_right (first ∷ []) lines line has)) (λ none. inr (λ has. none (Contains-tail first lines line ne has))) (listed-or-not lines line))
    (cases_eq first line)

pub returns-clause-each : goal.returns-clause-each
returns-clause-each c = λ w. elim c.if-len-capacity.branch [
  | then-len-capacity b ↦ rw (b.durable-is, b.masks-is) (⊎_elim
      (λ fenced. fenced)
      (λ kept. ⊎_elim
      (λ has. let at = at_from_Contains b.deref.result.now (w / 8) (subst (λ (lines : List ℕ). Contains lines (w / 8)) (sym b.deref.ensures.value) has) in b.fence_lines.ensures.listed at.0 w at.1 (at.2 0))
      (λ none. kept_unflushed c.args.session c.args.cached.now c.args.durable.now c.args.masks.now b.fence_lines.new.durable b.fence_lines.new.masks w kept
      (c.requires.listed w (record { room = omega (arith, b.if-len-capacity.true); absent = none })))
      (listed-or-not c.args.lines.now.items (w / 8)))
      (b.fence_lines.ensures.each w))
  | else-len-capacity b ↦ rw (b.durable-is, b.masks-is) (b.fence_all.ensures w)
]
