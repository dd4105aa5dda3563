-- What holds of the bytes of a window holds of them where they stand.
use Rattle.std.proofs.Common.{◌≡◌, ◌⊎◌, ℕ, zero, suc, ◌+◌, ◌-◌, ◌<◌, ◌≤◌, List, length, get_or, take, drop, ap, ◌∙◌, subst, inl, inr, arith}
use Rattle.std.proofs.lemmas.List.{get_or-drop, get_or-take, length-take}

below_or_not : (a b : ℕ) → (a < b) ⊎ (b ≤ a)
below_or_not zero zero = inr (omega arith)
below_or_not zero (suc b) = inl (omega arith)
below_or_not (suc a) zero = inr (omega arith)
below_or_not (suc a) (suc b) = elim (below_or_not a b) [
  | inl below ↦ inl (omega arith)
  | inr above ↦ inr (omega arith)
]

-- bytes that pass stand up to the window, and so many more within it
pub passes-more : (Passes : ℕ → Type 0) (bytes : List ℕ) (start end more : ℕ) → more ≤ length (take (end - start) (drop start bytes))
    → ((k : ℕ) → k < start → Passes (get_or bytes k 0))
    → ((k : ℕ) → k < more → Passes (get_or (take (end - start) (drop start bytes)) k 0))
    → (k : ℕ) → k < start + more → Passes (get_or bytes k 0)
passes-more Passes bytes start end more within before inside k below =
    elim (below_or_not k start) [
      | inl early ↦ before k early
      | inr late ↦
          let short : k - start < end - start = omega (arith, within, length-take (end - start) (drop start bytes)) in
          let here : get_or (take (end - start) (drop start bytes)) (k - start) 0 ≡ get_or bytes k 0 =
          get_or-take (end - start) (drop start bytes) (k - start) 0 short ∙ get_or-drop start bytes (k - start) 0
          ∙ ap (λ (place : ℕ). get_or bytes place 0) (omega arith) in
          subst Passes here (inside (k - start) (omega arith))
    ]
