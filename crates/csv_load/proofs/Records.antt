-- What a reader of the csv crate has read so far is the front of the records of the text.
use Rattle.std.proofs.Common.{◌≡◌, ℕ, zero, suc, ◌+◌, ◌-◌, ◌≤◌, List, [], ◌∷◌, ◌++◌, length, drop, refl, sym, ap, subst, ◌∙◌, inl, inr, arith}
use Rattle.std.specs.Prelude.{None, Some}
use Rattle.std.proofs.lemmas.Bool.{cases_Bool}
use Rattle.std.proofs.lemmas.List.{append-nil}
use Rattle.csv.specs.Machine.{Read, ends_at_end, field_after, fields_after, is_end, next_record, step}
use Rattle.csv.specs.Reading.{Reached, default_config, records, records_from}
use Rattle.csv.specs.declared.parser.Config.{Config}
use Rattle.csv.specs.declared.parser.State.{State}
use Rattle.csv.specs.declared.parser.State.TheVariants as st

-- fewer bytes are left after a record than before it
shorter : (cfg : Config) (s : State) (fields : List (List ℕ)) (field xs : List ℕ) (p : Read)
    → next_record cfg s fields field xs ≡ Some p → length p.2 ≤ length (drop 1 xs)
unfolding next_record
shorter cfg s fields field [] p e = elim (cases_Bool (ends_at_end s)) [
  | inl ends ↦
      let same : ◌≡◌ {A = Read} (fields ++ (field ∷ []), st.StartRecord, []) p = cc (rw ends at e) in
      subst (λ (r : Read). length r.2 ≤ 0) same (omega arith)
  | inr none ↦ cc (rw none at e)
]
shorter cfg s fields field (c ∷ rest) p e = elim (cases_Bool (is_end (step cfg s c).1)) [
  | inl ends ↦
      let same : ◌≡◌ {A = Read} (fields_after (step cfg s c).1 fields field, (step cfg s c).0, rest) p = cc (rw ends at e) in
      subst (λ (r : Read). length r.2 ≤ length rest) same (omega arith)
  | inr goes ↦
      let more = shorter cfg (step cfg s c).0 (fields_after (step cfg s c).1 fields field) (field_after (step cfg s c).1 c field) rest p (rw goes at e) in
      omega (arith, fewer rest)
]
  where
    fewer : (xs : List ℕ) → length (drop 1 xs) ≤ length xs
    fewer [] = omega arith
    fewer (x ∷ xs) = omega arith

-- after the record that the end of a text ends there is none
last : (cfg : Config) (s : State) (p q : Read) → next_record cfg s [] [] [] ≡ Some p → next_record cfg p.1 [] [] p.2 ≡ Some q → ⊥
unfolding next_record
last cfg s p q e f = elim (cases_Bool (ends_at_end s)) [
  | inl ends ↦
      let same : ◌≡◌ {A = Read} ([] ∷ [], st.StartRecord, []) p = cc (rw ends at e) in
      let none : None ≡ Some q = subst (λ (r : Read). next_record cfg r.1 [] [] r.2 ≡ Some q) (sym same) f in
      cc none
  | inr none ↦ cc (rw none at e)
]

-- each record but the last takes a byte
pub bounded : (cfg : Config) (s s2 : State) (xs ys : List ℕ) (rows : List (List (List ℕ))) → Reached cfg s xs rows s2 ys → length rows ≤ length xs + 1
unfolding Reached
bounded cfg s s2 xs ys [] h = omega arith
bounded cfg s s2 [] ys (r ∷ []) h = omega arith
bounded cfg s s2 [] ys (r ∷ next ∷ rs) h = absurd (last cfg s h.0 h.3.0 h.1 h.3.1)
bounded cfg s s2 (x ∷ xs) ys (r ∷ rs) h =
    let less : length h.0.2 ≤ length xs = shorter cfg s [] [] (x ∷ xs) h.0 h.1 in
    let more = bounded cfg h.0.1 s2 h.0.2 ys rs h.3 in
    omega arith

front : (cfg : Config) (n m : ℕ) (s s2 : State) (xs ys : List ℕ) (rows : List (List (List ℕ))) → n ≡ length rows + m → Reached cfg s xs rows s2 ys
    → records_from cfg n s xs ≡ rows ++ records_from cfg m s2 ys
unfolding Reached records_from
front cfg n m s s2 xs ys [] size h =
    let same : n ≡ m = omega arith in
    rw (same, h.0, h.1) refl
front cfg zero m s s2 xs ys (r ∷ rs) size h = absurd (omega arith)
front cfg (suc n) m s s2 xs ys (r ∷ rs) size h =
    rw (h.1, h.2) (ap (λ (t : List (List (List ℕ))). h.0.0 ∷ t) (front cfg n m h.0.1 s2 h.0.2 ys rs (omega arith) h.3))

-- the records that were read, and then others
pub records-front : (xs ys : List ℕ) (rows : List (List (List ℕ))) (s2 : State) → Reached default_config st.StartRecord xs rows s2 ys
    → (more : List (List (List ℕ))) × (records default_config xs ≡ rows ++ more)
records-front xs ys rows s2 h =
    let most = bounded default_config st.StartRecord s2 xs ys rows h in
    let m = length xs + 1 - length rows in
    let size : length xs + 1 ≡ length rows + m = omega arith in
    (records_from default_config m s2 ys, front default_config (length xs + 1) m st.StartRecord s2 xs ys rows size h)

nothing : (cfg : Config) (m : ℕ) (s : State) (ys : List ℕ) → next_record cfg s [] [] ys ≡ None → records_from cfg m s ys ≡ []
unfolding records_from
nothing cfg zero s ys none = refl
nothing cfg (suc m) s ys none = rw none refl

-- no other is left
pub records-end : (xs ys : List ℕ) (rows : List (List (List ℕ))) (s2 : State) → Reached default_config st.StartRecord xs rows s2 ys
    → next_record default_config s2 [] [] ys ≡ None → records default_config xs ≡ rows
records-end xs ys rows s2 h none =
    let most = bounded default_config st.StartRecord s2 xs ys rows h in
    let m = length xs + 1 - length rows in
    let size : length xs + 1 ≡ length rows + m = omega arith in
    front default_config (length xs + 1) m st.StartRecord s2 xs ys rows size h ∙ rw (nothing default_config m s2 ys none) (append-nil rows)
