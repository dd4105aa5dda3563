-- What the lines of a script tell of each session.
use Rattle.std.proofs.Common.{◌≡◌, ℕ, zero, suc, ◌+◌, ◌<◌, ◌≤◌, Bool, true, false, cond, eqb, List, [], ◌∷◌, ◌++◌, length, get_or, set, refl, ap, sym, ◌∙◌, subst, inl, inr, add-zero, arith}
use Rattle.std.specs.List.{count_by, flat_map, fold, list_all}
use Rattle.std.proofs.lemmas.Bool.Decides.{eqb_tells}
use Rattle.std.proofs.lemmas.Grind.{flat_map-append}
use Rattle.std.proofs.lemmas.List.{get_or-set_same, get_or-set_other}
use Rattle.std.proofs.lemmas.List.Sums.{fold-append}
use Rattle.mv_model.proofs.Totals.{count_by-append, count_by-cons}
use Rattle.mv_model.specs.declared.call.Call.{Call}
use Rattle.script_text.specs.declared.script.Line.{Line}
use Rattle.script_text.specs.declared.script.Line.TheVariants as line
use Rattle.script_text.specs.Script.{asked_by, is_asked_by, ordinal_after, statements_of}
use Rattle.drill.specs.Script.{is_open, open_after}
use Rattle.drill.specs.Tally.{IsTold}

-- one statement more is counted for its session, and for no other
pub ordinal-more : (lines : List Line) (session speaker ordinal : ℕ) (asked : Call)
    → ordinal_after (lines ++ line.Say speaker ordinal asked ∷ []) session ≡ ordinal_after lines session + cond (eqb speaker session) 1 0
ordinal-more lines session speaker ordinal asked =
    count_by-append (is_asked_by session) lines (line.Say speaker ordinal asked ∷ [])
    ∙ ap (λ (n : ℕ). ordinal_after lines session + n) (count_by-cons (is_asked_by session) (line.Say speaker ordinal asked) [] ∙ add-zero _)

-- it opens or closes its session's transaction, and no other
pub open-more : (lines : List Line) (session speaker ordinal : ℕ) (asked : Call)
    → is_open (lines ++ line.Say speaker ordinal asked ∷ []) session
    ≡ cond (eqb speaker session) (open_after (is_open lines session) asked) (is_open lines session)
open-more lines session speaker ordinal asked =
    ap (fold open_after false) (flat_map-append (asked_by session) lines (line.Say speaker ordinal asked ∷ []))
    ∙ fold-append open_after false (statements_of session lines) (statements_of session (line.Say speaker ordinal asked ∷ []))
    ∙ elim (eqb_tells speaker session) [
      | inl w ↦ rw w.0 refl
      | inr w ↦ rw w.0 refl
    ]

-- what is kept of the sessions goes along with the lines
pub told-more : (lines now : List Line) (ordinals : List ℕ) (open_now : List Bool) (speaker ordinal : ℕ) (opened : Bool) (asked : Call)
    → IsTold lines ordinals open_now → now ≡ lines ++ line.Say speaker ordinal asked ∷ []
    → ordinal ≡ get_or ordinals speaker 0 + 1 → opened ≡ open_after (get_or open_now speaker false) asked
    → speaker < 256 → speaker < length ordinals → speaker < length open_now
    → IsTold now (set ordinals speaker ordinal) (set open_now speaker opened)
told-more lines now ordinals open_now speaker ordinal opened asked told is_now is_ordinal is_opened small within inside =
    record {
      ordinal = λ session below.
          elim (eqb_tells speaker session) [
            | inl w ↦
                let P : ℕ → Type 0 = λ k. get_or (set ordinals speaker ordinal) k 0 ≡ ordinal in
                let here : get_or (set ordinals speaker ordinal) session 0 ≡ ordinal = subst P w.1 (get_or-set_same ordinals speaker ordinal 0 within) in
                let same : get_or ordinals speaker 0 ≡ get_or ordinals session 0 = ap (λ (k : ℕ). get_or ordinals k 0) w.1 in
                let had = told.ordinal session below in
                let count : ordinal_after now session ≡ ordinal_after lines session + 1 = rw (is_now) (ordinal-more lines session speaker ordinal asked ∙ rw w.0 refl) in
                omega (arith, here, same, had, count, is_ordinal)
            | inr w ↦
                let count : ordinal_after now session ≡ ordinal_after lines session + 0 = rw (is_now) (ordinal-more lines session speaker ordinal asked ∙ rw w.0 refl) in
                let other = get_or-set_other ordinals speaker session ordinal 0 (λ e. w.1 (sym e)) in
                let had = told.ordinal session below in
                omega (arith, other, had, count)
          ];
      is_open = λ session below.
          elim (eqb_tells speaker session) [
            | inl w ↦
                let P : ℕ → Type 0 = λ k. get_or (set open_now speaker opened) k false ≡ opened in
                let here : get_or (set open_now speaker opened) session false ≡ opened = subst P w.1 (get_or-set_same open_now speaker opened false inside) in
                let same : get_or open_now speaker false ≡ is_open lines session = ap (λ (k : ℕ). get_or open_now k false) w.1 ∙ told.is_open session below in
                let after : is_open now session ≡ open_after (is_open lines session) asked = rw (is_now) (open-more lines session speaker ordinal asked ∙ rw w.0 refl) in
                here ∙ is_opened ∙ ap (λ (before : Bool). open_after before asked) same ∙ sym after
            | inr w ↦
                let other = get_or-set_other open_now speaker session opened false (λ e. w.1 (sym e)) in
                let after : is_open now session ≡ is_open lines session = rw (is_now) (open-more lines session speaker ordinal asked ∙ rw w.0 refl) in
                other ∙ told.is_open session below ∙ sym after
          ];
    }

zeros : (numbers : List ℕ) → list_all (λ n. eqb n 0) numbers ≡ true → (k : ℕ) → get_or numbers k 0 ≡ 0
zeros [] all k = refl
zeros (n ∷ numbers) all zero =
    elim (eqb_tells n 0) [
      | inl w ↦ w.1
      | inr w ↦ absurd (let e : false ≡ true = rw w.0 at all in cc)
    ]
zeros (n ∷ numbers) all (suc k) =
    elim (eqb_tells n 0) [
      | inl w ↦ zeros numbers (rw w.0 at all) k
      | inr w ↦ absurd (let e : false ≡ true = rw w.0 at all in cc)
    ]

-- no line tells nothing
pub told-nothing : (lines : List Line) (ordinals : List ℕ) (open_now : List Bool) → lines ≡ [] → list_all (λ n. eqb n 0) ordinals ≡ true
    → list_all (λ (b : Bool). cond b false true) open_now ≡ true → IsTold lines ordinals open_now
told-nothing lines ordinals open_now none all shut = record {
  ordinal = λ session small. zeros ordinals all session ∙ sym (ap (λ (read : List Line). ordinal_after read session) none);
  is_open = λ session small. falses open_now shut session ∙ sym (ap (λ (read : List Line). is_open read session) none);
}
  where
    falses : (flags : List Bool) → list_all (λ (b : Bool). cond b false true) flags ≡ true → (k : ℕ) → get_or flags k false ≡ false
    falses [] all k = refl
    falses (false ∷ flags) all zero = refl
    falses (true ∷ flags) all k = absurd (let e : false ≡ true = all in cc)
    falses (false ∷ flags) all (suc k) = falses flags all k

-- a session says no more than all
pub ordinal-le : (lines : List Line) (session : ℕ) → ordinal_after lines session ≤ length lines
ordinal-le [] session = omega arith
ordinal-le (said ∷ lines) session =
    let rest = ordinal-le lines session in
    let one : cond (is_asked_by session said) 1 0 ≤ 1 = cond_le (is_asked_by session said) in
    omega (arith, count_by-cons (is_asked_by session) said lines, rest, one)
  where
    cond_le : (b : Bool) → cond b 1 0 ≤ 1
    cond_le true = omega arith
    cond_le false = omega arith
