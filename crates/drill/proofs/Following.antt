-- What holds of the lines of a script.
use Rattle.std.proofs.Common.{◌≡◌, ℕ, zero, suc, ◌+◌, ◌<◌, ◌≤◌, Bool, true, false, List, [], ◌∷◌, ◌++◌, length, length-append, refl, sym, ap, ◌∙◌, inl, inr, arith, ◌⊎◌}
use Rattle.std.specs.Prelude.{◌%◌, not, All}
use Rattle.std.proofs.lemmas.List.Elements.{All-append}
use Rattle.mv_model.specs.declared.call.Call.{Call}
use Rattle.script_text.specs.declared.script.Line.{Line}
use Rattle.script_text.specs.declared.script.Line.TheVariants as line
use Rattle.script_text.specs.Script.{ordinal_after}
use Rattle.drill.specs.Draws.{draw, session_drawn}
use Rattle.drill.specs.Calls.{Drawn, creation, statement_drawn}
use Rattle.drill.specs.Script.{drafted, is_open, script_of}
use Rattle.drill.specs.Laws.{Follows, IsStatement, is_begin, is_creation}
use Rattle.drill.proofs.Choices.{by-choice}

-- a statement is a begin exactly where no transaction is open, and no creation
drawn-begins : (number : ℕ) (open_now : Bool) (i : ℕ) → is_begin (statement_drawn number open_now i).call ≡ not open_now
drawn-begins number false i = refl
drawn-begins number true i =
    by-choice (λ (drawn : Drawn). is_begin drawn.call ≡ false) number (draw number i % 16) (i + 1) refl refl refl refl refl refl refl refl refl

drawn-creates : (number : ℕ) (open_now : Bool) (i : ℕ) → is_creation (statement_drawn number open_now i).call ≡ false
drawn-creates number false i = refl
drawn-creates number true i =
    by-choice (λ (drawn : Drawn). is_creation drawn.call ≡ false) number (draw number i % 16) (i + 1) refl refl refl refl refl refl refl refl refl

only : (said : Line) → IsStatement said → All IsStatement (said ∷ [])
only said is zero held within = is
only said is (suc k) held within = absurd (omega arith)

-- a script is its creation and the statements
pub one-creation : (number statements : ℕ) → (said : List Line)
    × (script_of number statements ≡ line.Say 1 1 creation ∷ said) × (length said ≡ statements) × All IsStatement said
one-creation number zero = ([], refl, refl, λ k said within. absurd (omega arith))
one-creation number (suc statements) =
    let before = one-creation number statements in
    let draft = drafted number statements in
    let session = session_drawn draft.number draft.next in
    let drawn = statement_drawn draft.number (is_open draft.lines session) (draft.next + 1) in
    let said : Line = line.Say session (ordinal_after draft.lines session + 1) drawn.call in
    let is : IsStatement said = (omega arith, omega arith, drawn-creates draft.number (is_open draft.lines session) (draft.next + 1)) in (
      before.0 ++ said ∷ [],
      ap (λ (lines : List Line). lines ++ said ∷ []) before.1,
      length-append before.0 (said ∷ []) ∙ omega (arith, before.2),
      All-append IsStatement before.0 (said ∷ []) before.3 (only said is),
    )

no-room : {A : Type 0} (earlier later : List A) (said : A) → [] ≡ earlier ++ said ∷ later → ⊥
no-room [] later said none = let e : [] ≡ said ∷ later = none in cc
no-room (x ∷ earlier) later said none = let e : [] ≡ x ∷ (earlier ++ said ∷ later) = none in cc

-- the last element of a list stands where the list is cut, or behind it
cut-last : {A : Type 0} (front earlier later : List A) (last said : A) → front ++ last ∷ [] ≡ earlier ++ said ∷ later
    → ((front ≡ earlier) × (last ≡ said)) ⊎ ((rest : List A) × (front ≡ earlier ++ said ∷ rest))
cut-last [] [] later last said same = let e : last ∷ [] ≡ said ∷ later = same in inl (refl, cc)
cut-last {A = A} (x ∷ front) [] later last said same =
    let e : x ∷ (front ++ last ∷ []) ≡ said ∷ later = same in
    let first : x ≡ said = cc in
    inr (front, ap (λ (y : A). y ∷ front) first)
cut-last [] (x ∷ earlier) later last said same =
    absurd (no-room earlier later said (let e : last ∷ [] ≡ x ∷ (earlier ++ said ∷ later) = same in cc))
cut-last (x ∷ front) (y ∷ earlier) later last said same =
    let e : x ∷ (front ++ last ∷ []) ≡ y ∷ (earlier ++ said ∷ later) = same in
    let first : x ≡ y = cc in
    let rest : front ++ last ∷ [] ≡ earlier ++ said ∷ later = cc in
    elim (cut-last front earlier later last said rest) [
      | inl here ↦ inl (rw (first, here.0) refl, here.1)
      | inr there ↦ inr (there.0, rw (first, there.1) refl)
    ]

-- each line but the creation follows those before it
pub each-follows : (number statements : ℕ) (earlier later : List Line) (said : Line)
    → script_of number statements ≡ earlier ++ said ∷ later → 0 < length earlier → Follows earlier said
each-follows number zero earlier later said is some =
    absurd (let size : 1 ≡ length earlier + (length later + 1) = ap length is ∙ length-append earlier (said ∷ later) ∙ omega arith in omega arith)
each-follows number (suc statements) earlier later said is some =
    let draft = drafted number statements in
    let session = session_drawn draft.number draft.next in
    let drawn = statement_drawn draft.number (is_open draft.lines session) (draft.next + 1) in
    let last : Line = line.Say session (ordinal_after draft.lines session + 1) drawn.call in
    let follows : Follows draft.lines last = (refl, drawn-begins draft.number (is_open draft.lines session) (draft.next + 1)) in
    elim (cut-last draft.lines earlier later last said is) [
      | inl here ↦ rw (← here.0, ← here.1) follows
      | inr there ↦ each-follows number statements earlier there.0 said there.1 some
    ]
