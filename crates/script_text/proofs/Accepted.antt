-- Lines that are accepted, from the first on.
use Rattle.std.proofs.Common.{◌≡◌, ℕ, ◌+◌, false, true, List, [], ◌∷◌, ◌++◌, length, refl, ap, sym, ◌∙◌, inl, inr, arith, append_assoc}
use Rattle.std.specs.Prelude.{Result, Ok, Err}
use Rattle.std.specs.Str.Lines.{lines}
use Rattle.std.proofs.lemmas.Bool.{cases_Bool}
use Rattle.script_text.specs.declared.script.Line.{Line}
use Rattle.script_text.specs.Words.{is_passed_over}
use Rattle.script_text.specs.Reading.{BeginsStatement, MayLackMemory, go_on, read_after, script_after}

-- of these texts some are read, to these lines, and these are left
pub record IsAcceptedFront (texts : List (List ℕ)) (before : List Line) (rest : List (List ℕ)) : Type 0 where
  pub front : List (List ℕ)
  pub lines_are : texts ≡ front ++ rest
  pub accepted : script_after [] 1 front ≡ Ok before

-- the reading of more lines goes on from the lines before them
by-read : (front rest : List (List ℕ)) (line : List ℕ) (earlier before : List Line) (first : ℕ)
    → ((others : List Line) → script_after others (first + 1) front ≡ Ok before
    → script_after others (first + 1) (front ++ rest) ≡ script_after before (first + 1 + length front) rest)
    → (read : Result Line ℕ) → go_on first read (λ said. script_after (earlier ++ said ∷ []) (first + 1) front) ≡ Ok before
    → go_on first read (λ said. script_after (earlier ++ said ∷ []) (first + 1) (front ++ rest)) ≡ script_after before (first + 1 + length front) rest
by-read front rest line earlier before first go (Err rule) is = absurd cc
by-read front rest line earlier before first go (Ok said) is = go (earlier ++ said ∷ []) is

goes-on : (front rest : List (List ℕ)) (earlier before : List Line) (first : ℕ) → script_after earlier first front ≡ Ok before
    → script_after earlier first (front ++ rest) ≡ script_after before (first + length front) rest
goes-on [] rest earlier before first accepted =
    let same : earlier ≡ before = cc in
    let number : first ≡ first + 0 = omega arith in
    rw same (ap (λ (next : ℕ). script_after before next rest) number)
goes-on (line ∷ front) rest earlier before first accepted =
    let number : first + 1 + length front ≡ first + length (line ∷ front) = omega arith in
    elim (cases_Bool (is_passed_over line)) [
      | inl passed ↦ rw (passed, ← number) (goes-on front rest earlier before (first + 1) (rw passed at accepted))
      | inr looked ↦
          rw (looked, ← number)
          (by-read front rest line earlier before first (λ others. goes-on front rest others before (first + 1)) (read_after earlier line) (rw looked at accepted))
    ]

pub accepted-nothing : (texts : List (List ℕ)) (before : List Line) → before ≡ [] → IsAcceptedFront texts before texts
accepted-nothing texts before is = record { front = []; lines_are = refl; accepted = ap Ok (sym is) }

-- a line that is passed over
pub accepted-passed : (texts : List (List ℕ)) (before : List Line) (rest : List (List ℕ)) (line : List ℕ) (behind : List (List ℕ))
    → IsAcceptedFront texts before rest → rest ≡ line ∷ behind → is_passed_over line ≡ true → IsAcceptedFront texts before behind
accepted-passed texts before rest line behind is begins passed = record {
  front = is.front ++ line ∷ [];
  lines_are = is.lines_are ∙ ap (λ (rest : List (List ℕ)). is.front ++ rest) begins ∙ sym (append_assoc is.front (line ∷ []) behind);
  accepted = goes-on is.front (line ∷ []) [] before 1 is.accepted ∙ rw passed refl;
}

-- a line that is read
pub accepted-more : (texts : List (List ℕ)) (before : List Line) (rest : List (List ℕ)) (line : List ℕ) (behind : List (List ℕ)) (said : Line) (after : List Line)
    → IsAcceptedFront texts before rest → rest ≡ line ∷ behind → is_passed_over line ≡ false → read_after before line ≡ Ok said
    → after ≡ before ++ said ∷ [] → IsAcceptedFront texts after behind
accepted-more texts before rest line behind said after is begins looked read more = record {
  front = is.front ++ line ∷ [];
  lines_are = is.lines_are ∙ ap (λ (rest : List (List ℕ)). is.front ++ rest) begins ∙ sym (append_assoc is.front (line ∷ []) behind);
  accepted = goes-on is.front (line ∷ []) [] before 1 is.accepted ∙ rw (looked, read, more) refl;
}

-- where memory may run out
pub may-lack : (bytes : List ℕ) (before : List Line) (rest : List (List ℕ)) (line : List ℕ) (behind : List (List ℕ))
    → IsAcceptedFront (lines bytes) before rest → rest ≡ line ∷ behind → is_passed_over line ≡ false → BeginsStatement line → MayLackMemory bytes
may-lack bytes before rest line behind is begins looked opening = record {
  front = is.front;
  line = line;
  rest = behind;
  before = before;
  lines_are = is.lines_are ∙ ap (λ (rest : List (List ℕ)). is.front ++ rest) begins;
  accepted = is.accepted;
  looked_at = looked;
  begins = opening;
}
