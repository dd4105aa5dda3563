use Rattle.std.proofs.Common.{◌≡◌, ◌≢◌, ◌⊎◌, inl, inr, ℕ, ◌+◌, ◌-◌, false, true, get_or, sym, ◌∙◌, ap, arith}
use Rattle.std.specs.List.{range_with_len}
use Rattle.std.proofs.lemmas.Bool.{eq-eqb, not-true, not-false, both_ways}
use Rattle.image_layout.specs.Checks.{first_failing}
use Rattle.image_layout.specs.EntryRules.{entry_checks, is_entry}
use Rattle.image_rules.proofs.EntryChecks.{run_fails, run_goes}
use Rattle.image_rules.proofs.entry_rules.run_fault.Goals as goal
use Rattle.image_rules.proofs.entry_rules.run_fault.Goals.{then-before-eq0, else-before-eq0, else-word-ne0-via-then-word-ne0+else-not-is_entry, else-word-ne0-via-else-word-ne0}

pub returns-then-not-is_entry : goal.returns-then-not-is_entry
returns-then-not-is_entry c =
    let place : c.args.first.0 + c.from.result ≡ c.args.first.0 + c.loop-entry.entry = omega (arith, c.from.ensures) in
    let why : (c.loop-entry.before ≡ 0) ⊎ (is_entry c.args.words.now (get_or c.args.words.now (c.args.first.0 + c.from.result) 0) ≡ false) =
    elim c.if-before-eq0.branch [
      | then-before-eq0 w ↦ inl w.if-before-eq0.true
      | else-before-eq0 w ↦ inr (sym w.is_entry.ensures ∙ not-true w.is_entry.result (sym w.value-is ∙ c.if-not-is_entry.true))
    ] in
    run_fails c.args.words.now c.loop-entry.before (c.args.first.0 + c.from.result) (c.args.count - c.loop-entry.entry) (omega (arith, c.loop-entry-test.true)) c.if-word-ne0.true why
    ∙ ap (λ (p : ℕ). first_failing (entry_checks c.args.words.now c.loop-entry.before (range_with_len p (c.args.count - c.loop-entry.entry)))) place
    ∙ sym c.loop-entry.invariant

pub loop-entry-preserved : goal.loop-entry-preserved
loop-entry-preserved c =
    let place : c.args.first.0 + c.loop-entry.entry ≡ c.args.first.0 + c.from.result = omega (arith, c.from.ensures) in
    let holds : (get_or c.args.words.now (c.args.first.0 + c.from.result) 0 ≡ 0) ⊎ ((c.loop-entry.before ≢ 0) × (is_entry c.args.words.now (get_or c.args.words.now (c.args.first.0 + c.from.result) 0) ≡ true)) =
    elim c.else-word-ne0.branch [
      | else-word-ne0-via-then-word-ne0+else-not-is_entry w ↦
          elim w.if-before-eq0.branch [
            | then-before-eq0 v ↦ absurd (both_ways w.if-before-eq0.value w.if-not-is_entry.false (v.value-is ∙ eq-eqb c.loop-entry.before 0 v.if-before-eq0.true))
            | else-before-eq0 v ↦ inr (v.if-before-eq0.false, sym v.is_entry.ensures ∙ not-false v.is_entry.result (sym v.value-is ∙ w.if-not-is_entry.false))
          ]
      | else-word-ne0-via-else-word-ne0 w ↦ inl w.if-word-ne0.false
    ] in
    c.loop-entry.invariant
    ∙ ap (λ (p : ℕ). first_failing (entry_checks c.args.words.now c.loop-entry.before (range_with_len p (c.args.count - c.loop-entry.entry)))) place
    ∙ run_goes c.args.words.now c.loop-entry.before (c.args.first.0 + c.from.result) (c.args.count - c.loop-entry.entry) (c.args.count - (c.loop-entry.entry + 1)) (c.args.first.0 + (c.loop-entry.entry + 1))
    (omega (arith, c.loop-entry-test.true)) (omega (arith, c.from.ensures)) holds
