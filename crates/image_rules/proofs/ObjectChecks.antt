-- The checks of transaction objects.
use Rattle.std.proofs.Common.{◌≡◌, ℕ, ◌+◌, ◌-◌, ◌^◌, ◌<◌, ◌≤◌, true, false, leb, min, List, ◌∷◌, get_or, sym, ◌∙◌, ap, add-one}
use Rattle.std.specs.Prelude.{Option, None, Some}
use Rattle.std.specs.Option.{is_some}
use Rattle.std.proofs.lemmas.Bool.{le-leb, lt-leb}
use Rattle.image_layout.specs.Fixed.{state_at, commit_word_at, ready_at, last_at}
use Rattle.image_layout.specs.Objects.{segment_pointer_at, segment_of, ready_count}
use Rattle.image_layout.specs.Checks.{Check, check, first_failing}
use Rattle.image_layout.specs.EntryRules.{object_rule, objects_rule}
use Rattle.image_layout.proofs.Faults.{passes, fails}
use Rattle.image_rules.specs.Parts.{segment_checks}
use Rattle.image_rules.proofs.Firsts.{flat_none, flat_found}

module _ (words : List ℕ) (object : ℕ) where
  pub next_pointer : (k : ℕ) → segment_pointer_at words object (k + 1) ≡ segment_of words object k
  next_pointer k = ap (segment_pointer_at words object) (add-one k)

  -- ── a whole object ──

  abbrev state_check : Check
  state_check = check (state_at object) (leb (get_or words (state_at object) 0) 1)

  abbrev commit_check : Check
  commit_check = check (commit_word_at object) (leb (get_or words (commit_word_at object) 0) (min (get_or words last_at 0 + 1) (2 ^ 40 - 1)))

  abbrev ready_check : Check
  ready_check = check (ready_at object) (leb (get_or words (ready_at object) 0) 32)

  abbrev from_ready : List Check
  from_ready = ready_check ∷ segment_checks words object (ready_count words object)

  bound_fails : (at place bound : ℕ) → at ≡ place → bound < get_or words at 0 → leb (get_or words place 0) bound ≡ false
  bound_fails at place bound is above = ap (λ (p : ℕ). leb (get_or words p 0) bound) (sym is) ∙ lt-leb (get_or words at 0) bound above

  bound_holds : (at place bound : ℕ) → at ≡ place → get_or words at 0 ≤ bound → leb (get_or words place 0) bound ≡ true
  bound_holds at place bound is under = ap (λ (p : ℕ). leb (get_or words p 0) bound) (sym is) ∙ le-leb (get_or words at 0) bound under

  abbrev next : ℕ
  next = min (get_or words last_at 0 + 1) (2 ^ 40 - 1)

  pub state_fails : (state : ℕ) → state ≡ state_at object → 1 < get_or words state 0 → Some state ≡ first_failing (object_rule object words)
  unfolding object_rule
  state_fails state at above = ap (λ (p : ℕ). Some p) at ∙ sym (fails state_check (commit_check ∷ from_ready) (bound_fails state (state_at object) 1 at above))

  state_passes : (state : ℕ) → state ≡ state_at object → get_or words state 0 ≤ 1 → first_failing (object_rule object words) ≡ first_failing (commit_check ∷ from_ready)
  unfolding object_rule
  state_passes state at under = passes state_check (commit_check ∷ from_ready) (bound_holds state (state_at object) 1 at under)

  pub commit_fails : (state commit most : ℕ) → state ≡ state_at object → commit ≡ commit_word_at object → most ≡ min (get_or words last_at 0 + 1) (2 ^ 40 - 1)
      → get_or words state 0 ≤ 1 → most < get_or words commit 0 → Some commit ≡ first_failing (object_rule object words)
  commit_fails state commit most state_is commit_is most_is idle above =
      ap (λ (p : ℕ). Some p) commit_is
      ∙ sym (state_passes state state_is idle ∙ fails commit_check from_ready (ap (leb (get_or words (commit_word_at object) 0)) (sym most_is) ∙ bound_fails commit (commit_word_at object) most commit_is above))

  commit_passes : (state commit most : ℕ) → state ≡ state_at object → commit ≡ commit_word_at object → most ≡ min (get_or words last_at 0 + 1) (2 ^ 40 - 1)
      → get_or words state 0 ≤ 1 → get_or words commit 0 ≤ most → first_failing (object_rule object words) ≡ first_failing from_ready
  commit_passes state commit most state_is commit_is most_is idle under =
      state_passes state state_is idle ∙ passes commit_check from_ready (ap (leb (get_or words (commit_word_at object) 0)) (sym most_is) ∙ bound_holds commit (commit_word_at object) most commit_is under)

  pub ready_fails : (state commit most ready : ℕ) → state ≡ state_at object → commit ≡ commit_word_at object → most ≡ min (get_or words last_at 0 + 1) (2 ^ 40 - 1) → ready ≡ ready_at object
      → get_or words state 0 ≤ 1 → get_or words commit 0 ≤ most → 32 < get_or words ready 0 → Some ready ≡ first_failing (object_rule object words)
  ready_fails state commit most ready state_is commit_is most_is ready_is idle under above =
      ap (λ (p : ℕ). Some p) ready_is
      ∙ sym (commit_passes state commit most state_is commit_is most_is idle under ∙ fails ready_check (segment_checks words object (ready_count words object)) (bound_fails ready (ready_at object) 32 ready_is above))

  pub ready_passes : (state commit most ready : ℕ) → state ≡ state_at object → commit ≡ commit_word_at object → most ≡ min (get_or words last_at 0 + 1) (2 ^ 40 - 1) → ready ≡ ready_at object
      → get_or words state 0 ≤ 1 → get_or words commit 0 ≤ most → get_or words ready 0 ≤ 32 → first_failing (segment_checks words object (get_or words ready 0)) ≡ first_failing (object_rule object words)
  ready_passes state commit most ready state_is commit_is most_is ready_is idle under few =
      ap (λ (p : ℕ). first_failing (segment_checks words object (get_or words p 0))) ready_is
      ∙ sym (commit_passes state commit most state_is commit_is most_is idle under ∙ passes ready_check (segment_checks words object (ready_count words object)) (bound_holds ready (ready_at object) 32 ready_is few))

module _ (words : List ℕ) where
  abbrev pub ObjectsBelow : ℕ → Type 0
  ObjectsBelow k = (x : ℕ) → x < k → first_failing (object_rule x words) ≡ None

  abbrev object_checks : ℕ → List Check
  object_checks object = object_rule object words

  pub objects_found : (k : ℕ) (found : Option ℕ) → k < 16 → ObjectsBelow k → found ≡ first_failing (object_rule k words) → is_some found ≡ true → found ≡ first_failing (objects_rule words)
  unfolding objects_rule
  objects_found k found lt each here some = flat_found object_checks 16 k found lt each here some

  pub objects_none : ObjectsBelow 16 → None ≡ first_failing (objects_rule words)
  unfolding objects_rule
  objects_none each = sym (flat_none object_checks 16 each)
