use Rattle.std.proofs.Common.{◌≡◌, ℕ, ◌+◌, List, [], ◌∷◌, get_or, set, take, sym, ◌∙◌, ap}
use Rattle.std.proofs.lemmas.List.{take_more, set_past}
use Rattle.test_ground.specs.Changed.{with_words}
use Rattle.test_ground.proofs.Changed.{with_words-append}
use Rattle.test_ground.proofs.images.set_words.Goals as goal
use Rattle.test_ground.proofs.images.set_words.Goals.{then-place-words, else-place-words}

pub loop-place-preserved : goal.loop-place-preserved
loop-place-preserved c =
    let changes = c.args.changes.now in
    let index = c.loop-place.place-index in
    let old = c.args.words.now in
    let change = get_or changes index (0, 0) in
    let more : with_words (take (index + 1) changes) old ≡ set (with_words (take index changes) old) change.0 change.1 =
    ap (λ (l : List (ℕ × ℕ)). with_words l old) (take_more changes index (0, 0) c.loop-place-test.true) ∙ with_words-append (take index changes) (change ∷ []) old in
    let so_far = ap (λ (ws : List ℕ). set ws change.0 change.1) c.loop-place.invariant in
    elim c.if-place-words.branch [
      | then-place-words w ↦ w.words-is ∙ so_far ∙ sym more
      | else-place-words w ↦ w.words-is ∙ sym (set_past c.loop-place.words change.0 change.1 w.if-place-words.false) ∙ so_far ∙ sym more
    ]
