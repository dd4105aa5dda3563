use Rattle.std.proofs.Common.{◌≡◌, take}
use Rattle.test_ground.specs.Changed.{with_words}
use Rattle.test_ground.proofs.images.set_words.Given as goal

abbrev pub invariant-loop-place : goal.invariant-loop-place
invariant-loop-place l = l.words ≡ with_words (take l.place-index l.changes) l.fn.words
