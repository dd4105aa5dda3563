-- Words that are set one after the other.
use Rattle.std.proofs.Common.{◌≡◌, ℕ, List, [], ◌∷◌, ◌++◌, length, set, refl, ◌∙◌}
use Rattle.std.proofs.lemmas.List.{length-set}
use Rattle.test_ground.specs.Changed.{with_words}

pub with_words-append : (first second : List (ℕ × ℕ)) (words : List ℕ) → with_words (first ++ second) words ≡ with_words second (with_words first words)
with_words-append [] second words = refl
with_words-append (change ∷ first) second words = with_words-append first second (set words change.0 change.1)

pub length-with_words : (changes : List (ℕ × ℕ)) (words : List ℕ) → length (with_words changes words) ≡ length words
length-with_words [] words = refl
length-with_words (change ∷ changes) words = length-with_words changes (set words change.0 change.1) ∙ length-set words change.0 change.1
