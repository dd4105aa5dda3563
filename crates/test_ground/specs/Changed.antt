-- Images that are built word by word.
use Rattle.std.specs.Prelude.{ℕ, List, [], ◌∷◌, set}

-- the words with some of them set, one after the other; what stands past the end changes nothing
abbrev pub with_words : List (ℕ × ℕ) → List ℕ → List ℕ
with_words [] words = words
with_words (change ∷ changes) words = with_words changes (set words change.0 change.1)
