-- Where the words that say where structures stand are the same, keys have the same
-- texts.
use Rattle.std.proofs.Common.{◌≡◌, ℕ, true, List, subst}
use Rattle.std.specs.Prelude.{Contains}
use Rattle.image_layout.specs.Places.{place_in}
use Rattle.image_layout.specs.Tables.{all_columns, is_text}
use Rattle.image_layout.specs.Trees.{text_length, text_at}
use Rattle.shown_state.proofs.SameKeys.{SameKey}
use Rattle.opening_steps.proofs.Structure.{SamePlaces}
use Rattle.opening_steps.proofs.Tables.{length_same, bytes_same}
use Rattle.shown_state.proofs.SameLeaves.{IsKeyOf}

module _ (old new : List ℕ) where
  module _ (same : SamePlaces old new) (column : ℕ) (is : Contains (all_columns old) column) where
    pub key_text_same : (key : ℕ) → IsKeyOf old column key → SameKey old new (is_text old column) key
    key_text_same key known text = subst (λ (k : ℕ). text_at new (place_in k) ≡ text_at old (place_in k)) known.is (bytes_same old new same column known.code is text known.known)

    pub key_length_same : (key : ℕ) → IsKeyOf old column key → is_text old column ≡ true → text_length new (place_in key) ≡ text_length old (place_in key)
    key_length_same key known text = subst (λ (k : ℕ). text_length new (place_in k) ≡ text_length old (place_in k)) known.is (length_same old new same column known.code is text known.known)
