-- Where lanes, logs and slots are mended, they stay so where words change that say nothing of where structures stand.
use Rattle.std.proofs.Common.{◌≡◌, ⊎_elim, ℕ, ◌<◌, List, get_or, refl, ◌∙◌, subst, arith}
use Rattle.std.specs.Prelude.{All, Contains}
use Rattle.std.specs.List.{flat_map}
use Rattle.std.proofs.lemmas.List.{take_all}
use Rattle.std.proofs.lemmas.List.Elements.{All-contains, Contains-append_cases}
use Rattle.image_layout.specs.Fixed.{lane_op_at}
use Rattle.image_layout.specs.Records.{new_leaf_at, split_leaf_at}
use Rattle.image_layout.specs.Tables.{all_columns}
use Rattle.image_layout.specs.Owners.{next_table_slots, next_text_slots, unfinished_slots}
use Rattle.image_layout.proofs.Members.{Contains-flat_map}
use Rattle.shown_state.specs.Fits.{Fits}
use Rattle.shown_state.specs.OpeningParts.{IsImage}
use Rattle.shown_state.specs.StepLaws.{HaveNoNew}
use Rattle.shown_state.proofs.Ends.{all_few}
use Rattle.opening_steps.proofs.Beside.{ChangesOnly, MayChange, op_same, places, slot_kept}
use Rattle.opening_steps.proofs.Structure.{of_column}

module _ (old : List ℕ) (fits : Fits old) (clear : HaveNoNew 512 old) where
  pub lane_idle : (lane : ℕ) → lane < 16 → get_or old (lane_op_at lane) 0 ≡ 0
  lane_idle = clear.0.0

  pub column_logs : (column : ℕ) → Contains (all_columns old) column → (get_or old (split_leaf_at column) 0 ≡ 0) × (get_or old (new_leaf_at column) 0 ≡ 0)
  column_logs column is =
      let P : ℕ → Type 0 = λ c. (get_or old (split_leaf_at c) 0 ≡ 0) × (get_or old (new_leaf_at c) 0 ≡ 0) in
      let all : All P (all_columns old) = subst (All P) (take_all 512 (all_columns old) (all_few old fits)) clear.0.1 in
      All-contains P (all_columns old) column all is

  pub text_null : (column at : ℕ) → Contains (all_columns old) column → Contains (next_text_slots old column) at → get_or old at 0 ≡ 0
  text_null column at is next =
      let P : ℕ → Type 0 = λ c. All (λ a. get_or old a 0 ≡ 0) (next_text_slots old c) in
      let all : All P (all_columns old) = subst (All P) (take_all 512 (all_columns old) (all_few old fits)) clear.2 in
      All-contains (λ a. get_or old a 0 ≡ 0) (next_text_slots old column) at (All-contains P (all_columns old) column all is) next

  pub slot_null : (at : ℕ) → Contains (unfinished_slots old) at → get_or old at 0 ≡ 0
  slot_null at is = ⊎_elim
      (λ table. All-contains (λ a. get_or old a 0 ≡ 0) (next_table_slots old) at clear.1 table)
      (λ texts. let (column, among, here) = Contains-flat_map (next_text_slots old) (all_columns old) at texts in text_null column at among here)
      (Contains-append_cases (next_table_slots old) (flat_map (next_text_slots old) (all_columns old)) at is)

module _ (old new : List ℕ) (changed : ℕ → Type 0) (image : IsImage old) (fits : Fits old) (clear : HaveNoNew 512 old) (may : MayChange old changed) (only : ChangesOnly changed old new) where
  pub lanes_idle : (lane : ℕ) → lane < 16 → get_or new (lane_op_at lane) 0 ≡ 0
  lanes_idle lane lt = op_same old new changed image fits may only lane lt ∙ lane_idle old fits clear lane lt

  pub slot_zero : (at : ℕ) → Contains (unfinished_slots old) at → get_or new at 0 ≡ 0
  slot_zero at is = slot_kept old new changed image fits may only at is ∙ slot_null old fits clear at is

  pub logs_null : (column : ℕ) → Contains (all_columns old) column → (get_or new (split_leaf_at column) 0 ≡ 0) × (get_or new (new_leaf_at column) 0 ≡ 0)
  logs_null column is =
      let null = column_logs old fits clear column is in
      let same = places old new changed image fits may only in
      (same.each (split_leaf_at column) (of_column column 5 is (omega arith) refl) ∙ null.0, same.each (new_leaf_at column) (of_column column 6 is (omega arith) refl) ∙ null.1)
