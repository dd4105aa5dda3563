-- The slot of a table that was being created: the one at the table count.
use Rattle.std.proofs.Common.{◌≡◌, ◌≢◌, ⊎_elim, ℕ, ◌<◌, ◌≤◌, true, ◌||◌, cond, eqb, ltb, List, [], ◌∷◌, get_or, sym, ◌∙◌, ap, arith}
use Rattle.std.specs.Prelude.{IsTrue}
use Rattle.std.specs.List.{flat_map}
use Rattle.std.proofs.lemmas.Bool.{eqb-true, eq-eqb, ne_eqb, lt-ltb, le-ltb, or_cases, cond-true, cond-false}
use Rattle.std.proofs.lemmas.List.{append-nil}
use Rattle.std.proofs.lemmas.List.Elements.{All-contains}
use Rattle.image_layout.specs.Fixed.{table_slot_at}
use Rattle.image_layout.specs.Places.{below}
use Rattle.pm_model.specs.Needed.{needed_parts}
use Rattle.image_layout.specs.Blocks.{is_block_pointer}
use Rattle.image_layout.specs.Tables.{table_count}
use Rattle.image_layout.specs.Owners.{next_table_slots}
use Rattle.image_layout.specs.Checks.{Check, check, Keeps}
use Rattle.image_layout.specs.EntryRules.{table_slot_checks, table_slot_rule, is_table_slot, is_table_pointer}
use Rattle.image_layout.proofs.Members.{below-Contains, Contains-here, flat_map-Contains}
use Rattle.shown_state.specs.Mending.{free_block, free_table, slot_mending}
use Rattle.pmem_recover.specs.Steps.{step_parts}
use Rattle.pmem_recover.proofs.Steps.{step-by}

count_is : (words : List ℕ) (tables at : ℕ) → at ≡ 515 → tables ≡ get_or words at 0 → tables ≡ table_count words
count_is words tables at here is = is ∙ ap (λ (k : ℕ). get_or words k 0) here

pub no-slot : (words : List ℕ) (tables at : ℕ) → at ≡ 515 → tables ≡ get_or words at 0 → 32 ≤ tables → step_parts (λ number. slot_mending) words 0 ≡ []
no-slot words tables at here is le =
    step-by (λ number. slot_mending) words 0 [] (ap (λ (slots : List ℕ). flat_map (free_table words) slots)
    (cond-false (ltb (table_count words) 32) (table_slot_at (table_count words) ∷ []) [] (le-ltb (table_count words) 32 (omega (arith, le, count_is words tables at here is)))))

module _ (words : List ℕ) (tables at : ℕ) (here : at ≡ 515) (is : tables ≡ get_or words at 0) (lt : tables < 32) (slot : ℕ) (slot_is : slot ≡ table_slot_at tables) where
  slots_are : next_table_slots words ≡ slot ∷ []
  slots_are =
      let count = count_is words tables at here is in
      cond-true (ltb (table_count words) 32) (table_slot_at (table_count words) ∷ []) [] (lt-ltb (table_count words) 32 (omega (arith, lt, count)))
      ∙ ap (λ (n : ℕ). table_slot_at n ∷ []) (sym count) ∙ ap (λ (k : ℕ). k ∷ []) (sym slot_is)

  parts_are : slot_mending words ≡ free_table words slot
  parts_are = ap (flat_map (free_table words)) slots_are ∙ append-nil (free_table words slot)

  pub null-slot : get_or words slot 0 ≡ 0 → step_parts (λ number. slot_mending) words 0 ≡ []
  null-slot null = step-by (λ number. slot_mending) words 0 [] (parts_are ∙ cond-true (eqb (get_or words slot 0) 0) [] (free_block words slot) (eq-eqb (get_or words slot 0) 0 null))

  pub doomed-slot : get_or words slot 0 ≢ 0 → step_parts (λ number. slot_mending) words 0 ≡ needed_parts words (free_block words slot)
  doomed-slot some = step-by (λ number. slot_mending) words 0 (free_block words slot) (parts_are ∙ cond-false (eqb (get_or words slot 0) 0) [] (free_block words slot) (ne_eqb (get_or words slot 0) 0 some))

  slot_check : Keeps words table_slot_rule → is_table_slot words tables ≡ true
  unfolding table_slot_rule
  slot_check keeps = All-contains (λ (c : Check). IsTrue c.holds) (table_slot_rule words) (check (table_slot_at tables) (is_table_slot words tables)) keeps.checks
      (flat_map-Contains (table_slot_checks words) (below 32) tables (check (table_slot_at tables) (is_table_slot words tables)) (below-Contains 32 tables lt)
      (Contains-here (check (table_slot_at tables) (is_table_slot words tables)) _))

  -- what rule 9 says of it
  pub slot-pointer : Keeps words table_slot_rule → get_or words slot 0 ≢ 0 → is_block_pointer words (get_or words slot 0) ≡ true
  slot-pointer keeps some =
      let count = count_is words tables at here is in
      let word = get_or words (table_slot_at tables) 0 in
      let by_count : is_table_slot words tables ≡ (eqb word 0 || is_block_pointer words word) =
      cond-false (ltb tables (table_count words)) (is_table_pointer words word) (cond (eqb tables (table_count words)) (eqb word 0 || is_block_pointer words word) (eqb word 0)) (le-ltb tables (table_count words) (omega (arith, count)))
      ∙ cond-true (eqb tables (table_count words)) (eqb word 0 || is_block_pointer words word) (eqb word 0) (eq-eqb tables (table_count words) count) in
      ap (λ (k : ℕ). is_block_pointer words (get_or words k 0)) slot_is
      ∙ ⊎_elim (λ null. absurd (some (ap (λ (k : ℕ). get_or words k 0) slot_is ∙ eqb-true word 0 null))) (λ pointer. pointer)
      (or_cases (eqb word 0) (is_block_pointer words word) (sym by_count ∙ slot_check keeps))
