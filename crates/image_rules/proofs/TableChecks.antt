-- The checks of table slots, and what they say of a table's block.
use Rattle.std.proofs.Common.{◌≡◌, ℕ, ◌%◌, ◌<◌, ◌≤◌, Bool, true, false, cond, ltb, List, [], length, get_or, refl, sym, ◌∙◌, ap}
use Rattle.std.specs.Prelude.{◌↔◌, Option, None, Some, IsNone, IsSome}
use Rattle.std.specs.Option.{is_some}
use Rattle.std.proofs.lemmas.Bool.{both_ways, cond-true, cond-false, le-ltb, lt-ltb}
use Rattle.image_layout.specs.Fixed.{table_slot_at}
use Rattle.image_layout.specs.Places.{place_in}
use Rattle.image_layout.specs.Tables.{table_block, table_count}
use Rattle.image_layout.specs.Checks.{Check, check, Keeps, first_failing}
use Rattle.image_layout.specs.EntryRules.{extension_checks, is_table_slot, is_table_pointer, table_slot_checks, table_slot_rule}
use Rattle.image_layout.proofs.Faults.{fails, first_failing-none, passes}
use Rattle.image_layout.proofs.TableSlots.{pointer_parts, slot_pointer, table_in_image}
use Rattle.image_rules.specs.Parts.{IsTableBlock, IsTableHead}
use Rattle.image_rules.proofs.Columns.{each_extension}
use Rattle.image_rules.proofs.Firsts.{flat_found, flat_none, flat_part, none-head}

-- a place was found where the test holds
pub pointed_some : (found : Option ℕ) (b : Bool) → (IsNone found ↔ (b ≡ false)) → b ≡ true → IsSome found
pointed_some None b both holds = absurd (both_ways b (both.0 refl) holds)
pointed_some (Some p) b both holds = refl

module _ (words : List ℕ) where
  -- ── one table ──

  module _ (table : ℕ) where
    abbrev slot_check : Check
    slot_check = check (table_slot_at table) (is_table_slot words table)

    abbrev of_extensions : List Check
    of_extensions = extension_checks words (table_block words table)

    abbrev behind_slot : List Check
    behind_slot = cond (ltb table (table_count words)) of_extensions []

    pub slot_fails : (slot : ℕ) → slot ≡ table_slot_at table → is_table_slot words table ≡ false → Some slot ≡ first_failing (table_slot_checks words table)
    slot_fails slot at miss = ap (λ (p : ℕ). Some p) at ∙ sym (fails slot_check behind_slot miss)

    pub no_table : is_table_slot words table ≡ true → table_count words ≤ table → None ≡ first_failing (table_slot_checks words table)
    no_table holds le = sym (passes slot_check behind_slot holds ∙ ap first_failing (cond-false (ltb table (table_count words)) of_extensions [] (le-ltb table (table_count words) le)))

    then_behind : is_table_slot words table ≡ true → table < table_count words → first_failing (table_slot_checks words table) ≡ first_failing of_extensions
    then_behind holds lt = passes slot_check behind_slot holds ∙ ap first_failing (cond-true (ltb table (table_count words)) of_extensions [] (lt-ltb table (table_count words) lt))

    pub then_extensions : (block : ℕ) (found : Option ℕ) → is_table_slot words table ≡ true → table < table_count words → block ≡ table_block words table → found ≡ first_failing (extension_checks words block)
        → found ≡ first_failing (table_slot_checks words table)
    then_extensions block found holds lt at here = here ∙ ap (λ (b : ℕ). first_failing (extension_checks words b)) at ∙ sym (then_behind holds lt)

    pub names_table : is_table_slot words table ≡ true → table < table_count words → is_table_pointer words (get_or words (table_slot_at table) 0) ≡ true
    names_table holds lt = sym (cond-true (ltb table (table_count words)) (is_table_pointer words (get_or words (table_slot_at table) 0)) _ (lt-ltb table (table_count words) lt)) ∙ holds

  -- ── all of them ──

  abbrev pub SlotsBelow : ℕ → Type 0
  SlotsBelow k = (x : ℕ) → x < k → first_failing (table_slot_checks words x) ≡ None

  pub slots_none : SlotsBelow 32 → None ≡ first_failing (table_slot_rule words)
  unfolding table_slot_rule
  slots_none each = sym (flat_none (table_slot_checks words) 32 each)

  pub slots_found : (k : ℕ) (found : Option ℕ) → k < 32 → SlotsBelow k → found ≡ first_failing (table_slot_checks words k) → is_some found ≡ true → found ≡ first_failing (table_slot_rule words)
  unfolding table_slot_rule
  slots_found k found lt each here some = flat_found (table_slot_checks words) 32 k found lt each here some

  -- ── what the rule says of a block ──

  pub is_head : (word : ℕ) → 32768 ≤ length words → length words % 32768 ≡ 0 → is_table_pointer words word ≡ true → IsTableHead words (place_in word)
  is_head word some whole pointed =
      let points = pointer_parts words word pointed in
      record { fixed = some; some = points.least; inner = points.inner; most = points.most; within = table_in_image words word whole points }

  kept_extensions : Keeps words table_slot_rule → (table : ℕ) → table < 32 → table < table_count words → first_failing (extension_checks words (table_block words table)) ≡ None
  unfolding table_slot_rule
  kept_extensions keeps table lt published =
      let each = flat_part (table_slot_checks words) 32 table lt (first_failing-none (table_slot_rule words) keeps.checks) in
      ap first_failing (sym (cond-true (ltb table (table_count words)) (extension_checks words (table_block words table)) [] (lt-ltb table (table_count words) published)))
      ∙ (none-head (slot_check table) (behind_slot table) each).1

  pub is_block : Keeps words table_slot_rule → (table : ℕ) → table < 32 → table < table_count words → 32768 ≤ length words → length words % 32768 ≡ 0 → IsTableBlock words (table_block words table)
  is_block keeps table lt published some whole =
      let head = is_head (get_or words (table_slot_at table) 0) some whole (slot_pointer words keeps table lt published) in
      record {
        fixed = some;
        some = head.some;
        inner = head.inner;
        most = head.most;
        within = head.within;
        extensions = each_extension words (table_block words table) whole (kept_extensions keeps table lt published);
      }
