-- What is left to show of an image in which words of transactions changed: its rules of objects, and the rows of its tables.
use Rattle.std.proofs.Common.{◌≡◌, ℕ, ◌+◌, ◌<◌, true, List, get_or, refl, sym, ◌∙◌, ap, subst, arith}
use Rattle.std.specs.Prelude.{All, Contains}
use Rattle.std.proofs.lemmas.Bool.{both_ways}
use Rattle.std.proofs.lemmas.List.Elements.{All-contains}
use Rattle.image_layout.specs.Places.{below}
use Rattle.image_layout.specs.Records.{first_extension_at}
use Rattle.image_layout.specs.Checks.{Check, Keeps, Rule}
use Rattle.image_layout.specs.EntryRules.{entries_rule, last_rule, objects_rule}
use Rattle.image_layout.specs.Tables.{columns_of, is_first_version, since_of, table_block, table_blocks, table_count}
use Rattle.image_layout.proofs.Faults.{Holds}
use Rattle.image_layout.proofs.Members.{below-Contains, map-Contains}
use Rattle.image_layout.proofs.OwnersApart.{all_from}
use Rattle.shown_state.specs.Fits.{BeginsFirst, Fits, RowsFit}
use Rattle.shown_state.specs.OpeningParts.{IsImage}
use Rattle.shown_state.proofs.SameValueRules.{column_among}
use Rattle.opening_steps.proofs.Beside.{ChangesOnly, heap_rules, held, given_kept, lanes_kept, later_kept, logs, MayChange, owners_apart, owners_kept, places, table_slots}
use Rattle.opening_steps.proofs.ReadRules.{arrays_rule_same}
use Rattle.opening_steps.proofs.Structure.{of_table, same_prints, SamePlaces, same_tree}
use Rattle.opening_steps.proofs.Tables.{block_same, columns_same, count_same, since_same}
use Rattle.opening_steps.proofs.TreeRules.{code_rule_same, fingerprint_rule_same, order_rule_same, text_key_rule_same, text_rule_same, tree_rule_same}
use Rattle.opening_steps.proofs.ValueRules.{distinct_names_same, magic_same, names_kept, table_count_same, version_kept}
use Rattle.opening_steps.proofs.Versions.{VersionGoesOn, raised, same_version, second_is, version_is}

-- a rule with the same checks is kept
pub kept_by : (old new : List ℕ) (rule : Rule) → rule new ≡ rule old → Keeps old rule → Keeps new rule
kept_by old new rule same keeps = record { checks = subst (λ (checks : List Check). All Holds checks) (sym same) keeps.checks }

-- in version 1 nothing is read beside it
begins_first : (old new : List ℕ) → Fits old → SamePlaces old new → VersionGoesOn old new → is_first_version new ≡ true → (table : ℕ) → table < table_count old → BeginsFirst new table
begins_first old new fits same (raised one two) version table lt = absurd (both_ways (is_first_version new) (second_is new two) version)
begins_first old new fits same (same_version is) version table lt =
    let was = fits.first (sym (version_is old new is) ∙ version) table lt in
    let place = block_same old new same table lt in
    let columns : columns_of new (table_block new table) ≡ columns_of old (table_block old table) = ap (columns_of new) place ∙ columns_same old new same table lt in
    record {
      no_extension = ap (λ (b : ℕ). get_or new (first_extension_at b) 0) place ∙ same.each (table_block old table + 5) (of_table table 5 lt (omega arith) (λ e. omega (arith, e)) refl) ∙ was.no_extension;
      all_rows = subst (λ (cs : List ℕ). All (λ (column : ℕ). since_of new column ≡ 0) cs) (sym columns)
          (all_from (λ (column : ℕ). since_of new column ≡ 0) (columns_of old (table_block old table)) (λ column is.
          since_same old new same column (column_among old (table_block old table) column (block_among table lt) is)
          ∙ All-contains (λ (c : ℕ). since_of old c ≡ 0) (columns_of old (table_block old table)) column was.all_rows is));
    }
  where
    block_among : (table : ℕ) → table < table_count old → Contains (table_blocks old) (table_block old table)
    block_among table lt = map-Contains (table_block old) (below (table_count old)) table (below-Contains (table_count old) table lt)

-- what the words of transactions are to say
pub record TransactionsFit (old new : List ℕ) : Type 0 where
  pub last : Keeps new last_rule
  pub objects : Keeps new objects_rule
  pub entries : Keeps new entries_rule
  pub rows : (table : ℕ) → table < table_count old → RowsFit new table

pub still_fits : (old new : List ℕ) (changed : ℕ → Type 0) → IsImage old → Fits old → MayChange old changed → ChangesOnly changed old new → TransactionsFit old new → Fits new
still_fits old new changed image fits may only said =
    let same = places old new changed image fits may only in
    let tree = same_tree old new same in
    let heap = heap_rules old new changed image fits may only in
    let trees = fits.entry.trees in
    let arrays = fits.entry.arrays in
    let count = count_same old new same in
    record {
      entry = record {
        magic = kept_by old new _ (magic_same old new same) fits.entry.magic;
        version = version_kept old new same only.version fits.entry.version;
        last = said.last;
        table_count = kept_by old new _ (table_count_same old new same) fits.entry.table_count;
        reserved = heap.reserved;
        descriptors = heap.descriptors;
        bitmaps = heap.bitmaps;
        lanes = lanes_kept old new changed image fits may only;
        table_slots = table_slots old new changed image fits may only;
        arrays = kept_by old new _ (arrays_rule_same old new same) arrays;
        trees = kept_by old new _ (tree_rule_same old new same tree trees) trees;
        names = names_kept old new same only.version fits.first fits.entry.names;
        text_keys = kept_by old new _ (text_key_rule_same old new same tree trees arrays fits.codes) fits.entry.text_keys;
        objects = said.objects;
        entries = said.entries;
      };
      apart = owners_apart old new changed image fits may only;
      logs = logs old new changed image fits may only;
      held = held old new changed image fits may only;
      owners = owners_kept old new changed image fits may only;
      order = kept_by old new _ (order_rule_same old new same tree trees arrays fits.codes) fits.order;
      fingerprints = kept_by old new _ (fingerprint_rule_same old new same tree trees arrays fits.codes (same_prints old new same)) fits.fingerprints;
      codes = kept_by old new _ (code_rule_same old new same tree trees arrays fits.codes) fits.codes;
      texts = kept_by old new _ (text_rule_same old new same tree trees arrays fits.codes) fits.texts;
      later_slots = later_kept old new changed image fits may only;
      given_back = given_kept old new changed image fits may only;
      names = kept_by old new _ (distinct_names_same old new same) fits.names;
      rows = λ table lt. said.rows table (omega (arith, lt, count));
      first = λ version table lt. begins_first old new fits same only.version version table (omega (arith, lt, count));
    }
