-- Where the words that say where structures stand are the same, rows fit as they did if as much is used up, each stamp fits
-- still, and rows that a commit created have the stamps that they had.
use Rattle.std.proofs.Common.{◌≡◌, inl, inr, ⊎_elim, ℕ, ◌<◌, ◌≤◌, leb, List, get_or, ◌∙◌, ap, subst, arith}
use Rattle.std.specs.Prelude.{Contains}
use Rattle.std.proofs.lemmas.Bool.{le-leb, leb-true}
use Rattle.std.proofs.lemmas.List.Elements.{All-contains}
use Rattle.image_layout.specs.Places.{below}
use Rattle.image_layout.specs.Records.{codes_header, created_header, ended_header, high_at}
use Rattle.image_layout.specs.Arrays.{array_word, capacity, place_of}
use Rattle.image_layout.specs.Tables.{table_count, table_block, table_blocks, columns_of, columns_with, all_columns, since_of}
use Rattle.image_layout.specs.Objects.{last_commit}
use Rattle.image_layout.specs.Trees.{dictionary_length}
use Rattle.image_layout.specs.Checks.{Keeps}
use Rattle.image_layout.specs.EntryRules.{arrays_rule}
use Rattle.image_layout.proofs.Members.{below-Contains, Contains-filter, filter-Contains, map-Contains}
use Rattle.image_layout.proofs.OwnersApart.{all_from}
use Rattle.shown_state.specs.LogicalState.{next_row_of}
use Rattle.shown_state.specs.Fits.{IsUndecided, used_up, creator, ender, CreatorFits, IsEnded, EnderFits, HasValue, RowsFit}
use Rattle.shown_state.proofs.SameTables.{created_is, ended_is, codes_is}
use Rattle.opening_steps.proofs.Structure.{SamePlaces}
use Rattle.opening_steps.proofs.Tables.{block_same, columns_same, since_same, capacity_same, codes_same, place_same}
use Rattle.shown_state.proofs.SameValueRules.{column_among}

-- what rows ask of transactions
pub record RowsAlike (old new : List ℕ) (table : ℕ) : Type 0 where
  pub last : last_commit new ≡ last_commit old
  pub created_room : used_up old table ≤ capacity old (created_header (table_block old table)) → used_up new table ≤ capacity old (created_header (table_block old table))
  pub ended_room : used_up old table ≤ capacity old (ended_header (table_block old table)) → used_up new table ≤ capacity old (ended_header (table_block old table))
  pub next : next_row_of new table ≤ used_up new table
  pub high : get_or old (high_at (table_block old table)) 0 ≤ get_or new (high_at (table_block new table)) 0
  pub created : (row : ℕ) → row < capacity old (created_header (table_block old table)) → CreatorFits old table row → CreatorFits new table row
  pub ended : (row : ℕ) → (row < used_up old table → row < capacity old (created_header (table_block old table)))
      → row < capacity old (ended_header (table_block old table)) → EnderFits old table row → EnderFits new table row
  pub committed : (row : ℕ) → row < capacity old (created_header (table_block old table))
      → 1 ≤ creator new table row → creator new table row ≤ last_commit new → creator new table row ≡ creator old table row

-- all this is so where the stamps are the same, and no less is used up
pub record StampsSame (old new : List ℕ) (table : ℕ) : Type 0 where
  pub last : last_commit new ≡ last_commit old
  pub used : used_up old table ≤ used_up new table
  pub created_room : used_up old table ≤ capacity old (created_header (table_block old table)) → used_up new table ≤ capacity old (created_header (table_block old table))
  pub ended_room : used_up old table ≤ capacity old (ended_header (table_block old table)) → used_up new table ≤ capacity old (ended_header (table_block old table))
  pub next : next_row_of new table ≤ used_up new table
  pub high : get_or new (high_at (table_block new table)) 0 ≡ get_or old (high_at (table_block old table)) 0
  pub created : (row : ℕ) → row < capacity old (created_header (table_block old table)) → array_word new (created_header (table_block old table)) row ≡ array_word old (created_header (table_block old table)) row
  pub ended : (row : ℕ) → row < capacity old (ended_header (table_block old table)) → array_word new (ended_header (table_block old table)) row ≡ array_word old (ended_header (table_block old table)) row
  pub undecided : (kind row : ℕ) → IsUndecided old kind table row → IsUndecided new kind table row

module _ (old new : List ℕ) (same : SamePlaces old new) where
  module _ (table : ℕ) (lt : table < table_count old) where
    block_among : (table : ℕ) → table < table_count old → Contains (table_blocks old) (table_block old table)
    block_among table lt = map-Contains (table_block old) (below (table_count old)) table (below-Contains (table_count old) table lt)

    abbrev block : ℕ
    block = table_block old table

    module _ (arrays : Keeps old arrays_rule) where
      pub creator_at : (row : ℕ) → row < capacity old (created_header block) → creator new table row ≡ get_or new (place_of old (created_header block) row) 0
      creator_at row published =
          ap (λ (b : ℕ). array_word new (created_header b) row) (block_same old new same table lt)
          ∙ ap (λ (place : ℕ). get_or new place 0) (place_same old new same arrays (created_header block) row (created_is old table lt) published)

      pub ender_at : (row : ℕ) → row < capacity old (ended_header block) → ender new table row ≡ get_or new (place_of old (ended_header block) row) 0
      ender_at row published =
          ap (λ (b : ℕ). array_word new (ended_header b) row) (block_same old new same table lt)
          ∙ ap (λ (place : ℕ). get_or new place 0) (place_same old new same arrays (ended_header block) row (ended_is old table lt) published)

      creator_same : StampsSame old new table → (row : ℕ) → row < capacity old (created_header block) → creator new table row ≡ creator old table row
      creator_same alike row published = ap (λ (b : ℕ). array_word new (created_header b) row) (block_same old new same table lt) ∙ alike.created row published

      ender_same : StampsSame old new table → (row : ℕ) → row < capacity old (ended_header block) → ender new table row ≡ ender old table row
      ender_same alike row published = ap (λ (b : ℕ). array_word new (ended_header b) row) (block_same old new same table lt) ∙ alike.ended row published

      created_count : capacity new (created_header (table_block new table)) ≡ capacity old (created_header block)
      created_count = ap (λ (b : ℕ). capacity new (created_header b)) (block_same old new same table lt) ∙ capacity_same old new same (created_header block) (created_is old table lt)

      ended_count : capacity new (ended_header (table_block new table)) ≡ capacity old (ended_header block)
      ended_count = ap (λ (b : ℕ). capacity new (ended_header b)) (block_same old new same table lt) ∙ capacity_same old new same (ended_header block) (ended_is old table lt)

      creator_fits : StampsSame old new table → (row : ℕ) → row < capacity old (created_header block) → CreatorFits old table row → CreatorFits new table row
      creator_fits alike row published fits =
          let stamp = creator_same alike row published in
          let used = alike.used in
          let last = alike.last in
          ⊎_elim (λ none. inl (stamp ∙ none))
          (λ rest. inr (⊎_elim
          (λ given.
          let low = given.0 in
          inl (omega (arith, low, used), ⊎_elim (λ dead. inl (stamp ∙ dead)) (λ commit. inr (omega (arith, commit, stamp, last))) given.1))
          (λ later. let above = later.0 in inr (omega (arith, above, stamp, last), alike.undecided 1 row later.1)) rest))
          fits

      ended_fits : StampsSame old new table → (row : ℕ) → row < capacity old (created_header block) → row < capacity old (ended_header block) → IsEnded old table row → IsEnded new table row
      ended_fits alike row created published ends =
          let stamp = creator_same alike row created in
          let end = ender_same alike row published in
          let used = alike.used in
          let last = alike.last in
          let a = ends.given in let b = ends.first in let c = ends.later in let d = ends.last in
          record { given = omega (arith, a, used); first = omega (arith, b, stamp); later = omega (arith, c, stamp, end); last = omega (arith, d, end, last) }

      ender_fits : StampsSame old new table → (row : ℕ) → (row < used_up old table → row < capacity old (created_header block)) → row < capacity old (ended_header block) → EnderFits old table row → EnderFits new table row
      ender_fits alike row room published fits =
          let end = ender_same alike row published in
          let last = alike.last in
          ⊎_elim (λ none. inl (end ∙ none))
          (λ rest. inr (⊎_elim (λ ends. inl (ended_fits alike row (room ends.given) published ends))
          (λ later. let above = later.0 in inr (omega (arith, above, end, last), alike.undecided 2 row later.1)) rest))
          fits

      has_value : (row column : ℕ) → Contains (all_columns old) column → dictionary_length new column ≡ dictionary_length old column → HasValue old row column → HasValue new row column
      has_value row column is length has =
          let published = has.published in
          let known = has.known in
          let count = capacity_same old new same (codes_header column) (codes_is old column is) in
          let code = codes_same old new same arrays column row is has.published in
          record { published = omega (arith, published, count); known = omega (arith, known, code, length) }

      pub rows_alike : StampsSame old new table → RowsAlike old new table
      rows_alike alike = record {
        last = alike.last;
        created_room = alike.created_room;
        ended_room = alike.ended_room;
        next = alike.next;
        high = let high = alike.high in omega (arith, high);
        created = creator_fits alike;
        ended = ender_fits alike;
        committed = λ row published first most. creator_same alike row published;
      }

      pub rows_same : RowsAlike old new table → ((column : ℕ) → Contains (all_columns old) column → dictionary_length new column ≡ dictionary_length old column) → RowsFit old table → RowsFit new table
      rows_same alike lengths fits =
          let next = alike.next in
          let place = block_same old new same table lt in
          let created = created_count in
          let ended = ended_count in
          let last = alike.last in
          let columns : columns_of new (table_block new table) ≡ columns_of old block = ap (columns_of new) place ∙ columns_same old new same table lt in
          let first_room = fits.created_room in
          let first_grown = alike.created_room fits.created_room in
          let last_grown = alike.ended_room fits.ended_room in
          let high = alike.high in
          let of_column : (column : ℕ) → Contains (columns_of new (table_block new table)) column → Contains (columns_of old block) column = λ column is. subst (λ (cs : List ℕ). Contains cs column) columns is in
          let among : (column : ℕ) → Contains (columns_of old block) column → Contains (all_columns old) column = λ column of. column_among old block column (block_among table lt) of in
          record {
            rows = next;
            created_room = omega (arith, first_grown, created);
            ended_room = omega (arith, last_grown, ended);
            begun = all_from (λ column. since_of new column ≤ get_or new (high_at (table_block new table)) 0) (columns_of new (table_block new table)) (λ column is.
                let of = of_column column is in
                let since = since_same old new same column (among column of) in
                let low = All-contains (λ c. since_of old c ≤ get_or old (high_at block) 0) (columns_of old block) column fits.begun of in
                omega (arith, since, low, high));
            created = λ row published. let within : row < capacity old (created_header block) = omega (arith, published, created) in alike.created row within (fits.created row within);
            ended = λ row published.
                let within : row < capacity old (ended_header block) = omega (arith, published, ended) in
                alike.ended row (λ given. omega (arith, given, first_room)) within (fits.ended row within);
            values = λ row published first most.
                let within : row < capacity old (created_header block) = omega (arith, published, created) in
                let stamp = alike.committed row within first most in
                let old_first : 1 ≤ creator old table row = omega (arith, first, stamp) in
                let old_most : creator old table row ≤ last_commit old = omega (arith, most, stamp, last) in
                let known = fits.values row within old_first old_most in
                all_from (HasValue new row) (columns_with new (table_block new table) row) (λ column is.
                let parts = Contains-filter (λ c. leb (since_of new c) row) (columns_of new (table_block new table)) column is in
                let of = of_column column parts.0 in
                let since = since_same old new same column (among column of) in
                let low = leb-true (since_of new column) row parts.1 in
                let old_with = filter-Contains (λ c. leb (since_of old c) row) (columns_of old block) column of (le-leb (since_of old column) row (omega (arith, since, low))) in
                has_value row column (among column of) (lengths column (among column of)) (All-contains (HasValue old row) (columns_with old block row) column known old_with));
          }
