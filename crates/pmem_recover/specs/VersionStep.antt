-- Opening's step from version 1 to version 2 as a change.
use Rattle.std.specs.Prelude.{◌≡◌, ◌≢◌, ℕ, ◌<◌, List, [], ◌∷◌, ◌++◌, length, map, slice_index}
use Rattle.image_layout.specs.Fixed.{version_at}
use Rattle.image_layout.specs.Places.{below}
use Rattle.image_layout.specs.Records.{inner_columns_at}
use Rattle.image_layout.specs.Tables.{column_count, columns_of, table_block, table_blocks, table_count}
use Rattle.pm_model.specs.Changes.{Change}
use Rattle.pm_model.specs.Needed.{after_mending}
use Rattle.shown_state.specs.Mending.{version_mending}
use Rattle.pmem_recover.specs.declared.change.WordChange.{WordChange}
use Rattle.pmem_recover.specs.Changes.{change}
use Rattle.pmem_recover.specs.LaneStep.{IsApartImage}
use Rattle.pmem_recover.specs.Steps.{step_parts}

-- a table's block says how many columns stand in it: all that the table has
abbrev pub count_change : List ℕ → ℕ → WordChange
count_change words table =
    change (inner_columns_at (table_block words table)) (column_count words (table_block words table))

-- the words that the step changes, in order
abbrev pub version_changes : List ℕ → List WordChange
version_changes words = map (count_change words) (below (table_count words)) ++ change version_at 2 ∷ []

-- a word that the step doesn't write
pub record IsBesideStep (base : List ℕ) (w : ℕ) : Type 0 where
  pub no_version : w ≢ version_at
  pub no_count : (table : ℕ) → table < table_count base → w ≢ inner_columns_at (table_block base table)

-- What a cut of it shows: the tables and the columns of each stand where they stood, all words beside the step are as
-- they were, and mended again it comes to the same words.
pub record ShowsVersionStep (base image : List ℕ) : Type 0 where
  pub size : length image ≡ length base
  pub beside : (w : ℕ) → IsBesideStep base w → slice_index image w ≡ slice_index base w
  pub tables : table_blocks image ≡ table_blocks base
  pub columns : (table : ℕ) → table < table_count base
      → columns_of image (table_block base table) ≡ columns_of base (table_block base table)
  pub again : after_mending version_mending image ≡ after_mending version_mending base

-- what the words after it show: the same, and they are of version 2
pub record EndsVersionStep (base words : List ℕ) : Type 0 where
  pub shows : ShowsVersionStep base words
  pub mended : words ≡ after_mending version_mending base
  pub version : slice_index words version_at ≡ 2

-- Opening plays alone, so that it may read any word.
abbrev pub version_step : Change
version_step = record {
  asks = IsApartImage;
  parts = λ base. step_parts (λ number. version_mending) base 0;
  shows = ShowsVersionStep;
  ends = EndsVersionStep;
  reads = λ old new. new ≡ old;
}
