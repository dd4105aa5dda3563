-- Opening's step of a lane as a change.
use Rattle.std.specs.Prelude.{◌≡◌, ℕ, ◌%◌, ◌≤◌, List, length, slice_index}
use Rattle.pm_model.specs.Changes.{Change}
use Rattle.image_layout.specs.declared.layout.TheConstants.{SEGMENT_WORDS}
use Rattle.image_layout.specs.EntryRules.{KeepsEntryRules}
use Rattle.image_layout.specs.Fixed.{lane_op_at}
use Rattle.image_layout.specs.Owners.{OwnersAreApart}
use Rattle.heap_palloc.specs.Lane.{mended_lane}
use Rattle.shown_state.specs.LaneRules.{MayMend}
use Rattle.shown_state.specs.Mending.{lane_mending}
use Rattle.pmem_recover.specs.Steps.{step_parts}

-- the words after it: the lane is mended, and idle
pub record EndsLaneStep (lane : ℕ) (base words : List ℕ) : Type 0 where
  pub mended : words ≡ mended_lane lane base
  pub idle : slice_index words (lane_op_at lane) ≡ 0

-- Each cut of it is mended to the same words. Opening plays alone, so that it may read any word.
abbrev pub lane_step : ℕ → Change
lane_step lane = record {
  asks = λ base. MayMend base lane;
  parts = λ base. step_parts lane_mending base lane;
  shows = λ base image. mended_lane lane image ≡ mended_lane lane base;
  ends = EndsLaneStep lane;
  reads = λ old new. new ≡ old;
}

-- an image of whole segments that keeps the rules which every image keeps, and whose owner words are apart
pub record IsApartImage (words : List ℕ) : Type 0 where
  pub rules : KeepsEntryRules words
  pub owners : OwnersAreApart words
  pub segments : length words % SEGMENT_WORDS ≡ 0
  pub some : SEGMENT_WORDS ≤ length words
