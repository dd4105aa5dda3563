-- A growth as a change: what its cuts show, and its end.
use Rattle.std.specs.Prelude.{◌≡◌, ◌⊎◌, ℕ, List}
use Rattle.pm_model.specs.Changes.{Change}
use Rattle.image_layout.specs.Arrays.{array_rule}
use Rattle.image_layout.specs.Blocks.{live_blocks}
use Rattle.image_layout.specs.Checks.{Keeps}
use Rattle.heap_palloc.specs.Calls.{KeepsHeapRules}
use Rattle.heap_palloc.specs.Lane.{mended_lane}
use Rattle.heap_palloc.specs.Shown.{GainsOne}
use Rattle.seg_array.specs.Growth.{Growth, HasNoNext, next_chunk, chunk_block, growth_parts, MayGrow, SameGrowthRead}
use Rattle.seg_array.specs.Shown.{IsUngrown, IsGrown}

-- what a cut of a growth shows once its lane is mended
abbrev pub ShowsGrowth : Growth → List ℕ → List ℕ → Type 0
ShowsGrowth g base image = IsUngrown base g (mended_lane g.lane image) ⊎ IsGrown base g (mended_lane g.lane image)

-- What the words after a growth show: the capacity after it, and new words of 0. It allocates the chunk, unless the
-- array owned it. Mending the lane leaves them, and the rules of the heap and of the array hold as before.
pub record EndsGrowth (g : Growth) (base words : List ℕ) : Type 0 where
  pub grown : IsGrown base g words
  pub allocates : HasNoNext base g.header
      → GainsOne (live_blocks base) (chunk_block (next_chunk base g)) (live_blocks words)
  pub owned : ¬ HasNoNext base g.header → live_blocks words ≡ live_blocks base
  pub mended : mended_lane g.lane words ≡ words
  pub rules : KeepsHeapRules base → KeepsHeapRules words
  pub array : Keeps base (array_rule g.header) → Keeps words (array_rule g.header)

abbrev pub growth : Growth → Change
growth g = record {
  asks = λ base. MayGrow base g;
  parts = λ base. growth_parts base g;
  shows = ShowsGrowth g;
  ends = EndsGrowth g;
  reads = λ old new. SameGrowthRead old new g;
}
