-- A creation as a change: what it reads, what its cuts show, and its end.
use Rattle.std.specs.Prelude.{◌≡◌, ◌⊎◌, ℕ, ◌+◌, List, length, slice_index}
use Rattle.pm_model.specs.Changes.{Change}
use Rattle.image_layout.specs.Blocks.{live_blocks}
use Rattle.image_layout.specs.EntryRules.{KeepsEntryRules}
use Rattle.image_layout.specs.Fixed.{lane_op_at, table_slot_at}
use Rattle.image_layout.specs.Owners.{OwnersAreApart}
use Rattle.image_layout.specs.Tables.{table_count}
use Rattle.heap_palloc.specs.Calls.{KeepsHeapRules}
use Rattle.heap_palloc.specs.Changes.{SameChoiceRead}
use Rattle.heap_palloc.specs.Choice.{choice_block}
use Rattle.heap_palloc.specs.Shown.{GainsOne}
use Rattle.catalog.specs.Creation.{Creation, creation_parts}
use Rattle.catalog.specs.Shown.{mended, IsUncreated, IsCreated, MayCreateOn}

-- what a cut of a creation shows once opening's steps of its lane and of the table slot at the count were made
abbrev pub ShowsCreation : Creation → List ℕ → List ℕ → Type 0
ShowsCreation c base image = IsUncreated base c (mended c.lane image) ⊎ IsCreated base c (mended c.lane image)

-- What the words after a creation show: the tables after it, and one live block more. Those steps leave them as they
-- are.
pub record EndsCreation (c : Creation) (base words : List ℕ) : Type 0 where
  pub created : IsCreated base c words
  pub gains : GainsOne (live_blocks base) (choice_block c.choice) (live_blocks words)
  pub stays : mended c.lane words ≡ words

-- What a creation reads is the same: the table count, the slot behind the one at the count, the op of lane 0, and what
-- the allocation of its block reads. The heap's rules go on to hold.
pub record SameCreationRead (c : Creation) (old new : List ℕ) : Type 0 where
  pub size : length new ≡ length old
  pub count : table_count new ≡ table_count old
  pub next : slice_index new (table_slot_at (table_count old + 1))
      ≡ slice_index old (table_slot_at (table_count old + 1))
  pub op : slice_index new (lane_op_at 0) ≡ slice_index old (lane_op_at 0)
  pub choice : SameChoiceRead c.choice old new
  pub rules : KeepsHeapRules new

abbrev pub creation : Creation → Change
creation c = record {
  asks = λ base. MayCreateOn base c;
  parts = λ base. creation_parts base c;
  shows = ShowsCreation c;
  ends = EndsCreation c;
  reads = SameCreationRead c;
}

-- the creation may begin on an image that keeps the rules which every image keeps, and whose owner words are apart
pub record IsCreationOn (base : List ℕ) (c : Creation) : Type 0 where
  pub may : MayCreateOn base c
  pub rules : KeepsEntryRules base
  pub owners : OwnersAreApart base
