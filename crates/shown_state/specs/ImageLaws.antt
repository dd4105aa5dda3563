-- What holds of every image, of an intact one, or of a formatted one.
use Rattle.std.specs.Prelude.{◌≡◌, ℕ, ◌<◌, ◌≤◌, List, length, slice_index, Contains}
use Rattle.image_layout.specs.Pointer.{pointer_word}
use Rattle.image_layout.specs.Places.{place_in}
use Rattle.image_layout.specs.Trees.{leaves_from, AreLeavesFrom, stored_leaves}
use Rattle.image_layout.specs.Tables.{all_columns}
use Rattle.image_layout.specs.Checks.{Keeps}
use Rattle.image_layout.specs.Owners.{EachBlockHasOneOwner, OwnersAreApart}
use Rattle.image_layout.specs.Records.{first_leaf_at}
use Rattle.image_layout.specs.EntryRules.{tree_rule}
use Rattle.image_layout.specs.SoundRules.{IsIntact, IsSound}
use Rattle.image_layout.specs.Fresh.{fresh_words}

-- a formatted image is sound
abbrev pub FormattedIsSound : Type 0
FormattedIsSound = (segments : ℕ) → 0 < segments → IsSound (fresh_words segments)

-- in an intact image, so in a sound one, each live block has one owner
abbrev pub IntactHasOwners : Type 0
IntactHasOwners = (words : List ℕ) → IsIntact words → EachBlockHasOneOwner words

-- the owner words of an intact image are apart
abbrev pub IntactIsApart : Type 0
IntactIsApart = (words : List ℕ) → IsIntact words → OwnersAreApart words

-- a pointer word names its place
abbrev pub PointersNameTheirPlace : Type 0
PointersNameTheirPlace = (place : ℕ) → place_in (pointer_word place) ≡ place

-- a walk of enough steps reaches all leaves that there are
abbrev pub WalksAreWhole : Type 0
WalksAreWhole =
    (words : List ℕ) (word : ℕ) (leaves : List ℕ) (steps : ℕ) → AreLeavesFrom words word leaves → length leaves ≤ steps
    → leaves_from words steps word ≡ leaves

-- where the rule of trees is kept, the stored leaves of a column are all that next words reach
abbrev pub StoredLeavesAreWhole : Type 0
StoredLeavesAreWhole = (words : List ℕ) → Keeps words tree_rule
    → (column : ℕ) → Contains (all_columns words) column
    → AreLeavesFrom words (slice_index words (first_leaf_at column)) (stored_leaves words column)
