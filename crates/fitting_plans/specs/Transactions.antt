-- What the plans of a transaction ask of its object, in an image that fits together, whatever else is half done in it.
use Rattle.std.specs.Prelude.{◌≡◌, ◌≢◌, ◌⊎◌, ℕ, ◌+◌, ◌<◌, ◌≤◌, max, ◌&&◌, ◌==◌, if◌then◌else◌, IsTrue, List, length, map, slice_index, All, Contains}
use Rattle.mv_model.specs.State.{State, all_idle}
use Rattle.image_layout.specs.Fixed.{state_at}
use Rattle.image_layout.specs.Places.{below}
use Rattle.image_layout.specs.Objects.{commit_word, entries, entry_kind, entry_places, entry_row, entry_table, entry_word, last_commit}
use Rattle.image_layout.specs.Records.{created_header, ended_header, high_at}
use Rattle.pm_model.specs.Needed.{Stores}
use Rattle.pm_model.specs.Plans.{Part}
use Rattle.image_layout.specs.Arrays.{capacity, place_of}
use Rattle.image_layout.specs.EntryRules.{is_entry}
use Rattle.image_layout.specs.SoundRules.{no_commit}
use Rattle.image_layout.specs.Tables.{table_block, table_count}
use Rattle.shown_state.specs.Fits.{Fits, creator, ender, is_undecided}
use Rattle.shown_state.specs.LogicalState.{created_rows, logical_state, next_row_of, row_bound, table_of}
use Rattle.shown_state.specs.OpeningParts.{IsImage}

-- an image that fits together, and one of its objects
pub record IsObjectOf (words : List ℕ) (object : ℕ) : Type 0 where
  pub image : IsImage words
  pub fits : Fits words
  pub number : object < 16

-- the object has no commit word and no entry, so a transaction may begin in it
pub record MayBegin (words : List ℕ) (object : ℕ) : Type 0 where
  pub its : IsObjectOf words object
  pub unset : commit_word words object ≡ 0
  pub none : All (λ at. slice_index words at ≡ 0) (entry_places words object)

-- a table's words for the creators of its rows, and for what ended them: how many, and where one stands
abbrev pub created_words : List ℕ → ℕ → ℕ
created_words words table = capacity words (created_header (table_block words table))

abbrev pub ended_words : List ℕ → ℕ → ℕ
ended_words words table = capacity words (ended_header (table_block words table))

abbrev pub creator_at : List ℕ → ℕ → ℕ → ℕ
creator_at words table row = place_of words (created_header (table_block words table)) row

abbrev pub ender_at : List ℕ → ℕ → ℕ → ℕ
ender_at words table row = place_of words (ended_header (table_block words table)) row

-- the object's transaction has the entry that it created a row, or ended one
abbrev pub HasEntry : List ℕ → ℕ → ℕ → ℕ → ℕ → Type 0
HasEntry words object kind table row = Contains (entries words object) (entry_word kind table row)

-- a row is dead, or has the stamp of a commit or none
abbrev pub IsSettled : List ℕ → ℕ → ℕ → Type 0
IsSettled words table row = (creator words table row ≡ no_commit) ⊎ (creator words table row ≤ last_commit words)

-- no commit created the row
abbrev pub IsUncommitted : List ℕ → ℕ → ℕ → Type 0
IsUncommitted words table row = (creator words table row ≡ 0) ⊎ (last_commit words < creator words table row)

-- An undecided transaction of which nothing needs to be undone: the rows that it created are used up, and each has the
-- stamp of a commit or none, or is dead; and each that it ended has the stamp of a commit or none.
pub record MayClose (words : List ℕ) (object : ℕ) : Type 0 where
  pub its : IsObjectOf words object
  pub undecided : IsTrue (is_undecided words object)
  pub created : (table row : ℕ) → table < table_count words → row < created_words words table
      → HasEntry words object 1 table row → IsSettled words table row
  pub ended : (table row : ℕ) → table < table_count words → row < ended_words words table
      → HasEntry words object 2 table row → ender words table row ≤ last_commit words
  pub used_up : (table : ℕ) → table < table_count words
      → row_bound (created_rows words object table) ≤ slice_index words (high_at (table_block words table))

-- the object is closed, so its entries and its commit word may be cleared
pub record MayClear (words : List ℕ) (object : ℕ) : Type 0 where
  pub its : IsObjectOf words object
  pub closed : slice_index words (state_at object) ≡ 0

-- The next entry of an undecided transaction: the entry words before this one are set, it isn't, and the new word is an
-- entry of a published table and of a row whose stamps have words.
pub record MayEnter (words : List ℕ) (object nth word : ℕ) : Type 0 where
  pub its : IsObjectOf words object
  pub undecided : IsTrue (is_undecided words object)
  pub room : nth < length (entry_places words object)
  pub before : (earlier : ℕ) → earlier < nth
      → slice_index words (slice_index (entry_places words object) earlier) ≢ 0
  pub free : slice_index words (slice_index (entry_places words object) nth) ≡ 0
  pub says : IsTrue (is_entry words word)

-- the next row of a table once an entry says that a row was created: it is behind that row
abbrev pub next_with : List ℕ → ℕ → ℕ → ℕ
next_with words word table =
    (if (entry_kind word == 1) && (entry_table word == table)
    then max (next_row_of words table) (entry_row word + 1) else next_row_of words table)

-- what is shown once it does: the same commits, and the tables with these next rows
abbrev pub shown_with : List ℕ → ℕ → State
shown_with words word =
    record {
      tables =
          map (λ table. record {
            name = (table_of words table).name;
            columns = (table_of words table).columns;
            next_row = next_with words word table;
          }) (below (table_count words));
      commits = (logical_state words).commits;
      begun = 0;
      running = all_idle;
    }

-- it fits together, and shows the same, or that besides
pub record FitsOrGives (words : List ℕ) (word : ℕ) (image : List ℕ) : Type 0 where
  pub fits : Fits image
  pub shows : (logical_state image ≡ logical_state words) ⊎ (logical_state image ≡ shown_with words word)

-- the store that makes a row dead which the transaction created and no commit did
pub record IsKill (words : List ℕ) (object table row place value : ℕ) : Type 0 where
  pub published : table < table_count words
  pub has_word : row < created_words words table
  pub there : place ≡ creator_at words table row
  pub dead : value ≡ no_commit
  pub uncommitted : IsUncommitted words table row
  pub entry : HasEntry words object 1 table row

-- the store by which a row isn't ended that no commit ended
pub record IsFreeing (words : List ℕ) (table row place value : ℕ) : Type 0 where
  pub published : table < table_count words
  pub has_word : row < ended_words words table
  pub there : place ≡ ender_at words table row
  pub none : value ≡ 0
  pub uncommitted : last_commit words < ender words table row

-- the store that raises the bound of a table, not further than above the rows that the transaction created
pub record IsRise (words : List ℕ) (object table place value : ℕ) : Type 0 where
  pub published : table < table_count words
  pub there : place ≡ high_at (table_block words table)
  pub least : slice_index words place ≤ value
  pub most : value ≤ max (slice_index words place) (row_bound (created_rows words object table))

-- What an undecided transaction takes back: a row that it created and no commit did is dead, one that it ended and no
-- commit did isn't ended, and the bound of a table rises, not further than above the rows that it created.
pub data IsTakenBack (words : List ℕ) (object place value : ℕ) : Type 0 where
  kills : (table row : ℕ) → IsKill words object table row place value → IsTakenBack words object place value
  frees : (table row : ℕ) → IsFreeing words table row place value → IsTakenBack words object place value
  raises : (table : ℕ) → IsRise words object table place value → IsTakenBack words object place value

-- a part of such stores, of an undecided transaction
pub record TakesBack (words : List ℕ) (object : ℕ) (part : Part) : Type 0 where
  pub its : IsObjectOf words object
  pub undecided : IsTrue (is_undecided words object)
  pub stores : Stores (IsTakenBack words object) part
