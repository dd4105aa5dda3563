-- The numbered rules of a stage image. They are tried in the order of their numbers, and their checks in the order of
-- these lists; the rules that a stage image has no words for are passed over.
use Rattle.std.specs.Prelude.{ℕ, ◌+◌, ◌-◌, ◌/◌, ◌%◌, ◌^◌, Bool, not, ◌&&◌, ◌||◌, ◌==◌, nat_lt, nat_le, if◌then◌else◌, List, [], ◌∷◌, map, filter, slice_index}
use Rattle.std.specs.List.{flat_map}
use Rattle.mv_model.specs.declared.limits.TheConstants.{MAX_COMMITS}
use Rattle.image_layout.specs.Fixed.{magic_at, version_at, last_at, descriptor_at, state_at, commit_word_at, ready_at, first_segment_at, entry_at}
use Rattle.image_layout.specs.Fresh.{magic_number}
use Rattle.image_layout.specs.Places.{below, page_count}
use Rattle.image_layout.specs.Checks.{Check, check, Rule, Keeps, Numbered, numbered}
use Rattle.image_layout.specs.SoundRules.{is_commit}
pub use Rattle.image_view.specs.Views.{dead}
use Rattle.engine_core.specs.Stage.{high_at, born_at, ended_at}

-- ── rules 1 to 15 hold of every image that a power cut can leave ──

-- 1: the magic number
abbrev pub magic_rule : Rule
magic_rule words = check magic_at (slice_index words magic_at == magic_number) ∷ []

-- 2: the version of the format is 102
abbrev pub version_rule : Rule
version_rule words = check version_at (slice_index words version_at == 102) ∷ []

-- 3: the last commit number is one
abbrev pub last_rule : Rule
last_rule words = check last_at (nat_le (slice_index words last_at) MAX_COMMITS) ∷ []

-- the first page of each segment, and the first 28 of the image
abbrev pub is_reserved_page : ℕ → Bool
is_reserved_page page = (page % 64 == 0) || nat_lt page 28

-- 5: reserved pages have the descriptor 8
unfoldable pub reserved_rule : Rule
reserved_rule words =
    map (λ page. check (descriptor_at page) (slice_index words (descriptor_at page) == 8))
    (filter is_reserved_page (below (page_count words)))

-- a number that a commit word may have: at most one more than the last commit number
abbrev pub may_be_commit_word : ℕ → ℕ → Bool
may_be_commit_word last number = nat_le number (last + 1) && nat_le number MAX_COMMITS

-- an object's state is 0 or 1, its commit word may be one, and it has no segments
abbrev pub object_checks : List ℕ → ℕ → List Check
object_checks words object =
    check (state_at object) (nat_le (slice_index words (state_at object)) 1)
    ∷ check (commit_word_at object)
    (may_be_commit_word (slice_index words last_at) (slice_index words (commit_word_at object)))
    ∷ check (ready_at object) (slice_index words (ready_at object) == 0)
    ∷ check (first_segment_at object) (slice_index words (first_segment_at object) == 0)
    ∷ []

-- 14: transaction objects are in order
unfoldable pub object_rule : Rule
object_rule words = flat_map (object_checks words) (below 16)

-- the entry of a row of the one table that was created, kind 1, or ended, kind 2
abbrev pub is_entry : ℕ → Bool
is_entry word =
    ((word / 2 ^ 56 == 1) || (word / 2 ^ 56 == 2)) && (word / 2 ^ 32 % 2 ^ 24 == 0) && nat_lt (word % 2 ^ 32) 4096

-- an entry word is 0, or an entry that follows no 0
abbrev pub is_entry_word : List ℕ → ℕ → ℕ → Bool
is_entry_word words object nth =
    let word = slice_index words (entry_at object nth) in
    (word == 0) || (is_entry word && ((nth == 0) || not (slice_index words (entry_at object (nth - 1)) == 0)))

abbrev pub entry_checks : List ℕ → ℕ → List Check
entry_checks words object =
    if slice_index words (state_at object) == 1
    then map (λ nth. check (entry_at object nth) (is_entry_word words object nth)) (below 60) else []

-- 15: the entries of open objects are entries, and none follows a 0
unfoldable pub entry_rule : Rule
entry_rule words = flat_map (entry_checks words) (below 16)

abbrev pub entry_rules : List Numbered
entry_rules =
    numbered 1 magic_rule ∷ numbered 2 version_rule ∷ numbered 3 last_rule ∷ numbered 5 reserved_rule
    ∷ numbered 14 object_rule ∷ numbered 15 entry_rule ∷ []

-- the image keeps each of them
pub record KeepsEntryRules (words : List ℕ) : Type 0 where
  pub magic : Keeps words magic_rule
  pub version : Keeps words version_rule
  pub last : Keeps words last_rule
  pub reserved : Keeps words reserved_rule
  pub objects : Keeps words object_rule
  pub entries : Keeps words entry_rule

-- ── rules 18 and 27 hold once the image was opened ──

-- an object is idle, and its commit word and entries are 0
abbrev pub closed_checks : List ℕ → ℕ → List Check
closed_checks words object =
    check (state_at object) (slice_index words (state_at object) == 0)
    ∷ check (commit_word_at object) (slice_index words (commit_word_at object) == 0)
    ∷ map (λ nth. check (entry_at object nth) (slice_index words (entry_at object nth) == 0)) (below 60)

-- 18: no transaction is open
unfoldable pub closed_rule : Rule
closed_rule words = flat_map (closed_checks words) (below 16)

-- a row that is used up has no number, or that of the commit that created it, or it is dead
abbrev pub is_born : List ℕ → ℕ → Bool
is_born words row =
    let born = slice_index words (born_at row) in
    if nat_lt row (slice_index words high_at) then (born == 0) || (born == dead) || is_commit words born else born == 0

-- it was not ended, or by a commit that isn't before the one that created it
abbrev pub is_ended : List ℕ → ℕ → Bool
is_ended words row =
    let born = slice_index words (born_at row) in
    let ended = slice_index words (ended_at row) in
    (ended == 0)
    || (nat_lt row (slice_index words high_at) && is_commit words born && is_commit words ended && nat_le born ended)

abbrev pub row_checks : List ℕ → ℕ → List Check
row_checks words row = check (born_at row) (is_born words row) ∷ check (ended_at row) (is_ended words row) ∷ []

-- 27: no more rows are used up than there are, and their stamps are those of commits; other rows have none
unfoldable pub stamp_rule : Rule
stamp_rule words = check high_at (nat_le (slice_index words high_at) 4096) ∷ flat_map (row_checks words) (below 4096)

abbrev pub closing_rules : List Numbered
closing_rules = numbered 18 closed_rule ∷ numbered 27 stamp_rule ∷ []

-- the image keeps every rule
pub record IsSound (words : List ℕ) : Type 0 where
  pub entry : KeepsEntryRules words
  pub closed : Keeps words closed_rule
  pub stamps : Keeps words stamp_rule
