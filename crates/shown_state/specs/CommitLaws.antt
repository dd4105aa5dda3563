-- The commits that an image shows, in the words of its stamps: which rows each of them created and ended, with which
-- values, and in which order. And the image of one table, written out, with the state that it shows.
use Rattle.std.specs.Prelude.{◌≡◌, ◌⊎◌, ◌↔◌, ℕ, pos, negsuc, ◌+◌, ◌-◌, ◌^◌, ◌<◌, ◌≤◌, List, [], ◌∷◌, ◌++◌, length, map, replicate, slice_index_or, Contains, AllPairs}
use Rattle.mv_model.specs.declared.shape.Kind.TheVariants as kind
use Rattle.mv_model.specs.declared.value.Value.{Value}
use Rattle.mv_model.specs.declared.value.Value.TheVariants as value
use Rattle.mv_model.specs.State.{RowKey, CreatedRow, WriteSet, no_writes, all_idle}
use Rattle.image_layout.specs.Pointer.{pointer_word}
use Rattle.image_layout.specs.Fresh.{magic_number}
use Rattle.image_layout.specs.Records.{created_header, ended_header}
use Rattle.image_layout.specs.Arrays.{capacity, array_word}
use Rattle.image_layout.specs.Tables.{table_count, table_block, column_count, column_record}
use Rattle.image_layout.specs.Objects.{last_commit}
use Rattle.shown_state.specs.LogicalState.{row_value, logical_state}

-- there is such a commit: they are counted from 1
abbrev pub IsCommit : List ℕ → ℕ → Type 0
IsCommit words number = (1 ≤ number) × (number ≤ last_commit words)

-- what a commit wrote, by its number
abbrev pub shown_commit : List ℕ → ℕ → WriteSet
shown_commit words number = slice_index_or (logical_state words).commits (number - 1) no_writes

-- a row of a table by their numbers
abbrev pub row_key : ℕ → ℕ → RowKey
row_key table row = record { table = table; row = row }

-- the table is published, its array behind this header has a word for the row, and that word is the number
abbrev pub IsStamped : (ℕ → ℕ) → List ℕ → ℕ → ℕ → ℕ → Type 0
IsStamped header words number table row =
    (table < table_count words)
    × (row < capacity words (header (table_block words table)))
    × (array_word words (header (table_block words table)) row ≡ number)

-- one row stands before another: in an earlier table, or before it in the same table
abbrev pub IsBefore : RowKey → RowKey → Type 0
IsBefore key other = (key.table < other.table) ⊎ ((key.table ≡ other.table) × (key.row < other.row))

-- as many commits are shown as there are up to the last one
abbrev pub CommitsAreCounted : Type 0
CommitsAreCounted = (words : List ℕ) → length (logical_state words).commits ≡ last_commit words

-- a commit created exactly the rows whose word for their creator is its number
abbrev pub CreatedAreStamped : Type 0
CreatedAreStamped = (words : List ℕ) (number table row : ℕ) → IsCommit words number
    → Contains (map (λ created. created.key) (shown_commit words number).created) (row_key table row)
    ↔ IsStamped created_header words number table row

-- and ended exactly those whose word for what ended them is its number
abbrev pub EndedAreStamped : Type 0
EndedAreStamped = (words : List ℕ) (number table row : ℕ) → IsCommit words number
    → Contains (shown_commit words number).ended (row_key table row) ↔ IsStamped ended_header words number table row

-- A created row has a value for each column of its table: that whose key word stands in the column's dictionary at the
-- row's code, and the zero value where the column begins above the row.
abbrev pub HasItsValues : List ℕ → CreatedRow → Type 0
HasItsValues words created =
    let block = table_block words created.key.table in
    (length created.values ≡ column_count words block)
    × ((column : ℕ) (d : Value) → column < column_count words block
    → slice_index_or created.values column d ≡ row_value words created.key.row (column_record words block column))

abbrev pub CreatedHaveTheirValues : Type 0
CreatedHaveTheirValues = (words : List ℕ) (number : ℕ) (created : CreatedRow) → IsCommit words number
    → Contains (shown_commit words number).created created → HasItsValues words created

-- each list of a commit ascends by table and row
abbrev pub CommitsAscend : Type 0
CommitsAscend = (words : List ℕ) (number : ℕ) → IsCommit words number
    → AllPairs (λ created other. IsBefore created.key other.key) (shown_commit words number).created
    × AllPairs IsBefore (shown_commit words number).ended

-- ── one table ──

-- The block of a table `t` with one column `a` of integers and no rows: the number of columns, the bound of 0, the
-- name, no extension, and the number of columns here; behind the empty arrays of creators and enders the column's kind
-- and name, an empty tree and empty arrays.
abbrev pub one_column_block : List ℕ
one_column_block = 1 ∷ 0 ∷ 116 ∷ 0 ∷ 0 ∷ 0 ∷ 1 ∷ replicate {A = ℕ} 33 0 ++ 1 ∷ 97 ∷ replicate {A = ℕ} 38 0

-- A formatted image of one segment with that table alone. Its block is the first slot of page 4, a small page for
-- blocks of 128 words, whose bitmap is 1.
unfoldable pub one_table_image : List ℕ
one_table_image =
    (8 ∷ 8 ∷ 8 ∷ 8 ∷ 6 ∷ replicate {A = ℕ} 507 0)
    ++ (magic_number ∷ 2 ∷ 0 ∷ 1 ∷ replicate {A = ℕ} 4 0 ++ pointer_word 2056 ∷ replicate {A = ℕ} 1527 0)
    ++ (1 ∷ replicate {A = ℕ} 7 0 ++ one_column_block)
    ++ replicate {A = ℕ} 30632 0

-- it has one segment of words, and shows that table, whose next row is 0, and no commit
abbrev pub OneTableIsShown : Type 0
OneTableIsShown =
    (length one_table_image ≡ 32768)
    × (logical_state one_table_image ≡ record {
      tables = record { name = 116 ∷ []; columns = record { name = 97 ∷ []; kind = kind.Int } ∷ []; next_row = 0 } ∷ [];
      commits = [];
      begun = 0;
      running = all_idle;
    })

-- ── two commits ──

-- an array of one page: one chunk, at this place
abbrev pub one_chunk : ℕ → List ℕ
one_chunk place = 1 ∷ pointer_word place ∷ replicate {A = ℕ} 14 0

-- two words of a page, and 0 behind them
abbrev pub two_words : ℕ → ℕ → List ℕ
two_words first second = first ∷ second ∷ replicate {A = ℕ} 510 0

-- The same table with two rows: its bound is 2, its arrays of creators and enders, and its column's of codes and of
-- the dictionary, are the pages 5 to 8, and its leaf is the second slot of page 4. It has two columns more, in the
-- first two slots of page 9, a small page for blocks of 64 words.
abbrev pub two_row_block : List ℕ
two_row_block =
    (3 ∷ 2 ∷ 116 ∷ 0 ∷ 0 ∷ pointer_word 4616 ∷ 1 ∷ 0 ∷ one_chunk 2560 ++ one_chunk 3072)
    ++ (1 ∷ 97 ∷ 0 ∷ 0 ∷ pointer_word 2184 ∷ replicate {A = ℕ} 3 0 ++ one_chunk 3584 ++ one_chunk 4096)

-- The key words of 7 and of -3, with the codes 0 and 1, behind the leaf's bitmap and fingerprints.
abbrev pub two_pair_leaf : List ℕ
two_pair_leaf = 3 ∷ 0 ∷ 33415 ∷ replicate {A = ℕ} 5 0 ++ (2 ^ 63 + 7) ∷ 0 ∷ (2 ^ 63 - 3) ∷ 1 ∷ []

-- The extension of a column `b` of integers that begins at row 1: its arrays of codes and of the dictionary are the
-- pages 10 and 11, and its leaf is the third slot of page 4. Behind it one of a column `c` of texts that begins at row
-- 2.
abbrev pub later_extension : List ℕ
later_extension =
    (pointer_word 4680 ∷ replicate {A = ℕ} 7 0)
    ++ (1 ∷ 98 ∷ 0 ∷ 0 ∷ pointer_word 2312 ∷ 0 ∷ 0 ∷ 1 ∷ one_chunk 5120 ++ one_chunk 5632)
    ++ replicate {A = ℕ} 16 0

abbrev pub last_extension : List ℕ
last_extension = replicate {A = ℕ} 8 0 ++ 2 ∷ 99 ∷ replicate {A = ℕ} 5 0 ++ 2 ∷ replicate {A = ℕ} 32 0

-- the key word of 5 with the code 0
abbrev pub one_pair_leaf : List ℕ
one_pair_leaf = 1 ∷ 0 ∷ 133 ∷ replicate {A = ℕ} 5 0 ++ (2 ^ 63 + 5) ∷ 0 ∷ []

-- Commit 1 created row 0 with the value 7, and commit 2 ended it and created row 1 with the values -3 and 5.
unfoldable pub two_commit_image : List ℕ
two_commit_image =
    (8 ∷ 8 ∷ 8 ∷ 8 ∷ 6 ∷ 17 ∷ 17 ∷ 17 ∷ 17 ∷ 5 ∷ 17 ∷ 17 ∷ replicate {A = ℕ} 500 0)
    ++ (magic_number ∷ 2 ∷ 2 ∷ 1 ∷ replicate {A = ℕ} 4 0 ++ pointer_word 2056 ∷ replicate {A = ℕ} 1527 0)
    ++ (7 ∷ replicate {A = ℕ} 7 0 ++ two_row_block ++ replicate {A = ℕ} 48 0)
    ++ (two_pair_leaf ++ replicate {A = ℕ} 116 0)
    ++ (one_pair_leaf ++ replicate {A = ℕ} 238 0)
    ++ (two_words 1 2 ++ two_words 2 0 ++ two_words 0 1 ++ two_words (2 ^ 63 + 7) (2 ^ 63 - 3))
    ++ (3 ∷ replicate {A = ℕ} 7 0 ++ later_extension ++ last_extension ++ replicate {A = ℕ} 392 0)
    ++ (two_words 0 0 ++ two_words (2 ^ 63 + 5) 0)
    ++ replicate {A = ℕ} 26624 0

-- it has one segment of words, and shows that
abbrev pub TwoCommitsAreShown : Type 0
TwoCommitsAreShown =
    (length two_commit_image ≡ 32768)
    × (logical_state two_commit_image ≡ record {
      tables = record {
        name = 116 ∷ [];
        columns =
            record { name = 97 ∷ []; kind = kind.Int }
            ∷ record { name = 98 ∷ []; kind = kind.Int }
            ∷ record { name = 99 ∷ []; kind = kind.Text }
            ∷ [];
        next_row = 2;
      } ∷ [];
      commits =
          record {
            created =
                record { key = row_key 0 0; values = value.Int (pos 7) ∷ value.Int (pos 0) ∷ value.Text [] ∷ [] } ∷ [];
            ended = [];
          }
          ∷ record {
            created =
                record { key = row_key 0 1; values = value.Int (negsuc 2) ∷ value.Int (pos 5) ∷ value.Text [] ∷ [] }
                ∷ [];
            ended = row_key 0 0 ∷ [];
          }
          ∷ [];
      begun = 0;
      running = all_idle;
    })
