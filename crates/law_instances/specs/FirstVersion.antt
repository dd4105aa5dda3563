-- An image of version 1, written out, with the state that it shows.
use Rattle.std.specs.Prelude.{◌≡◌, ℕ, pos, ◌+◌, ◌^◌, List, [], ◌∷◌, ◌++◌, replicate}
use Rattle.mv_model.specs.declared.shape.Kind.TheVariants as kind
use Rattle.mv_model.specs.declared.value.Value.TheVariants as value
use Rattle.mv_model.specs.State.{all_idle}
use Rattle.image_layout.specs.Fresh.{magic_number}
use Rattle.image_layout.specs.Pointer.{pointer_word}
use Rattle.shown_state.specs.CommitLaws.{one_chunk, row_key, two_words}
use Rattle.shown_state.specs.LogicalState.{logical_state}

-- The block of a table `t` with one column `a` of integers: the number of columns, the bound of 1 and the name, and
-- nothing where version 2 has the extensions' pointer and the number of columns here. Its arrays of creators and
-- enders, and its column's of codes and of the dictionary, are the pages 5 to 8, and its leaf is the second slot of
-- page 4.
abbrev pub one_row_block : List ℕ
one_row_block =
    (1 ∷ 1 ∷ 116 ∷ replicate {A = ℕ} 5 0 ++ one_chunk 2560 ++ one_chunk 3072)
    ++ (1 ∷ 97 ∷ 0 ∷ 0 ∷ pointer_word 2184 ∷ replicate {A = ℕ} 3 0 ++ one_chunk 3584 ++ one_chunk 4096)

-- the key word of 7 with the code 0, behind the leaf's bitmap and fingerprints
abbrev pub leaf_of_seven : List ℕ
leaf_of_seven = 1 ∷ 0 ∷ 135 ∷ replicate {A = ℕ} 5 0 ++ (2 ^ 63 + 7) ∷ []

-- Commit 1 created row 0 of that table with the value 7.
unfoldable pub first_version_image : List ℕ
first_version_image =
    (8 ∷ 8 ∷ 8 ∷ 8 ∷ 6 ∷ 17 ∷ 17 ∷ 17 ∷ 17 ∷ replicate {A = ℕ} 503 0)
    ++ (magic_number ∷ 1 ∷ 1 ∷ 1 ∷ replicate {A = ℕ} 4 0 ++ pointer_word 2056 ∷ replicate {A = ℕ} 1527 0)
    ++ (3 ∷ replicate {A = ℕ} 7 0 ++ one_row_block ++ replicate {A = ℕ} 48 0)
    ++ (leaf_of_seven ++ replicate {A = ℕ} 367 0)
    ++ (two_words 1 0 ++ two_words 0 0 ++ two_words 0 0 ++ two_words (2 ^ 63 + 7) 0)
    ++ replicate {A = ℕ} 28160 0

-- it shows that
abbrev pub OneRowIsShown : Type 0
OneRowIsShown =
    logical_state first_version_image ≡ record {
      tables = record { name = 116 ∷ []; columns = record { name = 97 ∷ []; kind = kind.Int } ∷ []; next_row = 1 } ∷ [];
      commits =
          record { created = record { key = row_key 0 0; values = value.Int (pos 7) ∷ [] } ∷ []; ended = [] } ∷ [];
      begun = 0;
      running = all_idle;
    }
