-- Images of a table whose column has a split that is about to link, written out. Their owner words are apart and their
-- opening ends sound, but their logs don't fit: in the first the new leaf is being freed, and in the second it goes on
-- to a leaf that nobody owns.
use Rattle.std.specs.Prelude.{ℕ, ◌+◌, ◌^◌, List, ◌∷◌, ◌++◌, replicate}
use Rattle.image_layout.specs.Fresh.{magic_number}
use Rattle.image_layout.specs.Pointer.{pointer_word}

-- Page 4 is small, for blocks of 128 words. Its first slot is the table `t` with one column `a` of integers, whose
-- record begins at word 2096; the second is the column's first leaf, which is empty, and the third a new leaf, in whose
-- first slot the key word of 7 stands with the code 0. The first slot of page 5, where that is small too, is one more
-- leaf, which is empty. Lane 1 names the word of the split log that names the new leaf, and that leaf. The arguments
-- are the descriptor of page 5, the op of lane 1, the bitmap of page 4, both words of the split log, the first leaf's
-- next word, and the new leaf's bitmap and next word.
unfoldable pub half_split : ℕ → ℕ → ℕ → ℕ → ℕ → ℕ → ℕ → ℕ → List ℕ
half_split more frees bitmap split new next used beyond =
    (8 ∷ 8 ∷ 8 ∷ 8 ∷ 6 ∷ more ∷ replicate {A = ℕ} 506 0)
    ++ (magic_number ∷ 2 ∷ 0 ∷ 1 ∷ replicate {A = ℕ} 4 0 ++ pointer_word 2056 ∷ replicate {A = ℕ} 63 0)
    ++ (frees ∷ pointer_word 2102 ∷ pointer_word 2312 ∷ replicate {A = ℕ} 1461 0)
    ++ (bitmap ∷ replicate {A = ℕ} 7 0)
    ++ (1 ∷ 0 ∷ 116 ∷ 0 ∷ 0 ∷ 0 ∷ 1 ∷ replicate {A = ℕ} 33 0)
    ++ (1 ∷ 97 ∷ 0 ∷ 0 ∷ pointer_word 2184 ∷ split ∷ new ∷ replicate {A = ℕ} 81 0)
    ++ (0 ∷ next ∷ replicate {A = ℕ} 126 0)
    ++ (used ∷ beyond ∷ 135 ∷ replicate {A = ℕ} 5 0 ++ (2 ^ 63 + 7) ∷ replicate {A = ℕ} 239 0)
    ++ (1 ∷ replicate {A = ℕ} 30207 0)

-- The new leaf has the column's only value, and lane 1 frees it: the image, the image after the first store of its
-- opening, that once the lane is idle, and its end.
abbrev pub freed_leaf_image : List ℕ
freed_leaf_image = half_split 0 2 7 (pointer_word 2184) (pointer_word 2312) 0 1 0

abbrev pub freed_leaf_cut : List ℕ
freed_leaf_cut = half_split 0 2 7 (pointer_word 2184) 0 0 1 0

abbrev pub freed_leaf_idle : List ℕ
freed_leaf_idle = half_split 0 0 3 (pointer_word 2184) 0 0 1 0

abbrev pub freed_leaf_end : List ℕ
freed_leaf_end = half_split 0 0 3 0 0 0 1 0

-- The new leaf is empty and goes on to the one of page 5, which nobody owns: the image, that after the first store of
-- its opening, and its end.
abbrev pub loose_leaf_image : List ℕ
loose_leaf_image = half_split 6 0 7 (pointer_word 2184) (pointer_word 2312) 0 0 (pointer_word 2568)

abbrev pub loose_leaf_cut : List ℕ
loose_leaf_cut = half_split 6 0 7 (pointer_word 2184) (pointer_word 2312) (pointer_word 2312) 0 (pointer_word 2568)

abbrev pub loose_leaf_end : List ℕ
loose_leaf_end = half_split 6 0 7 0 0 (pointer_word 2312) 0 (pointer_word 2568)
