-- Split logs that a power cut left, in images that are written out.
use Rattle.std.proofs.Common.{◌≡◌, inl, ◌+◌, ◌^◌, ◌-◌, false, List, [], ◌∷◌, length, get_or, refl, sym, subst, arith}
use Rattle.image_layout.specs.Pointer.{pointer_word}
use Rattle.image_layout.specs.Records.{first_leaf_at, new_leaf_at, next_leaf_at, split_leaf_at}
use Rattle.image_layout.specs.Tables.{is_text}
use Rattle.image_layout.specs.Trees.{Pair, leaf_pairs}
use Rattle.shown_state.specs.CommitLaws.{one_table_image, two_commit_image}
use Rattle.tree_cuts.specs.FirstLeaf.{MayBeFirst}
use Rattle.tree_cuts.specs.Lists.{Pairwise}
use Rattle.tree_cuts.specs.Split.{IsNotedAlone}
use Rattle.tree_cuts.specs.Tree.{KeysDiffer, pairs_of}
use Rattle.law_instances.specs.SplitLogs.{first_leaf_words, noted_words}

-- ── a first leaf ──

first_size : length first_leaf_words ≡ 32768
unfolding one_table_image
first_size = refl

first_integers : is_text first_leaf_words 2096 ≡ false
unfolding one_table_image
first_integers = refl

first_null : get_or first_leaf_words (first_leaf_at 2096) 0 ≡ 0
unfolding one_table_image
first_null = refl

first_split : get_or first_leaf_words (split_leaf_at 2096) 0 ≡ 0
unfolding one_table_image
first_split = refl

first_new : get_or first_leaf_words (new_leaf_at 2096) 0 ≡ pointer_word 2184
unfolding one_table_image
first_new = refl

pub is_first : MayBeFirst first_leaf_words 2096 2184
is_first = let size = first_size in record {
  tree = record {
    integers = first_integers;
    column_within = omega (arith, size);
    walk = first_null;
    fewer = omega (arith, size);
    placed = tt;
    apart = tt;
    distinct = tt;
  };
  room = omega (arith, size);
  placed = record { within = omega (arith, size); apart = inl (omega arith) };
  no_split = first_split;
  new = first_new;
}

-- ── a leaf that is noted ──

noted_size : length noted_words ≡ 32768
unfolding two_commit_image
noted_size = refl

noted_integers : is_text noted_words 2096 ≡ false
unfolding two_commit_image
noted_integers = refl

noted_first : get_or noted_words (first_leaf_at 2096) 0 ≡ pointer_word 2184
unfolding two_commit_image
noted_first = refl

noted_last : get_or noted_words (next_leaf_at 2184) 0 ≡ 0
unfolding two_commit_image
noted_last = refl

noted_split : get_or noted_words (split_leaf_at 2096) 0 ≡ pointer_word 2184
unfolding two_commit_image
noted_split = refl

noted_none : get_or noted_words (new_leaf_at 2096) 0 ≡ 0
unfolding two_commit_image
noted_none = refl

noted_pairs : pairs_of noted_words (2184 ∷ []) ≡ record { key = 2 ^ 63 - 3; code = 1 } ∷ record { key = 2 ^ 63 + 7; code = 0 } ∷ []
unfolding two_commit_image leaf_pairs
noted_pairs = refl

keys_differ : Pairwise KeysDiffer (record { key = 2 ^ 63 - 3; code = 1 } ∷ record { key = 2 ^ 63 + 7; code = 0 } ∷ [])
keys_differ = ((λ e. omega (arith, e), tt), (tt, tt))

pub is_noted : IsNotedAlone noted_words 2096 2184 (2184 ∷ [])
is_noted = let size = noted_size in record {
  tree = record {
    integers = noted_integers;
    column_within = omega (arith, size);
    walk = (noted_first, noted_last);
    fewer = omega (arith, size);
    placed = (record { within = omega (arith, size); apart = inl (omega arith) }, tt);
    apart = (tt, tt);
    distinct = subst (λ (ps : List Pair). Pairwise KeysDiffer ps) (sym noted_pairs) keys_differ;
  };
  split = noted_split;
  none = noted_none;
}
