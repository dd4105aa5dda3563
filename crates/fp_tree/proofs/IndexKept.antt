-- Where leaves have the same pairs, the index over them is the same.
use Rattle.std.proofs.Common.{◌≡◌, ℕ, ◌^◌, ◌<◌, ◌≤◌, not, eqb, List, get_or, sym, ap, subst, arith}
use Rattle.std.specs.Prelude.{Any, filter}
use Rattle.std.specs.Int.{bit_at}
use Rattle.std.proofs.lemmas.Bool.{eq-eqb, eqb-true}
use Rattle.image_layout.specs.Trees.{Pair, leaf_pairs, pair_at}
use Rattle.tree_cuts.specs.Lists.{Each}
use Rattle.tree_cuts.proofs.Lists.{each-kept, each-map, filter-same}
use Rattle.tree_cuts.proofs.Reading.{LeafIsSame}
use Rattle.fp_tree.specs.Standing.{IsLeastKey, IsSoundLeaf, has_pairs}
use Rattle.fp_tree.proofs.Chosen.{slots_each}

-- the codes of a leaf as those of its pairs
pub codes_each : (words : List ℕ) (leaf : ℕ) → IsSoundLeaf words leaf → Each (λ pair. pair.code < 2 ^ 32) (leaf_pairs words leaf)
codes_each words leaf sound = slots_each words leaf (λ pair. pair.code < 2 ^ 32) (λ slot lt used. sound.codes slot lt (eqb-true (bit_at (get_or words leaf 0) slot) 1 used))

pub sound_from : (words : List ℕ) (leaf : ℕ) → get_or words leaf 0 < 2 ^ 48 → Each (λ pair. pair.code < 2 ^ 32) (leaf_pairs words leaf) → IsSoundLeaf words leaf
unfolding leaf_pairs
sound_from words leaf bitmap each = record {
  bitmap = bitmap;
  codes = λ slot lt is. each-kept (λ pair. pair.code < 2 ^ 32) (pair_at words leaf) (λ s. eqb (bit_at (get_or words leaf 0) s) 1) 0 48 slot each (omega arith) (omega (arith, lt)) (eq-eqb (bit_at (get_or words leaf 0) slot) 1 is);
}

module _ (old new : List ℕ) where
  pub sound_same : (leaf : ℕ) → LeafIsSame old new leaf → IsSoundLeaf old leaf → IsSoundLeaf new leaf
  sound_same leaf same sound = sound_from new leaf (subst (λ (n : ℕ). n < 2 ^ 48) (sym same.bitmap) sound.bitmap)
      (subst (Each (λ pair. pair.code < 2 ^ 32)) (sym same.pairs) (codes_each old leaf sound))

  pub least_same : (leaf key : ℕ) → LeafIsSame old new leaf → IsLeastKey old leaf key → IsLeastKey new leaf key
  least_same leaf key same least = record {
    has = subst (λ (pairs : List Pair). Any (λ pair. pair.key ≡ key) pairs) (sym same.pairs) least.has;
    least = subst (Each (λ pair. key ≤ pair.key)) (sym same.pairs) least.least;
  }

  pub has_same : (leaf : ℕ) → LeafIsSame old new leaf → has_pairs new leaf ≡ has_pairs old leaf
  has_same leaf same = ap (λ (n : ℕ). not (eqb n 0)) same.bitmap

  pub filtered_same : (leaves : List ℕ) → Each (LeafIsSame old new) leaves → filter (has_pairs new) leaves ≡ filter (has_pairs old) leaves
  filtered_same leaves each = filter-same (has_pairs new) (has_pairs old) leaves (each-map (LeafIsSame old new) (λ leaf. has_pairs new leaf ≡ has_pairs old leaf) has_same leaves each)
