-- The changes of a tree hold what they say.
use Rattle.std.proofs.Common.{◌≡◌, ℕ, ◌<◌, List, [], ◌∷◌, ◌++◌, length, get_or, sym, ◌∙◌, ap, subst, arith}
use Rattle.pm_model.specs.Changes.{HoldsOnWords}
use Rattle.pm_model.specs.Plans.{EachCut, Part, finished, one_store}
use Rattle.image_layout.specs.Pointer.{pointer_word}
use Rattle.image_layout.specs.Records.{new_leaf_at, split_leaf_at}
use Rattle.image_layout.specs.Trees.{Pair, leaf_pairs}
use Rattle.std.proofs.lemmas.List.{length-set}
use Rattle.heap_palloc.specs.Choice.{Choice, choice_parts, MayMake}
use Rattle.heap_palloc.proofs.ChangesHold.{allocation_holds}
use Rattle.heap_palloc.proofs.Rereading.{choice_stable}
use Rattle.tree_cuts.specs.FirstLeaf.{MayStart, first_plan}
use Rattle.tree_cuts.specs.Insertion.{Insertion, MayInsert, insertion_parts, inserted_pair}
use Rattle.tree_cuts.specs.Lists.{Each, Pairwise}
use Rattle.tree_cuts.specs.Split.{IsTaking, MayShare, MaySplit, sharing_parts, split_plan, started}
use Rattle.tree_cuts.specs.Tree.{AreOrdered, IsPlaced, KeysBelow}
use Rattle.tree_cuts.proofs.Firsts.{start-plan, start-cuts, start-end, start-tree, start-quiet}
use Rattle.tree_cuts.proofs.Inserting.{insertion-plan, insertion-cuts, insertion-end, insertion-tree, insertion-quiet, insertion-prints, others-done, own-has}
use Rattle.tree_cuts.proofs.Lists.{each-both, pairwise-append, pairwise-parts}
use Rattle.tree_cuts.proofs.Reading.{LeafIsSame}
use Rattle.tree_cuts.proofs.Splitting.{split-is_plan, split-cuts, split-end, split-tree, split-quiet, split-free, split-ordered, split-prints, split-room}
use Rattle.tree_cuts.proofs.Stable.{insertion-stable, quiet-same, sharing-stable, tree-same}
use Rattle.fp_tree.specs.Changes.{IsBetweenLeaves, IsLeafChoice, MayBeSplit, MayGetFirst, SameGrowingRead, Splitting, both_leaves, getting_first, insertion, new_leaf, old_leaves, splitting}
use Rattle.fp_tree.proofs.Taking.{choice_named, choice_takes, noted_reads}

-- ── the order of keys after an insertion ──

below_same : (old new : List ℕ) (leaf other : ℕ) → leaf_pairs new leaf ≡ leaf_pairs old leaf → leaf_pairs new other ≡ leaf_pairs old other → KeysBelow old leaf other → KeysBelow new leaf other
below_same old new leaf other same more is =
    subst (λ (pairs : List Pair). Each (λ pair. Each (λ next. pair.key < next.key) pairs) (leaf_pairs new leaf)) (sym more)
    (subst (λ (pairs : List Pair). Each (λ pair. Each (λ next. pair.key < next.key) (leaf_pairs old other)) pairs) (sym same) is)

pairwise_map : (S : ℕ → Type 0) (R Q : ℕ → ℕ → Type 0) → ((x y : ℕ) → S x → S y → R x y → Q x y) → (xs : List ℕ) → Each S xs → Pairwise R xs → Pairwise Q xs
pairwise_map S R Q f [] each pairs = tt
pairwise_map S R Q f (x ∷ xs) each pairs = (each-both S (R x) (Q x) (λ y is r. f x y each.0 is r) xs each.1 pairs.0, pairwise_map S R Q f xs each.1 pairs.1)

module _ (words : List ℕ) (column : ℕ) (before after : List ℕ) (i : Insertion) (may : MayInsert words column before after i) where
  then_words : List ℕ
  then_words = finished (insertion_parts words i) words

  others : Each (LeafIsSame words then_words) before × Each (LeafIsSame words then_words) after
  unfolding then_words
  others = others-done words column before after i may

  has : (P : Pair → Type 0) → P (inserted_pair i) → Each P (leaf_pairs words i.leaf) → Each P (leaf_pairs then_words i.leaf)
  unfolding then_words
  has = own-has words column before after i may

  over : (x : ℕ) → LeafIsSame words then_words x → Each (λ pair. pair.key < i.key) (leaf_pairs words x) → KeysBelow words x i.leaf → KeysBelow then_words x i.leaf
  over x same above is = subst (λ (pairs : List Pair). Each (λ pair. Each (λ next. pair.key < next.key) (leaf_pairs then_words i.leaf)) pairs) (sym same.pairs)
      (each-both (λ pair. pair.key < i.key) (λ pair. Each (λ next. pair.key < next.key) (leaf_pairs words i.leaf)) (λ pair. Each (λ next. pair.key < next.key) (leaf_pairs then_words i.leaf))
      (λ pair lt each. has (λ next. pair.key < next.key) lt each) (leaf_pairs words x) above is)

  under : (x : ℕ) → LeafIsSame words then_words x → Each (λ pair. i.key < pair.key) (leaf_pairs words x) → KeysBelow words i.leaf x → KeysBelow then_words i.leaf x
  under x same below is = subst (λ (pairs : List Pair). Each (λ pair. Each (λ next. pair.key < next.key) pairs) (leaf_pairs then_words i.leaf)) (sym same.pairs)
      (has (λ pair. Each (λ next. pair.key < next.key) (leaf_pairs words x)) below is)

  same_order : (x y : ℕ) → LeafIsSame words then_words x → LeafIsSame words then_words y → KeysBelow words x y → KeysBelow then_words x y
  same_order x y a b is = below_same words then_words x y a.pairs b.pairs is

  both : (P Q R : ℕ → Type 0) (xs : List ℕ) → ((x : ℕ) → P x → Q x → R x) → Each P xs → Each Q xs → Each R xs
  both P Q R xs f ps qs = each-both P Q R f xs ps qs

  pub insertion_ordered : AreOrdered words (before ++ i.leaf ∷ after) → IsBetweenLeaves words i.key before after → AreOrdered (finished (insertion_parts words i) words) (before ++ i.leaf ∷ after)
  unfolding then_words
  insertion_ordered ordered between =
      let parts = pairwise-parts (KeysBelow words) before (i.leaf ∷ after) ordered in
      let after_pairs = both (LeafIsSame words then_words) (λ x. Each (λ pair. i.key < pair.key) (leaf_pairs words x)) (λ x. LeafIsSame words then_words x × Each (λ pair. i.key < pair.key) (leaf_pairs words x)) after (λ x a b. (a, b)) others.1 between.below in
      let before_pairs = both (LeafIsSame words then_words) (λ x. Each (λ pair. pair.key < i.key) (leaf_pairs words x)) (λ x. LeafIsSame words then_words x × Each (λ pair. pair.key < i.key) (leaf_pairs words x)) before (λ x a b. (a, b)) others.0 between.above in
      pairwise-append (KeysBelow then_words) before (i.leaf ∷ after)
      (pairwise_map (LeafIsSame words then_words) (KeysBelow words) (KeysBelow then_words) same_order before others.0 parts.0) (
        both (λ x. LeafIsSame words then_words x × Each (λ pair. i.key < pair.key) (leaf_pairs words x)) (KeysBelow words i.leaf) (KeysBelow then_words i.leaf) after (λ x a is. under x a.0 a.1 is) after_pairs parts.1.0,
        pairwise_map (LeafIsSame words then_words) (KeysBelow words) (KeysBelow then_words) same_order after others.1 parts.1.1,
      )
      (both (λ x. LeafIsSame words then_words x × Each (λ pair. pair.key < i.key) (leaf_pairs words x)) (λ x. Each (KeysBelow words x) (i.leaf ∷ after)) (λ x. Each (KeysBelow then_words x) (i.leaf ∷ after)) before
      (λ x a each. (over x a.0 a.1 each.0, each-both (LeafIsSame words then_words) (KeysBelow words x) (KeysBelow then_words x) (λ y more r. same_order x y a.0 more r) after others.1 each.1))
      before_pairs parts.2)

-- ── an insertion ──

pub insertion_holds : (column : ℕ) (before after : List ℕ) (i : Insertion) → HoldsOnWords (insertion column before after i)
insertion_holds column before after i = record {
  plan = λ base may. insertion-plan base column before after i may;
  cuts = λ base may. insertion-cuts base column before after i may;
  end = λ base may. record {
    one_more = insertion-end base column before after i may;
    tree = insertion-tree base column before after i may;
    quiet = insertion-quiet base column before after i may;
    prints = insertion-prints base column before after i may;
    ordered = insertion_ordered base column before after i may;
  };
  stable = λ old new same may. insertion-stable old new column before after i same may;
}

-- ── a first leaf ──

pub may_start : (column : ℕ) (choice : Choice) (base : List ℕ) → MayGetFirst column choice base → MayStart base column (new_leaf choice) (choice_parts base choice)
may_start column choice base may = record {
  tree = may.tree;
  quiet = may.quiet;
  room = let within = may.chosen.placed.within in omega (arith, within);
  placed = may.chosen.placed;
  taking_plan = (allocation_holds choice).plan base may.chosen.may;
  taking_cuts = choice_takes base column [] choice may.chosen.may may.chosen.beside_record tt;
  taken = choice_named base column choice may.chosen.may may.chosen.owner;
}

leaf_choice_same : (old new : List ℕ) (column : ℕ) (leaves : List ℕ) (choice : Choice) → SameGrowingRead column leaves choice old new → IsLeafChoice old column leaves choice → IsLeafChoice new column leaves choice
leaf_choice_same old new column leaves choice same is = record {
  may = (choice_stable choice old new same.choice_is is.may).0;
  owner = is.owner;
  placed = subst (λ (n : ℕ). IsPlaced n column (new_leaf choice)) (sym same.tree.size) is.placed;
  beside_record = is.beside_record;
  beside_leaves = is.beside_leaves;
}

pub first_holds : (column : ℕ) (choice : Choice) → HoldsOnWords (getting_first column choice)
first_holds column choice = record {
  plan = λ base may. start-plan base column (new_leaf choice) (choice_parts base choice) (may_start column choice base may);
  cuts = λ base may. start-cuts base column (new_leaf choice) (choice_parts base choice) (may_start column choice base may);
  end = λ base may. record {
    same = start-end base column (new_leaf choice) (choice_parts base choice) (may_start column choice base may);
    tree = start-tree base column (new_leaf choice) (choice_parts base choice) (may_start column choice base may);
    quiet = start-quiet base column (new_leaf choice) (choice_parts base choice) (may_start column choice base may);
  };
  stable = λ old new same may. (
    record {
      tree = tree-same old new column [] same.tree may.tree;
      quiet = quiet-same old new column [] same.tree may.quiet;
      chosen = leaf_choice_same old new column [] choice same may.chosen;
    },
    ap (λ (parts : List Part). first_plan column (new_leaf choice) parts) (choice_stable choice old new same.choice_is may.chosen.may).1,
  );
}

-- ── a split ──

module _ (s : Splitting) (base : List ℕ) (may : MayBeSplit s base) where
  started_words : List ℕ
  started_words = started base s.column (both_leaves s)

  started_same : MayMake started_words s.choice × (choice_parts started_words s.choice ≡ choice_parts base s.choice)
  unfolding started_words
  started_same = choice_stable s.choice base (started base s.column (both_leaves s))
      (noted_reads base (split_leaf_at s.column) (pointer_word s.leaf) may.noted s.choice (may.chosen.beside_record 5 (omega arith))) may.chosen.may

  started_size : length started_words ≡ length base
  unfolding started_words
  started_size = length-set base (split_leaf_at s.column) (pointer_word s.leaf)

  pub may_share : MayShare base s.column s.before s.after (both_leaves s)
  may_share = record {
    tree = may.tree;
    full = may.full;
    room = may.room;
    placed = may.chosen.placed;
    apart = may.apart;
  }

  pub may_split : MaySplit base s.column s.before s.after (both_leaves s) (choice_parts base s.choice)
  unfolding started_words
  may_split = record {
    share = may_share;
    quiet = may.quiet;
    taking_plan = (allocation_holds s.choice).plan base may.chosen.may;
    taking_cuts = subst (λ (parts : List Part). EachCut (IsTaking started_words s.column (old_leaves s)) parts started_words) started_same.1
        (choice_takes started_words s.column (old_leaves s) s.choice started_same.0 may.chosen.beside_record may.chosen.beside_leaves);
    taken = subst (λ (parts : List Part). get_or (finished parts started_words) (new_leaf_at s.column) 0 ≡ pointer_word (new_leaf s.choice)) started_same.1
        (choice_named started_words s.column s.choice started_same.0 may.chosen.owner);
  }

split_stable : (s : Splitting) (old new : List ℕ) → SameGrowingRead s.column (old_leaves s) s.choice old new → MayBeSplit s old
    → MayBeSplit s new × (split_plan new s.column (both_leaves s) (choice_parts new s.choice) ≡ split_plan old s.column (both_leaves s) (choice_parts old s.choice))
split_stable s old new same may =
    let sharing = sharing-stable old new s.column s.before s.after (both_leaves s) same.tree (may_share s old may) in (
      record {
        tree = sharing.0.tree;
        quiet = quiet-same old new s.column (old_leaves s) same.tree may.quiet;
        full = sharing.0.full;
        room = sharing.0.room;
        chosen = leaf_choice_same old new s.column (old_leaves s) s.choice same may.chosen;
        apart = may.apart;
        noted = may.noted;
      },
      ap (λ (parts : List Part). one_store (split_leaf_at s.column) (pointer_word s.leaf) ∷ choice_parts new s.choice ++ parts) sharing.1
          ∙ ap (λ (parts : List Part). one_store (split_leaf_at s.column) (pointer_word s.leaf) ∷ parts ++ sharing_parts old s.column (both_leaves s)) (choice_stable s.choice old new same.choice_is may.chosen.may).1,
    )

pub split_holds : (s : Splitting) → HoldsOnWords (splitting s)
split_holds s = record {
  plan = λ base may. split-is_plan base s.column s.before s.after (both_leaves s) (choice_parts base s.choice) (may_split s base may);
  cuts = λ base may. split-cuts base s.column s.before s.after (both_leaves s) (choice_parts base s.choice) (may_split s base may);
  end = λ base may. record {
    same = split-end base s.column s.before s.after (both_leaves s) (choice_parts base s.choice) (may_split s base may);
    tree = split-tree base s.column s.before s.after (both_leaves s) (choice_parts base s.choice) (may_split s base may);
    quiet = split-quiet base s.column s.before s.after (both_leaves s) (choice_parts base s.choice) (may_split s base may);
    free = split-free base s.column s.before s.after (both_leaves s) (choice_parts base s.choice) (may_split s base may);
    ordered = split-ordered base s.column s.before s.after (both_leaves s) (choice_parts base s.choice) (may_split s base may);
    prints = split-prints base s.column s.before s.after (both_leaves s) (choice_parts base s.choice) (may_split s base may);
    room = split-room base s.column s.before s.after (both_leaves s) (choice_parts base s.choice) (may_split s base may);
  };
  stable = split_stable s;
}
