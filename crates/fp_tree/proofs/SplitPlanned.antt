-- The plan of a split: the leaf that is split, and the tree behind the plan.
use Rattle.std.proofs.Common.{◌≡◌, ◌≢◌, ⊎_elim, ℕ, ◌+◌, ◌-◌, ◌/◌, ◌%◌, ◌^◌, ◌<◌, ◌≤◌, Bool, true, false, cond, eqb, List, [], ◌∷◌, ◌++◌, length, get_or, map, drop, refl, sym, ◌∙◌, ap, ap₂, subst, arith}
use Rattle.std.specs.Prelude.{Contains, IfSome, Option, Some, filter, insert, slice_get}
use Rattle.std.specs.List.{AllByRecursion, IsDistinct, flat_map, list_any}
use Rattle.std.proofs.lemmas.Bool.{both_ways, cases_Bool, eqb-true, ne_eqb, or_cases}
use Rattle.std.proofs.lemmas.Grind.{flat_map-append}
use Rattle.std.proofs.lemmas.List.{append_assoc, length-map}
use Rattle.std.proofs.lemmas.Map.Keys.{IsDistinct-cons}
use Rattle.std.proofs.lemmas.Map.Steps.{length-le_from_distinct_below}
use Rattle.fp_inner.specs.InnerState.{InnerState}
use Rattle.fp_inner.specs.Keys.{IsLeafFor, kind_of, leaf_pointer}
use Rattle.fp_inner.specs.declared.probe.Probe.{Probe}
use Rattle.fp_leaf.specs.declared.pair_list.Pair.{Pair as SlotPair}
use Rattle.heap_palloc.specs.Calls.{IsAllocated}
use Rattle.heap_palloc.specs.Choice.{choice_parts}
use Rattle.heap_palloc.specs.Index.{HeapIndex}
use Rattle.image_layout.specs.Blocks.{live_blocks}
use Rattle.image_layout.specs.Pointer.{pointer_word}
use Rattle.image_layout.specs.Records.{new_leaf_at, split_leaf_at}
use Rattle.image_layout.specs.declared.place.Place.{Place}
use Rattle.image_layout.specs.Trees.{is_full_leaf, leaf_list, leaf_pairs, pair_at}
use Rattle.pm_model.specs.declared.action.Action.{Action}
use Rattle.pm_model.specs.Plans.{Part, finished, one_store, part_actions, plan_of}
use Rattle.pm_model.proofs.Cuts.{length-finished}
use Rattle.shown_state.specs.Mending.{slots_by_key}
use Rattle.tree_cuts.specs.Lists.{Each, Pairwise}
use Rattle.tree_cuts.specs.Split.{MaySplit, sharing_parts, split_plan}
use Rattle.tree_cuts.specs.Tree.{AreApart, IsPlaced, KeysDiffer, is_key_below}
use Rattle.tree_cuts.proofs.Lists.{each-append, each-parts, filter-hit, filter-miss, pairwise-parts}
use Rattle.tree_cuts.proofs.Sorting.{pairwise-sorted-back}
use Rattle.tree_cuts.proofs.Splitting.{split-away}
use Rattle.fp_tree.specs.Changes.{MayBeSplit, Splitting, both_leaves, new_leaf, new_leaves, old_leaves}
use Rattle.fp_tree.specs.Halving.{ordered_pairs}
use Rattle.fp_tree.specs.Planned.{IsLeafAllocated, IsSplitPlanned, MayPlanLeaf, leaf_block, split_words}
use Rattle.fp_tree.specs.Searched.{IsLeafAt}
use Rattle.fp_tree.specs.Standing.{IsSoundLeaf, StandsFor, has_pairs, indexed, or_first, room_in}
use Rattle.fp_tree.specs.TreeState.{TreeState}
use Rattle.fp_tree.specs.declared.room.Room.{Room}
use Rattle.fp_tree.specs.declared.room.Room.TheVariants.{Free, LeafFull, NoLeaf}
use Rattle.fp_tree.proofs.ChangesHold.{may_split}
use Rattle.fp_tree.proofs.Chosen.{around, list_is, no_room, of_leaf, pointer_at, probe_leaf_is, room_is, same_pointer, size}
use Rattle.fp_tree.proofs.Copied.{greater_key}
use Rattle.fp_tree.proofs.Granted.{goes_on, leaf_choice, leaf_live, leaves_apart, leaves_live, new_within, noted}
use Rattle.fp_tree.proofs.PutIn.{match_here}
use Rattle.fp_tree.proofs.IndexSplit.{split_room, split_stands}

-- ── how many leaves there are ──

apart_by : (leaf other : ℕ) → AreApart leaf 104 other 104 → leaf / 104 ≢ other / 104
apart_by leaf other apart = λ same. ⊎_elim (λ h. omega (arith, h, same)) (λ h. omega (arith, h, same)) apart

distinct_from : (leaves : List ℕ) → Pairwise (λ leaf other. AreApart leaf 104 other 104) leaves → IsDistinct eqb (map (λ leaf. leaf / 104) leaves)
unfolding IsDistinct
distinct_from [] apart = tt
distinct_from (leaf ∷ leaves) apart = IsDistinct-cons eqb (leaf / 104) (map (λ leaf. leaf / 104) leaves) (others leaves apart.0) (distinct_from leaves apart.1)
  where
    others : (xs : List ℕ) → Each (λ other. AreApart leaf 104 other 104) xs → AllByRecursion (λ y. eqb (leaf / 104) y ≡ false) (map (λ leaf. leaf / 104) xs)
    others [] each = tt
    others (x ∷ xs) each = (ne_eqb (leaf / 104) (x / 104) (apart_by leaf x each.0), others xs each.1)

below_by : (size column : ℕ) (leaves : List ℕ) → Each (IsPlaced size column) leaves → (q : ℕ) → list_any (eqb q) (map (λ leaf. leaf / 104) leaves) ≡ true → q < size / 104
below_by size column [] placed q any = absurd (both_ways false refl any)
below_by size column (leaf ∷ leaves) placed q any = ⊎_elim
    (λ here. let same = eqb-true q (leaf / 104) here in let within = placed.0.within in omega (arith, same, within))
    (λ there. below_by size column leaves placed.1 q there)
    (or_cases (eqb q (leaf / 104)) (list_any (eqb q) (map (λ leaf. leaf / 104) leaves)) any)

few_leaves : (size column : ℕ) (leaves : List ℕ) → 32768 ≤ size → Each (IsPlaced size column) leaves → Pairwise (λ leaf other. AreApart leaf 104 other 104) leaves → length leaves + 1 < size
few_leaves size column leaves some placed apart =
    let most = length-le_from_distinct_below (map (λ leaf. leaf / 104) leaves) (size / 104) (distinct_from leaves apart) (below_by size column leaves placed) in
    let count = length-map leaves (λ leaf. leaf / 104) in
    omega (arith, most, count, some)

most_indexed : (words : List ℕ) (leaves : List ℕ) → length (indexed words leaves) ≤ length leaves
most_indexed words leaves = by (filter (has_pairs words) leaves) leaves (kept (has_pairs words) leaves)
  where
    kept : (p : ℕ → Bool) (xs : List ℕ) → length (filter p xs) ≤ length xs
    kept p [] = omega arith
    kept p (x ∷ xs) = let rest = kept p xs in ⊎_elim
        (λ hit. let same = ap (length {A = ℕ}) (filter-hit p x xs hit) in omega (arith, same, rest))
        (λ miss. let same = ap (length {A = ℕ}) (filter-miss p x xs miss) in omega (arith, same, rest))
        (cases_Bool (p x))

    by : (fs xs : List ℕ) → length fs ≤ length xs → length (or_first fs xs) ≤ length xs
    by (f ∷ fs) xs le = le
    by [] [] le = omega arith
    by [] (x ∷ xs) le = omega arith

-- ── the leaf that is split ──

-- the place that the index's pointer names
pub named_leaf : (tree inside : TreeState) (at pointer : ℕ) (found : Option Place) (leaf : Place) → inside ≡ tree → pointer ≡ leaf_pointer inside.inner.leaves at → found ≡ Some leaf → IfSome found (λ place. pointer ≡ pointer_word place.0)
    → leaf_pointer tree.inner.leaves at ≡ pointer_word leaf.0
named_leaf tree inside at pointer found leaf same pointer_is found_is named =
    ap (λ (t : TreeState). leaf_pointer t.inner.leaves at) (sym same) ∙ sym pointer_is
    ∙ match_here (Unit {0}) (λ (place : Place). pointer ≡ pointer_word place.0) found leaf found_is named

abbrev is_leaf_full : Room → Bool
is_leaf_full Free = false
is_leaf_full NoLeaf = false
is_leaf_full LeafFull = true

module _ (words : List ℕ) (tree : TreeState) (leaves : List ℕ) (stands : StandsFor words tree leaves) (probe : Probe) (kind : kind_of probe ≡ tree.inner.kind)
    (full : room_in words probe (leaf_list words tree.column) ≡ LeafFull) where
  pub has_leaves : 0 < length tree.inner.leaves
  has_leaves = by tree.inner.leaves refl
    where
      by : (xs : List (ℕ × ℕ)) → tree.inner.leaves ≡ xs → 0 < length xs
      by [] is = absurd (both_ways false refl (ap is_leaf_full (sym (no_room words tree leaves stands probe is) ∙ full)))
      by (x ∷ xs) is = omega arith

  module _ (at : ℕ) (for : IsLeafFor words tree.inner.leaves probe at) (leaf : ℕ) (named : leaf_pointer tree.inner.leaves at ≡ pointer_word leaf) where
    -- there are fewer leaves than words
    pub low_number : at + 1 ≤ length words
    low_number =
        let lt = for.within in let same = size words tree leaves stands in let most = most_indexed words leaves in let fewer = stands.in_words.tree_is.fewer in
        omega (arith, lt, same, most, fewer)

    at_leaf : IsLeafAt words tree probe leaf
    at_leaf = record { at = at; for = for; named = named }

    pub leaf_full : get_or words leaf 0 ≡ 2 ^ 48 - 1
    leaf_full = ⊎_elim
        (λ is. eqb-true (get_or words leaf 0) (2 ^ 48 - 1) is)
        (λ isn't. absurd (both_ways false refl (ap is_leaf_full (sym (room_is words tree leaves stands probe kind leaf at_leaf ∙ ap (λ (b : Bool). cond b LeafFull Free) isn't) ∙ full))))
        (cases_Bool (is_full_leaf words leaf))

    pub leaf_fits : leaf + 104 ≤ length words
    leaf_fits = (of_leaf words tree leaves stands probe kind leaf at_leaf (IsPlaced (length words) tree.column) stands.in_words.tree_is.placed).within

    pub leaf_sound : IsSoundLeaf words leaf
    leaf_sound = of_leaf words tree leaves stands probe kind leaf at_leaf (IsSoundLeaf words) stands.in_words.sound

    before : List ℕ
    before = (around words tree leaves stands probe kind leaf at_leaf).before

    after : List ℕ
    after = (around words tree leaves stands probe kind leaf at_leaf).after

    parted : leaves ≡ before ++ leaf ∷ after
    unfolding before after
    parted = (around words tree leaves stands probe kind leaf at_leaf).is

    standing : StandsFor words tree (before ++ leaf ∷ after)
    standing = subst (StandsFor words tree) parted stands

    pub leaf_distinct : Pairwise KeysDiffer (leaf_pairs words leaf)
    leaf_distinct =
        let all = pairwise-sorted-back is_key_below KeysDiffer (λ pair other apart e. apart (sym e)) (flat_map (leaf_pairs words) (before ++ leaf ∷ after)) standing.in_words.tree_is.distinct in
        let behind = pairwise-parts KeysDiffer (flat_map (leaf_pairs words) before) (leaf_pairs words leaf ++ flat_map (leaf_pairs words) after)
        (subst (Pairwise KeysDiffer) (flat_map-append (leaf_pairs words) before (leaf ∷ after)) all) in
        (pairwise-parts KeysDiffer (leaf_pairs words leaf) (flat_map (leaf_pairs words) after) behind.1).0

    -- its place in the index
    within : at < length (indexed words (before ++ leaf ∷ after))
    within = let lt = for.within in let same = size words tree (before ++ leaf ∷ after) standing in omega (arith, lt, same)

    here : leaf ≡ get_or (indexed words (before ++ leaf ∷ after)) at 0
    here = same_pointer leaf (get_or (indexed words (before ++ leaf ∷ after)) at 0) (sym named ∙ pointer_at words tree (before ++ leaf ∷ after) standing at for.within)

    -- ── the plan ──

    module _ (segments : length words % 32768 ≡ 0) (some : 32768 ≤ length words) (index : HeapIndex) (lane : ℕ) (may : MayPlanLeaf words index lane tree.column)
        (new : HeapIndex) (left : List Action) (first count : ℕ) (made : IsAllocated words index new lane (new_leaf_at tree.column) 104 left first count) where
      abbrev split : Splitting
      split = record { column = tree.column; before = before; leaf = leaf; after = after; choice = made.choice }

      listed : leaf_list words tree.column ≡ old_leaves split
      listed = list_is words tree (before ++ leaf ∷ after) standing

      be_split : MayBeSplit split words
      be_split = record {
        tree = standing.in_words.tree_is;
        quiet = standing.in_words.quiet;
        full = leaf_full;
        room = few_leaves (length words) tree.column (old_leaves split) some standing.in_words.tree_is.placed standing.in_words.tree_is.apart;
        chosen = leaf_choice words segments some tree.column (old_leaves split) standing.in_words.tree_is listed index lane may new left first count made;
        apart = leaves_apart words segments some tree.column (old_leaves split) standing.in_words.tree_is listed index lane may new left first count made;
        noted = noted words segments some tree.column index lane may;
      }

      abbrev taking : List Part
      taking = choice_parts words made.choice

      begins : MaySplit words tree.column before after (both_leaves split) taking
      begins = may_split split words be_split

      done : List ℕ
      done = split_words words split

      module _ (inner : InnerState) (kind_is : inner.kind ≡ tree.inner.kind) (key : ℕ) (key_is : key ≡ (pair_at words leaf (get_or (drop 24 (slots_by_key words false leaf)) 0 0)).key)
          (entries : inner.leaves ≡ insert tree.inner.leaves (at + 1) (key, pointer_word (new_leaf made.choice))) where
        abbrev after_tree : TreeState
        after_tree = record { column = tree.column; inner = inner }

        now_stands : StandsFor done after_tree (new_leaves split)
        unfolding done
        now_stands = split_stands words tree before after (both_leaves split) taking standing begins at within here inner kind_is key key_is entries

        has_room : room_in done probe (leaf_list done tree.column) ≡ Free
        unfolding done
        has_room = split_room words tree before after (both_leaves split) taking standing begins at within here inner kind_is key key_is entries probe kind for

        goes : MayPlanLeaf done new lane tree.column
        unfolding done
        goes =
            let live = leaves_live words segments some tree.column (old_leaves split) standing.in_words.tree_is listed index lane may new left first count made in
            let parts = each-parts (λ l. Contains (live_blocks (finished taking words)) (leaf_block l)) before (leaf ∷ after) live in
            goes_on words segments some tree.column (old_leaves split) standing.in_words.tree_is listed index lane may new left first count made
            done (length-finished (split_plan words tree.column (both_leaves split) taking) words)
            (λ w off_column off_leaves off_new. split-away words tree.column before after (both_leaves split) taking begins w off_column (each-parts (λ l. AreApart l 104 w 1) before (leaf ∷ after) off_leaves).1.0 off_new)
            (new_leaves split) (list_is done after_tree (new_leaves split) now_stands)
            (each-append (λ l. Contains (live_blocks (finished taking words)) (leaf_block l)) before (leaf ∷ new_leaf made.choice ∷ after) parts.0
            (parts.1.0, (leaf_live words segments some tree.column (old_leaves split) standing.in_words.tree_is listed index lane may new left first count made, parts.1.1)))

        pub split_planned : (begun noting allocated plan : List Action) → begun ≡ [] → noting ≡ begun ++ part_actions (one_store (split_leaf_at tree.column) (pointer_word leaf)) → allocated ≡ noting ++ left
            → plan ≡ allocated ++ plan_of (sharing_parts words tree.column (record { leaf = leaf; new = first })) → IsSplitPlanned words index new lane tree (record { column = tree.column; inner = inner }) probe plan
        unfolding done
        split_planned begun noting allocated plan nothing noting_is allocated_is plan_is =
            let one : Part = one_store (split_leaf_at tree.column) (pointer_word leaf) in
            let sharing : List Part = sharing_parts words tree.column (both_leaves split) in
            let noting_now : noting ≡ part_actions one = noting_is ∙ ap (λ (l : List Action). l ++ part_actions one) nothing in
            record {
              split = split;
              column_is = refl;
              leaf_is = probe_leaf_is words tree leaves stands probe kind leaf at_leaf;
              leaves_are = listed;
              chosen = made.chosen;
              through = made.through;
              may = be_split;
              plan_is = plan_is
                  ∙ ap (λ (n : ℕ). allocated ++ plan_of (sharing_parts words tree.column (record { leaf = leaf; new = n }))) made.planned.first_is
                  ∙ ap (λ (l : List Action). l ++ plan_of sharing) (allocated_is ∙ ap₂ (λ (l m : List Action). l ++ m) noting_now made.planned.plan_is)
                  ∙ append_assoc (part_actions one) (plan_of taking) (plan_of sharing)
                  ∙ ap (λ (l : List Action). part_actions one ++ l) (sym (flat_map-append part_actions taking sharing));
              same_column = refl;
              goes_on = record { stands = (new_leaves split, now_stands); may = goes };
              room = has_room;
            }

    -- ── the whole plan, by what the code knows ──

    module _ (segments : length words % 32768 ≡ 0) (some : 32768 ≤ length words) (index : HeapIndex) (lane : ℕ) (may : MayPlanLeaf words index lane tree.column) (new : HeapIndex) where
      pub new_fits : (column first : ℕ) (noting allocated : List Action) → column ≡ tree.column → IsLeafAllocated words index new lane column first noting allocated → first + 104 ≤ length words
      new_fits column first noting allocated column_is taken =
          let made = subst (λ (c : ℕ). IsAllocated words index new lane (new_leaf_at c) 104 taken.left first taken.size) column_is taken.allocated in
          let inside = new_within words segments some tree.column (before ++ leaf ∷ after) standing.in_words.tree_is (list_is words tree (before ++ leaf ∷ after) standing) index lane may new taken.left first taken.size made in
          let is = made.planned.first_is in
          omega (arith, inside, is)

      pub planned_split : (column first : ℕ) (begun noting allocated plan : List Action) → column ≡ tree.column → begun ≡ [] → noting ≡ begun ++ part_actions (one_store (split_leaf_at column) (pointer_word leaf))
          → IsLeafAllocated words index new lane column first noting allocated → plan ≡ allocated ++ plan_of (sharing_parts words column (record { leaf = leaf; new = first }))
          → (pairs : List SlotPair) → pairs ≡ ordered_pairs words leaf → (pair : SlotPair) → slice_get pairs 24 ≡ Some pair
          → (inner : InnerState) → inner.kind ≡ tree.inner.kind → inner.leaves ≡ insert tree.inner.leaves (at + 1) (pair.key, pointer_word first)
          → IsSplitPlanned words index new lane tree (record { column = column; inner = inner }) probe plan
      planned_split column first begun noting allocated plan column_is nothing noting_is taken plan_is pairs sorted pair found inner kind_is entries =
          let made = subst (λ (c : ℕ). IsAllocated words index new lane (new_leaf_at c) 104 taken.left first taken.size) column_is taken.allocated in
          subst (λ (c : ℕ). IsSplitPlanned words index new lane tree (record { column = c; inner = inner }) probe plan) (sym column_is)
          (split_planned segments some index lane may new taken.left first taken.size made inner kind_is pair.key (greater_key words leaf leaf_full pairs sorted pair found)
          (entries ∙ ap (λ (place : ℕ). insert tree.inner.leaves (at + 1) (pair.key, pointer_word place)) made.planned.first_is)
          begun noting allocated plan nothing (noting_is ∙ ap (λ (c : ℕ). begun ++ part_actions (one_store (split_leaf_at c) (pointer_word leaf))) column_is) taken.plan_is
          (plan_is ∙ ap (λ (c : ℕ). allocated ++ plan_of (sharing_parts words c (record { leaf = leaf; new = first }))) column_is))
