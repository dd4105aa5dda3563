-- The index after a split: the new leaf stands behind the one that was split.
use Rattle.std.proofs.Common.{◌≡◌, ◌≢◌, ◌⊎◌, inl, inr, ⊎_elim, ℕ, zero, suc, ◌+◌, ◌-◌, ◌^◌, ◌<◌, ◌≤◌, Bool, true, false, cond, eqb, ltb, List, [], ◌∷◌, ◌++◌, length, get_or, map, take, drop, refl, sym, ◌∙◌, ap, subst, arith}
use Rattle.std.specs.Prelude.{Any, filter, insert}
use Rattle.std.proofs.lemmas.Bool.{cases_Bool, cases_eq, cases_lt, le-ltb, lt-ltb, ne_eqb, not_from_false}
use Rattle.std.proofs.lemmas.List.{length-append, map-append}
use Rattle.std.proofs.lemmas.List.Edits.{get_or-insert_above, get_or-insert_at, get_or-insert_below, length-insert}
use Rattle.std.proofs.lemmas.List.Elements.{filter-append}
use Rattle.pm_model.specs.Plans.{Part, finished}
use Rattle.image_layout.specs.Places.{below}
use Rattle.image_layout.specs.Pointer.{pointer_word}
use Rattle.image_layout.specs.Trees.{Pair, is_full_leaf, key_below, leaf_list, leaf_pairs, pair_at}
use Rattle.shown_state.specs.Mending.{bitmap_with, slots_by_key}
use Rattle.fp_inner.specs.InnerState.{InnerState}
use Rattle.fp_inner.specs.Keys.{IsLeafFor, is_below, kind_of, least_key}
use Rattle.fp_inner.specs.declared.probe.Probe.{Probe}
use Rattle.fp_inner.specs.declared.probe.Probe.TheVariants.{Int}
use Rattle.tree_cuts.specs.Lists.{Each, Pairwise}
use Rattle.tree_cuts.specs.Split.{Split, MaySplit, split_plan}
use Rattle.tree_cuts.specs.Tree.{AreApart, KeysDiffer}
use Rattle.tree_cuts.proofs.Halves.{greatest-length, halves-sum, keeps, some-power, least-length}
use Rattle.tree_cuts.proofs.Lists.{each-append, each-both, each-map, each-mapped, each-parts, filter-hit}
use Rattle.tree_cuts.proofs.Ordered.{gone-have, greater-least, kept-have, whole-above}
use Rattle.tree_cuts.proofs.Reading.{LeafIsSame}
use Rattle.tree_cuts.proofs.Sharing.{distinct-leaf, leaves-differ}
use Rattle.tree_cuts.proofs.Splitting.{split-bitmap, split-kept, split-moved, split-new_bitmap, split-ordered, split-others, split-prints, split-quiet, split-tree}
use Rattle.fp_tree.specs.Standing.{IsIndexOf, IsLeastKey, IsSoundLeaf, StandsFor, has_pairs, indexed, or_first, room_in}
use Rattle.fp_tree.specs.declared.room.Room.TheVariants.{Free, LeafFull}
use Rattle.fp_tree.specs.TreeState.{TreeState}
use Rattle.fp_tree.proofs.Around.{each_any, each_at, each_indexed, pairwise_at, pairwise_indexed}
use Rattle.fp_tree.proofs.Chosen.{any_here, any_there, pointer_at, room_is, size}
use Rattle.fp_tree.proofs.Search.{int_probe}
use Rattle.fp_tree.proofs.IndexKept.{codes_each, filtered_same, least_same, sound_from, sound_same}

-- ── lists ──

map_take : {X Y : Type 0} (f : X → Y) (n : ℕ) (xs : List X) → map f (take n xs) ≡ take n (map f xs)
map_take f zero xs = refl
map_take f (suc n) [] = refl
map_take f (suc n) (x ∷ xs) = ap (λ ys. f x ∷ ys) (map_take f n xs)

map_drop : {X Y : Type 0} (f : X → Y) (n : ℕ) (xs : List X) → map f (drop n xs) ≡ drop n (map f xs)
map_drop f zero xs = refl
map_drop f (suc n) [] = refl
map_drop f (suc n) (x ∷ xs) = map_drop f n xs

pub map_insert : {X Y : Type 0} (f : X → Y) (xs : List X) (n : ℕ) (x : X) → map f (insert xs n x) ≡ insert (map f xs) n (f x)
map_insert f xs n x = map-append f (take n xs) (x ∷ drop n xs) ∙ ap (λ ys. ys ++ f x ∷ map f (drop n xs)) (map_take f n xs) ∙ ap (λ ys. take n (map f xs) ++ f x ∷ ys) (map_drop f n xs)

insert_behind : (before : List ℕ) (leaf new : ℕ) (after : List ℕ) → insert (before ++ leaf ∷ after) (suc (length before)) new ≡ before ++ leaf ∷ new ∷ after
insert_behind [] leaf new after = refl
insert_behind (x ∷ before) leaf new after = ap (λ (xs : List ℕ). x ∷ xs) (insert_behind before leaf new after)

or_first_some : (before : List ℕ) (leaf : ℕ) (after others : List ℕ) → or_first (before ++ leaf ∷ after) others ≡ before ++ leaf ∷ after
or_first_some [] leaf after others = refl
or_first_some (x ∷ before) leaf after others = refl

get_or_middle : (before : List ℕ) (leaf : ℕ) (after : List ℕ) → get_or (before ++ leaf ∷ after) (length before) 0 ≡ leaf
get_or_middle [] leaf after = refl
get_or_middle (x ∷ before) leaf after = get_or_middle before leaf after

-- one of the pairs has a key, or none has
has_key : (key : ℕ) (pairs : List Pair) → Any (λ pair. pair.key ≡ key) pairs ⊎ Each (λ pair. pair.key ≢ key) pairs
has_key key [] = inr tt
has_key key (pair ∷ pairs) = ⊎_elim
    (λ (here : pair.key ≡ key). inl (any_here (λ p. p.key ≡ key) pair pairs here))
    (λ apart. ⊎_elim (λ there. inl (any_there (λ p. p.key ≡ key) pair pairs there)) (λ none. inr (apart, none)) (has_key key pairs))
    (cases_eq pair.key key)

-- ── the split ──

module _ (words : List ℕ) (tree : TreeState) (before after : List ℕ) (s : Split) (taking : List Part) (stands : StandsFor words tree (before ++ s.leaf ∷ after))
    (may : MaySplit words tree.column before after s taking) where
  done : List ℕ
  done = finished (split_plan words tree.column s taking) words

  abbrev old : List ℕ
  old = before ++ s.leaf ∷ after

  abbrev new : List ℕ
  new = before ++ s.leaf ∷ s.new ∷ after

  abbrev full : get_or words s.leaf 0 ≡ 2 ^ 48 - 1
  full = may.share.full

  abbrev greater : List ℕ
  greater = drop 24 (slots_by_key words false s.leaf)

  others : Each (LeafIsSame words done) before × Each (LeafIsSame words done) after
  unfolding done
  others = split-others words tree.column before after s taking may

  bitmap : get_or done s.leaf 0 ≡ bitmap_with (take 24 (slots_by_key words false s.leaf))
  unfolding done
  bitmap = split-bitmap words tree.column before after s taking may

  new_bitmap : get_or done s.new 0 ≡ 2 ^ 24 - 1
  unfolding done
  new_bitmap = split-new_bitmap words tree.column before after s taking may

  moved : leaf_pairs done s.new ≡ map (pair_at words s.leaf) greater
  unfolding done
  moved = split-moved words tree.column before after s taking may

  kept : leaf_pairs done s.leaf ≡ map (pair_at words s.leaf) (filter (keeps words s.leaf may.share.full) (below 48))
  unfolding done
  kept = split-kept words tree.column before after s taking may

  distinct : Pairwise KeysDiffer (leaf_pairs words s.leaf)
  distinct = distinct-leaf words tree.column before after s may.share

  -- ── the leaves of the index ──

  some : (leaf bits : ℕ) (ws : List ℕ) → get_or ws leaf 0 ≡ bits → 0 < bits → has_pairs ws leaf ≡ true
  some leaf bits ws is positive = not_from_false (eqb (get_or ws leaf 0) 0) (ne_eqb (get_or ws leaf 0) 0 (λ none. omega (arith, is, none, positive)))

  had : has_pairs words s.leaf ≡ true
  had = some s.leaf (2 ^ 48 - 1) words may.share.full (omega arith)

  has : has_pairs done s.leaf ≡ true
  has = some s.leaf (bitmap_with (take 24 (slots_by_key words false s.leaf))) done bitmap (some-power (take 24 (slots_by_key words false s.leaf)) (let count = least-length words s.leaf may.share.full in omega (arith, count)))

  new_has : has_pairs done s.new ≡ true
  new_has = some s.new (2 ^ 24 - 1) done new_bitmap (omega arith)

  abbrev first : List ℕ
  first = filter (has_pairs words) before

  abbrev last : List ℕ
  last = filter (has_pairs words) after

  old_indexed : indexed words old ≡ first ++ s.leaf ∷ last
  old_indexed =
      ap (λ (xs : List ℕ). or_first xs old) (filter-append (has_pairs words) before (s.leaf ∷ after) ∙ ap (λ (xs : List ℕ). first ++ xs) (filter-hit (has_pairs words) s.leaf after had))
      ∙ or_first_some first s.leaf last old

  new_indexed : indexed done new ≡ first ++ s.leaf ∷ s.new ∷ last
  new_indexed =
      ap (λ (xs : List ℕ). or_first xs new)
      (filter-append (has_pairs done) before (s.leaf ∷ s.new ∷ after)
      ∙ ap (λ (xs : List ℕ). xs ++ filter (has_pairs done) (s.leaf ∷ s.new ∷ after)) (filtered_same words done before others.0)
      ∙ ap (λ (xs : List ℕ). first ++ xs)
      (filter-hit (has_pairs done) s.leaf (s.new ∷ after) has ∙ ap (λ (xs : List ℕ). s.leaf ∷ xs) (filter-hit (has_pairs done) s.new after new_has ∙ ap (λ (xs : List ℕ). s.new ∷ xs) (filtered_same words done after others.1))))
      ∙ or_first_some first s.leaf (s.new ∷ last) new

  -- ── the least keys ──

  leaf_least : (key : ℕ) → IsLeastKey words s.leaf key → IsLeastKey done s.leaf key
  leaf_least key least = record {
    has = subst (λ (pairs : List Pair). Any (λ pair. pair.key ≡ key) pairs) (sym kept) (⊎_elim
        (λ any. any)
        (λ none. absurd (each_any (λ pair. key < pair.key) (λ pair. pair.key ≡ key) ⊥ (leaf_pairs words s.leaf)
        (whole-above words s.leaf may.share.full distinct key (each-both (λ pair. key ≤ pair.key) (λ pair. pair.key ≢ key) (λ pair. key < pair.key) (λ pair le apart. omega (arith, le, apart))
        (map (pair_at words s.leaf) (filter (keeps words s.leaf may.share.full) (below 48))) (kept-have words s.leaf may.share.full (λ pair. key ≤ pair.key) least.least) none))
        least.has (λ pair lt is. omega (arith, lt, is))))
        (has_key key (map (pair_at words s.leaf) (filter (keeps words s.leaf may.share.full) (below 48)))));
    least = subst (Each (λ pair. key ≤ pair.key)) (sym kept) (kept-have words s.leaf may.share.full (λ pair. key ≤ pair.key) least.least);
  }

  abbrev new_key : ℕ
  new_key = (pair_at words s.leaf (get_or greater 0 0)).key

  new_least : IsLeastKey done s.new new_key
  new_least = record {
    has = subst (λ (pairs : List Pair). Any (λ pair. pair.key ≡ new_key) pairs) (sym moved) (first_pair greater (greatest-length words s.leaf may.share.full));
    least = subst (Each (λ pair. new_key ≤ pair.key)) (sym moved) (each-mapped (λ pair. new_key ≤ pair.key) (pair_at words s.leaf) greater (greater-least words s.leaf may.share.full));
  }
    where
      first_pair : (slots : List ℕ) → length slots ≡ 24 → Any (λ pair. pair.key ≡ (pair_at words s.leaf (get_or slots 0 0)).key) (map (pair_at words s.leaf) slots)
      first_pair [] count = absurd (omega (arith, count))
      first_pair (slot ∷ slots) count = any_here (λ pair. pair.key ≡ (pair_at words s.leaf slot).key) (pair_at words s.leaf slot) (map (pair_at words s.leaf) slots) refl

  same_or_own : Each (λ x. LeafIsSame words done x ⊎ (x ≡ s.leaf)) old
  same_or_own = each-append (λ x. LeafIsSame words done x ⊎ (x ≡ s.leaf)) before (s.leaf ∷ after)
      (each-map (LeafIsSame words done) (λ x. LeafIsSame words done x ⊎ (x ≡ s.leaf)) (λ x is. inl is) before others.0)
      (inr refl, each-map (LeafIsSame words done) (λ x. LeafIsSame words done x ⊎ (x ≡ s.leaf)) (λ x is. inl is) after others.1)

  -- ── with one leaf more behind the one that is split ──

  module _ (at : ℕ) (within : at < length (indexed words old)) (here : s.leaf ≡ get_or (indexed words old) at 0) where
    place_is : at ≡ length first
    place_is = ⊎_elim
        (λ low. absurd (differ at (length first) low (let count = ap length old_indexed in let all = length-append first (s.leaf ∷ last) in omega (arith, count, all)) (sym here) middle))
        (λ high. ⊎_elim (λ more. absurd (differ (length first) at more within middle (sym here))) (λ same. omega (arith, high, same)) (cases_lt (length first) at))
        (cases_lt at (length first))
      where
        middle : get_or (indexed words old) (length first) 0 ≡ s.leaf
        middle = ap (λ (xs : List ℕ). get_or xs (length first) 0) old_indexed ∙ get_or_middle first s.leaf last

        differ : (i j : ℕ) → i < j → j < length (indexed words old) → get_or (indexed words old) i 0 ≡ s.leaf → get_or (indexed words old) j 0 ≡ s.leaf → ⊥
        differ i j lt inside one other = leaves-differ (get_or (indexed words old) i 0) (get_or (indexed words old) j 0)
            (pairwise_at (λ leaf more. AreApart leaf 104 more 104) (indexed words old) (pairwise_indexed (λ leaf more. AreApart leaf 104 more 104) words old stands.in_words.tree_is.apart) i j lt inside) (one ∙ sym other)

    next_place : at + 1 ≡ suc (length first)
    next_place = let is = place_is in omega (arith, is)

    indexed_is : indexed done new ≡ insert (indexed words old) (at + 1) s.new
    indexed_is = new_indexed ∙ sym (ap (λ (n : ℕ). insert (indexed words old) n s.new) next_place ∙ ap (λ (xs : List ℕ). insert xs (suc (length first)) s.new) old_indexed ∙ insert_behind first s.leaf s.new last)

    module _ (inner : InnerState) (kind : inner.kind ≡ tree.inner.kind) (key : ℕ) (key_is : key ≡ new_key) (leaves : inner.leaves ≡ insert tree.inner.leaves (at + 1) (key, pointer_word s.new)) where
      count : length tree.inner.leaves ≡ length (indexed words old)
      count = size words tree old stands

      inside : at + 1 ≤ length tree.inner.leaves
      inside = let same = count in omega (arith, same, within)

      inside_too : at + 1 ≤ length (indexed words old)
      inside_too = omega (arith, within)

      was_least : (k : ℕ) → 0 < k → k < length tree.inner.leaves → IsLeastKey done (get_or (indexed words old) k 0) (least_key tree.inner.leaves k)
      was_least k some lt =
          let was = stands.index.keys k some lt in
          ⊎_elim (λ same. least_same words done (get_or (indexed words old) k 0) (least_key tree.inner.leaves k) same was)
          (λ own. subst (λ (leaf : ℕ). IsLeastKey done leaf (least_key tree.inner.leaves k)) (sym own) (leaf_least (least_key tree.inner.leaves k) (subst (λ (leaf : ℕ). IsLeastKey words leaf (least_key tree.inner.leaves k)) own was)))
          (each_at (λ x. LeafIsSame words done x ⊎ (x ≡ s.leaf)) (indexed words old) (each_indexed (λ x. LeafIsSame words done x ⊎ (x ≡ s.leaf)) words old same_or_own) k 0 (let same = count in omega (arith, same, lt)))

      now_least : (k : ℕ) → 0 < k → k < length tree.inner.leaves + 1 → IsLeastKey done (get_or (insert (indexed words old) (at + 1) s.new) k 0) (least_key (insert tree.inner.leaves (at + 1) (key, pointer_word s.new)) k)
      now_least k some lt = ⊎_elim
          (λ low. moved_to (get_or-insert_below (indexed words old) (at + 1) s.new 0 k low inside_too) (get_or-insert_below tree.inner.leaves (at + 1) (key, pointer_word s.new) (0, 0) k low inside)
          (was_least k some (let le = inside in omega (arith, low, le))))
          (λ high. ⊎_elim
          (λ (same : k ≡ at + 1). moved_to (ap (λ (n : ℕ). get_or (insert (indexed words old) (at + 1) s.new) n 0) same ∙ get_or-insert_at (indexed words old) (at + 1) s.new 0 inside_too)
          (ap (λ (n : ℕ). get_or (insert tree.inner.leaves (at + 1) (key, pointer_word s.new)) n (0, 0)) same ∙ get_or-insert_at tree.inner.leaves (at + 1) (key, pointer_word s.new) (0, 0) inside)
          (subst (IsLeastKey done s.new) (sym key_is) new_least))
          (λ apart.
          let back : k ≡ k - 1 + 1 = omega (arith, some) in
          let from : at + 1 ≤ k - 1 = omega (arith, high, apart) in
          moved_to (ap (λ (n : ℕ). get_or (insert (indexed words old) (at + 1) s.new) n 0) back ∙ get_or-insert_above (indexed words old) (at + 1) s.new 0 (k - 1) from inside_too)
          (ap (λ (n : ℕ). get_or (insert tree.inner.leaves (at + 1) (key, pointer_word s.new)) n (0, 0)) back ∙ get_or-insert_above tree.inner.leaves (at + 1) (key, pointer_word s.new) (0, 0) (k - 1) from inside)
          (was_least (k - 1) (omega (arith, from)) (omega (arith, lt, some))))
          (cases_eq k (at + 1)))
          (cases_lt k (at + 1))
        where
          moved_to : {leaf : ℕ} {entry : ℕ × ℕ} → get_or (insert (indexed words old) (at + 1) s.new) k 0 ≡ leaf → get_or (insert tree.inner.leaves (at + 1) (key, pointer_word s.new)) k (0, 0) ≡ entry
              → IsLeastKey done leaf entry.0 → IsLeastKey done (get_or (insert (indexed words old) (at + 1) s.new) k 0) (least_key (insert tree.inner.leaves (at + 1) (key, pointer_word s.new)) k)
          moved_to {leaf} {entry} leaf_is entry_is least =
              subst (λ (x : ℕ). IsLeastKey done x (get_or (insert tree.inner.leaves (at + 1) (key, pointer_word s.new)) k (0, 0)).0) (sym leaf_is)
              (subst (λ (x : ℕ × ℕ). IsLeastKey done leaf x.0) (sym entry_is) least)

      index : IsIndexOf done new inner
      index = record {
        kind = kind ∙ stands.index.kind;
        pointers = ap (map (λ entry. entry.1)) leaves ∙ map_insert (λ (entry : ℕ × ℕ). entry.1) tree.inner.leaves (at + 1) (key, pointer_word s.new)
            ∙ ap (λ (xs : List ℕ). insert xs (at + 1) (pointer_word s.new)) stands.index.pointers ∙ sym (map_insert pointer_word (indexed words old) (at + 1) s.new)
            ∙ ap (map pointer_word) (sym indexed_is);
        keys = λ k some lt.
            subst (λ (xs : List ℕ). IsLeastKey done (get_or xs k 0) (least_key inner.leaves k)) (sym indexed_is)
            (subst (λ (es : List (ℕ × ℕ)). IsLeastKey done (get_or (insert (indexed words old) (at + 1) s.new) k 0) (least_key es k)) (sym leaves)
            (now_least k some (let all = ap length leaves in let more = length-insert tree.inner.leaves (at + 1) (key, pointer_word s.new) inside in omega (arith, all, more, lt))));
      }

      -- ── its leaves ──

      sound : Each (IsSoundLeaf done) new
      sound =
          let was = each-parts (IsSoundLeaf words) before (s.leaf ∷ after) stands.in_words.sound in
          each-append (IsSoundLeaf done) before (s.leaf ∷ s.new ∷ after)
          (each-both (LeafIsSame words done) (IsSoundLeaf words) (IsSoundLeaf done) (sound_same words done) before others.0 was.0) (
            sound_from done s.leaf (let both = halves-sum words s.leaf may.share.full in let is = bitmap in omega (arith, both, is))
                (subst (Each (λ pair. pair.code < 2 ^ 32)) (sym kept) (kept-have words s.leaf may.share.full (λ pair. pair.code < 2 ^ 32) (codes_each words s.leaf was.1.0))),
            (
              sound_from done s.new (let is = new_bitmap in omega (arith, is))
                  (subst (Each (λ pair. pair.code < 2 ^ 32)) (sym moved) (gone-have words s.leaf may.share.full (λ pair. pair.code < 2 ^ 32) (codes_each words s.leaf was.1.0))),
              each-both (LeafIsSame words done) (IsSoundLeaf words) (IsSoundLeaf done) (sound_same words done) after others.1 was.1.1,
            ),
          )

      pub split_stands : StandsFor (finished (split_plan words tree.column s taking) words) (record { column = tree.column; inner = inner }) (before ++ s.leaf ∷ s.new ∷ after)
      unfolding done
      split_stands = record {
        in_words = record {
          tree_is = split-tree words tree.column before after s taking may;
          quiet = split-quiet words tree.column before after s taking may;
          ordered = split-ordered words tree.column before after s taking may stands.in_words.ordered;
          prints = split-prints words tree.column before after s taking may stands.in_words.prints;
          sound = sound;
        };
        index = index;
      }

      -- ── there is room for what is looked for ──

      same_below : (wanted k : ℕ) → is_below done (Int wanted) k ≡ is_below words (Int wanted) k
      unfolding is_below key_below
      same_below wanted k = refl

      module _ (probe : Probe) (kind_is : kind_of probe ≡ tree.inner.kind) (for : IsLeafFor words tree.inner.leaves probe at) where
        wanted : ℕ
        wanted = (int_probe probe (kind_is ∙ stands.index.kind)).0

        probe_is : probe ≡ Int wanted
        unfolding wanted
        probe_is = (int_probe probe (kind_is ∙ stands.index.kind)).1

        below_is : (k : ℕ) → is_below done probe k ≡ is_below words probe k
        below_is k = ap (λ (p : Probe). is_below done p k) probe_is ∙ same_below wanted k ∙ ap (λ (p : Probe). is_below words p k) (sym probe_is)

        abbrev inserted : List (ℕ × ℕ)
        inserted = insert tree.inner.leaves (at + 1) (key, pointer_word s.new)

        inserted_size : length inserted ≡ length tree.inner.leaves + 1
        inserted_size = length-insert tree.inner.leaves (at + 1) (key, pointer_word s.new) inside

        -- what is looked for stands in the leaf that was split, or in the new one
        for_by : (place : ℕ) → at ≤ place → place ≤ at + 1 → is_below words probe key ≡ ltb place (at + 1) → IsLeafFor done inserted probe place
        for_by place from to new_is = record {
          within = (let size_is = inserted_size in let le = for.within in omega (arith, size_is, le, to));
          each = λ other some lt. below_is (least_key inserted other) ∙ ⊎_elim
              (λ low. ap (λ (entry : ℕ × ℕ). is_below words probe entry.0) (get_or-insert_below tree.inner.leaves (at + 1) (key, pointer_word s.new) (0, 0) other low inside)
              ∙ for.each other some (let le = for.within in omega (arith, low, le))
              ∙ le-ltb at other (omega (arith, low)) ∙ sym (le-ltb place other (omega (arith, low, from))))
              (λ high. ⊎_elim
              (λ (same : other ≡ at + 1). ap (λ (n : ℕ). is_below words probe (least_key inserted n)) same
              ∙ ap (λ (entry : ℕ × ℕ). is_below words probe entry.0) (get_or-insert_at tree.inner.leaves (at + 1) (key, pointer_word s.new) (0, 0) inside)
              ∙ new_is ∙ ap (λ (n : ℕ). ltb place n) (sym same))
              (λ apart.
              let back : other ≡ other - 1 + 1 = omega (arith, some) in
              let past : at + 1 ≤ other - 1 = omega (arith, high, apart) in
              ap (λ (n : ℕ). is_below words probe (least_key inserted n)) back
              ∙ ap (λ (entry : ℕ × ℕ). is_below words probe entry.0) (get_or-insert_above tree.inner.leaves (at + 1) (key, pointer_word s.new) (0, 0) (other - 1) past inside)
              ∙ for.each (other - 1) (omega (arith, past)) (let size_is = inserted_size in omega (arith, lt, size_is, some))
              ∙ lt-ltb at (other - 1) (omega (arith, past)) ∙ sym (lt-ltb place other (omega (arith, to, high, apart))))
              (cases_eq other (at + 1)))
              (cases_lt other (at + 1));
        }

        abbrev after_tree : TreeState
        after_tree = record { column = tree.column; inner = inner }

        stands_here : StandsFor done after_tree new
        unfolding done
        stands_here = split_stands

        not_full : (leaf : ℕ) → (leaf ≡ s.leaf) ⊎ (leaf ≡ s.new) → is_full_leaf done leaf ≡ false
        not_full leaf is = ⊎_elim
            (λ (e : leaf ≡ s.leaf). ne_eqb (get_or done leaf 0) (2 ^ 48 - 1) (λ whole.
            let same = ap (λ (l : ℕ). get_or done l 0) e in let bits = bitmap in let both = halves-sum words s.leaf may.share.full in
            let positive = some-power (drop 24 (slots_by_key words false s.leaf)) (let long = greatest-length words s.leaf may.share.full in omega (arith, long)) in omega (arith, same, whole, bits, both, positive)))
            (λ (e : leaf ≡ s.new). ne_eqb (get_or done leaf 0) (2 ^ 48 - 1) (λ whole. let same = ap (λ (l : ℕ). get_or done l 0) e in let bits = new_bitmap in omega (arith, same, whole, bits))) is

        room_at : (place leaf : ℕ) → IsLeafFor done inserted probe place → leaf ≡ get_or (insert (indexed words old) (at + 1) s.new) place 0 → (leaf ≡ s.leaf) ⊎ (leaf ≡ s.new)
            → room_in done probe (leaf_list done tree.column) ≡ Free
        room_at place leaf is leaf_is one = unfolded stands_here
          where
            here_is : IsLeafFor done inner.leaves probe place
            here_is = subst (λ (es : List (ℕ × ℕ)). IsLeafFor done es probe place) (sym leaves) is

            unfolded : StandsFor done after_tree new → room_in done probe (leaf_list done tree.column) ≡ Free
            unfolded standing =
                room_is done after_tree new standing probe (kind_is ∙ sym kind) leaf
                (record { at = place; for = here_is; named = pointer_at done after_tree new standing place here_is.within ∙ ap (λ (xs : List ℕ). pointer_word (get_or xs place 0)) indexed_is ∙ ap pointer_word (sym leaf_is) })
                ∙ ap (λ (b : Bool). cond b LeafFull Free) (not_full leaf one)

        pub split_room : room_in (finished (split_plan words tree.column s taking) words) probe (leaf_list (finished (split_plan words tree.column s taking) words) tree.column) ≡ Free
        unfolding done
        split_room = ⊎_elim
            (λ under. room_at at s.leaf (for_by at (omega arith) (omega arith) (under ∙ sym (lt-ltb at (at + 1) (omega arith))))
            (sym (get_or-insert_below (indexed words old) (at + 1) s.new 0 at (omega arith) inside_too ∙ sym here)) (inl refl))
            (λ over. room_at (at + 1) s.new (for_by (at + 1) (omega arith) (omega arith) (over ∙ sym (le-ltb (at + 1) (at + 1) (omega arith))))
            (sym (get_or-insert_at (indexed words old) (at + 1) s.new 0 inside_too)) (inr refl))
            (cases_Bool (is_below words probe key))
