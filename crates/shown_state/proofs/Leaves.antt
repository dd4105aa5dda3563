-- Where the rule of trees is kept, the walk along next words reaches all leaves.
use Rattle.std.proofs.Common.{◌≡◌, ◌⊎◌, inl, inr, ⊎_elim, ℕ, zero, suc, ◌+◌, ◌^◌, ◌<◌, ◌≤◌, Bool, true, false, not, ◌&&◌, ◌||◌, ltb, eqb, List, [], ◌∷◌, ◌++◌, length, get_or, map, refl, sym, subst, arith}
use Rattle.std.specs.Prelude.{Contains, All}
use Rattle.std.specs.List.{list_any, IsDistinct}
use Rattle.std.proofs.lemmas.Bool.{both_ways, not-true, eqb-true, ne_eqb, and_parts, ltb-true, or_cases}
use Rattle.std.proofs.lemmas.List.Elements.{All-head, All-tail, All-contains, recursion_from_All, Contains-get_or, Contains-append_left, Contains-append_right}
use Rattle.std.proofs.lemmas.Map.Steps.{length-le_from_distinct_below}
use Rattle.image_layout.specs.Pointer.{pointer_word}
use Rattle.image_layout.specs.Places.{place_in, is_pointer, is_in_segment, is_pointer_to, is_null_or_pointer_to}
use Rattle.image_layout.specs.Tables.{all_columns}
use Rattle.image_layout.specs.Trees.{leaves_from, AreLeavesFrom, stored_leaves}
use Rattle.image_layout.specs.Checks.{Check, check}
use Rattle.image_layout.specs.EntryRules.{is_among, leaf_pointer_check, is_next, leaf_checks, is_split_leaf, tree_checks, tree_rule}
use Rattle.shown_state.specs.ImageLaws.{StoredLeavesAreWhole}
use Rattle.image_layout.proofs.Heap.{Holds}
use Rattle.image_layout.proofs.Members.{Contains-here, Contains-there, Contains-cons, Contains-nil, flat_map-Contains}
use Rattle.shown_state.proofs.OneOwner.{Differ, among-true}
use Rattle.image_layout.specs.Records.{first_leaf_at, split_leaf_at, new_leaf_at, next_leaf_at}

distinct_from : (xs : List ℕ) → Differ xs → IsDistinct eqb xs
unfolding IsDistinct
distinct_from [] differ = tt
distinct_from (x ∷ xs) (fresh, rest) =
    (recursion_from_All (λ y. eqb x y ≡ false) xs (λ k d lt. ne_eqb x (get_or xs k d) (fresh (get_or xs k d) (Contains-get_or xs k d lt))), distinct_from xs rest)

any_equal : (xs : List ℕ) (y : ℕ) → list_any (eqb y) xs ≡ true → Contains xs y
any_equal [] y is = absurd (cc)
any_equal (x ∷ xs) y is =
    let C : ℕ → Type 0 = λ z. Contains (x ∷ xs) z in
    ⊎_elim (λ here. subst C (sym (eqb-true y x here)) (Contains-here x xs)) (λ there. Contains-there x y xs (any_equal xs y there)) (or_cases (eqb y x) (list_any (eqb y) xs) is)

-- different numbers below one are at most so many
pub few_below : (xs : List ℕ) (n : ℕ) → Differ xs → ((y : ℕ) → Contains xs y → y < n) → length xs ≤ n
few_below xs n differ below = length-le_from_distinct_below xs n (distinct_from xs differ) (λ y any. below y (any_equal xs y any))

-- leaves that were reached: different places of the image
record AreReached (words reached : List ℕ) : Type 0 where
  pub differ : Differ reached
  pub below : (place : ℕ) → Contains reached place → place < length words

-- one more leaf, to which a pointer leads that isn't among them
record Leads (words reached : List ℕ) (word : ℕ) : Type 0 where
  pub pointer : word ≡ pointer_word (place_in word)
  pub now_reached : AreReached words (place_in word ∷ reached)

leads : (words reached : List ℕ) (word : ℕ) → AreReached words reached → is_next words reached word ≡ true → (word ≡ 0) ⊎ Leads words reached word
leads words reached word old next =
    ⊎_elim (λ null. inl (eqb-true word 0 null))
    (λ other. let parts = and_parts (is_pointer_to words 128 word) (not (is_among reached (place_in word))) other in
    let pointer = and_parts (is_pointer words word) (is_in_segment (place_in word) 128) parts.0 in
    let names = and_parts (eqb word (pointer_word (place_in word))) (ltb (place_in word) (length words)) pointer.0 in
    let new = not-true (is_among reached (place_in word)) parts.1 in
    inr (record {
      pointer = eqb-true word (pointer_word (place_in word)) names.0;
      now_reached = record {
        differ = (λ y is e. let C : ℕ → Type 0 = λ z. Contains reached z in both_ways (is_among reached (place_in word)) new (among-true reached (place_in word) (subst C (sym e) is)), old.differ);
        below = λ place is. ⊎_elim (λ here. let P : ℕ → Type 0 = λ z. z < length words in subst P here (ltb-true (place_in word) (length words) names.1)) (λ there. old.below place there) (Contains-cons (place_in word) place reached is);
      };
    }))
    (or_cases (eqb word 0) (is_pointer_to words 128 word && not (is_among reached (place_in word))) next)

walk_is_whole : (words reached : List ℕ) (steps word : ℕ) → AreReached words reached → is_next words reached word ≡ true → length words ≤ length reached + steps → All Holds (leaf_checks words reached (leaves_from words steps word)) → AreLeavesFrom words word (leaves_from words steps word)
unfolding leaves_from
walk_is_whole words reached zero word old next enough hold =
    ⊎_elim (λ null. null) (λ more. let few = few_below (place_in word ∷ reached) (length words) more.now_reached.differ more.now_reached.below in absurd (omega arith)) (leads words reached word old next)
walk_is_whole words reached (suc steps) zero old next enough hold = refl
walk_is_whole words reached (suc steps) (suc word) old next enough hold =
    let leaf = place_in (suc word) in
    let after = get_or words (next_leaf_at leaf) 0 in
    let rest = leaf_checks words (leaf ∷ reached) (leaves_from words steps after) in
    let next_check = check (next_leaf_at leaf) (is_next words (leaf ∷ reached) after) in
    let tail = All-tail Holds (check leaf (ltb (get_or words leaf 0) (2 ^ 48))) (next_check ∷ rest) hold in
    let whole = λ (more : Leads words reached (suc word)). walk_is_whole words (leaf ∷ reached) steps after more.now_reached (All-head Holds next_check rest tail) (omega arith) (All-tail Holds next_check rest tail) in
    ⊎_elim (λ null. absurd (omega arith)) (λ more. (more.pointer, whole more)) (leads words reached (suc word) old next)

pub stored_leaves_are_whole : StoredLeavesAreWhole
unfolding tree_rule tree_checks
stored_leaves_are_whole words keeps column is =
    let word = get_or words (first_leaf_at column) 0 in
    let leaves = stored_leaves words column in
    let pointers = map (leaf_pointer_check words) (first_leaf_at column ∷ split_leaf_at column ∷ new_leaf_at column ∷ []) in
    let last : List Check = check (split_leaf_at column) (is_split_leaf words column) ∷ [] in
    let holds = λ (c : Check) (of : Contains (tree_checks words column) c). All-contains Holds (tree_rule words) c keeps.checks (flat_map-Contains (tree_checks words) (all_columns words) column c is of) in
    let first = holds (leaf_pointer_check words (first_leaf_at column)) (Contains-append_left (pointers ++ leaf_checks words [] leaves) last _ (Contains-append_left pointers (leaf_checks words [] leaves) _ (Contains-here (leaf_pointer_check words (first_leaf_at column)) (leaf_pointer_check words (split_leaf_at column) ∷ leaf_pointer_check words (new_leaf_at column) ∷ [])))) in
    walk_is_whole words [] (length words) word (record { differ = tt; below = λ place of. absurd (Contains-nil place of) }) (first_next word first) (omega arith)
    (λ k d lt. holds (get_or (leaf_checks words [] leaves) k d)
    (Contains-append_left (pointers ++ leaf_checks words [] leaves) last (get_or (leaf_checks words [] leaves) k d) (Contains-append_right pointers (leaf_checks words [] leaves) (get_or (leaf_checks words [] leaves) k d) (Contains-get_or (leaf_checks words [] leaves) k d lt))))
  where
    first_next : (word : ℕ) → is_null_or_pointer_to words 128 word ≡ true → is_next words [] word ≡ true
    first_next word holds = ⊎_elim (λ null. rw null refl) (λ pointer. rw pointer (or_right_true (eqb word 0))) (or_cases (eqb word 0) (is_pointer_to words 128 word) holds)
      where
        or_right_true : (x : Bool) → (x || true) ≡ true
        or_right_true true = refl
        or_right_true false = refl
