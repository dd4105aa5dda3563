-- The columns, the leaves and the used slots that a walk has gathered.
use Rattle.std.proofs.Common.{◌≡◌, ℕ, zero, suc, ◌+◌, ◌<◌, ◌≤◌, Bool, true, false, ◌&&◌, cond, eqb, ltb, List, [], ◌∷◌, ◌++◌, map, length, take, get_or, refl, sym, ◌∙◌, ap, subst, append-nil, append_assoc, arith}
use Rattle.std.specs.Prelude.{Option, None, All, filter}
use Rattle.std.specs.List.{flat_map, list_all}
use Rattle.std.proofs.lemmas.Bool.{cond-true, cond-false, eqb-true, eq-eqb, and_left, not_from_true}
use Rattle.std.proofs.lemmas.List.{length-append, length-map, map-append, take_more, take_all}
use Rattle.std.proofs.lemmas.List.Concat.{flat_map-append}
use Rattle.std.proofs.lemmas.List.Elements.{All-get_or, filter-append}
use Rattle.std.proofs.lemmas.List.Folds.{flat_map-map, list_all-append}
use Rattle.std.proofs.lemmas.List.FromFn.{map-range_with_len_more}
use Rattle.image_layout.specs.Places.{below, is_null_or_pointer_to}
use Rattle.image_layout.specs.Records.{fingerprint_at, first_leaf_at, key_at, new_leaf_at, split_leaf_at}
use Rattle.image_layout.specs.Tables.{all_columns, column_record, columns_of, table_block, table_count}
use Rattle.image_layout.specs.Trees.{is_about_to_link, key_fingerprint, leaf_list, leaf_pairs, leaf_slots, pair_at, slot_fingerprint, stored_leaves}
use Rattle.image_layout.specs.Checks.{Check, Keeps, check, first_failing}
use Rattle.image_layout.specs.EntryRules.{is_split_leaf, leaf_checks, leaf_pointer_check, table_count_rule, tree_checks, tree_rule}
use Rattle.image_layout.specs.SoundRules.{fingerprint_checks, split_log_rule, zero_check}
use Rattle.image_layout.proofs.Faults.{first_failing-none}
use Rattle.image_layout.proofs.Ranges.{below_more}
use Rattle.image_rules.specs.declared.leaf_lists.LeafSlot.{LeafSlot}
use Rattle.image_rules.specs.Parts.{log_checks}
use Rattle.image_rules.proofs.Firsts.{none-append, none-head}
use Rattle.image_rules.proofs.SplitChecks.{logs_kept}
use Rattle.image_rules.specs.BuiltTrees.{HasList, is_above, is_used, leaf_slot, print_check, used_along, used_in}

-- a list that grew by what one more gave
joined : {X : Type 0} (base found more xs ys : List X) → found ≡ base ++ xs → more ≡ found ++ ys → more ≡ base ++ (xs ++ ys)
joined base found more xs ys so_far then = then ∙ ap (λ (zs : List _). zs ++ ys) so_far ∙ append_assoc base xs ys

module _ (words : List ℕ) where
  -- ── columns ──

  abbrev pub columns_before : ℕ → ℕ → List ℕ
  columns_before block k = map (column_record words block) (below k)

  pub columns_more : (block k column : ℕ) (base found more : List ℕ) → column ≡ column_record words block k → found ≡ base ++ columns_before block k → more ≡ found ++ column ∷ [] → more ≡ base ++ columns_before block (k + 1)
  columns_more block k column base found more is so_far then =
      joined base found more (columns_before block k) (column ∷ []) so_far then
      ∙ ap (λ (c : ℕ). base ++ (columns_before block k ++ c ∷ [])) is
      ∙ ap (λ (xs : List ℕ). base ++ xs) (sym (map-range_with_len_more (column_record words block) 0 k k (omega arith)))

  abbrev pub tables_before : ℕ → List ℕ
  tables_before k = flat_map (λ table. columns_of words (table_block words table)) (below k)

  pub tables_more : (k block : ℕ) (found more : List ℕ) → block ≡ table_block words k → found ≡ tables_before k → more ≡ found ++ columns_of words block → more ≡ tables_before (k + 1)
  tables_more k block found more at so_far then =
      then
      ∙ ap (λ (xs : List ℕ). xs ++ columns_of words block) so_far
      ∙ ap (λ (b : ℕ). tables_before k ++ columns_of words b) at
      ∙ ap (λ (xs : List ℕ). tables_before k ++ xs) (sym (append-nil (columns_of words (table_block words k))))
      ∙ sym (flat_map-append (λ table. columns_of words (table_block words table)) (below k) (k ∷ []))
      ∙ ap (flat_map (λ table. columns_of words (table_block words table))) (sym (below_more k))

  pub tables_all : (k : ℕ) (found : List ℕ) → k ≡ table_count words → found ≡ tables_before k → found ≡ all_columns words
  tables_all k found over so_far = so_far ∙ ap tables_before over ∙ sym (flat_map-map (columns_of words) (table_block words) (below (table_count words)))

  -- ── used slots ──

  module _ (leaf : ℕ) where
    abbrev pub used_before : ℕ → List ℕ
    used_before k = filter (is_used words leaf) (below k)

    abbrev one : ℕ → List ℕ
    one k = cond (is_used words leaf k) (k ∷ []) []

    used-more : (k : ℕ) → used_before (k + 1) ≡ used_before k ++ one k
    used-more k = ap (filter (is_used words leaf)) (below_more k) ∙ filter-append (is_used words leaf) (below k) (k ∷ [])

    used-one : (k : ℕ) → is_used words leaf k ≡ true → used_before (k + 1) ≡ used_before k ++ k ∷ []
    used-one k used = used-more k ∙ ap (λ (xs : List ℕ). used_before k ++ xs) (cond-true (is_used words leaf k) (k ∷ []) [] used)

    used-none : (k : ℕ) → is_used words leaf k ≡ false → used_before (k + 1) ≡ used_before k
    used-none k unused = used-more k ∙ ap (λ (xs : List ℕ). used_before k ++ xs) (cond-false (is_used words leaf k) (k ∷ []) [] unused) ∙ append-nil (used_before k)

    abbrev pub slots_before : ℕ → List LeafSlot
    slots_before k = map (leaf_slot leaf) (filter (is_used words leaf) (below k))

    pub slots_more : (k : ℕ) (base found more : List LeafSlot) → is_used words leaf k ≡ true → found ≡ base ++ slots_before k → more ≡ found ++ leaf_slot leaf k ∷ [] → more ≡ base ++ slots_before (k + 1)
    slots_more k base found more used so_far then =
        joined base found more (slots_before k) (leaf_slot leaf k ∷ []) so_far then
        ∙ ap (λ (xs : List LeafSlot). base ++ xs) (sym (map-append (leaf_slot leaf) (used_before k) (k ∷ [])))
        ∙ ap (λ (xs : List ℕ). base ++ map (leaf_slot leaf) xs) (sym (used-one k used))

    pub slots_same : (k : ℕ) (base found : List LeafSlot) → is_used words leaf k ≡ false → found ≡ base ++ slots_before k → found ≡ base ++ slots_before (k + 1)
    slots_same k base found unused so_far = so_far ∙ ap (λ (xs : List ℕ). base ++ map (leaf_slot leaf) xs) (sym (used-none k unused))

    -- ── the greatest key ──

    abbrev key : ℕ → ℕ
    key slot = get_or words (key_at leaf slot) 0

    abbrev pub Greatest : Option ℕ → Option ℕ → ℕ → Type 0
    Greatest first found k = (other : ℕ) → is_above found other ≡ (is_above first other && list_all (λ o. ltb o other) (map (λ slot. get_or words (key_at leaf slot) 0) (filter (is_used words leaf) (below k))))

    pub greatest_same : (first found : Option ℕ) (k : ℕ) → is_used words leaf k ≡ false → Greatest first found k → Greatest first found (k + 1)
    greatest_same first found k unused so_far other =
        so_far other ∙ ap (λ (xs : List ℕ). is_above first other && list_all (λ o. ltb o other) (map key xs)) (sym (used-none k unused))

    pub greatest_more : (first found next : Option ℕ) (k word : ℕ) → is_used words leaf k ≡ true → word ≡ key k → Greatest first found k → ((other : ℕ) → is_above next other ≡ (is_above found other && ltb word other)) → Greatest first next (k + 1)
    greatest_more first found next k word used is so_far then other =
        then other
        ∙ ap (λ (w : ℕ). is_above found other && ltb w other) is
        ∙ ap (λ (b : Bool). b && ltb (key k) other) (so_far other)
        ∙ regroup (is_above first other) (list_all (λ o. ltb o other) (map key (used_before k))) (ltb (key k) other)
        ∙ ap (λ (b : Bool). is_above first other && b) (sym (list_all-append (λ o. ltb o other) (map key (used_before k)) (key k ∷ [])))
        ∙ ap (λ (xs : List ℕ). is_above first other && list_all (λ o. ltb o other) xs) (sym (map-append key (used_before k) (k ∷ [])))
        ∙ ap (λ (xs : List ℕ). is_above first other && list_all (λ o. ltb o other) (map key xs)) (sym (used-one k used))
      where
        regroup : (a b c : Bool) → ((a && b) && c) ≡ (a && (b && (c && true)))
        regroup true true true = refl
        regroup true true false = refl
        regroup true false c = refl
        regroup false b c = refl

-- ── along leaves ──

pub along_more : (words leaves : List ℕ) (k : ℕ) (found more : List LeafSlot) → k < length leaves → found ≡ flat_map (used_in words) (take k leaves) → more ≡ found ++ used_in words (get_or leaves k 0) → more ≡ flat_map (used_in words) (take (k + 1) leaves)
along_more words leaves k found more lt so_far then =
    then
    ∙ ap (λ (xs : List LeafSlot). xs ++ used_in words (get_or leaves k 0)) so_far
    ∙ ap (λ (xs : List LeafSlot). flat_map (used_in words) (take k leaves) ++ xs) (sym (append-nil (used_in words (get_or leaves k 0))))
    ∙ sym (flat_map-append (used_in words) (take k leaves) (get_or leaves k 0 ∷ []))
    ∙ ap (flat_map (used_in words)) (sym (take_more leaves k 0 lt))

pub along_all : (words leaves : List ℕ) (k : ℕ) (found : List LeafSlot) → length leaves ≤ k → found ≡ flat_map (used_in words) (take k leaves) → found ≡ flat_map (used_in words) leaves
along_all words leaves k found over so_far = so_far ∙ ap (flat_map (used_in words)) (take_all k leaves over)

-- ── the columns with their lists ──

-- a rule that is kept column by column is kept at each of them
pub column_kept : (checks : ℕ → List Check) (columns : List ℕ) (i : ℕ) → i < length columns → first_failing (flat_map checks columns) ≡ None → first_failing (checks (get_or columns i 0)) ≡ None
column_kept checks [] i lt none = absurd (omega (arith, lt))
column_kept checks (column ∷ columns) zero lt none = (none-append (checks column) (flat_map checks columns) none).0
column_kept checks (column ∷ columns) (suc i) lt none = column_kept checks columns i (omega (arith, lt)) (none-append (checks column) (flat_map checks columns) none).1

module _ (words : List ℕ) (column : ℕ) where
  tree_parts : first_failing (tree_checks words column) ≡ None
      → (is_null_or_pointer_to words 128 (get_or words (first_leaf_at column) 0) ≡ true) × (first_failing (leaf_checks words [] (stored_leaves words column)) ≡ None)
  unfolding tree_checks
  tree_parts none =
      let along : List Check = leaf_checks words [] (stored_leaves words column) in
      let last : List Check = check (split_leaf_at column) (is_split_leaf words column) ∷ [] in
      let one = none-head (leaf_pointer_check words (first_leaf_at column)) (leaf_pointer_check words (split_leaf_at column) ∷ leaf_pointer_check words (new_leaf_at column) ∷ along ++ last) none in
      let two = none-head (leaf_pointer_check words (split_leaf_at column)) (leaf_pointer_check words (new_leaf_at column) ∷ along ++ last) one.1 in
      let three = none-head (leaf_pointer_check words (new_leaf_at column)) (along ++ last) two.1 in
      (one.0, (none-append along last three.1).0)

  -- where no leaf is being split the list is the stored one
  quiet_list : get_or words (split_leaf_at column) 0 ≡ 0 → leaf_list words column ≡ stored_leaves words column
  unfolding leaf_list
  quiet_list none = cond-false (is_about_to_link words column) _ (stored_leaves words column)
      (and_left _ _ (and_left _ _ (and_left _ _ (not_from_true (eqb (get_or words (split_leaf_at column) 0) 0) (eq-eqb (get_or words (split_leaf_at column) 0) 0 none)))))

  log_part : first_failing (log_checks words column) ≡ None → get_or words (split_leaf_at column) 0 ≡ 0
  log_part none = eqb-true (get_or words (split_leaf_at column) 0) 0 (none-head (zero_check words (split_leaf_at column)) (zero_check words (new_leaf_at column) ∷ []) none).0

trees-none : (words : List ℕ) → Keeps words tree_rule → first_failing (flat_map (tree_checks words) (all_columns words)) ≡ None
unfolding tree_rule
trees-none words keeps = first_failing-none (tree_rule words) keeps.checks

logs-none : (words : List ℕ) → Keeps words split_log_rule → first_failing (flat_map (log_checks words) (all_columns words)) ≡ None
logs-none words keeps = logs_kept words (first_failing-none (split_log_rule words) keeps.checks)

pub has_list : (words columns : List ℕ) (i : ℕ) → i < length columns → Keeps words table_count_rule → Keeps words tree_rule → Keeps words split_log_rule → columns ≡ all_columns words
    → (items : List ℕ) → columns ≡ items → All (λ column. column + 40 ≤ length words) items → HasList words (get_or columns i 0)
has_list words columns i lt count trees logs are items same within =
    let parts = tree_parts words (get_or columns i 0) (column_kept (tree_checks words) columns i lt (ap (λ (cs : List ℕ). first_failing (flat_map (tree_checks words) cs)) are ∙ trees-none words trees)) in
    let log = column_kept (log_checks words) columns i lt (ap (λ (cs : List ℕ). first_failing (flat_map (log_checks words) cs)) are ∙ logs-none words logs) in
    record {
      within = All-get_or (λ (column : ℕ). column + 40 ≤ length words) columns i 0 lt (subst (All (λ (column : ℕ). column + 40 ≤ length words)) (sym same) within);
      first = parts.0;
      list = parts.1;
      quiet = quiet_list words (get_or columns i 0) (log_part words (get_or columns i 0) log);
    }

-- ── the checks of used slots, leaf by leaf ──

module _ (words : List ℕ) where
  prints-leaf : (leaf : ℕ) (slots : List ℕ)
      → map (λ slot. check (fingerprint_at leaf slot) (eqb (slot_fingerprint words leaf slot) (key_fingerprint words false (get_or words (key_at leaf slot) 0)))) slots ≡ map (print_check words) (map (leaf_slot leaf) slots)
  unfolding key_fingerprint
  prints-leaf leaf [] = refl
  prints-leaf leaf (slot ∷ slots) = ap (λ (cs : List Check). print_check words (leaf_slot leaf slot) ∷ cs) (prints-leaf leaf slots)

  pub prints-is : (leaves : List ℕ) → flat_map (fingerprint_checks words false) leaves ≡ map (print_check words) (used_along words leaves)
  unfolding fingerprint_checks
  prints-is [] = refl
  prints-is (leaf ∷ leaves) =
      ap (λ (cs : List Check). cs ++ flat_map (fingerprint_checks words false) leaves) (prints-leaf leaf (leaf_slots words leaf))
      ∙ ap (λ (cs : List Check). map (print_check words) (used_in words leaf) ++ cs) (prints-is leaves)
      ∙ sym (map-append (print_check words) (used_in words leaf) (used_along words leaves))

  -- there are as many pairs as used slots
  pub count-is : (leaves : List ℕ) → length (used_along words leaves) ≡ length (flat_map (leaf_pairs words) leaves)
  unfolding leaf_pairs
  count-is [] = refl
  count-is (leaf ∷ leaves) =
      length-append (used_in words leaf) (used_along words leaves)
      ∙ ap (λ (n : ℕ). n + length (used_along words leaves)) (length-map (leaf_slots words leaf) (leaf_slot leaf) ∙ sym (length-map (leaf_slots words leaf) (pair_at words leaf)))
      ∙ ap (λ (n : ℕ). length (map (pair_at words leaf) (leaf_slots words leaf)) + n) (count-is leaves)
      ∙ sym (length-append (map (pair_at words leaf) (leaf_slots words leaf)) (flat_map (leaf_pairs words) leaves))
