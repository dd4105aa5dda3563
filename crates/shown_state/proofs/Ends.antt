-- What fits and has nothing left to mend is sound.
use Rattle.std.proofs.Common.{◌≡◌, ◌≢◌, ◌⊎◌, ⊎_elim, ℕ, suc, ◌+◌, ◌-◌, ◌*◌, ◌<◌, ◌≤◌, max, min, Bool, true, false, not, ◌&&◌, ◌||◌, eqb, leb, ltb, List, [], ◌∷◌, ◌++◌, length, get_or, map, refl, sym, ◌∙◌, ap, subst, arith}
use Rattle.std.specs.Prelude.{All, AllPairs, Contains, filter, fold}
use Rattle.std.specs.List.{flat_map, list_all, list_any, range_with_len}
use Rattle.std.proofs.lemmas.Bool.{both_ways, cases_Bool, cases_eq, cond-true, eqb-true, eq-eqb, ne_eqb, ltb-true, lt-ltb, leb-true, le-leb, not-true, and_parts, and_from, or_left, or_right}
use Rattle.std.proofs.lemmas.List.{length-append, length-map, map-append, append_assoc, get_or_append_left, take_all}
use Rattle.std.proofs.lemmas.List.Elements.{All-nil, All-cons, All-contains, All-append, Contains-append_cases, Contains-get_or}
use Rattle.std.proofs.lemmas.List.FromFn.{length-range_with_len, get_or-range_with_len}
use Rattle.image_layout.specs.Fixed.{commit_word_at, lane_op_at, last_at, state_at, version_at}
use Rattle.image_layout.specs.Pointer.{pointer_word}
use Rattle.image_layout.specs.Places.{below, place_in, is_pointer}
use Rattle.image_layout.specs.Records.{created_header, dictionary_header, ended_header, codes_header, high_at, new_leaf_at, split_leaf_at}
use Rattle.image_layout.specs.Arrays.{capacity, place_of, array_word}
use Rattle.image_layout.specs.Blocks.{Block, live_blocks}
use Rattle.image_layout.specs.Checks.{Check, check, Keeps}
use Rattle.image_layout.specs.Tables.{table_count, table_block, table_blocks, columns_of, columns_with, all_columns, is_text, since_of}
use Rattle.image_layout.specs.Objects.{entry_places, last_commit}
use Rattle.image_layout.specs.Trees.{dictionary_length}
use Rattle.image_layout.specs.EntryRules.{is_among, text_columns}
use Rattle.image_layout.specs.SoundRules.{zero_check, idle_rule, split_log_rule, closed_rule, distinct_checks, single_owner_rule, owned_rule, spare_slots, spare_slot_rule, no_commit, is_commit, is_created, is_ended, row_check, row_checks, is_row_bound, stamp_checks, stamp_rule, row_code_check, committed_rows, row_code_rule, latest_version_rule, owner_rule, IsIntact, IsSound}
use Rattle.image_layout.specs.Owners.{Owner, word_of, owns_block, owner_words, leaf_owner, new_leaf_owners, next_table_slots, next_text_slots, unfinished_slots, firm_owners, owner_places, is_replaced_in, is_replaced, NameApart, busy_lanes, lane_block}
use Rattle.image_layout.proofs.Faults.{Holds, mapped_hold}
use Rattle.image_layout.proofs.Members.{Contains-below, Contains-here, Contains-there, Contains-cons, Contains-nil, Contains-flat_map, flat_map-Contains, Contains-map, map-Contains, Contains-filter}
use Rattle.image_layout.proofs.TableSlots.{few_tables, one_table}
use Rattle.shown_state.specs.Fits.{spoken_for, later_slots, later_slot_rule, is_undecided, undecided_bound, used_up, IsUndecided, IsEnded, HasValue, RowsFit, Fits}
use Rattle.shown_state.specs.LogicalState.{created_rows, row_bound}
use Rattle.shown_state.specs.StepLaws.{AreClear}

-- ── lists ──

-- each column's record is one of few
columns_few : (words blocks : List ℕ) → ((block : ℕ) → Contains blocks block → get_or words block 0 ≤ 16) → length (flat_map (columns_of words) blocks) ≤ 16 * length blocks
columns_few words [] most = omega arith
columns_few words (block ∷ blocks) most =
    let here = most block (Contains-here block blocks) in
    let rest = columns_few words blocks (λ other is. most other (Contains-there block other blocks is)) in
    let one : length (columns_of words block) ≡ get_or words block 0 = length-map (below (get_or words block 0)) _ ∙ length-range_with_len 0 (get_or words block 0) in
    let all = length-append (columns_of words block) (flat_map (columns_of words) blocks) in
    omega (arith, here, rest, one, all)

-- the image has no more than 512 columns
pub all_few : (words : List ℕ) → Fits words → length (all_columns words) ≤ 512
all_few words fits =
    let entry = fits.entry in
    let few = few_tables words entry.table_count in
    let all = columns_few words (table_blocks words) (λ block is.
    let (table, among, here) = Contains-map (table_block words) (below (table_count words)) block is in
    let points = one_table words table entry.table_count entry.table_slots (Contains-below (table_count words) table among) in
    subst (λ (b : ℕ). get_or words b 0 ≤ 16) here points.most) in
    let size : length (table_blocks words) ≡ table_count words = length-map (below (table_count words)) (table_block words) ∙ length-range_with_len 0 (table_count words) in
    omega (arith, few, all, size)

zeros : (words places : List ℕ) → ((at : ℕ) → Contains places at → get_or words at 0 ≡ 0) → All Holds (map (zero_check words) places)
zeros words places none = mapped_hold (zero_check words) places (λ at is. eq-eqb (get_or words at 0) 0 (none at is))

none_any : {X : Type 0} (test : X → Bool) (xs : List X) → ((x : X) → Contains xs x → test x ≡ false) → list_any test xs ≡ false
none_any test [] none = refl
none_any test (x ∷ xs) none =
    let here = none x (Contains-here x xs) in
    let rest = none_any test xs (λ y is. none y (Contains-there x y xs is)) in
    rw here rest

pub none_filtered : (test : ℕ → Bool) (xs : List ℕ) → ((x : ℕ) → Contains xs x → test x ≡ false) → filter test xs ≡ []
none_filtered test [] none = refl
none_filtered test (x ∷ xs) none =
    let here = none x (Contains-here x xs) in
    let rest = none_filtered test xs (λ y is. none y (Contains-there x y xs is)) in
    rw here rest

among : (xs : List ℕ) (y : ℕ) → Contains xs y → is_among xs y ≡ true
among [] y is = absurd (Contains-nil y is)
among (x ∷ xs) y is =
    ⊎_elim (λ here. or_left (eqb x y) (is_among xs y) (eq-eqb x y here)) (λ there. or_right (eqb x y) (is_among xs y) (among xs y there)) (Contains-cons x y xs is)

module _ (words : List ℕ) (fits : Fits words) (clear : AreClear 16 words) where
  -- ── lanes, logs and objects ──

  lane_idle : (lane : ℕ) → lane < 16 → get_or words (lane_op_at lane) 0 ≡ 0
  lane_idle = clear.0.0.0.0.0

  pub idle : Keeps words idle_rule
  unfolding idle_rule
  idle = record { checks = mapped_hold (λ lane. zero_check words (lane_op_at lane)) (below 16) (λ lane is. eq-eqb (get_or words (lane_op_at lane) 0) 0 (lane_idle lane (Contains-below 16 lane is))) }

  column_logs : (column : ℕ) → Contains (all_columns words) column → (get_or words (split_leaf_at column) 0 ≡ 0) × (get_or words (new_leaf_at column) 0 ≡ 0)
  column_logs column is =
      let P : ℕ → Type 0 = λ c. (get_or words (split_leaf_at c) 0 ≡ 0) × (get_or words (new_leaf_at c) 0 ≡ 0) in
      let all : All P (all_columns words) = subst (All P) (take_all 512 (all_columns words) (all_few words fits)) clear.0.0.0.0.1 in
      All-contains P (all_columns words) column all is

  slot_null : (at : ℕ) → Contains (next_table_slots words) at → get_or words at 0 ≡ 0
  slot_null at is = All-contains (λ a. get_or words a 0 ≡ 0) (next_table_slots words) at clear.0.0.0.1 is

  text_null : (column at : ℕ) → Contains (all_columns words) column → Contains (next_text_slots words column) at → get_or words at 0 ≡ 0
  text_null column at is next =
      let P : ℕ → Type 0 = λ c. All (λ a. get_or words a 0 ≡ 0) (next_text_slots words c) in
      let all : All P (all_columns words) = subst (All P) (take_all 512 (all_columns words) (all_few words fits)) clear.0.0.0.2 in
      All-contains (λ a. get_or words a 0 ≡ 0) (next_text_slots words column) at (All-contains P (all_columns words) column all is) next

  pub split_logs : Keeps words split_log_rule
  unfolding split_log_rule
  split_logs = record {
    checks = zeros words (flat_map logs (all_columns words) ++ next_table_slots words) (λ at is. ⊎_elim
        (λ log. let (column, one, here) = Contains-flat_map logs (all_columns words) at log in
        let null = column_logs column one in
        ⊎_elim (λ (e : split_leaf_at column ≡ at). ap (λ (k : ℕ). get_or words k 0) (sym e) ∙ null.0)
        (λ there. ⊎_elim (λ (e : new_leaf_at column ≡ at). ap (λ (k : ℕ). get_or words k 0) (sym e) ∙ null.1) (λ none. absurd (Contains-nil at none)) (Contains-cons (new_leaf_at column) at [] there))
        (Contains-cons (split_leaf_at column) at (new_leaf_at column ∷ []) here))
        (λ slot. slot_null at slot)
        (Contains-append_cases (flat_map logs (all_columns words)) (next_table_slots words) at is));
  }
    where
      logs : ℕ → List ℕ
      logs column = split_leaf_at column ∷ new_leaf_at column ∷ []

  state_zero : (object : ℕ) → object < 16 → get_or words (state_at object) 0 ≡ 0
  state_zero = clear.0.1

  pub closed : Keeps words closed_rule
  unfolding closed_rule
  closed = record {
    checks = zeros words (flat_map own (below 16)) (λ at is.
        let (object, one, here) = Contains-flat_map own (below 16) at is in
        let lt = Contains-below 16 object one in
        let last = clear.1 object lt in
        ⊎_elim (λ (e : state_at object ≡ at). ap (λ (k : ℕ). get_or words k 0) (sym e) ∙ state_zero object lt)
        (λ there. ⊎_elim (λ (e : commit_word_at object ≡ at). ap (λ (k : ℕ). get_or words k 0) (sym e) ∙ last.0)
        (λ entry. All-contains (λ a. get_or words a 0 ≡ 0) (entry_places words object) at last.1 entry)
        (Contains-cons (commit_word_at object) at (entry_places words object) there))
        (Contains-cons (state_at object) at (commit_word_at object ∷ entry_places words object) here));
  }
    where
      own : ℕ → List ℕ
      own object = state_at object ∷ commit_word_at object ∷ entry_places words object

  -- ── owners ──

  new_null : (column : ℕ) → Contains (all_columns words) column → get_or words (new_leaf_at column) 0 ≡ 0
  new_null column is = (column_logs column is).1

  not_replaced : (at other : ℕ) → get_or words other 0 ≢ 0 → is_replaced words at other ≡ false
  not_replaced at other some = none_any (is_replaced_in words at other) (all_columns words) (λ column is. ⊎_elim
      (λ (same : eqb other (new_leaf_at column) ≡ true). absurd (some (ap (λ (k : ℕ). get_or words k 0) (eqb-true other (new_leaf_at column) same) ∙ new_null column is)))
      (λ (miss : eqb other (new_leaf_at column) ≡ false). rw miss refl)
      (cases_Bool (eqb other (new_leaf_at column))))

  owns : (owner : Owner) → Contains (owner_words words) owner → owns_block words owner ≡ true
  unfolding owner_rule
  owns owner is = let rule = fits.owners in All-contains Holds (owner_rule words) (check owner.at (owns_block words owner)) rule.checks (map-Contains (λ (o : Owner). check o.at (owns_block words o)) (owner_words words) owner is)

  points : (owner : Owner) → Contains (owner_words words) owner → is_pointer words (word_of words owner) ≡ true
  points owner is = (and_parts (is_pointer words (word_of words owner)) _ (owns owner is)).0

  nonnull : (word : ℕ) → is_pointer words word ≡ true → word ≢ 0
  nonnull word is none = let at = eqb-true word (pointer_word (place_in word)) (and_parts (eqb word (pointer_word (place_in word))) _ is).0 in omega (arith, at, none)

  -- words that name blocks apart differ
  differ_checks : (before places : List ℕ) → ((word at : ℕ) → Contains before word → Contains places at → get_or words at 0 ≢ word)
      → ((at : ℕ) → Contains places at → get_or words at 0 ≢ 0) → AllPairs (NameApart words) places → All Holds (distinct_checks words before places)
  differ_checks before [] fresh some apart = All-nil Holds
  differ_checks before (at ∷ places) fresh some apart =
      let word = get_or words at 0 in
      All-cons Holds (check at (not (is_among before word))) (distinct_checks words (word ∷ before) places)
      (missing before word (λ other known same. fresh other at known (Contains-here at places) same))
      (differ_checks (word ∷ before) places
      (λ other next known is same. ⊎_elim
      (λ (here : word ≡ other). first next is (here ∙ sym same))
      (λ there. fresh other next there (Contains-there at next places is) same)
      (Contains-cons word other before known))
      (λ next is. some next (Contains-there at next places is))
      (λ i j d order lt. apart (suc i) (suc j) d (omega (arith, order)) (omega (arith, lt))))
    where
      missing : (numbers : List ℕ) (number : ℕ) → ((other : ℕ) → Contains numbers other → number ≡ other → ⊥) → not (is_among numbers number) ≡ true
      missing numbers number none = rw (none_any (λ other. eqb other number) numbers (λ other is. ne_eqb other number (λ e. none other is (sym e)))) refl

      first : (next : ℕ) → Contains places next → get_or words at 0 ≡ get_or words next 0 → ⊥
      first next is same =
          let (k, lt, here) = is in
          let one = apart 0 (suc k) next (omega arith) (omega (arith, lt)) in
          let named = subst (λ (n : ℕ). NameApart words at n) here one in
          let other = some next (Contains-there at next places is) in
          named (some at (Contains-here at places)) other (not_replaced at next other) (ap place_in same)

  pub single_owners : Keeps words single_owner_rule
  unfolding single_owner_rule
  single_owners = record {
    checks = differ_checks [] owned (λ word at known is. absurd (Contains-nil word known))
        (λ at is. let (owner, one, here) = Contains-map (λ (o : Owner). o.at) (owner_words words) at is in
        subst (λ (k : ℕ). get_or words k 0 ≢ 0) here (nonnull (word_of words owner) (points owner one)))
        (first_pairs owned (map (λ (o : Owner). o.at) (new_leaf_owners words) ++ unfinished_slots words) (subst (AllPairs (NameApart words)) all_places (let apart = fits.apart in apart.apart)));
  }
    where
      owned : List ℕ
      owned = map (λ (o : Owner). o.at) (owner_words words)

      all_places : owner_places words ≡ owned ++ (map (λ (o : Owner). o.at) (new_leaf_owners words) ++ unfinished_slots words)
      all_places =
          ap (λ (l : List ℕ). l ++ unfinished_slots words) (map-append (λ (o : Owner). o.at) (owner_words words) (new_leaf_owners words))
          ∙ append_assoc owned (map (λ (o : Owner). o.at) (new_leaf_owners words)) (unfinished_slots words)

      first_pairs : (xs ys : List ℕ) → AllPairs (NameApart words) (xs ++ ys) → AllPairs (NameApart words) xs
      first_pairs xs ys pairs = λ i j d order lt.
          let size = length-append xs ys in
          let both = pairs i j d order (omega (arith, lt, size)) in
          subst (λ (n : ℕ). NameApart words n (get_or xs j d)) (get_or_append_left xs ys d i (omega (arith, order, lt)))
          (subst (λ (n : ℕ). NameApart words (get_or (xs ++ ys) i d) n) (get_or_append_left xs ys d j lt) both)

  no_busy : (lane : ℕ) → Contains (busy_lanes words) lane → ⊥
  no_busy lane is =
      let parts = Contains-filter (λ l. not (eqb (get_or words (lane_op_at l) 0) 0)) (below 16) lane is in
      both_ways (eqb (get_or words (lane_op_at lane) 0) 0) (not-true (eqb (get_or words (lane_op_at lane) 0) 0) parts.1)
      (eq-eqb (get_or words (lane_op_at lane) 0) 0 (lane_idle lane (Contains-below 16 lane parts.0)))

  unfinished_null : (at : ℕ) → Contains (unfinished_slots words) at → get_or words at 0 ≡ 0
  unfinished_null at is = ⊎_elim (λ slot. slot_null at slot)
      (λ text. let (column, one, here) = Contains-flat_map (next_text_slots words) (all_columns words) at text in text_null column at one here)
      (Contains-append_cases (next_table_slots words) (flat_map (next_text_slots words) (all_columns words)) at is)

  -- a live block's pointer is that of an owner word
  pub owned_by : (word : ℕ) → word ≢ 0 → Contains (spoken_for words) word → Contains (map (word_of words) (owner_words words)) word
  owned_by word some is = ⊎_elim
      (λ place. let (at, one, here) = Contains-map (λ (k : ℕ). get_or words k 0) (owner_places words) word place in
      ⊎_elim
      (λ firm. let (owner, among_firm, at_is) = Contains-map (λ (o : Owner). o.at) (firm_owners words) at firm in
      ⊎_elim
      (λ stored. subst (λ (w : ℕ). Contains (map (word_of words) (owner_words words)) w) (ap (λ (k : ℕ). get_or words k 0) at_is ∙ here) (map-Contains (word_of words) (owner_words words) owner stored))
      (λ leaf. let (column, one_column, leaf_is) = Contains-map (λ (c : ℕ). leaf_owner (new_leaf_at c)) (all_columns words) owner leaf in
      absurd (some (sym here ∙ ap (λ (k : ℕ). get_or words k 0) (sym at_is) ∙ ap (word_of words) (sym leaf_is) ∙ new_null column one_column)))
      (Contains-append_cases (owner_words words) (new_leaf_owners words) owner among_firm))
      (λ slot. absurd (some (sym here ∙ unfinished_null at slot)))
      (Contains-append_cases (map (λ (o : Owner). o.at) (firm_owners words)) (unfinished_slots words) at one))
      (λ lane. let (number, one, here) = Contains-map (lane_block words) (busy_lanes words) word lane in absurd (no_busy number one))
      (Contains-append_cases (map (λ (k : ℕ). get_or words k 0) (owner_places words)) (map (lane_block words) (busy_lanes words)) word is)

  pub owned : Keeps words owned_rule
  unfolding owned_rule
  owned = record {
    checks = λ k d lt.
        let made : Block → Check = λ block. check block.first (is_among (map (word_of words) (owner_words words)) (pointer_word block.first)) in
        let at = Contains-get_or (map made (live_blocks words)) k d lt in
        let (block, live, here) = Contains-map made (live_blocks words) (get_or (map made (live_blocks words)) k d) at in
        subst Holds here (among (map (word_of words) (owner_words words)) (pointer_word block.first)
        (owned_by (pointer_word block.first) (λ e. omega (arith, e)) (All-contains (λ (b : Block). Contains (spoken_for words) (pointer_word b.first)) (live_blocks words) block fits.held live)));
  }

  -- ── dictionaries ──

  pub spare : Keeps words spare_slot_rule
  unfolding spare_slot_rule later_slot_rule
  spare = record {
    checks = zeros words (flat_map (spare_slots words) (text_columns words)) (λ at is.
        let (column, one, here) = Contains-flat_map (spare_slots words) (text_columns words) at is in
        let of = Contains-filter (is_text words) (all_columns words) column one in
        let header = dictionary_header column in
        let size = dictionary_length words column in
        let room = capacity words header in
        let (k, within, place) = Contains-map (place_of words header) (range_with_len size (room - size)) at here in
        let bounds = in_range size (room - size) k within in
        subst (λ (a : ℕ). get_or words a 0 ≡ 0) place (⊎_elim
        (λ (first : k ≡ size).
        let lt : size < room = let low = bounds.1 in omega (arith, first, low) in
        let next : Contains (next_text_slots words column) (place_of words header size) = rw of.1 (rw (lt-ltb size room lt) (Contains-here (place_of words header size) [])) in
        ap (λ (n : ℕ). get_or words (place_of words header n) 0) first ∙ text_null column (place_of words header size) of.0 next)
        (λ apart.
        let low = bounds.0 in let high = bounds.1 in
        let later : Contains (later_slots words column) (place_of words header k) =
        map-Contains (place_of words header) (range_with_len (size + 1) (room - (size + 1))) k (range_in (size + 1) (room - (size + 1)) k (omega (arith, low, apart)) (omega (arith, high, low, apart))) in
        let rule = fits.later_slots in
        eqb-true (get_or words (place_of words header k) 0) 0 (All-contains Holds (map (zero_check words) (flat_map (later_slots words) (text_columns words))) (zero_check words (place_of words header k)) rule.checks
        (map-Contains (zero_check words) (flat_map (later_slots words) (text_columns words)) (place_of words header k) (flat_map-Contains (later_slots words) (text_columns words) column (place_of words header k) one later))))
        (cases_eq k size)));
  }
    where
      in_range : (first count k : ℕ) → Contains (range_with_len first count) k → (first ≤ k) × (k < first + count)
      in_range first count k (i, lt, here) =
          let size = length-range_with_len first count in
          let at = get_or-range_with_len first count i k (omega (arith, lt, size)) in
          (omega (arith, at, here), omega (arith, at, here, lt, size))

      range_in : (first count k : ℕ) → first ≤ k → k < first + count → Contains (range_with_len first count) k
      range_in first count k low high =
          let size = length-range_with_len first count in
          let at = get_or-range_with_len first count (k - first) k (omega (arith, low, high)) in
          (k - first, omega (arith, size, low, high), omega (arith, at, low))

  -- ── rows ──

  none_undecided : (object : ℕ) → object < 16 → is_undecided words object ≡ false
  none_undecided = clear.0.0.2

  last_is : get_or words last_at 0 ≡ last_commit words
  last_is = clear.0.0.1

  no_entry : (kind table row : ℕ) → IsUndecided words kind table row → ⊥
  no_entry kind table row is = both_ways (is_undecided words is.object) (none_undecided is.object is.object_is) is.undecided

  bound_zero : (table : ℕ) → undecided_bound words table ≡ 0
  bound_zero table = ap (λ (xs : List ℕ). fold max 0 (map (λ object. row_bound (created_rows words object table)) xs)) (none_filtered (is_undecided words) (below 16) (λ object is. none_undecided object (Contains-below 16 object is)))

  high_is : (table : ℕ) → used_up words table ≡ get_or words (high_at (table_block words table)) 0
  high_is table = let none = bound_zero table in omega (arith, none)

  -- the rows of a table keep their rule
  module _ (table : ℕ) (published : table < table_count words) where
    abbrev block : ℕ
    block = table_block words table

    abbrev high : ℕ
    high = get_or words (high_at block) 0

    abbrev born : ℕ → ℕ
    born row = array_word words (created_header block) row

    abbrev dies : ℕ → ℕ
    dies row = array_word words (ended_header block) row

    rows_fit : RowsFit words table
    rows_fit = fits.rows table published

    below_high : (row : ℕ) → row < used_up words table → ltb row high ≡ true
    below_high row lt = let same = high_is table in lt-ltb row high (omega (arith, lt, same))

    high_fits : is_row_bound words block high ≡ true
    high_fits =
        let same = high_is table in
        let first = rows_fit.created_room in
        let last = rows_fit.ended_room in
        let begun = rows_fit.begun in
        and_from (leb high (capacity words (created_header block)) && leb high (capacity words (ended_header block))) (list_all (λ column. leb (since_of words column) high) (columns_of words block))
        (and_from (leb high (capacity words (created_header block))) (leb high (capacity words (ended_header block)))
        (le-leb high (capacity words (created_header block)) (omega (arith, first, same))) (le-leb high (capacity words (ended_header block)) (omega (arith, last, same))))
        (all_true (columns_of words block) (λ column is. le-leb (since_of words column) high (All-contains (λ (c : ℕ). since_of words c ≤ high) (columns_of words block) column begun is)))
      where
        all_true : (columns : List ℕ) → ((column : ℕ) → Contains columns column → leb (since_of words column) high ≡ true) → list_all (λ column. leb (since_of words column) high) columns ≡ true
        all_true [] each = refl
        all_true (column ∷ columns) each = and_from (leb (since_of words column) high) (list_all (λ c. leb (since_of words c) high) columns) (each column (Contains-here column columns))
            (all_true columns (λ other is. each other (Contains-there column other columns is)))

    commit_is : (stamp : ℕ) → 1 ≤ stamp → stamp ≤ last_commit words → is_commit words stamp ≡ true
    commit_is stamp some most = let last = last_is in and_from (leb 1 stamp) (leb stamp (get_or words last_at 0)) (le-leb 1 stamp some) (le-leb stamp (get_or words last_at 0) (omega (arith, most, last)))

    born_holds : (row : ℕ) → row < capacity words (created_header block) → is_created words (ltb row high) (born row) ≡ true
    born_holds row lt = ⊎_elim
        (λ (none : born row ≡ 0). or_left (eqb (born row) 0) _ (eq-eqb (born row) 0 none))
        (⊎_elim
        (λ (is : (row < used_up words table) × ((born row ≡ no_commit) ⊎ (born row ≤ last_commit words))). ⊎_elim
        (λ (none : born row ≡ 0). or_left (eqb (born row) 0) _ (eq-eqb (born row) 0 none))
        (λ some. or_right (eqb (born row) 0) _ (and_from (ltb row high) ((eqb (born row) no_commit) || is_commit words (born row)) (below_high row is.0) (⊎_elim
        (λ dead. or_left (eqb (born row) no_commit) (is_commit words (born row)) (eq-eqb (born row) no_commit dead))
        (λ most. or_right (eqb (born row) no_commit) (is_commit words (born row)) (commit_is (born row) (omega (arith, some)) most))
        is.1)))
        (cases_eq (born row) 0))
        (λ taken. absurd (no_entry 1 table row taken.1)))
        (rows_fit.created row lt)

    dies_holds : (row : ℕ) → row < capacity words (ended_header block) → is_ended words (ltb row high) (born row) (dies row) ≡ true
    dies_holds row lt = ⊎_elim
        (λ (none : dies row ≡ 0). or_left (eqb (dies row) 0) _ (eq-eqb (dies row) 0 none))
        (⊎_elim
        (λ (is : IsEnded words table row). or_right (eqb (dies row) 0) _ (let first = is.first in let later = is.later in let last = is.last in
        and_from (ltb row high && is_commit words (born row) && is_commit words (dies row)) (leb (born row) (dies row))
        (and_from (ltb row high && is_commit words (born row)) (is_commit words (dies row))
        (and_from (ltb row high) (is_commit words (born row)) (below_high row is.given) (commit_is (born row) first (omega (arith, later, last))))
        (commit_is (dies row) (omega (arith, first, later)) last))
        (le-leb (born row) (dies row) later)))
        (λ taken. absurd (no_entry 2 table row taken.1)))
        (rows_fit.ended row lt)

    one_row : (row : ℕ) → All Holds (row_checks words block row)
    one_row row = All-append Holds (row_check words (created_header block) row (is_created words (ltb row high) (born row))) (row_check words (ended_header block) row (is_ended words (ltb row high) (born row) (dies row)))
        (published_check (created_header block) row (is_created words (ltb row high) (born row)) (born_holds row))
        (published_check (ended_header block) row (is_ended words (ltb row high) (born row) (dies row)) (dies_holds row))
      where
        published_check : (header row : ℕ) (holds : Bool) → (row < capacity words header → holds ≡ true) → All Holds (row_check words header row holds)
        published_check header row holds when = ⊎_elim
            (λ (lt : ltb row (capacity words header) ≡ true). rw lt (All-cons Holds (check (place_of words header row) holds) [] (when (ltb-true row (capacity words header) lt)) (All-nil Holds)))
            (λ (miss : ltb row (capacity words header) ≡ false). rw miss (All-nil Holds))
            (cases_Bool (ltb row (capacity words header)))

    pub table_stamps : All Holds (stamp_checks words block)
    unfolding stamp_checks
    table_stamps = All-cons Holds (check (high_at block) (is_row_bound words block high))
        (flat_map (row_checks words block) (below (max (capacity words (created_header block)) (capacity words (ended_header block))))) high_fits
        (each_row (below (max (capacity words (created_header block)) (capacity words (ended_header block)))))
      where
        each_row : (rows : List ℕ) → All Holds (flat_map (row_checks words block) rows)
        each_row [] = All-nil Holds
        each_row (row ∷ rows) = All-append Holds (row_checks words block row) (flat_map (row_checks words block) rows) (one_row row) (each_row rows)

    pub table_codes : All Holds (flat_map (λ row. map (row_code_check words row) (columns_with words block row)) (committed_rows words block))
    table_codes = each_row (committed_rows words block) (λ row is. is)
      where
        one_check : (row column : ℕ) → HasValue words row column → Holds (row_code_check words row column)
        one_check row column value =
            let header = codes_header column in
            let place = check (place_of words header row) (ltb (array_word words header row) (dictionary_length words column)) in
            subst Holds (sym (cond-true (ltb row (capacity words header)) place (check header false) (lt-ltb row (capacity words header) value.published)))
            (lt-ltb (array_word words header row) (dictionary_length words column) value.known)

        one_code : (row : ℕ) → Contains (committed_rows words block) row → All Holds (map (row_code_check words row) (columns_with words block row))
        one_code row is =
            let parts = Contains-filter (λ r. is_commit words (born r)) (below (min high (capacity words (created_header block)))) row is in
            let lt = Contains-below (min high (capacity words (created_header block))) row parts.0 in
            let both = and_parts (leb 1 (born row)) (leb (born row) (get_or words last_at 0)) parts.1 in
            let some = leb-true 1 (born row) both.0 in
            let most = leb-true (born row) (get_or words last_at 0) both.1 in
            let last = last_is in
            let values = rows_fit.values row (omega (arith, lt)) some (omega (arith, most, last)) in
            mapped_hold (row_code_check words row) (columns_with words block row) (λ column among_columns.
            one_check row column (All-contains (HasValue words row) (columns_with words block row) column values among_columns))

        each_row : (rows : List ℕ) → ((row : ℕ) → Contains rows row → Contains (committed_rows words block) row) → All Holds (flat_map (λ row. map (row_code_check words row) (columns_with words block row)) rows)
        each_row [] within = All-nil Holds
        each_row (row ∷ rows) within = All-append Holds (map (row_code_check words row) (columns_with words block row)) (flat_map (λ r. map (row_code_check words r) (columns_with words block r)) rows)
            (one_code row (within row (Contains-here row rows))) (each_row rows (λ other is. within other (Contains-there row other rows is)))

  each_table : (checks : ℕ → List Check) → ((table : ℕ) → table < table_count words → All Holds (checks (table_block words table))) → All Holds (flat_map checks (table_blocks words))
  each_table checks each = blocks (table_blocks words) (λ block is. let (table, one, here) = Contains-map (table_block words) (below (table_count words)) block is in
      subst (λ (b : ℕ). All Holds (checks b)) here (each table (Contains-below (table_count words) table one)))
    where
      blocks : (list : List ℕ) → ((block : ℕ) → Contains list block → All Holds (checks block)) → All Holds (flat_map checks list)
      blocks [] hold = All-nil Holds
      blocks (block ∷ list) hold = All-append Holds (checks block) (flat_map checks list) (hold block (Contains-here block list)) (blocks list (λ other is. hold other (Contains-there block other list is)))

  stamps : Keeps words stamp_rule
  unfolding stamp_rule
  stamps = record { checks = each_table (stamp_checks words) (λ table lt. table_stamps table lt) }

  row_codes : Keeps words row_code_rule
  unfolding row_code_rule
  row_codes = record { checks = each_table (λ block. flat_map (λ row. map (row_code_check words row) (columns_with words block row)) (committed_rows words block)) (λ table lt. table_codes table lt) }

  end_is_intact : IsIntact words
  end_is_intact = record {
    entry = fits.entry;
    idle = idle;
    split_logs = split_logs;
    closed = closed;
    owners = fits.owners;
    single_owners = single_owners;
    owned = owned;
    order = fits.order;
    fingerprints = fits.fingerprints;
    codes = fits.codes;
    texts = fits.texts;
    spare_slots = spare;
    stamps = stamps;
    row_codes = row_codes;
    given_back = fits.given_back;
    names = fits.names;
  }

  pub end_is_sound : get_or words version_at 0 ≡ 2 → IsSound words
  unfolding latest_version_rule
  end_is_sound version = record {
    intact = end_is_intact;
    latest = record { checks = All-cons Holds (check version_at (eqb (get_or words version_at 0) 2)) [] (eq-eqb (get_or words version_at 0) 2 version) (All-nil Holds) };
  }
