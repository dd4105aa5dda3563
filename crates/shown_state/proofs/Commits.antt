-- The commits of the state that words show.
use Rattle.std.proofs.Common.{◌≡◌, inl, inr, ⊎_elim, ℕ, zero, suc, ◌+◌, ◌-◌, ◌<◌, List, [], ◌∷◌, ◌++◌, length, get_or, map, refl, sym, ◌∙◌, ap, subst, arith}
use Rattle.std.specs.Prelude.{◌==◌, AllPairs, Contains}
use Rattle.std.specs.List.{flat_map, range_with_len}
use Rattle.std.proofs.lemmas.Bool.{eqb-true, eq-eqb}
use Rattle.std.proofs.lemmas.List.{length-map, get_or-map}
use Rattle.std.proofs.lemmas.List.Elements.{Contains-append_cases, Contains-get_or}
use Rattle.std.proofs.lemmas.List.FromFn.{length-range_with_len, get_or-range_with_len, get_or-map-range_with_len}
use Rattle.std.proofs.lemmas.List.Kept.{AllPairs-cons, AllPairs-filter}
use Rattle.mv_model.specs.State.{RowKey, CreatedRow, WriteSet, no_writes}
use Rattle.image_layout.specs.Places.{below}
use Rattle.image_layout.specs.Records.{created_header, ended_header}
use Rattle.image_layout.specs.Arrays.{capacity, array_word}
use Rattle.image_layout.specs.Tables.{table_count, table_block, columns_of, column_count, column_record}
use Rattle.image_layout.specs.Objects.{last_commit}
use Rattle.image_layout.proofs.Members.{below-Contains, Contains-below, Contains-here, Contains-there, Contains-flat_map, flat_map-Contains, Contains-map, map-Contains, Contains-filter, filter-Contains}
use Rattle.shown_state.specs.LogicalState.{row_value, rows_stamped, created_row, commit_of, logical_state}
use Rattle.shown_state.specs.CommitLaws.{IsCommit, shown_commit, row_key, IsStamped, IsBefore, CommitsAreCounted, CreatedAreStamped, EndedAreStamped, HasItsValues, CreatedHaveTheirValues, CommitsAscend}

pub commits_are_counted : CommitsAreCounted
unfolding logical_state
commits_are_counted words = length-map (below (last_commit words)) (λ number. commit_of words (number + 1)) ∙ length-range_with_len 0 (last_commit words)

shown_is : (words : List ℕ) (number : ℕ) → IsCommit words number → shown_commit words number ≡ commit_of words number
unfolding logical_state
shown_is words number is =
    get_or-map-range_with_len (λ n. commit_of words (n + 1)) 0 (last_commit words) (number - 1) (number - 1) no_writes (let low = is.0 in let high = is.1 in omega (arith, low, high)) (omega arith)
    ∙ ap (commit_of words) (let low = is.0 in omega (arith, low))

-- ── which rows ──

-- the rows of a table that a number stands at
stamped-is : (header : ℕ → ℕ) (words : List ℕ) (number table row : ℕ) → table < table_count words → Contains (rows_stamped words (header (table_block words table)) number) row → IsStamped header words number table row
stamped-is header words number table row lt is =
    let at = header (table_block words table) in
    let found = Contains-filter (λ r. array_word words (header (table_block words table)) r == number) (below (capacity words (header (table_block words table)))) row is in
    (lt, Contains-below (capacity words (header (table_block words table))) row found.0, eqb-true (array_word words (header (table_block words table)) row) number found.1)

is-stamped : (header : ℕ → ℕ) (words : List ℕ) (number table row : ℕ) → IsStamped header words number table row → Contains (rows_stamped words (header (table_block words table)) number) row
is-stamped header words number table row is =
    filter-Contains (λ r. array_word words (header (table_block words table)) r == number) (below (capacity words (header (table_block words table)))) row
    (below-Contains (capacity words (header (table_block words table))) row is.1) (eq-eqb (array_word words (header (table_block words table)) row) number is.2)

along : (header : ℕ → ℕ) (words : List ℕ) (number t r table row : ℕ) → row_key t r ≡ row_key table row → IsStamped header words number t r → IsStamped header words number table row
along header words number t r table row same is =
    let P : RowKey → Type 0 = λ key. IsStamped header words number key.table key.row in subst P same is

ended_keys : (words : List ℕ) (number : ℕ) → ℕ → List RowKey
ended_keys words number table = map (λ row. row_key table row) (rows_stamped words (ended_header (table_block words table)) number)

pub ended_are_stamped : EndedAreStamped
unfolding ended_keys
ended_are_stamped words number table row commit = (to, from)
  where
    to : Contains (shown_commit words number).ended (row_key table row) → IsStamped ended_header words number table row
    to is =
        let P : WriteSet → Type 0 = λ writes. Contains writes.ended (row_key table row) in
        let (t, among, of) = Contains-flat_map (ended_keys words number) (below (table_count words)) (row_key table row) (subst P (shown_is words number commit) is) in
        let (r, stamped, same) = Contains-map (λ r. row_key t r) (rows_stamped words (ended_header (table_block words t)) number) (row_key table row) of in
        along ended_header words number t r table row same (stamped-is ended_header words number t r (Contains-below (table_count words) t among) stamped)

    from : IsStamped ended_header words number table row → Contains (shown_commit words number).ended (row_key table row)
    from is =
        let P : WriteSet → Type 0 = λ writes. Contains writes.ended (row_key table row) in
        subst P (sym (shown_is words number commit)) (flat_map-Contains (ended_keys words number) (below (table_count words)) table (row_key table row) (below-Contains (table_count words) table is.0)
        (map-Contains (λ r. row_key table r) (rows_stamped words (ended_header (table_block words table)) number) row (is-stamped ended_header words number table row is)))

created_rows_of : (words : List ℕ) (number : ℕ) → ℕ → List CreatedRow
created_rows_of words number table = map (created_row words table) (rows_stamped words (created_header (table_block words table)) number)

-- a created row is one of a table's
created_from : (words : List ℕ) (number : ℕ) (created : CreatedRow) → IsCommit words number → Contains (shown_commit words number).created created
    → (table : ℕ) × (row : ℕ) × IsStamped created_header words number table row × (created_row words table row ≡ created)
unfolding created_rows_of
created_from words number created commit is =
    let P : WriteSet → Type 0 = λ writes. Contains writes.created created in
    let (t, among, of) = Contains-flat_map (created_rows_of words number) (below (table_count words)) created (subst P (shown_is words number commit) is) in
    let (r, stamped, same) = Contains-map (created_row words t) (rows_stamped words (created_header (table_block words t)) number) created of in
    (t, r, stamped-is created_header words number t r (Contains-below (table_count words) t among) stamped, same)

pub created_are_stamped : CreatedAreStamped
unfolding created_rows_of
created_are_stamped words number table row commit = (to, from)
  where
    to : Contains (map (λ created. created.key) (shown_commit words number).created) (row_key table row) → IsStamped created_header words number table row
    to is =
        let (created, among, key_is) = Contains-map (λ (c : CreatedRow). c.key) (shown_commit words number).created (row_key table row) is in
        let (t, r, stamped, same) = created_from words number created commit among in
        along created_header words number t r table row (ap (λ (c : CreatedRow). c.key) same ∙ key_is) stamped

    from : IsStamped created_header words number table row → Contains (map (λ created. created.key) (shown_commit words number).created) (row_key table row)
    from is =
        let P : WriteSet → Type 0 = λ writes. Contains writes.created (created_row words table row) in
        map-Contains (λ (c : CreatedRow). c.key) (shown_commit words number).created (created_row words table row)
        (subst P (sym (shown_is words number commit)) (flat_map-Contains (created_rows_of words number) (below (table_count words)) table (created_row words table row) (below-Contains (table_count words) table is.0)
        (map-Contains (created_row words table) (rows_stamped words (created_header (table_block words table)) number) row (is-stamped created_header words number table row is))))

-- ── their values ──

values_of : (words : List ℕ) (table row : ℕ) → HasItsValues words (created_row words table row)
values_of words table row =
    let block = table_block words table in
    let columns = slice_index_count words (table_block words table) in (
      length-map (columns_of words (table_block words table)) (row_value words row) ∙ columns,
      λ column d lt.
          get_or-map (row_value words row) (columns_of words (table_block words table)) column 0 d (omega (arith, lt, columns))
          ∙ ap (row_value words row) (get_or-map-range_with_len (column_record words (table_block words table)) 0 (column_count words (table_block words table)) column column 0 lt (omega arith)),
    )
  where
    slice_index_count : (words : List ℕ) (block : ℕ) → length (columns_of words block) ≡ column_count words block
    slice_index_count words block = length-map (below (column_count words block)) (column_record words block) ∙ length-range_with_len 0 (column_count words block)

pub created_have_their_values : CreatedHaveTheirValues
created_have_their_values words number created commit is =
    let (t, r, stamped, same) = created_from words number created commit is in subst (HasItsValues words) same (values_of words t r)

-- ── in order ──

module _ {X : Type 0} (key : X → RowKey) where
  abbrev Ascends : X → X → Type 0
  Ascends x y = IsBefore (key x) (key y)

  pairs-append : (xs ys : List X) → AllPairs (λ x y. IsBefore (key x) (key y)) xs → AllPairs (λ x y. IsBefore (key x) (key y)) ys → ((x y : X) → Contains xs x → Contains ys y → IsBefore (key x) (key y)) → AllPairs (λ x y. IsBefore (key x) (key y)) (xs ++ ys)
  pairs-append [] ys px py cross = py
  pairs-append (x ∷ xs) ys px py cross =
      AllPairs-cons (λ a b. IsBefore (key a) (key b)) x (xs ++ ys)
      (λ k d lt. behind (get_or (xs ++ ys) k d) (Contains-get_or (xs ++ ys) k d lt))
      (pairs-append xs ys (λ i j d lt below_j. px (suc i) (suc j) d (omega (arith, lt)) (omega (arith, below_j))) py (λ a b of_a of_b. cross a b (Contains-there x a xs of_a) of_b))
    where
      behind : (y : X) → Contains (xs ++ ys) y → IsBefore (key x) (key y)
      behind y is = ⊎_elim
          (λ (k, lt, same). subst (λ (z : X). IsBefore (key x) (key z)) same (px 0 (suc k) y (omega arith) (omega (arith, lt))))
          (λ later. cross x y (Contains-here x xs) later)
          (Contains-append_cases xs ys y is)

  -- one table after another
  pairs-tables : (f : ℕ → List X) → ((table : ℕ) → AllPairs (λ x y. IsBefore (key x) (key y)) (f table)) → ((table : ℕ) (x : X) → Contains (f table) x → (key x).table ≡ table)
      → (count from : ℕ) → AllPairs (λ x y. IsBefore (key x) (key y)) (flat_map f (range_with_len from count))
  pairs-tables f each of zero from = λ i j d lt below_j. absurd (omega (arith, below_j))
  pairs-tables f each of (suc count) from =
      pairs-append (f from) (flat_map f (range_with_len (from + 1) count)) (each from) (pairs-tables f each of count (from + 1))
      (λ x y of_x of_y.
      let here = of from x of_x in
      let (t, (k, lt, at), of_t) = Contains-flat_map f (range_with_len (from + 1) count) y of_y in
      let there = of t y of_t in
      let size = length-range_with_len (from + 1) count in
      let table : t ≡ from + 1 + k = sym at ∙ get_or-range_with_len (from + 1) count k t (omega (arith, lt, size)) in
      inl (omega (arith, here, there, table)))

-- the rows of one table
rows_ascend : (words : List ℕ) (header number : ℕ) → AllPairs (λ row other. row < other) (rows_stamped words header number)
rows_ascend words header number =
    AllPairs-filter (λ row other. row < other) (λ row. array_word words header row == number) (below (capacity words header))
    (λ i j d lt below_j.
    let size = length-range_with_len 0 (capacity words header) in
    let one = get_or-range_with_len 0 (capacity words header) i d (omega (arith, lt, below_j, size)) in
    let two = get_or-range_with_len 0 (capacity words header) j d (omega (arith, below_j, size)) in
    omega (arith, one, two, lt))

in_table : {X : Type 0} (key : X → RowKey) (make : ℕ → X) (table : ℕ) → ((row : ℕ) → key (make row) ≡ row_key table row) → (rows : List ℕ) → AllPairs (λ row other. row < other) rows → AllPairs (λ x y. IsBefore (key x) (key y)) (map make rows)
in_table {X} key make table made rows ascend i j d lt below_j =
    let size = length-map rows make in
    let one : get_or (map make rows) i d ≡ make (get_or rows i 0) = get_or-map make rows i 0 d (omega (arith, lt, below_j, size)) in
    let two : get_or (map make rows) j d ≡ make (get_or rows j 0) = get_or-map make rows j 0 d (omega (arith, below_j, size)) in
    let P : RowKey → RowKey → Type 0 = λ a b. IsBefore a b in
    let x : key (get_or (map make rows) i d) ≡ row_key table (get_or rows i 0) = ap key one ∙ made (get_or rows i 0) in
    let y : key (get_or (map make rows) j d) ≡ row_key table (get_or rows j 0) = ap key two ∙ made (get_or rows j 0) in
    subst (λ (k : RowKey). IsBefore k (key (get_or (map make rows) j d))) (sym x) (subst (λ (k : RowKey). IsBefore (row_key table (get_or rows i 0)) k) (sym y) (inr (refl, ascend i j 0 lt (omega (arith, below_j, size)))))

pub commits_ascend : CommitsAscend
unfolding created_rows_of ended_keys
commits_ascend words number commit = (
  subst (λ (writes : WriteSet). AllPairs (λ created other. IsBefore created.key other.key) writes.created) (sym (shown_is words number commit))
      (pairs-tables (λ (c : CreatedRow). c.key) (created_rows_of words number)
      (λ table. in_table (λ (c : CreatedRow). c.key) (created_row words table) table (λ row. refl) (rows_stamped words (created_header (table_block words table)) number) (rows_ascend words (created_header (table_block words table)) number))
      (λ table x is. let (r, among, same) = Contains-map (created_row words table) (rows_stamped words (created_header (table_block words table)) number) x is in sym (ap (λ (c : CreatedRow). c.key.table) same))
      (table_count words) 0),
  subst (λ (writes : WriteSet). AllPairs IsBefore writes.ended) (sym (shown_is words number commit))
      (pairs-tables (λ (k : RowKey). k) (ended_keys words number)
      (λ table. in_table (λ (k : RowKey). k) (λ row. row_key table row) table (λ row. refl) (rows_stamped words (ended_header (table_block words table)) number) (rows_ascend words (ended_header (table_block words table)) number))
      (λ table x is. let (r, among, same) = Contains-map (λ row. row_key table row) (rows_stamped words (ended_header (table_block words table)) number) x is in sym (ap (λ (k : RowKey). k.table) same))
      (table_count words) 0),
)
