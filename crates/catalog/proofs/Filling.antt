-- Stores of values from a place on, and words of packed bytes.
use Rattle.std.proofs.Common.{◌≡◌, ⊎_elim, ℕ, suc, ◌-◌, append_assoc, append-nil, ◌+◌, ◌*◌, ◌<◌, ◌≤◌, List, [], ◌∷◌, ◌++◌, length, map, take, drop, get_or, set, refl, sym, ◌∙◌, ap, arith}
use Rattle.std.specs.List.{flat_map}
use Rattle.std.specs.Int.{w64, from_le_bytes}
use Rattle.std.proofs.lemmas.List.{take_more, get_or-drop, get_or_past, get_or-set_same, get_or-set_other, length-take}
use Rattle.std.proofs.lemmas.Bool.{cases_eq}
use Rattle.std.proofs.lemmas.List.{length-append, length-map, length-take-le, take_all}
use Rattle.std.proofs.lemmas.Grind.{flat_map-append}
use Rattle.mv_model.specs.declared.shape.Column.{Column}
use Rattle.pm_model.specs.declared.action.Action.{Action}
use Rattle.pm_model.specs.Plans.{store}
use Rattle.shown_state.specs.Mending.{fill_from}
use Rattle.shown_state.specs.Packed.{packed_word}
use Rattle.catalog.specs.Creation.{column_record, head_record, table_record}
use Rattle.pm_model.specs.Plans.{lines_of, part_actions, part_end}
use Rattle.pm_model.specs.declared.action.Action.TheVariants.{Flush, Fence}
use Rattle.pm_model.proofs.Lines.{length-lines_of, part_has_room, last_part}

pub fill_from-append : (place : ℕ) (xs ys : List ℕ) → fill_from place (xs ++ ys) ≡ fill_from place xs ++ fill_from (place + length xs) ys
fill_from-append place [] ys = ap (λ (p : ℕ). fill_from p ys) (here place)
  where
    here : (p : ℕ) → p ≡ p + 0
    here p = omega arith
fill_from-append place (x ∷ xs) ys =
    ap (λ (part : List Action). store place x ∷ part)
    (fill_from-append (place + 1) xs ys ∙ ap (λ (p : ℕ). fill_from (place + 1) xs ++ fill_from p ys) (there place (length xs)))
  where
    there : (p n : ℕ) → p + 1 + n ≡ p + suc n
    there p n = omega arith

pub length-fill_from : (place : ℕ) (xs : List ℕ) → length (fill_from place xs) ≡ length xs
length-fill_from place [] = refl
length-fill_from place (x ∷ xs) = ap suc (length-fill_from (place + 1) xs)

-- one value more
pub filled_next : (place : ℕ) (values : List ℕ) (k : ℕ) → k < length values → fill_from place (take (k + 1) values) ≡ fill_from place (take k values) ++ store (place + k) (get_or values k 0) ∷ []
filled_next place values k lt =
    let size : length (take k values) ≡ k = omega (arith, length-take k values, lt) in
    ap (fill_from place) (take_more values k 0 lt)
    ∙ fill_from-append place (take k values) (get_or values k 0 ∷ [])
    ∙ ap (λ (n : ℕ). fill_from place (take k values) ++ store (place + n) (get_or values k 0) ∷ []) size

-- eight bytes that are the same are one word
pub same_word : (xs ys : List ℕ) → ((k : ℕ) → k < 8 → get_or xs k 0 ≡ get_or ys k 0) → from_le_bytes w64 xs ≡ from_le_bytes w64 ys
same_word xs ys each =
    let a = each 0 (omega arith) in
    let b = each 1 (omega arith) in
    let c = each 2 (omega arith) in
    let d = each 3 (omega arith) in
    let e = each 4 (omega arith) in
    let f = each 5 (omega arith) in
    let g = each 6 (omega arith) in
    let h = each 7 (omega arith) in
    rw (a, b, c, d, e, f, g, h) refl

pub packed_is : (bytes eight : List ℕ) (word : ℕ) → ((k : ℕ) → k < 8 → get_or eight k 0 ≡ get_or (drop (8 * word) bytes) k 0) → from_le_bytes w64 eight ≡ packed_word bytes word
packed_is bytes eight word each = same_word eight (drop (8 * word) bytes) each

module _ (bytes eight : List ℕ) (word byte : ℕ) (done : (k : ℕ) → k < byte → get_or eight k 0 ≡ get_or (drop (8 * word) bytes) k 0) where
  -- one byte more, where there is one
  pub packed_byte-here : length eight ≡ 8 → byte < 8 → (k : ℕ) → k < byte + 1 → get_or (set eight byte (get_or bytes (8 * word + byte) 0)) k 0 ≡ get_or (drop (8 * word) bytes) k 0
  packed_byte-here size lt k within = ⊎_elim
      (λ (same : k ≡ byte). ap (λ (n : ℕ). get_or (set eight byte (get_or bytes (8 * word + byte) 0)) n 0) same
      ∙ get_or-set_same eight byte (get_or bytes (8 * word + byte) 0) 0 (omega (arith, size, lt)) ∙ sym (get_or-drop (8 * word) bytes byte 0) ∙ ap (λ (n : ℕ). get_or (drop (8 * word) bytes) n 0) (sym same))
      (λ apart. get_or-set_other eight byte k (get_or bytes (8 * word + byte) 0) 0 apart ∙ done k (omega (arith, within, apart)))
      (cases_eq k byte)

  -- and where there is none
  pub packed_byte-past : length bytes ≤ 8 * word + byte → get_or eight byte 0 ≡ 0 → (k : ℕ) → k < byte + 1 → get_or eight k 0 ≡ get_or (drop (8 * word) bytes) k 0
  packed_byte-past past none k within = ⊎_elim
      (λ (same : k ≡ byte). ap (λ (n : ℕ). get_or eight n 0) same ∙ none ∙ sym (get_or-drop (8 * word) bytes byte 0 ∙ get_or_past bytes (8 * word + byte) 0 past) ∙ ap (λ (n : ℕ). get_or (drop (8 * word) bytes) n 0) (sym same))
      (λ apart. done k (omega (arith, within, apart)))
      (cases_eq k byte)

-- ── the words of a table ──

pub length-column_record : (column : Column) → length (column_record column) ≡ 40
length-column_record column = refl

pub length-head_record : (name : List ℕ) (columns : ℕ) → length (head_record name columns) ≡ 40
length-head_record name columns = refl

pub length-columns : (columns : List Column) → length (flat_map column_record columns) ≡ 40 * length columns
length-columns [] = omega arith
length-columns (column ∷ columns) =
    let all = length-append (column_record column) (flat_map column_record columns) in
    let one = length-column_record column in
    omega (arith, all, one, length-columns columns)

pub length-table_record : (name : List ℕ) (columns : List Column) → length (table_record name columns) ≡ 40 + 40 * length columns
length-table_record name columns =
    let all = length-append (head_record name (length columns)) (flat_map column_record columns) in
    let head = length-head_record name (length columns) in
    omega (arith, all, head, length-columns columns)

-- one column more
module _ (first : ℕ) (name : List ℕ) (columns : List Column) (k : ℕ) (column : Column) (lt : k < length columns) (is : column ≡ get_or columns k column) where
  so_far : List ℕ
  so_far = head_record name (length columns) ++ flat_map column_record (take k columns)

  pub columns_next : flat_map column_record (take (k + 1) columns) ≡ flat_map column_record (take k columns) ++ column_record column
  columns_next =
      ap (flat_map column_record) (take_more columns k column lt)
      ∙ flat_map-append column_record (take k columns) (get_or columns k column ∷ [])
      ∙ ap (λ (xs : List ℕ). flat_map column_record (take k columns) ++ xs) (append-nil (column_record (get_or columns k column)) ∙ ap column_record (sym is))

  pub columns_filled : fill_from first (head_record name (length columns) ++ flat_map column_record (take (k + 1) columns))
      ≡ fill_from first (head_record name (length columns) ++ flat_map column_record (take k columns)) ++ fill_from (first + 40 + 40 * k) (column_record column)
  columns_filled =
      let head = head_record name (length columns) in
      let done = flat_map column_record (take k columns) in
      let size = length-append head done in
      let heads = length-head_record name (length columns) in
      let some = length-columns (take k columns) in
      let count = length-take-le k columns (omega (arith, lt)) in
      let at : first + length (head ++ done) ≡ first + 40 + 40 * k = omega (arith, size, heads, some, count) in
      ap (λ (xs : List ℕ). fill_from first (head ++ xs)) columns_next
      ∙ ap (fill_from first) (sym (append_assoc head done (column_record column)))
      ∙ fill_from-append first (head ++ done) (column_record column)
      ∙ ap (λ (p : ℕ). fill_from first (head ++ done) ++ fill_from p (column_record column)) at

  pub pushed_column : (old done new : List Action) (at : ℕ) → done ≡ old ++ fill_from first (head_record name (length columns) ++ flat_map column_record (take k columns)) → at ≡ first + 40 + 40 * k
      → new ≡ done ++ fill_from at (column_record column) → new ≡ old ++ fill_from first (head_record name (length columns) ++ flat_map column_record (take (k + 1) columns))
  pushed_column old done new at done_is at_is new_is =
      let before = fill_from first (head_record name (length columns) ++ flat_map column_record (take k columns)) in
      new_is ∙ ap (λ (p : ℕ). done ++ fill_from p (column_record column)) at_is
      ∙ ap (λ (xs : List Action). xs ++ fill_from (first + 40 + 40 * k) (column_record column)) done_is
      ∙ append_assoc old before (fill_from (first + 40 + 40 * k) (column_record column))
      ∙ ap (λ (xs : List Action). old ++ xs) (sym columns_filled)

-- the whole part
module _ (old left : List Action) (first : ℕ) (values : List ℕ) (is : left ≡ old ++ fill_from first values) where
  pub filled_within : length values ≤ length left
  filled_within = let all = ap (length {A = Action}) is in omega (arith, all, length-append old (fill_from first values), length-fill_from first values)

  pub filled_end : (count : ℕ) → count ≡ length values → part_end (drop (length left - count) left) ≡ part_end (fill_from first values)
  filled_end count counted = ap part_end (last_part old (fill_from first values) left count is (counted ∙ sym (length-fill_from first values)))

  pub filled_whole : (count : ℕ) (whole : List Action) → count ≡ length values → whole ≡ left ++ part_end (drop (length left - count) left) → whole ≡ old ++ part_actions (fill_from first values)
  filled_whole count whole counted ended =
      ended ∙ ap (λ (xs : List Action). left ++ xs) (filled_end count counted)
      ∙ ap (λ (xs : List Action). xs ++ part_end (fill_from first values)) is
      ∙ append_assoc old (fill_from first values) (part_end (fill_from first values))

-- all columns
module _ (first : ℕ) (name : List ℕ) (columns shape : List Column) (k count : ℕ) (old left : List Action) (low : length columns ≤ k) (same : columns ≡ shape) (counted : count ≡ 40 + 40 * length columns)
    (is : left ≡ old ++ fill_from first (head_record name (length columns) ++ flat_map column_record (take k columns))) where
  pub table_left : left ≡ old ++ fill_from first (table_record name columns)
  table_left = is ∙ ap (λ (xs : List Column). old ++ fill_from first (head_record name (length columns) ++ flat_map column_record xs)) (take_all k columns low)

  counts : count ≡ length (table_record name columns)
  counts = let size = length-table_record name columns in omega (arith, counted, size)

  pub table_within : count ≤ length left
  table_within = let within = filled_within old left first (table_record name columns) table_left in omega (arith, within, counts)

  pub table_room : (spare : ℕ) → count < spare → length (lines_of (drop (length left - count) left)) < spare
  table_room spare room = part_has_room left count spare table_within room

  pub table_end : (whole : List Action) → whole ≡ left ++ part_end (drop (length left - count) left) → whole ≡ old ++ part_actions (fill_from first (table_record name shape))
  table_end whole ended = filled_whole old left first (table_record name columns) table_left count whole counts ended ∙ ap (λ (xs : List Column). old ++ part_actions (fill_from first (table_record name xs))) same

  pub table_spare : (spare after : ℕ) → after + length (part_end (drop (length left - count) left)) ≡ spare → spare ≤ after + count + 1
  table_spare spare after is_spare =
      let end = ap (length {A = Action}) (filled_end old left first (table_record name columns) table_left count counts) in
      let all = length-append (map (λ line. Flush line) (lines_of (fill_from first (table_record name columns)))) (Fence ∷ []) in
      let mapped = length-map (lines_of (fill_from first (table_record name columns))) (λ line. Flush line) in
      let few = length-lines_of (fill_from first (table_record name columns)) in
      let size = length-fill_from first (table_record name columns) in
      omega (arith, end, all, mapped, few, size, counts, is_spare)
