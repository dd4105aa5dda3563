-- Words that keep the rules of tables show tables: their names are names, and their columns are a shape.
use Rattle.std.proofs.Common.{◌≡◌, ◌≢◌, ◌⊎◌, inl, inr, ⊎_elim, ℕ, zero, suc, ◌+◌, ◌-◌, ◌*◌, ◌/◌, ◌%◌, ◌^◌, ◌<◌, ◌≤◌, Bool, true, false, not, ◌&&◌, ◌||◌, eqb, ltb, leb, List, [], ◌∷◌, ◌++◌, length, map, take, get_or, refl, sym, ◌∙◌, ap, subst, arith}
use Rattle.std.specs.Prelude.{All, Contains}
use Rattle.std.specs.Char.{is_ascii_lowercase}
use Rattle.std.specs.Cmp.Lexicographic.{same_text}
use Rattle.std.specs.Int.{w64, from_le_bytes, to_le_bytes}
use Rattle.std.specs.List.{flat_map, list_all, list_any, prefix_len}
use Rattle.std.proofs.lemmas.Bool.{cases_Bool, cases_eq, cases_lt, and_from, and_parts, both_ways, eq-eqb, eqb-true, eqb-false, ne_eqb, leb-true, le-leb, lt-ltb, not-true, or_cases, or_left, or_parts, cond-false}
use Rattle.std.proofs.lemmas.List.{get_or-take, get_or_past, length-map}
use Rattle.std.proofs.lemmas.List.Elements.{All-contains, All-head, All-tail, Contains-append_left, Contains-append_right}
use Rattle.std.proofs.lemmas.List.Folds.{length-prefix_len}
use Rattle.std.proofs.lemmas.List.Sums.{prefix_len-le-length, prefix_len_passes, prefix_len_stops}
use Rattle.std.proofs.lemmas.Nat.{from_le_bytes-to_le_bytes_8}
use Rattle.mv_model.specs.Name.{is_name, begins_with_lowercase, same_name as equal_names}
use Rattle.mv_model.specs.Shape.{lacks_column, names_differ}
use Rattle.pm_model.specs.Device.{AreWords}
use Rattle.image_layout.specs.Fixed.{table_slot_at}
use Rattle.image_layout.specs.Places.{below, packed_byte}
use Rattle.image_layout.specs.Records.{column_name_at, table_name_at}
use Rattle.image_layout.specs.Tables.{HasRecords, NamesExtension, table_count, table_block, table_blocks, columns_of, column_count, column_record, extension_count, extension_pointer_at, is_first_version}
use Rattle.image_layout.specs.Checks.{Check, Keeps, check}
use Rattle.image_layout.specs.EntryRules.{is_letter, is_name_byte, is_padded_name_byte, column_name_checks, kind_check, name_checks, name_rule, since_checks, table_count_rule, table_slot_rule}
use Rattle.image_layout.specs.SoundRules.{IsIntact, same_name, name_place_checks, table_name_checks, distinct_name_rule}
use Rattle.image_layout.proofs.Heap.{Holds}
use Rattle.image_layout.proofs.Members.{below-Contains, Contains-below, Contains-here, Contains-map, Contains-there, Contains-cons, Contains-nil, map-Contains}
use Rattle.image_layout.proofs.OwnedBlocks.{keeps_one}
use Rattle.image_layout.proofs.OwnersApart.{all_from}
use Rattle.image_layout.proofs.TableParts.{first_inner}
use Rattle.image_layout.proofs.TableSlots.{extension_in_image, one_extension, one_table, table_in_image}
use Rattle.shown_state.specs.LogicalState.{name_at, column_of}
use Rattle.catalog.specs.Entries.{KeepsTableRules, ShowsTable}
use Rattle.catalog.proofs.Lists.{mapped_count}
use Rattle.catalog.proofs.Names.{some_byte}
use Rattle.catalog.proofs.ReadBack.{mapped_at}

-- ── a name at a place, padded with zero bytes ──

pub record IsPadded (words : List ℕ) (place : ℕ) : Type 0 where
  pub first : is_letter (packed_byte words place 0) ≡ true
  pub later : (byte : ℕ) → 0 < byte → byte < 24 → (packed_byte words place byte ≡ 0) ⊎ ((is_name_byte (packed_byte words place byte) ≡ true) × (packed_byte words place (byte - 1) ≢ 0))

is_padded : (words : List ℕ) (place : ℕ) → All Holds (name_checks words place) → IsPadded words place
unfolding name_checks
is_padded words place holds = record { first = at 0 (omega arith); later = λ byte some lt. split byte some (at byte lt) }
  where
    at : (byte : ℕ) → byte < 24 → is_padded_name_byte words place byte ≡ true
    at byte lt = All-contains Holds (name_checks words place) (check (place + byte / 8) (is_padded_name_byte words place byte)) holds
        (map-Contains (λ b. check (place + b / 8) (is_padded_name_byte words place b)) (below 24) byte (below-Contains 24 byte lt))

    split : (byte : ℕ) → 0 < byte → is_padded_name_byte words place byte ≡ true → (packed_byte words place byte ≡ 0) ⊎ ((is_name_byte (packed_byte words place byte) ≡ true) × (packed_byte words place (byte - 1) ≢ 0))
    split byte some is =
        let here = packed_byte words place byte in
        let before = packed_byte words place (byte - 1) in
        let test = eqb here 0 || (is_name_byte here && not (eqb before 0)) in
        let plain : test ≡ true = sym (cond-false (eqb byte 0) (is_letter (packed_byte words place 0)) test (ne_eqb byte 0 (λ e. omega (arith, e, some)))) ∙ is in
        ⊎_elim (λ none. inl (eqb-true here 0 none))
        (λ both. let parts = and_parts (is_name_byte here) (not (eqb before 0)) both in inr (parts.0, eqb-false before 0 (not-true (eqb before 0) parts.1)))
        (or_cases (eqb here 0) (is_name_byte here && not (eqb before 0)) plain)

all_pass : (p : ℕ → Bool) (xs : List ℕ) → ((k : ℕ) → k < length xs → p (get_or xs k 0) ≡ true) → list_all p xs ≡ true
all_pass p [] each = refl
all_pass p (x ∷ xs) each = and_from (p x) (list_all p xs) (each 0 (omega arith)) (all_pass p xs (λ k lt. each (suc k) (omega (arith, lt))))

begins : (xs : List ℕ) → 0 < length xs → is_ascii_lowercase (get_or xs 0 0) ≡ true → begins_with_lowercase xs ≡ true
begins [] some lower = absurd (omega (arith, some))
begins (x ∷ xs) some lower = lower

module _ (words : List ℕ) (place : ℕ) (padded : IsPadded words place) where
  -- nothing follows a zero byte
  zeros : (k more : ℕ) → k + more < 24 → packed_byte words place k ≡ 0 → packed_byte words place (k + more) ≡ 0
  zeros k zero lt none = ap (packed_byte words place) (here k) ∙ none
    where
      here : (m : ℕ) → m + 0 ≡ m
      here m = omega arith
  zeros k (suc more) lt none = ⊎_elim (λ zero_byte. zero_byte)
      (λ both. absurd (both.1 (ap (packed_byte words place) (back k more) ∙ zeros k more (omega (arith, lt)) none)))
      (padded.later (k + suc more) (omega arith) lt)
    where
      back : (m j : ℕ) → m + suc j - 1 ≡ m + j
      back m j = omega arith

  letter_some : packed_byte words place 0 ≢ 0
  letter_some e = let low = leb-true 97 (packed_byte words place 0) (and_parts (leb 97 (packed_byte words place 0)) (leb (packed_byte words place 0) 122) padded.first).0 in omega (arith, e, low)

  abbrev bytes : List ℕ
  bytes = map (packed_byte words place) (below 24)

  abbrev long : ℕ
  long = prefix_len some_byte (map (packed_byte words place) (below 24))

  byte_at : (k : ℕ) → k < 24 → get_or bytes k 0 ≡ packed_byte words place k
  byte_at k lt = mapped_at (packed_byte words place) 24 k lt

  size : length bytes ≡ 24
  size = length-map (below 24) (packed_byte words place)

  -- the byte behind the name is 0
  ended : long < 24 → packed_byte words place long ≡ 0
  ended lt =
      let all = size in
      let stops = prefix_len_stops some_byte (map (packed_byte words place) (below 24)) 0 (omega (arith, lt, all)) in
      let last = get_or (map (packed_byte words place) (below 24)) long 0 in
      sym (byte_at long lt) ∙ ⊎_elim (λ (e : last ≡ 0). e) (λ apart. absurd (both_ways (not (eqb last 0)) stops (ap not (ne_eqb last 0 apart)))) (cases_eq last 0)

  short : long ≤ 24
  short = let all = size in let le = prefix_len-le-length some_byte (map (packed_byte words place) (below 24)) in omega (arith, all, le)

  named : (k : ℕ) → k < long → packed_byte words place k ≢ 0
  named k lt e =
      let le = short in
      let passes = prefix_len_passes some_byte (map (packed_byte words place) (below 24)) k 0 lt in
      let here : get_or (map (packed_byte words place) (below 24)) k 0 ≡ 0 = byte_at k (omega (arith, lt, le)) ∙ e in
      both_ways (some_byte (get_or (map (packed_byte words place) (below 24)) k 0)) (ap not (eq-eqb (get_or (map (packed_byte words place) (below 24)) k 0) 0 here)) passes

  taken_size : length (take long bytes) ≡ long
  taken_size = length-prefix_len some_byte (map (packed_byte words place) (below 24))

  -- the bytes of the name, and zeros behind it
  pub name_read : (k : ℕ) → k < 24 → get_or (name_at words place) k 0 ≡ packed_byte words place k
  unfolding name_at
  name_read k lt = ⊎_elim
      (λ within. get_or-take long (map (packed_byte words place) (below 24)) k 0 within ∙ byte_at k lt)
      (λ past. let taken = taken_size in
      get_or_past (take long (map (packed_byte words place) (below 24))) k 0 (omega (arith, past, taken))
      ∙ sym (ap (packed_byte words place) (behind long k past) ∙ zeros long (k - long) (omega (arith, lt, past)) (ended (omega (arith, lt, past)))))
      (cases_lt k long)
    where
      behind : (n m : ℕ) → n ≤ m → m ≡ n + (m - n)
      behind n m le = omega arith

  pub name_is_name : is_name (name_at words place) ≡ true
  unfolding name_at
  name_is_name =
      let taken = taken_size in
      let few = short in
      let name = take long (map (packed_byte words place) (below 24)) in
      and_from (leb (length name) 24 && list_all is_name_byte name) (begins_with_lowercase name)
      (and_from (leb (length name) 24) (list_all is_name_byte name) (le-leb (length name) 24 (omega (arith, taken, few)))
      (all_pass is_name_byte name (λ k lt. ap is_name_byte (name_read k (omega (arith, lt, taken, few))) ∙ byte_is k (omega (arith, lt, taken)))))
      (begins name (omega (arith, taken, some)) (ap is_ascii_lowercase (name_read 0 (omega arith)) ∙ padded.first))
    where
      some : 0 < long
      some = ⊎_elim (λ lt. lt) (λ le. absurd (letter_some (ap (packed_byte words place) (least long le) ∙ ended (omega (arith, le))))) (cases_lt 0 long)
        where
          least : (n : ℕ) → n ≤ 0 → 0 ≡ n
          least n le = omega arith

      byte_is : (k : ℕ) → k < long → is_name_byte (packed_byte words place k) ≡ true
      byte_is k lt = ⊎_elim
          (λ (first : k ≡ 0). ap (λ (b : ℕ). is_name_byte (packed_byte words place b)) first ∙ letter_is)
          (λ apart. ⊎_elim (λ none. absurd (named k lt none)) (λ both. both.0) (padded.later k (omega (arith, apart)) (let few = short in omega (arith, lt, few))))
          (cases_eq k 0)
        where
          letter_is : is_name_byte (packed_byte words place 0) ≡ true
          letter_is =
              let byte = packed_byte words place 0 in
              or_left (is_letter byte || (leb 48 byte && leb byte 57)) (eqb byte 95) (or_left (is_letter byte) (leb 48 byte && leb byte 57) padded.first)

-- ── names that are one are one word for word ──

same_bytes : (m n : ℕ) → m < 2 ^ 64 → n < 2 ^ 64 → ((i : ℕ) → i < 8 → m / 2 ^ (8 * i) % 256 ≡ n / 2 ^ (8 * i) % 256) → m ≡ n
same_bytes m n m_fits n_fits each =
    let e0 : m % 256 ≡ n % 256 = let e = each 0 (omega arith) in omega (arith, e) in
    let e1 = each 1 (omega arith) in
    let e2 = each 2 (omega arith) in
    let e3 = each 3 (omega arith) in
    let e4 = each 4 (omega arith) in
    let e5 = each 5 (omega arith) in
    let e6 = each 6 (omega arith) in
    let e7 = each 7 (omega arith) in
    let all : to_le_bytes w64 m ≡ to_le_bytes w64 n = λ i. e0 i ∷ e1 i ∷ e2 i ∷ e3 i ∷ e4 i ∷ e5 i ∷ e6 i ∷ e7 i ∷ [] in
    sym (from_le_bytes-to_le_bytes_8 m m_fits) ∙ ap (from_le_bytes w64) all ∙ from_le_bytes-to_le_bytes_8 n n_fits

byte_of_word : (words : List ℕ) (place k i : ℕ) → i < 8 → packed_byte words place (8 * k + i) ≡ get_or words (place + k) 0 / 2 ^ (8 * i) % 256
byte_of_word words place k i lt =
    let word : (8 * k + i) / 8 ≡ k = omega arith in
    let byte : (8 * k + i) % 8 ≡ i = omega arith in
    ap (λ (w : ℕ). get_or words (place + w) 0 / 2 ^ (8 * ((8 * k + i) % 8)) % 256) word ∙ ap (λ (b : ℕ). get_or words (place + k) 0 / 2 ^ (8 * b) % 256) byte

module _ (words : List ℕ) (fit : AreWords words) (p q : ℕ) (left : IsPadded words p) (right : IsPadded words q) where
  same_words : name_at words p ≡ name_at words q → (k : ℕ) → k < 3 → get_or words (p + k) 0 ≡ get_or words (q + k) 0
  same_words same k lt = same_bytes (get_or words (p + k) 0) (get_or words (q + k) 0) (fit (p + k)) (fit (q + k)) (λ i few.
      let within : 8 * k + i < 24 = omega (arith, lt, few) in
      sym (byte_of_word words p k i few) ∙ sym (name_read words p left (8 * k + i) within) ∙ ap (λ (xs : List ℕ). get_or xs (8 * k + i) 0) same
      ∙ name_read words q right (8 * k + i) within ∙ byte_of_word words q k i few)

  pub names_apart : same_name words p q ≡ false → equal_names (name_at words p) (name_at words q) ≡ false
  names_apart apart = ⊎_elim
      (λ same. let words_are = same_words (same_text (name_at words p) (name_at words q) (sym same)) in
      let one = λ (k : ℕ) (lt : k < 3). eq-eqb (get_or words (p + k) 0) (get_or words (q + k) 0) (words_are k lt) in
      absurd (both_ways (same_name words p q) apart (and_from _ _ (one 0 (omega arith)) (and_from _ _ (one 1 (omega arith)) (and_from _ true (one 2 (omega arith)) refl)))))
      (λ other. other)
      (cases_Bool (equal_names (name_at words p) (name_at words q)))

-- ── the columns of a table ──

none_of : (p : ℕ → Bool) (xs : List ℕ) → list_any p xs ≡ false → (x : ℕ) → Contains xs x → p x ≡ false
none_of p [] none x is = absurd (Contains-nil x is)
none_of p (y ∷ xs) none x is =
    let parts = or_parts (p y) (list_any p xs) none in
    ⊎_elim (λ (here : y ≡ x). ap p (sym here) ∙ parts.0) (λ there. none_of p xs parts.1 x there) (Contains-cons y x xs is)

apart_from : (words before names : List ℕ) → All Holds (name_place_checks words before names) → (x : ℕ) → Contains before x → (y : ℕ) → Contains names y → same_name words y x ≡ false
apart_from words before [] holds x there y is = absurd (Contains-nil y is)
apart_from words before (name ∷ names) holds x there y is =
    let first = check name (not (list_any (same_name words name) before)) in
    let rest = name_place_checks words (name ∷ before) names in
    ⊎_elim
    (λ (here : name ≡ y). subst (λ (z : ℕ). same_name words z x ≡ false) here (none_of (same_name words name) before (not-true (list_any (same_name words name) before) (All-head Holds first rest holds)) x there))
    (λ later. apart_from words (name ∷ before) names (All-tail Holds first rest holds) x (Contains-there name x before there) y later)
    (Contains-cons name y names is)

lacks : (words : List ℕ) (name : List ℕ) (columns : List ℕ) → ((column : ℕ) → Contains columns column → equal_names (name_at words (column_name_at column)) name ≡ false) → lacks_column name (map (column_of words) columns) ≡ true
lacks words name [] each = refl
lacks words name (column ∷ columns) each =
    and_from (not (equal_names (name_at words (column_name_at column)) name)) (lacks_column name (map (column_of words) columns)) (ap not (each column (Contains-here column columns)))
    (lacks words name columns (λ other is. each other (Contains-there column other columns is)))

columns_differ : (words : List ℕ) → AreWords words → (before columns : List ℕ) → ((column : ℕ) → Contains columns column → IsPadded words (column_name_at column)) → All Holds (name_place_checks words before (map column_name_at columns))
    → names_differ (map (column_of words) columns) ≡ true
columns_differ words fit before [] padded holds = refl
columns_differ words fit before (column ∷ columns) padded holds =
    let name = column_name_at column in
    let names = map column_name_at columns in
    let rest = All-tail Holds (check name (not (list_any (same_name words name) before))) (name_place_checks words (name ∷ before) names) holds in
    and_from (lacks_column (name_at words name) (map (column_of words) columns)) (names_differ (map (column_of words) columns))
    (lacks words (name_at words name) columns (λ other is. names_apart words fit (column_name_at other) name (padded other (Contains-there column other columns is)) (padded column (Contains-here column columns))
    (apart_from words (name ∷ before) names rest name (Contains-here name before) (column_name_at other) (map-Contains column_name_at columns other is))))
    (columns_differ words fit (name ∷ before) columns (λ other is. padded other (Contains-there column other columns is)) rest)

-- the checks of one table among those of all
of_table : (words before blocks : List ℕ) → All Holds (table_name_checks words before blocks) → (block : ℕ) → Contains blocks block → All Holds (name_place_checks words [] (map column_name_at (columns_of words block)))
of_table words before [] holds block is = absurd (Contains-nil block is)
of_table words before (one ∷ blocks) holds block is =
    let first = check (table_name_at one) (not (list_any (same_name words (table_name_at one)) before)) in
    let own = name_place_checks words [] (map column_name_at (columns_of words one)) in
    let later = table_name_checks words (table_name_at one ∷ before) blocks in
    let rest = All-tail Holds first (own ++ later) holds in
    ⊎_elim
    (λ (here : one ≡ block). subst (λ (b : ℕ). All Holds (name_place_checks words [] (map column_name_at (columns_of words b)))) here
    (all_from Holds own (λ c there. All-contains Holds (own ++ later) c rest (Contains-append_left own later c there))))
    (λ there. of_table words (table_name_at one ∷ before) blocks (all_from Holds later (λ c in_later. All-contains Holds (own ++ later) c rest (Contains-append_right own later c in_later))) block there)
    (Contains-cons one block blocks is)

-- ── the records of a published table ──

module _ (words : List ℕ) (whole : length words % 32768 ≡ 0) (count : Keeps words table_count_rule) (slots : Keeps words table_slot_rule) (table : ℕ) (lt : table < table_count words) where
  named_extension : (extension : ℕ) → extension < extension_count words (table_block words table) → NamesExtension words (table_block words table) extension
  named_extension extension here = ⊎_elim
      (λ first. absurd (let none = first_inner words (table_block words table) first in omega (arith, here, none)))
      (λ second.
      let points = one_extension words count slots table extension lt second here in
      record { pointer = points.pointer; within = extension_in_image words (get_or words (extension_pointer_at words (table_block words table) extension) 0) whole points })
      (cases_Bool (is_first_version words))

  pub table_records : HasRecords words (table_block words table)
  table_records =
      let points = one_table words table count slots lt in
      record {
        most = points.most;
        inner = points.inner;
        within = table_in_image words (get_or words (table_slot_at table) 0) whole points;
        extensions = named_extension;
      }

-- ── each table ──

module _ (words : List ℕ) (fit : AreWords words) (whole : length words % 32768 ≡ 0) (keeps : KeepsTableRules words) (table : ℕ) (lt : table < table_count words) where
  abbrev block : ℕ
  block = table_block words table

  is_block : Contains (table_blocks words) block
  is_block = map-Contains (table_block words) (below (table_count words)) table (below-Contains (table_count words) table lt)

  abbrev of_columns : List Check
  of_columns = flat_map (column_name_checks words block) (below (column_count words block))

  table_checks : All Holds (name_checks words (table_name_at block) ++ of_columns)
  unfolding name_rule
  table_checks = keeps_one words (table_blocks words) (λ b. name_checks words (table_name_at b) ++ flat_map (column_name_checks words b) (below (column_count words b))) (table_block words table) keeps.names.checks is_block

  table_padded : IsPadded words (table_name_at block)
  table_padded =
      let own = name_checks words (table_name_at (table_block words table)) in
      let later = of_columns in
      is_padded words (table_name_at (table_block words table)) (all_from Holds own (λ c there. All-contains Holds (own ++ later) c table_checks (Contains-append_left own later c there)))

  numbered_padded : (number : ℕ) → number < column_count words block → IsPadded words (column_name_at (column_record words block number))
  numbered_padded number lt =
      let column = column_record words block number in
      let own = name_checks words (table_name_at (table_block words table)) in
      let later = of_columns in
      let named = name_checks words (column_name_at column) in
      let late = since_checks words block number in
      let all = all_from Holds later (λ c there. All-contains Holds (own ++ later) c table_checks (Contains-append_right own later c there)) in
      let one = All-tail Holds (kind_check words column) (named ++ late) (keeps_one words (below (column_count words block)) (column_name_checks words block) number all (below-Contains (column_count words block) number lt)) in
      is_padded words (column_name_at column) (all_from Holds named (λ c there. All-contains Holds (named ++ late) c one (Contains-append_left named late c there)))

  column_padded : (column : ℕ) → Contains (columns_of words block) column → IsPadded words (column_name_at column)
  column_padded column is =
      let (number, among, here) = Contains-map (column_record words block) (below (column_count words block)) column is in
      subst (λ (c : ℕ). IsPadded words (column_name_at c)) here (numbered_padded number (Contains-below (column_count words block) number among))

  distinct : All Holds (name_place_checks words [] (map column_name_at (columns_of words block)))
  unfolding distinct_name_rule
  distinct = of_table words [] (table_blocks words) keeps.distinct_names.checks (table_block words table) is_block

  pub shows_table : ShowsTable words table
  shows_table =
      let points = one_table words table keeps.table_count keeps.table_slots lt in
      let count = column_count words (table_block words table) in
      let columns = columns_of words (table_block words table) in
      let size = mapped_count (column_of words) (column_record words (table_block words table)) count in
      let some = points.least in
      let inner = points.inner in
      record {
        pointer = points.pointer;
        records = table_records words whole keeps.table_count keeps.table_slots table lt;
        name = name_is_name words (table_name_at (table_block words table)) table_padded;
        column_names = λ column within. name_is_name words (column_name_at (column_record words (table_block words table) column)) (numbered_padded column within);
        shape = and_from (ltb 0 (length (map (column_of words) columns))) (names_differ (map (column_of words) columns)) (lt-ltb 0 (length (map (column_of words) columns)) (omega (arith, some, inner, size)))
            (columns_differ words fit [] columns column_padded distinct);
      }

-- an intact image keeps the rules
pub intact_keeps : (words : List ℕ) → IsIntact words → KeepsTableRules words
intact_keeps words intact = record { table_count = intact.entry.table_count; table_slots = intact.entry.table_slots; names = intact.entry.names; distinct_names = intact.names }
