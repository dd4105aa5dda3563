-- Names and columns that were packed into the words of a table's block are read back from them.
use Rattle.std.proofs.Common.{◌≡◌, ◌≢◌, ⊎_elim, ℕ, zero, suc, ◌+◌, ◌*◌, ◌/◌, ◌%◌, ◌^◌, ◌<◌, ◌≤◌, true, ◌&&◌, ◌||◌, eqb, leb, List, [], ◌∷◌, ◌++◌, length, map, take, drop, get_or, refl, sym, ◌∙◌, ap, arith}
use Rattle.std.specs.Prelude.{All}
use Rattle.std.specs.Int.{w64, from_le_bytes, to_le_bytes}
use Rattle.std.specs.Char.{is_ascii_lowercase, is_ascii_digit}
use Rattle.std.specs.List.{flat_map, list_all, prefix_len, range_with_len}
use Rattle.std.proofs.lemmas.Bool.{and_parts, cases_Bool, eqb-true, leb-true, or_cases}
use Rattle.std.proofs.lemmas.List.{ext_get_or, get_or-append-add, get_or_append_left, get_or-drop, get_or-take, get_or_past, length-map, length-take-le}
use Rattle.std.proofs.lemmas.Nat.{le_bytes_8}
use Rattle.mv_model.specs.declared.shape.Column.{Column}
use Rattle.mv_model.specs.declared.shape.Kind.{Kind}
use Rattle.mv_model.specs.declared.shape.Kind.TheVariants.{Int, Text}
use Rattle.mv_model.specs.Name.{is_name, is_name_byte, begins_with_lowercase}
use Rattle.image_layout.specs.Places.{below, packed_byte}
use Rattle.image_layout.specs.Records.{column_at, columns_at, table_name_at}
use Rattle.image_layout.specs.Tables.{columns_of, column_record as image_record, inner_columns, is_first_version, is_text}
use Rattle.image_layout.proofs.TableParts.{first_inner, inner_record, second_inner}
use Rattle.shown_state.specs.LogicalState.{name_at, column_of, kind_of}
use Rattle.shown_state.specs.Packed.{packed_word}
use Rattle.catalog.specs.Creation.{kind_word, column_record, head_record, table_record}
use Rattle.catalog.proofs.Filling.{length-column_record, length-head_record}
use Rattle.catalog.proofs.Lists.{column_same}
use Rattle.catalog.proofs.Names.{some_byte, prefix_is}

-- ── bytes ──

abbrev first_eight : List ℕ → List ℕ
first_eight xs = get_or xs 0 0 ∷ get_or xs 1 0 ∷ get_or xs 2 0 ∷ get_or xs 3 0 ∷ get_or xs 4 0 ∷ get_or xs 5 0 ∷ get_or xs 6 0 ∷ get_or xs 7 0 ∷ []

eight_small : (xs : List ℕ) → ((k : ℕ) → get_or xs k 0 < 256) → (i : ℕ) → get_or (first_eight xs) i 0 < 256
eight_small xs small zero = small 0
eight_small xs small (suc zero) = small 1
eight_small xs small (suc (suc zero)) = small 2
eight_small xs small (suc (suc (suc zero))) = small 3
eight_small xs small (suc (suc (suc (suc zero)))) = small 4
eight_small xs small (suc (suc (suc (suc (suc zero))))) = small 5
eight_small xs small (suc (suc (suc (suc (suc (suc zero)))))) = small 6
eight_small xs small (suc (suc (suc (suc (suc (suc (suc zero))))))) = small 7
eight_small xs small (suc (suc (suc (suc (suc (suc (suc (suc i)))))))) = omega arith

-- a byte of the word that eight bytes are packed into
byte_back : (xs : List ℕ) → ((k : ℕ) → get_or xs k 0 < 256) → (k : ℕ) → k < 8 → from_le_bytes w64 xs / 2 ^ (8 * k) % 256 ≡ get_or xs k 0
byte_back xs small k lt = by k lt
  where
    all : to_le_bytes w64 (from_le_bytes w64 xs) ≡ first_eight xs
    all = le_bytes_8 (first_eight xs) (from_le_bytes w64 xs) refl (eight_small xs small) refl

    one : (n : ℕ) → n / 1 % 256 ≡ n % 256
    one n = omega arith

    by : (j : ℕ) → j < 8 → from_le_bytes w64 xs / 2 ^ (8 * j) % 256 ≡ get_or xs j 0
    by zero in_word = one (from_le_bytes w64 xs) ∙ ap (λ (l : List ℕ). get_or l 0 0) all
    by (suc zero) in_word = ap (λ (l : List ℕ). get_or l 1 0) all
    by (suc (suc zero)) in_word = ap (λ (l : List ℕ). get_or l 2 0) all
    by (suc (suc (suc zero))) in_word = ap (λ (l : List ℕ). get_or l 3 0) all
    by (suc (suc (suc (suc zero)))) in_word = ap (λ (l : List ℕ). get_or l 4 0) all
    by (suc (suc (suc (suc (suc zero))))) in_word = ap (λ (l : List ℕ). get_or l 5 0) all
    by (suc (suc (suc (suc (suc (suc zero)))))) in_word = ap (λ (l : List ℕ). get_or l 6 0) all
    by (suc (suc (suc (suc (suc (suc (suc zero))))))) in_word = ap (λ (l : List ℕ). get_or l 7 0) all
    by (suc (suc (suc (suc (suc (suc (suc (suc j)))))))) in_word = absurd (omega (arith, in_word))

-- what a name's bytes are
pub record HasNameBytes (bytes : List ℕ) : Type 0 where
  pub few : length bytes ≤ 24
  pub small : (k : ℕ) → get_or bytes k 0 < 256
  pub some : (k : ℕ) → k < length bytes → get_or bytes k 0 ≢ 0

name_byte_range : (byte : ℕ) → is_name_byte byte ≡ true → (0 < byte) × (byte < 256)
name_byte_range byte is = ⊎_elim
    (λ either. ⊎_elim (λ letter. between 97 122 letter (omega arith) (omega arith)) (λ digit. between 48 57 digit (omega arith) (omega arith)) (or_cases (is_ascii_lowercase byte) (is_ascii_digit byte) either))
    (λ line. let same = eqb-true byte 95 line in (omega (arith, same), omega (arith, same)))
    (or_cases (is_ascii_lowercase byte || is_ascii_digit byte) (eqb byte 95) is)
  where
    between : (low high : ℕ) → (leb low byte && leb byte high) ≡ true → 0 < low → high < 256 → (0 < byte) × (byte < 256)
    between low high both above below_it =
        let parts = and_parts (leb low byte) (leb byte high) both in
        let from = leb-true low byte parts.0 in
        let to = leb-true byte high parts.1 in
        (omega (arith, from, above), omega (arith, to, below_it))

all_name_bytes : (bytes : List ℕ) → list_all is_name_byte bytes ≡ true → (k : ℕ) → (get_or bytes k 0 < 256) × (k < length bytes → get_or bytes k 0 ≢ 0)
all_name_bytes [] is k = (omega arith, λ lt. absurd (omega (arith, lt)))
all_name_bytes (byte ∷ bytes) is zero = let range = name_byte_range byte (and_parts (is_name_byte byte) (list_all is_name_byte bytes) is).0 in (range.1, λ lt e. omega (arith, e, range))
all_name_bytes (byte ∷ bytes) is (suc k) =
    let rest = all_name_bytes bytes (and_parts (is_name_byte byte) (list_all is_name_byte bytes) is).1 k in (rest.0, λ lt. rest.1 (omega (arith, lt)))

pub name_bytes : (bytes : List ℕ) → is_name bytes ≡ true → HasNameBytes bytes
name_bytes bytes is =
    let front = and_parts (leb (length bytes) 24 && list_all is_name_byte bytes) (begins_with_lowercase bytes) is in
    let parts = and_parts (leb (length bytes) 24) (list_all is_name_byte bytes) front.0 in
    record {
      few = leb-true (length bytes) 24 parts.0;
      small = λ k. (all_name_bytes bytes parts.1 k).0;
      some = λ k lt. (all_name_bytes bytes parts.1 k).1 lt;
    }

-- ── a name ──

mapped_from : (f : ℕ → ℕ) (a n k : ℕ) → k < n → get_or (map f (range_with_len a n)) k 0 ≡ f (a + k)
mapped_from f a zero k lt = absurd (omega (arith, lt))
mapped_from f a (suc n) zero lt = ap f (here a)
  where
    here : (x : ℕ) → x ≡ x + 0
    here x = omega arith
mapped_from f a (suc n) (suc k) lt = mapped_from f (a + 1) n k (omega (arith, lt)) ∙ ap f (there a k)
  where
    there : (x y : ℕ) → x + 1 + y ≡ x + suc y
    there x y = omega arith

pub mapped_at : (f : ℕ → ℕ) (n k : ℕ) → k < n → get_or (map f (below n)) k 0 ≡ f k
mapped_at f n k lt = mapped_from f 0 n k lt ∙ ap f (none k)
  where
    none : (j : ℕ) → 0 + j ≡ j
    none j = omega arith

module _ (words : List ℕ) (place : ℕ) (bytes : List ℕ) (known : HasNameBytes bytes) (packed : (k : ℕ) → k < 3 → get_or words (place + k) 0 ≡ packed_word bytes k) where
  packed_back : (byte : ℕ) → byte < 24 → packed_byte words place byte ≡ get_or bytes byte 0
  packed_back byte lt =
      let word = byte / 8 in
      let rest : List ℕ = drop (8 * word) bytes in
      let at : 8 * word + byte % 8 ≡ byte = omega arith in
      ap (λ (v : ℕ). v / 2 ^ (8 * (byte % 8)) % 256) (packed word (omega (arith, lt)))
      ∙ byte_back rest (λ k. subst_small (get_or-drop (8 * word) bytes k 0) (known.small (8 * word + k))) (byte % 8) (omega arith)
      ∙ get_or-drop (8 * word) bytes (byte % 8) 0
      ∙ ap (λ (k : ℕ). get_or bytes k 0) at
    where
      subst_small : {a b : ℕ} → a ≡ b → b < 256 → a < 256
      subst_small e lt = omega (arith, e, lt)

  abbrev read : List ℕ
  read = map (packed_byte words place) (below 24)

  read_at : (byte : ℕ) → byte < 24 → get_or read byte 0 ≡ get_or bytes byte 0
  read_at byte lt = mapped_at (packed_byte words place) 24 byte lt ∙ packed_back byte lt

  pub name_back : name_at words place ≡ bytes
  unfolding name_at
  name_back =
      let few = known.few in
      let size : length (map (packed_byte words place) (below 24)) ≡ 24 = length-map (below 24) (packed_byte words place) in
      let ends : prefix_len some_byte (map (packed_byte words place) (below 24)) ≡ length bytes =
      prefix_is (map (packed_byte words place) (below 24)) (length bytes)
      (λ k lt e. known.some k lt (sym (read_at k (omega (arith, lt, few))) ∙ e))
      (omega (arith, size, few))
      (λ lt. read_at (length bytes) (omega (arith, lt, size)) ∙ get_or_past bytes (length bytes) 0 (omega arith)) in
      let taken = length-take-le (length bytes) (map (packed_byte words place) (below 24)) (omega (arith, size, few)) in
      ap (λ (n : ℕ). take n (map (packed_byte words place) (below 24))) ends
      ∙ ext_get_or 0 (take (length bytes) (map (packed_byte words place) (below 24))) bytes taken
      (λ k lt. get_or-take (length bytes) (map (packed_byte words place) (below 24)) k 0 (omega (arith, lt, taken)) ∙ read_at k (omega (arith, lt, taken, few)))

-- ── a column ──

kind_back : (kind : Kind) (word : ℕ) → word ≡ kind_word kind → kind_of (eqb word 2) ≡ kind
kind_back Int word is = ap (λ (w : ℕ). kind_of (eqb w 2)) is
kind_back Text word is = ap (λ (w : ℕ). kind_of (eqb w 2)) is

pub column_back : (words : List ℕ) (at : ℕ) (column : Column) → HasNameBytes column.name → ((k : ℕ) → k < 4 → get_or words (at + k) 0 ≡ get_or (column_record column) k 0) → column_of words at ≡ column
column_back words at column known is =
    column_same (name_at words (at + 1)) column.name (kind_of (is_text words at)) column.kind (name_back words (at + 1) column.name known named)
    (kind_back column.kind (get_or words at 0) (ap (λ (p : ℕ). get_or words p 0) (here at) ∙ is 0 (omega arith)))
  where
    here : (p : ℕ) → p ≡ p + 0
    here p = omega arith

    next : (p k : ℕ) → p + 1 + k ≡ p + suc k
    next p k = omega arith

    named : (k : ℕ) → k < 3 → get_or words (at + 1 + k) 0 ≡ packed_word column.name k
    named zero lt = ap (λ (p : ℕ). get_or words p 0) (next at 0) ∙ is 1 (omega arith)
    named (suc zero) lt = ap (λ (p : ℕ). get_or words p 0) (next at 1) ∙ is 2 (omega arith)
    named (suc (suc zero)) lt = ap (λ (p : ℕ). get_or words p 0) (next at 2) ∙ is 3 (omega arith)
    named (suc (suc (suc k))) lt = absurd (omega (arith, lt))

-- ── a table ──

-- a word of a column's record among those of all columns
column_word : (columns : List Column) (j i : ℕ) (d : Column) → j < length columns → i < 40 → get_or (flat_map column_record columns) (40 * j + i) 0 ≡ get_or (column_record (get_or columns j d)) i 0
column_word [] j i d lt within = absurd (omega (arith, lt))
column_word (column ∷ columns) zero i d lt within =
    let size = length-column_record column in
    ap (λ (k : ℕ). get_or (flat_map column_record (column ∷ columns)) k 0) (none i) ∙ get_or_append_left (column_record column) (flat_map column_record columns) 0 i (omega (arith, within, size))
  where
    none : (k : ℕ) → 40 * 0 + k ≡ k
    none k = omega arith
column_word (column ∷ columns) (suc j) i d lt within =
    let size = length-column_record column in
    let at : 40 * suc j + i ≡ length (column_record column) + (40 * j + i) = omega (arith, size) in
    ap (λ (k : ℕ). get_or (column_record column ++ flat_map column_record columns) k 0) at
    ∙ get_or-append-add (column_record column) (flat_map column_record columns) (40 * j + i) 0
    ∙ column_word columns j i d (omega (arith, lt)) within

mapped_back : {X : Type 0} (f : ℕ → X) (g : ℕ → ℕ) (xs : List X) (a : ℕ) → ((j : ℕ) (d : X) → j < length xs → f (g (a + j)) ≡ get_or xs j d) → map f (map g (range_with_len a (length xs))) ≡ xs
mapped_back f g [] a each = refl
mapped_back {X} f g (x ∷ xs) a each =
    let first : f (g a) ≡ x = ap (λ (k : ℕ). f (g k)) (here a) ∙ each 0 x (omega arith) in
    let rest = mapped_back f g xs (a + 1) (λ j d lt. ap (λ (k : ℕ). f (g k)) (there a j) ∙ each (suc j) d (omega (arith, lt))) in
    ap (λ (y : X). y ∷ map f (map g (range_with_len (a + 1) (length xs)))) first ∙ ap (λ (ys : List X). x ∷ ys) rest
  where
    here : (p : ℕ) → p ≡ p + 0
    here p = omega arith

    there : (p k : ℕ) → p + 1 + k ≡ p + suc k
    there p k = omega arith

module _ (words : List ℕ) (block : ℕ) (name : List ℕ) (columns : List Column) (is : (k : ℕ) → k < length (table_record name columns) → get_or words (block + k) 0 ≡ get_or (table_record name columns) k 0)
    (size : length (table_record name columns) ≡ 40 + 40 * length columns) where
  head_word : (at k : ℕ) → at ≡ block + k → k < 40 → get_or words at 0 ≡ get_or (head_record name (length columns)) k 0
  head_word at k e lt =
      let head = length-head_record name (length columns) in
      ap (λ (p : ℕ). get_or words p 0) e ∙ is k (omega (arith, lt, size)) ∙ get_or_append_left (head_record name (length columns)) (flat_map column_record columns) 0 k (omega (arith, lt, head))

  pub table_name_back : HasNameBytes name → name_at words (table_name_at block) ≡ name
  table_name_back known = name_back words (table_name_at block) name known named
    where
      named : (k : ℕ) → k < 3 → get_or words (block + 2 + k) 0 ≡ packed_word name k
      named zero lt = head_word (block + 2 + 0) 2 (omega arith) (omega arith)
      named (suc zero) lt = head_word (block + 2 + 1) 3 (omega arith) (omega arith)
      named (suc (suc zero)) lt = head_word (block + 2 + 2) 4 (omega arith) (omega arith)
      named (suc (suc (suc k))) lt = absurd (omega (arith, lt))

  pub column_count_back : get_or words (columns_at block) 0 ≡ length columns
  column_count_back = head_word block 0 (omega arith) (omega arith)

  pub inner_back : inner_columns words block ≡ length columns
  inner_back = ⊎_elim
      (λ first. first_inner words block first ∙ column_count_back)
      (λ second. second_inner words block second ∙ head_word (block + 6) 6 (omega arith) (omega arith))
      (cases_Bool (is_first_version words))

  record_back : (j : ℕ) → j < length columns → image_record words block j ≡ column_at block j
  record_back j lt = let inner = inner_back in inner_record words block j (omega (arith, inner, lt))

  column_words : (j i : ℕ) (d : Column) → j < length columns → i < 40 → get_or words (column_at block j + i) 0 ≡ get_or (column_record (get_or columns j d)) i 0
  column_words j i d lt within =
      let head = length-head_record name (length columns) in
      let at : column_at block j + i ≡ block + (40 + (40 * j + i)) = omega arith in
      let behind : 40 + (40 * j + i) ≡ length (head_record name (length columns)) + (40 * j + i) = omega (arith, head) in
      ap (λ (p : ℕ). get_or words p 0) at
      ∙ is (40 + (40 * j + i)) (omega (arith, size, lt, within))
      ∙ ap (λ (k : ℕ). get_or (head_record name (length columns) ++ flat_map column_record columns) k 0) behind
      ∙ get_or-append-add (head_record name (length columns)) (flat_map column_record columns) (40 * j + i) 0
      ∙ column_word columns j i d lt within

  pub columns_back : All (λ (column : Column). HasNameBytes column.name) columns → map (column_of words) (columns_of words block) ≡ columns
  columns_back known =
      ap (λ (n : ℕ). map (column_of words) (map (image_record words block) (below n))) column_count_back
      ∙ mapped_back (column_of words) (image_record words block) columns 0 each
    where
      none : (j : ℕ) → 0 + j ≡ j
      none j = omega arith

      each : (j : ℕ) (d : Column) → j < length columns → column_of words (image_record words block (0 + j)) ≡ get_or columns j d
      each j d lt =
          ap (λ (k : ℕ). column_of words (image_record words block k)) (none j)
          ∙ ap (column_of words) (record_back j lt)
          ∙ column_back words (column_at block j) (get_or columns j d) (known j d lt) (λ k few. column_words j k d lt (omega (arith, few)))
