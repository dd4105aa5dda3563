-- Where the parts of a table stand: its head, and the record of each column, in the table's block or in an extension.
use Rattle.std.proofs.Common.{◌≡◌, ◌≢◌, ◌⊎◌, inl, inr, ⊎_elim, ℕ, zero, suc, ◌+◌, ◌-◌, ◌*◌, ◌<◌, ◌≤◌, true, false, ltb, List, [], ◌∷◌, get_or, refl, sym, ◌∙◌, ap, subst, arith}
use Rattle.std.specs.Prelude.{Contains}
use Rattle.std.specs.List.{flat_map}
use Rattle.std.proofs.lemmas.Bool.{cases_Bool, cases_eq, cases_lt, cond-false, cond-true, le-ltb, lt-ltb}
use Rattle.image_layout.specs.Fixed.{table_slot_at}
use Rattle.image_layout.specs.Places.{below}
use Rattle.image_layout.specs.Records.{codes_header, column_at, created_header, dictionary_header, ended_header, extension_column_at, inner_columns_at, new_leaf_at, table_words}
use Rattle.image_layout.specs.Blocks.{Block, block_words}
use Rattle.image_layout.specs.Tables.{table_count, table_block, table_blocks, columns_of, all_columns, column_count, column_headers, column_record, array_headers, extension_count, extension_of, extension_pointer_at, inner_columns, is_first_version}
use Rattle.image_layout.specs.HeapRules.{reserved_rule, descriptor_rule}
use Rattle.image_layout.specs.Checks.{Keeps}
use Rattle.image_layout.specs.EntryRules.{table_count_rule, table_slot_rule}
use Rattle.image_layout.specs.Owners.{Owner, word_of, named_block, extension_owner, owner_words, table_owner, OwnersAreApart}
use Rattle.image_layout.proofs.Members.{below-Contains, Contains-below, Contains-there, Contains-cons, Contains-nil, Contains-flat_map, flat_map-Contains, Contains-map, map-Contains}
use Rattle.image_layout.proofs.Precedes.{either_first}
use Rattle.image_layout.proofs.Heap.{live_blocks_apart}
use Rattle.image_layout.proofs.TableSlots.{few_tables, one_extension, one_table}
use Rattle.image_layout.proofs.OwnersApart.{LiveAt, live_behind, table_fits, named, table_in, block_in, extension_in, live_owner, differ}

-- ── columns by their number ──

-- in version 1 all columns stand in the block, and in version 2 as many as the block says
pub first_inner : (words : List ℕ) (block : ℕ) → is_first_version words ≡ true → inner_columns words block ≡ column_count words block
unfolding inner_columns
first_inner words block first = cond-true (is_first_version words) (column_count words block) (get_or words (inner_columns_at block) 0) first

pub second_inner : (words : List ℕ) (block : ℕ) → is_first_version words ≡ false → inner_columns words block ≡ get_or words (inner_columns_at block) 0
unfolding inner_columns
second_inner words block second = cond-false (is_first_version words) (column_count words block) (get_or words (inner_columns_at block) 0) second

-- a column of the block, and one of an extension
pub inner_record : (words : List ℕ) (block column : ℕ) → column < inner_columns words block → column_record words block column ≡ column_at block column
unfolding column_record
inner_record words block column lt =
    cond-true (ltb column (inner_columns words block)) (column_at block column) (extension_column_at (extension_of words block (column - inner_columns words block)))
    (lt-ltb column (inner_columns words block) lt)

pub outer_record : (words : List ℕ) (block column : ℕ) → inner_columns words block ≤ column
    → column_record words block column ≡ extension_column_at (extension_of words block (column - inner_columns words block))
unfolding column_record
outer_record words block column le =
    cond-false (ltb column (inner_columns words block)) (column_at block column) (extension_column_at (extension_of words block (column - inner_columns words block)))
    (le-ltb column (inner_columns words block) le)

-- a column of a published table
pub record IsColumnOf (words : List ℕ) (column : ℕ) : Type 0 where
  pub table : ℕ
  pub published : table < table_count words
  pub number : ℕ
  pub within : number < column_count words (table_block words table)
  pub is : column ≡ column_record words (table_block words table) number

pub column_of : (words : List ℕ) (column : ℕ) → Contains (all_columns words) column → IsColumnOf words column
column_of words column is =
    let (block, there, here) = Contains-flat_map (columns_of words) (table_blocks words) column is in
    let (table, among, is_block) = Contains-map (table_block words) (below (table_count words)) block there in
    let C : ℕ → Type 0 = λ b. Contains (columns_of words b) column in
    let (number, counted, is_column) = Contains-map (column_record words (table_block words table)) (below (column_count words (table_block words table))) column (subst C (sym is_block) here) in
    record {
      table = table;
      published = Contains-below (table_count words) table among;
      number = number;
      within = Contains-below (column_count words (table_block words table)) number counted;
      is = sym is_column;
    }

-- it is among the columns of its table
pub column_among : (words : List ℕ) (block number column : ℕ) → number < column_count words block → column ≡ column_record words block number → Contains (columns_of words block) column
column_among words block number column lt is =
    subst (λ (k : ℕ). Contains (columns_of words block) k) (sym is)
    (map-Contains (column_record words block) (below (column_count words block)) number (below-Contains (column_count words block) number lt))

-- the first word of a part: of the table's block, and then of each column's record
abbrev pub part_at : List ℕ → ℕ → ℕ → ℕ
part_at words block zero = block
part_at words block (suc column) = column_record words block column

-- an array's header is the first or the second one of a part
pub record IsHeaderIn (words : List ℕ) (block header : ℕ) : Type 0 where
  pub part : ℕ
  pub within : part ≤ column_count words block
  pub at : (header ≡ part_at words block part + 8) ⊎ (header ≡ part_at words block part + 24)

pub header_at : (words : List ℕ) (block header : ℕ) → Contains (array_headers words block) header → IsHeaderIn words block header
header_at words block header is =
    ⊎_elim
    (λ first. record { part = 0; within = omega arith; at = inl (sym first) })
    (λ rest. ⊎_elim
    (λ second. record { part = 0; within = omega arith; at = inr (sym second) })
    (λ later.
    let (column, there, here) = Contains-flat_map column_headers (columns_of words block) header later in
    let (k, among, is_column) = Contains-map (column_record words block) (below (column_count words block)) column there in
    let lt = Contains-below (column_count words block) k among in
    record {
      part = suc k;
      within = omega (arith, lt);
      at = ⊎_elim (λ codes. inl (omega (arith, codes, is_column)))
          (λ last. ⊎_elim (λ values. inr (omega (arith, values, is_column))) (λ none. absurd (Contains-nil header none)) (Contains-cons (dictionary_header column) header [] last))
          (Contains-cons (codes_header column) header (dictionary_header column ∷ []) here);
    })
    (Contains-cons (ended_header block) header (flat_map column_headers (columns_of words block)) rest))
    (Contains-cons (created_header block) header (ended_header block ∷ flat_map column_headers (columns_of words block)) is)

-- a column's arrays are among those of its table
pub column_header : (words : List ℕ) (block column header : ℕ) → Contains (columns_of words block) column → Contains (column_headers column) header → Contains (array_headers words block) header
column_header words block column header among is =
    Contains-there (created_header block) header (ended_header block ∷ flat_map column_headers (columns_of words block))
    (Contains-there (ended_header block) header (flat_map column_headers (columns_of words block))
    (flat_map-Contains column_headers (columns_of words block) column header among is))

-- ── the blocks in which they stand ──

module _ (words : List ℕ) (reserved : Keeps words reserved_rule) (known : Keeps words descriptor_rule) (counted : Keeps words table_count_rule) (slots : Keeps words table_slot_rule) (apart : OwnersAreApart words) where
  -- live blocks that have a common word begin at one place
  pub common : (place count other size w : ℕ) → LiveAt words place count → LiveAt words other size → place ≤ w → w < place + count → other ≤ w → w < other + size → place ≡ other
  common place count other size w one two low high low_other high_other =
      let a = one.first in let b = one.size in let c = two.first in let d = two.size in
      ⊎_elim
      (λ same. sym a ∙ ap (λ (block : Block). block.first) same ∙ c)
      (λ shared. absurd (⊎_elim (λ before. omega (arith, before, a, b, c, d, high, low_other)) (λ after. omega (arith, after, a, b, c, d, low, high_other)) shared))
      (live_blocks_apart words reserved known one.block two.block one.live two.live)

  -- a live block stands behind the fixed pages
  pub block_behind : (place size : ℕ) → LiveAt words place size → 2048 ≤ place
  block_behind place size live = let behind = live_behind words reserved live.block live.live in let first = live.first in omega (arith, behind, first)

  -- a table's block is live, and has its words
  pub record TableBlock (table : ℕ) : Type 0 where
    pub size : ℕ
    pub live : LiveAt words (table_block words table) size
    pub holds : table_words (inner_columns words (table_block words table)) ≤ size
    pub behind : 2048 ≤ table_block words table

  pub table_live : (table : ℕ) → table < table_count words → TableBlock table
  table_live table lt =
      let is = one_table words table counted slots lt in
      let columns = inner_columns words (table_block words table) in
      let live = live_owner words reserved known apart (table_owner words table) (table_in words table lt) (named words (table_owner words table) is.some) in
      let inner = is.inner in let most = is.most in
      record { size = block_words (table_words columns); live = live; holds = table_fits columns (omega (arith, inner, most)); behind = block_behind (table_block words table) (block_words (table_words columns)) live }

  pub extension_some : (table extension : ℕ) → table < table_count words → is_first_version words ≡ false → extension < extension_count words (table_block words table)
      → get_or words (extension_pointer_at words (table_block words table) extension) 0 ≢ 0
  extension_some table extension published second lt = (one_extension words counted slots table extension published second lt).some

  extension_among : (table extension : ℕ) → table < table_count words → is_first_version words ≡ false → extension ≤ extension_count words (table_block words table)
      → get_or words (extension_pointer_at words (table_block words table) extension) 0 ≢ 0 → Contains (owner_words words) (extension_owner words (table_block words table) extension)
  extension_among table extension published second le some =
      let owner = extension_owner words (table_block words table) extension in
      block_in words table owner published (extension_in words (table_block words table) extension second le (named words owner some))

  -- an extension that the table owns, published or not, is live
  pub extension_live : (table extension : ℕ) → table < table_count words → is_first_version words ≡ false → extension ≤ extension_count words (table_block words table)
      → get_or words (extension_pointer_at words (table_block words table) extension) 0 ≢ 0 → LiveAt words (extension_of words (table_block words table) extension) 64
  extension_live table extension published second le some =
      let owner = extension_owner words (table_block words table) extension in
      live_owner words reserved known apart owner (extension_among table extension published second le some) (named words owner some)

  -- in which block a part stands
  pub data IsPartIn (table part : ℕ) : Type 0 where
    in_block : part ≤ inner_columns words (table_block words table) → part_at words (table_block words table) part ≡ table_block words table + 40 * part → IsPartIn table part
    in_extension : (extension : ℕ) → is_first_version words ≡ false → extension < extension_count words (table_block words table) → part ≡ inner_columns words (table_block words table) + 1 + extension
        → part_at words (table_block words table) part ≡ extension_of words (table_block words table) extension + 8 → IsPartIn table part

  pub part_in : (table part : ℕ) → part ≤ column_count words (table_block words table) → IsPartIn table part
  part_in table zero within = in_block (omega arith) (omega arith)
  part_in table (suc column) within =
      let block = table_block words table in
      let inner = inner_columns words block in
      ⊎_elim
      (λ lt. let is = inner_record words block column lt in in_block (omega (arith, lt)) (omega (arith, is)))
      (λ le. ⊎_elim
      (λ first. absurd (let all = first_inner words block first in omega (arith, all, le, within)))
      (λ second. in_extension (column - inner) second (omega (arith, le, within)) (omega (arith, le)) (outer_record words block column le))
      (cases_Bool (is_first_version words)))
      (cases_lt column inner)

  -- a word of the block that an owner word names
  pub record IsHome (owner : Owner) (w : ℕ) : Type 0 where
    pub among : Contains (owner_words words) owner
    pub some : word_of words owner ≢ 0
    pub size : ℕ
    pub live : LiveAt words (named_block words owner) size
    pub low : named_block words owner ≤ w
    pub high : w < named_block words owner + size
    pub outside : (column : ℕ) → Contains (all_columns words) column → owner.at ≢ new_leaf_at column

  -- no word stands in blocks that two owner words name
  pub one_home : (owner other : Owner) (w : ℕ) → IsHome owner w → IsHome other w → owner.at ≡ other.at
  one_home owner other w one two = ⊎_elim (λ same. same)
      (λ apart_at.
      let same = common (named_block words owner) one.size (named_block words other) two.size w one.live two.live one.low one.high two.low two.high in
      let first = named words owner one.some in
      let second = named words other two.some in
      absurd (⊎_elim
      (λ before. differ words reserved known apart owner other before first second two.outside same)
      (λ after. differ words reserved known apart other owner after second first one.outside (sym same))
      (either_first (owner_words words) owner other one.among two.among (λ same. apart_at (ap (λ (o : Owner). o.at) same)))))
      (cases_eq owner.at other.at)

  -- the word of a column's new leaf stands so far behind the first word of a live block
  record LeafSpot (column : ℕ) : Type 0 where
    pub place : ℕ
    pub size : ℕ
    pub live : LiveAt words place size
    pub offset : ℕ
    pub at : new_leaf_at column ≡ place + offset
    pub within : offset < size
    pub least : 14 ≤ offset

  leaf_spot : (column : ℕ) → Contains (all_columns words) column → LeafSpot column
  leaf_spot column is =
      let c = column_of words column is in
      let within = c.within in
      found c (part_in c.table (suc c.number) (omega (arith, within)))
    where
      found : (c : IsColumnOf words column) → IsPartIn c.table (suc c.number) → LeafSpot column
      found c (in_block few at) =
          let block = table_live c.table c.published in
          let is = c.is in let holds = block.holds in
          record { place = table_block words c.table; size = block.size; live = block.live; offset = 40 * suc c.number + 6; at = omega (arith, is, at); within = omega (arith, few, holds); least = omega arith }
      found c (in_extension extension second lt part at) =
          let is = c.is in
          record {
            place = extension_of words (table_block words c.table) extension;
            size = 64;
            live = extension_live c.table extension c.published second (omega (arith, lt)) (extension_some c.table extension c.published second lt);
            offset = 14;
            at = omega (arith, is, at);
            within = omega arith;
            least = omega arith;
          }

  -- one of the first words of a live block, and a word of the fixed pages, isn't the word of a new leaf
  pub first_outside : (place size offset w column : ℕ) → LiveAt words place size → offset < size → offset < 14 → w ≡ place + offset → Contains (all_columns words) column → w ≢ new_leaf_at column
  first_outside place size offset w column live within few at is same =
      let leaf = leaf_spot column is in
      let there = leaf.at in let inside = leaf.within in let least = leaf.least in
      let begins = common place size leaf.place leaf.size w live leaf.live (omega (arith, at)) (omega (arith, at, within)) (omega (arith, same, there)) (omega (arith, same, there, inside)) in
      omega (arith, at, same, there, begins, few, least)

  pub fixed_outside : (at column : ℕ) → at < 2048 → Contains (all_columns words) column → at ≢ new_leaf_at column
  fixed_outside at column low is same =
      let leaf = leaf_spot column is in
      let there = leaf.at in let behind = block_behind leaf.place leaf.size leaf.live in
      omega (arith, low, same, there, behind)

  -- ── the pointers to extensions ──

  -- a pointer to an extension stands in the table's block, or is the first word of the extension before
  pub extension_outside : (table extension : ℕ) → table < table_count words → is_first_version words ≡ false → extension ≤ extension_count words (table_block words table)
      → (column : ℕ) → Contains (all_columns words) column → extension_pointer_at words (table_block words table) extension ≢ new_leaf_at column
  extension_outside table zero published second le column is =
      let block = table_live table published in
      let holds = block.holds in
      first_outside (table_block words table) block.size 5 (table_block words table + 5) column block.live (omega (arith, holds)) (omega arith) refl is
  extension_outside table (suc extension) published second le column is =
      let some = extension_some table extension published second (omega (arith, le)) in
      let live = extension_live table extension published second (omega (arith, le)) some in
      first_outside (extension_of words (table_block words table) extension) 64 0 (extension_of words (table_block words table) extension) column live (omega arith) (omega arith) (omega arith) is

  pub extension_pointer_behind : (table extension : ℕ) → table < table_count words → is_first_version words ≡ false → extension ≤ extension_count words (table_block words table)
      → 2048 ≤ extension_pointer_at words (table_block words table) extension
  extension_pointer_behind table zero published second le = let behind = (table_live table published).behind in omega (arith, behind)
  extension_pointer_behind table (suc extension) published second le =
      block_behind (extension_of words (table_block words table) extension) 64
      (extension_live table extension published second (omega (arith, le)) (extension_some table extension published second (omega (arith, le))))

  -- a word of an extension that the table owns, published or not
  pub record IsInExtension (table extension w : ℕ) : Type 0 where
    pub published : table < table_count words
    pub second : is_first_version words ≡ false
    pub owned : extension ≤ extension_count words (table_block words table)
    pub some : get_or words (extension_pointer_at words (table_block words table) extension) 0 ≢ 0
    pub low : extension_of words (table_block words table) extension ≤ w
    pub high : w < extension_of words (table_block words table) extension + 64

  pub extension_home : (table extension w : ℕ) → IsInExtension table extension w → IsHome (extension_owner words (table_block words table) extension) w
  extension_home table extension w e = record {
    among = extension_among table extension e.published e.second e.owned e.some;
    some = e.some;
    size = 64;
    live = extension_live table extension e.published e.second e.owned e.some;
    low = e.low;
    high = e.high;
    outside = extension_outside table extension e.published e.second e.owned;
  }

  pub in_published : (table extension w : ℕ) → table < table_count words → is_first_version words ≡ false → extension < extension_count words (table_block words table)
      → extension_of words (table_block words table) extension ≤ w → w < extension_of words (table_block words table) extension + 64 → IsInExtension table extension w
  in_published table extension w published second lt low high =
      record { published = published; second = second; owned = omega (arith, lt); some = extension_some table extension published second lt; low = low; high = high }

  -- ── the words of parts ──

  -- a word of a table: of which part, and where in it
  pub record IsAt (table part offset w : ℕ) : Type 0 where
    pub published : table < table_count words
    pub within : part ≤ column_count words (table_block words table)
    pub few : offset < 40
    pub at : w ≡ part_at words (table_block words table) part + offset

  -- a word of the table's block
  pub table_home : (table w : ℕ) → table < table_count words → table_block words table ≤ w → w < table_block words table + table_words (inner_columns words (table_block words table)) → IsHome (table_owner words table) w
  table_home table w published low high =
      let block = table_live table published in
      let few = few_tables words counted in
      let holds = block.holds in
      record {
        among = table_in words table published;
        some = (one_table words table counted slots published).some;
        size = block.size;
        live = block.live;
        low = low;
        high = omega (arith, high, holds);
        outside = λ column is. fixed_outside (table_slot_at table) column (omega (arith, published, few)) is;
      }

  -- the owner word of the block in which a part stands
  abbrev pub part_owner : (table part : ℕ) → IsPartIn table part → Owner
  part_owner table part (in_block few at) = table_owner words table
  part_owner table part (in_extension extension second lt is at) = extension_owner words (table_block words table) extension

  pub part_home : (table part offset w : ℕ) → IsAt table part offset w → (p : IsPartIn table part) → IsHome (part_owner table part p) w
  part_home table part offset w s (in_block few at) =
      let is = s.at in let short = s.few in
      table_home table w s.published (omega (arith, is, at)) (omega (arith, is, at, few, short))
  part_home table part offset w s (in_extension extension second lt number at) =
      let is = s.at in let short = s.few in
      extension_home table extension w (in_published table extension w s.published second lt (omega (arith, is, at)) (omega (arith, is, at, short)))

  pub part_of : (table part offset w : ℕ) → IsAt table part offset w → IsPartIn table part
  part_of table part offset w s = part_in table part s.within

  pub at_behind : (table part offset w : ℕ) → IsAt table part offset w → 2048 ≤ w
  at_behind table part offset w s =
      let home = part_home table part offset w s (part_of table part offset w s) in
      let behind = block_behind _ home.size home.live in
      let low = home.low in
      omega (arith, behind, low)

  -- no word stands in the block of a table and in an extension
  pub table_or_extension : (table other extension w : ℕ) → IsHome (table_owner words table) w → table < table_count words → IsInExtension other extension w → ⊥
  table_or_extension table other extension w one published two =
      let places = one_home (table_owner words table) (extension_owner words (table_block words other) extension) w one (extension_home other extension w two) in
      let behind = extension_pointer_behind other extension two.published two.second two.owned in
      let few = few_tables words counted in
      omega (arith, places, behind, few, published)

  -- the word after the name of a table's block
  pub pointer_home : (table : ℕ) → table < table_count words → IsHome (table_owner words table) (table_block words table + 5)
  pointer_home table published = table_home table (table_block words table + 5) published (omega arith) (omega arith)

  -- two pointers to extensions stand at two places
  pub pointers_agree : (table extension other before : ℕ) → table < table_count words → other < table_count words → is_first_version words ≡ false
      → extension ≤ extension_count words (table_block words table) → before ≤ extension_count words (table_block words other)
      → extension_pointer_at words (table_block words table) extension ≡ extension_pointer_at words (table_block words other) before → (table ≡ other) × (extension ≡ before)
  pointers_agree table zero other zero one two second le le' same =
      let slots_same = one_home (table_owner words table) (table_owner words other) (table_block words table + 5) (pointer_home table one)
      (subst (IsHome (table_owner words other)) (sym same) (pointer_home other two)) in
      (omega (arith, slots_same), refl)
  pointers_agree table zero other (suc before) one two second le le' same =
      absurd (table_or_extension table other before (table_block words table + 5) (pointer_home table one) one
      (in_published other before (table_block words table + 5) two second (omega (arith, le')) (omega (arith, same)) (omega (arith, same))))
  pointers_agree table (suc extension) other zero one two second le le' same =
      absurd (table_or_extension other table extension (table_block words other + 5) (pointer_home other two) two
      (in_published table extension (table_block words other + 5) one second (omega (arith, le)) (omega (arith, same)) (omega (arith, same))))
  pointers_agree table (suc extension) other (suc before) one two second le le' same =
      let w = extension_of words (table_block words table) extension in
      let places = one_home (extension_owner words (table_block words table) extension) (extension_owner words (table_block words other) before) w
      (extension_home table extension w (in_published table extension w one second (omega (arith, le)) (omega arith) (omega arith)))
      (extension_home other before w (in_published other before w two second (omega (arith, le')) (omega (arith, same)) (omega (arith, same)))) in
      let rest = pointers_agree table extension other before one two second (omega (arith, le)) (omega (arith, le')) places in
      (rest.0, ap suc rest.1)

  -- two extensions share no word
  pub one_extension_home : (table extension other before w : ℕ) → IsInExtension table extension w → IsInExtension other before w → (table ≡ other) × (extension ≡ before)
  one_extension_home table extension other before w one two =
      pointers_agree table extension other before one.published two.published one.second one.owned two.owned
      (one_home (extension_owner words (table_block words table) extension) (extension_owner words (table_block words other) before) w (extension_home table extension w one) (extension_home other before w two))

  -- a word has one place in one part
  pub at_once : (table part offset other other_part other_offset w : ℕ) → IsAt table part offset w → IsAt other other_part other_offset w → (table ≡ other) × (part ≡ other_part) × (offset ≡ other_offset)
  at_once table part offset other other_part other_offset w one two = found (part_of table part offset w one) (part_of other other_part other_offset w two)
    where
      found : IsPartIn table part → IsPartIn other other_part → (table ≡ other) × (part ≡ other_part) × (offset ≡ other_offset)
      found (in_block few at) (in_block few' at') =
          let places = one_home (table_owner words table) (table_owner words other) w (part_home table part offset w one (in_block few at)) (part_home other other_part other_offset w two (in_block few' at')) in
          let same : table ≡ other = omega (arith, places) in
          let block = ap (table_block words) same in
          let a = one.at in let b = two.at in let c = one.few in let d = two.few in
          (same, omega (arith, block, a, b, c, d, at, at'), omega (arith, block, a, b, c, d, at, at'))
      found (in_block few at) (in_extension extension second lt is at') =
          let home = part_home table part offset w one (in_block few at) in
          let b = two.at in let d = two.few in
          absurd (table_or_extension table other extension w home one.published (in_published other extension w two.published second lt (omega (arith, b, at')) (omega (arith, b, d, at'))))
      found (in_extension extension second lt is at) (in_block few at') =
          let home = part_home other other_part other_offset w two (in_block few at') in
          let b = one.at in let d = one.few in
          absurd (table_or_extension other table extension w home two.published (in_published table extension w one.published second lt (omega (arith, b, at)) (omega (arith, b, d, at))))
      found (in_extension extension second lt is at) (in_extension before second' lt' is' at') =
          let a = one.at in let b = two.at in let c = one.few in let d = two.few in
          let agree = one_extension_home table extension other before w
          (in_published table extension w one.published second lt (omega (arith, a, at)) (omega (arith, a, c, at)))
          (in_published other before w two.published second' lt' (omega (arith, b, at')) (omega (arith, b, d, at'))) in
          let block = ap (table_block words) agree.0 in
          let inner = ap (inner_columns words) block in
          let extensions = agree.1 in
          let first = ap (λ (t : ℕ). extension_of words (table_block words t) extension) agree.0 in
          let places = ap (extension_of words (table_block words other)) extensions in
          (agree.0, omega (arith, inner, extensions, is, is'), omega (arith, a, b, at, at', first, places))

  -- a pointer to an extension is the word after a table's name, or stands in no part
  pub pointer_or_part : (table part offset other extension w : ℕ) → IsAt table part offset w → other < table_count words → is_first_version words ≡ false
      → extension ≤ extension_count words (table_block words other) → w ≡ extension_pointer_at words (table_block words other) extension → (part ≡ 0) × (offset ≡ 5)
  pointer_or_part table part offset other zero w one published second le at =
      let agree = at_once table part offset other 0 5 w one (record { published = published; within = omega arith; few = omega arith; at = at }) in
      (agree.1, agree.2)
  pointer_or_part table part offset other (suc before) w one published second le at = absurd (found (part_of table part offset w one))
    where
      first : IsInExtension other before w
      first = in_published other before w published second (omega (arith, le)) (omega (arith, at)) (omega (arith, at))

      found : IsPartIn table part → ⊥
      found (in_block few is) = table_or_extension table other before w (part_home table part offset w one (in_block few is)) one.published first
      found (in_extension extension later lt number is) =
          let a = one.at in let c = one.few in
          let agree = one_extension_home table extension other before w (in_published table extension w one.published later lt (omega (arith, a, is)) (omega (arith, a, c, is))) first in
          let block = ap (λ (t : ℕ). extension_of words (table_block words t) extension) agree.0 in
          let places = ap (extension_of words (table_block words other)) agree.1 in
          omega (arith, a, is, block, places, at)

  -- a word of a column
  pub column_spot : (column word w : ℕ) → (c : IsColumnOf words column) → word < 40 → w ≡ column + word → IsAt c.table (suc c.number) word w
  column_spot column word w c lt is =
      let at = c.is in let within = c.within in
      record { published = c.published; within = omega (arith, within); few = lt; at = omega (arith, at, is) }
