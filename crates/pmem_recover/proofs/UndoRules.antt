-- What the rules say of the entries of an open object: their tables, and the arrays with their rows' stamps.
use Rattle.std.proofs.Common.{◌≡◌, ⊎_elim, ℕ, ◌+◌, ◌*◌, ◌/◌, ◌%◌, ◌<◌, ◌≤◌, true, not, ◌&&◌, ◌||◌, min, eqb, ltb, leb, List, [], ◌∷◌, length, get_or, All, sym, ◌∙◌, ap, subst, arith}
use Rattle.std.specs.Prelude.{IsTrue, filter}
use Rattle.std.specs.List.{Contains, flat_map}
use Rattle.std.proofs.lemmas.Bool.{and_parts, or_cases, ltb-true, leb-true, both_ways}
use Rattle.std.proofs.lemmas.List.Elements.{All-contains, Contains-get_or}
use Rattle.image_layout.specs.declared.place.Place.{Place}
use Rattle.image_layout.specs.Fixed.{table_count_at, table_slot_at}
use Rattle.image_layout.specs.Records.{created_header, ended_header}
use Rattle.image_layout.specs.Places.{below, place_in, is_pointer}
use Rattle.image_layout.specs.Arrays.{array_rule, capacity}
use Rattle.image_layout.specs.Tables.{table_count, table_block, table_blocks, columns_of, column_headers, array_headers}
use Rattle.image_layout.specs.Objects.{is_open, entry_places, entry_kind, entry_table, entry_row}
use Rattle.image_layout.specs.Checks.{Check, check, Keeps}
use Rattle.image_layout.specs.EntryRules.{table_count_rule, arrays_rule, entries_rule, is_entry, entry_checks, stamped_capacity}
use Rattle.image_layout.proofs.Members.{below-Contains, map-Contains, flat_map-Contains, filter-Contains, Contains-here, Contains-there, Contains-cons, Contains-nil, Contains-filter}
use Rattle.pmem_recover.specs.Filled.{is_filled, places_of}
use Rattle.pmem_recover.specs.Undo.{KeepsUndoRules}
use Rattle.image_layout.proofs.TableSlots.{one_table}
use Rattle.shown_state.proofs.LaneMending.{pointer_parts}

module _ (words : List ℕ) (rules : KeepsUndoRules words) where
  -- ── tables ──

  pub tables-few : table_count words ≤ 32
  tables-few = leb-true (table_count words) 32 (All-contains (λ (c : Check). IsTrue c.holds) (table_count_rule words) (check table_count_at (leb (table_count words) 32)) rules.table_count.checks (Contains-here (check table_count_at (leb (table_count words) 32)) []))

  table_parts : (table : ℕ) → table < table_count words → (is_pointer words (get_or words (table_slot_at table) 0) ≡ true) × (table_block words table + 80 ≤ 32768 * (table_block words table / 32768) + 32768)
  table_parts table lt =
      let points = one_table words table rules.table_count rules.table_slots lt in
      let some = points.least in
      let inside = points.in_segment in
      (points.pointer, omega (arith, some, inside))

  pub table-pointer : (table at : ℕ) → table < table_count words → at ≡ table_slot_at table → is_pointer words (get_or words at 0) ≡ true
  table-pointer table at lt is = ap (λ (k : ℕ). is_pointer words (get_or words k 0)) is ∙ (table_parts table lt).0

  -- a table's head stands in the image
  pub table-within : (table place : ℕ) → length words % 32768 ≡ 0 → table < table_count words → place ≡ table_block words table → place + 80 ≤ length words
  table-within table place whole lt is =
      let parts = table_parts table lt in
      let inside = (pointer_parts words (get_or words (table_slot_at table) 0) parts.0).1 in
      let room = parts.1 in
      subst (λ (k : ℕ). k + 80 ≤ length words) (sym is) (omega (arith, inside, room, whole))

  -- ── arrays ──

  array_check : (table header : ℕ) → table < table_count words → Contains (array_headers words (table_block words table)) header → (c : Check) → Contains (array_rule header words) c → c.holds ≡ true
  unfolding arrays_rule
  array_check table header lt among c holds = All-contains (λ (c : Check). IsTrue c.holds) (arrays_rule words) c rules.arrays.checks
      (flat_map-Contains (λ block. flat_map (λ h. array_rule h words) (array_headers words block)) (table_blocks words) (table_block words table) c
      (map-Contains (table_block words) (below (table_count words)) table (below-Contains (table_count words) table lt))
      (flat_map-Contains (λ h. array_rule h words) (array_headers words (table_block words table)) header c among holds))

  keeps_array : (table header : ℕ) → table < table_count words → Contains (array_headers words (table_block words table)) header → Keeps words (array_rule header)
  keeps_array table header lt among = record { checks = λ k d inside. array_check table header lt among (get_or (array_rule header words) k d) (Contains-get_or (array_rule header words) k d inside) }

  pub keeps-created : (table block header : ℕ) → table < table_count words → block ≡ table_block words table → header ≡ created_header block → Keeps words (array_rule header)
  keeps-created table block header lt is header_is = subst (λ (h : ℕ). Keeps words (array_rule h)) (sym (header_is ∙ ap created_header is)) (keeps_array table (created_header (table_block words table)) lt
      (Contains-here (created_header (table_block words table)) (ended_header (table_block words table) ∷ flat_map column_headers (columns_of words (table_block words table)))))

  pub keeps-ended : (table block header : ℕ) → table < table_count words → block ≡ table_block words table → header ≡ ended_header block → Keeps words (array_rule header)
  keeps-ended table block header lt is header_is = subst (λ (h : ℕ). Keeps words (array_rule h)) (sym (header_is ∙ ap ended_header is)) (keeps_array table (ended_header (table_block words table)) lt
      (Contains-there (created_header (table_block words table)) (ended_header (table_block words table)) (ended_header (table_block words table) ∷ flat_map column_headers (columns_of words (table_block words table)))
      (Contains-here (ended_header (table_block words table)) (flat_map column_headers (columns_of words (table_block words table))))))

  -- ── entries ──

  among_entries : (before : ℕ) (places : List ℕ) (at : ℕ) → ((c : Check) → Contains (entry_checks words before places) c → c.holds ≡ true) → Contains places at → is_filled words at ≡ true → is_entry words (get_or words at 0) ≡ true
  among_entries before [] at each among filled = absurd (Contains-nil at among)
  among_entries before (place ∷ places) at each among filled = ⊎_elim
      (λ (here : place ≡ at). subst (λ (k : ℕ). is_entry words (get_or words k 0) ≡ true) here (first here))
      (λ later. among_entries (get_or words place 0) places at (λ c holds. each c (Contains-there _ c _ holds)) later filled)
      (Contains-cons place at places among)
    where
      first : place ≡ at → is_entry words (get_or words place 0) ≡ true
      first here = ⊎_elim
          (λ (none : eqb (get_or words place 0) 0 ≡ true). absurd (both_ways (is_filled words place) (ap not none) (ap (is_filled words) here ∙ filled)))
          (λ some. (and_parts (not (eqb before 0)) (is_entry words (get_or words place 0)) some).1)
          (or_cases (eqb (get_or words place 0) 0) (not (eqb before 0) && is_entry words (get_or words place 0))
          (each (check place (eqb (get_or words place 0) 0 || (not (eqb before 0) && is_entry words (get_or words place 0)))) (Contains-here _ _)))

  pub entry-each : (object : ℕ) → object < 16 → is_open words object ≡ true → (at : ℕ) → Contains (entry_places words object) at → is_filled words at ≡ true → is_entry words (get_or words at 0) ≡ true
  unfolding entries_rule
  entry-each object number opened at among filled = among_entries 1 (entry_places words object) at
      (λ c holds. All-contains (λ (c : Check). IsTrue c.holds) (entries_rule words) c rules.entries.checks
      (flat_map-Contains (λ o. entry_checks words 1 (entry_places words o)) (filter (is_open words) (below 16)) object c (filter-Contains (is_open words) (below 16) object (below-Contains 16 object number) opened) holds))
      among filled

  pub entries-each : (object : ℕ) (filled : List Place) → object < 16 → is_open words object ≡ true → places_of filled ≡ filter (is_filled words) (entry_places words object) → All (λ at. is_entry words (get_or words at.0 0) ≡ true) filled
  entries-each object filled number opened are k d lt =
      let among : Contains (places_of filled) (get_or filled k d).0 = map-Contains (λ (place : Place). place.0) filled (get_or filled k d) (Contains-get_or filled k d lt) in
      let both = Contains-filter (is_filled words) (entry_places words object) (get_or filled k d).0 (subst (λ (xs : List ℕ). Contains xs (get_or filled k d).0) are among) in
      entry-each object number opened (get_or filled k d).0 both.0 both.1

-- what an entry says
pub record EntryParts (words : List ℕ) (word : ℕ) : Type 0 where
  pub table : entry_table word < table_count words
  pub created : entry_row word < capacity words (created_header (table_block words (entry_table word)))
  pub ended : entry_row word < capacity words (ended_header (table_block words (entry_table word)))

pub entry-parts : (words : List ℕ) (word : ℕ) → is_entry words word ≡ true → EntryParts words word
entry-parts words word is =
    let block = table_block words (entry_table word) in
    let outer = and_parts ((eqb (entry_kind word) 1 || eqb (entry_kind word) 2) && ltb (entry_table word) (table_count words)) (ltb (entry_row word) (stamped_capacity words block)) is in
    let inner = and_parts (eqb (entry_kind word) 1 || eqb (entry_kind word) 2) (ltb (entry_table word) (table_count words)) outer.0 in
    let row : entry_row word < min (capacity words (created_header block)) (capacity words (ended_header block)) = ltb-true (entry_row word) (stamped_capacity words block) outer.1 in
    record { table = ltb-true (entry_table word) (table_count words) inner.1; created = omega (arith, row); ended = omega (arith, row) }

-- the block that a table's slot names
pub named-block : (words : List ℕ) (table place at : ℕ) → place ≡ place_in (get_or words at 0) → at ≡ table_slot_at table → place ≡ table_block words table
named-block words table place at is here = is ∙ ap (λ (k : ℕ). place_in (get_or words k 0)) here
