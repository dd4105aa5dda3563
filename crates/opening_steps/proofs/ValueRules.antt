-- Where the words that say where structures stand are the same, rules that read no others
-- have the same checks.
use Rattle.std.proofs.Common.{◌≡◌, ⊎_elim, ℕ, ◌+◌, ◌-◌, ◌/◌, ◌<◌, min, Bool, true, not, ◌&&◌, ◌||◌, cond, eqb, leb, ltb, List, [], ◌∷◌, ◌++◌, get_or, map, refl, sym, ◌∙◌, ap, subst, arith}
use Rattle.std.specs.Prelude.{All, Contains}
use Rattle.std.specs.List.{flat_map, list_any}
use Rattle.std.proofs.lemmas.Bool.{and_left, and_right, cases_Bool, cond_both, eq-eqb, ltb-true, or_right}
use Rattle.std.proofs.lemmas.List.Elements.{All-cons, All-contains, All-nil, Contains-append_cases, Contains-append_left, Contains-append_right}
use Rattle.image_layout.specs.Fixed.{magic_at, table_count_at, version_at}
use Rattle.image_layout.specs.Fresh.{magic_number}
use Rattle.image_layout.specs.Places.{below, packed_byte}
use Rattle.image_layout.specs.Records.{column_name_at, created_header, ended_header, kind_at, since_at, table_name_at}
use Rattle.image_layout.specs.Arrays.{capacity}
use Rattle.image_layout.specs.Tables.{table_count, table_block, table_blocks, columns_of, all_columns, column_count, column_record, inner_columns, is_first_version, since_of}
use Rattle.image_layout.specs.Objects.{entry_kind, entry_table, entry_row}
use Rattle.image_layout.specs.Checks.{Check, check, Keeps}
use Rattle.image_layout.specs.EntryRules.{magic_rule, version_rule, table_count_rule, is_letter, is_name_byte, is_padded_name_byte, name_checks, kind_check, since_checks, column_name_checks, name_rule, stamped_capacity, is_entry, entry_checks}
use Rattle.image_layout.specs.SoundRules.{same_name, name_place_checks, table_name_checks, distinct_name_rule}
use Rattle.image_layout.proofs.Faults.{Holds}
use Rattle.image_layout.proofs.Members.{Contains-below, Contains-cons, Contains-flat_map, Contains-here, Contains-there, Contains-map, Contains-nil, below-Contains, flat_map-Contains, map-Contains}
use Rattle.image_layout.proofs.OwnersApart.{all_from}
use Rattle.image_layout.proofs.TableParts.{column_among as record_among}
use Rattle.shown_state.specs.Fits.{BeginFirst}
use Rattle.opening_steps.proofs.Structure.{of_head, SamePlaces}
use Rattle.shown_state.proofs.Alike.{all_members, any_members, map_below}
use Rattle.shown_state.proofs.SameTables.{created_is, ended_is, table_of_block}
use Rattle.shown_state.proofs.SameValueRules.{SameName, name_byte, column_among}
use Rattle.opening_steps.proofs.Versions.{VersionGoesOn, first_is, raised, same_version, version_is}
use Rattle.opening_steps.proofs.Tables.{count_same, block_same, blocks_same, table_word, block_columns, column_count_same, column_word, inner_same, kind_same, record_same, since_same, capacity_same}

-- what is asked of a byte, by the first one, itself and the one before it
abbrev says : ℕ → ℕ → ℕ → ℕ → Bool
says byte first here before = cond (eqb byte 0) (is_letter first) ((eqb here 0) || (is_name_byte here && not (eqb before 0)))

name_checks_same : (old new : List ℕ) (place : ℕ) → SameName old new place → name_checks new place ≡ name_checks old place
unfolding name_checks
name_checks_same old new place name = map_below (λ byte. check (place + byte / 8) (is_padded_name_byte new place byte)) (λ byte. check (place + byte / 8) (is_padded_name_byte old place byte)) 24 24 refl
    (λ byte lt. ap (check (place + byte / 8)) (padded byte lt))
  where
    padded : (byte : ℕ) → byte < 24 → is_padded_name_byte new place byte ≡ is_padded_name_byte old place byte
    padded byte lt =
        ap (λ (first : ℕ). says byte first (packed_byte new place byte) (packed_byte new place (byte - 1))) (name_byte old new place 0 name (omega arith))
        ∙ ap (λ (here : ℕ). says byte (packed_byte old place 0) here (packed_byte new place (byte - 1))) (name_byte old new place byte name lt)
        ∙ ap (says byte (packed_byte old place 0) (packed_byte old place byte)) (name_byte old new place (byte - 1) name (omega (arith, lt)))

same_name_same : (old new : List ℕ) (name other : ℕ) → SameName old new name → SameName old new other → same_name new name other ≡ same_name old name other
same_name_same old new name other one two =
    all_members (λ word. eqb (get_or new (name + word) 0) (get_or new (other + word) 0)) (λ word. eqb (get_or old (name + word) 0) (get_or old (other + word) 0)) (below 3)
    (λ word is.
    let lt = Contains-below 3 word is in
    ap (λ (w : ℕ). eqb w (get_or new (other + word) 0)) (one.each word lt) ∙ ap (eqb (get_or old (name + word) 0)) (two.each word lt))

name_places_same : (old new before names : List ℕ) → ((name : ℕ) → Contains before name → SameName old new name) → ((name : ℕ) → Contains names name → SameName old new name)
    → name_place_checks new before names ≡ name_place_checks old before names
name_places_same old new before [] earlier each = refl
name_places_same old new before (name ∷ names) earlier each =
    let here = each name (Contains-here name names) in
    ap (λ (b : Bool). check name (not b) ∷ name_place_checks new (name ∷ before) names) (any_members (same_name new name) (same_name old name) before (λ other is. same_name_same old new name other here (earlier other is)))
    ∙ ap (λ (rest : List Check). check name (not (list_any (same_name old name) before)) ∷ rest)
    (name_places_same old new (name ∷ before) names
    (λ other is. ⊎_elim (λ (e : name ≡ other). subst (SameName old new) e here) (earlier other) (Contains-cons name other before is))
    (λ other is. each other (Contains-there name other names is)))

module _ (old new : List ℕ) (same : SamePlaces old new) where
  pub magic_same : magic_rule new ≡ magic_rule old
  magic_same = ap (λ (w : ℕ). check magic_at (eqb w magic_number) ∷ []) (same.each magic_at (of_head (omega arith) (omega arith) (λ e. omega (arith, e)) (λ e. omega (arith, e))))

  pub version_kept : VersionGoesOn old new → Keeps old version_rule → Keeps new version_rule
  version_kept (same_version version) keeps =
      record { checks = subst (All Holds) (sym (ap (λ (w : ℕ). check version_at ((eqb w 1) || (eqb w 2)) ∷ []) version)) keeps.checks }
  version_kept (raised one two) keeps = record {
    checks = All-cons Holds (check version_at (eqb (get_or new version_at 0) 1 || eqb (get_or new version_at 0) 2)) []
        (or_right (eqb (get_or new version_at 0) 1) (eqb (get_or new version_at 0) 2) (eq-eqb (get_or new version_at 0) 2 two)) (All-nil Holds);
  }

  pub table_count_same : table_count_rule new ≡ table_count_rule old
  table_count_same = ap (λ (w : ℕ). check table_count_at (leb w 32) ∷ []) (count_same old new same)

  -- ── names ──

  pub table_name_same : (block : ℕ) → Contains (table_blocks old) block → SameName old new (table_name_at block)
  table_name_same block is = record {
    each = λ word lt.
        let (table, published, here) = table_of_block old block is in
        subst (λ (b : ℕ). get_or new (b + 2 + word) 0 ≡ get_or old (b + 2 + word) 0) here
        (subst (λ (w : ℕ). get_or new w 0 ≡ get_or old w 0) (further (table_block old table) word) (table_word old new same table (2 + word) published (omega (arith, lt)) (λ e. omega (arith, e))));
  }
    where
      further : (b word : ℕ) → b + (2 + word) ≡ b + 2 + word
      further b word = omega arith

  pub column_name_same : (column : ℕ) → Contains (all_columns old) column → SameName old new (column_name_at column)
  column_name_same column is = record {
    each = λ word lt.
        subst (λ (w : ℕ). get_or new w 0 ≡ get_or old w 0) (further column word) (column_word old new same column (1 + word) is (omega (arith, lt)));
  }
    where
      further : (c word : ℕ) → c + (1 + word) ≡ c + 1 + word
      further c word = omega arith

  since_checks_same : is_first_version new ≡ is_first_version old → (table column : ℕ) → table < table_count old → column < column_count old (table_block old table) → Contains (all_columns old) (column_record old (table_block old table) column)
      → since_checks new (table_block old table) column ≡ since_checks old (table_block old table) column
  unfolding since_checks
  since_checks_same version table column lt within among =
      let block = table_block old table in
      let says : Bool → ℕ → ℕ → ℕ → List Check = λ first inner at word. cond (not first && ltb column inner) (check (since_at at) (eqb word 0) ∷ []) [] in
      ap (λ (first : Bool). says first (inner_columns new block) (column_record new block column) (since_of new (column_record new block column))) version
      ∙ ap (λ (inner : ℕ). says (is_first_version old) inner (column_record new block column) (since_of new (column_record new block column))) (inner_same old new same table lt)
      ∙ ap (λ (at : ℕ). says (is_first_version old) (inner_columns old block) at (since_of new at)) (record_same old new same table lt column within)
      ∙ ap (says (is_first_version old) (inner_columns old block) (column_record old block column)) (since_same old new same (column_record old block column) among)

  block_among : (table : ℕ) → table < table_count old → Contains (table_blocks old) (table_block old table)
  block_among table lt = map-Contains (table_block old) (below (table_count old)) table (below-Contains (table_count old) table lt)

  -- the checks of a column's kind and name
  abbrev shape_checks : List ℕ → ℕ → List Check
  shape_checks words column = kind_check words column ∷ name_checks words (column_name_at column)

  shape_same : (column : ℕ) → Contains (all_columns old) column → shape_checks new column ≡ shape_checks old column
  shape_same column is =
      ap (λ (kind : ℕ). check (kind_at column) ((eqb kind 1) || (eqb kind 2)) ∷ name_checks new (column_name_at column)) (kind_same old new same column is)
      ∙ ap (λ (checks : List Check). kind_check old column ∷ checks) (name_checks_same old new (column_name_at column) (column_name_same column is))

  abbrev table_checks : List ℕ → ℕ → List Check
  table_checks words block = name_checks words (table_name_at block) ++ flat_map (column_name_checks words block) (below (column_count words block))

  module _ (version : VersionGoesOn old new) (plain : BeginFirst old) (keeps : Keeps old name_rule) where
    module _ (table : ℕ) (lt : table < table_count old) where
      abbrev block : ℕ
      block = table_block old table

      was_kept : (c : Check) → Contains (table_checks old block) c → Holds c
      unfolding name_rule
      was_kept c is = All-contains Holds (name_rule old) c keeps.checks (flat_map-Contains (table_checks old) (table_blocks old) block c (block_among table lt) is)

      column_kept : (column : ℕ) → column < column_count old block → (c : Check) → Contains (column_name_checks old block column) c → Holds c
      column_kept column within c is =
          was_kept c (Contains-append_right (name_checks old (table_name_at block)) (flat_map (column_name_checks old block) (below (column_count old block))) c
          (flat_map-Contains (column_name_checks old block) (below (column_count old block)) column c (below-Contains (column_count old block) column within) is))

      module _ (column : ℕ) (within : column < column_count old block) where
        abbrev at : ℕ
        at = column_record old block column

        among : Contains (all_columns old) at
        among = column_among old block at (block_among table lt) (record_among old block column at within refl)

        -- in version 1 each column has a word for every row
        first_row : is_first_version old ≡ true → since_of new (column_record new block column) ≡ 0
        first_row first =
            let begins = plain first table lt in
            ap (since_of new) (record_same old new same table lt column within) ∙ since_same old new same at among
            ∙ All-contains (λ (k : ℕ). since_of old k ≡ 0) (columns_of old block) at begins.all_rows (record_among old block column at within refl)

        since_holds : (c : Check) → Contains (since_checks new block column) c → Holds c
        unfolding since_checks
        since_holds c is = by version
          where
            by : VersionGoesOn old new → Holds c
            by (same_version v) =
                column_kept column within c (Contains-append_right (shape_checks old at) (since_checks old block column) c
                (subst (λ (cs : List Check). Contains cs c) (since_checks_same (version_is old new v) table column lt within among) is))
            by (raised one two) = now is
              where
                now : Contains (since_checks new block column) c → Holds c
                now = cond_both (not (is_first_version new) && ltb column (inner_columns new block))
                    (check (since_at (column_record new block column)) (eqb (since_of new (column_record new block column)) 0) ∷ []) []
                    (λ (cs : List Check). Contains cs c → Holds c)
                    (λ hit here. ⊎_elim
                    (λ e. subst Holds e (eq-eqb (since_of new (column_record new block column)) 0 (first_row (first_is old one))))
                    (λ none. absurd (Contains-nil c none))
                    (Contains-cons (check (since_at (column_record new block column)) (eqb (since_of new (column_record new block column)) 0)) c [] here))
                    (λ miss none. absurd (Contains-nil c none))

        column_holds : (c : Check) → Contains (column_name_checks new block column) c → Holds c
        column_holds c is = ⊎_elim
            (λ shape. column_kept column within c (Contains-append_left (shape_checks old at) (since_checks old block column) c
            (subst (λ (cs : List Check). Contains cs c)
            (ap (shape_checks new) (record_same old new same table lt column within) ∙ shape_same at among) shape)))
            (λ since. since_holds c since)
            (Contains-append_cases (shape_checks new (column_record new block column)) (since_checks new block column) c is)

      table_holds : (c : Check) → Contains (table_checks new block) c → Holds c
      table_holds c is = ⊎_elim
          (λ name. was_kept c (Contains-append_left (name_checks old (table_name_at block)) (flat_map (column_name_checks old block) (below (column_count old block))) c
          (subst (λ (cs : List Check). Contains cs c) (name_checks_same old new (table_name_at block) (table_name_same block (block_among table lt))) name)))
          (λ columns.
          let (column, counted, here) = Contains-flat_map (column_name_checks new block) (below (column_count new block)) c columns in
          let within = Contains-below (column_count new block) column counted in
          let count = column_count_same old new same table lt in
          column_holds column (omega (arith, within, count)) c here)
          (Contains-append_cases (name_checks new (table_name_at block)) (flat_map (column_name_checks new block) (below (column_count new block))) c is)

    pub names_kept : Keeps new name_rule
    unfolding name_rule
    names_kept = record {
      checks = all_from Holds (flat_map (table_checks new) (table_blocks new)) (λ c is.
          let (block, among, here) = Contains-flat_map (table_checks new) (table_blocks new) c is in
          let (table, lt, at) = table_of_block old block (subst (λ (bs : List ℕ). Contains bs block) (blocks_same old new same) among) in
          table_holds table lt c (subst (λ (b : ℕ). Contains (table_checks new b) c) (sym at) here));
    }

  table_names_same : (before blocks : List ℕ) → ((name : ℕ) → Contains before name → SameName old new name) → ((block : ℕ) → Contains blocks block → Contains (table_blocks old) block)
      → table_name_checks new before blocks ≡ table_name_checks old before blocks
  table_names_same before [] earlier each = refl
  table_names_same before (block ∷ blocks) earlier each =
      let is = each block (Contains-here block blocks) in
      let name = table_name_at block in
      let here = table_name_same block is in
      ap (λ (b : Bool). check name (not b) ∷ name_place_checks new [] (map column_name_at (columns_of new block)) ++ table_name_checks new (name ∷ before) blocks)
      (any_members (same_name new name) (same_name old name) before (λ other among. same_name_same old new name other here (earlier other among)))
      ∙ ap (λ (columns : List ℕ). check name (not (list_any (same_name old name) before)) ∷ name_place_checks new [] (map column_name_at columns) ++ table_name_checks new (name ∷ before) blocks) (block_columns old new same block is)
      ∙ ap (λ (checks : List Check). check name (not (list_any (same_name old name) before)) ∷ checks ++ table_name_checks new (name ∷ before) blocks)
      (name_places_same old new [] (map column_name_at (columns_of old block)) (λ other none. absurd (Contains-nil other none))
      (λ other of.
      let (column, among, at) = Contains-map column_name_at (columns_of old block) other of in
      subst (SameName old new) at (column_name_same column (column_among old block column is among))))
      ∙ ap (λ (checks : List Check). check name (not (list_any (same_name old name) before)) ∷ name_place_checks old [] (map column_name_at (columns_of old block)) ++ checks)
      (table_names_same (name ∷ before) blocks
      (λ other among. ⊎_elim (λ (e : name ≡ other). subst (SameName old new) e here) (earlier other) (Contains-cons name other before among))
      (λ other among. each other (Contains-there block other blocks among)))

  pub distinct_names_same : distinct_name_rule new ≡ distinct_name_rule old
  unfolding distinct_name_rule
  distinct_names_same = ap (table_name_checks new []) (blocks_same old new same) ∙ table_names_same [] (table_blocks old) (λ other none. absurd (Contains-nil other none)) (λ block is. is)

  -- ── entries ──

  stamped_same : (table : ℕ) → table < table_count old → stamped_capacity new (table_block new table) ≡ stamped_capacity old (table_block old table)
  stamped_same table lt =
      let block = table_block old table in
      ap (stamped_capacity new) (block_same old new same table lt)
      ∙ ap (λ (n : ℕ). min n (capacity new (ended_header block))) (capacity_same old new same (created_header block) (created_is old table lt))
      ∙ ap (min (capacity old (created_header block))) (capacity_same old new same (ended_header block) (ended_is old table lt))

  pub entry_same : (word : ℕ) → is_entry new word ≡ is_entry old word
  entry_same word =
      let kinds = (eqb (entry_kind word) 1) || (eqb (entry_kind word) 2) in
      let table = entry_table word in
      ap (λ (count : ℕ). kinds && ltb table count && ltb (entry_row word) (stamped_capacity new (table_block new table))) (count_same old new same)
      ∙ ⊎_elim
      (λ hit. ap (λ (n : ℕ). kinds && ltb table (table_count old) && ltb (entry_row word) n) (stamped_same table (ltb-true table (table_count old) hit)))
      (λ miss. let none = and_right kinds (ltb table (table_count old)) miss in
      and_left (kinds && ltb table (table_count old)) (ltb (entry_row word) (stamped_capacity new (table_block new table))) none
      ∙ sym (and_left (kinds && ltb table (table_count old)) (ltb (entry_row word) (stamped_capacity old (table_block old table))) none))
      (cases_Bool (ltb table (table_count old)))

  pub entry_checks_same : (before : ℕ) (places : List ℕ) → ((at : ℕ) → Contains places at → get_or new at 0 ≡ get_or old at 0) → entry_checks new before places ≡ entry_checks old before places
  entry_checks_same before [] each = refl
  entry_checks_same before (at ∷ places) each =
      let word = get_or old at 0 in
      ap (λ (w : ℕ). check at ((eqb w 0) || (not (eqb before 0) && is_entry new w)) ∷ entry_checks new w places) (each at (Contains-here at places))
      ∙ ap (λ (b : Bool). check at ((eqb word 0) || (not (eqb before 0) && b)) ∷ entry_checks new word places) (entry_same word)
      ∙ ap (λ (checks : List Check). check at ((eqb word 0) || (not (eqb before 0) && is_entry old word)) ∷ checks) (entry_checks_same word places (λ other is. each other (Contains-there at other places is)))
