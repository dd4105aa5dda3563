-- The owner words so far, as a walk goes on.
use Rattle.std.proofs.Common.{◌≡◌, ℕ, ◌+◌, true, false, eqb, not, List, [], ◌∷◌, ◌++◌, map, get_or, sym, ◌∙◌, ap, append_assoc, arith}
use Rattle.std.specs.Prelude.{filter}
use Rattle.std.specs.List.{flat_map}
use Rattle.std.proofs.lemmas.Bool.{eq-eqb, ne_eqb, cond-true, cond-false}
use Rattle.std.proofs.lemmas.List.{append-nil, map-append}
use Rattle.std.proofs.lemmas.List.Elements.{filter-append}
use Rattle.std.proofs.lemmas.List.Concat.{flat_map-append}
use Rattle.std.proofs.lemmas.List.Folds.{flat_map-map}
use Rattle.std.proofs.lemmas.List.FromFn.{map-range_with_len_more}
use Rattle.image_layout.specs.Fixed.{table_slot_at}
use Rattle.image_layout.specs.Places.{below}
use Rattle.image_layout.specs.Records.{table_words, codes_header, created_header, dictionary_header, ended_header}
use Rattle.image_layout.specs.Tables.{column_count, column_record, extension_count, inner_columns, is_first_version, table_block, table_count}
use Rattle.image_layout.specs.Owners.{Owner, owner_of, names_one, array_owners, extension_owner, extension_owners, leaf_owner, object_owners}
use Rattle.image_layout.proofs.Ranges.{below_more}
use Rattle.image_rules.specs.declared.owner_words.OwnerWord.{OwnerWord}
use Rattle.image_rules.specs.BuiltOwners.{as_read, leaf_links, built_column_owners, built_block_owners, built_table_owners, built_owner_words}

module _ (words : List ℕ) where
  abbrev pub read : List Owner → List OwnerWord
  read owners = map (as_read words) owners

  pub read-append : (base found more : List OwnerWord) (xs ys : List Owner) → found ≡ base ++ read xs → more ≡ found ++ read ys → more ≡ base ++ read (xs ++ ys)
  read-append base found more xs ys so_far then =
      then ∙ ap (λ (os : List OwnerWord). os ++ read ys) so_far ∙ append_assoc base (read xs) (read ys) ∙ ap (λ (os : List OwnerWord). base ++ os) (sym (map-append (as_read words) xs ys))

  pub read-none : (base found : List OwnerWord) → found ≡ base → found ≡ base ++ []
  read-none base found is = is ∙ sym (append-nil base)

  -- those that name a block, of the first so many
  abbrev pub named : (ℕ → Owner) → ℕ → List Owner
  named f k = filter (names_one words) (map f (below k))

  named-more : (f : ℕ → Owner) (k : ℕ) → named f (k + 1) ≡ named f k ++ filter (names_one words) (f k ∷ [])
  named-more f k = ap (filter (names_one words)) (map-range_with_len_more f 0 k k (omega arith)) ∙ filter-append (names_one words) (map f (below k)) (f k ∷ [])

  pub named_next : (f : ℕ → Owner) (k place count : ℕ) (base found more : List OwnerWord) → owner_of place count ≡ f k → found ≡ base ++ read (named f k)
      → more ≡ found ++ read (filter (names_one words) (owner_of place count ∷ [])) → more ≡ base ++ read (named f (k + 1))
  named_next f k place count base found more is so_far then =
      read-append base found more (named f k) (filter (names_one words) (f k ∷ [])) so_far (then ∙ ap (λ (o : Owner). found ++ read (filter (names_one words) (o ∷ []))) is)
      ∙ ap (λ (os : List Owner). base ++ read os) (sym (named-more f k))

  -- one owner word, where it names a block
  pub none_named : (place count : ℕ) (found : List OwnerWord) → get_or words place 0 ≡ 0 → found ≡ found ++ read (filter (names_one words) (owner_of place count ∷ []))
  none_named place count found none =
      sym (append-nil found)
      ∙ ap (λ (os : List Owner). found ++ read os) (sym (cond-false (not (eqb (get_or words place 0) 0)) (owner_of place count ∷ []) [] (ap not (eq-eqb (get_or words place 0) 0 none))))

  pub one_named : (place count : ℕ) (found more : List OwnerWord) → (get_or words place 0 ≡ 0 → ⊥) → more ≡ found ++ as_read words (owner_of place count) ∷ []
      → more ≡ found ++ read (filter (names_one words) (owner_of place count ∷ []))
  one_named place count found more some then =
      then ∙ ap (λ (os : List Owner). found ++ read os) (sym (cond-true (not (eqb (get_or words place 0) 0)) (owner_of place count ∷ []) [] (ap not (ne_eqb (get_or words place 0) 0 some))))

  -- the owner words of the first so many parts
  abbrev pub parts : (ℕ → List Owner) → ℕ → List Owner
  parts g k = flat_map g (below k)

  parts-more : (g : ℕ → List Owner) (k : ℕ) → parts g (k + 1) ≡ parts g k ++ g k
  parts-more g k = ap (flat_map g) (below_more k) ∙ flat_map-append g (below k) (k ∷ []) ∙ ap (λ (os : List Owner). parts g k ++ os) (append-nil (g k))

  pub parts_next : (g : ℕ → List Owner) (k : ℕ) (base found more : List OwnerWord) → found ≡ base ++ read (parts g k) → more ≡ found ++ read (g k) → more ≡ base ++ read (parts g (k + 1))
  parts_next g k base found more so_far then = read-append base found more (parts g k) (g k) so_far then ∙ ap (λ (os : List Owner). base ++ read os) (sym (parts-more g k))

  -- ── the extensions of a table ──

  abbrev pub extensions_named : ℕ → List Owner
  extensions_named block = filter (names_one words) (map (extension_owner words block) (below (extension_count words block + 1)))

  pub first_read : (block : ℕ) (found : List OwnerWord) → is_first_version words ≡ true → found ≡ found ++ read (extension_owners words block)
  unfolding extension_owners
  first_read block found first = sym (append-nil found) ∙ ap (λ (os : List Owner). found ++ read os) (sym (cond-true (is_first_version words) [] (extensions_named block) first))

  pub extensions_read : (block : ℕ) (base found : List OwnerWord) → is_first_version words ≡ false → found ≡ base ++ read (extensions_named block) → found ≡ base ++ read (extension_owners words block)
  unfolding extension_owners
  extensions_read block base found second here = here ∙ ap (λ (os : List Owner). base ++ read os) (sym (cond-false (is_first_version words) [] (extensions_named block) second))

  -- ── a column ──

  pub column_read : (column : ℕ) (base a b found : List OwnerWord) → a ≡ base ++ read (array_owners words (codes_header column)) → b ≡ a ++ read (array_owners words (dictionary_header column))
      → found ≡ b ++ read (map leaf_owner (leaf_links words column)) → found ≡ base ++ read (built_column_owners words column)
  column_read column base a b found codes dictionary leaves =
      let arrays : List Owner = array_owners words (codes_header column) ++ array_owners words (dictionary_header column) in
      read-append base b found arrays (map leaf_owner (leaf_links words column)) (read-append base a b (array_owners words (codes_header column)) (array_owners words (dictionary_header column)) codes dictionary) leaves

  -- ── a table ──

  abbrev pub numbered_columns : ℕ → ℕ → List Owner
  numbered_columns block number = built_column_owners words (column_record words block number)

  pub table_read : (table block slot count : ℕ) (base a e b c found : List OwnerWord) → block ≡ table_block words table → slot ≡ table_slot_at table → count ≡ table_words (inner_columns words block)
      → a ≡ base ++ as_read words (owner_of slot count) ∷ [] → e ≡ a ++ read (extension_owners words block) → b ≡ e ++ read (array_owners words (created_header block)) → c ≡ b ++ read (array_owners words (ended_header block))
      → found ≡ c ++ read (parts (numbered_columns block) (column_count words block)) → found ≡ base ++ read (built_table_owners words table)
  table_read table block slot count base a e b c found block_is slot_is count_is first extensions created ended columns =
      let k : ℕ = column_count words block in
      let one : List Owner = owner_of slot count ∷ [] in
      let beside : List Owner = one ++ extension_owners words block in
      let own : List Owner = beside ++ array_owners words (created_header block) in
      let arrays : List Owner = own ++ array_owners words (ended_header block) in
      read-append base c found arrays (parts (numbered_columns block) k) (read-append base b c own (array_owners words (ended_header block)) (read-append base e b beside (array_owners words (created_header block)) (read-append base a e one (extension_owners words block) first extensions) created) ended) columns
      ∙ ap (λ (os : List Owner). base ++ read (owner_of slot count ∷ (extension_owners words block ++ array_owners words (created_header block) ++ array_owners words (ended_header block) ++ os))) (sym (flat_map-map (built_column_owners words) (column_record words block) (below k)))
      ∙ ap (λ (o : Owner). base ++ read (o ∷ built_block_owners words block)) (ap (λ (p : ℕ). owner_of p count) slot_is ∙ ap (owner_of (table_slot_at table)) count_is)
      ∙ ap (λ (b : ℕ). base ++ read (owner_of (table_slot_at table) (table_words (inner_columns words b)) ∷ built_block_owners words b)) block_is

  -- ── all of them ──

  pub all_read : (tables found : List OwnerWord) → tables ≡ read (parts (built_table_owners words) (table_count words)) → found ≡ tables ++ read (parts (object_owners words) 16) → found ≡ read (built_owner_words words)
  unfolding built_owner_words
  all_read tables found first then = read-append [] tables found (parts (built_table_owners words) (table_count words)) (parts (object_owners words) 16) first then
