-- Where the words that say where structures stand are the same, and trees are the same,
-- the rules of trees, keys and texts have the same checks.
use Rattle.std.proofs.Common.{◌≡◌, ⊎_elim, ℕ, ◌+◌, ◌^◌, ◌<◌, min, Bool, true, not, ◌&&◌, ◌||◌, eqb, leb, ltb, List, [], ◌∷◌, ◌++◌, get_or, map, refl, ◌∙◌, ap, subst, arith}
use Rattle.std.specs.Prelude.{Contains}
use Rattle.std.specs.List.{flat_map}
use Rattle.std.specs.Str.{is_utf8}
use Rattle.image_layout.specs.Places.{below, is_in_segment, is_null_or_pointer_to, is_pointer, place_in}
use Rattle.image_layout.specs.Records.{code_at, dictionary_header, fingerprint_at, first_leaf_at, key_at, new_leaf_at, next_leaf_at, split_leaf_at}
use Rattle.image_layout.specs.Arrays.{capacity, place_of}
use Rattle.image_layout.specs.Tables.{all_columns, is_text}
use Rattle.image_layout.specs.Trees.{stored_leaves, leaf_list, leaf_slots, text_length, text_words, text_at, key_fingerprint, slot_fingerprint, dictionary_length, dictionary_word}
use Rattle.image_layout.specs.Owners.{dictionary_slots}
use Rattle.image_layout.specs.Checks.{Check, check, Keeps}
use Rattle.image_layout.specs.EntryRules.{is_among, arrays_rule, leaf_pointer_check, is_next, leaf_checks, is_split_leaf, tree_checks, tree_rule, is_text_pointer, text_key_checks, text_columns, text_key_rule}
use Rattle.image_layout.specs.SoundRules.{is_in_order, leaf_keys, slot_order_checks, order_checks, order_rule, fingerprint_checks, fingerprint_rule, UsedSlot, column_slots, is_code_of, code_checks, code_rule, text_checks, text_rule}
use Rattle.image_layout.proofs.Members.{Contains-below, Contains-cons, Contains-filter, Contains-flat_map, Contains-here, Contains-there, Contains-map, Contains-nil}
use Rattle.std.proofs.lemmas.List.Elements.{Contains-append_cases}
use Rattle.shown_state.specs.Reads.{SamePrints, SameTree}
use Rattle.opening_steps.proofs.Structure.{of_dictionary, SamePlaces}
use Rattle.shown_state.proofs.Alike.{map_alike, map_below, flat_map_alike, filter_alike}
use Rattle.shown_state.proofs.SameTreeRules.{pointer_is_same, pointer_to_same, null_or_pointer_same}
use Rattle.shown_state.proofs.SameTables.{dictionary_is, packed_same}
use Rattle.opening_steps.proofs.Tables.{all_columns_same, text_same, capacity_same, place_same, dictionary_same}
use Rattle.shown_state.proofs.SameLeaves.{stored_listed, stored_same, list_same, slots_same, values_same, column_slots_same, IsKeyOf, IsCoded, coded, key_known}
use Rattle.shown_state.proofs.SameKeys.{SameKey, fingerprint_same, in_order_same}
use Rattle.opening_steps.proofs.Keys.{key_text_same, key_length_same}

-- ── trees ──

module _ (old new : List ℕ) (values : SamePlaces old new) (tree : (column : ℕ) → Contains (all_columns old) column → SameTree old new column) (trees : Keeps old tree_rule) where
  module _ (column : ℕ) (is : Contains (all_columns old) column) where
    leaf_checks_same : (reached leaves : List ℕ) → ((leaf : ℕ) → Contains leaves leaf → Contains (leaf_list old column) leaf) → leaf_checks new reached leaves ≡ leaf_checks old reached leaves
    leaf_checks_same reached [] each = refl
    leaf_checks_same reached (leaf ∷ leaves) each =
        let listed = each leaf (Contains-here leaf leaves) in
        let after = get_or old (next_leaf_at leaf) 0 in
        let bits = check leaf (ltb (get_or old leaf 0) (2 ^ 48)) in
        ap (λ (bitmap : ℕ). check leaf (ltb bitmap (2 ^ 48)) ∷ check (next_leaf_at leaf) (is_next new (leaf ∷ reached) (get_or new (next_leaf_at leaf) 0)) ∷ leaf_checks new (leaf ∷ reached) leaves)
        ((tree column is).bitmaps leaf listed)
        ∙ ap (λ (next : ℕ). bits ∷ check (next_leaf_at leaf) (is_next new (leaf ∷ reached) next) ∷ leaf_checks new (leaf ∷ reached) leaves) ((tree column is).nexts leaf listed)
        ∙ ap (λ (b : Bool). bits ∷ check (next_leaf_at leaf) ((eqb after 0) || (b && not (is_among (leaf ∷ reached) (place_in after)))) ∷ leaf_checks new (leaf ∷ reached) leaves) (pointer_to_same old new values.size 128 after)
        ∙ ap (λ (checks : List Check). bits ∷ check (next_leaf_at leaf) (is_next old (leaf ∷ reached) after) ∷ checks) (leaf_checks_same (leaf ∷ reached) leaves (λ other there. each other (Contains-there leaf other leaves there)))

    leaf_pointer_same : (at : ℕ) → get_or new at 0 ≡ get_or old at 0 → leaf_pointer_check new at ≡ leaf_pointer_check old at
    leaf_pointer_same at word = ap (λ (w : ℕ). check at (is_null_or_pointer_to new 128 w)) word ∙ ap (check at) (null_or_pointer_same old new values.size 128 (get_or old at 0))

    tree_checks_same : tree_checks new column ≡ tree_checks old column
    unfolding tree_checks
    tree_checks_same =
        let says : Check → Check → Check → List Check → Check → List Check = λ first split fresh leaves last. (first ∷ split ∷ fresh ∷ []) ++ leaves ++ last ∷ [] in
        let last : List ℕ → Check = λ words. check (split_leaf_at column) (is_split_leaf words column) in
        let leaves : List ℕ → List Check = λ words. leaf_checks words [] (stored_leaves words column) in
        let first = leaf_pointer_check old (first_leaf_at column) in
        let split = leaf_pointer_check old (split_leaf_at column) in
        ap (λ (c : Check). says c (leaf_pointer_check new (split_leaf_at column)) (leaf_pointer_check new (new_leaf_at column)) (leaves new) (last new))
        (leaf_pointer_same (first_leaf_at column) (tree column is).first)
        ∙ ap (λ (c : Check). says first c (leaf_pointer_check new (new_leaf_at column)) (leaves new) (last new)) (leaf_pointer_same (split_leaf_at column) (tree column is).split)
        ∙ ap (λ (c : Check). says first split c (leaves new) (last new)) (leaf_pointer_same (new_leaf_at column) (tree column is).fresh)
        ∙ ap (λ (checks : List Check). says first split (leaf_pointer_check old (new_leaf_at column)) checks (last new))
        (ap (leaf_checks new []) (stored_same old new trees column is (tree column is)) ∙ leaf_checks_same [] (stored_leaves old column) (stored_listed old column))
        ∙ ap (says first split (leaf_pointer_check old (new_leaf_at column)) (leaves old))
        (ap (λ (word : ℕ). check (split_leaf_at column) ((eqb word 0) || is_among (stored_leaves new column) (place_in word))) (tree column is).split
        ∙ ap (λ (stored : List ℕ). check (split_leaf_at column) ((eqb (get_or old (split_leaf_at column) 0) 0) || is_among stored (place_in (get_or old (split_leaf_at column) 0)))) (stored_same old new trees column is (tree column is)))

  pub tree_rule_same : tree_rule new ≡ tree_rule old
  unfolding tree_rule
  tree_rule_same = flat_map_alike (tree_checks new) (tree_checks old) (all_columns new) (all_columns old) (all_columns_same old new values) tree_checks_same

  pub text_columns_same : text_columns new ≡ text_columns old
  text_columns_same = filter_alike (is_text new) (is_text old) (all_columns new) (all_columns old) (all_columns_same old new values) (text_same old new values)

  -- ── keys ──

  module _ (arrays : Keeps old arrays_rule) (codes : Keeps old code_rule) where
    module _ (column : ℕ) (is : Contains (all_columns old) column) where
      abbrev texts : Bool
      texts = is_text old column

      known_key : (leaf slot : ℕ) → Contains (leaf_list old column) leaf → Contains (leaf_slots old leaf) slot → SameKey old new texts (get_or old (key_at leaf slot) 0)
      known_key leaf slot listed used = key_text_same old new values column is (get_or old (key_at leaf slot) 0) (key_known old codes column is leaf slot listed used)

      -- order
      slot_order_same : (before here : List ℕ) (leaf : ℕ) (slots : List ℕ) → Contains (leaf_list old column) leaf → ((slot : ℕ) → Contains slots slot → Contains (leaf_slots old leaf) slot)
          → ((key : ℕ) → Contains before key → SameKey old new texts key) → ((key : ℕ) → Contains here key → SameKey old new texts key)
          → slot_order_checks new texts before here leaf slots ≡ slot_order_checks old texts before here leaf slots
      slot_order_same before here leaf [] listed each earlier own = refl
      slot_order_same before here leaf (slot ∷ slots) listed each earlier own =
          let used = each slot (Contains-here slot slots) in
          let at = key_at leaf slot in
          let key = get_or old at 0 in
          let known = known_key leaf slot listed used in
          ap (λ (k : ℕ). check at (is_in_order new texts before here k) ∷ slot_order_checks new texts before (k ∷ here) leaf slots) ((tree column is).keys leaf slot listed used)
          ∙ ap (λ (b : Bool). check at b ∷ slot_order_checks new texts before (key ∷ here) leaf slots) (in_order_same old new texts before here key earlier own known)
          ∙ ap (λ (checks : List Check). check at (is_in_order old texts before here key) ∷ checks)
          (slot_order_same before (key ∷ here) leaf slots listed (λ s there. each s (Contains-there slot s slots there)) earlier
          (λ k there. ⊎_elim (λ (e : key ≡ k). subst (SameKey old new texts) e known) (own k) (Contains-cons key k here there)))

      leaf_keys_same : (leaf : ℕ) → Contains (leaf_list old column) leaf → leaf_keys new leaf ≡ leaf_keys old leaf
      leaf_keys_same leaf listed = map_alike (λ slot. get_or new (key_at leaf slot) 0) (λ slot. get_or old (key_at leaf slot) 0) (leaf_slots new leaf) (leaf_slots old leaf) (slots_same old new trees column is (tree column is) leaf listed)
          (λ slot used. (tree column is).keys leaf slot listed used)

      order_checks_same : (before leaves : List ℕ) → ((leaf : ℕ) → Contains leaves leaf → Contains (leaf_list old column) leaf) → ((key : ℕ) → Contains before key → SameKey old new texts key)
          → order_checks new texts before leaves ≡ order_checks old texts before leaves
      order_checks_same before [] each earlier = refl
      order_checks_same before (leaf ∷ leaves) each earlier =
          let listed = each leaf (Contains-here leaf leaves) in
          let slots = leaf_slots old leaf in
          ap (λ (s : List ℕ). slot_order_checks new texts before [] leaf s ++ order_checks new texts (before ++ leaf_keys new leaf) leaves) (slots_same old new trees column is (tree column is) leaf listed)
          ∙ ap (λ (checks : List Check). checks ++ order_checks new texts (before ++ leaf_keys new leaf) leaves)
          (slot_order_same before [] leaf slots listed (λ slot used. used) earlier (λ key none. absurd (Contains-nil key none)))
          ∙ ap (λ (keys : List ℕ). slot_order_checks old texts before [] leaf slots ++ order_checks new texts (before ++ keys) leaves) (leaf_keys_same leaf listed)
          ∙ ap (λ (checks : List Check). slot_order_checks old texts before [] leaf slots ++ checks)
          (order_checks_same (before ++ leaf_keys old leaf) leaves (λ other there. each other (Contains-there leaf other leaves there))
          (λ key among. ⊎_elim (earlier key)
          (λ own.
          let (slot, used, here) = Contains-map (λ s. get_or old (key_at leaf s) 0) slots key own in
          subst (SameKey old new texts) here (known_key leaf slot listed used))
          (Contains-append_cases before (leaf_keys old leaf) key among)))

      -- fingerprints
      fingerprint_checks_same : SamePrints old new → (leaf : ℕ) → Contains (leaf_list old column) leaf → fingerprint_checks new texts leaf ≡ fingerprint_checks old texts leaf
      unfolding fingerprint_checks
      fingerprint_checks_same prints leaf listed =
          let made : List ℕ → ℕ → Check = λ words slot. check (fingerprint_at leaf slot) (eqb (slot_fingerprint words leaf slot) (key_fingerprint words texts (get_or words (key_at leaf slot) 0))) in
          map_alike (made new) (made old) (leaf_slots new leaf) (leaf_slots old leaf) (slots_same old new trees column is (tree column is) leaf listed)
          (λ slot used.
          let key = get_or old (key_at leaf slot) 0 in
          ap (λ (print : ℕ). check (fingerprint_at leaf slot) (eqb print (key_fingerprint new texts (get_or new (key_at leaf slot) 0))))
          (packed_same old new (leaf + 2) slot (prints column leaf slot is listed used))
          ∙ ap (λ (k : ℕ). check (fingerprint_at leaf slot) (eqb (slot_fingerprint old leaf slot) (key_fingerprint new texts k))) ((tree column is).keys leaf slot listed used)
          ∙ ap (λ (print : ℕ). check (fingerprint_at leaf slot) (eqb (slot_fingerprint old leaf slot) print)) (fingerprint_same old new texts key (known_key leaf slot listed used)))

      -- codes
      code_checks_same : (before : List ℕ) (slots : List UsedSlot) → ((slot : UsedSlot) → Contains slots slot → IsCoded old column slot × (get_or new slot.key 0 ≡ get_or old slot.key 0) × (get_or new slot.code 0 ≡ get_or old slot.code 0))
          → code_checks new column before slots ≡ code_checks old column before slots
      code_checks_same before [] each = refl
      code_checks_same before (slot ∷ slots) each =
          let (known, key_is, code_is) = each slot (Contains-here slot slots) in
          let key = get_or old slot.key 0 in
          let code = get_or old slot.code 0 in
          let header = dictionary_header column in
          ap (λ (k : ℕ). check slot.code (is_code_of new column k (get_or new slot.code 0) && not (is_among before (get_or new slot.code 0))) ∷ code_checks new column (get_or new slot.code 0 ∷ before) slots) key_is
          ∙ ap (λ (c : ℕ). check slot.code (is_code_of new column key c && not (is_among before c)) ∷ code_checks new column (c ∷ before) slots) code_is
          ∙ ap (λ (n : ℕ). check slot.code ((ltb code n && ltb code (capacity new header) && eqb (dictionary_word new column code) key) && not (is_among before code)) ∷ code_checks new column (code ∷ before) slots) (values_same old new trees column is (tree column is))
          ∙ ap (λ (n : ℕ). check slot.code ((ltb code (dictionary_length old column) && ltb code n && eqb (dictionary_word new column code) key) && not (is_among before code)) ∷ code_checks new column (code ∷ before) slots)
          (capacity_same old new values header (dictionary_is old column is))
          ∙ ap (λ (w : ℕ). check slot.code ((ltb code (dictionary_length old column) && ltb code (capacity old header) && eqb w key) && not (is_among before code)) ∷ code_checks new column (code ∷ before) slots) (dictionary_same old new values arrays column code is known.known known.published)
          ∙ ap (λ (checks : List Check). check slot.code (is_code_of old column key code && not (is_among before code)) ∷ checks) (code_checks_same (code ∷ before) slots (λ other there. each other (Contains-there slot other slots there)))

      coded_slot : (slot : UsedSlot) → Contains (column_slots old column) slot → IsCoded old column slot × (get_or new slot.key 0 ≡ get_or old slot.key 0) × (get_or new slot.code 0 ≡ get_or old slot.code 0)
      unfolding column_slots
      coded_slot slot among =
          let made : ℕ → ℕ → UsedSlot = λ leaf s. record { key = key_at leaf s; code = code_at leaf s } in
          let (leaf, listed, there) = Contains-flat_map (λ l. map (made l) (leaf_slots old l)) (leaf_list old column) slot among in
          let (s, used, here) = Contains-map (made leaf) (leaf_slots old leaf) slot there in (
            coded old codes column is slot among,
            subst (λ (u : UsedSlot). get_or new u.key 0 ≡ get_or old u.key 0) here ((tree column is).keys leaf s listed used),
            subst (λ (u : UsedSlot). get_or new u.code 0 ≡ get_or old u.code 0) here ((tree column is).codes leaf s listed used),
          )

      -- slots of the dictionary
      pub dictionary_slots_same : dictionary_slots new column ≡ dictionary_slots old column
      dictionary_slots_same =
          let header = dictionary_header column in
          let headed = dictionary_is old column is in
          map_below (place_of new header) (place_of old header) (min (dictionary_length new column) (capacity new header)) (min (dictionary_length old column) (capacity old header))
          (ap (λ (n : ℕ). min n (capacity new header)) (values_same old new trees column is (tree column is)) ∙ ap (min (dictionary_length old column)) (capacity_same old new values header headed))
          (λ code lt. place_same old new values arrays header code headed (omega (arith, lt)))

      pub slot_known : (at : ℕ) → Contains (dictionary_slots old column) at → (get_or new at 0 ≡ get_or old at 0) × IsKeyOf old column (get_or old at 0)
      slot_known at among =
          let header = dictionary_header column in
          let count = min (dictionary_length old column) (capacity old header) in
          let (code, counted, here) = Contains-map (place_of old header) (below count) at among in
          let lt = Contains-below count code counted in
          let known : code < dictionary_length old column = omega (arith, lt) in
          let published : code < capacity old header = omega (arith, lt) in (
            subst (λ (a : ℕ). get_or new a 0 ≡ get_or old a 0) here (values.each (place_of old header code) (of_dictionary column code is known published refl)),
            record { code = code; known = known; published = published; is = ap (λ (a : ℕ). get_or old a 0) here },
          )

      text_checks_same : texts ≡ true → text_checks new column ≡ text_checks old column
      unfolding text_checks
      text_checks_same text = map_alike (λ at. check (place_in (get_or new at 0)) (is_utf8 (text_at new (place_in (get_or new at 0))))) (λ at. check (place_in (get_or old at 0)) (is_utf8 (text_at old (place_in (get_or old at 0)))))
          (dictionary_slots new column) (dictionary_slots old column) dictionary_slots_same
          (λ at among.
          let (word, known) = slot_known at among in
          ap (λ (w : ℕ). check (place_in w) (is_utf8 (text_at new (place_in w)))) word
          ∙ ap (λ (bytes : List ℕ). check (place_in (get_or old at 0)) (is_utf8 bytes)) (key_text_same old new values column is (get_or old at 0) known text))

      text_keys_same : texts ≡ true → (leaf : ℕ) → Contains (leaf_list old column) leaf → text_key_checks new leaf ≡ text_key_checks old leaf
      unfolding text_key_checks
      text_keys_same text leaf listed =
          let made : List ℕ → ℕ → Check = λ words slot. check (key_at leaf slot) (is_text_pointer words (get_or words (key_at leaf slot) 0)) in
          map_alike (made new) (made old) (leaf_slots new leaf) (leaf_slots old leaf) (slots_same old new trees column is (tree column is) leaf listed)
          (λ slot used.
          let key = get_or old (key_at leaf slot) 0 in
          let place = place_in key in
          ap (λ (k : ℕ). check (key_at leaf slot) (is_text_pointer new k)) ((tree column is).keys leaf slot listed used)
          ∙ ap (λ (n : ℕ). check (key_at leaf slot) (is_pointer new key && leb n 2000 && is_in_segment place (text_words n)))
          (key_length_same old new values column is key (key_known old codes column is leaf slot listed used) text)
          ∙ ap (λ (b : Bool). check (key_at leaf slot) (b && leb (text_length old place) 2000 && is_in_segment place (text_words (text_length old place)))) (pointer_is_same old new values.size key))

    pub order_rule_same : order_rule new ≡ order_rule old
    unfolding order_rule
    order_rule_same = flat_map_alike (λ column. order_checks new (is_text new column) [] (leaf_list new column)) (λ column. order_checks old (is_text old column) [] (leaf_list old column))
        (all_columns new) (all_columns old) (all_columns_same old new values)
        (λ column is.
        ap (λ (b : Bool). order_checks new b [] (leaf_list new column)) (text_same old new values column is)
        ∙ ap (order_checks new (is_text old column) []) (list_same old new trees column is (tree column is))
        ∙ order_checks_same column is [] (leaf_list old column) (λ leaf listed. listed) (λ key none. absurd (Contains-nil key none)))

    pub fingerprint_rule_same : SamePrints old new → fingerprint_rule new ≡ fingerprint_rule old
    unfolding fingerprint_rule
    fingerprint_rule_same prints = flat_map_alike (λ column. flat_map (fingerprint_checks new (is_text new column)) (leaf_list new column)) (λ column. flat_map (fingerprint_checks old (is_text old column)) (leaf_list old column))
        (all_columns new) (all_columns old) (all_columns_same old new values)
        (λ column is.
        ap (λ (b : Bool). flat_map (fingerprint_checks new b) (leaf_list new column)) (text_same old new values column is)
        ∙ flat_map_alike (fingerprint_checks new (is_text old column)) (fingerprint_checks old (is_text old column)) (leaf_list new column) (leaf_list old column) (list_same old new trees column is (tree column is)) (fingerprint_checks_same column is prints))

    pub code_rule_same : code_rule new ≡ code_rule old
    unfolding code_rule
    code_rule_same = flat_map_alike (λ column. code_checks new column [] (column_slots new column)) (λ column. code_checks old column [] (column_slots old column))
        (all_columns new) (all_columns old) (all_columns_same old new values)
        (λ column is. ap (code_checks new column []) (column_slots_same old new trees column is (tree column is)) ∙ code_checks_same column is [] (column_slots old column) (coded_slot column is))

    pub text_rule_same : text_rule new ≡ text_rule old
    unfolding text_rule
    text_rule_same = flat_map_alike (text_checks new) (text_checks old) (text_columns new) (text_columns old) text_columns_same
        (λ column is. let (among, text) = Contains-filter (is_text old) (all_columns old) column is in text_checks_same column among text)

    pub text_key_rule_same : text_key_rule new ≡ text_key_rule old
    unfolding text_key_rule
    text_key_rule_same = flat_map_alike (λ column. flat_map (text_key_checks new) (leaf_list new column)) (λ column. flat_map (text_key_checks old) (leaf_list old column)) (text_columns new) (text_columns old) text_columns_same
        (λ column is.
        let (among, text) = Contains-filter (is_text old) (all_columns old) column is in
        flat_map_alike (text_key_checks new) (text_key_checks old) (leaf_list new column) (leaf_list old column) (list_same old new trees column among (tree column among)) (text_keys_same column among text))
