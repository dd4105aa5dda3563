-- Where the words that say where structures stand are the same, and so are table slots, the rule of table slots is kept.
use Rattle.std.proofs.Common.{◌≡◌, ⊎_elim, ℕ, suc, ◌<◌, ◌≤◌, Bool, true, false, cond, not, ◌&&◌, ◌||◌, eqb, leb, ltb, List, [], ◌∷◌, ◌++◌, get_or, map, refl, sym, ◌∙◌, ap, subst, arith}
use Rattle.std.specs.Prelude.{Contains}
use Rattle.std.specs.List.{flat_map}
use Rattle.std.proofs.lemmas.Bool.{cases_lt, cond-false, cond-true, cond_both, eq-eqb, le-ltb, lt-ltb, or_left}
use Rattle.image_layout.specs.Fixed.{table_slot_at}
use Rattle.image_layout.specs.Places.{below, is_in_segment, is_null_or_pointer_to, is_pointer, is_pointer_to, place_in}
use Rattle.image_layout.specs.Records.{extension_words, first_extension_at, table_words}
use Rattle.image_layout.specs.Blocks.{is_block_pointer}
use Rattle.image_layout.specs.Checks.{Check, check, Keeps}
use Rattle.image_layout.specs.EntryRules.{extension_checks, extension_pointer_check, is_among, is_table_pointer, is_table_slot, last_pointer_check, table_slot_checks, table_slot_rule}
use Rattle.image_layout.specs.Tables.{column_count, extension_count, extension_of, extension_pointer_at, inner_columns, is_first_version, last_extension_pointer, table_block, table_count}
use Rattle.image_layout.proofs.Faults.{Holds}
use Rattle.image_layout.proofs.Members.{below-Contains, Contains-below, Contains-cons, Contains-flat_map, Contains-here, Contains-map, Contains-nil, Contains-there, flat_map-Contains}
use Rattle.image_layout.proofs.OwnersApart.{all_from}
use Rattle.image_layout.proofs.TableParts.{first_inner}
use Rattle.shown_state.specs.Fits.{BeginFirst, BeginsFirst}
use Rattle.std.proofs.lemmas.List.Elements.{All-contains, Contains-append_cases}
use Rattle.shown_state.proofs.Alike.{map_below}
use Rattle.shown_state.proofs.SameTreeRules.{null_or_pointer_same, pointer_is_same, pointer_to_same}
use Rattle.opening_steps.proofs.Structure.{of_extension, SamePlaces}
use Rattle.opening_steps.proofs.Tables.{block_same, column_count_same, count_same, extension_count_same, extension_pointer_same, inner_same, slot_same}
use Rattle.opening_steps.proofs.Versions.{VersionGoesOn, first_is, raised, same_version, second_is, version_is}

module _ (old new : List ℕ) (same : SamePlaces old new) where
  module _ (table : ℕ) (published : table < table_count old) where
    abbrev block : ℕ
    block = table_block old table

    slot_pointer_same : is_table_pointer new (get_or new (table_slot_at table) 0) ≡ is_table_pointer old (get_or old (table_slot_at table) 0)
    slot_pointer_same =
        let says : Bool → ℕ → ℕ → Bool = λ pointer columns inner. pointer && leb 1 inner && leb inner columns && leb columns 16 && is_in_segment block (table_words inner) in
        let word = get_or old (table_slot_at table) 0 in
        ap (is_table_pointer new) (slot_same old new same table published)
        ∙ ap (λ (b : Bool). says b (column_count new block) (inner_columns new block)) (pointer_is_same old new same.size word)
        ∙ ap (λ (n : ℕ). says (is_pointer old word) n (inner_columns new block)) (column_count_same old new same table published)
        ∙ ap (says (is_pointer old word) (column_count old block)) (inner_same old new same table published)

    -- the word at a pointer to an extension, also at the one after them
    word_same : (extension : ℕ) → extension ≤ extension_count old block → get_or new (extension_pointer_at new block extension) 0 ≡ get_or old (extension_pointer_at old block extension) 0
    word_same extension le =
        ap (λ (at : ℕ). get_or new at 0) (extension_pointer_same old new same table extension published le)
        ∙ same.each (extension_pointer_at old block extension) (of_extension table extension published le refl)

    extension_check_same : (extension : ℕ) → extension < extension_count old block → extension_pointer_check new block extension ≡ extension_pointer_check old block extension
    extension_check_same extension lt =
        let reached : List ℕ → List ℕ = λ words. map (extension_of words block) (below extension) in
        let at = extension_pointer_at old block extension in
        let word = get_or old at 0 in
        let says : ℕ → ℕ → List ℕ → Check = λ place w places. check place (is_pointer_to new extension_words w && not (is_among places (place_in w))) in
        ap (λ (w : ℕ). says (extension_pointer_at new block extension) w (reached new)) (word_same extension (omega (arith, lt)))
        ∙ ap (λ (place : ℕ). says place word (reached new)) (extension_pointer_same old new same table extension published (omega (arith, lt)))
        ∙ ap (says at word) (map_below (extension_of new block) (extension_of old block) extension extension refl (λ before less. extension_pointer_same old new same table (suc before) published (omega (arith, less, lt))))
        ∙ ap (λ (b : Bool). check at (b && not (is_among (reached old) (place_in word)))) (pointer_to_same old new same.size extension_words word)

    last_check_same : last_pointer_check new block ≡ last_pointer_check old block
    last_check_same =
        let count = extension_count old block in
        let at = extension_pointer_at old block count in
        let made : ℕ → Check = λ n. check (extension_pointer_at new block n) (is_null_or_pointer_to new extension_words (get_or new (extension_pointer_at new block n) 0)) in
        ap made (extension_count_same old new same table published)
        ∙ ap (λ (w : ℕ). check (extension_pointer_at new block count) (is_null_or_pointer_to new extension_words w)) (word_same count (omega arith))
        ∙ ap (λ (place : ℕ). check place (is_null_or_pointer_to new extension_words (get_or old at 0))) (extension_pointer_same old new same table count published (omega arith))
        ∙ ap (check at) (null_or_pointer_same old new same.size extension_words (get_or old at 0))

    -- the checks of the pointers to extensions, which are those of version 2
    abbrev pointer_checks : List ℕ → List Check
    pointer_checks words = map (extension_pointer_check words block) (below (extension_count words block)) ++ last_pointer_check words block ∷ []

    pointers_same : pointer_checks new ≡ pointer_checks old
    pointers_same =
        ap (λ (c : Check). map (extension_pointer_check new block) (below (extension_count new block)) ++ c ∷ []) last_check_same
        ∙ ap (λ (cs : List Check). cs ++ last_pointer_check old block ∷ [])
        (map_below (extension_pointer_check new block) (extension_pointer_check old block) (extension_count new block) (extension_count old block) (extension_count_same old new same table published) extension_check_same)

    -- in version 1 there are no extensions, and no pointer to one
    none_first : is_first_version old ≡ true → BeginsFirst old table → (c : Check) → Contains (pointer_checks old) c → Holds c
    none_first first begins c is =
        let inner = first_inner old block first in
        let none : extension_count old block ≡ 0 = omega (arith, inner) in
        let at : last_extension_pointer old block ≡ first_extension_at block = ap (extension_pointer_at old block) none in
        let null : get_or old (last_extension_pointer old block) 0 ≡ 0 = ap (λ (k : ℕ). get_or old k 0) at ∙ begins.no_extension in
        let last = get_or old (last_extension_pointer old block) 0 in
        ⊎_elim
        (λ some.
        let (extension, counted, here) = Contains-map (extension_pointer_check old block) (below (extension_count old block)) c some in
        let lt = Contains-below (extension_count old block) extension counted in
        absurd (omega (arith, lt, none)))
        (λ one. ⊎_elim
        (λ (e : last_pointer_check old block ≡ c). subst Holds e (or_left (eqb last 0) (is_pointer_to old extension_words last) (eq-eqb last 0 null)))
        (λ nothing. absurd (Contains-nil c nothing))
        (Contains-cons (last_pointer_check old block) c [] one))
        (Contains-append_cases (map (extension_pointer_check old block) (below (extension_count old block))) (last_pointer_check old block ∷ []) c is)

    extensions_hold : VersionGoesOn old new → BeginFirst old → ((c : Check) → Contains (extension_checks old block) c → Holds c) → (c : Check) → Contains (extension_checks new block) c → Holds c
    unfolding extension_checks
    extensions_hold (same_version version) plain was c is =
        was c (subst (λ (cs : List Check). Contains cs c)
        (ap (λ (first : Bool). cond first [] (pointer_checks new)) (version_is old new version) ∙ ap (λ (cs : List Check). cond (is_first_version old) [] cs) pointers_same) is)
    extensions_hold (raised one two) plain was c is =
        let first = first_is old one in
        none_first first (plain first table published) c
        (subst (λ (cs : List Check). Contains cs c) (cond-false (is_first_version new) [] (pointer_checks new) (second_is new two) ∙ pointers_same) is)

  -- behind the published tables a null slot is one
  pub null_slot : (table : ℕ) → table_count old ≤ table → get_or new (table_slot_at table) 0 ≡ 0 → is_table_slot new table ≡ true
  null_slot table le null =
      let word = get_or new (table_slot_at table) 0 in
      let count = count_same old new same in
      let zero_word : eqb word 0 ≡ true = eq-eqb word 0 null in
      cond-false (ltb table (table_count new)) (is_table_pointer new word) _ (le-ltb table (table_count new) (omega (arith, le, count)))
      ∙ cond_both (eqb table (table_count new)) ((eqb word 0) || is_block_pointer new word) (eqb word 0) (λ (b : Bool). b ≡ true) (λ one. or_left (eqb word 0) _ zero_word) (λ other. zero_word)

  -- The slots from the count on are what they are to be.
  module _ (version : VersionGoesOn old new) (plain : BeginFirst old) (counted : table_count old ≤ 32) (keeps : Keeps old table_slot_rule) (later : (table : ℕ) → table_count old ≤ table → table < 32 → is_table_slot new table ≡ true) where
    published_holds : (table : ℕ) → table < table_count old → (c : Check) → Contains (table_slot_checks new table) c → Holds c
    unfolding table_slot_rule
    published_holds table lt c is =
        let at = table_slot_at table in
        let count = count_same old new same in
        let few : table < 32 = omega (arith, lt, counted) in
        let test : ltb table (table_count new) ≡ true = lt-ltb table (table_count new) (omega (arith, lt, count)) in
        let was : ltb table (table_count old) ≡ true = lt-ltb table (table_count old) lt in
        let here : is_table_slot new table ≡ is_table_slot old table =
        cond-true (ltb table (table_count new)) (is_table_pointer new (get_or new at 0)) _ test ∙ slot_pointer_same table lt ∙ sym (cond-true (ltb table (table_count old)) (is_table_pointer old (get_or old at 0)) _ was) in
        let behind : cond (ltb table (table_count new)) (extension_checks new (table_block new table)) [] ≡ extension_checks new (table_block old table) =
        cond-true (ltb table (table_count new)) (extension_checks new (table_block new table)) [] test ∙ ap (extension_checks new) (block_same old new same table lt) in
        let before : cond (ltb table (table_count old)) (extension_checks old (table_block old table)) [] ≡ extension_checks old (table_block old table) =
        cond-true (ltb table (table_count old)) (extension_checks old (table_block old table)) [] was in
        let held : (d : Check) → Contains (table_slot_checks old table) d → Holds d = λ d among.
        All-contains Holds (flat_map (table_slot_checks old) (below 32)) d keeps.checks (flat_map-Contains (table_slot_checks old) (below 32) table d (below-Contains 32 table few) among) in
        ⊎_elim
        (λ (first : check at (is_table_slot new table) ≡ c).
        subst Holds first (here ∙ held (check at (is_table_slot old table)) (Contains-here (check at (is_table_slot old table)) (cond (ltb table (table_count old)) (extension_checks old (table_block old table)) []))))
        (λ later. extensions_hold table lt version plain
        (λ d among. held d (Contains-there (check at (is_table_slot old table)) d (cond (ltb table (table_count old)) (extension_checks old (table_block old table)) [])
        (subst (λ (cs : List Check). Contains cs d) (sym before) among)))
        c (subst (λ (cs : List Check). Contains cs c) behind later))
        (Contains-cons (check at (is_table_slot new table)) c (cond (ltb table (table_count new)) (extension_checks new (table_block new table)) []) is)

    later_holds : (table : ℕ) → table < 32 → table_count old ≤ table → (c : Check) → Contains (table_slot_checks new table) c → Holds c
    later_holds table lt le c is =
        let count = count_same old new same in
        let miss : ltb table (table_count new) ≡ false = le-ltb table (table_count new) (omega (arith, le, count)) in
        let no_more : cond (ltb table (table_count new)) (extension_checks new (table_block new table)) [] ≡ [] = cond-false (ltb table (table_count new)) (extension_checks new (table_block new table)) [] miss in
        ⊎_elim (λ (here : check (table_slot_at table) (is_table_slot new table) ≡ c). subst Holds here (later table le lt))
        (λ there. absurd (Contains-nil c (subst (λ (cs : List Check). Contains cs c) no_more there)))
        (Contains-cons (check (table_slot_at table) (is_table_slot new table)) c (cond (ltb table (table_count new)) (extension_checks new (table_block new table)) []) is)

    pub slots_kept : Keeps new table_slot_rule
    unfolding table_slot_rule
    slots_kept = record {
      checks = all_from Holds (flat_map (table_slot_checks new) (below 32)) (λ c is.
          let (table, among, here) = Contains-flat_map (table_slot_checks new) (below 32) c is in
          let lt = Contains-below 32 table among in
          ⊎_elim
          (λ (published : table < table_count old). published_holds table published c here)
          (λ behind. later_holds table lt behind c here)
          (cases_lt table (table_count old)));
    }
