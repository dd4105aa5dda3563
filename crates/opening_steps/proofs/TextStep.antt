-- Opening's step of the dictionary slot at a column's length keeps what fits, and shows the same.
use Rattle.std.proofs.Common.{◌≡◌, ◌≢◌, ◌⊎◌, inl, inr, ⊎_elim, ℕ, zero, suc, ◌+◌, ◌<◌, ◌≤◌, Bool, true, false, cond, ◌&&◌, ltb, List, [], ◌∷◌, length, get_or, map, refl, sym, ◌∙◌, ap, subst, append-nil, arith}
use Rattle.std.specs.Prelude.{All, Contains, IsTrue, slice_get, take}
use Rattle.std.specs.Option.{option_map_or}
use Rattle.std.proofs.lemmas.List.{take_all}
use Rattle.std.specs.List.{flat_map}
use Rattle.std.proofs.lemmas.Bool.{and_parts, both_ways, cases_Bool, cases_eq, cond-false, cond-true, ltb-true}
use Rattle.std.proofs.lemmas.List.Elements.{All-contains, Contains-append_left, Contains-append_right, Contains-get_or}
use Rattle.pm_model.specs.Plans.{Part}
use Rattle.image_layout.specs.Blocks.{is_block_pointer, live_blocks}
use Rattle.image_layout.specs.Owners.{next_table_slots, next_text_slots, unfinished_slots}
use Rattle.image_layout.specs.Places.{is_pointer, place_in}
use Rattle.image_layout.specs.Arrays.{capacity, place_of}
use Rattle.image_layout.specs.Records.{dictionary_header}
use Rattle.image_layout.specs.Tables.{all_columns, is_text}
use Rattle.image_layout.specs.Trees.{dictionary_length}
use Rattle.image_layout.proofs.Members.{Contains-cons, Contains-here, Contains-nil, Contains-there, flat_map-Contains}
use Rattle.image_layout.proofs.OwnersApart.{all_from}
use Rattle.shown_state.specs.Fits.{Fits}
use Rattle.shown_state.specs.Mending.{free_block, free_text, text_mending}
use Rattle.shown_state.specs.OpeningParts.{IsImage}
use Rattle.shown_state.specs.Reads.{SameReads}
use Rattle.shown_state.specs.StepLaws.{HaveNoNew, TextsKeep}
use Rattle.shown_state.proofs.LaneMending.{block_pointer, pointer_parts}
use Rattle.shown_state.proofs.ReadLaw.{reads_decide}
use Rattle.shown_state.proofs.SameTables.{dictionary_is}
use Rattle.opening_steps.proofs.FreedSlot.{IsFreed}
use Rattle.opening_steps.proofs.OwnerPlaces.{Contains-take}
use Rattle.opening_steps.proofs.Steps.{plain_as_it_is, plain_by, plain_keeps, StepIsPlain}
use Rattle.opening_steps.proofs.SlotStep.{freeing_is_plain, live_pointer, tables_null}

-- the column of a number, if there are as many
column_at : (columns : List ℕ) (number : ℕ)
    → ((number < length columns) × ((parts : ℕ → List Part) → option_map_or parts (slice_get columns number) [] ≡ parts (get_or columns number 0)))
    ⊎ ((length columns ≤ number) × ((parts : ℕ → List Part) → option_map_or parts (slice_get columns number) [] ≡ []))
column_at [] number = inr (omega arith, λ parts. refl)
column_at (column ∷ columns) zero = inl (omega arith, λ parts. refl)
column_at (column ∷ columns) (suc number) = ⊎_elim
    (λ has. let lt = has.0 in inl (omega (arith, lt), has.1))
    (λ none. let le = none.0 in inr (omega (arith, le), none.1))
    (column_at columns number)

-- one more of the first elements
take_one_more : (n : ℕ) (xs : List ℕ) (x : ℕ) → Contains (take (n + 1) xs) x → Contains (take n xs) x ⊎ (x ≡ get_or xs n 0)
take_one_more n [] x is = absurd (Contains-nil x (Contains-take (n + 1) [] x is))
take_one_more zero (y ∷ xs) x is = ⊎_elim (λ here. inr (sym here)) (λ none. absurd (Contains-nil x none)) (Contains-cons y x [] is)
take_one_more (suc n) (y ∷ xs) x is = ⊎_elim
    (λ here. inl (subst (λ (z : ℕ). Contains (y ∷ take n xs) z) here (Contains-here y (take n xs))))
    (λ there. ⊎_elim (λ early. inl (Contains-there y x (take n xs) early)) (λ last. inr last) (take_one_more n xs x there))
    (Contains-cons y x (take (n + 1) xs) (one_more is))
  where
    one_more : Contains (take (suc n + 1) (y ∷ xs)) x → Contains (y ∷ take (n + 1) xs) x
    one_more is = let next : suc n + 1 ≡ suc (n + 1) = omega arith in subst (λ (k : ℕ). Contains (take k (y ∷ xs)) x) next is

next_texts_same : (old new : List ℕ) → Fits old → SameReads old new → (column : ℕ) → Contains (all_columns old) column → next_text_slots new column ≡ next_text_slots old column
next_texts_same old new fits same column is =
    let (read, b, trees, d, e, f) = reads_decide old new fits same in
    let header = dictionary_header column in
    let headed = dictionary_is old column is in
    let count = dictionary_length old column in
    let test = is_text old column && ltb count (capacity old header) in
    ap (λ (b : Bool). cond (b && ltb (dictionary_length new column) (capacity new header)) (place_of new header (dictionary_length new column) ∷ []) []) (read.kinds column is)
    ∙ ap (λ (n : ℕ). cond (is_text old column && ltb n (capacity new header)) (place_of new header n ∷ []) []) (trees.lengths column is)
    ∙ ap (λ (n : ℕ). cond (is_text old column && ltb count n) (place_of new header count ∷ []) []) (read.capacities headed.table header headed.published headed.among)
    ∙ ⊎_elim
    (λ hit. ap (λ (place : ℕ). cond test (place ∷ []) [])
    (read.places headed.table header count headed.published headed.among (ltb-true count (capacity old header) (and_parts (is_text old column) (ltb count (capacity old header)) hit).1)))
    (λ miss. cond-false test (place_of new header count ∷ []) [] miss ∙ sym (cond-false test (place_of old header count ∷ []) [] miss))
    (cases_Bool test)

module _ (words : List ℕ) (number : ℕ) (image : IsImage words) (fits : Fits words) (clear : HaveNoNew number words) where
  abbrev columns : List ℕ
  columns = all_columns words

  abbrev column : ℕ
  column = get_or (all_columns words) number 0

  null_before : (other place : ℕ) → Contains (take number columns) other → Contains (next_text_slots words other) place → get_or words place 0 ≡ 0
  null_before other place among is = All-contains (λ a. get_or words a 0 ≡ 0) (next_text_slots words other) place
      (All-contains (λ c. All (λ a. get_or words a 0 ≡ 0) (next_text_slots words c)) (take number columns) other clear.2 among) is

  -- there is no such column, or it has no such slot, or that is null
  idle_text : text_mending number words ≡ [] → ((other place : ℕ) → Contains (take (number + 1) columns) other → Contains (next_text_slots words other) place → get_or words place 0 ≡ 0) → StepIsPlain (HaveNoNew (number + 1)) (text_mending number) words
  idle_text none null = plain_by (HaveNoNew (number + 1)) (text_mending number) words [] none tt (plain_as_it_is words fits) (
    clear.0,
    clear.1,
    all_from (λ c. All (λ a. get_or words a 0 ≡ 0) (next_text_slots words c)) (take (number + 1) columns) (λ other among.
        all_from (λ a. get_or words a 0 ≡ 0) (next_text_slots words other) (λ place is. null other place among is)),
  )

  abbrev at : ℕ
  at = place_of words (dictionary_header column) (dictionary_length words column)

  abbrev test : Bool
  test = is_text words (get_or (all_columns words) number 0) && ltb (dictionary_length words (get_or (all_columns words) number 0)) (capacity words (dictionary_header (get_or (all_columns words) number 0)))

  module _ (lt : number < length columns) (made : (parts : ℕ → List Part) → option_map_or parts (slice_get columns number) [] ≡ parts column) where
    of_column : Contains columns column
    of_column = Contains-get_or columns number 0 lt

    mending_is : text_mending number words ≡ flat_map (free_text words) (next_text_slots words column)
    mending_is = made (λ c. flat_map (free_text words) (next_text_slots words c))

    -- its slot is the only one that may not be null
    by_column : ((place : ℕ) → Contains (next_text_slots words column) place → get_or words place 0 ≡ 0) → (other place : ℕ) → Contains (take (number + 1) columns) other → Contains (next_text_slots words other) place → get_or words place 0 ≡ 0
    by_column null other place among is = ⊎_elim
        (λ early. null_before other place early is)
        (λ (here : other ≡ column). null place (subst (λ (c : ℕ). Contains (next_text_slots words c) place) here is))
        (take_one_more number columns other among)

    module _ (hit : test ≡ true) where
      slots : next_text_slots words column ≡ at ∷ []
      slots = cond-true test (at ∷ []) [] hit

      only : (place : ℕ) → Contains (next_text_slots words column) place → place ≡ at
      only place is = ⊎_elim (λ here. sym here) (λ none. absurd (Contains-nil place none)) (Contains-cons at place [] (subst (λ (xs : List ℕ). Contains xs place) slots is))

      at_slot : Contains (next_text_slots words column) at
      at_slot = subst (λ (xs : List ℕ). Contains xs at) (sym slots) (Contains-here at [])

      slot : Contains (unfinished_slots words) at
      slot = Contains-append_right (next_table_slots words) (flat_map (next_text_slots words) columns) at (flat_map-Contains (next_text_slots words) columns column at of_column at_slot)

      free_is : text_mending number words ≡ free_text words at
      free_is = mending_is ∙ ap (flat_map (free_text words)) slots ∙ append-nil (free_text words at)

      module _ (pointer : is_block_pointer words (get_or words at 0) ≡ true) where
        some : get_or words at 0 ≢ 0
        some none = let word = (pointer_parts words (get_or words at 0) (block_pointer words (get_or words at 0) pointer)).0 in omega (arith, word, none)

        tables : (place : ℕ) → Contains (next_table_slots words) place → (place ≡ at) ⊎ (get_or words place 0 ≡ 0)
        tables place is = inr (All-contains (λ a. get_or words a 0 ≡ 0) (next_table_slots words) place clear.1 is)

        after : (new : List ℕ) → IsFreed words at image fits clear.0 slot some pointer tables new → HaveNoNew (number + 1) new
        after new freed =
            let (read, b, c, d, e, f) = reads_decide words new fits freed.reads in
            let still = freed.still in (
              (freed.idle, still.plain clear.0.1),
              tables_null words new read.count (λ place is. null_new place (Contains-append_left (next_table_slots words) (flat_map (next_text_slots words) columns) place is) (λ apart. All-contains (λ a. get_or words a 0 ≡ 0) (next_table_slots words) place clear.1 is)),
              subst (λ (cs : List ℕ). All (λ c. All (λ a. get_or new a 0 ≡ 0) (next_text_slots new c)) (take (number + 1) cs)) (sym read.columns)
                  (all_from (λ c. All (λ a. get_or new a 0 ≡ 0) (next_text_slots new c)) (take (number + 1) columns) (λ other among.
                  let of = Contains-take (number + 1) columns other among in
                  all_from (λ a. get_or new a 0 ≡ 0) (next_text_slots new other) (λ place is.
                  let was : Contains (next_text_slots words other) place = subst (λ (xs : List ℕ). Contains xs place) (next_texts_same words new fits freed.reads other of) is in
                  null_new place (Contains-append_right (next_table_slots words) (flat_map (next_text_slots words) columns) place (flat_map-Contains (next_text_slots words) columns other place of was)) (λ apart.
                  ⊎_elim (λ early. null_before other place early was)
                  (λ (here : other ≡ column). absurd (apart (only place (subst (λ (c : ℕ). Contains (next_text_slots words c) place) here was))))
                  (take_one_more number columns other among))))),
            )
          where
            null_new : (place : ℕ) → Contains (unfinished_slots words) place → (place ≢ at → get_or words place 0 ≡ 0) → get_or new place 0 ≡ 0
            null_new place is was = ⊎_elim
                (λ (here : place ≡ at). ap (λ (w : ℕ). get_or new w 0) here ∙ freed.null)
                (λ apart. freed.kept place is apart ∙ was apart) (cases_eq place at)

        named_text : StepIsPlain (HaveNoNew (number + 1)) (text_mending number) words
        named_text = freeing_is_plain (HaveNoNew (number + 1)) (text_mending number) words at image fits clear.0 slot some pointer tables
            (free_is ∙ cond-true (is_block_pointer words (get_or words at 0)) (free_block words at) [] pointer) after

      -- a word that names no block is null
      null_word : is_block_pointer words (get_or words at 0) ≡ false → get_or words at 0 ≡ 0
      null_word miss = ⊎_elim (λ none. none)
          (λ some.
          let names = All-contains (λ a. get_or words a 0 ≢ 0 → IsTrue (is_pointer words (get_or words a 0)) × Contains (map (λ block. block.first) (live_blocks words)) (place_in (get_or words a 0))) (unfinished_slots words) at fits.apart.unfinished slot some in
          absurd (both_ways (is_block_pointer words (get_or words at 0)) miss (live_pointer words fits (get_or words at 0) names.0 names.1)))
          (cases_eq (get_or words at 0) 0)

      slot_step : StepIsPlain (HaveNoNew (number + 1)) (text_mending number) words
      slot_step = ⊎_elim
          (λ pointer. named_text pointer)
          (λ miss. idle_text (free_is ∙ cond-false (is_block_pointer words (get_or words at 0)) (free_block words at) [] miss)
          (by_column (λ place is. ap (λ (w : ℕ). get_or words w 0) (only place is) ∙ null_word miss)))
          (cases_Bool (is_block_pointer words (get_or words at 0)))

    column_step : StepIsPlain (HaveNoNew (number + 1)) (text_mending number) words
    column_step = ⊎_elim
        (λ hit. slot_step hit)
        (λ miss.
        let none : next_text_slots words column ≡ [] = cond-false test (at ∷ []) [] miss in
        idle_text (mending_is ∙ ap (flat_map (free_text words)) none)
        (by_column (λ place is. absurd (Contains-nil place (subst (λ (xs : List ℕ). Contains xs place) none is)))))
        (cases_Bool test)

  pub text_is_plain : StepIsPlain (HaveNoNew (number + 1)) (text_mending number) words
  text_is_plain = ⊎_elim
      (λ has. column_step has.0 has.1)
      (λ none.
      let le = none.0 in
      idle_text (none.1 (λ c. flat_map (free_text words) (next_text_slots words c)))
      (λ other place among is. null_before other place (subst (λ (cs : List ℕ). Contains cs other) (sym (take_all number columns le)) (Contains-take (number + 1) columns other among)) is))
      (column_at columns number)

pub texts_keep : TextsKeep
texts_keep words number image lt fits clear = plain_keeps (HaveNoNew (number + 1)) (text_mending number) words (text_is_plain words number image fits clear)
