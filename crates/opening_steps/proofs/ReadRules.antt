-- Where the words that say where structures stand are the same, the rule of arrays has the
-- same checks, and so has that of objects but for their states and commit words.
use Rattle.std.proofs.Common.{◌≡◌, ℕ, ◌+◌, ◌-◌, ◌^◌, ◌<◌, ◌≤◌, min, Bool, not, ◌&&◌, ◌||◌, cond, eqb, leb, ltb, List, [], ◌∷◌, ◌++◌, get_or, map, refl, sym, ◌∙◌, ap, subst, arith}
use Rattle.std.specs.Prelude.{All, Contains}
use Rattle.std.proofs.lemmas.Bool.{le-leb}
use Rattle.std.proofs.lemmas.List.Elements.{All-cons, All-contains, All-tail}
use Rattle.std.specs.List.{flat_map}
use Rattle.image_layout.specs.Fixed.{commit_word_at, last_at, ready_at, state_at}
use Rattle.image_layout.specs.Places.{below, is_null_or_pointer_to, is_pointer_to, place_in}
use Rattle.image_layout.specs.Arrays.{array_rule, chunk_count, chunk_pointer_at, chunk_words, is_chunk_pointer}
use Rattle.image_layout.specs.Tables.{table_blocks, array_headers}
use Rattle.image_layout.specs.Objects.{commit_word, ready_count, segment_pointer_at, segment_of, pointer_after}
use Rattle.image_layout.specs.Checks.{Check, check, Keeps}
use Rattle.image_layout.specs.EntryRules.{is_among, arrays_rule, is_segment_pointer, object_rule, objects_rule}
use Rattle.opening_steps.proofs.Structure.{of_header, SamePlaces}
use Rattle.image_layout.proofs.Faults.{Holds}
use Rattle.image_layout.proofs.Members.{Contains-below, Contains-flat_map}
use Rattle.image_layout.proofs.OwnedBlocks.{one_object}
use Rattle.image_layout.proofs.OwnersApart.{all_from}
use Rattle.shown_state.proofs.Alike.{map_below, flat_map_alike}
use Rattle.shown_state.proofs.SameTreeRules.{pointer_to_same, null_or_pointer_same}
use Rattle.shown_state.proofs.SameTables.{IsHeader, table_of_block}
use Rattle.opening_steps.proofs.Tables.{blocks_same, headers_same}
use Rattle.opening_steps.proofs.Objects.{ready_same, pointer_same, named_same, segment_same}

module _ (old new : List ℕ) (same : SamePlaces old new) where
  abbrev to_same : (count word : ℕ) → is_pointer_to new count word ≡ is_pointer_to old count word
  to_same = pointer_to_same old new same.size

  abbrev null_or_same : (count word : ℕ) → is_null_or_pointer_to new count word ≡ is_null_or_pointer_to old count word
  null_or_same = null_or_pointer_same old new same.size

  -- ── arrays ──

  chunk_pointer_same : (count chunk word : ℕ) → is_chunk_pointer new count chunk word ≡ is_chunk_pointer old count chunk word
  chunk_pointer_same count chunk word = ap (λ (b : Bool). cond (ltb chunk count) b (cond (eqb chunk count) ((eqb word 0) || b) (eqb word 0))) (to_same (chunk_words chunk) word)

  header_word : (header word : ℕ) → IsHeader old header → word < 13 → get_or new (header + word) 0 ≡ get_or old (header + word) 0
  header_word header word is lt = same.each (header + word) (of_header is.table header word is.published is.among lt refl)

  array_rule_same : (header : ℕ) → IsHeader old header → array_rule header new ≡ array_rule header old
  unfolding array_rule
  array_rule_same header is =
      let checks : List ℕ → ℕ → ℕ → Check = λ words count chunk. check (chunk_pointer_at header chunk) (is_chunk_pointer words count chunk (get_or words (chunk_pointer_at header chunk) 0)) in
      ap (λ (count : ℕ). check header (leb count 12) ∷ map (checks new count) (below 12))
      (subst (λ (w : ℕ). get_or new w 0 ≡ get_or old w 0) (add_zero header) (header_word header 0 is (omega arith)))
      ∙ ap (λ (rest : List Check). check header (leb (chunk_count old header) 12) ∷ rest)
      (map_below (checks new (chunk_count old header)) (checks old (chunk_count old header)) 12 12 refl
      (λ chunk lt.
      ap (λ (word : ℕ). check (chunk_pointer_at header chunk) (is_chunk_pointer new (chunk_count old header) chunk word))
      (subst (λ (w : ℕ). get_or new w 0 ≡ get_or old w 0) (further header chunk) (header_word header (1 + chunk) is (omega (arith, lt))))
      ∙ ap (check (chunk_pointer_at header chunk)) (chunk_pointer_same (chunk_count old header) chunk (get_or old (chunk_pointer_at header chunk) 0))))
    where
      add_zero : (header : ℕ) → header + 0 ≡ header
      add_zero header = omega arith

      further : (header chunk : ℕ) → header + (1 + chunk) ≡ header + 1 + chunk
      further header chunk = omega arith

  pub arrays_rule_same : arrays_rule new ≡ arrays_rule old
  unfolding arrays_rule
  arrays_rule_same =
      let arrays : List ℕ → ℕ → List Check = λ words block. flat_map (λ header. array_rule header words) (array_headers words block) in
      flat_map_alike (arrays new) (arrays old) (table_blocks new) (table_blocks old) (blocks_same old new same)
      (λ block is. flat_map_alike (λ header. array_rule header new) (λ header. array_rule header old) (array_headers new block) (array_headers old block) (headers_same old new same block is)
      (λ header among.
      let (table, published, here) = table_of_block old block is in
      array_rule_same header (record { table = table; published = published; among = subst (λ (b : ℕ). Contains (array_headers old b) header) (sym here) among })))

  -- ── objects ──

  module _ (object : ℕ) (number : object < 16) where
    -- the pointer behind the ready segments
    pub after_same : pointer_after new object ≡ pointer_after old object
    after_same = ap (segment_pointer_at new object) (ready_same old new same object number) ∙ pointer_same old new same object number (ready_count old object) (omega arith)

    after_word_same : get_or new (pointer_after new object) 0 ≡ get_or old (pointer_after old object) 0
    after_word_same = ap (λ (at : ℕ). get_or new at 0) after_same ∙ named_same old new same object number (ready_count old object) (omega arith)

    segment_pointer_same : (segment : ℕ) → segment < ready_count old object → is_segment_pointer new object segment ≡ is_segment_pointer old object segment
    segment_pointer_same segment lt =
        let at = segment_pointer_at old object segment in
        let reached : List ℕ → List ℕ = λ words. map (segment_of words object) (below segment) in
        ap (λ (place : ℕ). is_pointer_to new 256 (get_or new place 0) && not (is_among (reached new) (place_in (get_or new place 0)))) (pointer_same old new same object number segment (omega (arith, lt)))
        ∙ ap (λ (word : ℕ). is_pointer_to new 256 word && not (is_among (reached new) (place_in word))) (named_same old new same object number segment (omega (arith, lt)))
        ∙ ap (λ (b : Bool). b && not (is_among (reached new) (place_in (get_or old at 0)))) (to_same 256 (get_or old at 0))
        ∙ ap (λ (places : List ℕ). is_pointer_to old 256 (get_or old at 0) && not (is_among places (place_in (get_or old at 0))))
        (map_below (segment_of new object) (segment_of old object) segment segment refl (λ before less. segment_same old new same object number before (omega (arith, less, lt))))

    -- the checks of an object behind that of its commit word
    abbrev later_checks : List ℕ → List Check
    later_checks words =
        check (ready_at object) (leb (ready_count words object) 32)
        ∷ map (λ segment. check (segment_pointer_at words object segment) (is_segment_pointer words object segment)) (below (ready_count words object))
        ++ check (pointer_after words object) (is_null_or_pointer_to words 256 (get_or words (pointer_after words object) 0)) ∷ []

    later_same : later_checks new ≡ later_checks old
    later_same =
        let says : ℕ → List Check → Check → List Check = λ ready pointers after. check (ready_at object) (leb ready 32) ∷ pointers ++ after ∷ [] in
        let pointers : List ℕ → List Check = λ words. map (λ segment. check (segment_pointer_at words object segment) (is_segment_pointer words object segment)) (below (ready_count words object)) in
        let after : List ℕ → Check = λ words. check (pointer_after words object) (is_null_or_pointer_to words 256 (get_or words (pointer_after words object) 0)) in
        let ready = ready_count old object in
        ap (λ (w : ℕ). says w (pointers new) (after new)) (ready_same old new same object number)
        ∙ ap (λ (checks : List Check). says ready checks (after new))
        (map_below (λ segment. check (segment_pointer_at new object segment) (is_segment_pointer new object segment)) (λ segment. check (segment_pointer_at old object segment) (is_segment_pointer old object segment))
        (ready_count new object) ready (ready_same old new same object number)
        (λ segment lt.
        ap (λ (at : ℕ). check at (is_segment_pointer new object segment)) (pointer_same old new same object number segment (omega (arith, lt)))
        ∙ ap (check (segment_pointer_at old object segment)) (segment_pointer_same segment lt)))
        ∙ ap (says ready (pointers old))
        (ap (λ (at : ℕ). check at (is_null_or_pointer_to new 256 (get_or new (pointer_after new object) 0))) after_same
        ∙ ap (λ (word : ℕ). check (pointer_after old object) (is_null_or_pointer_to new 256 word)) after_word_same
        ∙ ap (check (pointer_after old object)) (null_or_same 256 (get_or old (pointer_after old object) 0)))

    -- an object keeps its rule, where its state and its commit word do
    pub object_kept : get_or new (state_at object) 0 ≤ 1 → commit_word new object ≤ min (get_or new last_at 0 + 1) (2 ^ 40 - 1) → All Holds (object_rule object old) → All Holds (object_rule object new)
    unfolding object_rule
    object_kept state commit holds =
        let first : List ℕ → Check = λ words. check (state_at object) (leb (get_or words (state_at object) 0) 1) in
        let second : List ℕ → Check = λ words. check (commit_word_at object) (leb (commit_word words object) (min (get_or words last_at 0 + 1) (2 ^ 40 - 1))) in
        let rest = All-tail Holds (second old) (later_checks old) (All-tail Holds (first old) (second old ∷ later_checks old) holds) in
        All-cons Holds (first new) (second new ∷ later_checks new) (le-leb (get_or new (state_at object) 0) 1 state)
        (All-cons Holds (second new) (later_checks new) (le-leb (commit_word new object) (min (get_or new last_at 0 + 1) (2 ^ 40 - 1)) commit)
        (subst (All Holds) (sym later_same) rest))

  pub objects_kept : Keeps old objects_rule → ((object : ℕ) → object < 16 → get_or new (state_at object) 0 ≤ 1) → ((object : ℕ) → object < 16 → commit_word new object ≤ min (get_or new last_at 0 + 1) (2 ^ 40 - 1)) → Keeps new objects_rule
  unfolding objects_rule
  objects_kept keeps states commits = record {
    checks = all_from Holds (flat_map (λ object. object_rule object new) (below 16)) (λ c is.
        let (object, among, here) = Contains-flat_map (λ o. object_rule o new) (below 16) c is in
        let lt = Contains-below 16 object among in
        All-contains Holds (object_rule object new) c (object_kept object lt (states object lt) (commits object lt) (let rule = one_object old object keeps lt in rule.checks)) here);
  }
