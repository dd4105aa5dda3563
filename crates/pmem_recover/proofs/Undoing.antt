-- The plan that takes back an undecided transaction, gathered entry by entry and table by table.
use Rattle.std.proofs.Common.{◌≡◌, ◌≢◌, ℕ, suc, ◌+◌, ◌<◌, Bool, true, false, not, ◌&&◌, cond, max, eqb, List, [], ◌∷◌, ◌++◌, length, get_or, take, drop, All, map, refl, sym, ◌∙◌, ap, subst, append_assoc, arith}
use Rattle.std.specs.Prelude.{filter}
use Rattle.std.specs.List.{flat_map}
use Rattle.std.proofs.lemmas.Bool.{eq-eqb, ne_eqb, cond-true, cond-false}
use Rattle.std.proofs.lemmas.List.{append-nil, map-append}
use Rattle.std.proofs.lemmas.List.Elements.{All-push}
use Rattle.std.proofs.lemmas.List.FromFn.{map-range_with_len_more}
use Rattle.std.proofs.lemmas.Grind.{flat_map-append}
use Rattle.std.proofs.Math.Seq.{take-suc, take-append_seam, drop-append_seam}
use Rattle.pm_model.specs.declared.action.Action.{Action}
use Rattle.image_layout.specs.declared.place.Place.{Place}
use Rattle.image_layout.specs.Fixed.{state_at, commit_word_at}
use Rattle.image_layout.specs.Records.{high_at}
use Rattle.image_layout.specs.Places.{below}
use Rattle.pm_model.specs.Plans.{Part, one_store, store, plan_of}
use Rattle.pm_model.specs.Needed.{needed_parts}
use Rattle.image_layout.specs.Tables.{table_count, table_block}
use Rattle.image_layout.specs.Objects.{is_open, commit_word, entries, entry_places}
use Rattle.shown_state.specs.LogicalState.{row_bound}
use Rattle.shown_state.specs.Mending.{undo_mending, undo_entry, undo_parts}
use Rattle.pmem_recover.specs.declared.change.WordChange.{WordChange}
use Rattle.pmem_recover.specs.Changes.{change, change_part, change_parts}
use Rattle.pmem_recover.specs.Filled.{is_filled, places_of}
use Rattle.pmem_recover.specs.Steps.{step_parts}
use Rattle.pmem_recover.specs.Undo.{words_at, created_among}
use Rattle.pmem_recover.proofs.Steps.{step-by}

-- one change more stands in the image
pub within-push : (size : ℕ) (old new : List WordChange) (c : WordChange) → new ≡ old ++ c ∷ [] → c.place.0 < size → All (λ change. change.place.0 < size) old → All (λ change. change.place.0 < size) new
within-push size old new c is lt all = subst (λ (cs : List WordChange). All (λ change. change.place.0 < size) cs) (sym is) (All-push (λ change. change.place.0 < size) old c all lt)

-- the stamps of one entry more
pub stamps-next : (words : List ℕ) (stamp : ℕ → Part) (places : List Place) (i : ℕ) (d : Place) (word : ℕ) (before after : Part) → i < length places → word ≡ get_or words (get_or places i d).0 0
    → before ≡ flat_map stamp (words_at words (take i places)) → after ≡ before ++ stamp word → after ≡ flat_map stamp (words_at words (take (i + 1) places))
stamps-next words stamp places i d word before after lt word_is was is =
    let next : i + 1 ≡ suc i = omega arith in
    let more : take (i + 1) places ≡ take i places ++ get_or places i d ∷ [] = ap (λ (k : ℕ). take k places) next ∙ take-suc places i d lt in
    let words_more : words_at words (take (i + 1) places) ≡ words_at words (take i places) ++ get_or words (get_or places i d).0 0 ∷ [] =
    ap (words_at words) more ∙ ap (map (λ at. get_or words at 0)) (map-append (λ (p : Place). p.0) (take i places) (get_or places i d ∷ [])) ∙ map-append (λ at. get_or words at 0) (places_of (take i places)) ((get_or places i d).0 ∷ []) in
    is ∙ ap (λ (p : Part). p ++ stamp word) was ∙ ap (λ (w : ℕ). flat_map stamp (words_at words (take i places)) ++ stamp w) word_is
    ∙ ap (λ (p : Part). flat_map stamp (words_at words (take i places)) ++ p) (sym (append-nil (stamp (get_or words (get_or places i d).0 0))))
    ∙ sym (ap (flat_map stamp) words_more ∙ flat_map-append stamp (words_at words (take i places)) (get_or words (get_or places i d).0 0 ∷ []))

-- the bound of one table more
pub bounds-next : (bound : ℕ → Action) (n : ℕ) (place : Place) (value : ℕ) (old : Part) (before after : List WordChange) → change_part before ≡ old ++ map bound (below n)
    → after ≡ before ++ change place.0 value ∷ [] → store place.0 value ≡ bound n → change_part after ≡ old ++ map bound (below (n + 1))
bounds-next bound n place value old before after was is same =
    ap change_part is ∙ map-append (λ (c : WordChange). store c.place.0 c.value) before (change place.0 value ∷ [])
    ∙ ap (λ (p : Part). p ++ store place.0 value ∷ []) was ∙ append_assoc old (map bound (below n)) (store place.0 value ∷ [])
    ∙ ap (λ (a : Action). old ++ (map bound (below n) ++ a ∷ [])) same
    ∙ ap (λ (p : Part). old ++ p) (sym (map-range_with_len_more bound 0 n n (omega arith)))

-- ── an object ──

-- the words of the filled places are the entries
words-filled : (words places : List ℕ) → map (λ at. get_or words at 0) (filter (is_filled words) places) ≡ filter (λ word. not (eqb word 0)) (map (λ at. get_or words at 0) places)
words-filled words [] = refl
words-filled words (place ∷ places) = by_test (is_filled words place) (words-filled words places)
  where
    by_test : (b : Bool) → map (λ at. get_or words at 0) (filter (is_filled words) places) ≡ filter (λ word. not (eqb word 0)) (map (λ at. get_or words at 0) places) → map (λ at. get_or words at 0) (cond b (place ∷ filter (is_filled words) places) (filter (is_filled words) places))
        ≡ cond b (get_or words place 0 ∷ filter (λ word. not (eqb word 0)) (map (λ at. get_or words at 0) places)) (filter (λ word. not (eqb word 0)) (map (λ at. get_or words at 0) places))
    by_test true rest = ap (λ (xs : List ℕ). get_or words place 0 ∷ xs) rest
    by_test false rest = rest

pub entries-are : (words : List ℕ) (object : ℕ) (filled : List Place) → places_of filled ≡ filter (is_filled words) (entry_places words object) → words_at words filled ≡ entries words object
entries-are words object filled is = ap (map (λ at. get_or words at 0)) is ∙ words-filled words (entry_places words object)

pub undecided : (words : List ℕ) (object : ℕ) → get_or words (state_at object) 0 ≡ 1 → get_or words (commit_word_at object) 0 ≡ 0 → step_parts undo_mending words object ≡ needed_parts words (undo_parts words object)
undecided words object opened none = step-by undo_mending words object (undo_parts words object) (cond-true (is_open words object && eqb (commit_word words object) 0) (undo_parts words object) [] both)
  where
    both : (is_open words object && eqb (commit_word words object) 0) ≡ true
    both = ap (λ (b : Bool). b && eqb (commit_word words object) 0) (eq-eqb (get_or words (state_at object) 0) 1 opened) ∙ eq-eqb (commit_word words object) 0 none

pub not-open : (words : List ℕ) (object : ℕ) → get_or words (state_at object) 0 ≢ 1 → step_parts undo_mending words object ≡ []
not-open words object closed = step-by undo_mending words object [] (cond-false (is_open words object && eqb (commit_word words object) 0) (undo_parts words object) []
    (ap (λ (b : Bool). b && eqb (commit_word words object) 0) (ne_eqb (get_or words (state_at object) 0) 1 closed)))

pub committed : (words : List ℕ) (object : ℕ) → get_or words (commit_word_at object) 0 ≢ 0 → step_parts undo_mending words object ≡ []
committed words object some = step-by undo_mending words object [] (cond-false (is_open words object && eqb (commit_word words object) 0) (undo_parts words object) []
    (ap (λ (b : Bool). is_open words object && b) (ne_eqb (commit_word words object) 0 some) ∙ and_false (is_open words object)))
  where
    and_false : (b : Bool) → (b && false) ≡ false
    and_false true = refl
    and_false false = refl

-- the bound of a table, by the entries' words
abbrev pub raised : List ℕ → List ℕ → ℕ → Action
raised words among table = store (high_at (table_block words table)) (max (get_or words (high_at (table_block words table)) 0) (row_bound (created_among among table)))

pub bound-is : (words among : List ℕ) (table place block value word bound : ℕ) → place ≡ high_at block → block ≡ table_block words table → value ≡ max word bound → word ≡ get_or words place 0
    → bound ≡ row_bound (created_among among table) → store place value ≡ raised words among table
bound-is words among table place block value word bound at is value_is word_is bound_is =
    let here : place ≡ high_at (table_block words table) = at ∙ ap high_at is in
    ap (store place) (value_is ∙ ap (λ (w : ℕ). max w bound) word_is ∙ ap (max (get_or words place 0)) bound_is)
    ∙ ap (λ (k : ℕ). store k (max (get_or words k 0) (row_bound (created_among among table)))) here

pub undo-planned : (words : List ℕ) (object first : ℕ) (place : Place) (filled : List Place) (made changes : List WordChange) (stamps : Part) (before left : List Action)
    → get_or words (state_at object) 0 ≡ 1 → get_or words (commit_word_at object) 0 ≡ 0 → place.0 ≡ state_at object
    → places_of filled ≡ filter (is_filled words) (entry_places words object) → stamps ≡ flat_map (undo_entry words) (words_at words filled)
    → change_part made ≡ stamps ++ map (raised words (words_at words filled)) (below (table_count words))
    → first ≡ length made → changes ≡ made ++ change place.0 0 ∷ [] → before ≡ []
    → left ≡ before ++ plan_of (needed_parts words (change_part (take first changes) ∷ change_parts (drop first changes))) → left ≡ plan_of (step_parts undo_mending words object)
undo-planned words object first place filled made changes stamps before left opened none at places stamps_are made_is first_is changes_are empty is =
    let among = entries-are words object filled places in
    let one : change_part (take first changes) ≡ flat_map (undo_entry words) (entries words object) ++ map (raised words (entries words object)) (below (table_count words)) =
    ap (λ (cs : List WordChange). change_part (take first cs)) changes_are ∙ ap (λ (k : ℕ). change_part (take k (made ++ change place.0 0 ∷ []))) first_is
    ∙ ap change_part (take-append_seam made (change place.0 0 ∷ [])) ∙ made_is ∙ ap (λ (p : Part). p ++ map (raised words (words_at words filled)) (below (table_count words))) stamps_are
    ∙ ap (λ (ws : List ℕ). flat_map (undo_entry words) ws ++ map (raised words ws) (below (table_count words))) among in
    let two : change_parts (drop first changes) ≡ one_store (state_at object) 0 ∷ [] =
    ap (λ (cs : List WordChange). change_parts (drop first cs)) changes_are ∙ ap (λ (k : ℕ). change_parts (drop k (made ++ change place.0 0 ∷ []))) first_is
    ∙ ap change_parts (drop-append_seam made (change place.0 0 ∷ [])) ∙ ap (λ (k : ℕ). one_store k 0 ∷ []) at in
    is ∙ ap (λ (xs : List Action). xs ++ plan_of (needed_parts words (change_part (take first changes) ∷ change_parts (drop first changes)))) empty
    ∙ ap (λ (p : Part). plan_of (needed_parts words (p ∷ change_parts (drop first changes)))) one
    ∙ ap (λ (ps : List Part). plan_of (needed_parts words ((flat_map (undo_entry words) (entries words object) ++ map (raised words (entries words object)) (below (table_count words))) ∷ ps))) two
    ∙ ap plan_of (sym (undecided words object opened none))
