-- Opening leaves a sound image as it is.
use Rattle.std.proofs.Common.{◌≡◌, ⊎_elim, ℕ, zero, suc, ◌-◌, ◌<◌, true, false, ◌&&◌, ltb, eqb, max, List, [], ◌∷◌, ◌++◌, get_or, map, refl, sym, ◌∙◌, ap, subst, arith}
use Rattle.std.specs.Prelude.{Contains, All, fold, slice_get}
use Rattle.std.specs.List.{flat_map, range_with_len}
use Rattle.std.specs.Option.{option_map_or}
use Rattle.std.proofs.lemmas.Bool.{cases_Bool, eqb-true, eq-eqb, and_parts, ltb-true, or_right}
use Rattle.std.proofs.lemmas.List.FromFn.{length-range_with_len, get_or-range_with_len}
use Rattle.std.proofs.lemmas.List.Elements.{All-nil, All-cons, All-head, All-tail, All-append, All-map, All-contains, Contains-get_or, Contains-append_left, Contains-append_right}
use Rattle.pm_model.specs.declared.action.Action.{Action}
use Rattle.image_layout.specs.Fixed.{lane_at, last_at, state_at, commit_word_at}
use Rattle.image_layout.specs.Places.{below}
use Rattle.image_layout.specs.Arrays.{capacity, place_of}
use Rattle.image_layout.specs.Tables.{all_columns, is_text}
use Rattle.image_layout.specs.Objects.{is_open, entry_places, open_commit, last_commit}
use Rattle.image_layout.specs.Trees.{dictionary_length}
use Rattle.image_layout.specs.Owners.{next_table_slots, next_text_slots}
use Rattle.image_layout.specs.EntryRules.{text_columns}
use Rattle.image_layout.specs.SoundRules.{zero_check, idle_rule, split_log_rule, closed_rule, spare_slots, spare_slot_rule, IsIntact, IsSound}
use Rattle.shown_state.proofs.Formatted.{first_segment, formatted, formatted_is_fresh}
use Rattle.mv_model.specs.State.{empty}
use Rattle.image_layout.specs.Fresh.{fresh_words}
use Rattle.image_layout.proofs.Heap.{Holds}
use Rattle.image_layout.proofs.Members.{below-Contains, Contains-below, Contains-here, Contains-there, flat_map-Contains, map-Contains, filter-Contains}
use Rattle.shown_state.specs.LogicalState.{logical_state}
use Rattle.pm_model.specs.Plans.{Part, store}
use Rattle.pm_model.specs.Needed.{is_there, is_stored_later, needed_stores, needed_parts, Mending}
use Rattle.shown_state.proofs.Sounds.{is_latest, intact_logs}
use Rattle.shown_state.specs.Mending.{lane_mending, at_column, split_parts, split_mending, free_table, slot_mending, free_text, text_mending, last_mending, undo_mending, close_mending, clear_mending, version_mending, mendings, mend, reached_by_opening}
use Rattle.shown_state.specs.OpeningLaws.{FormattedIsRecoverable, FormattedShowsNothing, SoundIsRecoverable, SoundIsRecovered}
use Rattle.shown_state.proofs.FormattedImage.{formatted_is_sound}
use Rattle.image_layout.specs.Records.{split_leaf_at, new_leaf_at, dictionary_header}
use Rattle.image_layout.proofs.SoundApart.{intact_apart}

formatted_nothing : (segments : ℕ) → logical_state (formatted segments) ≡ empty
unfolding logical_state first_segment
formatted_nothing segments = refl

pub formatted_shows_nothing : FormattedShowsNothing
formatted_shows_nothing segments some = ap logical_state (sym (formatted_is_fresh segments some)) ∙ formatted_nothing segments

-- a mending that stores nothing
abbrev IsIdle : List ℕ → Mending → Type 0
IsIdle words mending = needed_parts words (mending words) ≡ []

idle_mends : (words : List ℕ) (list : List Mending) → All (IsIdle words) list → mend list (record { words = words; stopped = false }) ≡ record { words = words; stopped = false }
idle_mends words [] idle = refl
idle_mends words (mending ∷ list) idle =
    let first = All-head (IsIdle words) mending list idle in
    rw first (idle_mends words list (All-tail (IsIdle words) mending list idle))

-- words that checks say are 0
zero_of : (words xs : List ℕ) → All Holds (map (zero_check words) xs) → (at : ℕ) → Contains xs at → get_or words at 0 ≡ 0
zero_of words xs checks at is = eqb-true (get_or words at 0) 0 (All-contains Holds (map (zero_check words) xs) (zero_check words at) checks (map-Contains (zero_check words) xs at is))

pub lane_is_idle : (words : List ℕ) → IsIntact words → (lane : ℕ) → lane < 16 → get_or words (lane_at lane 0) 0 ≡ 0
unfolding idle_rule
lane_is_idle words intact lane lt =
    eqb-true (get_or words (lane_at lane 0) 0) 0 (All-contains Holds (idle_rule words) (zero_check words (lane_at lane 0)) intact.idle.checks (map-Contains (λ l. zero_check words (lane_at l 0)) (below 16) lane (below-Contains 16 lane lt)))

pub log_is_empty : (words : List ℕ) → IsIntact words → (column : ℕ) → Contains (all_columns words) column → (get_or words (split_leaf_at column) 0 ≡ 0) × (get_or words (new_leaf_at column) 0 ≡ 0)
unfolding split_log_rule
log_is_empty words intact column is =
    let logs = λ (c : ℕ). split_leaf_at c ∷ new_leaf_at c ∷ [] in
    let both = λ (at : ℕ) (in_log : Contains (logs column) at). zero_of words (flat_map logs (all_columns words) ++ next_table_slots words) intact.split_logs.checks at (Contains-append_left (flat_map logs (all_columns words)) (next_table_slots words) at (flat_map-Contains logs (all_columns words) column at is in_log)) in (
      both (split_leaf_at column) (Contains-here (split_leaf_at column) (new_leaf_at column ∷ [])),
      both (new_leaf_at column) (Contains-there (split_leaf_at column) (new_leaf_at column) (new_leaf_at column ∷ []) (Contains-here (new_leaf_at column) [])),
    )

pub slot_is_null : (words : List ℕ) → IsIntact words → (at : ℕ) → Contains (next_table_slots words) at → get_or words at 0 ≡ 0
unfolding split_log_rule
slot_is_null words intact at is =
    let logs = λ (c : ℕ). split_leaf_at c ∷ new_leaf_at c ∷ [] in
    zero_of words (flat_map logs (all_columns words) ++ next_table_slots words) intact.split_logs.checks at (Contains-append_right (flat_map logs (all_columns words)) (next_table_slots words) at is)

pub object_is_closed : (words : List ℕ) → IsIntact words → (object at : ℕ) → object < 16 → Contains (state_at object ∷ commit_word_at object ∷ entry_places words object) at → get_or words at 0 ≡ 0
unfolding closed_rule
object_is_closed words intact object at lt is =
    let places = λ (o : ℕ). state_at o ∷ commit_word_at o ∷ entry_places words o in
    zero_of words (flat_map places (below 16)) intact.closed.checks at (flat_map-Contains places (below 16) object at (below-Contains 16 object lt) is)

pub not_open : (words : List ℕ) → IsIntact words → (object : ℕ) → object < 16 → is_open words object ≡ false
not_open words intact object lt = ap (λ state. eqb state 1) (object_is_closed words intact object (state_at object) lt (Contains-here (state_at object) (commit_word_at object ∷ entry_places words object)))

-- each number below one
all_below : (P : Mending → Type 0) (f : ℕ → Mending) (n : ℕ) → ((k : ℕ) → k < n → P (f k)) → All P (map f (below n))
all_below P f n each = All-map P f (below n) (λ k d lt. each (get_or (below n) k d) (Contains-below n (get_or (below n) k d) (Contains-get_or (below n) k d lt)))

lane_idle : (words : List ℕ) → IsIntact words → (lane : ℕ) → lane < 16 → IsIdle words (lane_mending lane)
lane_idle words intact lane lt = let e : get_or words (lane_at lane 0) 0 ≡ 0 = lane_is_idle words intact lane lt in rw e refl

-- what is done to a column where nothing is to be done to any
column_idle : (words : List ℕ) (parts : List ℕ → ℕ → List Part) → ((column : ℕ) → Contains (all_columns words) column → needed_parts words (parts words column) ≡ []) → (number : ℕ) → IsIdle words (at_column parts number)
column_idle words parts each number = cases (all_columns words) number each
  where
    cases : (columns : List ℕ) (number : ℕ) → ((column : ℕ) → Contains columns column → needed_parts words (parts words column) ≡ []) → needed_parts words (option_map_or (parts words) (slice_get columns number) []) ≡ []
    cases [] number each = refl
    cases (column ∷ columns) zero each = each column (Contains-here column columns)
    cases (column ∷ columns) (suc number) each = cases columns number (λ c is. each c (Contains-there column c columns is))

split_idle : (words : List ℕ) → IsIntact words → (number : ℕ) → IsIdle words (split_mending number)
split_idle words intact number =
    column_idle words (λ w column. split_parts w column (get_or w (split_leaf_at column) 0) (get_or w (new_leaf_at column) 0)) each number
  where
    each : (column : ℕ) → Contains (all_columns words) column → needed_parts words (split_parts words column (get_or words (split_leaf_at column) 0) (get_or words (new_leaf_at column) 0)) ≡ []
    each column is =
        let (leaf, new) = log_is_empty words intact column is in
        ap (λ w. needed_parts words (split_parts words column w (get_or words (new_leaf_at column) 0))) leaf ∙ ap (λ w. needed_parts words (split_parts words column 0 w)) new

-- nothing is made from places of which each gives nothing
nothing_made : (f : ℕ → List Part) (xs : List ℕ) → ((x : ℕ) → Contains xs x → f x ≡ []) → flat_map f xs ≡ []
nothing_made f [] each = refl
nothing_made f (x ∷ xs) each = ap (λ parts. parts ++ flat_map f xs) (each x (Contains-here x xs)) ∙ nothing_made f xs (λ y is. each y (Contains-there x y xs is))

slot_idle : (words : List ℕ) → IsIntact words → IsIdle words slot_mending
slot_idle words intact = ap (needed_parts words) (nothing_made (free_table words) (next_table_slots words) each)
  where
    each : (at : ℕ) → Contains (next_table_slots words) at → free_table words at ≡ []
    each at is = let e : get_or words at 0 ≡ 0 = slot_is_null words intact at is in rw e refl

text_idle : (words : List ℕ) → IsIntact words → (number : ℕ) → IsIdle words (text_mending number)
unfolding spare_slot_rule
text_idle words intact number = column_idle words (λ w column. flat_map (free_text w) (next_text_slots w column)) each number
  where
    spare : (column : ℕ) → Contains (all_columns words) column → is_text words column ≡ true → dictionary_length words column < capacity words (dictionary_header column) → get_or words (place_of words (dictionary_header column) (dictionary_length words column)) 0 ≡ 0
    spare column is text more =
        let size = dictionary_length words column in
        let room = capacity words (dictionary_header column) - size in
        let first : Contains (range_with_len size room) size = (0, omega (arith, length-range_with_len size room), omega (arith, get_or-range_with_len size room 0 size (omega arith))) in
        zero_of words (flat_map (spare_slots words) (text_columns words)) intact.spare_slots.checks (place_of words (dictionary_header column) size)
        (flat_map-Contains (spare_slots words) (text_columns words) column (place_of words (dictionary_header column) size)
        (filter-Contains (is_text words) (all_columns words) column is text)
        (map-Contains (place_of words (dictionary_header column)) (range_with_len size room) size first))

    each : (column : ℕ) → Contains (all_columns words) column → needed_parts words (flat_map (free_text words) (next_text_slots words column)) ≡ []
    each column is = ⊎_elim has (λ miss. rw miss refl) (cases_Bool (is_text words column && ltb (dictionary_length words column) (capacity words (dictionary_header column))))
      where
        has : (is_text words column && ltb (dictionary_length words column) (capacity words (dictionary_header column))) ≡ true → needed_parts words (flat_map (free_text words) (next_text_slots words column)) ≡ []
        has hit =
            let (text, more) = and_parts (is_text words column) (ltb (dictionary_length words column) (capacity words (dictionary_header column))) hit in
            let e : get_or words (place_of words (dictionary_header column) (dictionary_length words column)) 0 ≡ 0 = spare column is text (ltb-true (dictionary_length words column) (capacity words (dictionary_header column)) more) in
            rw hit (rw e refl)

-- the last number is that of the last commit
pub last_is : (words : List ℕ) → IsIntact words → last_commit words ≡ get_or words last_at 0
last_is words intact = zeros (below 16) (get_or words last_at 0) (λ object is. rw (not_open words intact object (Contains-below 16 object is)) refl)
  where
    zeros : (xs : List ℕ) (n : ℕ) → ((x : ℕ) → Contains xs x → open_commit words x ≡ 0) → fold max n (map (open_commit words) xs) ≡ n
    zeros [] n each = refl
    zeros (x ∷ xs) n each =
        ap (λ m. fold max m (map (open_commit words) xs)) (ap (max n) (each x (Contains-here x xs)) ∙ max_zero n) ∙ zeros xs n (λ y is. each y (Contains-there x y xs is))
      where
        max_zero : (n : ℕ) → max n 0 ≡ n
        max_zero n = omega arith

-- a part whose stores all leave their word as it is
kept_part : (words : List ℕ) (part : Part) → All (λ action. is_there words action ≡ true) part → needed_stores words part ≡ []
kept_part words [] kept = refl
kept_part words (action ∷ part) kept =
    let first = or_right (is_stored_later part action) (is_there words action) (All-head (λ a. is_there words a ≡ true) action part kept) in
    rw first (kept_part words part (All-tail (λ a. is_there words a ≡ true) action part kept))

last_idle : (words : List ℕ) → IsIntact words → IsIdle words last_mending
last_idle words intact =
    let kept : is_there words (store last_at (last_commit words)) ≡ true = eq-eqb (get_or words last_at 0) (last_commit words) (sym (last_is words intact)) in
    let e = kept_part words (store last_at (last_commit words) ∷ []) (All-cons (λ a. is_there words a ≡ true) (store last_at (last_commit words)) [] kept (All-nil (λ a. is_there words a ≡ true))) in
    rw e refl

undo_idle : (words : List ℕ) → IsIntact words → (object : ℕ) → object < 16 → IsIdle words (undo_mending object)
undo_idle words intact object lt = let e : is_open words object ≡ false = not_open words intact object lt in rw e refl

close_idle : (words : List ℕ) → IsIntact words → (object : ℕ) → object < 16 → IsIdle words (close_mending object)
close_idle words intact object lt = let e : is_open words object ≡ false = not_open words intact object lt in rw e refl

clear_idle : (words : List ℕ) → IsIntact words → (object : ℕ) → object < 16 → IsIdle words (clear_mending object)
clear_idle words intact object lt =
    let Kept : Action → Type 0 = λ a. is_there words a ≡ true in
    let places = entry_places words object in
    let entries = All-map Kept (λ at. store at 0) places (λ k d in_range. entry_kept (get_or places k d) (Contains-get_or places k d in_range)) in
    let e = kept_part words (map (λ at. store at 0) places ++ store (commit_word_at object) 0 ∷ [])
    (All-append Kept (map (λ at. store at 0) places) (store (commit_word_at object) 0 ∷ []) entries (All-cons Kept (store (commit_word_at object) 0) [] word_kept (All-nil Kept))) in
    rw e refl
  where
    word_kept : is_there words (store (commit_word_at object) 0) ≡ true
    word_kept =
        let places = entry_places words object in
        eq-eqb (get_or words (commit_word_at object) 0) 0 (object_is_closed words intact object (commit_word_at object) lt
        (Contains-there (state_at object) (commit_word_at object) (commit_word_at object ∷ places) (Contains-here (commit_word_at object) places)))

    entry_kept : (at : ℕ) → Contains (entry_places words object) at → is_there words (store at 0) ≡ true
    entry_kept at is =
        let places = entry_places words object in
        eq-eqb (get_or words at 0) 0 (object_is_closed words intact object at lt
        (Contains-there (state_at object) at (commit_word_at object ∷ places) (Contains-there (commit_word_at object) at places is)))

version_idle : (words : List ℕ) → IsSound words → IsIdle words version_mending
version_idle words sound = let e = is_latest words sound in rw e refl

all_idle : (words : List ℕ) → IsSound words → All (IsIdle words) mendings
all_idle words sound =
    let P = IsIdle words in
    let lanes = map lane_mending (below 16) in
    let splits = map split_mending (below 512) in
    let texts = map text_mending (below 512) in
    let undos = map undo_mending (below 16) in
    let closes = map close_mending (below 16) in
    let clears = map clear_mending (below 16) in
    let one : List Mending = slot_mending ∷ [] in
    let last : List Mending = last_mending ∷ [] in
    let version : List Mending = version_mending ∷ [] in
    All-append P (lanes ++ splits ++ one ++ texts ++ last ++ undos ++ closes ++ clears) version
    (All-append P (lanes ++ splits ++ one ++ texts ++ last ++ undos ++ closes) clears
    (All-append P (lanes ++ splits ++ one ++ texts ++ last ++ undos) closes
    (All-append P (lanes ++ splits ++ one ++ texts ++ last) undos
    (All-append P (lanes ++ splits ++ one ++ texts) last
    (All-append P (lanes ++ splits ++ one) texts
    (All-append P (lanes ++ splits) one
    (All-append P lanes splits (all_below P lane_mending 16 (lane_idle words sound.intact)) (all_below P split_mending 512 (λ k lt. split_idle words sound.intact k)))
    (All-cons P slot_mending [] (slot_idle words sound.intact) (All-nil P)))
    (all_below P text_mending 512 (λ k lt. text_idle words sound.intact k)))
    (All-cons P last_mending [] (last_idle words sound.intact) (All-nil P)))
    (all_below P undo_mending 16 (undo_idle words sound.intact)))
    (all_below P close_mending 16 (close_idle words sound.intact)))
    (all_below P clear_mending 16 (clear_idle words sound.intact)))
    (All-cons P version_mending [] (version_idle words sound) (All-nil P))

pub sound_is_recovered : SoundIsRecovered
unfolding reached_by_opening
sound_is_recovered words sound = ap (λ reached. reached.words) (idle_mends words mendings (all_idle words sound))

pub sound_is_recoverable : SoundIsRecoverable
sound_is_recoverable words sound =
    let same = sound_is_recovered words sound in
    let S : List ℕ → Type 0 = λ w. IsSound w in
    record { entry = sound.intact.entry; sound = subst S (sym same) sound; shown = ap logical_state same; apart = intact_apart words sound.intact; logs = intact_logs words sound.intact }

pub formatted_is_recoverable : FormattedIsRecoverable
formatted_is_recoverable segments some = sound_is_recoverable (fresh_words segments) (formatted_is_sound segments some)
