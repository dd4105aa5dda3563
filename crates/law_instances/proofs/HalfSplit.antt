-- The images with a split that is about to link: their openings end sound, and their logs don't fit.
use Rattle.std.specs.Prelude.{All, AllPairs, Contains, IsTrue, take}
use Rattle.std.specs.List.{range_with_len}
use Rattle.std.proofs.lemmas.List.Kept.{AllPairs-cons}
use Rattle.std.proofs.lemmas.List.Elements.{All-contains, All-cons, All-nil}
use Rattle.std.proofs.Common.{◌≡◌, ◌≢◌, ◌⊎◌, inl, inr, ap, ◌∙◌, get_or, ℕ, suc, false, true, List, [], ◌∷◌, ◌++◌, length, map, refl, set, sym, subst, arith, ⊎_elim}
use Rattle.image_layout.specs.EntryRules.{KeepsEntryRules, arrays_rule, entries_rule, extension_checks, last_rule, magic_rule, name_checks, name_rule, object_rule, objects_rule, since_checks, table_count_rule, table_slot_rule, text_key_checks, text_key_rule, tree_checks, tree_rule, version_rule}
use Rattle.image_layout.specs.HeapRules.{bitmap_rule, descriptor_rule, lane_rule, reserved_rule}
use Rattle.image_layout.specs.SoundRules.{IsSound, closed_rule, code_rule, column_slots, distinct_name_rule, fingerprint_checks, fingerprint_rule, given_back_rule, idle_rule, latest_version_rule, order_rule, owned_rule, owner_rule, row_code_rule, single_owner_rule, spare_slot_rule, split_log_rule, stamp_checks, stamp_rule, text_checks, text_rule}
use Rattle.image_layout.specs.Arrays.{array_rule, chunk_of}
use Rattle.image_layout.specs.Blocks.{blocks_of_page, is_inside}
use Rattle.image_layout.specs.Fixed.{lane_op_at}
use Rattle.image_layout.specs.Objects.{entry_places}
use Rattle.image_layout.specs.Owners.{busy_lanes, column_owners, extension_owners, firm_owners, IsNullOrLive, lane_block, lane_owner, lane_targets, NameApart, names_one, Owner, owner_places, owner_words, OwnersAreApart, owns_block, unfinished_slots}
use Rattle.image_layout.specs.Places.{below, place_in}
use Rattle.image_layout.specs.Pointer.{pointer_word}
use Rattle.image_layout.specs.Records.{next_leaf_at}
use Rattle.image_layout.specs.Tables.{all_columns, column_record, inner_columns}
use Rattle.image_layout.specs.Trees.{dictionary_length, is_about_to_link, key_below, key_fingerprint, leaf_list, leaf_pairs, leaves_from, pairs, text_at}
use Rattle.image_layout.proofs.Faults.{all_hold}
use Rattle.image_layout.proofs.Members.{Contains-cons, Contains-here, Contains-nil}
use Rattle.pm_model.specs.Device.{IsCrashImage}
use Rattle.pm_model.specs.Needed.{Mending}
use Rattle.pm_model.specs.Plans.{at_rest, run, store}
use Rattle.pm_model.specs.declared.action.Action.{Action}
use Rattle.shown_state.specs.LogicalState.{logical_state, name_at}
use Rattle.shown_state.specs.Logs.{LaneFits, LogsFit, new_leaf, split_leaf, SplitFits}
use Rattle.shown_state.specs.Mending.{clear_mending, close_mending, lane_mending, last_mending, mend, mend_unless, Reached, reached_by_opening, recovered, slot_mending, split_mending, text_mending, undo_mending, version_mending}
use Rattle.shown_state.specs.OpeningParts.{opening_parts, opening_plan}
use Rattle.shown_state.proofs.Opening.{sound_is_recovered}
use Rattle.law_instances.specs.TwoLanes.{IsRecoveredAlone}
use Rattle.law_instances.specs.HalfSplit.{freed_leaf_cut, freed_leaf_end, freed_leaf_idle, freed_leaf_image, half_split, loose_leaf_cut, loose_leaf_end, loose_leaf_image}

-- ── their owner words ──

abbrev three : List Owner
three = record { at = 520; block_words = 128 } ∷ record { at = 2100; block_words = 128 } ∷ record { at = 2102; block_words = 128 } ∷ []

abbrev four : List ℕ
four = 520 ∷ 2100 ∷ 2102 ∷ 521 ∷ []

-- the table's slot, the first leaf's pointer, the new leaf's, and the next table slot, which is null
record NamesOfTree (words : List ℕ) : Type 0 where
  owners : firm_owners words ≡ three
  slots : unfinished_slots words ≡ 521 ∷ []
  table : get_or words 520 0 ≡ pointer_word 2056
  first : get_or words 2100 0 ≡ pointer_word 2184
  new : get_or words 2102 0 ≡ pointer_word 2312
  next : get_or words 521 0 ≡ 0
  owns_table : owns_block words (record { at = 520; block_words = 128 }) ≡ true
  owns_first : owns_block words (record { at = 2100; block_words = 128 }) ≡ true
  owns_new : owns_block words (record { at = 2102; block_words = 128 }) ≡ true

places_are : (words : List ℕ) → NamesOfTree words → owner_places words ≡ four
places_are words names =
    ap (λ (owners : List Owner). map (λ owner. owner.at) owners ++ unfinished_slots words) names.owners
    ∙ ap (λ (slots : List ℕ). 520 ∷ 2100 ∷ 2102 ∷ slots) names.slots

-- what holds of all four owner words
at_each : (words : List ℕ) → NamesOfTree words → (P : ℕ → Type 0) → P 520 → P 2100 → P 2102 → P 521 → All P (owner_places words)
at_each words names P one two three four = subst (All P) (sym (places_are words names)) (All-cons P 520 (2100 ∷ 2102 ∷ 521 ∷ []) one (All-cons P 2100 (2102 ∷ 521 ∷ []) two (All-cons P 2102 (521 ∷ []) three (All-cons P 521 [] four (All-nil P)))))

firm_of : (words : List ℕ) → NamesOfTree words → All (λ owner. IsTrue (names_one words owner) → IsTrue (owns_block words owner)) (firm_owners words)
firm_of words names = subst (All Firm) (sym names.owners)
    (All-cons Firm (record { at = 520; block_words = 128 }) (record { at = 2100; block_words = 128 } ∷ record { at = 2102; block_words = 128 } ∷ []) (λ some. names.owns_table)
    (All-cons Firm (record { at = 2100; block_words = 128 }) (record { at = 2102; block_words = 128 } ∷ []) (λ some. names.owns_first)
    (All-cons Firm (record { at = 2102; block_words = 128 }) [] (λ some. names.owns_new) (All-nil Firm))))
  where
    Firm : Owner → Type 0
    Firm owner = IsTrue (names_one words owner) → IsTrue (owns_block words owner)

slots_of : (words : List ℕ) → NamesOfTree words → All (IsNullOrLive words) (unfinished_slots words)
slots_of words names = subst (All (IsNullOrLive words)) (sym names.slots) (All-cons (IsNullOrLive words) 521 [] (λ some. absurd (some names.next)) (All-nil (IsNullOrLive words)))

differ : (words : List ℕ) (at other one two : ℕ) → get_or words at 0 ≡ one → get_or words other 0 ≡ two → place_in one ≢ place_in two → NameApart words at other
differ words at other one two is are apart some others free same = apart (sym (ap place_in is) ∙ same ∙ ap place_in are)

null : (words : List ℕ) (at : ℕ) → NamesOfTree words → NameApart words at 521
null words at names some others free same = others names.next

apart_of : (words : List ℕ) → NamesOfTree words → AllPairs (NameApart words) (owner_places words)
apart_of words names = subst (AllPairs R) (sym (places_are words names))
    (AllPairs-cons R 520 (2100 ∷ 2102 ∷ 521 ∷ [])
    (All-cons (R 520) 2100 (2102 ∷ 521 ∷ []) (differ words 520 2100 (pointer_word 2056) (pointer_word 2184) names.table names.first (λ e. omega (arith, e)))
    (All-cons (R 520) 2102 (521 ∷ []) (differ words 520 2102 (pointer_word 2056) (pointer_word 2312) names.table names.new (λ e. omega (arith, e)))
    (All-cons (R 520) 521 [] (null words 520 names) (All-nil (R 520)))))
    (AllPairs-cons R 2100 (2102 ∷ 521 ∷ [])
    (All-cons (R 2100) 2102 (521 ∷ []) (differ words 2100 2102 (pointer_word 2184) (pointer_word 2312) names.first names.new (λ e. omega (arith, e)))
    (All-cons (R 2100) 521 [] (null words 2100 names) (All-nil (R 2100))))
    (AllPairs-cons R 2102 (521 ∷ []) (All-cons (R 2102) 521 [] (null words 2102 names) (All-nil (R 2102)))
    (AllPairs-cons R 521 [] (All-nil (R 521)) (λ i j d order lt. absurd (omega (arith, lt)))))))
  where
    R : ℕ → ℕ → Type 0
    R = NameApart words

-- ── how they are opened ──

-- mendings of one list and then of another
mend_both : (first later : List Mending) (reached : Reached) → mend (first ++ later) reached ≡ mend later (mend first reached)
mend_both [] later reached = refl
mend_both (mending ∷ first) later reached = mend_both first later (mend_unless reached.stopped reached.words mending)

abbrev lanes : List Mending
lanes = map lane_mending (below 16)

abbrev behind : List Mending
behind =
    slot_mending ∷ [] ++ map text_mending (below 512) ++ last_mending ∷ []
    ++ map undo_mending (below 16) ++ map close_mending (below 16) ++ map clear_mending (below 16) ++ version_mending ∷ []

abbrev first_split : Reached → Reached
first_split reached = mend (split_mending 0 ∷ []) reached

splits_on : (more : ℕ) (reached : Reached) → mend (map split_mending (below (suc more)) ++ behind) reached
    ≡ mend (map split_mending (range_with_len 1 more) ++ behind) (first_split reached)
splits_on more reached = refl

abbrev at_start : List ℕ → Reached
at_start words = record { words = words; stopped = false }

-- Opening ends where the lanes and the first split do, if that image is sound.
record EndsAt (image idle end : List ℕ) : Type 0 where
  lanes_mended : mend lanes (at_start image) ≡ at_start idle
  split_mended : first_split (at_start idle) ≡ at_start end
  lanes_idle : mend lanes (at_start end) ≡ at_start end
  split_closed : first_split (at_start end) ≡ at_start end
  sound : IsSound end

goes_to : (image idle end : List ℕ) → mend lanes (at_start image) ≡ at_start idle → first_split (at_start idle) ≡ at_start end
    → recovered image ≡ (mend (map split_mending (range_with_len 1 511) ++ behind) (at_start end)).words
unfolding reached_by_opening
goes_to image idle end lanes_mended split_mended =
    ap (λ (reached : Reached). reached.words) (mend_both lanes (map split_mending (below 512) ++ behind) (at_start image))
    ∙ ap (λ (reached : Reached). (mend (map split_mending (below 512) ++ behind) reached).words) lanes_mended
    ∙ ap (λ (reached : Reached). reached.words) (splits_on 511 (at_start idle))
    ∙ ap (λ (reached : Reached). (mend (map split_mending (range_with_len 1 511) ++ behind) reached).words) split_mended

ends_at : (image idle end : List ℕ) → EndsAt image idle end → recovered image ≡ end
ends_at image idle end ends =
    goes_to image idle end ends.lanes_mended ends.split_mended
    ∙ sym (goes_to end end end ends.lanes_idle ends.split_closed)
    ∙ sound_is_recovered end ends.sound

-- ── the new leaf is being freed ──

freed_leaf_keeps : KeepsEntryRules freed_leaf_image
unfolding half_split extension_checks table_slot_rule arrays_rule tree_checks tree_rule name_checks since_checks name_rule text_key_checks text_key_rule object_rule objects_rule entries_rule reserved_rule descriptor_rule bitmap_rule lane_rule idle_rule split_log_rule closed_rule owner_rule single_owner_rule owned_rule order_rule fingerprint_checks fingerprint_rule column_slots code_rule text_checks text_rule spare_slot_rule stamp_checks stamp_rule row_code_rule given_back_rule distinct_name_rule latest_version_rule chunk_of array_rule is_inside blocks_of_page entry_places column_owners extension_owners owner_words inner_columns column_record leaves_from leaf_list leaf_pairs text_at key_below pairs key_fingerprint
freed_leaf_keeps = record {
  magic = record { checks = all_hold (magic_rule freed_leaf_image) refl };
  version = record { checks = all_hold (version_rule freed_leaf_image) refl };
  last = record { checks = all_hold (last_rule freed_leaf_image) refl };
  table_count = record { checks = all_hold (table_count_rule freed_leaf_image) refl };
  reserved = record { checks = all_hold (reserved_rule freed_leaf_image) refl };
  descriptors = record { checks = all_hold (descriptor_rule freed_leaf_image) refl };
  bitmaps = record { checks = all_hold (bitmap_rule freed_leaf_image) refl };
  lanes = record { checks = all_hold (lane_rule freed_leaf_image) refl };
  table_slots = record { checks = all_hold (table_slot_rule freed_leaf_image) refl };
  arrays = record { checks = all_hold (arrays_rule freed_leaf_image) refl };
  trees = record { checks = all_hold (tree_rule freed_leaf_image) refl };
  names = record { checks = all_hold (name_rule freed_leaf_image) refl };
  text_keys = record { checks = all_hold (text_key_rule freed_leaf_image) refl };
  objects = record { checks = all_hold (objects_rule freed_leaf_image) refl };
  entries = record { checks = all_hold (entries_rule freed_leaf_image) refl };
}

freed_leaf_end_keeps : KeepsEntryRules freed_leaf_end
unfolding half_split extension_checks table_slot_rule arrays_rule tree_checks tree_rule name_checks since_checks name_rule text_key_checks text_key_rule object_rule objects_rule entries_rule reserved_rule descriptor_rule bitmap_rule lane_rule idle_rule split_log_rule closed_rule owner_rule single_owner_rule owned_rule order_rule fingerprint_checks fingerprint_rule column_slots code_rule text_checks text_rule spare_slot_rule stamp_checks stamp_rule row_code_rule given_back_rule distinct_name_rule latest_version_rule chunk_of array_rule is_inside blocks_of_page entry_places column_owners extension_owners owner_words inner_columns column_record leaves_from leaf_list leaf_pairs text_at key_below pairs key_fingerprint
freed_leaf_end_keeps = record {
  magic = record { checks = all_hold (magic_rule freed_leaf_end) refl };
  version = record { checks = all_hold (version_rule freed_leaf_end) refl };
  last = record { checks = all_hold (last_rule freed_leaf_end) refl };
  table_count = record { checks = all_hold (table_count_rule freed_leaf_end) refl };
  reserved = record { checks = all_hold (reserved_rule freed_leaf_end) refl };
  descriptors = record { checks = all_hold (descriptor_rule freed_leaf_end) refl };
  bitmaps = record { checks = all_hold (bitmap_rule freed_leaf_end) refl };
  lanes = record { checks = all_hold (lane_rule freed_leaf_end) refl };
  table_slots = record { checks = all_hold (table_slot_rule freed_leaf_end) refl };
  arrays = record { checks = all_hold (arrays_rule freed_leaf_end) refl };
  trees = record { checks = all_hold (tree_rule freed_leaf_end) refl };
  names = record { checks = all_hold (name_rule freed_leaf_end) refl };
  text_keys = record { checks = all_hold (text_key_rule freed_leaf_end) refl };
  objects = record { checks = all_hold (objects_rule freed_leaf_end) refl };
  entries = record { checks = all_hold (entries_rule freed_leaf_end) refl };
}

freed_leaf_end_is_sound : IsSound freed_leaf_end
unfolding half_split extension_checks table_slot_rule arrays_rule tree_checks tree_rule name_checks since_checks name_rule text_key_checks text_key_rule object_rule objects_rule entries_rule reserved_rule descriptor_rule bitmap_rule lane_rule idle_rule split_log_rule closed_rule owner_rule single_owner_rule owned_rule order_rule fingerprint_checks fingerprint_rule column_slots code_rule text_checks text_rule spare_slot_rule stamp_checks stamp_rule row_code_rule given_back_rule distinct_name_rule latest_version_rule chunk_of array_rule is_inside blocks_of_page entry_places column_owners extension_owners owner_words inner_columns column_record leaves_from leaf_list leaf_pairs text_at key_below pairs key_fingerprint
freed_leaf_end_is_sound = record {
  intact = record {
    entry = freed_leaf_end_keeps;
    idle = record { checks = all_hold (idle_rule freed_leaf_end) refl };
    split_logs = record { checks = all_hold (split_log_rule freed_leaf_end) refl };
    closed = record { checks = all_hold (closed_rule freed_leaf_end) refl };
    owners = record { checks = all_hold (owner_rule freed_leaf_end) refl };
    single_owners = record { checks = all_hold (single_owner_rule freed_leaf_end) refl };
    owned = record { checks = all_hold (owned_rule freed_leaf_end) refl };
    order = record { checks = all_hold (order_rule freed_leaf_end) refl };
    fingerprints = record { checks = all_hold (fingerprint_rule freed_leaf_end) refl };
    codes = record { checks = all_hold (code_rule freed_leaf_end) refl };
    texts = record { checks = all_hold (text_rule freed_leaf_end) refl };
    spare_slots = record { checks = all_hold (spare_slot_rule freed_leaf_end) refl };
    stamps = record { checks = all_hold (stamp_rule freed_leaf_end) refl };
    row_codes = record { checks = all_hold (row_code_rule freed_leaf_end) refl };
    given_back = record { checks = all_hold (given_back_rule freed_leaf_end) refl };
    names = record { checks = all_hold (distinct_name_rule freed_leaf_end) refl };
  };
  latest = record { checks = all_hold (latest_version_rule freed_leaf_end) refl };
}

freed_leaf_owners : firm_owners freed_leaf_image ≡ three
unfolding half_split extension_checks table_slot_rule arrays_rule tree_checks tree_rule name_checks since_checks name_rule text_key_checks text_key_rule object_rule objects_rule entries_rule reserved_rule descriptor_rule bitmap_rule lane_rule idle_rule split_log_rule closed_rule owner_rule single_owner_rule owned_rule order_rule fingerprint_checks fingerprint_rule column_slots code_rule text_checks text_rule spare_slot_rule stamp_checks stamp_rule row_code_rule given_back_rule distinct_name_rule latest_version_rule chunk_of array_rule is_inside blocks_of_page entry_places column_owners extension_owners owner_words inner_columns column_record leaves_from leaf_list leaf_pairs text_at key_below pairs key_fingerprint
freed_leaf_owners = refl

freed_leaf_names : NamesOfTree freed_leaf_image
unfolding half_split extension_checks table_slot_rule arrays_rule tree_checks tree_rule name_checks since_checks name_rule text_key_checks text_key_rule object_rule objects_rule entries_rule reserved_rule descriptor_rule bitmap_rule lane_rule idle_rule split_log_rule closed_rule owner_rule single_owner_rule owned_rule order_rule fingerprint_checks fingerprint_rule column_slots code_rule text_checks text_rule spare_slot_rule stamp_checks stamp_rule row_code_rule given_back_rule distinct_name_rule latest_version_rule chunk_of array_rule is_inside blocks_of_page entry_places column_owners extension_owners owner_words inner_columns column_record leaves_from leaf_list leaf_pairs text_at key_below pairs key_fingerprint
freed_leaf_names = record {
  owners = freed_leaf_owners;
  slots = refl;
  table = refl;
  first = refl;
  new = refl;
  next = refl;
  owns_table = refl;
  owns_first = refl;
  owns_new = refl;
}

freed_leaf_shows : logical_state freed_leaf_end ≡ logical_state freed_leaf_image
unfolding half_split extension_checks table_slot_rule arrays_rule tree_checks tree_rule name_checks since_checks name_rule text_key_checks text_key_rule object_rule objects_rule entries_rule reserved_rule descriptor_rule bitmap_rule lane_rule idle_rule split_log_rule closed_rule owner_rule single_owner_rule owned_rule order_rule fingerprint_checks fingerprint_rule column_slots code_rule text_checks text_rule spare_slot_rule stamp_checks stamp_rule row_code_rule given_back_rule distinct_name_rule latest_version_rule chunk_of array_rule is_inside blocks_of_page entry_places column_owners extension_owners owner_words inner_columns column_record leaves_from leaf_list leaf_pairs text_at key_below pairs key_fingerprint logical_state name_at
freed_leaf_shows = refl

freed_leaf_first : take 1 (opening_plan freed_leaf_image) ≡ store 2102 0 ∷ []
unfolding half_split extension_checks table_slot_rule arrays_rule tree_checks tree_rule name_checks since_checks name_rule text_key_checks text_key_rule object_rule objects_rule entries_rule reserved_rule descriptor_rule bitmap_rule lane_rule idle_rule split_log_rule closed_rule owner_rule single_owner_rule owned_rule order_rule fingerprint_checks fingerprint_rule column_slots code_rule text_checks text_rule spare_slot_rule stamp_checks stamp_rule row_code_rule given_back_rule distinct_name_rule latest_version_rule chunk_of array_rule is_inside blocks_of_page entry_places column_owners extension_owners owner_words inner_columns column_record leaves_from leaf_list leaf_pairs text_at key_below pairs key_fingerprint opening_parts
freed_leaf_first = refl

freed_leaf_cut_is : set freed_leaf_image 2102 0 ≡ freed_leaf_cut
unfolding half_split
freed_leaf_cut_is = refl

freed_leaf_cut_size : length freed_leaf_cut ≡ length freed_leaf_image
unfolding half_split
freed_leaf_cut_size = refl

pub freed_leaf_cut_left : IsCrashImage (run 0 (take 1 (opening_plan freed_leaf_image)) (at_rest freed_leaf_image)) freed_leaf_cut
freed_leaf_cut_left = subst (λ (actions : List Action). IsCrashImage (run 0 actions (at_rest freed_leaf_image)) freed_leaf_cut) (sym freed_leaf_first)
    (record { size = freed_leaf_cut_size; each = λ w. inr (ap (λ (words : List ℕ). get_or words w 0) (sym freed_leaf_cut_is)) })

freed_leaf_ends : EndsAt freed_leaf_image freed_leaf_idle freed_leaf_end
unfolding half_split extension_checks table_slot_rule arrays_rule tree_checks tree_rule name_checks since_checks name_rule text_key_checks text_key_rule object_rule objects_rule entries_rule reserved_rule descriptor_rule bitmap_rule lane_rule idle_rule split_log_rule closed_rule owner_rule single_owner_rule owned_rule order_rule fingerprint_checks fingerprint_rule column_slots code_rule text_checks text_rule spare_slot_rule stamp_checks stamp_rule row_code_rule given_back_rule distinct_name_rule latest_version_rule chunk_of array_rule is_inside blocks_of_page entry_places column_owners extension_owners owner_words inner_columns column_record leaves_from leaf_list leaf_pairs text_at key_below pairs key_fingerprint
freed_leaf_ends = record { lanes_mended = refl; split_mended = refl; lanes_idle = refl; split_closed = refl; sound = freed_leaf_end_is_sound }

busy_are : busy_lanes freed_leaf_image ≡ 1 ∷ []
unfolding half_split
busy_are = refl

owner_is : lane_owner freed_leaf_image 1 ≡ 2102
unfolding half_split
owner_is = refl

block_is : lane_block freed_leaf_image 1 ≡ pointer_word 2312
unfolding half_split
block_is = refl

op_is : get_or freed_leaf_image (lane_op_at 1) 0 ≡ 2
unfolding half_split
op_is = refl

is_target : Contains (lane_targets freed_leaf_image) 2102
unfolding half_split extension_checks table_slot_rule arrays_rule tree_checks tree_rule name_checks since_checks name_rule text_key_checks text_key_rule object_rule objects_rule entries_rule reserved_rule descriptor_rule bitmap_rule lane_rule idle_rule split_log_rule closed_rule owner_rule single_owner_rule owned_rule order_rule fingerprint_checks fingerprint_rule column_slots code_rule text_checks text_rule spare_slot_rule stamp_checks stamp_rule row_code_rule given_back_rule distinct_name_rule latest_version_rule chunk_of array_rule is_inside blocks_of_page entry_places column_owners extension_owners owner_words inner_columns column_record leaves_from leaf_list leaf_pairs text_at key_below pairs key_fingerprint
is_target = (5, omega arith, refl)

-- what holds of the lane at work
of_lane : (P : ℕ → Type 0) → P 1 → All P (busy_lanes freed_leaf_image)
of_lane P holds = subst (All P) (sym busy_are) (All-cons P 1 [] holds (All-nil P))

freed_leaf_apart : OwnersAreApart freed_leaf_image
freed_leaf_apart = record {
  firm = firm_of freed_leaf_image freed_leaf_names;
  unfinished = slots_of freed_leaf_image freed_leaf_names;
  apart = apart_of freed_leaf_image freed_leaf_names;
  targets = of_lane (λ lane. Contains (lane_targets freed_leaf_image) (lane_owner freed_leaf_image lane)) (subst (Contains (lane_targets freed_leaf_image)) (sym owner_is) is_target);
  lanes = subst (AllPairs Differ) (sym busy_are) (AllPairs-cons Differ 1 [] (All-nil (Differ 1)) (λ i j d order lt. absurd (omega (arith, lt))));
  alone = of_lane (λ lane. All (Alone lane) (owner_places freed_leaf_image))
      (at_each freed_leaf_image freed_leaf_names (Alone 1)
      (inr (λ same. let word = freed_leaf_names.table in let block = block_is in omega (arith, word, block, same)))
      (inr (λ same. let word = freed_leaf_names.first in let block = block_is in omega (arith, word, block, same)))
      (inl (sym owner_is))
      (inr (λ same. let word = freed_leaf_names.next in let block = block_is in omega (arith, word, block, same))));
}
  where
    Differ : ℕ → ℕ → Type 0
    Differ lane other = lane_owner freed_leaf_image lane ≢ lane_owner freed_leaf_image other

    Alone : ℕ → ℕ → Type 0
    Alone lane at = (at ≡ lane_owner freed_leaf_image lane) ⊎ (get_or freed_leaf_image at 0 ≢ lane_block freed_leaf_image lane)

pub freed_leaf_recovers : IsRecoveredAlone freed_leaf_image
freed_leaf_recovers = record {
  entry = freed_leaf_keeps;
  sound = subst IsSound (sym (ends_at freed_leaf_image freed_leaf_idle freed_leaf_end freed_leaf_ends)) freed_leaf_end_is_sound;
  shown = ap logical_state (ends_at freed_leaf_image freed_leaf_idle freed_leaf_end freed_leaf_ends) ∙ freed_leaf_shows;
  apart = freed_leaf_apart;
}

pub freed_leaf_falls : (dictionary_length freed_leaf_image 2096 ≡ 1) × (dictionary_length freed_leaf_cut 2096 ≡ 0)
unfolding half_split extension_checks table_slot_rule arrays_rule tree_checks tree_rule name_checks since_checks name_rule text_key_checks text_key_rule object_rule objects_rule entries_rule reserved_rule descriptor_rule bitmap_rule lane_rule idle_rule split_log_rule closed_rule owner_rule single_owner_rule owned_rule order_rule fingerprint_checks fingerprint_rule column_slots code_rule text_checks text_rule spare_slot_rule stamp_checks stamp_rule row_code_rule given_back_rule distinct_name_rule latest_version_rule chunk_of array_rule is_inside blocks_of_page entry_places column_owners extension_owners owner_words inner_columns column_record leaves_from leaf_list leaf_pairs text_at key_below pairs key_fingerprint
freed_leaf_falls = (refl, refl)

pub freed_leaf_misfits : LogsFit freed_leaf_image → ⊥
freed_leaf_misfits logs =
    let fit = All-contains (LaneFits freed_leaf_image) (busy_lanes freed_leaf_image) 1 logs.lanes (subst (λ (lanes : List ℕ). Contains lanes 1) (sym busy_are) (Contains-here 1 [])) in
    ⊎_elim (λ (here : 521 ≡ lane_owner freed_leaf_image 1). let owner = owner_is in omega (arith, here, owner)) (λ other. Contains-nil (lane_owner freed_leaf_image 1) other)
    (Contains-cons 521 (lane_owner freed_leaf_image 1) [] (subst (λ (slots : List ℕ). Contains slots (lane_owner freed_leaf_image 1)) freed_leaf_names.slots (fit.frees op_is)))

-- ── the new leaf goes on to one that nobody owns ──

loose_leaf_keeps : KeepsEntryRules loose_leaf_image
unfolding half_split extension_checks table_slot_rule arrays_rule tree_checks tree_rule name_checks since_checks name_rule text_key_checks text_key_rule object_rule objects_rule entries_rule reserved_rule descriptor_rule bitmap_rule lane_rule idle_rule split_log_rule closed_rule owner_rule single_owner_rule owned_rule order_rule fingerprint_checks fingerprint_rule column_slots code_rule text_checks text_rule spare_slot_rule stamp_checks stamp_rule row_code_rule given_back_rule distinct_name_rule latest_version_rule chunk_of array_rule is_inside blocks_of_page entry_places column_owners extension_owners owner_words inner_columns column_record leaves_from leaf_list leaf_pairs text_at key_below pairs key_fingerprint
loose_leaf_keeps = record {
  magic = record { checks = all_hold (magic_rule loose_leaf_image) refl };
  version = record { checks = all_hold (version_rule loose_leaf_image) refl };
  last = record { checks = all_hold (last_rule loose_leaf_image) refl };
  table_count = record { checks = all_hold (table_count_rule loose_leaf_image) refl };
  reserved = record { checks = all_hold (reserved_rule loose_leaf_image) refl };
  descriptors = record { checks = all_hold (descriptor_rule loose_leaf_image) refl };
  bitmaps = record { checks = all_hold (bitmap_rule loose_leaf_image) refl };
  lanes = record { checks = all_hold (lane_rule loose_leaf_image) refl };
  table_slots = record { checks = all_hold (table_slot_rule loose_leaf_image) refl };
  arrays = record { checks = all_hold (arrays_rule loose_leaf_image) refl };
  trees = record { checks = all_hold (tree_rule loose_leaf_image) refl };
  names = record { checks = all_hold (name_rule loose_leaf_image) refl };
  text_keys = record { checks = all_hold (text_key_rule loose_leaf_image) refl };
  objects = record { checks = all_hold (objects_rule loose_leaf_image) refl };
  entries = record { checks = all_hold (entries_rule loose_leaf_image) refl };
}

loose_leaf_end_keeps : KeepsEntryRules loose_leaf_end
unfolding half_split extension_checks table_slot_rule arrays_rule tree_checks tree_rule name_checks since_checks name_rule text_key_checks text_key_rule object_rule objects_rule entries_rule reserved_rule descriptor_rule bitmap_rule lane_rule idle_rule split_log_rule closed_rule owner_rule single_owner_rule owned_rule order_rule fingerprint_checks fingerprint_rule column_slots code_rule text_checks text_rule spare_slot_rule stamp_checks stamp_rule row_code_rule given_back_rule distinct_name_rule latest_version_rule chunk_of array_rule is_inside blocks_of_page entry_places column_owners extension_owners owner_words inner_columns column_record leaves_from leaf_list leaf_pairs text_at key_below pairs key_fingerprint
loose_leaf_end_keeps = record {
  magic = record { checks = all_hold (magic_rule loose_leaf_end) refl };
  version = record { checks = all_hold (version_rule loose_leaf_end) refl };
  last = record { checks = all_hold (last_rule loose_leaf_end) refl };
  table_count = record { checks = all_hold (table_count_rule loose_leaf_end) refl };
  reserved = record { checks = all_hold (reserved_rule loose_leaf_end) refl };
  descriptors = record { checks = all_hold (descriptor_rule loose_leaf_end) refl };
  bitmaps = record { checks = all_hold (bitmap_rule loose_leaf_end) refl };
  lanes = record { checks = all_hold (lane_rule loose_leaf_end) refl };
  table_slots = record { checks = all_hold (table_slot_rule loose_leaf_end) refl };
  arrays = record { checks = all_hold (arrays_rule loose_leaf_end) refl };
  trees = record { checks = all_hold (tree_rule loose_leaf_end) refl };
  names = record { checks = all_hold (name_rule loose_leaf_end) refl };
  text_keys = record { checks = all_hold (text_key_rule loose_leaf_end) refl };
  objects = record { checks = all_hold (objects_rule loose_leaf_end) refl };
  entries = record { checks = all_hold (entries_rule loose_leaf_end) refl };
}

loose_leaf_end_is_sound : IsSound loose_leaf_end
unfolding half_split extension_checks table_slot_rule arrays_rule tree_checks tree_rule name_checks since_checks name_rule text_key_checks text_key_rule object_rule objects_rule entries_rule reserved_rule descriptor_rule bitmap_rule lane_rule idle_rule split_log_rule closed_rule owner_rule single_owner_rule owned_rule order_rule fingerprint_checks fingerprint_rule column_slots code_rule text_checks text_rule spare_slot_rule stamp_checks stamp_rule row_code_rule given_back_rule distinct_name_rule latest_version_rule chunk_of array_rule is_inside blocks_of_page entry_places column_owners extension_owners owner_words inner_columns column_record leaves_from leaf_list leaf_pairs text_at key_below pairs key_fingerprint
loose_leaf_end_is_sound = record {
  intact = record {
    entry = loose_leaf_end_keeps;
    idle = record { checks = all_hold (idle_rule loose_leaf_end) refl };
    split_logs = record { checks = all_hold (split_log_rule loose_leaf_end) refl };
    closed = record { checks = all_hold (closed_rule loose_leaf_end) refl };
    owners = record { checks = all_hold (owner_rule loose_leaf_end) refl };
    single_owners = record { checks = all_hold (single_owner_rule loose_leaf_end) refl };
    owned = record { checks = all_hold (owned_rule loose_leaf_end) refl };
    order = record { checks = all_hold (order_rule loose_leaf_end) refl };
    fingerprints = record { checks = all_hold (fingerprint_rule loose_leaf_end) refl };
    codes = record { checks = all_hold (code_rule loose_leaf_end) refl };
    texts = record { checks = all_hold (text_rule loose_leaf_end) refl };
    spare_slots = record { checks = all_hold (spare_slot_rule loose_leaf_end) refl };
    stamps = record { checks = all_hold (stamp_rule loose_leaf_end) refl };
    row_codes = record { checks = all_hold (row_code_rule loose_leaf_end) refl };
    given_back = record { checks = all_hold (given_back_rule loose_leaf_end) refl };
    names = record { checks = all_hold (distinct_name_rule loose_leaf_end) refl };
  };
  latest = record { checks = all_hold (latest_version_rule loose_leaf_end) refl };
}

loose_leaf_owners : firm_owners loose_leaf_image ≡ three
unfolding half_split extension_checks table_slot_rule arrays_rule tree_checks tree_rule name_checks since_checks name_rule text_key_checks text_key_rule object_rule objects_rule entries_rule reserved_rule descriptor_rule bitmap_rule lane_rule idle_rule split_log_rule closed_rule owner_rule single_owner_rule owned_rule order_rule fingerprint_checks fingerprint_rule column_slots code_rule text_checks text_rule spare_slot_rule stamp_checks stamp_rule row_code_rule given_back_rule distinct_name_rule latest_version_rule chunk_of array_rule is_inside blocks_of_page entry_places column_owners extension_owners owner_words inner_columns column_record leaves_from leaf_list leaf_pairs text_at key_below pairs key_fingerprint
loose_leaf_owners = refl

loose_leaf_names : NamesOfTree loose_leaf_image
unfolding half_split extension_checks table_slot_rule arrays_rule tree_checks tree_rule name_checks since_checks name_rule text_key_checks text_key_rule object_rule objects_rule entries_rule reserved_rule descriptor_rule bitmap_rule lane_rule idle_rule split_log_rule closed_rule owner_rule single_owner_rule owned_rule order_rule fingerprint_checks fingerprint_rule column_slots code_rule text_checks text_rule spare_slot_rule stamp_checks stamp_rule row_code_rule given_back_rule distinct_name_rule latest_version_rule chunk_of array_rule is_inside blocks_of_page entry_places column_owners extension_owners owner_words inner_columns column_record leaves_from leaf_list leaf_pairs text_at key_below pairs key_fingerprint
loose_leaf_names = record {
  owners = loose_leaf_owners;
  slots = refl;
  table = refl;
  first = refl;
  new = refl;
  next = refl;
  owns_table = refl;
  owns_first = refl;
  owns_new = refl;
}

loose_leaf_shows : logical_state loose_leaf_end ≡ logical_state loose_leaf_image
unfolding half_split extension_checks table_slot_rule arrays_rule tree_checks tree_rule name_checks since_checks name_rule text_key_checks text_key_rule object_rule objects_rule entries_rule reserved_rule descriptor_rule bitmap_rule lane_rule idle_rule split_log_rule closed_rule owner_rule single_owner_rule owned_rule order_rule fingerprint_checks fingerprint_rule column_slots code_rule text_checks text_rule spare_slot_rule stamp_checks stamp_rule row_code_rule given_back_rule distinct_name_rule latest_version_rule chunk_of array_rule is_inside blocks_of_page entry_places column_owners extension_owners owner_words inner_columns column_record leaves_from leaf_list leaf_pairs text_at key_below pairs key_fingerprint logical_state name_at
loose_leaf_shows = refl

loose_leaf_first : take 1 (opening_plan loose_leaf_image) ≡ store 2185 (pointer_word 2312) ∷ []
unfolding half_split extension_checks table_slot_rule arrays_rule tree_checks tree_rule name_checks since_checks name_rule text_key_checks text_key_rule object_rule objects_rule entries_rule reserved_rule descriptor_rule bitmap_rule lane_rule idle_rule split_log_rule closed_rule owner_rule single_owner_rule owned_rule order_rule fingerprint_checks fingerprint_rule column_slots code_rule text_checks text_rule spare_slot_rule stamp_checks stamp_rule row_code_rule given_back_rule distinct_name_rule latest_version_rule chunk_of array_rule is_inside blocks_of_page entry_places column_owners extension_owners owner_words inner_columns column_record leaves_from leaf_list leaf_pairs text_at key_below pairs key_fingerprint opening_parts
loose_leaf_first = refl

loose_leaf_cut_is : set loose_leaf_image 2185 (pointer_word 2312) ≡ loose_leaf_cut
unfolding half_split
loose_leaf_cut_is = refl

loose_leaf_cut_size : length loose_leaf_cut ≡ length loose_leaf_image
unfolding half_split
loose_leaf_cut_size = refl

pub loose_leaf_cut_left : IsCrashImage (run 0 (take 1 (opening_plan loose_leaf_image)) (at_rest loose_leaf_image)) loose_leaf_cut
loose_leaf_cut_left = subst (λ (actions : List Action). IsCrashImage (run 0 actions (at_rest loose_leaf_image)) loose_leaf_cut) (sym loose_leaf_first)
    (record { size = loose_leaf_cut_size; each = λ w. inr (ap (λ (words : List ℕ). get_or words w 0) (sym loose_leaf_cut_is)) })

loose_leaf_ends : EndsAt loose_leaf_image loose_leaf_image loose_leaf_end
unfolding half_split extension_checks table_slot_rule arrays_rule tree_checks tree_rule name_checks since_checks name_rule text_key_checks text_key_rule object_rule objects_rule entries_rule reserved_rule descriptor_rule bitmap_rule lane_rule idle_rule split_log_rule closed_rule owner_rule single_owner_rule owned_rule order_rule fingerprint_checks fingerprint_rule column_slots code_rule text_checks text_rule spare_slot_rule stamp_checks stamp_rule row_code_rule given_back_rule distinct_name_rule latest_version_rule chunk_of array_rule is_inside blocks_of_page entry_places column_owners extension_owners owner_words inner_columns column_record leaves_from leaf_list leaf_pairs text_at key_below pairs key_fingerprint
loose_leaf_ends = record { lanes_mended = refl; split_mended = refl; lanes_idle = refl; split_closed = refl; sound = loose_leaf_end_is_sound }

none_busy : busy_lanes loose_leaf_image ≡ []
unfolding half_split
none_busy = refl

loose_leaf_apart : OwnersAreApart loose_leaf_image
loose_leaf_apart = record {
  firm = firm_of loose_leaf_image loose_leaf_names;
  unfinished = slots_of loose_leaf_image loose_leaf_names;
  apart = apart_of loose_leaf_image loose_leaf_names;
  targets = subst (All Target) (sym none_busy) (All-nil Target);
  lanes = subst (AllPairs Differ) (sym none_busy) (λ i j d order lt. absurd (omega (arith, lt)));
  alone = subst (All Alone) (sym none_busy) (All-nil Alone);
}
  where
    Target : ℕ → Type 0
    Target lane = Contains (lane_targets loose_leaf_image) (lane_owner loose_leaf_image lane)

    Differ : ℕ → ℕ → Type 0
    Differ lane other = lane_owner loose_leaf_image lane ≢ lane_owner loose_leaf_image other

    Alone : ℕ → Type 0
    Alone lane = All (λ at. (at ≡ lane_owner loose_leaf_image lane) ⊎ (get_or loose_leaf_image at 0 ≢ lane_block loose_leaf_image lane)) (owner_places loose_leaf_image)

pub loose_leaf_recovers : IsRecoveredAlone loose_leaf_image
loose_leaf_recovers = record {
  entry = loose_leaf_keeps;
  sound = subst IsSound (sym (ends_at loose_leaf_image loose_leaf_image loose_leaf_end loose_leaf_ends)) loose_leaf_end_is_sound;
  shown = ap logical_state (ends_at loose_leaf_image loose_leaf_image loose_leaf_end loose_leaf_ends) ∙ loose_leaf_shows;
  apart = loose_leaf_apart;
}

pub loose_leaf_grows : (length (owner_words loose_leaf_image) ≡ 2) × (length (owner_words loose_leaf_cut) ≡ 4)
unfolding half_split extension_checks table_slot_rule arrays_rule tree_checks tree_rule name_checks since_checks name_rule text_key_checks text_key_rule object_rule objects_rule entries_rule reserved_rule descriptor_rule bitmap_rule lane_rule idle_rule split_log_rule closed_rule owner_rule single_owner_rule owned_rule order_rule fingerprint_checks fingerprint_rule column_slots code_rule text_checks text_rule spare_slot_rule stamp_checks stamp_rule row_code_rule given_back_rule distinct_name_rule latest_version_rule chunk_of array_rule is_inside blocks_of_page entry_places column_owners extension_owners owner_words inner_columns column_record leaves_from leaf_list leaf_pairs text_at key_below pairs key_fingerprint
loose_leaf_grows = (refl, refl)

columns_are : all_columns loose_leaf_image ≡ 2096 ∷ []
unfolding half_split extension_checks table_slot_rule arrays_rule tree_checks tree_rule name_checks since_checks name_rule text_key_checks text_key_rule object_rule objects_rule entries_rule reserved_rule descriptor_rule bitmap_rule lane_rule idle_rule split_log_rule closed_rule owner_rule single_owner_rule owned_rule order_rule fingerprint_checks fingerprint_rule column_slots code_rule text_checks text_rule spare_slot_rule stamp_checks stamp_rule row_code_rule given_back_rule distinct_name_rule latest_version_rule chunk_of array_rule is_inside blocks_of_page entry_places column_owners extension_owners owner_words inner_columns column_record leaves_from leaf_list leaf_pairs text_at key_below pairs key_fingerprint
columns_are = refl

about_to_link : is_about_to_link loose_leaf_image 2096 ≡ true
unfolding half_split
about_to_link = refl

goes_elsewhere : (get_or loose_leaf_image (next_leaf_at (new_leaf loose_leaf_image 2096)) 0 ≡ pointer_word 2568) × (get_or loose_leaf_image (next_leaf_at (split_leaf loose_leaf_image 2096)) 0 ≡ 0)
unfolding half_split
goes_elsewhere = (refl, refl)

pub loose_leaf_misfits : LogsFit loose_leaf_image → ⊥
loose_leaf_misfits logs =
    let fit = All-contains (SplitFits loose_leaf_image) (all_columns loose_leaf_image) 2096 logs.splits (subst (λ (columns : List ℕ). Contains columns 2096) (sym columns_are) (Contains-here 2096 [])) in
    let same = fit.goes_on about_to_link in
    let new = goes_elsewhere.0 in
    let old = goes_elsewhere.1 in
    omega (arith, same, new, old)
