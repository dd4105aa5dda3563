-- The image with two lanes at work: its opening ends sound, and a cut of it leaves an owner word that names no block.
use Rattle.std.specs.Prelude.{All, AllPairs, Contains, IsTrue, take}
use Rattle.std.proofs.lemmas.Bool.{both_ways}
use Rattle.std.proofs.lemmas.List.Kept.{AllPairs-cons}
use Rattle.std.proofs.lemmas.List.Elements.{All-contains, All-cons, All-nil}
use Rattle.std.proofs.Common.{◌≡◌, ◌≢◌, ◌%◌, ◌⊎◌, inr, ap, ◌∙◌, get_or, ℕ, false, true, List, [], ◌∷◌, ◌++◌, length, map, refl, set, sym, subst, arith}
use Rattle.image_layout.specs.EntryRules.{KeepsEntryRules, arrays_rule, entries_rule, extension_checks, last_rule, magic_rule, name_checks, name_rule, object_rule, objects_rule, since_checks, table_count_rule, table_slot_rule, text_key_checks, text_key_rule, tree_checks, tree_rule, version_rule}
use Rattle.image_layout.specs.HeapRules.{bitmap_rule, descriptor_rule, lane_rule, reserved_rule}
use Rattle.image_layout.specs.SoundRules.{IsSound, closed_rule, code_rule, distinct_name_rule, fingerprint_rule, given_back_rule, idle_rule, latest_version_rule, order_rule, owned_rule, owner_rule, row_code_rule, single_owner_rule, spare_slot_rule, split_log_rule, stamp_rule, text_rule}
use Rattle.image_layout.specs.Blocks.{blocks_of_page, is_inside, is_small_page, live_blocks}
use Rattle.image_layout.specs.Objects.{entry_places}
use Rattle.image_layout.specs.Owners.{busy_lanes, firm_owners, lane_block, lane_owner, lane_targets, NameApart, names_one, Owner, owner_places, owner_words, OwnersAreApart, owns_block, unfinished_slots}
use Rattle.image_layout.specs.Pointer.{pointer_word}
use Rattle.image_layout.proofs.Faults.{all_hold}
use Rattle.image_layout.proofs.Members.{Contains-here}
use Rattle.shown_state.specs.LogicalState.{logical_state}
use Rattle.image_layout.specs.Places.{below, is_pointer, page_of, place_in}
use Rattle.pm_model.specs.Needed.{Mending}
use Rattle.pm_model.specs.Device.{IsCrashImage}
use Rattle.pm_model.specs.Plans.{at_rest, run, store}
use Rattle.pm_model.specs.declared.action.Action.{Action}
use Rattle.shown_state.specs.Logs.{BeginsPages, LaneFits, LogsFit}
use Rattle.shown_state.specs.OpeningParts.{opening_parts, opening_plan}
use Rattle.shown_state.proofs.Opening.{sound_is_recovered}
use Rattle.shown_state.specs.Mending.{clear_mending, close_mending, lane_mending, last_mending, mend, mend_unless, Reached, reached_by_opening, recovered, slot_mending, split_mending, text_mending, undo_mending, version_mending}
use Rattle.law_instances.specs.TwoLanes.{IsRecoveredAlone, two_lanes, two_lanes_cut, two_lanes_end, two_lanes_image}

size : length two_lanes_image ≡ 32768
unfolding two_lanes
size = refl

image_keeps : KeepsEntryRules two_lanes_image
unfolding two_lanes extension_checks table_slot_rule arrays_rule tree_checks tree_rule name_checks since_checks name_rule text_key_checks text_key_rule object_rule objects_rule entries_rule reserved_rule descriptor_rule bitmap_rule lane_rule is_inside blocks_of_page entry_places
image_keeps = record {
  magic = record { checks = all_hold (magic_rule two_lanes_image) refl };
  version = record { checks = all_hold (version_rule two_lanes_image) refl };
  last = record { checks = all_hold (last_rule two_lanes_image) refl };
  table_count = record { checks = all_hold (table_count_rule two_lanes_image) refl };
  reserved = record { checks = all_hold (reserved_rule two_lanes_image) refl };
  descriptors = record { checks = all_hold (descriptor_rule two_lanes_image) refl };
  bitmaps = record { checks = all_hold (bitmap_rule two_lanes_image) refl };
  lanes = record { checks = all_hold (lane_rule two_lanes_image) refl };
  table_slots = record { checks = all_hold (table_slot_rule two_lanes_image) refl };
  arrays = record { checks = all_hold (arrays_rule two_lanes_image) refl };
  trees = record { checks = all_hold (tree_rule two_lanes_image) refl };
  names = record { checks = all_hold (name_rule two_lanes_image) refl };
  text_keys = record { checks = all_hold (text_key_rule two_lanes_image) refl };
  objects = record { checks = all_hold (objects_rule two_lanes_image) refl };
  entries = record { checks = all_hold (entries_rule two_lanes_image) refl };
}

end_keeps : KeepsEntryRules two_lanes_end
unfolding two_lanes extension_checks table_slot_rule arrays_rule tree_checks tree_rule name_checks since_checks name_rule text_key_checks text_key_rule object_rule objects_rule entries_rule reserved_rule descriptor_rule bitmap_rule lane_rule is_inside blocks_of_page entry_places
end_keeps = record {
  magic = record { checks = all_hold (magic_rule two_lanes_end) refl };
  version = record { checks = all_hold (version_rule two_lanes_end) refl };
  last = record { checks = all_hold (last_rule two_lanes_end) refl };
  table_count = record { checks = all_hold (table_count_rule two_lanes_end) refl };
  reserved = record { checks = all_hold (reserved_rule two_lanes_end) refl };
  descriptors = record { checks = all_hold (descriptor_rule two_lanes_end) refl };
  bitmaps = record { checks = all_hold (bitmap_rule two_lanes_end) refl };
  lanes = record { checks = all_hold (lane_rule two_lanes_end) refl };
  table_slots = record { checks = all_hold (table_slot_rule two_lanes_end) refl };
  arrays = record { checks = all_hold (arrays_rule two_lanes_end) refl };
  trees = record { checks = all_hold (tree_rule two_lanes_end) refl };
  names = record { checks = all_hold (name_rule two_lanes_end) refl };
  text_keys = record { checks = all_hold (text_key_rule two_lanes_end) refl };
  objects = record { checks = all_hold (objects_rule two_lanes_end) refl };
  entries = record { checks = all_hold (entries_rule two_lanes_end) refl };
}

end_is_sound : IsSound two_lanes_end
unfolding two_lanes idle_rule split_log_rule closed_rule owner_rule single_owner_rule owned_rule order_rule fingerprint_rule code_rule text_rule spare_slot_rule stamp_rule row_code_rule given_back_rule distinct_name_rule latest_version_rule is_inside blocks_of_page entry_places owner_words
end_is_sound = record {
  intact = record {
    entry = end_keeps;
    idle = record { checks = all_hold (idle_rule two_lanes_end) refl };
    split_logs = record { checks = all_hold (split_log_rule two_lanes_end) refl };
    closed = record { checks = all_hold (closed_rule two_lanes_end) refl };
    owners = record { checks = all_hold (owner_rule two_lanes_end) refl };
    single_owners = record { checks = all_hold (single_owner_rule two_lanes_end) refl };
    owned = record { checks = all_hold (owned_rule two_lanes_end) refl };
    order = record { checks = all_hold (order_rule two_lanes_end) refl };
    fingerprints = record { checks = all_hold (fingerprint_rule two_lanes_end) refl };
    codes = record { checks = all_hold (code_rule two_lanes_end) refl };
    texts = record { checks = all_hold (text_rule two_lanes_end) refl };
    spare_slots = record { checks = all_hold (spare_slot_rule two_lanes_end) refl };
    stamps = record { checks = all_hold (stamp_rule two_lanes_end) refl };
    row_codes = record { checks = all_hold (row_code_rule two_lanes_end) refl };
    given_back = record { checks = all_hold (given_back_rule two_lanes_end) refl };
    names = record { checks = all_hold (distinct_name_rule two_lanes_end) refl };
  };
  latest = record { checks = all_hold (latest_version_rule two_lanes_end) refl };
}

shows_same : logical_state two_lanes_end ≡ logical_state two_lanes_image
unfolding two_lanes logical_state
shows_same = refl

-- ── its opening ──

-- mendings of one list and then of another
mend_both : (first later : List Mending) (reached : Reached) → mend (first ++ later) reached ≡ mend later (mend first reached)
mend_both [] later reached = refl
mend_both (mending ∷ first) later reached = mend_both first later (mend_unless reached.stopped reached.words mending)

abbrev lanes : List Mending
lanes = map lane_mending (below 16)

abbrev others : List Mending
others =
    map split_mending (below 512) ++ slot_mending ∷ [] ++ map text_mending (below 512) ++ last_mending ∷ []
    ++ map undo_mending (below 16) ++ map close_mending (below 16) ++ map clear_mending (below 16) ++ version_mending ∷ []

abbrev at_start : List ℕ → Reached
at_start words = record { words = words; stopped = false }

lanes_mended : mend lanes (at_start two_lanes_image) ≡ at_start two_lanes_end
unfolding two_lanes extension_checks table_slot_rule arrays_rule tree_checks tree_rule name_checks since_checks name_rule text_key_checks text_key_rule object_rule objects_rule entries_rule reserved_rule descriptor_rule bitmap_rule lane_rule is_inside blocks_of_page entry_places
lanes_mended = refl

lanes_idle : mend lanes (at_start two_lanes_end) ≡ at_start two_lanes_end
unfolding two_lanes
lanes_idle = refl

-- Behind the lanes the image is the sound one, and opening changes no word of that.
image_ends : recovered two_lanes_image ≡ two_lanes_end
unfolding reached_by_opening
image_ends =
    ap (λ (reached : Reached). reached.words) (mend_both lanes others (at_start two_lanes_image))
    ∙ ap (λ (reached : Reached). (mend others reached).words) lanes_mended
    ∙ sym (ap (λ (reached : Reached). (mend others reached).words) lanes_idle)
    ∙ sym (ap (λ (reached : Reached). reached.words) (mend_both lanes others (at_start two_lanes_end)))
    ∙ sound_is_recovered two_lanes_end end_is_sound

-- ── its owner words ──

-- what all owner words are: that of object 3, and the table slot, which is null
places_are : owner_places two_lanes_image ≡ 1219 ∷ 520 ∷ []
unfolding two_lanes owner_words
places_are = refl

firm_are : firm_owners two_lanes_image ≡ record { at = 1219; block_words = 256 } ∷ []
unfolding two_lanes owner_words
firm_are = refl

busy_are : busy_lanes two_lanes_image ≡ 0 ∷ 1 ∷ []
unfolding two_lanes
busy_are = refl

owners_are : (get_or two_lanes_image 1219 0 ≡ pointer_word 10248) × (get_or two_lanes_image 520 0 ≡ 0)
unfolding two_lanes
owners_are = (refl, refl)

object_owns : owns_block two_lanes_image (record { at = 1219; block_words = 256 }) ≡ true
unfolding two_lanes is_inside blocks_of_page
object_owns = refl

slots_are : unfinished_slots two_lanes_image ≡ 520 ∷ []
unfolding two_lanes
slots_are = refl

dests_are : (lane_owner two_lanes_image 0 ≡ 1347) × (lane_owner two_lanes_image 1 ≡ 1219)
unfolding two_lanes
dests_are = (refl, refl)

blocks_are : (lane_block two_lanes_image 0 ≡ pointer_word 10240) × (lane_block two_lanes_image 1 ≡ pointer_word 10760)
unfolding two_lanes
blocks_are = (refl, refl)

are_targets : Contains (lane_targets two_lanes_image) 1347 × Contains (lane_targets two_lanes_image) 1219
unfolding two_lanes
are_targets = ((6, omega arith, refl), (4, omega arith, refl))

-- what holds of both owner words holds of all
abbrev AtEach : (ℕ → Type 0) → Type 0
AtEach P = P 1219 → P 520 → All P (owner_places two_lanes_image)

at_each : (P : ℕ → Type 0) → AtEach P
at_each P one two = subst (All P) (sym places_are) (All-cons P 1219 (520 ∷ []) one (All-cons P 520 [] two (All-nil P)))

-- and of both lanes
both_lanes : (P : ℕ → Type 0) → P 0 → P 1 → All P (busy_lanes two_lanes_image)
both_lanes P one two = subst (All P) (sym busy_are) (All-cons P 0 (1 ∷ []) one (All-cons P 1 [] two (All-nil P)))

pair : (R : ℕ → ℕ → Type 0) (x y : ℕ) → R x y → AllPairs R (x ∷ y ∷ [])
pair R x y is = AllPairs-cons R x (y ∷ []) (All-cons (R x) y [] is (All-nil (R x))) (AllPairs-cons R y [] (All-nil (R y)) (λ i j d order lt. absurd (omega (arith, lt))))

pub image_apart : OwnersAreApart two_lanes_image
image_apart = record {
  firm = subst (All Firm) (sym firm_are) (All-cons Firm (record { at = 1219; block_words = 256 }) [] (λ some. object_owns) (All-nil Firm));
  unfinished = subst (All Named) (sym slots_are) (All-cons Named 520 [] (λ some. absurd (some owners_are.1)) (All-nil Named));
  apart = subst (AllPairs (NameApart two_lanes_image)) (sym places_are) (pair (NameApart two_lanes_image) 1219 520 (λ one two free same. two owners_are.1));
  targets = both_lanes (λ lane. Contains (lane_targets two_lanes_image) (lane_owner two_lanes_image lane))
      (subst (Contains (lane_targets two_lanes_image)) (sym dests_are.0) are_targets.0)
      (subst (Contains (lane_targets two_lanes_image)) (sym dests_are.1) are_targets.1);
  lanes = subst (AllPairs (λ lane other. lane_owner two_lanes_image lane ≢ lane_owner two_lanes_image other)) (sym busy_are)
      (pair (λ lane other. lane_owner two_lanes_image lane ≢ lane_owner two_lanes_image other) 0 1 (λ same. let one = dests_are.0 in let two = dests_are.1 in omega (arith, one, two, same)));
  alone = both_lanes (λ lane. All (λ at. (at ≡ lane_owner two_lanes_image lane) ⊎ (get_or two_lanes_image at 0 ≢ lane_block two_lanes_image lane)) (owner_places two_lanes_image))
      (at_each (λ at. (at ≡ lane_owner two_lanes_image 0) ⊎ (get_or two_lanes_image at 0 ≢ lane_block two_lanes_image 0))
      (inr (λ same. let word = owners_are.0 in let block = blocks_are.0 in omega (arith, word, block, same)))
      (inr (λ same. let word = owners_are.1 in let block = blocks_are.0 in omega (arith, word, block, same))))
      (at_each (λ at. (at ≡ lane_owner two_lanes_image 1) ⊎ (get_or two_lanes_image at 0 ≢ lane_block two_lanes_image 1))
      (inr (λ same. let word = owners_are.0 in let block = blocks_are.1 in omega (arith, word, block, same)))
      (inr (λ same. let word = owners_are.1 in let block = blocks_are.1 in omega (arith, word, block, same))));
}
  where
    Firm : Owner → Type 0
    Firm owner = IsTrue (names_one two_lanes_image owner) → IsTrue (owns_block two_lanes_image owner)

    Named : ℕ → Type 0
    Named at = get_or two_lanes_image at 0 ≢ 0 → IsTrue (is_pointer two_lanes_image (get_or two_lanes_image at 0)) × Contains (map (λ block. block.first) (live_blocks two_lanes_image)) (place_in (get_or two_lanes_image at 0))

pub image_recovers : IsRecoveredAlone two_lanes_image
image_recovers = record {
  entry = image_keeps;
  sound = subst IsSound (sym image_ends) end_is_sound;
  shown = ap logical_state image_ends ∙ shows_same;
  apart = image_apart;
}

-- ── what a cut leaves ──

first_action : take 1 (opening_plan two_lanes_image) ≡ store 20 0 ∷ []
unfolding two_lanes opening_parts
first_action = refl

cut_is : set two_lanes_image 20 0 ≡ two_lanes_cut
unfolding two_lanes
cut_is = refl

cut_size : length two_lanes_cut ≡ length two_lanes_image
unfolding two_lanes
cut_size = refl

pub cut_left : IsCrashImage (run 0 (take 1 (opening_plan two_lanes_image)) (at_rest two_lanes_image)) two_lanes_cut
cut_left = subst (λ (actions : List Action). IsCrashImage (run 0 actions (at_rest two_lanes_image)) two_lanes_cut) (sym first_action)
    (record { size = cut_size; each = λ w. inr (ap (λ (words : List ℕ). get_or words w 0) (sym cut_is)) })

names_none : owns_block two_lanes_cut (record { at = 1219; block_words = 256 }) ≡ false
unfolding two_lanes is_inside blocks_of_page
names_none = refl

firm_cut : firm_owners two_lanes_cut ≡ record { at = 1219; block_words = 256 } ∷ []
unfolding two_lanes owner_words
firm_cut = refl

named_cut : names_one two_lanes_cut (record { at = 1219; block_words = 256 }) ≡ true
unfolding two_lanes
named_cut = refl

pub cut_is_no_more : OwnersAreApart two_lanes_cut → ⊥
cut_is_no_more apart = both_ways (owns_block two_lanes_cut (record { at = 1219; block_words = 256 })) names_none (All-contains Firm (firm_owners two_lanes_cut) (record { at = 1219; block_words = 256 }) apart.firm (subst (λ (owners : List Owner). Contains owners (record { at = 1219; block_words = 256 })) (sym firm_cut) (Contains-here (record { at = 1219; block_words = 256 }) [])) named_cut)
  where
    Firm : Owner → Type 0
    Firm owner = IsTrue (names_one two_lanes_cut owner) → IsTrue (owns_block two_lanes_cut owner)

-- page 20 is small
small_is : is_small_page two_lanes_image 20 ≡ true
unfolding two_lanes is_inside
small_is = refl

begins_there : page_of (place_in (lane_block two_lanes_image 0)) ≡ 20
unfolding two_lanes
begins_there = refl

first_word : place_in (lane_block two_lanes_image 0) % 512 ≡ 0
unfolding two_lanes
first_word = refl

pub logs_misfit : LogsFit two_lanes_image → ⊥
logs_misfit logs =
    let fit = All-contains (LaneFits two_lanes_image) (busy_lanes two_lanes_image) 0 logs.lanes (subst (λ (lanes : List ℕ). Contains lanes 0) (sym busy_are) (Contains-here 0 (1 ∷ []))) in
    let begins = subst (BeginsPages two_lanes_image) begins_there (fit.pages first_word) in
    both_ways (is_small_page two_lanes_image 20) begins.no_small small_is
