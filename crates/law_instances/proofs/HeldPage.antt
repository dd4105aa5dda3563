-- The image with a lane that is about to allocate a free page fits together; once the page is small it doesn't.
use Rattle.std.specs.Prelude.{All, AllPairs, Contains, IsTrue}
use Rattle.std.proofs.lemmas.Bool.{both_ways, true≢false}
use Rattle.std.proofs.lemmas.List.Kept.{AllPairs-cons}
use Rattle.std.proofs.lemmas.List.Elements.{All-contains, All-cons, All-nil}
use Rattle.std.proofs.Common.{◌≡◌, ◌≢◌, ◌⊎◌, ◌%◌, inl, inr, ap, ◌∙◌, get_or, ℕ, false, true, List, [], ◌∷◌, length, refl, set, sym, subst, arith}
use Rattle.image_layout.specs.EntryRules.{KeepsEntryRules, arrays_rule, entries_rule, extension_checks, last_rule, magic_rule, name_checks, name_rule, object_rule, objects_rule, since_checks, table_count_rule, table_slot_rule, text_key_checks, text_key_rule, tree_checks, tree_rule, version_rule}
use Rattle.image_layout.specs.HeapRules.{bitmap_rule, descriptor_rule, lane_rule, reserved_rule}
use Rattle.image_layout.specs.SoundRules.{closed_rule, code_rule, column_slots, distinct_name_rule, fingerprint_checks, fingerprint_rule, given_back_rule, idle_rule, latest_version_rule, order_rule, owned_rule, owner_rule, row_code_rule, single_owner_rule, spare_slot_rule, split_log_rule, stamp_checks, stamp_rule, text_checks, text_rule}
use Rattle.image_layout.specs.Arrays.{array_rule, chunk_of}
use Rattle.image_layout.specs.Blocks.{blocks_of_page, is_inside}
use Rattle.image_layout.specs.Fixed.{lane_op_at}
use Rattle.image_layout.specs.Objects.{entry_places}
use Rattle.image_layout.specs.Owners.{busy_lanes, column_owners, extension_owners, firm_owners, IsNullOrLive, lane_block, lane_owner, lane_targets, NameApart, names_one, Owner, owner_places, owner_words, OwnersAreApart, owns_block, unfinished_slots}
use Rattle.image_layout.specs.Places.{place_in}
use Rattle.image_layout.specs.Pointer.{pointer_word}
use Rattle.image_layout.specs.Tables.{all_columns, column_record, inner_columns}
use Rattle.image_layout.specs.Trees.{key_below, key_fingerprint, leaf_list, leaf_pairs, leaves_from, pairs, text_at}
use Rattle.image_layout.proofs.Faults.{all_hold}
use Rattle.image_layout.proofs.Members.{Contains-here}
use Rattle.shown_state.specs.Logs.{LaneFits, LogsFit, SplitFits}
use Rattle.image_layout.specs.Blocks.{Block, descriptor_of, is_free_page, is_small_page, live_blocks}
use Rattle.image_layout.specs.Places.{page_of}
use Rattle.image_layout.specs.Tables.{is_first_version, table_count}
use Rattle.heap_palloc.specs.Choice.{choice_parts, MayMake}
use Rattle.pm_model.specs.Plans.{EachCut, one_store}
use Rattle.pm_model.proofs.Cuts.{between-end}
use Rattle.shown_state.specs.Fits.{Fits, later_slot_rule, spoken_for}
use Rattle.shown_state.specs.Logs.{BeginsPages, SlotFits}
use Rattle.shown_state.specs.OpeningParts.{IsImage}
use Rattle.law_instances.specs.HeldPage.{held_page, held_page_image, on_held_page, small_page_image}

it_keeps : KeepsEntryRules held_page_image
unfolding held_page extension_checks table_slot_rule arrays_rule tree_checks tree_rule name_checks since_checks name_rule text_key_checks text_key_rule object_rule objects_rule entries_rule reserved_rule descriptor_rule bitmap_rule lane_rule idle_rule split_log_rule closed_rule owner_rule single_owner_rule owned_rule order_rule fingerprint_checks fingerprint_rule column_slots code_rule text_checks text_rule spare_slot_rule stamp_checks stamp_rule row_code_rule given_back_rule distinct_name_rule latest_version_rule chunk_of array_rule is_inside blocks_of_page entry_places column_owners extension_owners owner_words inner_columns column_record leaves_from leaf_list leaf_pairs text_at key_below pairs key_fingerprint
it_keeps = record {
  magic = record { checks = all_hold (magic_rule held_page_image) refl };
  version = record { checks = all_hold (version_rule held_page_image) refl };
  last = record { checks = all_hold (last_rule held_page_image) refl };
  table_count = record { checks = all_hold (table_count_rule held_page_image) refl };
  reserved = record { checks = all_hold (reserved_rule held_page_image) refl };
  descriptors = record { checks = all_hold (descriptor_rule held_page_image) refl };
  bitmaps = record { checks = all_hold (bitmap_rule held_page_image) refl };
  lanes = record { checks = all_hold (lane_rule held_page_image) refl };
  table_slots = record { checks = all_hold (table_slot_rule held_page_image) refl };
  arrays = record { checks = all_hold (arrays_rule held_page_image) refl };
  trees = record { checks = all_hold (tree_rule held_page_image) refl };
  names = record { checks = all_hold (name_rule held_page_image) refl };
  text_keys = record { checks = all_hold (text_key_rule held_page_image) refl };
  objects = record { checks = all_hold (objects_rule held_page_image) refl };
  entries = record { checks = all_hold (entries_rule held_page_image) refl };
}

size : length held_page_image ≡ 32768
unfolding held_page
size = refl

pub is_image : IsImage held_page_image
unfolding held_page
is_image = record { segments = refl; one_or_more = let is = size in omega (arith, is) }

firm_none : firm_owners held_page_image ≡ []
unfolding held_page extension_checks table_slot_rule arrays_rule tree_checks tree_rule name_checks since_checks name_rule text_key_checks text_key_rule object_rule objects_rule entries_rule reserved_rule descriptor_rule bitmap_rule lane_rule idle_rule split_log_rule closed_rule owner_rule single_owner_rule owned_rule order_rule fingerprint_checks fingerprint_rule column_slots code_rule text_checks text_rule spare_slot_rule stamp_checks stamp_rule row_code_rule given_back_rule distinct_name_rule latest_version_rule chunk_of array_rule is_inside blocks_of_page entry_places column_owners extension_owners owner_words inner_columns column_record leaves_from leaf_list leaf_pairs text_at key_below pairs key_fingerprint later_slot_rule
firm_none = refl

slots_are : unfinished_slots held_page_image ≡ 520 ∷ []
unfolding held_page extension_checks table_slot_rule arrays_rule tree_checks tree_rule name_checks since_checks name_rule text_key_checks text_key_rule object_rule objects_rule entries_rule reserved_rule descriptor_rule bitmap_rule lane_rule idle_rule split_log_rule closed_rule owner_rule single_owner_rule owned_rule order_rule fingerprint_checks fingerprint_rule column_slots code_rule text_checks text_rule spare_slot_rule stamp_checks stamp_rule row_code_rule given_back_rule distinct_name_rule latest_version_rule chunk_of array_rule is_inside blocks_of_page entry_places column_owners extension_owners owner_words inner_columns column_record leaves_from leaf_list leaf_pairs text_at key_below pairs key_fingerprint later_slot_rule
slots_are = refl

places_are : owner_places held_page_image ≡ 520 ∷ []
unfolding held_page extension_checks table_slot_rule arrays_rule tree_checks tree_rule name_checks since_checks name_rule text_key_checks text_key_rule object_rule objects_rule entries_rule reserved_rule descriptor_rule bitmap_rule lane_rule idle_rule split_log_rule closed_rule owner_rule single_owner_rule owned_rule order_rule fingerprint_checks fingerprint_rule column_slots code_rule text_checks text_rule spare_slot_rule stamp_checks stamp_rule row_code_rule given_back_rule distinct_name_rule latest_version_rule chunk_of array_rule is_inside blocks_of_page entry_places column_owners extension_owners owner_words inner_columns column_record leaves_from leaf_list leaf_pairs text_at key_below pairs key_fingerprint later_slot_rule
places_are = refl

slot_null : get_or held_page_image 520 0 ≡ 0
unfolding held_page
slot_null = refl

busy_are : busy_lanes held_page_image ≡ 1 ∷ []
unfolding held_page
busy_are = refl

owner_is : lane_owner held_page_image 1 ≡ 1347
unfolding held_page
owner_is = refl

block_is : lane_block held_page_image 1 ≡ pointer_word 2048
unfolding held_page
block_is = refl

owner_null : get_or held_page_image 1347 0 ≡ 0
unfolding held_page
owner_null = refl

op_is : get_or held_page_image (lane_op_at 1) 0 ≡ 1
unfolding held_page
op_is = refl

none_live : live_blocks held_page_image ≡ []
unfolding held_page extension_checks table_slot_rule arrays_rule tree_checks tree_rule name_checks since_checks name_rule text_key_checks text_key_rule object_rule objects_rule entries_rule reserved_rule descriptor_rule bitmap_rule lane_rule idle_rule split_log_rule closed_rule owner_rule single_owner_rule owned_rule order_rule fingerprint_checks fingerprint_rule column_slots code_rule text_checks text_rule spare_slot_rule stamp_checks stamp_rule row_code_rule given_back_rule distinct_name_rule latest_version_rule chunk_of array_rule is_inside blocks_of_page entry_places column_owners extension_owners owner_words inner_columns column_record leaves_from leaf_list leaf_pairs text_at key_below pairs key_fingerprint later_slot_rule
none_live = refl

no_columns : all_columns held_page_image ≡ []
unfolding held_page extension_checks table_slot_rule arrays_rule tree_checks tree_rule name_checks since_checks name_rule text_key_checks text_key_rule object_rule objects_rule entries_rule reserved_rule descriptor_rule bitmap_rule lane_rule idle_rule split_log_rule closed_rule owner_rule single_owner_rule owned_rule order_rule fingerprint_checks fingerprint_rule column_slots code_rule text_checks text_rule spare_slot_rule stamp_checks stamp_rule row_code_rule given_back_rule distinct_name_rule latest_version_rule chunk_of array_rule is_inside blocks_of_page entry_places column_owners extension_owners owner_words inner_columns column_record leaves_from leaf_list leaf_pairs text_at key_below pairs key_fingerprint later_slot_rule
no_columns = refl

no_tables : table_count held_page_image ≡ 0
unfolding held_page
no_tables = refl

second : is_first_version held_page_image ≡ false
unfolding held_page
second = refl

outside : is_inside held_page_image 4 ≡ false
unfolding held_page extension_checks table_slot_rule arrays_rule tree_checks tree_rule name_checks since_checks name_rule text_key_checks text_key_rule object_rule objects_rule entries_rule reserved_rule descriptor_rule bitmap_rule lane_rule idle_rule split_log_rule closed_rule owner_rule single_owner_rule owned_rule order_rule fingerprint_checks fingerprint_rule column_slots code_rule text_checks text_rule spare_slot_rule stamp_checks stamp_rule row_code_rule given_back_rule distinct_name_rule latest_version_rule chunk_of array_rule is_inside blocks_of_page entry_places column_owners extension_owners owner_words inner_columns column_record leaves_from leaf_list leaf_pairs text_at key_below pairs key_fingerprint later_slot_rule
outside = refl

not_small : is_small_page held_page_image 4 ≡ false
unfolding held_page extension_checks table_slot_rule arrays_rule tree_checks tree_rule name_checks since_checks name_rule text_key_checks text_key_rule object_rule objects_rule entries_rule reserved_rule descriptor_rule bitmap_rule lane_rule idle_rule split_log_rule closed_rule owner_rule single_owner_rule owned_rule order_rule fingerprint_checks fingerprint_rule column_slots code_rule text_checks text_rule spare_slot_rule stamp_checks stamp_rule row_code_rule given_back_rule distinct_name_rule latest_version_rule chunk_of array_rule is_inside blocks_of_page entry_places column_owners extension_owners owner_words inner_columns column_record leaves_from leaf_list leaf_pairs text_at key_below pairs key_fingerprint later_slot_rule
not_small = refl

is_free : is_free_page held_page_image 4 ≡ true
unfolding held_page extension_checks table_slot_rule arrays_rule tree_checks tree_rule name_checks since_checks name_rule text_key_checks text_key_rule object_rule objects_rule entries_rule reserved_rule descriptor_rule bitmap_rule lane_rule idle_rule split_log_rule closed_rule owner_rule single_owner_rule owned_rule order_rule fingerprint_checks fingerprint_rule column_slots code_rule text_checks text_rule spare_slot_rule stamp_checks stamp_rule row_code_rule given_back_rule distinct_name_rule latest_version_rule chunk_of array_rule is_inside blocks_of_page entry_places column_owners extension_owners owner_words inner_columns column_record leaves_from leaf_list leaf_pairs text_at key_below pairs key_fingerprint later_slot_rule
is_free = refl

descriptor_null : descriptor_of held_page_image 4 ≡ 0
unfolding held_page
descriptor_null = refl

page_is : page_of (place_in (lane_block held_page_image 1)) ≡ 4
unfolding held_page
page_is = refl

targets_are : Contains (lane_targets held_page_image) 1347 × Contains (lane_targets held_page_image) 1219
unfolding held_page extension_checks table_slot_rule arrays_rule tree_checks tree_rule name_checks since_checks name_rule text_key_checks text_key_rule object_rule objects_rule entries_rule reserved_rule descriptor_rule bitmap_rule lane_rule idle_rule split_log_rule closed_rule owner_rule single_owner_rule owned_rule order_rule fingerprint_checks fingerprint_rule column_slots code_rule text_checks text_rule spare_slot_rule stamp_checks stamp_rule row_code_rule given_back_rule distinct_name_rule latest_version_rule chunk_of array_rule is_inside blocks_of_page entry_places column_owners extension_owners owner_words inner_columns column_record leaves_from leaf_list leaf_pairs text_at key_below pairs key_fingerprint later_slot_rule
targets_are = ((6, omega arith, refl), (4, omega arith, refl))

pub is_target : Contains (lane_targets held_page_image) 1219
is_target = targets_are.1

of_lane : (P : ℕ → Type 0) → P 1 → All P (busy_lanes held_page_image)
of_lane P holds = subst (All P) (sym busy_are) (All-cons P 1 [] holds (All-nil P))

one_pair : (R : ℕ → ℕ → Type 0) (x : ℕ) → AllPairs R (x ∷ [])
one_pair R x = AllPairs-cons R x [] (All-nil (R x)) (λ i j d order lt. absurd (omega (arith, lt)))

it_is_apart : OwnersAreApart held_page_image
it_is_apart = record {
  firm = subst (All Firm) (sym firm_none) (All-nil Firm);
  unfinished = subst (All (IsNullOrLive held_page_image)) (sym slots_are) (All-cons (IsNullOrLive held_page_image) 520 [] (λ some. absurd (some slot_null)) (All-nil (IsNullOrLive held_page_image)));
  apart = subst (AllPairs (NameApart held_page_image)) (sym places_are) (one_pair (NameApart held_page_image) 520);
  targets = of_lane (λ lane. Contains (lane_targets held_page_image) (lane_owner held_page_image lane)) (subst (Contains (lane_targets held_page_image)) (sym owner_is) targets_are.0);
  lanes = subst (AllPairs (λ lane other. lane_owner held_page_image lane ≢ lane_owner held_page_image other)) (sym busy_are) (one_pair (λ lane other. lane_owner held_page_image lane ≢ lane_owner held_page_image other) 1);
  alone = of_lane (λ lane. All (Alone lane) (owner_places held_page_image)) (subst (All (Alone 1)) (sym places_are) (All-cons (Alone 1) 520 [] (inr (λ same. let null = slot_null in let block = block_is in omega (arith, null, block, same))) (All-nil (Alone 1))));
}
  where
    Firm : Owner → Type 0
    Firm owner = IsTrue (names_one held_page_image owner) → IsTrue (owns_block held_page_image owner)

    Alone : ℕ → ℕ → Type 0
    Alone lane at = (at ≡ lane_owner held_page_image lane) ⊎ (get_or held_page_image at 0 ≢ lane_block held_page_image lane)

begins : BeginsPages held_page_image 4
begins = record { outside = outside; no_small = not_small; clean = λ k some lt. let null = descriptor_null in absurd (omega (arith, lt, null)) }

it_has_logs : LogsFit held_page_image
it_has_logs = record {
  lanes = of_lane (LaneFits held_page_image) (record {
    owner = inl (ap (λ (at : ℕ). get_or held_page_image at 0) owner_is ∙ owner_null);
    pages = λ big. subst (BeginsPages held_page_image) (sym page_is) begins;
    frees = λ two. let one = op_is in absurd (omega (arith, one, two));
  });
  blocks = subst (AllPairs (λ lane other. lane_block held_page_image lane ≢ lane_block held_page_image other)) (sym busy_are) (one_pair (λ lane other. lane_block held_page_image lane ≢ lane_block held_page_image other) 1);
  slots = subst (All (SlotFits held_page_image)) (sym slots_are) (All-cons (SlotFits held_page_image) 520 [] (λ some. absurd (some slot_null)) (All-nil (SlotFits held_page_image)));
  splits = subst (All (SplitFits held_page_image)) (sym no_columns) (All-nil (SplitFits held_page_image));
}

held : All (λ (block : Block). Contains (spoken_for held_page_image) (pointer_word block.first)) (live_blocks held_page_image)
held = subst (All (λ (block : Block). Contains (spoken_for held_page_image) (pointer_word block.first))) (sym none_live) (All-nil (λ (block : Block). Contains (spoken_for held_page_image) (pointer_word block.first)))

pub it_fits : Fits held_page_image
unfolding held_page extension_checks table_slot_rule arrays_rule tree_checks tree_rule name_checks since_checks name_rule text_key_checks text_key_rule object_rule objects_rule entries_rule reserved_rule descriptor_rule bitmap_rule lane_rule idle_rule split_log_rule closed_rule owner_rule single_owner_rule owned_rule order_rule fingerprint_checks fingerprint_rule column_slots code_rule text_checks text_rule spare_slot_rule stamp_checks stamp_rule row_code_rule given_back_rule distinct_name_rule latest_version_rule chunk_of array_rule is_inside blocks_of_page entry_places column_owners extension_owners owner_words inner_columns column_record leaves_from leaf_list leaf_pairs text_at key_below pairs key_fingerprint later_slot_rule
it_fits = record {
  entry = it_keeps;
  apart = it_is_apart;
  logs = it_has_logs;
  held = held;
  owners = record { checks = all_hold (owner_rule held_page_image) refl };
  order = record { checks = all_hold (order_rule held_page_image) refl };
  fingerprints = record { checks = all_hold (fingerprint_rule held_page_image) refl };
  codes = record { checks = all_hold (code_rule held_page_image) refl };
  texts = record { checks = all_hold (text_rule held_page_image) refl };
  later_slots = record { checks = all_hold (later_slot_rule held_page_image) refl };
  given_back = record { checks = all_hold (given_back_rule held_page_image) refl };
  names = record { checks = all_hold (distinct_name_rule held_page_image) refl };
  rows = λ table lt. let none = no_tables in absurd (omega (arith, lt, none));
  first = λ is. absurd (true≢false (sym is ∙ second));
}

idle_is : get_or held_page_image (lane_op_at 0) 0 ≡ 0
unfolding held_page
idle_is = refl

unowned : get_or held_page_image 1219 0 ≡ 0
unfolding held_page
unowned = refl

pub may_make : MayMake held_page_image on_held_page
may_make = record {
  idle = record {
    lane_is = omega arith;
    op = idle_is;
    owner_is = record {
      in_image = let is = size in omega (arith, is);
      outside_lanes = inr (omega arith);
      no_descriptor = omega arith;
      no_bitmap = λ small e. omega (arith, e);
    };
  };
  unowned = unowned;
  page_is = record { in_image = let is = size in omega (arith, is); behind_header = omega arith; behind_fixed = omega arith };
  class_is = omega arith;
  is_free = is_free;
  owner_elsewhere = λ e. omega (arith, e);
  slot_is = omega arith;
}

-- ── once the page is small ──

small_is : is_small_page small_page_image 4 ≡ true
unfolding held_page extension_checks table_slot_rule arrays_rule tree_checks tree_rule name_checks since_checks name_rule text_key_checks text_key_rule object_rule objects_rule entries_rule reserved_rule descriptor_rule bitmap_rule lane_rule idle_rule split_log_rule closed_rule owner_rule single_owner_rule owned_rule order_rule fingerprint_checks fingerprint_rule column_slots code_rule text_checks text_rule spare_slot_rule stamp_checks stamp_rule row_code_rule given_back_rule distinct_name_rule latest_version_rule chunk_of array_rule is_inside blocks_of_page entry_places column_owners extension_owners owner_words inner_columns column_record leaves_from leaf_list leaf_pairs text_at key_below pairs key_fingerprint later_slot_rule
small_is = refl

small_busy : busy_lanes small_page_image ≡ 1 ∷ []
unfolding held_page
small_busy = refl

small_page : page_of (place_in (lane_block small_page_image 1)) ≡ 4
unfolding held_page
small_page = refl

first_word : place_in (lane_block small_page_image 1) % 512 ≡ 0
unfolding held_page
first_word = refl

misfits : Fits small_page_image → ⊥
misfits fits =
    let fit = All-contains (LaneFits small_page_image) (busy_lanes small_page_image) 1 fits.logs.lanes (subst (λ (lanes : List ℕ). Contains lanes 1) (sym small_busy) (Contains-here 1 [])) in
    let begins = subst (BeginsPages small_page_image) small_page (fit.pages first_word) in
    both_ways (is_small_page small_page_image 4) begins.no_small small_is

is_made_small : set (set held_page_image 2048 0) 4 6 ≡ small_page_image
unfolding held_page
is_made_small = refl

pub is_lost : EachCut Fits (choice_parts held_page_image on_held_page) held_page_image → ⊥
is_lost cuts = misfits (subst Fits is_made_small (cuts.1.0 (set (set held_page_image 2048 0) 4 6) (between-end (one_store 4 6) (set held_page_image 2048 0))))
