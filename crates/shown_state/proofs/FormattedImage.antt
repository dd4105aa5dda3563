-- A formatted image keeps every rule.
use Rattle.std.proofs.Common.{subst, ◌≡◌, ◌⊎◌, inl, inr, ⊎_elim, ℕ, zero, suc, ◌+◌, ◌*◌, ◌/◌, ◌%◌, ◌^◌, ◌<◌, ◌≤◌, true, false, not, ◌&&◌, ltb, leb, eqb, List, ◌∷◌, get_or, replicate, refl, sym, ◌∙◌, ap, arith}
use Rattle.std.specs.Prelude.{◌==◌, Contains, filter}
use Rattle.std.specs.List.{range_with_len}
use Rattle.std.proofs.lemmas.Bool.{cases_Bool, not-true, ltb-true, ltb-false, leb-true, eqb-true, eqb-false, eq-eqb, and_parts, or_cases, or_parts}
use Rattle.std.proofs.lemmas.List.{get_or_append_left, get_or-replicate}
use Rattle.std.proofs.lemmas.List.Elements.{All-map, Contains-get_or}
use Rattle.image_layout.specs.Fixed.{descriptor_at}
use Rattle.image_layout.specs.Places.{below, page_at, page_count}
use Rattle.shown_state.proofs.Formatted.{first_segment, other_segment, formatted, length-formatted, word_first, word_other, formatted_is_fresh}
use Rattle.image_layout.specs.Fresh.{fresh_words}
use Rattle.image_layout.specs.Blocks.{Block, descriptor_of, bitmap_of, slots_of, class_of, says_small, says_big, inside_after, inside_at, is_inside, is_small_page, is_given_back, is_reserved, live_blocks}
use Rattle.image_layout.specs.Checks.{check, Keeps}
use Rattle.image_layout.specs.Objects.{entry_places}
use Rattle.image_layout.specs.Owners.{owner_words}
use Rattle.image_layout.specs.EntryRules.{magic_rule, version_rule, last_rule, table_count_rule, table_slot_rule, arrays_rule, tree_rule, name_rule, text_key_rule, object_rule, objects_rule, entries_rule, KeepsEntryRules}
use Rattle.image_layout.specs.SoundRules.{idle_rule, split_log_rule, closed_rule, owner_rule, single_owner_rule, owned_rule, order_rule, fingerprint_rule, code_rule, text_rule, spare_slot_rule, stamp_rule, row_code_rule, zero_check, given_back_rule, distinct_name_rule, latest_version_rule, IsIntact, IsSound}
use Rattle.image_layout.proofs.Faults.{Holds, all_hold, mapped_hold}
use Rattle.image_layout.proofs.Members.{Contains-below, Contains-flat_map, Contains-filter}
use Rattle.image_layout.proofs.Heap.{page_of_block}
use Rattle.image_layout.specs.HeapRules.{is_descriptor, reserved_rule, descriptor_rule, bitmap_rule, lane_rule}

formatted_pages : (segments : ℕ) → 0 < segments → page_count (formatted segments) ≡ 64 * segments
formatted_pages segments some = omega (arith, length-formatted segments some)

-- the descriptors of a formatted image
first_reserved : (r : ℕ) → r < 4 → get_or first_segment r 0 ≡ 8
unfolding first_segment
first_reserved zero lt = refl
first_reserved (suc zero) lt = refl
first_reserved (suc (suc zero)) lt = refl
first_reserved (suc (suc (suc zero))) lt = refl
first_reserved (suc (suc (suc (suc r)))) lt = absurd (omega arith)

first_free : (r : ℕ) → 4 ≤ r → r < 64 → get_or first_segment r 0 ≡ 0
unfolding first_segment
first_free zero le lt = absurd (omega arith)
first_free (suc zero) le lt = absurd (omega arith)
first_free (suc (suc zero)) le lt = absurd (omega arith)
first_free (suc (suc (suc zero))) le lt = absurd (omega arith)
first_free (suc (suc (suc (suc r)))) le lt =
    get_or_append_left (replicate {A = ℕ} 508 0) (0x4244_5452_4F46_4F53 ∷ 2 ∷ replicate {A = ℕ} 32254 0) 0 r (omega arith) ∙ get_or-replicate 508 r 0 0 (omega arith)

other_first : get_or other_segment 0 0 ≡ 8
unfolding other_segment
other_first = refl

other_free : (r : ℕ) → 0 < r → r < 64 → get_or other_segment r 0 ≡ 0
unfolding other_segment
other_free zero le lt = absurd (omega arith)
other_free (suc r) le lt = get_or-replicate 32767 r 0 0 (omega arith)

here : (r : ℕ) → 0 * 32768 + r ≡ r
here r = omega arith

-- the descriptor of a reserved page is 8, and of another 0
word_reserved : (segments s r : ℕ) → s < segments → r < 64 → is_reserved (s * 64 + r) ≡ true → get_or (formatted segments) (s * 32768 + r) 0 ≡ 8
word_reserved segments zero r lt within reserved = ap (λ i. get_or (formatted segments) i 0) (here r) ∙ word_first segments r (omega (arith, within)) ∙ first_reserved r (⊎_elim first (λ low. omega (arith, ltb-true (0 * 64 + r) 4 low)) (or_cases (eqb ((0 * 64 + r) % 64) 0) (ltb (0 * 64 + r) 4) reserved))
  where
    first : eqb ((0 * 64 + r) % 64) 0 ≡ true → r < 4
    first is = omega (arith, eqb-true ((0 * 64 + r) % 64) 0 is)
word_reserved segments (suc s) r lt within reserved =
    word_other segments s r lt (omega (arith, within)) ∙ ap (λ i. get_or other_segment i 0) (⊎_elim first (λ low. absurd (omega (arith, ltb-true (suc s * 64 + r) 4 low))) (or_cases (eqb ((suc s * 64 + r) % 64) 0) (ltb (suc s * 64 + r) 4) reserved)) ∙ other_first
  where
    first : eqb ((suc s * 64 + r) % 64) 0 ≡ true → r ≡ 0
    first is = omega (arith, eqb-true ((suc s * 64 + r) % 64) 0 is)

word_unreserved : (segments s r : ℕ) → s < segments → r < 64 → is_reserved (s * 64 + r) ≡ false → get_or (formatted segments) (s * 32768 + r) 0 ≡ 0
word_unreserved segments zero r lt within free =
    ap (λ i. get_or (formatted segments) i 0) (here r) ∙ word_first segments r (omega (arith, within)) ∙ first_free r (omega (arith, ltb-false (0 * 64 + r) 4 (or_parts (eqb ((0 * 64 + r) % 64) 0) (ltb (0 * 64 + r) 4) free).1)) within
word_unreserved segments (suc s) r lt within free =
    word_other segments s r lt (omega (arith, within)) ∙ other_free r (⊎_elim (λ is. absurd (eqb-false ((suc s * 64 + r) % 64) 0 (or_parts (eqb ((suc s * 64 + r) % 64) 0) (ltb (suc s * 64 + r) 4) free).0 (first r is))) (λ more. more) (cases_zero r)) within
  where
    cases_zero : (r : ℕ) → (r ≡ 0) ⊎ (0 < r)
    cases_zero zero = inl refl
    cases_zero (suc r) = inr (omega arith)

    first : (r : ℕ) → r ≡ 0 → (suc s * 64 + r) % 64 ≡ 0
    first r is = omega arith

word_cases : (segments s r : ℕ) → s < segments → r < 64 → (get_or (formatted segments) (s * 32768 + r) 0 ≡ 8) ⊎ (get_or (formatted segments) (s * 32768 + r) 0 ≡ 0)
word_cases segments s r lt within =
    ⊎_elim (λ is. inl (word_reserved segments s r lt within is)) (λ free. inr (word_unreserved segments s r lt within free)) (cases_Bool (is_reserved (s * 64 + r)))

nothing_inside : (segments s r : ℕ) → s < segments → r ≤ 64 → inside_at (formatted segments) s r ≡ 0
nothing_inside segments s zero lt within = refl
nothing_inside segments s (suc r) lt within =
    let word = get_or (formatted segments) (s * 32768 + r) 0 in
    ap (λ i. inside_after i word) (nothing_inside segments s r lt (omega arith)) ∙ ⊎_elim (λ is. omega arith) (λ is. omega arith) (word_cases segments s r lt (omega arith))

page_parts : (page : ℕ) → page ≡ page / 64 * 64 + page % 64
page_parts page = omega arith

descriptor_cases : (segments page : ℕ) → page < 64 * segments → (descriptor_of (formatted segments) page ≡ 8) ⊎ (descriptor_of (formatted segments) page ≡ 0)
descriptor_cases segments page lt = word_cases segments (page / 64) (page % 64) (omega arith) (omega arith)

reserved_is : (segments page : ℕ) → page < 64 * segments → is_reserved page ≡ true → descriptor_of (formatted segments) page ≡ 8
reserved_is segments page lt reserved = word_reserved segments (page / 64) (page % 64) (omega arith) (omega arith) (ap is_reserved (sym (page_parts page)) ∙ reserved)

in_image : (segments page : ℕ) → 0 < segments → page < page_count (formatted segments) → page < 64 * segments
in_image segments page some lt = omega (arith, formatted_pages segments some)

not_small : (segments page : ℕ) → page < 64 * segments → says_small (descriptor_of (formatted segments) page) ≡ true → ⊥
not_small segments page lt small =
    let parts = and_parts (leb 2 (descriptor_of (formatted segments) page)) (leb (descriptor_of (formatted segments) page) 7) small in
    let low : 2 ≤ descriptor_of (formatted segments) page = leb-true 2 (descriptor_of (formatted segments) page) parts.0 in
    let high : descriptor_of (formatted segments) page ≤ 7 = leb-true (descriptor_of (formatted segments) page) 7 parts.1 in
    ⊎_elim (λ is. omega arith) (λ is. omega arith) (descriptor_cases segments page lt)

not_big : (segments page : ℕ) → page < 64 * segments → says_big (descriptor_of (formatted segments) page) ≡ true → ⊥
not_big segments page lt big =
    let parts = and_parts (leb 17 (descriptor_of (formatted segments) page)) (leb (descriptor_of (formatted segments) page) 79) big in
    let low : 17 ≤ descriptor_of (formatted segments) page = leb-true 17 (descriptor_of (formatted segments) page) parts.0 in
    ⊎_elim (λ is. omega arith) (λ is. omega arith) (descriptor_cases segments page lt)

formatted_reserved : (segments : ℕ) → 0 < segments → Keeps (formatted segments) reserved_rule
unfolding reserved_rule
formatted_reserved segments some = record {
  checks = mapped_hold (λ page. check (descriptor_at page) (descriptor_of (formatted segments) page == 8)) _
      (λ page of. let found = Contains-filter is_reserved (below (page_count (formatted segments))) page of in
      eq-eqb (descriptor_of (formatted segments) page) 8 (reserved_is segments page (in_image segments page some (Contains-below _ page found.0)) found.1));
}

formatted_descriptors : (segments : ℕ) → 0 < segments → Keeps (formatted segments) descriptor_rule
unfolding descriptor_rule
formatted_descriptors segments some = record {
  checks = mapped_hold (λ page. check (descriptor_at page) (is_descriptor page (descriptor_of (formatted segments) page))) _
      (λ page of. let found = Contains-filter (λ p. not (is_reserved p) && not (is_inside (formatted segments) p)) (below (page_count (formatted segments))) page of in
      let free = not-true (is_reserved page) (and_parts (not (is_reserved page)) (not (is_inside (formatted segments) page)) found.1).0 in
      known page (in_image segments page some (Contains-below _ page found.0)) free);
}
  where
    known : (page : ℕ) → page < 64 * segments → is_reserved page ≡ false → is_descriptor page (descriptor_of (formatted segments) page) ≡ true
    known page lt free =
        let is : descriptor_of (formatted segments) page ≡ 0 = word_unreserved segments (page / 64) (page % 64) (omega arith) (omega arith) (ap is_reserved (sym (page_parts page)) ∙ free) in
        ap (is_descriptor page) is

formatted_bitmaps : (segments : ℕ) → 0 < segments → Keeps (formatted segments) bitmap_rule
unfolding bitmap_rule
formatted_bitmaps segments some = record {
  checks = mapped_hold (λ page. check (page_at page) (ltb (bitmap_of (formatted segments) page) (2 ^ slots_of (class_of (formatted segments) page)))) _
      (λ page of. let found = Contains-filter (is_small_page (formatted segments)) (below (page_count (formatted segments))) page of in
      absurd (not_small segments page (in_image segments page some (Contains-below _ page found.0)) (and_parts (not (is_inside (formatted segments) page)) (says_small (descriptor_of (formatted segments) page)) found.1).1));
}

no_live_block : (segments : ℕ) → 0 < segments → (block : Block) → Contains (live_blocks (formatted segments)) block → ⊥
no_live_block segments some block live =
    let (page, lt, of) = page_of_block (formatted segments) block live in
    ⊎_elim (λ a. not_small segments page (in_image segments page some lt) a.small) (λ a. not_big segments page (in_image segments page some lt) a.big) of

formatted_owned : (segments : ℕ) → 0 < segments → Keeps (formatted segments) owned_rule
unfolding owned_rule
formatted_owned segments some = record {
  checks = All-map Holds _ (live_blocks (formatted segments)) (λ k d lt. absurd (no_live_block segments some (get_or (live_blocks (formatted segments)) k d) (Contains-get_or (live_blocks (formatted segments)) k d lt)));
}

formatted_given_back : (segments : ℕ) → 0 < segments → Keeps (formatted segments) given_back_rule
unfolding given_back_rule
formatted_given_back segments some = record {
  checks = mapped_hold (zero_check (formatted segments)) _
      (λ at of. let (page, is, within) = Contains-flat_map (λ p. range_with_len (page_at p) 512) (filter (is_given_back (formatted segments)) (below (page_count (formatted segments)))) at of in
      let found = Contains-filter (is_given_back (formatted segments)) (below (page_count (formatted segments))) page is in
      absurd (not_given_back page (in_image segments page some (Contains-below _ page found.0)) (and_parts (not (is_inside (formatted segments) page)) (eqb (descriptor_of (formatted segments) page) 1) found.1).1));
}
  where
    not_given_back : (page : ℕ) → page < 64 * segments → eqb (descriptor_of (formatted segments) page) 1 ≡ true → ⊥
    not_given_back page lt is =
        let one : descriptor_of (formatted segments) page ≡ 1 = eqb-true (descriptor_of (formatted segments) page) 1 is in
        ⊎_elim (λ e. omega arith) (λ e. omega arith) (descriptor_cases segments page lt)

-- The other rules look at words of the first segment alone, and compute.
pub formatted_keeps_entry : (segments : ℕ) → 0 < segments → KeepsEntryRules (formatted segments)
unfolding first_segment lane_rule table_slot_rule arrays_rule tree_rule name_rule text_key_rule object_rule objects_rule entries_rule
formatted_keeps_entry segments some = record {
  magic = record { checks = all_hold (magic_rule (formatted segments)) refl };
  version = record { checks = all_hold (version_rule (formatted segments)) refl };
  last = record { checks = all_hold (last_rule (formatted segments)) refl };
  table_count = record { checks = all_hold (table_count_rule (formatted segments)) refl };
  reserved = formatted_reserved segments some;
  descriptors = formatted_descriptors segments some;
  bitmaps = formatted_bitmaps segments some;
  lanes = record { checks = all_hold (lane_rule (formatted segments)) refl };
  table_slots = record { checks = all_hold (table_slot_rule (formatted segments)) refl };
  arrays = record { checks = all_hold (arrays_rule (formatted segments)) refl };
  trees = record { checks = all_hold (tree_rule (formatted segments)) refl };
  names = record { checks = all_hold (name_rule (formatted segments)) refl };
  text_keys = record { checks = all_hold (text_key_rule (formatted segments)) refl };
  objects = record { checks = all_hold (objects_rule (formatted segments)) refl };
  entries = record { checks = all_hold (entries_rule (formatted segments)) refl };
}

formatted_intact : (segments : ℕ) → 0 < segments → IsIntact (formatted segments)
unfolding first_segment idle_rule split_log_rule closed_rule entry_places owner_rule owner_words single_owner_rule order_rule fingerprint_rule code_rule text_rule spare_slot_rule stamp_rule row_code_rule distinct_name_rule
formatted_intact segments some = record {
  entry = formatted_keeps_entry segments some;
  idle = record { checks = all_hold (idle_rule (formatted segments)) refl };
  split_logs = record { checks = all_hold (split_log_rule (formatted segments)) refl };
  closed = record { checks = all_hold (closed_rule (formatted segments)) refl };
  owners = record { checks = all_hold (owner_rule (formatted segments)) refl };
  single_owners = record { checks = all_hold (single_owner_rule (formatted segments)) refl };
  owned = formatted_owned segments some;
  order = record { checks = all_hold (order_rule (formatted segments)) refl };
  fingerprints = record { checks = all_hold (fingerprint_rule (formatted segments)) refl };
  codes = record { checks = all_hold (code_rule (formatted segments)) refl };
  texts = record { checks = all_hold (text_rule (formatted segments)) refl };
  spare_slots = record { checks = all_hold (spare_slot_rule (formatted segments)) refl };
  stamps = record { checks = all_hold (stamp_rule (formatted segments)) refl };
  row_codes = record { checks = all_hold (row_code_rule (formatted segments)) refl };
  given_back = formatted_given_back segments some;
  names = record { checks = all_hold (distinct_name_rule (formatted segments)) refl };
}

formatted_sound : (segments : ℕ) → 0 < segments → IsSound (formatted segments)
unfolding first_segment latest_version_rule
formatted_sound segments some = record {
  intact = formatted_intact segments some;
  latest = record { checks = all_hold (latest_version_rule (formatted segments)) refl };
}

pub formatted_is_sound : (segments : ℕ) → 0 < segments → IsSound (fresh_words segments)
formatted_is_sound segments some = let S : List ℕ → Type 0 = λ words. IsSound words in subst S (formatted_is_fresh segments some) (formatted_sound segments some)
