-- In an intact image each live block has one owner.
use Rattle.std.proofs.Common.{◌≡◌, ⊎_elim, ℕ, zero, suc, ◌+◌, ◌*◌, ◌<◌, ◌≤◌, min, Bool, true, false, not, ◌&&◌, ltb, eqb, List, [], ◌∷◌, ◌++◌, length, get_or, map, refl, sym, ◌∙◌, ap, subst, arith}
use Rattle.std.specs.Prelude.{◌==◌, Contains, All, filter, IsPermutation}
use Rattle.std.specs.List.{flat_map, list_any, range_with_len}
use Rattle.std.proofs.lemmas.Bool.{cases_Bool, both_ways, not-true, eqb-true, eq-eqb, and_parts, ltb-true, or_cases, or_left, or_right}
use Rattle.std.proofs.lemmas.List.{map-append}
use Rattle.std.proofs.lemmas.List.Elements.{All-head, All-tail, All-contains, Contains-get_or, Contains-append_cases, Contains-append_left, Contains-append_right}
use Rattle.std.proofs.lemmas.List.Sorted.{IsPermutation-refl, IsPermutation-sym, IsPermutation-trans, IsPermutation-cons, IsPermutation-middle}
use Rattle.image_layout.specs.Pointer.{pointer_word}
use Rattle.image_layout.specs.Places.{below, page_count, place_in, is_pointer}
use Rattle.image_layout.specs.Blocks.{Block, slot_words, slots_of, descriptor_of, says_small, is_inside, is_small_page, is_big_head, class_of, small_block, used_slots, blocks_if, blocks_of_page, live_blocks, is_live}
use Rattle.image_layout.specs.Arrays.{capacity, place_of}
use Rattle.image_layout.specs.Tables.{all_columns}
use Rattle.image_layout.specs.Trees.{leaf_list, leaf_slots, pair_at, leaf_pairs, used_pairs, dictionary_length, dictionary_word}
use Rattle.image_layout.specs.Owners.{Owner, word_of, named_block, owner_words, owns_block, dictionary_slots, key_words, EachBlockHasOneOwner}
use Rattle.image_layout.specs.Checks.{check}
use Rattle.image_layout.specs.EntryRules.{is_among}
use Rattle.image_layout.specs.SoundRules.{owner_rule, distinct_checks, single_owner_rule, owned_rule, UsedSlot, column_slots, is_code_of, code_checks, code_rule, IsIntact}
use Rattle.image_layout.proofs.Heap.{Holds}
use Rattle.image_layout.proofs.Members.{below-Contains, Contains-here, Contains-there, Contains-cons, Contains-nil, Contains-flat_map, flat_map-Contains, Contains-map, map-Contains}
use Rattle.image_layout.proofs.Heap.{small_class}
use Rattle.shown_state.proofs.Walks.{pointers_name_their_place}
use Rattle.image_layout.specs.Records.{dictionary_header, key_at, code_at}

-- no number stands twice
abbrev pub Differ : List ℕ → Type 0
Differ [] = Unit {0}
Differ (x ∷ xs) = ((y : ℕ) → Contains xs y → x ≡ y → ⊥) × Differ xs

widen : (a : List ℕ) (x : ℕ) (b : List ℕ) (y : ℕ) → Contains (a ++ b) y → Contains (a ++ x ∷ b) y
widen a x b y is = ⊎_elim (λ left. Contains-append_left a (x ∷ b) y left) (λ right. Contains-append_right a (x ∷ b) y (Contains-there x y b right)) (Contains-append_cases a b y is)

narrow : (a : List ℕ) (x : ℕ) (b : List ℕ) (y : ℕ) → (x ≡ y → ⊥) → Contains (a ++ x ∷ b) y → Contains (a ++ b) y
narrow a x b y other is =
    ⊎_elim (λ left. Contains-append_left a b y left)
    (λ right. ⊎_elim (λ here. absurd (other here)) (λ there. Contains-append_right a b y there) (Contains-cons x y b right))
    (Contains-append_cases a (x ∷ b) y is)

pub Differ-remove : (a : List ℕ) (x : ℕ) (b : List ℕ) → Differ (a ++ x ∷ b) → Differ (a ++ b) × ((y : ℕ) → Contains (a ++ b) y → x ≡ y → ⊥)
Differ-remove [] x b (fresh, rest) = (rest, fresh)
Differ-remove (z ∷ a) x b (fresh, rest) =
    let found = Differ-remove a x b rest in (
      (λ y is e. fresh y (widen a x b y is) e, found.0),
      λ y is e. ⊎_elim (λ here. fresh x (Contains-append_right a (x ∷ b) x (Contains-here x b)) (here ∙ sym e)) (λ there. found.1 y there e) (Contains-cons z y (a ++ b) is),
    )

split_at : (ys : List ℕ) (x : ℕ) → Contains ys x → (a : List ℕ) × (b : List ℕ) × (ys ≡ a ++ x ∷ b)
split_at [] x is = absurd (Contains-nil x is)
split_at (y ∷ ys) x is =
    ⊎_elim (λ here. ([], ys, ap (λ z. z ∷ ys) here))
    (λ there. let found = split_at ys x there in (y ∷ found.0, found.1, ap (λ zs. y ∷ zs) found.2)) (Contains-cons y x ys is)

-- lists without repetition that have the same elements
same_members : (xs ys : List ℕ) → Differ xs → Differ ys → ((x : ℕ) → Contains xs x → Contains ys x) → ((y : ℕ) → Contains ys y → Contains xs y) → IsPermutation xs ys
same_members [] [] dx dy to from = IsPermutation-refl []
same_members [] (y ∷ ys) dx dy to from = absurd (Contains-nil y (from y (Contains-here y ys)))
same_members (x ∷ xs) ys (fresh, dx) dy to from =
    let found = split_at ys x (to x (Contains-here x xs)) in
    let rest = found.0 ++ found.1 in
    let D : List ℕ → Type 0 = λ zs. Differ zs in
    let removed = Differ-remove found.0 x found.1 (subst D found.2 dy) in
    let inner = same_members xs rest dx removed.0
    (λ z is. let C : List ℕ → Type 0 = λ zs. Contains zs z in narrow found.0 x found.1 z (fresh z is) (subst C found.2 (to z (Contains-there x z xs is))))
    (λ z is. let C : List ℕ → Type 0 = λ zs. Contains zs z in
    ⊎_elim (λ here. absurd (removed.1 z is here)) (λ there. there) (Contains-cons x z xs (from z (subst C (sym found.2) (widen found.0 x found.1 z is))))) in
    let P : List ℕ → Type 0 = λ zs. IsPermutation (x ∷ xs) zs in
    subst P (sym found.2) (IsPermutation-trans (x ∷ xs) (x ∷ rest) (found.0 ++ x ∷ found.1) (IsPermutation-cons x xs rest inner)
    (IsPermutation-sym (found.0 ++ x ∷ found.1) (x ∷ rest) (IsPermutation-middle found.0 x found.1)))

-- the numbers rise, from one bound on and below another
abbrev Rises : ℕ → ℕ → List ℕ → Type 0
Rises low high [] = low ≤ high
Rises low high (x ∷ xs) = (low ≤ x) × Rises (x + 1) high xs

Rises-lower : (low mid high : ℕ) (xs : List ℕ) → low ≤ mid → Rises mid high xs → Rises low high xs
Rises-lower low mid high [] le rise = omega arith
Rises-lower low mid high (x ∷ xs) le (first, rest) = (omega arith, rest)

Rises-upper : (low mid high : ℕ) (xs : List ℕ) → mid ≤ high → Rises low mid xs → Rises low high xs
Rises-upper low mid high [] le rise = omega arith
Rises-upper low mid high (x ∷ xs) le (first, rest) = (first, Rises-upper (x + 1) mid high xs le rest)

Rises-append : (low mid high : ℕ) (xs ys : List ℕ) → Rises low mid xs → Rises mid high ys → Rises low high (xs ++ ys)
Rises-append low mid high [] ys rise more = Rises-lower low mid high ys rise more
Rises-append low mid high (x ∷ xs) ys (first, rest) more = (first, Rises-append (x + 1) mid high xs ys rest more)

Rises-above : (low high : ℕ) (xs : List ℕ) (y : ℕ) → Rises low high xs → Contains xs y → low ≤ y
Rises-above low high [] y rise is = absurd (Contains-nil y is)
Rises-above low high (x ∷ xs) y (first, rest) is =
    ⊎_elim (λ here. omega arith) (λ there. let more = Rises-above (x + 1) high xs y rest there in omega arith) (Contains-cons x y xs is)

Rises-Differ : (low high : ℕ) (xs : List ℕ) → Rises low high xs → Differ xs
Rises-Differ low high [] rise = tt
Rises-Differ low high (x ∷ xs) (first, rest) = (λ y is e. let more = Rises-above (x + 1) high xs y rest is in omega arith, Rises-Differ (x + 1) high xs rest)

abbrev pub first_of : Block → ℕ
first_of block = block.first

slots_rise : (test : ℕ → Bool) (base size : ℕ) (f : ℕ → Block) → ((s : ℕ) → first_of (f s) ≡ base + s * size) → 0 < size → (s n : ℕ) → Rises (base + s * size) (base + (s + n) * size) (map first_of (map f (filter test (range_with_len s n))))
slots_rise test base size f each some s zero = omega arith
slots_rise test base size f each some s (suc n) =
    let rest = map first_of (map f (filter test (range_with_len (s + 1) n))) in
    let rec : Rises (base + (s + 1) * size) (base + (s + suc n) * size) rest = Rises-upper (base + (s + 1) * size) (base + (s + 1 + n) * size) (base + (s + suc n) * size) rest (omega arith) (slots_rise test base size f each some (s + 1) n) in
    let here = each s in
    ⊎_elim (λ hit. rw hit (omega arith, Rises-lower (first_of (f s) + 1) (base + (s + 1) * size) (base + (s + suc n) * size) rest (omega arith) rec))
    (λ miss. rw miss (Rises-lower (base + s * size) (base + (s + 1) * size) (base + (s + suc n) * size) rest (omega arith) rec))
    (cases_Bool (test s))

slots_end : (class : ℕ) → class ≤ 5 → slots_of class * slot_words class ≤ 504
slots_end zero le = omega arith
slots_end (suc zero) le = omega arith
slots_end (suc (suc zero)) le = omega arith
slots_end (suc (suc (suc zero))) le = omega arith
slots_end (suc (suc (suc (suc zero)))) le = omega arith
slots_end (suc (suc (suc (suc (suc zero))))) le = omega arith
slots_end (suc (suc (suc (suc (suc (suc class)))))) le = absurd (omega arith)

slot_some : (class : ℕ) → class ≤ 5 → 0 < slot_words class
slot_some zero le = omega arith
slot_some (suc zero) le = omega arith
slot_some (suc (suc zero)) le = omega arith
slot_some (suc (suc (suc zero))) le = omega arith
slot_some (suc (suc (suc (suc zero)))) le = omega arith
slot_some (suc (suc (suc (suc (suc zero))))) le = omega arith
slot_some (suc (suc (suc (suc (suc (suc class)))))) le = absurd (omega arith)

page_rises : (words : List ℕ) (page : ℕ) → Rises (512 * page) (512 * (page + 1)) (map first_of (blocks_of_page words page))
unfolding blocks_of_page
page_rises words page = of (is_small_page words page) (is_big_head words page) (λ small. (and_parts (not (is_inside words page)) (says_small (descriptor_of words page)) small).1)
  where
    small_rises : says_small (descriptor_of words page) ≡ true → Rises (512 * page) (512 * (page + 1)) (map first_of (map (small_block words page) (used_slots words page)))
    small_rises small =
        let class = class_of words page in
        let low = small_class (descriptor_of words page) small in
        let base = 512 * page + 8 in
        let all = map first_of (map (small_block words page) (used_slots words page)) in
        let ends = slots_end class (omega arith) in
        Rises-lower (512 * page) (base + 0 * slot_words class) (512 * (page + 1)) all (omega arith)
        (Rises-upper (base + 0 * slot_words class) (base + (0 + slots_of class) * slot_words class) (512 * (page + 1)) all (omega arith)
        (slots_rise _ base (slot_words class) (small_block words page) (λ s. refl) (slot_some class (omega arith)) 0 (slots_of class)))

    of : (small big : Bool) → (small ≡ true → says_small (descriptor_of words page) ≡ true) → Rises (512 * page) (512 * (page + 1)) (map first_of (blocks_if small big words page))
    of true big is = small_rises (is refl)
    of false true is = (omega arith, omega arith)
    of false false is = omega arith

pages_rise : (f : ℕ → List Block) → ((page : ℕ) → Rises (512 * page) (512 * (page + 1)) (map first_of (f page))) → (n page : ℕ) → Rises (512 * page) (512 * (page + n)) (map first_of (flat_map f (range_with_len page n)))
pages_rise f each zero page = omega arith
pages_rise f each (suc n) page =
    let rest = map first_of (flat_map f (range_with_len (page + 1) n)) in
    rw map-append (Rises-append (512 * page) (512 * (page + 1)) (512 * (page + suc n)) (map first_of (f page)) rest (each page)
    (Rises-upper (512 * (page + 1)) (512 * (page + 1 + n)) (512 * (page + suc n)) rest (omega arith) (pages_rise f each n (page + 1))))

pub blocks_differ : (words : List ℕ) → Differ (map first_of (live_blocks words))
blocks_differ words = Rises-Differ (512 * 0) (512 * (0 + page_count words)) (map first_of (live_blocks words)) (pages_rise (blocks_of_page words) (page_rises words) (page_count words) 0)

-- membership as a test
pub among-true : (xs : List ℕ) (y : ℕ) → Contains xs y → is_among xs y ≡ true
among-true [] y is = absurd (Contains-nil y is)
among-true (x ∷ xs) y is =
    ⊎_elim (λ here. or_left (eqb x y) (is_among xs y) (eq-eqb x y here)) (λ there. or_right (eqb x y) (is_among xs y) (among-true xs y there)) (Contains-cons x y xs is)

Contains-among : (xs : List ℕ) (y : ℕ) → is_among xs y ≡ true → Contains xs y
Contains-among [] y is = cc
Contains-among (x ∷ xs) y is =
    ⊎_elim (λ here. let C : ℕ → Type 0 = λ z. Contains (x ∷ xs) z in subst C (eqb-true x y here) (Contains-here x xs)) (λ there. Contains-there x y xs (Contains-among xs y there)) (or_cases (eqb x y) (is_among xs y) is)

any_one : (test : Block → Bool) (xs : List Block) → list_any test xs ≡ true → (x : Block) × Contains xs x × (test x ≡ true)
any_one test [] is = absurd (cc)
any_one test (x ∷ xs) is =
    ⊎_elim (λ here. (x, Contains-here x xs, here)) (λ there. let found = any_one test xs there in (found.0, Contains-there x found.0 xs found.1, found.2)) (or_cases (test x) (list_any test xs) is)

words_differ : (words before places : List ℕ) → All Holds (distinct_checks words before places) → Differ (map (λ at. get_or words at 0) places) × ((y : ℕ) → Contains before y → Contains (map (λ at. get_or words at 0) places) y → ⊥)
words_differ words before [] hold = (tt, λ y b is. Contains-nil y is)
words_differ words before (at ∷ places) hold =
    let word = get_or words at 0 in
    let first = not-true (is_among before word) (All-head Holds (check at (not (is_among before word))) (distinct_checks words (word ∷ before) places) hold) in
    let found = words_differ words (word ∷ before) places (All-tail Holds (check at (not (is_among before word))) (distinct_checks words (word ∷ before) places) hold) in (
      (λ y is e. let C : ℕ → Type 0 = λ z. Contains (word ∷ before) z in found.1 y (subst C e (Contains-here word before)) is, found.0),
      λ y b is. ⊎_elim (λ here. let C : ℕ → Type 0 = λ z. Contains before z in both_ways (is_among before word) first (among-true before word (subst C (sym here) b)))
          (λ there. found.1 y (Contains-there word y before b) there) (Contains-cons word y (map (λ a. get_or words a 0) places) is),
    )

named_differ : (words : List ℕ) (owners : List Owner) → Differ (map (λ at. get_or words at 0) (map (λ owner. owner.at) owners)) → ((owner : Owner) → Contains owners owner → word_of words owner ≡ pointer_word (named_block words owner)) → Differ (map (named_block words) owners)
named_differ words [] differ points = tt
named_differ words (owner ∷ owners) (fresh, rest) points = (
  λ y is e. let (other, among, named) = Contains-map (named_block words) owners y is in
      fresh (word_of words other) (map-Contains (λ at. get_or words at 0) (map (λ o. o.at) owners) other.at (map-Contains (λ o. o.at) owners other among))
      (points owner (Contains-here owner owners) ∙ ap pointer_word (e ∙ sym named) ∙ sym (points other (Contains-there owner other owners among))),
  named_differ words owners rest (λ other among. points other (Contains-there owner other owners among)),
)

owner_owns : (words : List ℕ) → IsIntact words → (owner : Owner) → Contains (owner_words words) owner → owns_block words owner ≡ true
unfolding owner_rule
owner_owns words intact owner is =
    All-contains Holds (owner_rule words) (check owner.at (owns_block words owner)) intact.owners.checks (map-Contains (λ o. check o.at (owns_block words o)) (owner_words words) owner is)

owner_points : (words : List ℕ) → IsIntact words → (owner : Owner) → Contains (owner_words words) owner → word_of words owner ≡ pointer_word (named_block words owner)
owner_points words intact owner is =
    let parts = and_parts (is_pointer words (word_of words owner)) (is_live words (named_block words owner) owner.block_words) (owner_owns words intact owner is) in
    eqb-true (word_of words owner) (pointer_word (named_block words owner)) (and_parts (eqb (word_of words owner) (pointer_word (named_block words owner))) (ltb (named_block words owner) (length words)) parts.0).0

named_is_live : (words : List ℕ) → IsIntact words → (place : ℕ) → Contains (map (named_block words) (owner_words words)) place → Contains (map first_of (live_blocks words)) place
named_is_live words intact place is =
    let (owner, among, named) = Contains-map (named_block words) (owner_words words) place is in
    let parts = and_parts (is_pointer words (word_of words owner)) (is_live words (named_block words owner) owner.block_words) (owner_owns words intact owner among) in
    let (block, live, same) = any_one (λ b. (b.first == named_block words owner) && (b.words == owner.block_words)) (live_blocks words) parts.1 in
    let first = eqb-true block.first (named_block words owner) (and_parts (eqb block.first (named_block words owner)) (eqb block.words owner.block_words) same).0 in
    let C : ℕ → Type 0 = λ z. Contains (map first_of (live_blocks words)) z in
    subst C (first ∙ named) (map-Contains first_of (live_blocks words) block live)

live_is_named : (words : List ℕ) → IsIntact words → (place : ℕ) → Contains (map first_of (live_blocks words)) place → Contains (map (named_block words) (owner_words words)) place
unfolding owned_rule
live_is_named words intact place is =
    let (block, live, first) = Contains-map first_of (live_blocks words) place is in
    let owners = owner_words words in
    let owned = All-contains Holds (owned_rule words) (check block.first (is_among (map (word_of words) owners) (pointer_word block.first))) intact.owned.checks
    (map-Contains (λ b. check b.first (is_among (map (word_of words) owners) (pointer_word b.first))) (live_blocks words) block live) in
    let (owner, among, points) = Contains-map (word_of words) owners (pointer_word block.first) (Contains-among (map (word_of words) owners) (pointer_word block.first) owned) in
    let C : ℕ → Type 0 = λ z. Contains (map (named_block words) owners) z in
    subst C (ap place_in points ∙ pointers_name_their_place block.first ∙ first) (map-Contains (named_block words) owners owner among)

-- the code of a used slot is that of its key word
code_is : (words : List ℕ) (column : ℕ) (before : List ℕ) (slots : List UsedSlot) → All Holds (code_checks words column before slots) → (slot : UsedSlot) → Contains slots slot → is_code_of words column (get_or words slot.key 0) (get_or words slot.code 0) ≡ true
code_is words column before [] hold slot is = absurd (Contains-nil slot is)
code_is words column before (first ∷ slots) hold slot is =
    let code = get_or words first.code 0 in
    let here_check = check first.code (is_code_of words column (get_or words first.key 0) code && not (is_among before code)) in
    let rest = code_checks words column (code ∷ before) slots in
    let P : UsedSlot → Type 0 = λ s. is_code_of words column (get_or words s.key 0) (get_or words s.code 0) ≡ true in
    ⊎_elim (λ here. subst P here (and_parts (is_code_of words column (get_or words first.key 0) code) (not (is_among before code)) (All-head Holds here_check rest hold)).0)
    (λ there. code_is words column (code ∷ before) slots (All-tail Holds here_check rest hold) slot there) (Contains-cons first slot slots is)

column_codes : (words : List ℕ) → IsIntact words → (column : ℕ) → Contains (all_columns words) column → All Holds (code_checks words column [] (column_slots words column))
unfolding code_rule
column_codes words intact column is k d lt =
    let checks = code_checks words column [] (column_slots words column) in
    All-contains Holds (code_rule words) (get_or checks k d) intact.codes.checks
    (flat_map-Contains (λ c. code_checks words c [] (column_slots words c)) (all_columns words) column (get_or checks k d) is (Contains-get_or checks k d lt))

key_has_slot : (words : List ℕ) → IsIntact words → (column : ℕ) → Contains (all_columns words) column → (key : ℕ) → Contains (key_words words column) key → Contains (map (λ at. get_or words at 0) (dictionary_slots words column)) key
unfolding leaf_pairs column_slots
key_has_slot words intact column is key among =
    let (pair, used, key_is) = Contains-map (λ p. p.key) (used_pairs words column) key among in
    let (leaf, listed, of) = Contains-flat_map (leaf_pairs words) (leaf_list words column) pair used in
    let (slot, set, pair_is) = Contains-map (pair_at words leaf) (leaf_slots words leaf) pair of in
    let used_slot : UsedSlot = record { key = key_at leaf slot; code = code_at leaf slot } in
    let stands = flat_map-Contains (λ l. map (λ s. record { key = key_at l s; code = code_at l s }) (leaf_slots words l)) (leaf_list words column) leaf used_slot listed
    (map-Contains (λ s. record { key = key_at leaf s; code = code_at leaf s }) (leaf_slots words leaf) slot set) in
    coded (get_or words (key_at leaf slot) 0) (get_or words (code_at leaf slot) 0) (ap (λ p. p.key) pair_is ∙ key_is) (code_is words column [] (column_slots words column) (column_codes words intact column is) used_slot stands)
  where
    coded : (word code : ℕ) → word ≡ key → is_code_of words column word code ≡ true → Contains (map (λ at. get_or words at 0) (dictionary_slots words column)) key
    coded word code word_is holds =
        let size = dictionary_length words column in
        let room = capacity words (dictionary_header column) in
        let parts = and_parts (ltb code size && ltb code room) (eqb (dictionary_word words column code) word) holds in
        let within = and_parts (ltb code size) (ltb code room) parts.0 in
        let short : code < size = ltb-true code size within.0 in
        let published : code < room = ltb-true code room within.1 in
        let C : ℕ → Type 0 = λ z. Contains (map (λ at. get_or words at 0) (dictionary_slots words column)) z in
        subst C (eqb-true (dictionary_word words column code) word parts.1 ∙ word_is)
        (map-Contains (λ at. get_or words at 0) (dictionary_slots words column) (place_of words (dictionary_header column) code)
        (map-Contains (place_of words (dictionary_header column)) (below (min size room)) code (below-Contains (min size room) code (omega arith))))

pub intact_has_owners : (words : List ℕ) → IsIntact words → EachBlockHasOneOwner words
unfolding single_owner_rule
intact_has_owners words intact = record {
  blocks = same_members (map first_of (live_blocks words)) (map (named_block words) (owner_words words)) (blocks_differ words)
      (named_differ words (owner_words words) (words_differ words [] (map (λ owner. owner.at) (owner_words words)) intact.single_owners.checks).0 (owner_points words intact))
      (live_is_named words intact) (named_is_live words intact);
  keys = λ k d lt text j e within. key_has_slot words intact (get_or (all_columns words) k d) (Contains-get_or (all_columns words) k d lt) (get_or (key_words words (get_or (all_columns words) k d)) j e) (Contains-get_or (key_words words (get_or (all_columns words) k d)) j e within);
}
