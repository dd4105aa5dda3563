-- Where live blocks stand, and which pages are free.
use Rattle.std.proofs.Common.{◌≡◌, ◌⊎◌, inl, inr, ⊎_elim, ℕ, zero, suc, ◌+◌, ◌-◌, ◌*◌, ◌/◌, ◌%◌, ◌<◌, ◌≤◌, Bool, true, false, not, ◌&&◌, ltb, leb, List, [], ◌∷◌, get_or, map, refl, sym, ◌∙◌, ap, subst, arith}
use Rattle.std.specs.Prelude.{◌==◌, IsTrue, Contains}
use Rattle.std.specs.Int.{bit_at}
use Rattle.std.proofs.lemmas.Bool.{cases_Bool, cases_lt, both_ways, not-true, not_from_false, ltb-true, ltb-false, leb-true, leb-false, le-leb, eqb-true, and_parts, and_from, and_cases, or_cases, cases_order}
use Rattle.std.proofs.lemmas.List.Elements.{All-contains}
use Rattle.image_layout.specs.Places.{below, page_at, page_count}
use Rattle.image_layout.specs.Fixed.{descriptor_at}
use Rattle.image_layout.specs.Blocks.{Block, slot_words, slots_of, descriptor_of, says_small, says_big, inside_after, inside_at, is_inside, is_free_page, is_small_page, is_big_head, is_reserved, class_of, bitmap_of, slot_at, small_block, big_block, used_slots, blocks_if, blocks_of_page, live_blocks}
use Rattle.image_layout.specs.Checks.{Check, check, Keeps}
use Rattle.image_layout.specs.HeapRules.{reserved_rule, descriptor_rule, is_descriptor}
use Rattle.image_layout.specs.HeapLaws.{AreApart, LiveBlocksAreApart, HasWordOf, FreePagesAreUnused}
use Rattle.image_layout.proofs.Members.{Contains-below, below-Contains, Contains-here, Contains-cons, Contains-nil, Contains-flat_map, flat_map-Contains, Contains-map, map-Contains, Contains-filter, filter-Contains}

-- a check that holds
abbrev pub Holds : Check → Type 0
Holds c = IsTrue c.holds

-- a reserved page has the descriptor 8
pub reserved_descriptor : (words : List ℕ) → Keeps words reserved_rule → (page : ℕ) → page < page_count words → is_reserved page ≡ true → descriptor_of words page ≡ 8
unfolding reserved_rule
reserved_descriptor words keeps page lt reserved =
    let checked = All-contains Holds _ _ keeps.checks (map-Contains (λ p. check (descriptor_at p) (descriptor_of words p == 8)) _ page (filter-Contains is_reserved _ page (below-Contains (page_count words) page lt) reserved)) in
    eqb-true (descriptor_of words page) 8 checked

-- another page that isn't inside a big block has a descriptor of those that there are
pub known_descriptor : (words : List ℕ) → Keeps words descriptor_rule → (page : ℕ) → page < page_count words → is_reserved page ≡ false → is_inside words page ≡ false → is_descriptor page (descriptor_of words page) ≡ true
unfolding descriptor_rule
known_descriptor words keeps page lt free outside =
    All-contains Holds _ _ keeps.checks
    (map-Contains (λ p. check (descriptor_at p) (is_descriptor p (descriptor_of words p))) _ page
    (filter-Contains (λ p. not (is_reserved p) && not (is_inside words p)) _ page (below-Contains (page_count words) page lt)
    (and_from (not (is_reserved page)) (not (is_inside words page)) (not_from_false (is_reserved page) free) (not_from_false (is_inside words page) outside))))

-- inside a big block as many pages are left as the head says
pub inside_run : (words : List ℕ) (segment head : ℕ) → inside_at words segment head ≡ 0 → (k page : ℕ) → page ≡ head + 1 + k → k ≤ get_or words (segment * 32768 + head) 0 - 17 → inside_at words segment page ≡ get_or words (segment * 32768 + head) 0 - 17 - k
inside_run words segment head outside zero page is le =
    ap (inside_at words segment) (next_is page head is) ∙ ap (λ i. inside_after i (get_or words (segment * 32768 + head) 0)) outside ∙ omega arith
  where
    next_is : (page head : ℕ) → page ≡ head + 1 + 0 → page ≡ suc head
    next_is page head is = omega arith
inside_run words segment head outside (suc k) page is le =
    let left = get_or words (segment * 32768 + head) 0 - 17 in
    let before : inside_at words segment (head + 1 + k) ≡ suc (left - suc k) = inside_run words segment head outside k (head + 1 + k) refl (omega arith) ∙ omega arith in
    ap (inside_at words segment) (next_is page head k is) ∙ ap (λ i. inside_after i (get_or words (segment * 32768 + (head + 1 + k)) 0)) before ∙ omega arith
  where
    next_is : (page head k : ℕ) → page ≡ head + 1 + suc k → page ≡ suc (head + 1 + k)
    next_is page head k is = omega arith

-- a page that isn't inside a big block has none of its pages left
pub none_inside : (words : List ℕ) (page : ℕ) → is_inside words page ≡ false → inside_at words (page / 64) (page % 64) ≡ 0
unfolding is_inside
none_inside words page outside = omega (arith, ltb-false 0 (inside_at words (page / 64) (page % 64)) outside)

-- a page that isn't inside a big block, behind the head of one, stands behind its last page
pub behind_block : (words : List ℕ) (page other : ℕ) → is_inside words page ≡ false → is_inside words other ≡ false → 17 ≤ descriptor_of words page → page % 64 + (descriptor_of words page - 16) ≤ 64 → page < other → page + (descriptor_of words page - 16) ≤ other
behind_block words page other outside other_outside big ends lt = ⊎_elim inside (λ le. le) (cases_lt other (page + (descriptor_of words page - 16)))
  where
    same_segment : (page other count : ℕ) → page % 64 + count ≤ 64 → page < other → other < page + count → (other / 64 ≡ page / 64) × (other % 64 ≡ page % 64 + 1 + (other - page - 1))
    same_segment page other count ends lt within = (grind arith, grind arith)

    inside : other < page + (descriptor_of words page - 16) → page + (descriptor_of words page - 16) ≤ other
    inside within =
        let same = same_segment page other (descriptor_of words page - 16) ends lt within in
        let run : inside_at words (page / 64) (other % 64) ≡ descriptor_of words page - 17 - (other - page - 1) =
        inside_run words (page / 64) (page % 64) (none_inside words page outside) (other - page - 1) (other % 64) same.1 (omega arith) in
        let here : inside_at words (page / 64) (other % 64) ≡ 0 = ap (λ segment. inside_at words segment (other % 64)) (sym same.0) ∙ none_inside words other other_outside in
        absurd (omega arith)

-- the slots of a page lie in it, one behind the other
pub slot_fits : (class slot : ℕ) → class ≤ 5 → slot < slots_of class → 8 + slot * slot_words class + slot_words class ≤ 512
slot_fits zero slot le lt = omega arith
slot_fits (suc zero) slot le lt = omega arith
slot_fits (suc (suc zero)) slot le lt = omega arith
slot_fits (suc (suc (suc zero))) slot le lt = omega arith
slot_fits (suc (suc (suc (suc zero)))) slot le lt = omega arith
slot_fits (suc (suc (suc (suc (suc zero))))) slot le lt = omega arith
slot_fits (suc (suc (suc (suc (suc (suc class)))))) slot le lt = absurd (omega arith)

pub slots_apart : (class slot other : ℕ) → class ≤ 5 → slot < other → slot * slot_words class + slot_words class ≤ other * slot_words class
slots_apart zero slot other le lt = omega arith
slots_apart (suc zero) slot other le lt = omega arith
slots_apart (suc (suc zero)) slot other le lt = omega arith
slots_apart (suc (suc (suc zero))) slot other le lt = omega arith
slots_apart (suc (suc (suc (suc zero)))) slot other le lt = omega arith
slots_apart (suc (suc (suc (suc (suc zero))))) slot other le lt = omega arith
slots_apart (suc (suc (suc (suc (suc (suc class)))))) slot other le lt = absurd (omega arith)

-- a block of a page: of one of its slots, or the big block that begins there
pub record IsSmallOf (words : List ℕ) (page : ℕ) (block : Block) : Type 0 where
  pub slot : ℕ
  pub outside : is_inside words page ≡ false
  pub small : says_small (descriptor_of words page) ≡ true
  pub within : slot < slots_of (class_of words page)
  pub set : bit_at (bitmap_of words page) slot ≡ 1
  pub block_is : small_block words page slot ≡ block

pub record IsBigOf (words : List ℕ) (page : ℕ) (block : Block) : Type 0 where
  pub outside : is_inside words page ≡ false
  pub big : says_big (descriptor_of words page) ≡ true
  pub block_is : big_block words page ≡ block

small_of : (words : List ℕ) (page : ℕ) (block : Block) → is_small_page words page ≡ true → Contains (map (small_block words page) (used_slots words page)) block → IsSmallOf words page block
small_of words page block small of =
    let parts = and_parts (not (is_inside words page)) (says_small (descriptor_of words page)) small in
    let found = Contains-map (small_block words page) (used_slots words page) block of in
    record {
      slot = found.0;
      outside = not-true (is_inside words page) parts.0;
      small = parts.1;
      within = Contains-below (slots_of (class_of words page)) found.0 (Contains-filter _ _ found.0 found.1).0;
      set = eqb-true (bit_at (bitmap_of words page) found.0) 1 (Contains-filter (λ slot. bit_at (bitmap_of words page) slot == 1) _ found.0 found.1).1;
      block_is = found.2;
    }

big_of : (words : List ℕ) (page : ℕ) (block : Block) → is_big_head words page ≡ true → Contains (big_block words page ∷ []) block → IsBigOf words page block
big_of words page block big of =
    let parts = and_parts (not (is_inside words page)) (says_big (descriptor_of words page)) big in
    record {
      outside = not-true (is_inside words page) parts.0;
      big = parts.1;
      block_is = ⊎_elim (λ here. here) (λ there. absurd (Contains-nil block there)) (Contains-cons (big_block words page) block [] of);
    }

blocks_if-cases : (small big : Bool) (words : List ℕ) (page : ℕ) (block : Block) → Contains (blocks_if small big words page) block
    → ((small ≡ true) × Contains (map (small_block words page) (used_slots words page)) block) ⊎ ((big ≡ true) × Contains (big_block words page ∷ []) block)
blocks_if-cases true big words page block of = inl (refl, of)
blocks_if-cases false true words page block of = inr (refl, of)
blocks_if-cases false false words page block of = absurd (Contains-nil block of)

pub block_cases : (words : List ℕ) (page : ℕ) (block : Block) → Contains (blocks_of_page words page) block → IsSmallOf words page block ⊎ IsBigOf words page block
unfolding blocks_of_page
block_cases words page block of =
    ⊎_elim (λ small. inl (small_of words page block small.0 small.1)) (λ big. inr (big_of words page block big.0 big.1))
    (blocks_if-cases (is_small_page words page) (is_big_head words page) words page block of)

-- a live block is a block of a page
pub page_of_block : (words : List ℕ) (block : Block) → Contains (live_blocks words) block → (page : ℕ) × (page < page_count words) × (IsSmallOf words page block ⊎ IsBigOf words page block)
page_of_block words block live =
    let found = Contains-flat_map (blocks_of_page words) (below (page_count words)) block live in
    (found.0, Contains-below (page_count words) found.0 found.1, block_cases words found.0 block found.2)

pub small_class : (descriptor : ℕ) → says_small descriptor ≡ true → (2 ≤ descriptor) × (descriptor ≤ 7)
small_class descriptor small =
    let parts = and_parts (leb 2 descriptor) (leb descriptor 7) small in
    (leb-true 2 descriptor parts.0, leb-true descriptor 7 parts.1)

pub big_pages : (descriptor : ℕ) → says_big descriptor ≡ true → (17 ≤ descriptor) × (descriptor ≤ 79)
big_pages descriptor big =
    let parts = and_parts (leb 17 descriptor) (leb descriptor 79) big in
    (leb-true 17 descriptor parts.0, leb-true descriptor 79 parts.1)

-- a big block ends in its segment
pub big_ends : (words : List ℕ) → Keeps words reserved_rule → Keeps words descriptor_rule → (page : ℕ) → page < page_count words → is_inside words page ≡ false → says_big (descriptor_of words page) ≡ true → page % 64 + (descriptor_of words page - 16) ≤ 64
big_ends words reserved known page lt outside big =
    ⊎_elim (λ is. let e = reserved_descriptor words reserved page lt is in let size = (big_pages (descriptor_of words page) big).0 in absurd (omega arith))
    (λ free. descriptor_ends page (descriptor_of words page) (known_descriptor words known page lt free outside) big)
    (cases_Bool (is_reserved page))
  where
    descriptor_ends : (page descriptor : ℕ) → is_descriptor page descriptor ≡ true → says_big descriptor ≡ true → page % 64 + (descriptor - 16) ≤ 64
    descriptor_ends page descriptor known big =
        let size = (big_pages descriptor big).0 in
        ⊎_elim (λ low. let le : descriptor ≤ 7 = leb-true descriptor 7 low in absurd (omega arith))
        (λ high. leb-true (page % 64 + (descriptor - 16)) 64 (and_parts (says_big descriptor) (leb (page % 64 + (descriptor - 16)) 64) high).1)
        (or_cases (leb descriptor 7) (says_big descriptor && leb (page % 64 + (descriptor - 16)) 64) known)

-- a block begins in its page, and ends before the next page that isn't inside a big block
pub record StandsIn (words : List ℕ) (page : ℕ) (block : Block) : Type 0 where
  pub outside : is_inside words page ≡ false
  pub begins : page_at page ≤ block.first
  pub ends : (other : ℕ) → is_inside words other ≡ false → page < other → block.first + block.words ≤ page_at other

pub small_stands : (words : List ℕ) (page : ℕ) (block : Block) → IsSmallOf words page block → StandsIn words page block
small_stands words page block of =
    let class = class_of words page in
    let low = small_class (descriptor_of words page) of.small in
    let fits = slot_fits class of.slot (omega arith) of.within in
    let first : slot_at page class of.slot ≡ block.first = ap (λ b. b.first) of.block_is in
    let size : slot_words class ≡ block.words = ap (λ b. b.words) of.block_is in
    record { outside = of.outside; begins = omega arith; ends = λ other outside lt. omega arith }

pub big_stands : (words : List ℕ) → Keeps words reserved_rule → Keeps words descriptor_rule → (page : ℕ) (block : Block) → page < page_count words → IsBigOf words page block → StandsIn words page block
big_stands words reserved known page block lt of =
    let ends = big_ends words reserved known page lt of.outside of.big in
    let size = (big_pages (descriptor_of words page) of.big).0 in
    let first : page_at page ≡ block.first = ap (λ b. b.first) of.block_is in
    let words_is : 512 * (descriptor_of words page - 16) ≡ block.words = ap (λ b. b.words) of.block_is in
    record {
      outside = of.outside;
      begins = omega arith;
      ends = λ other outside later. let behind = behind_block words page other of.outside outside size ends later in omega arith;
    }

pub stands : (words : List ℕ) → Keeps words reserved_rule → Keeps words descriptor_rule → (page : ℕ) (block : Block) → page < page_count words → IsSmallOf words page block ⊎ IsBigOf words page block → StandsIn words page block
stands words reserved known page block lt of = ⊎_elim (small_stands words page block) (big_stands words reserved known page block lt) of

-- two blocks of one page
same_page : (words : List ℕ) (page : ℕ) (block other : Block) → IsSmallOf words page block ⊎ IsBigOf words page block → IsSmallOf words page other ⊎ IsBigOf words page other → (block ≡ other) ⊎ AreApart block other
same_page words page block other of other_of = ⊎_elim (λ a. ⊎_elim (both_small a) (λ b. absurd (mixed a.small b.big)) other_of) (λ a. ⊎_elim (λ b. absurd (mixed b.small a.big)) (λ b. inl (sym a.block_is ∙ b.block_is)) other_of) of
  where
    mixed : says_small (descriptor_of words page) ≡ true → says_big (descriptor_of words page) ≡ true → ⊥
    mixed small big =
        let low = small_class (descriptor_of words page) small in
        let high = big_pages (descriptor_of words page) big in
        omega arith

    both_small : IsSmallOf words page block → IsSmallOf words page other → (block ≡ other) ⊎ AreApart block other
    both_small a b =
        let class = class_of words page in
        let low = small_class (descriptor_of words page) a.small in
        let first : slot_at page class a.slot ≡ block.first = ap (λ c. c.first) a.block_is in
        let size : slot_words class ≡ block.words = ap (λ c. c.words) a.block_is in
        let other_first : slot_at page class b.slot ≡ other.first = ap (λ c. c.first) b.block_is in
        let other_size : slot_words class ≡ other.words = ap (λ c. c.words) b.block_is in
        ⊎_elim (λ same. inl (sym a.block_is ∙ ap (small_block words page) same ∙ b.block_is))
        (λ differ. inr (⊎_elim (λ lt. let apart = slots_apart class a.slot b.slot (omega arith) lt in inl (omega arith))
        (λ lt. let apart = slots_apart class b.slot a.slot (omega arith) lt in inr (omega arith)) differ))
        (cases_order a.slot b.slot)

pub live_blocks_apart : LiveBlocksAreApart
live_blocks_apart words reserved known block other live other_live =
    let (page, lt, of) = page_of_block words block live in
    let (next, other_lt, other_of) = page_of_block words other other_live in
    let here = stands words reserved known page block lt of in
    let there = stands words reserved known next other other_lt other_of in
    ⊎_elim (λ same. let P : ℕ → Type 0 = λ p. IsSmallOf words p other ⊎ IsBigOf words p other in same_page words page block other of (subst P (sym same) other_of))
    (λ differ. inr (⊎_elim (λ before. let ends = here.ends next there.outside before in let begins = there.begins in inl (omega arith))
    (λ behind. let ends = there.ends page here.outside behind in let begins = here.begins in inr (omega arith)) differ))
    (cases_order page next)

-- the head of the big block inside which a page of a segment stands
record HeadOf (words : List ℕ) (segment page : ℕ) : Type 0 where
  pub head : ℕ
  pub before : head < page
  pub outside : inside_at words segment head ≡ 0
  pub big : 17 < get_or words (segment * 32768 + head) 0
  pub reaches : head + (get_or words (segment * 32768 + head) 0 - 16) ≡ page + inside_at words segment page

head_of : (words : List ℕ) (segment page : ℕ) → 0 < inside_at words segment page → HeadOf words segment page
head_of words segment zero inside = absurd (omega arith)
head_of words segment (suc page) inside = ⊎_elim begins (goes_on (head_of words segment page)) (cases_zero (inside_at words segment page))
  where
    cases_zero : (n : ℕ) → (n ≡ 0) ⊎ ((k : ℕ) × (n ≡ suc k))
    cases_zero zero = inl refl
    cases_zero (suc k) = inr (k, refl)

    begins : inside_at words segment page ≡ 0 → HeadOf words segment (suc page)
    begins outside =
        let left : inside_at words segment (suc page) ≡ get_or words (segment * 32768 + page) 0 - 17 = ap (λ i. inside_after i (get_or words (segment * 32768 + page) 0)) outside in
        record { head = page; before = omega arith; outside = outside; big = omega arith; reaches = omega arith }

    goes_on : (0 < inside_at words segment page → HeadOf words segment page) → (k : ℕ) × (inside_at words segment page ≡ suc k) → HeadOf words segment (suc page)
    goes_on before (k, is) =
        let left : inside_at words segment (suc page) ≡ k = ap (λ i. inside_after i (get_or words (segment * 32768 + page) 0)) is in
        let found = before (omega arith) in
        record { head = found.head; before = omega (arith, found.before); outside = found.outside; big = found.big; reaches = omega (arith, found.reaches) }

blocks_if-big : (small big : Bool) (words : List ℕ) (page : ℕ) → small ≡ false → big ≡ true → Contains (blocks_if small big words page) (big_block words page)
blocks_if-big true big words page is_not is = cc
blocks_if-big false true words page is_not is = Contains-here (big_block words page) []
blocks_if-big false false words page is_not is = cc

-- a big block is live
pub big_live : (words : List ℕ) (page : ℕ) → page < page_count words → is_inside words page ≡ false → says_big (descriptor_of words page) ≡ true → Contains (live_blocks words) (big_block words page)
unfolding blocks_of_page
big_live words page lt outside big =
    let size = big_pages (descriptor_of words page) big in
    let not_small : is_small_page words page ≡ false =
    ⊎_elim (λ small. let low = small_class (descriptor_of words page) (and_parts (not (is_inside words page)) (says_small (descriptor_of words page)) small).1 in absurd (omega arith))
    (λ miss. miss) (cases_Bool (is_small_page words page)) in
    flat_map-Contains (blocks_of_page words) (below (page_count words)) page (big_block words page) (below-Contains (page_count words) page lt)
    (blocks_if-big (is_small_page words page) (is_big_head words page) words page not_small
    (and_from (not (is_inside words page)) (says_big (descriptor_of words page)) (not_from_false (is_inside words page) outside) big))

-- a page inside a big block has words of a live block
pub inside_live : (words : List ℕ) → Keeps words reserved_rule → Keeps words descriptor_rule → (page : ℕ) → page < page_count words → is_inside words page ≡ true → (block : Block) × Contains (live_blocks words) block × HasWordOf block page
unfolding is_inside
inside_live words reserved known page lt inside =
    let more : 0 < inside_at words (page / 64) (page % 64) = ltb-true 0 (inside_at words (page / 64) (page % 64)) inside in
    let found = head_of words (page / 64) (page % 64) more in
    let before = found.before in
    let place = head_place (page / 64) (page % 64) found.head before (omega arith) in
    let descriptor_is : descriptor_of words (page / 64 * 64 + found.head) ≡ get_or words (page / 64 * 32768 + found.head) 0 = ap (λ w. get_or words w 0) (omega (arith, place.0, place.1)) in
    let outside : is_inside words (page / 64 * 64 + found.head) ≡ false =
    not_inside words (page / 64 * 64 + found.head) (ap (λ s. inside_at words s ((page / 64 * 64 + found.head) % 64)) place.0 ∙ ap (inside_at words (page / 64)) place.1 ∙ found.outside) in
    let more_pages = found.big in
    let reaches = found.reaches in
    let in_image : page / 64 * 64 + found.head < page_count words = omega arith in
    let big = head_says words reserved known (page / 64 * 64 + found.head) in_image outside (omega arith) in
    (big_block words (page / 64 * 64 + found.head), big_live words (page / 64 * 64 + found.head) in_image outside big, (omega arith, omega arith))
  where
    head_place : (segment page head : ℕ) → head < page → page < 64 → ((segment * 64 + head) / 64 ≡ segment) × ((segment * 64 + head) % 64 ≡ head)
    head_place segment page head before within = (omega arith, omega arith)

    not_inside : (words : List ℕ) (page : ℕ) → inside_at words (page / 64) (page % 64) ≡ 0 → is_inside words page ≡ false
    not_inside words page is = ap (ltb 0) is

    head_says : (words : List ℕ) → Keeps words reserved_rule → Keeps words descriptor_rule → (page : ℕ) → page < page_count words → is_inside words page ≡ false → 17 < descriptor_of words page → says_big (descriptor_of words page) ≡ true
    head_says words reserved known page lt outside more =
        ⊎_elim (λ is. let e = reserved_descriptor words reserved page lt is in absurd (omega arith))
        (λ free. ⊎_elim (λ low. let le : descriptor_of words page ≤ 7 = leb-true (descriptor_of words page) 7 low in absurd (omega arith))
        (λ high. (and_parts (says_big (descriptor_of words page)) (leb (page % 64 + (descriptor_of words page - 16)) 64) high).0)
        (or_cases (leb (descriptor_of words page) 7) (says_big (descriptor_of words page) && leb (page % 64 + (descriptor_of words page - 16)) 64) (known_descriptor words known page lt free outside)))
        (cases_Bool (is_reserved page))

free_unused : (words : List ℕ) → Keeps words reserved_rule → Keeps words descriptor_rule → (page : ℕ) → page < page_count words → is_free_page words page ≡ true
    → (is_reserved page ≡ false) × (is_small_page words page ≡ false) × ((block : Block) → Contains (live_blocks words) block → HasWordOf block page → ⊥)
free_unused words reserved known page lt free =
    let parts = and_parts (not (is_inside words page)) (leb (descriptor_of words page) 1) free in
    let outside = not-true (is_inside words page) parts.0 in
    let low : descriptor_of words page ≤ 1 = leb-true (descriptor_of words page) 1 parts.1 in (
      ⊎_elim (λ is. let e = reserved_descriptor words reserved page lt is in absurd (omega arith)) (λ miss. miss) (cases_Bool (is_reserved page)),
      ⊎_elim (λ small. let class = small_class (descriptor_of words page) (and_parts (not (is_inside words page)) (says_small (descriptor_of words page)) small).1 in absurd (omega arith)) (λ miss. miss) (cases_Bool (is_small_page words page)),
      λ block live has. no_block block live has outside low,
    )
  where
    no_block : (block : Block) → Contains (live_blocks words) block → HasWordOf block page → is_inside words page ≡ false → descriptor_of words page ≤ 1 → ⊥
    no_block block live has outside low =
        let (other, other_lt, of) = page_of_block words block live in
        let there = stands words reserved known other block other_lt of in
        let begins = there.begins in
        ⊎_elim (λ same. no_own block low (let P : ℕ → Type 0 = λ p. IsSmallOf words p block ⊎ IsBigOf words p block in subst P (sym same) of))
        (λ differ. ⊎_elim (λ before. omega (arith, has.0)) (λ behind. let ends = there.ends page outside behind in omega (arith, has.1)) differ)
        (cases_order page other)
      where
        no_own : (block : Block) → descriptor_of words page ≤ 1 → IsSmallOf words page block ⊎ IsBigOf words page block → ⊥
        no_own block low of =
            ⊎_elim (λ a. let class = small_class (descriptor_of words page) a.small in omega arith)
            (λ a. let size = big_pages (descriptor_of words page) a.big in omega arith) of

unused_free : (words : List ℕ) → Keeps words reserved_rule → Keeps words descriptor_rule → (page : ℕ) → page < page_count words
    → (is_reserved page ≡ false) × (is_small_page words page ≡ false) × ((block : Block) → Contains (live_blocks words) block → HasWordOf block page → ⊥) → is_free_page words page ≡ true
unused_free words reserved known page lt (free, not_small, none) =
    let outside : is_inside words page ≡ false =
    ⊎_elim (λ inside. let found = inside_live words reserved known page lt inside in absurd (none found.0 found.1 found.2)) (λ miss. miss) (cases_Bool (is_inside words page)) in
    and_from (not (is_inside words page)) (leb (descriptor_of words page) 1) (not_from_false (is_inside words page) outside)
    (⊎_elim (λ low. low_free outside low)
    (λ high. let big = (and_parts (says_big (descriptor_of words page)) (leb (page % 64 + (descriptor_of words page - 16)) 64) high).0 in
    let size = big_pages (descriptor_of words page) big in
    absurd (none (big_block words page) (big_live words page lt outside big) (omega arith, omega arith)))
    (or_cases (leb (descriptor_of words page) 7) (says_big (descriptor_of words page) && leb (page % 64 + (descriptor_of words page - 16)) 64) (known_descriptor words known page lt free outside)))
  where
    low_free : is_inside words page ≡ false → leb (descriptor_of words page) 7 ≡ true → leb (descriptor_of words page) 1 ≡ true
    low_free outside low =
        ⊎_elim (λ inside. absurd (both_ways (not (is_inside words page)) inside (not_from_false (is_inside words page) outside)))
        (λ miss. ⊎_elim (λ less. let lt : descriptor_of words page < 2 = leb-false 2 (descriptor_of words page) less in le-leb (descriptor_of words page) 1 (omega arith))
        (λ more. absurd (both_ways (leb (descriptor_of words page) 7) more low))
        (and_cases (leb 2 (descriptor_of words page)) (leb (descriptor_of words page) 7) miss))
        (and_cases (not (is_inside words page)) (says_small (descriptor_of words page)) not_small)

pub free_pages_unused : FreePagesAreUnused
free_pages_unused words reserved known page lt = (free_unused words reserved known page lt, unused_free words reserved known page lt)
