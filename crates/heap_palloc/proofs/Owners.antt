-- Which words own a block: an allocation gives its owner's word one, a freeing takes that away, and each other word owns
-- what it did.
use Rattle.std.proofs.Common.{◌≡◌, ◌≢◌, ⊎_elim, ℕ, ◌+◌, ◌-◌, ◌*◌, ◌%◌, ◌<◌, ◌≤◌, true, false, not, leb, List, ◌∷◌, refl, sym, ◌∙◌, ap, subst, arith}
use Rattle.std.specs.Prelude.{Contains}
use Rattle.std.specs.Int.{bit_at}
use Rattle.std.proofs.lemmas.Bool.{and_parts, not-true, leb-true}
use Rattle.std.proofs.lemmas.List.Elements.{Contains-append_left, Contains-append_right, Contains-append_cases}
use Rattle.image_layout.specs.Fixed.{descriptor_at}
use Rattle.image_layout.specs.Pointer.{pointer_word}
use Rattle.image_layout.specs.Places.{page_of, page_at}
use Rattle.pm_model.specs.Plans.{finished}
use Rattle.image_layout.specs.Blocks.{Block, slots_of, slot_at, slot_in, descriptor_of, bitmap_of, class_of, says_small, is_inside, live_blocks}
use Rattle.image_layout.proofs.Heap.{IsSmallOf, IsBigOf, page_of_block, small_class, big_pages, stands, live_blocks_apart}
use Rattle.image_layout.proofs.Members.{Contains-there, Contains-cons}
use Rattle.heap_palloc.specs.Parts.{allocation_parts}
use Rattle.heap_palloc.specs.Shown.{GainsOne}
use Rattle.heap_palloc.specs.Law.{IsElsewhere, KeepsElsewhere, Shows, IsHeapPage, IsIdle, pages_allocation}
use Rattle.heap_palloc.specs.Choice.{Choice, in_page, on_new_page, in_run, choice_allocation, choice_parts, choice_page, choice_pages, choice_block, MayMake, Freed, of_slot, of_pages, freed_allocation, freed_parts, freed_page, freed_pages, freed_block, MayRelease}
use Rattle.heap_palloc.specs.Calls.{KeepsHeapRules, OwnsBlock}
use Rattle.heap_palloc.proofs.Slots.{IsSlotPlace, slot_place, descriptor_outside-lane}
use Rattle.heap_palloc.proofs.BigBlocks.{run_was_free}
use Rattle.heap_palloc.proofs.BigPlans.{take_heads}
use Rattle.heap_palloc.proofs.Changes.{change_settles}
use Rattle.heap_palloc.proofs.Choices.{choice_allocates, freed_frees}
use Rattle.heap_palloc.proofs.GivenBack.{cleaned, cleaned_forgets, cleaned_may, take_run_words, forgets_inside_same}
use Rattle.heap_palloc.proofs.Settled.{gained_live, in_one}

-- ── what a word that owns a block relies on ──

-- the pages behind a block's first one stand inside it
behind_inside : (words : List ℕ) → KeepsHeapRules words → (block : Block) → Contains (live_blocks words) block → (page : ℕ) → is_inside words page ≡ false → page_of block.first < page → page_at page < block.first + block.words → ⊥
behind_inside words rules block live page outside after before =
    let (at, lt, of) = page_of_block words block live in
    let stand = stands words rules.reserved rules.descriptors at block lt of in
    let begins = stand.begins in
    let past = stand.ends page outside (omega (arith, begins, after)) in
    omega (arith, past, before)

-- the descriptor of a page that isn't among those of a plan is a word elsewhere
descriptor_elsewhere : (lane owner page pages other : ℕ) → lane < 16 → 64 ≤ owner % 32768 → 0 < page % 64 → (page ≤ other → other < page + pages → ⊥) → IsElsewhere lane owner page pages (descriptor_at other)
descriptor_elsewhere lane owner page pages other lt low header out = record {
  outside_lane = descriptor_outside-lane lane other lt;
  no_owner = λ e. omega (arith, e, low);
  no_descriptor = λ k from to e. let same : k ≡ other = omega (arith, e) in out (omega (arith, from, same)) (omega (arith, to, same));
  no_bitmap = λ e. omega (arith, e, header);
}

-- so a word elsewhere owns what it did, where its block stays and has none of the plan's pages behind its first one
owns_still : (lane owner page pages : ℕ) (old new : List ℕ) (dest : ℕ) (block : Block) → lane < 16 → 64 ≤ owner % 32768 → 0 < page % 64 → KeepsElsewhere lane owner page pages old new → IsElsewhere lane owner page pages dest
    → Contains (live_blocks new) block → ((k : ℕ) → page_of block.first < k → page_at k < block.first + block.words → page ≤ k → k < page + pages → ⊥) → OwnsBlock old dest block → OwnsBlock new dest block
owns_still lane owner page pages old new dest block lt low header keeps elsewhere live out owns = record {
  live = live;
  named = keeps.each dest elsewhere ∙ owns.named;
  clean = λ k after before. keeps.each (descriptor_at k) (descriptor_elsewhere lane owner page pages k lt low header (out k after before)) ∙ owns.clean k after before;
}

-- ── members of a list with one more ──

pub more_live : (old new : List Block) (one block : Block) → GainsOne old one new → Contains old block → Contains new block
more_live old new one block gains has = subst (λ (xs : List Block). Contains xs block) (sym gains.new_is)
    (⊎_elim (λ front. Contains-append_left gains.front (one ∷ gains.back) block front) (λ back. Contains-append_right gains.front (one ∷ gains.back) block (Contains-there one block gains.back back))
    (Contains-append_cases gains.front gains.back block (subst (λ (xs : List Block). Contains xs block) gains.old_is has)))

less_live : (old new : List Block) (one block : Block) → GainsOne old one new → Contains new block → one ≢ block → Contains old block
less_live old new one block gains has apart = subst (λ (xs : List Block). Contains xs block) (sym gains.old_is)
    (⊎_elim (λ front. Contains-append_left gains.front gains.back block front) (λ back. Contains-append_right gains.front gains.back block (⊎_elim (λ (here : one ≡ block). absurd (apart here)) (λ there. there) (Contains-cons one block gains.back back)))
    (Contains-append_cases gains.front (one ∷ gains.back) block (subst (λ (xs : List Block). Contains xs block) gains.new_is has)))

-- ── an allocation ──

pub choice_idle : (base : List ℕ) (choice : Choice) → MayMake base choice → IsIdle base (choice_allocation base choice).lane (choice_allocation base choice).owner
choice_idle base (in_page s) may = may.idle
choice_idle base (on_new_page s) may = may.idle
choice_idle base (in_run r) may = may.idle

pub choice_heap : (base : List ℕ) (choice : Choice) → MayMake base choice → IsHeapPage base (choice_page choice)
choice_heap base (in_page s) may = may.page_is.page_is
choice_heap base (on_new_page s) may = may.page_is
choice_heap base (in_run r) may = may.run.page_is

one_outside : (base : List ℕ) (page k : ℕ) → is_inside base page ≡ false → page ≤ k → k < page + 1 → is_inside base k ≡ false
one_outside base page k outside low high = ap (is_inside base) (omega (arith, low, high)) ∙ outside

-- none of its pages stands inside a block
choice_outside : (base : List ℕ) (choice : Choice) → MayMake base choice → (k : ℕ) → choice_page choice ≤ k → k < choice_page choice + choice_pages choice → is_inside base k ≡ false
choice_outside base (in_page s) may k low high =
    one_outside base s.page k (not-true (is_inside base s.page) (and_parts (not (is_inside base s.page)) (says_small (descriptor_of base s.page)) may.page_is.small).0) low high
choice_outside base (on_new_page s) may k low high =
    one_outside base s.page k (not-true (is_inside base s.page) (and_parts (not (is_inside base s.page)) (leb (descriptor_of base s.page) 1) may.is_free).0) low high
choice_outside base (in_run r) may k low high =
    let clean = cleaned base r may in
    let free = run_was_free clean (finished (allocation_parts (pages_allocation r)) clean) r.first r.pages (take_heads clean r (cleaned_may base r may)) k low high in
    sym (forgets_inside_same base clean (cleaned_forgets base r may) k) ∙ not-true (is_inside clean k) (and_parts (not (is_inside clean k)) (leb (descriptor_of clean k) 1) free).0

-- another word owns the block that it owned
pub allocation_keeps : (base : List ℕ) (choice : Choice) (dest : ℕ) (block : Block) → KeepsHeapRules base → MayMake base choice → IsElsewhere (choice_allocation base choice).lane (choice_allocation base choice).owner (choice_page choice) (choice_pages choice) dest
    → OwnsBlock base dest block → OwnsBlock (finished (choice_parts base choice) base) dest block
allocation_keeps base choice dest block rules may elsewhere owns =
    let a = choice_allocation base choice in
    let made = choice_allocates base choice may in
    let idle = choice_idle base choice may in
    let final = finished (choice_parts base choice) base in
    let shows = change_settles a.lane a.owner (choice_page choice) (choice_pages choice) base (live_blocks base) 0 (live_blocks final) (pointer_word a.block) (choice_parts base choice) base made.changes in
    owns_still a.lane a.owner (choice_page choice) (choice_pages choice) base final dest block idle.lane_is idle.owner_is.no_descriptor (choice_heap base choice may).behind_header shows.keeps elsewhere
    (more_live (live_blocks base) (live_blocks final) (record { first = a.block; words = (choice_block choice).words }) block made.gains owns.live)
    (λ k after before low high. behind_inside base rules block owns.live k (choice_outside base choice may k low high) after before)
    owns

-- the pages behind the first one of its block have the descriptor 0
choice_clean : (base : List ℕ) (choice : Choice) → MayMake base choice → (page : ℕ) → page_of (choice_block choice).first < page → page_at page < (choice_block choice).first + (choice_block choice).words → descriptor_of (finished (choice_parts base choice) base) page ≡ 0
choice_clean base (in_page s) may page after before = absurd (in_one s.page s.class s.slot may.page_is.class_is may.slot_is page after before)
choice_clean base (on_new_page s) may page after before = absurd (in_one s.page s.class s.slot may.class_is may.slot_is page after before)
choice_clean base (in_run r) may page after before =
    let clean = cleaned base r may in
    let heads = take_heads clean r (cleaned_may base r may) in
    ap (λ (words : List ℕ). descriptor_of words page) (take_run_words base r may)
    ∙ heads.others page (λ e. omega (arith, e, after))
    ∙ ap (descriptor_of clean) (omega (arith, after))
    ∙ (cleaned_may base r may).clean (page - r.first) (omega (arith, after, before))

-- the owner's word owns its block
pub allocation_gives : (base : List ℕ) (choice : Choice) → MayMake base choice → OwnsBlock (finished (choice_parts base choice) base) (choice_allocation base choice).owner (choice_block choice)
allocation_gives base choice may = by choice may (choice_clean base choice may)
  where
    final : Choice → List ℕ
    final c = finished (choice_parts base c) base

    shows : (c : Choice) → MayMake base c → Shows (choice_allocation base c).lane (choice_allocation base c).owner (choice_page c) (choice_pages c) base (live_blocks (finished (choice_parts base c) base)) (pointer_word (choice_allocation base c).block) (finished (choice_parts base c) base)
    shows c m = change_settles (choice_allocation base c).lane (choice_allocation base c).owner (choice_page c) (choice_pages c) base (live_blocks base) 0 (live_blocks (finished (choice_parts base c) base)) (pointer_word (choice_allocation base c).block) (choice_parts base c) base (choice_allocates base c m).changes

    by : (c : Choice) → MayMake base c → ((page : ℕ) → page_of (choice_block c).first < page → page_at page < (choice_block c).first + (choice_block c).words → descriptor_of (finished (choice_parts base c) base) page ≡ 0)
        → OwnsBlock (finished (choice_parts base c) base) (choice_allocation base c).owner (choice_block c)
    by (in_page s) m clean = record { live = gained_live _ _ _ (choice_allocates base (in_page s) m).gains; named = (shows (in_page s) m).word_is; clean = clean }
    by (on_new_page s) m clean = record { live = gained_live _ _ _ (choice_allocates base (on_new_page s) m).gains; named = (shows (on_new_page s) m).word_is; clean = clean }
    by (in_run r) m clean = record { live = gained_live _ _ _ (choice_allocates base (in_run r) m).gains; named = (shows (in_run r) m).word_is; clean = clean }

-- ── its block is a new one ──

-- a slot of a page that isn't small, or whose bit is clear, is where no block begins
slot_unused : (words : List ℕ) (page class slot : ℕ) (block : Block) → class < 6 → slot < slots_of class → (says_small (descriptor_of words page) ≡ true → (class_of words page ≡ class) × (bit_at (bitmap_of words page) slot ≡ 0))
    → Contains (live_blocks words) block → block.first ≢ slot_at page class slot
slot_unused words page class slot block lt slot_lt clear live e =
    let (at, at_lt, of) = page_of_block words block live in
    ⊎_elim (small at) (λ big. let first : page_at at ≡ block.first = ap (λ (b : Block). b.first) big.block_is in omega (arith, first, e, place.behind_bitmap)) of
  where
    place : IsSlotPlace page class slot (slot_at page class slot)
    place = slot_place page class slot lt slot_lt

    here : (of : IsSmallOf words page block) → ⊥
    here of =
        let known = clear of.small in
        let low = small_class (descriptor_of words page) of.small in
        let first : slot_at page (class_of words page) of.slot ≡ block.first = ap (λ (b : Block). b.first) of.block_is in
        let at = slot_place page (class_of words page) of.slot (omega (arith, low)) of.within in
        let same : of.slot ≡ slot = sym at.slot_is ∙ ap (slot_in (class_of words page)) (first ∙ e) ∙ ap (λ (c : ℕ). slot_in c (slot_at page class slot)) known.0 ∙ place.slot_is in
        let set : bit_at (bitmap_of words page) slot ≡ 1 = ap (bit_at (bitmap_of words page)) (sym same) ∙ of.set in
        omega (arith, set, known.1)

    small : (at : ℕ) → IsSmallOf words at block → ⊥
    small at of =
        let low = small_class (descriptor_of words at) of.small in
        let first : slot_at at (class_of words at) of.slot ≡ block.first = ap (λ (b : Block). b.first) of.block_is in
        let there = slot_place at (class_of words at) of.slot (omega (arith, low)) of.within in
        here (subst (λ (p : ℕ). IsSmallOf words p block) (sym there.page_is ∙ ap page_of (first ∙ e) ∙ place.page_is) of)

-- no block begins with a page whose descriptor is that of a free one
page_unused : (words : List ℕ) (page : ℕ) (block : Block) → descriptor_of words page ≤ 1 → Contains (live_blocks words) block → block.first ≢ page_at page
page_unused words page block free live e =
    let (at, at_lt, of) = page_of_block words block live in
    ⊎_elim (small at) (big at) of
  where
    small : (at : ℕ) → IsSmallOf words at block → ⊥
    small at of =
        let low = small_class (descriptor_of words at) of.small in
        let first : slot_at at (class_of words at) of.slot ≡ block.first = ap (λ (b : Block). b.first) of.block_is in
        let there = slot_place at (class_of words at) of.slot (omega (arith, low)) of.within in
        omega (arith, first, e, there.behind_bitmap)

    big : (at : ℕ) → IsBigOf words at block → ⊥
    big at of =
        let first : page_at at ≡ block.first = ap (λ (b : Block). b.first) of.block_is in
        let same : descriptor_of words at ≡ descriptor_of words page = ap (descriptor_of words) (omega (arith, first, e)) in
        let head = (big_pages (descriptor_of words at) of.big).0 in
        omega (arith, same, head, free)

-- no live block begins where the new one does
pub allocation_new : (base : List ℕ) (choice : Choice) (block : Block) → MayMake base choice → Contains (live_blocks base) block → block.first ≢ (choice_block choice).first
allocation_new base (in_page s) block may live = slot_unused base s.page s.class s.slot block may.page_is.class_is may.slot_is (λ small. (omega (arith, may.page_is.descriptor), may.clear)) live
allocation_new base (on_new_page s) block may live =
    let low = leb-true (descriptor_of base s.page) 1 (and_parts (not (is_inside base s.page)) (leb (descriptor_of base s.page) 1) may.is_free).1 in
    slot_unused base s.page s.class s.slot block may.class_is may.slot_is (λ small. absurd (let two = (small_class (descriptor_of base s.page) small).0 in omega (arith, two, low))) live
allocation_new base (in_run r) block may live =
    page_unused base r.first block (subst (λ (p : ℕ). descriptor_of base p ≤ 1) (omega arith) (may.are_free 0 may.run.some)) live

-- ── a freeing ──

pub freed_idle : (base : List ℕ) (freed : Freed) → MayRelease base freed → IsIdle base (freed_allocation base freed).lane (freed_allocation base freed).owner
freed_idle base (of_slot s) may = may.idle
freed_idle base (of_pages r) may = may.idle

pub freed_heap : (base : List ℕ) (freed : Freed) → MayRelease base freed → IsHeapPage base (freed_page freed)
freed_heap base (of_slot s) may = may.page_is.page_is
freed_heap base (of_pages r) may = may.run.page_is

-- its block was live
freed_live : (base : List ℕ) (freed : Freed) → MayRelease base freed → Contains (live_blocks base) (record { first = (freed_allocation base freed).block; words = (freed_block freed).words })
freed_live base freed may = gained_live (live_blocks (finished (freed_parts base freed) base)) (live_blocks base) (record { first = (freed_allocation base freed).block; words = (freed_block freed).words }) (freed_frees base freed may).loses

-- none of its pages stands behind the first one of another block
freed_outside : (base : List ℕ) (freed : Freed) → KeepsHeapRules base → MayRelease base freed → (block : Block) → Contains (live_blocks base) block → block.first ≢ (freed_block freed).first
    → (k : ℕ) → page_of block.first < k → page_at k < block.first + block.words → freed_page freed ≤ k → k < freed_page freed + freed_pages freed → ⊥
freed_outside base (of_slot s) rules may block live apart k after before low high =
    behind_inside base rules block live k (one_outside base s.page k (not-true (is_inside base s.page) (and_parts (not (is_inside base s.page)) (says_small (descriptor_of base s.page)) may.page_is.small).0) low high) after before
freed_outside base (of_pages r) rules may block live apart k after before low high =
    ⊎_elim (λ (same : block ≡ record { first = page_at r.first; words = 512 * r.pages }). apart (ap (λ (b : Block). b.first) same))
    (λ parts. ⊎_elim (λ left. omega (arith, left, before, low)) (λ right. omega (arith, right, after, high)) parts)
    (live_blocks_apart base rules.reserved rules.descriptors block (record { first = page_at r.first; words = 512 * r.pages }) live (freed_live base (of_pages r) may))

-- another word owns the block that it owned, if that is another one
pub freeing_keeps : (base : List ℕ) (freed : Freed) (dest : ℕ) (block : Block) → KeepsHeapRules base → MayRelease base freed → IsElsewhere (freed_allocation base freed).lane (freed_allocation base freed).owner (freed_page freed) (freed_pages freed) dest
    → block.first ≢ (freed_block freed).first → OwnsBlock base dest block → OwnsBlock (finished (freed_parts base freed) base) dest block
freeing_keeps base freed dest block rules may elsewhere apart owns =
    let a = freed_allocation base freed in
    let frees = freed_frees base freed may in
    let idle = freed_idle base freed may in
    let final = finished (freed_parts base freed) base in
    let shows = change_settles a.lane a.owner (freed_page freed) (freed_pages freed) base (live_blocks base) (pointer_word a.block) (live_blocks final) 0 (freed_parts base freed) base frees.changes in
    owns_still a.lane a.owner (freed_page freed) (freed_pages freed) base final dest block idle.lane_is idle.owner_is.no_descriptor (freed_heap base freed may).behind_header shows.keeps elsewhere
    (less_live (live_blocks final) (live_blocks base) (record { first = a.block; words = (freed_block freed).words }) block frees.loses owns.live (λ e. apart (sym (ap (λ (b : Block). b.first) e) ∙ begins freed)))
    (freed_outside base freed rules may block owns.live apart)
    owns
  where
    begins : (f : Freed) → (freed_allocation base f).block ≡ (freed_block f).first
    begins (of_slot s) = refl
    begins (of_pages r) = refl
