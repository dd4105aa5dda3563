-- The stores by which the greater half of a leaf is copied.
use Rattle.std.proofs.Common.{◌≡◌, ⊎_elim, ℕ, zero, suc, ◌+◌, ◌-◌, ◌*◌, ◌^◌, ◌<◌, ◌≤◌, Bool, true, false, cond, ◌||◌, eqb, List, [], ◌∷◌, ◌++◌, length, map, take, drop, get_or, set, refl, sym, ◌∙◌, ap, ap₂, subst, arith}
use Rattle.std.specs.Prelude.{All, Some, slice_get}
use Rattle.std.specs.List.{flat_map, range_with_len}
use Rattle.std.specs.Int.{bit_at, w64, from_le_bytes}
use Rattle.std.proofs.lemmas.Bool.{cases_eq, eqb-true, eqb-false, ne_eqb}
use Rattle.std.proofs.lemmas.Grind.{flat_map-append}
use Rattle.std.proofs.lemmas.List.{append_assoc, append-nil, get_or-drop, get_or-map, get_or_past, get_or-set_same, get_or-set_other, length-append, length-drop, length-map}
use Rattle.std.proofs.lemmas.List.FromFn.{map-range_with_len_more}
use Rattle.std.proofs.lemmas.Nat.Bits.{bit_at-lt, same_from_bits_below}
use Rattle.std.proofs.lemmas.Option.{get_or_from_slice_get}
use Rattle.fp_leaf.specs.Leaf.{has_slot, integer_fingerprint}
use Rattle.fp_leaf.specs.Slots.{IsBitmapOf}
use Rattle.fp_leaf.specs.declared.pair_list.Pair.{Pair as SlotPair}
use Rattle.image_layout.specs.Places.{below}
use Rattle.image_layout.specs.Pointer.{pointer_word}
use Rattle.image_layout.specs.Records.{code_at, key_at, new_leaf_at, next_leaf_at, split_leaf_at}
use Rattle.image_layout.specs.Trees.{key_fingerprint}
use Rattle.pm_model.specs.declared.action.Action.{Action}
use Rattle.pm_model.specs.Plans.{Part, one_store, part_actions, part_end, plan_of, store}
use Rattle.pm_model.proofs.Cuts.{is_among}
use Rattle.pm_model.proofs.Lines.{last_part}
use Rattle.shown_state.specs.Mending.{bitmap_with, copy_part, copy_slot, fill_from, slots_by_key}
use Rattle.shown_state.specs.Packed.{packed_words}
use Rattle.heap_palloc.proofs.Pushed.{pushed-first, pushed-store}
use Rattle.tree_cuts.specs.Split.{sharing_parts}
use Rattle.tree_cuts.proofs.Halves.{greatest-length, greatest-once, halves-sum, ordered-below, ordered-length}
use Rattle.tree_cuts.proofs.Lists.{each-range, flat_map-same}
use Rattle.tree_cuts.proofs.Slots.{bitmap_with-at}
use Rattle.fp_tree.specs.Halving.{key_prints, ordered_pairs, pair_stores, slot_pair}
use Rattle.fp_tree.proofs.Around.{each_at}
use Rattle.fp_tree.proofs.Leaf.{more_slots}

-- ── bytes of a word ──

-- what is made of the pair at a place of the greater half
pub greater_at : (f : SlotPair → ℕ) (pairs : List SlotPair) (place at : ℕ) (pair : SlotPair) → at ≡ 24 + place → slice_get pairs at ≡ Some pair → at < length pairs → get_or (map f (drop 24 pairs)) place 0 ≡ f pair
greater_at f pairs place at pair at_is found lt =
    let size = length-drop 24 pairs in
    get_or-map f (drop 24 pairs) place pair 0 (omega (arith, size, lt, at_is))
    ∙ ap f (get_or-drop 24 pairs place pair ∙ ap (λ (n : ℕ). get_or pairs n pair) (sym at_is) ∙ get_or_from_slice_get pairs at pair pair found)

module _ (bytes eight : List ℕ) (word byte : ℕ) (done : (k : ℕ) → k < byte → get_or eight k 0 ≡ get_or (drop (8 * word) bytes) k 0) where
  -- one byte more, where there is one
  pub byte_here : (value : ℕ) → length eight ≡ 8 → byte < 8 → get_or bytes (8 * word + byte) 0 ≡ value → (k : ℕ) → k < byte + 1 → get_or (set eight byte value) k 0 ≡ get_or (drop (8 * word) bytes) k 0
  byte_here value size lt is k within = ⊎_elim
      (λ (same : k ≡ byte). ap (λ (n : ℕ). get_or (set eight byte value) n 0) same
      ∙ get_or-set_same eight byte value 0 (omega (arith, size, lt)) ∙ sym is ∙ sym (get_or-drop (8 * word) bytes byte 0) ∙ ap (λ (n : ℕ). get_or (drop (8 * word) bytes) n 0) (sym same))
      (λ apart. get_or-set_other eight byte k value 0 apart ∙ done k (omega (arith, within, apart)))
      (cases_eq k byte)

  -- and where there is none
  pub byte_past : length bytes ≤ 8 * word + byte → get_or eight byte 0 ≡ 0 → (k : ℕ) → k < byte + 1 → get_or eight k 0 ≡ get_or (drop (8 * word) bytes) k 0
  byte_past past none k within = ⊎_elim
      (λ (same : k ≡ byte). ap (λ (n : ℕ). get_or eight n 0) same ∙ none ∙ sym (get_or-drop (8 * word) bytes byte 0 ∙ get_or_past bytes (8 * word + byte) 0 past) ∙ ap (λ (n : ℕ). get_or (drop (8 * word) bytes) n 0) (sym same))
      (λ apart. done k (omega (arith, within, apart)))
      (cases_eq k byte)

-- eight bytes that are the same are one word
pub same_word : (xs ys : List ℕ) → ((k : ℕ) → k < 8 → get_or xs k 0 ≡ get_or ys k 0) → from_le_bytes w64 xs ≡ from_le_bytes w64 ys
same_word xs ys each =
    let a = each 0 (omega arith) in
    let b = each 1 (omega arith) in
    let c = each 2 (omega arith) in
    let d = each 3 (omega arith) in
    let e = each 4 (omega arith) in
    let f = each 5 (omega arith) in
    let g = each 6 (omega arith) in
    let h = each 7 (omega arith) in
    rw (a, b, c, d, e, f, g, h) refl

pub prints_length : (pairs : List SlotPair) → length pairs ≡ 48 → length (key_prints (drop 24 pairs)) ≡ 24
prints_length pairs full = let all = length-map (drop 24 pairs) (λ pair. integer_fingerprint pair.key) in let size = length-drop 24 pairs in omega (arith, all, size, full)

-- ── stores ──

fill_more : (place : ℕ) (xs : List ℕ) (value : ℕ) → fill_from place (xs ++ value ∷ []) ≡ fill_from place xs ++ store (place + length xs) value ∷ []
fill_more place [] value = ap (λ (p : ℕ). store p value ∷ []) (here place)
  where
    here : (p : ℕ) → p ≡ p + 0
    here p = omega arith
fill_more place (x ∷ xs) value =
    ap (λ (part : List Action). store place x ∷ part)
    (fill_more (place + 1) xs value ∙ ap (λ (p : ℕ). fill_from (place + 1) xs ++ store p value ∷ []) (there place (length xs)))
  where
    there : (p n : ℕ) → p + 1 + n ≡ p + suc n
    there p n = omega arith

count_below : (n : ℕ) (f : ℕ → ℕ) → length (map f (range_with_len 0 n)) ≡ n
count_below n f = length-map (range_with_len 0 n) f ∙ ranged 0 n
  where
    ranged : (a n : ℕ) → length (range_with_len a n) ≡ n
    ranged a zero = refl
    ranged a (suc n) = ap suc (ranged (a + 1) n)

-- one more word of values that are made of their numbers
pub filled_more : (old plan new : List Action) (f : ℕ → ℕ) (place at n value : ℕ) → plan ≡ old ++ fill_from place (map f (range_with_len 0 n)) → new ≡ plan ++ store at value ∷ [] → at ≡ place + n → value ≡ f n
    → new ≡ old ++ fill_from place (map f (range_with_len 0 (n + 1)))
filled_more old plan new f place at n value plan_is new_is at_is value_is =
    new_is ∙ ap (λ (l : List Action). l ++ store at value ∷ []) plan_is ∙ append_assoc old (fill_from place (map f (range_with_len 0 n))) (store at value ∷ [])
    ∙ ap (λ (l : List Action). old ++ l)
    (ap₂ (λ (p v : ℕ). fill_from place (map f (range_with_len 0 n)) ++ store p v ∷ []) (at_is ∙ ap (λ (k : ℕ). place + k) (sym (count_below n f))) value_is
    ∙ sym (ap (fill_from place) (map-range_with_len_more f 0 n n (omega arith)) ∙ fill_more place (map f (range_with_len 0 n)) (f n)))

-- two more stores, made of a number
pub moved_more : (old plan one new : List Action) (f : ℕ → Part) (n : ℕ) (first second : Action) → plan ≡ old ++ flat_map f (range_with_len 0 n) → one ≡ plan ++ first ∷ [] → new ≡ one ++ second ∷ [] → first ∷ second ∷ [] ≡ f n
    → new ≡ old ++ flat_map f (range_with_len 0 (n + 1))
moved_more old plan one new f n first second plan_is one_is new_is made =
    new_is ∙ ap (λ (l : List Action). l ++ second ∷ []) one_is ∙ append_assoc plan (first ∷ []) (second ∷ [])
    ∙ ap₂ (λ (l m : List Action). l ++ m) plan_is made ∙ append_assoc old (flat_map f (range_with_len 0 n)) (f n)
    ∙ ap (λ (l : List Action). old ++ l)
    (sym (ap (flat_map f) (more_slots n) ∙ flat_map-append f (range_with_len 0 n) (n ∷ []) ∙ ap (λ (l : List Action). flat_map f (range_with_len 0 n) ++ l) (append-nil (f n))))

-- the two stores of a pair of the greater half, whose places and values are known by other names
pub moved_pair : (pairs : List SlotPair) (new slot at : ℕ) (pair : SlotPair) → at ≡ 24 + slot → slice_get pairs at ≡ Some pair → at < length pairs → (first second code : ℕ) → first ≡ key_at new slot → second ≡ first + 1 → code ≡ pair.code
    → store first pair.key ∷ store second code ∷ [] ≡ pair_stores (drop 24 pairs) new slot
moved_pair pairs new slot at pair at_is found lt first second code first_is second_is code_is =
    let next : second ≡ code_at new slot = omega (arith, first_is, second_is) in
    ap₂ (λ (p q : ℕ). store p pair.key ∷ store q code ∷ []) first_is next
    ∙ ap₂ (λ (k v : ℕ). store (key_at new slot) k ∷ store (code_at new slot) v ∷ []) (sym (greater_at (λ p. p.key) pairs slot at pair at_is found lt))
    (code_is ∙ sym (greater_at (λ p. p.code) pairs slot at pair at_is found lt))

-- ── the copy ──

drop_map : {X Y : Type 0} (f : X → Y) (n : ℕ) (xs : List X) → drop n (map f xs) ≡ map f (drop n xs)
drop_map f zero xs = refl
drop_map f (suc n) [] = refl
drop_map f (suc n) (x ∷ xs) = drop_map f n xs

made_at : (words : List ℕ) (leaf : ℕ) (f : SlotPair → ℕ) (slots : List ℕ) (slot : ℕ) → slot < length slots → get_or (map f (map (slot_pair words leaf) slots)) slot 0 ≡ f (slot_pair words leaf (get_or slots slot 0))
made_at words leaf f slots slot lt =
    get_or-map f (map (slot_pair words leaf) slots) slot (slot_pair words leaf 0) 0 (let size = length-map slots (slot_pair words leaf) in omega (arith, size, lt))
    ∙ ap f (get_or-map (slot_pair words leaf) slots slot 0 (slot_pair words leaf 0) lt)

prints_made : (words : List ℕ) (leaf : ℕ) (slots : List ℕ) → key_prints (map (slot_pair words leaf) slots) ≡ map (λ slot. key_fingerprint words false (get_or words (key_at leaf slot) 0)) slots
unfolding key_fingerprint
prints_made words leaf [] = refl
prints_made words leaf (slot ∷ slots) = ap (λ (prints : List ℕ). key_fingerprint words false (get_or words (key_at leaf slot) 0) ∷ prints) (prints_made words leaf slots)

module _ (words : List ℕ) (leaf : ℕ) (full : get_or words leaf 0 ≡ 2 ^ 48 - 1) (pairs : List SlotPair) (sorted : pairs ≡ ordered_pairs words leaf) where
  abbrev greater : List ℕ
  greater = drop 24 (slots_by_key words false leaf)

  pub all_pairs : length pairs ≡ 48
  all_pairs = ap (length {A = SlotPair}) sorted ∙ length-map (slots_by_key words false leaf) (slot_pair words leaf) ∙ ordered-length words leaf full

  greater_is : drop 24 pairs ≡ map (slot_pair words leaf) greater
  greater_is = ap (drop 24) sorted ∙ drop_map (slot_pair words leaf) 24 (slots_by_key words false leaf)

  pairs_copied : (new : ℕ) → flat_map (pair_stores (drop 24 pairs) new) (below 24) ≡ flat_map (copy_slot words leaf greater new) (below 24)
  pairs_copied new =
      ap (λ (those : List SlotPair). flat_map (pair_stores those new) (below 24)) greater_is
      ∙ flat_map-same (pair_stores (map (slot_pair words leaf) greater) new) (copy_slot words leaf greater new) (below 24)
      (each-range (λ slot. pair_stores (map (slot_pair words leaf) greater) new slot ≡ copy_slot words leaf greater new slot) 0 24 (λ slot from lt.
      let within : slot < length greater = (let size = greatest-length words leaf full in omega (arith, size, lt)) in
      ap₂ (λ (key code : ℕ). store (key_at new slot) key ∷ store (new + 9 + 2 * slot) code ∷ [])
      (made_at words leaf (λ pair. pair.key) greater slot within) (made_at words leaf (λ pair. pair.code) greater slot within)))

  prints_copied : (place : ℕ) → fill_from place (packed_words (key_prints (drop 24 pairs)) 6) ≡ fill_from place (packed_words (map (λ slot. key_fingerprint words false (get_or words (key_at leaf slot) 0)) greater) 6)
  prints_copied place = ap (λ (prints : List ℕ). fill_from place (packed_words prints 6)) (ap key_prints greater_is ∙ prints_made words leaf greater)

  -- the whole part
  pub copy_is : (new : ℕ) (old moved printed counted next : List Action) (ones at word : ℕ) → moved ≡ old ++ flat_map (pair_stores (drop 24 pairs) new) (below 24)
      → printed ≡ moved ++ fill_from (new + 2) (packed_words (key_prints (drop 24 pairs)) 6) → counted ≡ printed ++ store new ones ∷ [] → next ≡ counted ++ store at word ∷ []
      → ones ≡ 2 ^ 24 - 1 → at ≡ next_leaf_at new → word ≡ get_or words (next_leaf_at leaf) 0 → next ≡ old ++ copy_part words false leaf new greater
  copy_is new old moved printed counted next ones at word moved_is printed_is counted_is next_is ones_is at_is word_is =
      let pairs_part : Part = flat_map (copy_slot words leaf greater new) (below 24) in
      let prints_part : Part = fill_from (new + 2) (packed_words (map (λ slot. key_fingerprint words false (get_or words (key_at leaf slot) 0)) greater) 6) in
      let moved_now : moved ≡ old ++ pairs_part = moved_is ∙ ap (λ (l : List Action). old ++ l) (pairs_copied new) in
      let printed_now : printed ≡ old ++ (pairs_part ++ prints_part) = printed_is ∙ ap₂ (λ (l m : List Action). l ++ m) moved_now (prints_copied (new + 2)) ∙ append_assoc old pairs_part prints_part in
      let both : next ≡ printed ++ store new ones ∷ store at word ∷ [] = next_is ∙ ap (λ (l : List Action). l ++ store at word ∷ []) counted_is ∙ append_assoc printed (store new ones ∷ []) (store at word ∷ []) in
      both
      ∙ ap (λ (l : List Action). l ++ store new ones ∷ store at word ∷ []) printed_now
      ∙ append_assoc old (pairs_part ++ prints_part) (store new ones ∷ store at word ∷ [])
      ∙ ap (λ (l : List Action). old ++ l) (append_assoc pairs_part prints_part (store new ones ∷ store at word ∷ []))
      ∙ ap (λ (n : ℕ). old ++ (pairs_part ++ (prints_part ++ store new n ∷ store at word ∷ []))) ones_is
      ∙ ap₂ (λ (p v : ℕ). old ++ (pairs_part ++ (prints_part ++ store new (2 ^ 24 - 1) ∷ store p v ∷ []))) at_is word_is

-- the copy has 56 stores
pub copy_length : (words : List ℕ) (leaf new : ℕ) (slots : List ℕ) → length (copy_part words false leaf new slots) ≡ 56
copy_length words leaf new slots = refl

-- ── the bitmap of the half that is kept ──

eqb_turned : (a b : ℕ) → eqb a b ≡ eqb b a
eqb_turned a b = ⊎_elim (λ (same : a ≡ b). ap (λ (n : ℕ). eqb n b) same ∙ ap (λ (n : ℕ). eqb b n) (sym same)) (λ apart. ne_eqb a b apart ∙ sym (ne_eqb b a (λ e. apart (sym e)))) (cases_eq a b)

any_among : (words : List ℕ) (leaf : ℕ) (slots : List ℕ) (slot : ℕ) → has_slot (map (slot_pair words leaf) slots) slot ≡ is_among slots slot
any_among words leaf [] slot = refl
any_among words leaf (s ∷ slots) slot = ap₂ (λ (a b : Bool). a || b) (eqb_turned s slot) (any_among words leaf slots slot)

one_bit : (bit : ℕ) (b : Bool) → bit < 2 → eqb bit 1 ≡ b → bit ≡ cond b 1 0
one_bit bit true lt is = eqb-true bit 1 is
one_bit bit false lt is = let not_one = eqb-false bit 1 is in omega (arith, not_one, lt)

pub half_kept : (words : List ℕ) (leaf : ℕ) → get_or words leaf 0 ≡ 2 ^ 48 - 1 → (pairs : List SlotPair) → pairs ≡ ordered_pairs words leaf → (bitmap : ℕ) → IsBitmapOf (has_slot (drop 24 pairs)) bitmap
    → 2 ^ 48 - 1 - bitmap ≡ bitmap_with (take 24 (slots_by_key words false leaf))
half_kept words leaf full pairs sorted bitmap is =
    let slots = drop 24 (slots_by_key words false leaf) in
    let sum = halves-sum words leaf full in
    let within = is.within in
    let same : bitmap ≡ bitmap_with slots = same_from_bits_below 48 bitmap (bitmap_with slots) within (omega (arith, sum)) (λ slot lt.
    one_bit (bit_at bitmap slot) (is_among slots slot) (bit_at-lt bitmap slot)
    (is.each slot lt ∙ ap (λ (those : List SlotPair). has_slot those slot) (greater_is words leaf full pairs sorted) ∙ any_among words leaf slots slot)
    ∙ sym (bitmap_with-at slots slot (greatest-once words leaf full))) in
    omega (arith, same, sum)

-- ── the parts ──

pub copied_size : (words : List ℕ) (leaf new : ℕ) (slots : List ℕ) (old next : List Action) → next ≡ old ++ copy_part words false leaf new slots → length next ≡ length old + 56
copied_size words leaf new slots old next is = ap (length {A = Action}) is ∙ length-append old (copy_part words false leaf new slots) ∙ ap (λ (n : ℕ). length old + n) (copy_length words leaf new slots)

-- the copy, ended
pub copied_part : (words : List ℕ) (leaf new : ℕ) (slots : List ℕ) (old next ended : List Action) → next ≡ old ++ copy_part words false leaf new slots → ended ≡ next ++ part_end (drop (length next - 56) next)
    → ended ≡ old ++ part_actions (copy_part words false leaf new slots)
copied_part words leaf new slots old next ended next_is ended_is =
    let part : Part = copy_part words false leaf new slots in
    ended_is ∙ ap (λ (l : List Action). next ++ part_end l) (last_part old part next 56 next_is (sym (copy_length words leaf new slots)))
    ∙ ap (λ (l : List Action). l ++ part_end part) next_is ∙ append_assoc old part (part_end part)

-- the whole sharing
pub shared : (words : List ℕ) (column leaf new : ℕ) (old copied halved linked closed done : List Action) (half at link first second : ℕ)
    → copied ≡ old ++ part_actions (copy_part words false leaf new (drop 24 (slots_by_key words false leaf)))
    → halved ≡ copied ++ part_actions (one_store leaf half) → linked ≡ halved ++ part_actions (one_store at link) → closed ≡ linked ++ part_actions (one_store first 0) → done ≡ closed ++ part_actions (one_store second 0)
    → half ≡ bitmap_with (take 24 (slots_by_key words false leaf)) → at ≡ next_leaf_at leaf → link ≡ pointer_word new → first ≡ new_leaf_at column → second ≡ split_leaf_at column
    → done ≡ old ++ plan_of (sharing_parts words column (record { leaf = leaf; new = new }))
shared words column leaf new old copied halved linked closed done half at link first second copied_is halved_is linked_is closed_is done_is half_is at_is link_is first_is second_is =
    let copy : Part = copy_part words false leaf new (drop 24 (slots_by_key words false leaf)) in
    let one : Part = one_store leaf (bitmap_with (take 24 (slots_by_key words false leaf))) in
    let two : Part = one_store (next_leaf_at leaf) (pointer_word new) in
    let three : Part = one_store (new_leaf_at column) 0 in
    let a = pushed-first old copied copy copied_is in
    let b = pushed-store old copied halved (copy ∷ []) leaf half leaf (bitmap_with (take 24 (slots_by_key words false leaf))) a halved_is refl half_is in
    let d = pushed-store old halved linked (copy ∷ one ∷ []) at link (next_leaf_at leaf) (pointer_word new) b linked_is at_is link_is in
    let e = pushed-store old linked closed (copy ∷ one ∷ two ∷ []) first 0 (new_leaf_at column) 0 d closed_is first_is refl in
    pushed-store old closed done (copy ∷ one ∷ two ∷ three ∷ []) second 0 (split_leaf_at column) 0 e done_is second_is refl

-- each pair of a full leaf has one of 48 slots
pub small_slots : (words : List ℕ) (leaf : ℕ) → get_or words leaf 0 ≡ 2 ^ 48 - 1 → (pairs : List SlotPair) → pairs ≡ ordered_pairs words leaf → All (λ pair. pair.slot < 48) pairs
small_slots words leaf full pairs sorted =
    let slots = slots_by_key words false leaf in
    subst (All (λ (pair : SlotPair). pair.slot < 48)) (sym sorted) (λ k d lt.
    let within : k < length slots = (let size = length-map slots (slot_pair words leaf) in omega (arith, size, lt)) in
    subst (λ (pair : SlotPair). pair.slot < 48) (sym (get_or-map (slot_pair words leaf) slots k 0 d within)) (each_at (λ slot. slot < 48) slots (ordered-below words leaf full) k 0 within))

-- the pair in the middle has the least key of the greater half
pub greater_key : (words : List ℕ) (leaf : ℕ) → get_or words leaf 0 ≡ 2 ^ 48 - 1 → (pairs : List SlotPair) → pairs ≡ ordered_pairs words leaf → (pair : SlotPair) → slice_get pairs 24 ≡ Some pair
    → pair.key ≡ get_or words (key_at leaf (get_or (drop 24 (slots_by_key words false leaf)) 0 0)) 0
greater_key words leaf full pairs sorted pair found =
    let slots = drop 24 (slots_by_key words false leaf) in
    let size = all_pairs words leaf full pairs sorted in
    sym (greater_at (λ p. p.key) pairs 0 24 pair refl found (omega (arith, size)))
    ∙ ap (λ (those : List SlotPair). get_or (map (λ p. p.key) those) 0 0) (greater_is words leaf full pairs sorted)
    ∙ made_at words leaf (λ p. p.key) slots 0 (let long = greatest-length words leaf full in omega (arith, long))

-- a part of one store, whose place and value are known by other names
pub noted_part : (old new : List Action) (place value column leaf : ℕ) → new ≡ old ++ part_actions (one_store place value) → place ≡ split_leaf_at column → value ≡ pointer_word leaf
    → new ≡ old ++ part_actions (one_store (split_leaf_at column) (pointer_word leaf))
noted_part old new place value column leaf is place_is value_is = is ∙ ap₂ (λ (p v : ℕ). old ++ part_actions (one_store p v)) place_is value_is
