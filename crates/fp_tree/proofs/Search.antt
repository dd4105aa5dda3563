-- A search in one leaf, by the slots with the fingerprint of what is looked for.
use Rattle.std.proofs.Common.{◌≡◌, ◌≢◌, ◌⊎◌, inl, inr, ⊎_elim, ℕ, zero, suc, ◌+◌, ◌*◌, ◌/◌, ◌%◌, ◌^◌, ◌<◌, ◌≤◌, Bool, true, false, not, ◌&&◌, cond, eqb, ltb, List, length, get_or, set, refl, sym, ◌∙◌, ap, subst, arith}
use Rattle.std.specs.Int.{bit_at}
use Rattle.std.specs.Ordering.{is_eq, is_gt, is_lt}
use Rattle.std.specs.declared.cmp.Ordering.{Ordering}
use Rattle.std.specs.declared.cmp.Ordering.TheVariants.{Less, Equal, Greater}
use Rattle.std.proofs.lemmas.Bool.{and_from, and_parts, both_ways, cases_Bool, cases_eq, eq-eqb, eqb-true, ltb-false, ltb-true, not-true}
use Rattle.std.proofs.lemmas.List.{get_or-set_other, get_or-set_same}
use Rattle.std.proofs.lemmas.Nat.Bits.{bit_at-zero, bit_at_above}
use Rattle.heap_small.specs.Bitmap.{IsClear, SameBut, without_bit}
use Rattle.heap_palloc.proofs.RulesKept.{without_bit-fits}
use Rattle.image_layout.specs.Records.{code_at, key_at}
use Rattle.image_layout.specs.Trees.{key_below, slot_fingerprint}
use Rattle.mv_model.specs.declared.shape.Kind.TheVariants.{Int as Ints}
use Rattle.fp_inner.specs.Keys.{holds_texts, is_above, is_below, kind_of}
use Rattle.fp_inner.specs.declared.probe.Probe.{Probe}
use Rattle.fp_inner.specs.declared.probe.Probe.TheVariants.{Int, Text}
use Rattle.fp_leaf.specs.Leaf.{fingerprint_of, is_match}
use Rattle.fp_leaf.specs.Slots.{IsBitmapOf, is_used}
use Rattle.tree_cuts.specs.Tree.{HasPrints}
use Rattle.fp_tree.specs.Searched.{IsFoundIn, IsNotIn}
use Rattle.fp_tree.specs.Standing.{count_below, is_key, is_likely, print_of}

-- ── words that are copied ──

pub copied_word : (f : ℕ → ℕ) (words : List ℕ) (word value : ℕ) → word < length words → value ≡ f word → ((k : ℕ) → k < word → get_or words k 0 ≡ f k) → (k : ℕ) → k < word + 1 → get_or (set words word value) k 0 ≡ f k
copied_word f words word value lt is done k within = ⊎_elim
    (λ (same : k ≡ word). ap (λ (n : ℕ). get_or (set words word value) n 0) same ∙ get_or-set_same words word value 0 lt ∙ is ∙ ap f (sym same))
    (λ apart. get_or-set_other words word k value 0 apart ∙ done k (omega (arith, within, apart)))
    (cases_eq k word)

-- ── numbers below one that pass a test ──

pub count_same : (test other : ℕ → Bool) (n : ℕ) → ((k : ℕ) → k < n → test k ≡ other k) → count_below test n ≡ count_below other n
unfolding count_below
count_same test other zero same = refl
count_same test other (suc n) same =
    let rest = count_same test other n (λ k lt. same k (omega (arith, lt))) in
    let here : ◌≡◌ {A = ℕ} (cond (test n) 1 0) (cond (other n) 1 0) = ap (λ (b : Bool). cond b 1 0) (same n (omega arith)) in
    omega (arith, rest, here)

pub count_less : (old new : ℕ → Bool) (slot n : ℕ) → slot < n → old slot ≡ true → new slot ≡ false → ((k : ℕ) → k ≢ slot → new k ≡ old k) → count_below new n + 1 ≡ count_below old n
unfolding count_below
count_less old new slot zero lt was is others = absurd (omega (arith, lt))
count_less old new slot (suc n) lt was is others = ⊎_elim
    (λ (same : n ≡ slot).
    let rest : count_below new n ≡ count_below old n = count_same new old n (λ k below. others k (omega (arith, below, same))) in
    let here : ◌≡◌ {A = ℕ} (cond (old n) 1 0) 1 = ap (λ (k : ℕ). cond (old k) 1 0) same ∙ ap (λ (b : Bool). cond b 1 0) was in
    let now : ◌≡◌ {A = ℕ} (cond (new n) 1 0) 0 = ap (λ (k : ℕ). cond (new k) 1 0) same ∙ ap (λ (b : Bool). cond b 1 0) is in
    omega (arith, rest, here, now))
    (λ apart.
    let rest = count_less old new slot n (omega (arith, lt, apart)) was is others in
    let here : ◌≡◌ {A = ℕ} (cond (new n) 1 0) (cond (old n) 1 0) = ap (λ (b : Bool). cond b 1 0) (others n apart) in
    omega (arith, rest, here))
    (cases_eq n slot)

pub count_some : (test : ℕ → Bool) (slot n : ℕ) → slot < n → test slot ≡ true → 0 < count_below test n
unfolding count_below
count_some test slot zero lt is = absurd (omega (arith, lt))
count_some test slot (suc n) lt is = ⊎_elim
    (λ (same : n ≡ slot).
    let here : ◌≡◌ {A = ℕ} (cond (test n) 1 0) 1 = ap (λ (k : ℕ). cond (test k) 1 0) same ∙ ap (λ (b : Bool). cond b 1 0) is in
    omega (arith, here))
    (λ apart. let rest = count_some test slot n (omega (arith, lt, apart)) is in omega (arith, rest))
    (cases_eq n slot)

-- ── integers that are looked for ──

pub int_probe : (probe : Probe) → kind_of probe ≡ Ints → (key : ℕ) × (probe ≡ Int key)
int_probe (Int key) is = (key, refl)
int_probe (Text text) is = absurd (both_ways true (ap holds_texts is) refl)

pub int_key : (words : List ℕ) (key other : ℕ) → is_key words (Int key) other ≡ true → key ≡ other
unfolding is_below is_above key_below
int_key words key other is =
    let parts = and_parts (not (ltb key other)) (not (ltb other key)) is in
    let low = ltb-false key other (not-true (ltb key other) parts.0) in
    let high = ltb-false other key (not-true (ltb other key) parts.1) in
    omega (arith, low, high)

pub print_of_key : (words : List ℕ) (leaf slot : ℕ) (probe : Probe) → kind_of probe ≡ Ints → HasPrints words leaf → slot < 48 → bit_at (get_or words leaf 0) slot ≡ 1
    → is_key words probe (get_or words (key_at leaf slot) 0) ≡ true → slot_fingerprint words leaf slot ≡ print_of probe
unfolding print_of
print_of_key words leaf slot probe kind prints lt used is =
    let int = int_probe probe kind in
    let same : int.0 ≡ get_or words (key_at leaf slot) 0 = int_key words int.0 _ (subst (λ (p : Probe). is_key words p (get_or words (key_at leaf slot) 0) ≡ true) int.1 is) in
    prints slot lt used ∙ ap (λ (k : ℕ). print_of (Int k)) (sym same) ∙ ap print_of (sym int.1)

pub equal_key : (r : Ordering) → is_eq r ≡ (not (is_lt r) && not (is_gt r))
equal_key Less = refl
equal_key Equal = refl
equal_key Greater = refl

-- ── the search ──

pub record Searching (words : List ℕ) (leaf : ℕ) (probe : Probe) (old left steps : ℕ) : Type 0 where
  pub fits : left < 2 ^ 48
  pub marks : (slot : ℕ) → slot < 48 → is_used left slot ≡ true → is_likely words leaf probe slot ≡ true
  pub tried : (slot : ℕ) → slot < 48 → is_likely words leaf probe slot ≡ true → (is_used left slot ≡ true) ⊎ (is_key words probe (get_or words (key_at leaf slot) 0) ≡ false)
  pub steps_are : steps + count_below (is_used left) 48 ≤ old + count_below (is_likely words leaf probe) 48

pub begins : (words head : List ℕ) (leaf : ℕ) (probe : Probe) (print found steps : ℕ) → ((word : ℕ) → word < 8 → get_or head word 0 ≡ get_or words (leaf + word) 0) → print ≡ print_of probe → IsBitmapOf (is_match head print) found → Searching words leaf probe steps found steps
begins words head leaf probe print found steps same is map =
    let likely : (slot : ℕ) → slot < 48 → is_used found slot ≡ is_likely words leaf probe slot = λ slot lt.
    let bitmap : get_or head 0 0 ≡ get_or words leaf 0 = same 0 (omega arith) ∙ ap (λ (w : ℕ). get_or words w 0) (omega arith) in
    let word : get_or head (2 + slot / 8) 0 ≡ get_or words (leaf + 2 + slot / 8) 0 = same (2 + slot / 8) (omega (arith, lt)) ∙ ap (λ (w : ℕ). get_or words w 0) (omega arith) in
    map.each slot lt
    ∙ ap (λ (bits : ℕ). is_used bits slot && eqb (fingerprint_of head slot) print) bitmap
    ∙ ap (λ (w : ℕ). is_used (get_or words leaf 0) slot && eqb (w / 2 ^ (8 * (slot % 8)) % 256) print) word
    ∙ ap (λ (p : ℕ). is_used (get_or words leaf 0) slot && eqb (slot_fingerprint words leaf slot) p) is in
    let count : count_below (is_used found) 48 ≡ count_below (is_likely words leaf probe) 48 = count_same (is_used found) (is_likely words leaf probe) 48 likely in
    record {
      fits = map.within;
      marks = λ slot lt used. sym (likely slot lt) ∙ used;
      tried = λ slot lt is. inl (likely slot lt ∙ is);
      steps_are = omega (arith, count);
    }

below_or : (n : ℕ) → (n < 48) ⊎ (48 ≤ n)
below_or n = ⊎_elim (λ is. inl (ltb-true n 48 is)) (λ isn't. inr (ltb-false n 48 isn't)) (cases_Bool (ltb n 48))

pub marked_slot : (left slot : ℕ) → left < 2 ^ 48 → bit_at left slot ≡ 1 → slot < 48
marked_slot left slot fits is = ⊎_elim (λ lt. lt) (λ (le : 48 ≤ slot). let none = bit_at_above left 48 slot fits le in absurd (omega (arith, none, is))) (below_or slot)

pub goes_on : (words : List ℕ) (leaf : ℕ) (probe : Probe) (old left new slot steps more : ℕ) → bit_at left slot ≡ 1 → is_key words probe (get_or words (key_at leaf slot) 0) ≡ false → new ≡ without_bit left slot → IsClear new slot → SameBut slot left new → more ≡ steps + 1
    → Searching words leaf probe old left steps → Searching words leaf probe old new more
goes_on words leaf probe old left new slot steps more set_is miss new_is clear others one was =
    let lt = marked_slot left slot was.fits set_is in
    let other : (k : ℕ) → k ≢ slot → is_used new k ≡ is_used left k = λ k apart. ap (λ (bit : ℕ). eqb bit 1) (others k apart) in
    let used : is_used left slot ≡ true = eq-eqb (bit_at left slot) 1 set_is in
    let gone : is_used new slot ≡ false = ap (λ (bit : ℕ). eqb bit 1) clear in
    let fewer = count_less (is_used left) (is_used new) slot 48 lt used gone other in
    let before = was.steps_are in
    record {
      fits = subst (λ (n : ℕ). n < 2 ^ 48) (sym new_is) (without_bit-fits left slot 48 lt was.fits);
      marks = λ k below is. ⊎_elim (λ (same : k ≡ slot). absurd (both_ways (is_used new slot) gone (ap (is_used new) (sym same) ∙ is))) (λ apart. was.marks k below (sym (other k apart) ∙ is)) (cases_eq k slot);
      tried = λ k below is. ⊎_elim
          (λ (same : k ≡ slot). inr (ap (λ (n : ℕ). is_key words probe (get_or words (key_at leaf n) 0)) same ∙ miss))
          (λ apart. ⊎_elim (λ still. inl (other k apart ∙ still)) (λ no. inr no) (was.tried k below is)) (cases_eq k slot);
      steps_are = omega (arith, before, fewer, one);
    }

pub fewer_left : (left new slot : ℕ) → left < 2 ^ 48 → bit_at left slot ≡ 1 → IsClear new slot → SameBut slot left new → count_below (is_used new) 48 < count_below (is_used left) 48
fewer_left left new slot fits set_is clear others =
    let fewer = count_less (is_used left) (is_used new) slot 48 (marked_slot left slot fits set_is) (eq-eqb (bit_at left slot) 1 set_is) (ap (λ (bit : ℕ). eqb bit 1) clear) (λ k apart. ap (λ (bit : ℕ). eqb bit 1) (others k apart)) in
    omega (arith, fewer)

pub found_here : (words : List ℕ) (leaf : ℕ) (probe : Probe) (old left slot steps code : ℕ) → bit_at left slot ≡ 1 → is_key words probe (get_or words (key_at leaf slot) 0) ≡ true → code ≡ get_or words (code_at leaf slot) 0 → Searching words leaf probe old left steps → IsFoundIn words leaf probe code
found_here words leaf probe old left slot steps code set_is hit code_is was =
    let lt = marked_slot left slot was.fits set_is in
    record {
      slot = slot;
      within = lt;
      used = (and_parts (is_used (get_or words leaf 0) slot) (eqb (slot_fingerprint words leaf slot) (print_of probe)) (was.marks slot lt (eq-eqb (bit_at left slot) 1 set_is))).0;
      key_is = hit;
      code_is = code_is;
    }

pub used_bit : (words : List ℕ) (leaf : ℕ) (probe : Probe) (old left slot steps : ℕ) → bit_at left slot ≡ 1 → Searching words leaf probe old left steps → bit_at (get_or words leaf 0) slot ≡ 1
used_bit words leaf probe old left slot steps set_is was =
    let lt = marked_slot left slot was.fits set_is in
    eqb-true (bit_at (get_or words leaf 0) slot) 1 (and_parts (is_used (get_or words leaf 0) slot) (eqb (slot_fingerprint words leaf slot) (print_of probe)) (was.marks slot lt (eq-eqb (bit_at left slot) 1 set_is))).0

pub not_here : (words : List ℕ) (leaf : ℕ) (probe : Probe) (old left steps : ℕ) → kind_of probe ≡ Ints → HasPrints words leaf → left ≡ 0 → Searching words leaf probe old left steps → IsNotIn words leaf probe
not_here words leaf probe old left steps kind prints none was slot lt used = ⊎_elim
    (λ hit.
    let bit : bit_at (get_or words leaf 0) slot ≡ 1 = eqb-true (bit_at (get_or words leaf 0) slot) 1 used in
    let print : slot_fingerprint words leaf slot ≡ print_of probe = print_of_key words leaf slot probe kind prints lt bit hit in
    let likely : is_likely words leaf probe slot ≡ true = and_from (is_used (get_or words leaf 0) slot) (eqb (slot_fingerprint words leaf slot) (print_of probe)) used (eq-eqb (slot_fingerprint words leaf slot) (print_of probe) print) in
    ⊎_elim
    (λ still. absurd (both_ways (is_used left slot) (ap (λ (n : ℕ). is_used n slot) none ∙ ap (λ (bit : ℕ). eqb bit 1) (bit_at-zero slot)) still))
    (λ no. no) (was.tried slot lt likely))
    (λ miss. miss)
    (cases_Bool (is_key words probe (get_or words (key_at leaf slot) 0)))

-- a comparison that is equal
pub compared : (words : List ℕ) (probe : Probe) (key : ℕ) (r : Ordering) → is_lt r ≡ is_below words probe key → is_gt r ≡ is_above words probe key → is_key words probe key ≡ is_eq r
compared words probe key r below above =
    ap (λ (b : Bool). not b && not (is_above words probe key)) (sym below) ∙ ap (λ (b : Bool). not (is_lt r) && not b) (sym above) ∙ sym (equal_key r)

pub some_left : (words : List ℕ) (leaf : ℕ) (probe : Probe) (old left slot steps more : ℕ) → bit_at left slot ≡ 1 → more ≡ steps + 1 → Searching words leaf probe old left steps → more ≤ old + count_below (is_likely words leaf probe) 48
some_left words leaf probe old left slot steps more set_is one was =
    let some = count_some (is_used left) slot 48 (marked_slot left slot was.fits set_is) (eq-eqb (bit_at left slot) 1 set_is) in
    let before = was.steps_are in
    omega (arith, before, some, one)
