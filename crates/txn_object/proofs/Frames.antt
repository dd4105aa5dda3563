-- An object whose count and pointers stay: its segments and the places of its entries stay too.
use Rattle.std.proofs.Common.{◌≡◌, ◌≢◌, ◌⊎◌, inl, inr, ⊎_elim, ℕ, zero, suc, ◌+◌, ◌-◌, ◌*◌, ◌/◌, ◌%◌, ◌^◌, ◌<◌, ◌≤◌, min, Bool, true, not, ◌&&◌, ◌||◌, eqb, leb, ltb, List, ◌++◌, length, map, get_or, refl, sym, ◌∙◌, ap, subst, arith}
use Rattle.std.specs.List.{flat_map}
use Rattle.std.proofs.lemmas.Bool.{cases_eq, cases_lt, leb-true, le-leb}
use Rattle.image_layout.specs.Pointer.{pointer_word}
use Rattle.image_layout.specs.Fixed.{state_at, commit_word_at, ready_at, last_at, entry_at, first_segment_at}
use Rattle.image_layout.specs.Places.{below, place_in, is_pointer_to, is_null_or_pointer_to}
use Rattle.image_layout.specs.Records.{segment_entry_at}
use Rattle.image_layout.specs.Objects.{commit_word, ready_count, segment_pointer_at, segment_of, pointer_after, ready_segments, entry_places}
use Rattle.image_layout.specs.EntryRules.{is_among, is_segment_pointer}
use Rattle.image_layout.proofs.Ranges.{map_same}
use Rattle.txn_object.specs.Shown.{HasObject}
use Rattle.txn_object.proofs.Places.{places_up_to, all_places, own_place, more_place, length-entry_places}
use Rattle.txn_object.proofs.Rule.{at_most_32, commit_ok, pointer_rule, after_ok, within, rule_from}

pub record SameFrame (old new : List ℕ) (object : ℕ) : Type 0 where
  pub size : length new ≡ length old
  pub ready : get_or new (ready_at object) 0 ≡ get_or old (ready_at object) 0
  pub pointers : (k : ℕ) → k ≤ ready_count old object → get_or new (segment_pointer_at old object k) 0 ≡ get_or old (segment_pointer_at old object k) 0

-- pointers that stay lead to the same segments
pub pointer_same : (old new : List ℕ) (object count : ℕ) → ((k : ℕ) → k < count → get_or new (segment_pointer_at old object k) 0 ≡ get_or old (segment_pointer_at old object k) 0)
    → (k : ℕ) → k ≤ count → segment_pointer_at new object k ≡ segment_pointer_at old object k
pointer_same old new object count same zero le = refl
pointer_same old new object count same (suc k) le =
    ap (λ (at : ℕ). place_in (get_or new at 0)) (pointer_same old new object count same k (omega (arith, le))) ∙ ap place_in (same k (omega (arith, le)))

pub segment_same : (old new : List ℕ) (object count : ℕ) → ((k : ℕ) → k < count → get_or new (segment_pointer_at old object k) 0 ≡ get_or old (segment_pointer_at old object k) 0)
    → (k : ℕ) → k < count → segment_of new object k ≡ segment_of old object k
segment_same old new object count same k lt = ap (λ (at : ℕ). place_in (get_or new at 0)) (pointer_same old new object count same k (omega (arith, lt))) ∙ ap place_in (same k lt)

pub places_up_to_same : (old new : List ℕ) (object count : ℕ) → ((k : ℕ) → k < count → get_or new (segment_pointer_at old object k) 0 ≡ get_or old (segment_pointer_at old object k) 0)
    → places_up_to new object count ≡ places_up_to old object count
places_up_to_same old new object count same =
    ap (λ (l : List ℕ). map (entry_at object) (below 60) ++ flat_map (λ segment. map (segment_entry_at segment) (below 255)) l)
    (map_same (segment_of new object) (segment_of old object) 0 count (λ k le lt. segment_same old new object count same k (omega (arith, lt))))

-- a pointer to a segment is judged by its word and the size of the image
pub pointer_to-same : (old new : List ℕ) (word : ℕ) → length new ≡ length old → is_pointer_to new 256 word ≡ is_pointer_to old 256 word
pointer_to-same old new word size = ap (λ (n : ℕ). (eqb word (pointer_word (place_in word)) && ltb (place_in word) n) && leb (place_in word % 32768 + 256) 32768) size

pub segment_pointer-same : (old new : List ℕ) (object k : ℕ) → length new ≡ length old → ((j : ℕ) → j ≤ k → get_or new (segment_pointer_at old object j) 0 ≡ get_or old (segment_pointer_at old object j) 0)
    → is_segment_pointer new object k ≡ is_segment_pointer old object k
segment_pointer-same old new object k size same =
    let below_k : (j : ℕ) → j < k + 1 → get_or new (segment_pointer_at old object j) 0 ≡ get_or old (segment_pointer_at old object j) 0 = λ j lt. same j (omega (arith, lt)) in
    let word : get_or new (segment_pointer_at new object k) 0 ≡ get_or old (segment_pointer_at old object k) 0 =
    ap (λ (at : ℕ). get_or new at 0) (pointer_same old new object (k + 1) below_k k (omega arith)) ∙ same k (omega arith) in
    let before : map (segment_of new object) (below k) ≡ map (segment_of old object) (below k) = map_same (segment_of new object) (segment_of old object) 0 k (λ j le lt. segment_same old new object (k + 1) below_k j (omega (arith, lt))) in
    let here = segment_same old new object (k + 1) below_k k (omega arith) in
    ap (λ (b : Bool). b && not (is_among (map (segment_of new object) (below k)) (segment_of new object k)))
    (pointer_to-same old new (get_or new (segment_pointer_at new object k) 0) size ∙ ap (is_pointer_to old 256) word)
    ∙ ap (λ (l : List ℕ). is_pointer_to old 256 (get_or old (segment_pointer_at old object k) 0) && not (is_among l (segment_of new object k))) before
    ∙ ap (λ (s : ℕ). is_pointer_to old 256 (get_or old (segment_pointer_at old object k) 0) && not (is_among (map (segment_of old object) (below k)) s)) here

module _ (old new : List ℕ) (object : ℕ) (frame : SameFrame old new object) where
  abbrev Below : Type 0
  Below = (k : ℕ) → k < ready_count old object → get_or new (segment_pointer_at old object k) 0 ≡ get_or old (segment_pointer_at old object k) 0

  pub ready_pointers_same : (k : ℕ) → k < ready_count old object → get_or new (segment_pointer_at old object k) 0 ≡ get_or old (segment_pointer_at old object k) 0
  ready_pointers_same k lt = frame.pointers k (omega (arith, lt))

  pub frame_places : entry_places new object ≡ entry_places old object
  frame_places =
      all_places new object ∙ ap (λ (n : ℕ). places_up_to new object n) frame.ready ∙ places_up_to_same old new object (ready_count old object) ready_pointers_same ∙ sym (all_places old object)

  pub frame_segments : ready_segments new object ≡ ready_segments old object
  frame_segments =
      ap (λ (n : ℕ). map (segment_of new object) (below n)) frame.ready
      ∙ map_same (segment_of new object) (segment_of old object) 0 (ready_count old object) (λ k le lt. segment_same old new object (ready_count old object) ready_pointers_same k (omega (arith, lt)))

  after_word : get_or new (pointer_after new object) 0 ≡ get_or old (pointer_after old object) 0
  after_word =
      ap (λ (n : ℕ). get_or new (segment_pointer_at new object n) 0) frame.ready
      ∙ ap (λ (at : ℕ). get_or new at 0) (pointer_same old new object (ready_count old object) ready_pointers_same (ready_count old object) (omega arith))
      ∙ frame.pointers (ready_count old object) (omega arith)

  -- a commit word that stays is one of the numbers so far, and the next
  pub commit_stays : HasObject old object → get_or new (commit_word_at object) 0 ≡ get_or old (commit_word_at object) 0 → get_or old last_at 0 ≤ get_or new last_at 0
      → leb (commit_word new object) (min (get_or new last_at 0 + 1) (2 ^ 40 - 1)) ≡ true
  commit_stays has commit last =
      let was = leb-true (commit_word old object) (min (get_or old last_at 0 + 1) (2 ^ 40 - 1)) (commit_ok old object has.rule) in
      le-leb (commit_word new object) (min (get_or new last_at 0 + 1) (2 ^ 40 - 1)) (omega (arith, was, commit, last))

  -- the object is one as before, with whatever state and commit word
  pub frame_object : HasObject old object → get_or new (state_at object) 0 ≤ 1 → leb (commit_word new object) (min (get_or new last_at 0 + 1) (2 ^ 40 - 1)) ≡ true → HasObject new object
  frame_object has state commit =
      let ready = frame.ready in
      let most = at_most_32 old object has.rule in
      let segment : (k : ℕ) → k < ready_count new object → segment_of new object k ≡ segment_of old object k = λ k lt. segment_same old new object (ready_count old object) ready_pointers_same k (omega (arith, lt, ready)) in
      record {
        number = has.number;
        size = subst (λ (n : ℕ). 2048 ≤ n) (sym frame.size) has.size;
        whole = subst (λ (n : ℕ). n % 32768 ≡ 0) (sym frame.size) has.whole;
        rule = rule_from new object state
            commit
            (omega (arith, ready, most))
            (λ k lt. segment_pointer-same old new object k frame.size (λ j le. frame.pointers j (omega (arith, le, lt, ready))) ∙ pointer_rule old object has.rule k (omega (arith, lt, ready)))
            (ap (λ (b : Bool). eqb (get_or new (pointer_after new object) 0) 0 || b) (pointer_to-same old new (get_or new (pointer_after new object) 0) frame.size) ∙ ap (is_null_or_pointer_to old 256) after_word ∙ after_ok old object has.rule);
        behind = λ k lt. let same = segment k lt in let low = has.behind k (omega (arith, lt, ready)) in omega (arith, same, low);
        apart = λ k other lt below.
            let one = segment k (omega (arith, lt, below)) in let two = segment other below in
            ⊎_elim (λ before. inl (omega (arith, before, one, two))) (λ after. inr (omega (arith, after, one, two))) (has.apart k other lt (omega (arith, below, ready)));
      }

-- ── where the entries of an object stand ──

-- an entry of the object, or one of a ready segment
pub record InSegment (words : List ℕ) (object nth place : ℕ) : Type 0 where
  pub segment : ℕ
  pub entry : ℕ
  pub ready : segment < ready_count words object
  pub small : entry < 255
  pub nth_is : nth ≡ 60 + 255 * segment + entry
  pub place_is : place ≡ segment_of words object segment + 1 + entry

pub place_cases : (words : List ℕ) (object nth : ℕ) → nth < length (entry_places words object)
    → ((nth < 60) × (get_or (entry_places words object) nth 0 ≡ entry_at object nth)) ⊎ InSegment words object nth (get_or (entry_places words object) nth 0)
place_cases words object nth lt = ⊎_elim
    (λ own. inl (own, own_place words object nth own))
    (λ more.
    let k = (nth - 60) / 255 in let j = (nth - 60) % 255 in
    let ready : (nth - 60) / 255 < ready_count words object = omega (arith, lt, more, length-entry_places words object) in
    let small : (nth - 60) % 255 < 255 = omega arith in
    let is : nth ≡ 60 + 255 * ((nth - 60) / 255) + (nth - 60) % 255 = omega (arith, more) in
    inr (record {
      segment = (nth - 60) / 255;
      entry = (nth - 60) % 255;
      ready = ready;
      small = small;
      nth_is = is;
      place_is = ap (λ (n : ℕ). get_or (entry_places words object) n 0) is ∙ more_place words object ((nth - 60) / 255) ((nth - 60) % 255) ready small;
    }))
    (cases_lt nth 60)

module _ (words : List ℕ) (object : ℕ) (has : HasObject words object) where
  pub both_apart : (a b : ℕ) → a ≢ b → a < ready_count words object → b < ready_count words object
      → (segment_of words object a + 256 ≤ segment_of words object b) ⊎ (segment_of words object b + 256 ≤ segment_of words object a)
  both_apart a b ne la lb = ⊎_elim (λ lt. has.apart a b lt lb)
      (λ ge. ⊎_elim (λ before. inr before) (λ after. inl after) (has.apart b a (omega (arith, ne, ge)) la))
      (cases_lt a b)

  -- no pointer stands in the words before the first one
  pub pointer_not_low : (k w : ℕ) → k ≤ ready_count words object → w < first_segment_at object → segment_pointer_at words object k ≢ w
  pointer_not_low zero w le low e = omega (arith, low, e)
  pointer_not_low (suc k) w le low e = let far = has.behind k (omega (arith, le)) in let number = has.number in omega (arith, far, number, low, e)

  -- no entry stands in a fixed word or at a pointer
  pub entry_not_fixed : (nth w : ℕ) → nth < length (entry_places words object) → w < 2048 → (w < entry_at object 0) ⊎ (entry_at object 60 ≤ w) → get_or (entry_places words object) nth 0 ≢ w
  entry_not_fixed nth w lt low out e = ⊎_elim
      (λ own. let at = own.1 in let small = own.0 in ⊎_elim (λ before. omega (arith, at, small, e, before)) (λ behind. omega (arith, at, small, e, behind)) out)
      (λ more. let at = more.place_is in let far = has.behind more.segment more.ready in omega (arith, at, far, e, low))
      (place_cases words object nth lt)

  pub entry_not_pointer : (nth k : ℕ) → nth < length (entry_places words object) → k ≤ ready_count words object → get_or (entry_places words object) nth 0 ≢ segment_pointer_at words object k
  entry_not_pointer nth zero lt le e = entry_not_fixed nth (first_segment_at object) lt (let number = has.number in omega (arith, number)) (inl (omega arith)) e
  entry_not_pointer nth (suc k) lt le e = ⊎_elim
      (λ own. let at = own.1 in let small = own.0 in let number = has.number in let far = has.behind k (omega (arith, le)) in omega (arith, at, small, number, far, e))
      (λ more. let at = more.place_is in let small = more.small in ⊎_elim
      (λ (same : more.segment ≡ k). let here = ap (segment_of words object) same in omega (arith, at, here, e))
      (λ ne. ⊎_elim (λ before. omega (arith, before, at, small, e)) (λ after. omega (arith, after, at, small, e)) (both_apart more.segment k ne more.ready (omega (arith, le))))
      (cases_eq more.segment k))
      (place_cases words object nth lt)

  pub entry_in : (nth : ℕ) → nth < length (entry_places words object) → get_or (entry_places words object) nth 0 < length words
  entry_in nth lt = ⊎_elim
      (λ own. let at = own.1 in let small = own.0 in let number = has.number in let size = has.size in omega (arith, at, small, number, size))
      (λ more. let at = more.place_is in let small = more.small in
      let there = within words object has.rule has.whole more.segment (more.entry + 1) more.ready (omega (arith, small)) in omega (arith, at, there))
      (place_cases words object nth lt)

  -- two entries stand at two places
  pub entries_differ : (nth other : ℕ) → nth < length (entry_places words object) → other < length (entry_places words object) → nth ≢ other → get_or (entry_places words object) nth 0 ≢ get_or (entry_places words object) other 0
  entries_differ nth other lt lo ne e = ⊎_elim
      (λ own. ⊎_elim
      (λ own2. let a = own.1 in let b = own2.1 in omega (arith, a, b, e, ne))
      (λ more2. let a = own.1 in let small = own.0 in let number = has.number in let b = more2.place_is in let far = has.behind more2.segment more2.ready in omega (arith, a, b, small, number, far, e))
      (place_cases words object other lo))
      (λ more. ⊎_elim
      (λ own2. let a = own2.1 in let small = own2.0 in let number = has.number in let b = more.place_is in let far = has.behind more.segment more.ready in omega (arith, a, b, small, number, far, e))
      (λ more2. ⊎_elim
      (λ (same : more.segment ≡ more2.segment).
      let here = ap (segment_of words object) same in let a = more.place_is in let b = more2.place_is in let x = more.nth_is in let y = more2.nth_is in omega (arith, same, here, a, b, x, y, e, ne))
      (λ apart. let a = more.place_is in let b = more2.place_is in let x = more.small in let y = more2.small in
      ⊎_elim (λ before. omega (arith, before, a, b, x, y, e)) (λ after. omega (arith, after, a, b, x, y, e)) (both_apart more.segment more2.segment apart more.ready more2.ready))
      (cases_eq more.segment more2.segment))
      (place_cases words object other lo))
      (place_cases words object nth lt)
