-- A retire: what its parts leave.
use Rattle.std.proofs.Common.{◌≡◌, ◌≢◌, ◌⊎◌, inl, inr, ⊎_elim, ℕ, zero, suc, ◌+◌, ◌<◌, ◌≤◌, Bool, true, false, cond, eqb, List, [], ◌∷◌, ◌++◌, length, take, map, get_or, set, refl, sym, ◌∙◌, ap, subst, arith}
use Rattle.std.proofs.lemmas.Bool.{cases_lt, cases_Bool, both_ways, eq-eqb, eqb-true, or_left, or_right, or_cases}
use Rattle.std.proofs.lemmas.List.{get_or-set_same, get_or-set_other, length-set, length-append, length-map, length-take-le, get_or-take, get_or_append_left, get_or-append-add, get_or-map, map-append}
use Rattle.image_layout.specs.Fixed.{state_at, commit_word_at, ready_at}
use Rattle.pm_model.specs.Device.{IsBetween}
use Rattle.pm_model.specs.Plans.{Part, store, stores, words_after, finished, EachCut, IsPart, IsPlan}
use Rattle.image_layout.specs.Objects as objects
use Rattle.image_layout.specs.Objects.{ready_count, segment_pointer_at, segment_of, entry_places}
use Rattle.pm_model.proofs.PlanLaw.{words_after-kept}
use Rattle.pm_model.proofs.Cuts.{is_among, footprint-stores, AreApartBelow, stores_part, stores-written, stores-cut, store_part, one_store-cut, between-end, each_cut-unless_empty, finished-unless_empty, plan-unless_empty}
use Rattle.txn_object.specs.Entries.{entry_of}
use Rattle.txn_object.specs.Object.{clear_part, retire_parts, NoEntryFollowsZero}
use Rattle.txn_object.specs.Shown.{Shows, HasObject, IsCleared, IsRetiring, IsRetired}
use Rattle.txn_object.proofs.Runs.{set_words, set-no}
use Rattle.txn_object.proofs.Walk.{words_at}
use Rattle.txn_object.proofs.Frames.{SameFrame, frame_places, pointer_not_low, entry_not_fixed, entry_not_pointer, entry_in, entries_differ}
use Rattle.txn_object.proofs.Entering.{packed_words, packed-at}

-- ── lists of places ──

among-at : (places : List ℕ) (k : ℕ) → k < length places → is_among places (get_or places k 0) ≡ true
among-at [] k lt = absurd (omega (arith, lt))
among-at (place ∷ places) zero lt = or_left (eqb place place) (is_among places place) (eq-eqb place place refl)
among-at (place ∷ places) (suc k) lt = or_right (eqb (get_or places k 0) place) (is_among places (get_or places k 0)) (among-at places k (omega (arith, lt)))

among-place : (places : List ℕ) (w : ℕ) → is_among places w ≡ true → (k : ℕ) × (k < length places) × (get_or places k 0 ≡ w)
among-place [] w hit = absurd (both_ways false refl hit)
among-place (place ∷ places) w hit = ⊎_elim
    (λ here. (0, omega arith, sym (eqb-true w place here)))
    (λ later. let there = among-place places w later in (suc there.0, omega (arith, there.1), there.2))
    (or_cases (eqb w place) (is_among places w) hit)

apart_from : (size : ℕ) (places : List ℕ) → ((k : ℕ) → k < length places → get_or places k 0 < size) → ((j k : ℕ) → j < k → k < length places → get_or places j 0 ≢ get_or places k 0) → AreApartBelow size places
apart_from size [] within differ = tt
apart_from size (place ∷ places) within differ = (
  within 0 (omega arith),
  ⊎_elim (λ hit. let there = among-place places place hit in absurd (differ 0 (suc there.0) (omega arith) (omega (arith, there.1)) (sym there.2))) (λ miss. miss) (cases_Bool (is_among places place)),
  apart_from size places (λ k lt. within (suc k) (omega (arith, lt))) (λ j k lt below. differ (suc j) (suc k) (omega (arith, lt)) (omega (arith, below))),
)

zeros-none : (words : List ℕ) → ((k : ℕ) → k < length words → get_or words k 0 ≡ 0) → set_words words ≡ []
zeros-none [] none = refl
zeros-none (word ∷ words) none = set-no word words (none 0 (omega arith)) ∙ zeros-none words (λ k lt. none (suc k) (omega (arith, lt)))

-- ── the places that are cleared ──

pub cleared_places : List ℕ → ℕ → ℕ → Bool → List ℕ
cleared_places words object entries word = take entries (entry_places words object) ++ cond word (commit_word_at object ∷ []) []

clear_is : (words : List ℕ) (object entries : ℕ) (word : Bool) → clear_part words object entries word ≡ stores 0 (cleared_places words object entries word)
unfolding clear_part cleared_places
clear_is words object entries true = sym (map-append (λ place. store place 0) (take entries (entry_places words object)) (commit_word_at object ∷ []))
clear_is words object entries false = sym (map-append (λ place. store place 0) (take entries (entry_places words object)) [])

module _ (words : List ℕ) (object entries : ℕ) (word : Bool) (has : HasObject words object) (le : entries ≤ length (entry_places words object)) where
  size_is : length (cleared_places words object entries word) ≡ entries + cond word 1 0
  unfolding cleared_places
  size_is = length-append (take entries (entry_places words object)) (cond word (commit_word_at object ∷ []) []) ∙ ap (λ (n : ℕ). n + length (cond word (commit_word_at object ∷ []) [])) (length-take-le entries (entry_places words object) le)
      ∙ ap (λ (n : ℕ). entries + n) (last word)
    where
      last : (b : Bool) → length (cond b (commit_word_at object ∷ []) []) ≡ cond b 1 0
      last true = refl
      last false = refl

  entry_here : (k : ℕ) → k < entries → get_or (cleared_places words object entries word) k 0 ≡ get_or (entry_places words object) k 0
  unfolding cleared_places
  entry_here k lt =
      let size = length-take-le entries (entry_places words object) le in
      get_or_append_left (take entries (entry_places words object)) (cond word (commit_word_at object ∷ []) []) 0 k (omega (arith, size, lt)) ∙ get_or-take entries (entry_places words object) k 0 lt

  commit_here : word ≡ true → get_or (cleared_places words object entries word) entries 0 ≡ commit_word_at object
  unfolding cleared_places
  commit_here is =
      let size = length-take-le entries (entry_places words object) le in
      let at : entries ≡ length (take entries (entry_places words object)) + 0 = omega (arith, size) in
      ap (λ (n : ℕ). get_or (take entries (entry_places words object) ++ cond word (commit_word_at object ∷ []) []) n 0) at
      ∙ get_or-append-add (take entries (entry_places words object)) (cond word (commit_word_at object ∷ []) []) 0 0
      ∙ ap (λ (b : Bool). get_or (cond b (commit_word_at object ∷ []) []) 0 0) is

  -- each of them is an entry's place or the commit word's
  place_kind : (k : ℕ) → k < length (cleared_places words object entries word) → ((k < entries) × (get_or (cleared_places words object entries word) k 0 ≡ get_or (entry_places words object) k 0))
      ⊎ ((k ≡ entries) × (word ≡ true) × (get_or (cleared_places words object entries word) k 0 ≡ commit_word_at object))
  place_kind k lt = ⊎_elim
      (λ small. inl (small, entry_here k small))
      (λ large. let kind = last word refl in let at : k ≡ entries = omega (arith, lt, large, size_is, kind.1) in
      inr (at, kind.0 (omega (arith, lt, large, size_is)), ap (λ (n : ℕ). get_or (cleared_places words object entries word) n 0) at ∙ commit_here (kind.0 (omega (arith, lt, large, size_is)))))
      (cases_lt k entries)
    where
      last : (b : Bool) → word ≡ b → (0 < cond {A = ℕ} word 1 0 → word ≡ true) × (cond {A = ℕ} word 1 0 ≤ 1)
      last true is = (λ some. is, subst (λ (c : Bool). cond {A = ℕ} c 1 0 ≤ 1) (sym is) (omega arith))
      last false is = (λ some. let none : ◌≡◌ {A = ℕ} (cond word 1 0) 0 = ap (λ (c : Bool). cond {A = ℕ} c 1 0) is in absurd (omega (arith, some, none)), subst (λ (c : Bool). cond {A = ℕ} c 1 0 ≤ 1) (sym is) (omega arith))

  commit_apart : (k : ℕ) → k < entries → get_or (entry_places words object) k 0 ≢ commit_word_at object
  commit_apart k lt = entry_not_fixed words object has k (commit_word_at object) (omega (arith, lt, le)) (let number = has.number in omega (arith, number)) (inl (omega arith))

  pub cleared_apart : AreApartBelow (length words) (cleared_places words object entries word)
  cleared_apart = apart_from (length words) (cleared_places words object entries word)
      (λ k lt. ⊎_elim (λ entry. let at = entry.1 in let there = entry_in words object has k (omega (arith, entry.0, le)) in omega (arith, at, there))
      (λ commit. let at = commit.2 in let number = has.number in let size = has.size in omega (arith, at, number, size)) (place_kind k lt))
      (λ j k lt below same. ⊎_elim
      (λ entry. entries_differ words object has j k (omega (arith, lt, entry.0, le)) (omega (arith, entry.0, le)) (λ e. omega (arith, lt, e)) (sym (entry_here j (omega (arith, lt, entry.0))) ∙ same ∙ entry.1))
      (λ commit. commit_apart j (omega (arith, lt, commit.0)) (sym (entry_here j (omega (arith, lt, commit.0))) ∙ same ∙ commit.2))
      (place_kind k below))

  among_cleared : (w : ℕ) → is_among (cleared_places words object entries word) w ≡ true → IsCleared words object entries word w
  among_cleared w hit =
      let there = among-place (cleared_places words object entries word) w hit in
      ⊎_elim (λ entry. inl (there.0, entry.0, sym there.2 ∙ entry.1)) (λ commit. inr (commit.1, sym there.2 ∙ commit.2)) (place_kind there.0 there.1)

  cleared_among : (w : ℕ) → IsCleared words object entries word w → is_among (cleared_places words object entries word) w ≡ true
  cleared_among w cleared = ⊎_elim
      (λ entry. subst (λ (p : ℕ). is_among (cleared_places words object entries word) p ≡ true) (entry_here entry.0 entry.1 ∙ sym entry.2)
      (among-at (cleared_places words object entries word) entry.0 (let lt = entry.1 in omega (arith, size_is, lt))))
      (λ commit. let one : ◌≡◌ {A = ℕ} (cond word 1 0) 1 = ap (λ (c : Bool). cond {A = ℕ} c 1 0) commit.0 in
      subst (λ (p : ℕ). is_among (cleared_places words object entries word) p ≡ true) (commit_here commit.0 ∙ sym commit.1) (among-at (cleared_places words object entries word) entries (omega (arith, size_is, one))))
      cleared

  cleared_in : (w : ℕ) → IsCleared words object entries word w → (w < length words) × (w ≢ state_at object)
  cleared_in w cleared = ⊎_elim
      (λ entry. let at = entry.2 in let lt = entry.1 in let there = entry_in words object has entry.0 (omega (arith, lt, le)) in
      (omega (arith, at, there), λ e. entry_not_fixed words object has entry.0 (state_at object) (omega (arith, lt, le)) (let number = has.number in omega (arith, number)) (inl (omega arith)) (sym at ∙ e)))
      (λ commit. let at = commit.1 in let number = has.number in let size = has.size in (omega (arith, at, number, size), λ e. omega (arith, at, e)))
      cleared

  -- ── the parts ──

  retiring : (image : List ℕ) → IsBetween (set words (state_at object) 0) (words_after (stores 0 (cleared_places words object entries word)) (set words (state_at object) 0)) image → IsRetiring words object entries word image
  retiring image between = record {
    size = between.size ∙ length-set words (state_at object) 0;
    state = kept (state_at object) (λ cleared. (cleared_in (state_at object) cleared).1 refl) ∙ get_or-set_same words (state_at object) 0 0 (let number = has.number in let size = has.size in omega (arith, number, size));
    cleared = λ w cleared. let here = cleared_in w cleared in ⊎_elim
        (λ old. inl (old ∙ get_or-set_other words (state_at object) w 0 0 here.1))
        (λ new. inr new.0)
        (stores-cut 0 (cleared_places words object entries word) (set words (state_at object) 0) image w (let lt = here.0 in let size = length-set words (state_at object) 0 in omega (arith, lt, size)) between);
    others = λ w apart isnt. kept w isnt ∙ get_or-set_other words (state_at object) w 0 0 apart;
  }
    where
      kept : (w : ℕ) → (IsCleared words object entries word w → ⊥) → get_or image w 0 ≡ get_or (set words (state_at object) 0) w 0
      kept w isnt =
          let out : is_among (cleared_places words object entries word) w ≡ false = ⊎_elim (λ hit. absurd (isnt (among_cleared w hit))) (λ miss. miss) (cases_Bool (is_among (cleared_places words object entries word) w)) in
          ⊎_elim (λ old. old) (λ new. new ∙ words_after-kept (stores 0 (cleared_places words object entries word)) (set words (state_at object) 0) w (footprint-stores 0 (cleared_places words object entries word) w ∙ out)) (between.each w)

  pub retire_plan : IsPlan (length words) (retire_parts words object entries word)
  retire_plan = (
    store_part (length words) (state_at object) 0 (let number = has.number in let size = has.size in omega (arith, number, size)),
    plan-unless_empty (length words) (clear_part words object entries word) (subst (λ (p : Part). IsPart (length words) p) (sym (clear_is words object entries word)) (stores_part (length words) 0 (cleared_places words object entries word) cleared_apart)),
  )

  pub retire_each : EachCut (λ image. (image ≡ words) ⊎ IsRetiring words object entries word image) (retire_parts words object entries word) words
  retire_each = (
    λ image between. ⊎_elim (λ old. inl old)
        (λ (new : image ≡ set words (state_at object) 0). inr (subst (λ (l : List ℕ). IsRetiring words object entries word l) (sym new) (retiring (set words (state_at object) 0) (record { size = refl; each = λ w. inl refl }))))
        (one_store-cut (state_at object) 0 words image between),
    each_cut-unless_empty (λ image. (image ≡ words) ⊎ IsRetiring words object entries word image) (clear_part words object entries word) (set words (state_at object) 0)
        (λ image between. inr (retiring image (subst (λ (p : Part). IsBetween (set words (state_at object) 0) (words_after p (set words (state_at object) 0)) image) (clear_is words object entries word) between))),
  )

  pub retire_ends : IsRetired words object entries word (finished (retire_parts words object entries word) words)
  retire_ends = subst (λ (l : List ℕ). IsRetired words object entries word l) (sym (finished-unless_empty (clear_part words object entries word) (set words (state_at object) 0) ∙ ap (λ (p : Part). words_after p (set words (state_at object) 0)) (clear_is words object entries word))) ended
    where
      ended : IsRetired words object entries word (words_after (stores 0 (cleared_places words object entries word)) (set words (state_at object) 0))
      ended =
          let last = retiring (words_after (stores 0 (cleared_places words object entries word)) (set words (state_at object) 0)) (between-end (stores 0 (cleared_places words object entries word)) (set words (state_at object) 0)) in
          record {
            size = last.size;
            state = last.state;
            cleared = λ w cleared. stores-written 0 (cleared_places words object entries word) (set words (state_at object) 0) w (let here = (cleared_in w cleared).0 in let size = length-set words (state_at object) 0 in omega (arith, here, size)) (cleared_among w cleared);
            others = last.others;
          }

  -- ── what it shows ──

  module _ (after : List ℕ) (retired : IsRetired words object entries word after) where
    pub frame : SameFrame words after object
    frame = record {
      size = retired.size;
      ready = retired.others (ready_at object) (λ e. omega (arith, e)) (λ cleared. ⊎_elim
          (λ entry. let lt = entry.1 in entry_not_fixed words object has entry.0 (ready_at object) (omega (arith, lt, le)) (let number = has.number in omega (arith, number)) (inl (omega arith)) (sym entry.2))
          (λ commit. let at = commit.1 in omega (arith, at)) cleared);
      pointers = λ k below. retired.others (segment_pointer_at words object k) (pointer_not_low words object has k (state_at object) below (omega arith)) (λ cleared. ⊎_elim
          (λ entry. let lt = entry.1 in entry_not_pointer words object has entry.0 k (omega (arith, lt, le)) below (sym entry.2))
          (λ commit. pointer_not_low words object has k (commit_word_at object) below (omega arith) commit.1) cleared);
    }

    pub retire_free : length (objects.entries words object) ≤ entries → NoEntryFollowsZero words object → (nth : ℕ) → nth < length (entry_places words object) → get_or after (get_or (entry_places words object) nth 0) 0 ≡ 0
    retire_free most packed nth lt = ⊎_elim
        (λ first. retired.cleared (get_or (entry_places words object) nth 0) (inl (nth, first, refl)))
        (λ behind.
        let size = length-map (entry_places words object) (λ w. get_or words w 0) in
        let was : get_or words (get_or (entry_places words object) nth 0) 0 ≡ 0 = ⊎_elim
        (λ set_one. let early = set_one.0 in absurd (omega (arith, early, most, behind)))
        (λ free. sym (get_or-map (λ w. get_or words w 0) (entry_places words object) nth 0 0 lt) ∙ free.1)
        (packed-at (words_at words (entry_places words object)) nth (packed_words words object packed) (omega (arith, lt, size))) in
        retired.others (get_or (entry_places words object) nth 0) (entry_not_fixed words object has nth (state_at object) lt (let number = has.number in omega (arith, number)) (inl (omega arith)))
        (λ cleared. ⊎_elim
        (λ entry. let early = entry.1 in entries_differ words object has nth entry.0 lt (omega (arith, early, le)) (λ e. omega (arith, e, early, behind)) entry.2)
        (λ commit. entry_not_fixed words object has nth (commit_word_at object) lt (let number = has.number in omega (arith, number)) (inl (omega arith)) commit.1) cleared)
        ∙ was)
        (cases_lt nth entries)

    pub retire_none : length (objects.entries words object) ≤ entries → NoEntryFollowsZero words object → objects.entries after object ≡ []
    retire_none most packed =
        ap (λ (places : List ℕ). set_words (words_at after places)) (frame_places words after object frame)
        ∙ zeros-none (words_at after (entry_places words object)) (λ k lt.
        let size = length-map (entry_places words object) (λ w. get_or after w 0) in
        let there : k < length (entry_places words object) = omega (arith, lt, size) in
        get_or-map (λ w. get_or after w 0) (entry_places words object) k 0 0 there ∙ retire_free most packed k there)

    pub retire_shows : length (objects.entries words object) ≤ entries → NoEntryFollowsZero words object → (word ≡ true) ⊎ (get_or words (commit_word_at object) 0 ≡ 0) → Shows after object (record { state = 0; commit_word = 0; entries = [] })
    retire_shows most packed commit = record {
      state = retired.state;
      commit_word = ⊎_elim (λ is. retired.cleared (commit_word_at object) (inr (is, refl))) (λ unset. by_word word refl unset) commit;
      entries = ap (λ (l : List ℕ). map entry_of l) (retire_none most packed);
    }
      where
        by_word : (b : Bool) → word ≡ b → get_or words (commit_word_at object) 0 ≡ 0 → get_or after (commit_word_at object) 0 ≡ 0
        by_word true is unset = retired.cleared (commit_word_at object) (inr (is, refl))
        by_word false is unset = retired.others (commit_word_at object) (λ e. omega (arith, e)) (λ cleared. ⊎_elim
            (λ entry. let lt = entry.1 in entry_not_fixed words object has entry.0 (commit_word_at object) (omega (arith, lt, le)) (let number = has.number in omega (arith, number)) (inl (omega arith)) (sym entry.2))
            (λ set_one. both_ways word is set_one.0) cleared) ∙ unset
