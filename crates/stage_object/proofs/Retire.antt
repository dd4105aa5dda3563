-- A retire: the words that it writes, and what its parts leave.
use Rattle.std.proofs.Common.{◌≡◌, ◌⊎◌, inl, inr, ⊎_elim, ◌↔◌, ℕ, zero, suc, ◌+◌, ◌<◌, ◌≤◌, Bool, true, false, ◌||◌, IsTrue, cond, eqb, List, [], ◌∷◌, ◌++◌, length, map, get_or, set, refl, sym, ◌∙◌, ap, subst, append-nil, arith}
use Rattle.std.specs.List.{range_with_len}
use Rattle.std.proofs.Math.Bool.{or_assoc}
use Rattle.std.proofs.lemmas.List.{get_or-set_same, get_or-set_other, length-set}
use Rattle.std.proofs.lemmas.Bool.{eq-eqb, eqb-true, cases_eq, cases_Bool, both_ways, or_from, or_left, or_right, or_cases}
use Rattle.pm_model.specs.declared.action.Action.{Action}
use Rattle.pm_model.specs.declared.action.Action.TheVariants.{Flush, Fence}
use Rattle.image_layout.specs.Fixed.{state_at, commit_word_at, entry_at}
use Rattle.pm_model.specs.Device.{writes, IsBetween}
use Rattle.pm_model.specs.Plans.{Part, store, one_store, unless_empty, lines_of, part_end, part_actions, plan_of, words_after, footprint, finished, IsPart, IsPlan, EachCut}
use Rattle.pm_model.proofs.Alone.{length-words_after, words_after-append}
use Rattle.pm_model.proofs.PlanLaw.{words_after-kept}
use Rattle.stage_object.specs.Object.{clear_part, retire_parts, entries_in}
use Rattle.stage_object.specs.Shown.{Shows, HasObject, NoEntryFollowsZero, IsCleared, IsRetiring, IsRetired}
use Rattle.stage_object.proofs.EntryWords.{word_at, entries_in-none, entries_in-zero, entries_in-rest}
use Rattle.pm_model.proofs.Cuts.{one_store-cut}

-- ── what the parts write ──

footprint-append_lists : (xs ys : List Action) (w : ℕ) → footprint (xs ++ ys) w ≡ (footprint xs w || footprint ys w)
footprint-append_lists [] ys w = refl
footprint-append_lists (x ∷ xs) ys w = ap (λ (b : Bool). writes x w || b) (footprint-append_lists xs ys w) ∙ sym (or_assoc (writes x w) (footprint xs w) (footprint ys w))

flushes_write_nothing : (lines : List ℕ) (w : ℕ) → footprint (map (λ line. Flush line) lines ++ Fence ∷ []) w ≡ false
flushes_write_nothing [] w = refl
flushes_write_nothing (line ∷ lines) w = flushes_write_nothing lines w

or_false : (b c : Bool) → c ≡ false → (b || c) ≡ b
or_false true c is = refl
or_false false c is = is

footprint-part : (part : Part) (w : ℕ) → footprint (part_actions part) w ≡ footprint part w
footprint-part part w = footprint-append_lists part (part_end part) w ∙ or_false (footprint part w) (footprint (part_end part) w) (flushes_write_nothing (lines_of part) w)

-- 0 over so many entries from one on
abbrev clears_from : ℕ → ℕ → ℕ → Part
clears_from object nth entries = map (λ k. store (entry_at object k) 0) (range_with_len nth entries)

clears-write : (object nth entries w : ℕ) → entry_at object nth ≤ w → w < entry_at object (nth + entries) → footprint (clears_from object nth entries) w ≡ true
clears-write object nth zero w le lt = absurd (omega (arith, le, lt))
clears-write object nth (suc entries) w le lt = ⊎_elim
    (λ here. or_left (eqb w (entry_at object nth)) (footprint (clears_from object (nth + 1) entries) w) (eq-eqb w (entry_at object nth) here))
    (λ apart. or_right (eqb w (entry_at object nth)) (footprint (clears_from object (nth + 1) entries) w) (clears-write object (nth + 1) entries w (omega (arith, le, apart)) (omega (arith, lt))))
    (cases_eq w (entry_at object nth))

clears-written : (object nth entries w : ℕ) → footprint (clears_from object nth entries) w ≡ true → (entry_at object nth ≤ w) × (w < entry_at object (nth + entries))
clears-written object nth zero w hit = absurd (both_ways false refl hit)
clears-written object nth (suc entries) w hit = ⊎_elim
    (λ here. let same = eqb-true w (entry_at object nth) here in (omega (arith, same), omega (arith, same)))
    (λ later. let rest = clears-written object (nth + 1) entries w later in (omega (arith, rest.0), omega (arith, rest.1)))
    (or_cases (eqb w (entry_at object nth)) (footprint (clears_from object (nth + 1) entries) w) hit)

-- the commit word's part
abbrev commit_clear : ℕ → Bool → Part
commit_clear object word = cond word (one_store (commit_word_at object) 0) []

commit-write : (object w : ℕ) (word : Bool) → word ≡ true → w ≡ commit_word_at object → footprint (commit_clear object word) w ≡ true
commit-write object w true set is = or_left (eqb w (commit_word_at object)) false (eq-eqb w (commit_word_at object) is)
commit-write object w false set is = absurd (both_ways false refl set)

commit-written : (object w : ℕ) (word : Bool) → footprint (commit_clear object word) w ≡ true → (word ≡ true) × (w ≡ commit_word_at object)
commit-written object w true hit = ⊎_elim (λ here. (refl, eqb-true w (commit_word_at object) here)) (λ later. absurd (both_ways false refl later)) (or_cases (eqb w (commit_word_at object)) false hit)
commit-written object w false hit = absurd (both_ways false refl hit)

clear_part-writes : (object entries w : ℕ) (word : Bool) → IsCleared object entries word w → footprint (clear_part object entries word) w ≡ true
unfolding clear_part
clear_part-writes object entries w word cleared =
    footprint-append_lists (clears_from object 0 entries) (commit_clear object word) w ∙ ⊎_elim
    (λ entry. or_left (footprint (clears_from object 0 entries) w) (footprint (commit_clear object word) w) (clears-write object 0 entries w entry.0 (omega (arith, entry.1))))
    (λ commit. or_right (footprint (clears_from object 0 entries) w) (footprint (commit_clear object word) w) (commit-write object w word commit.0 commit.1))
    cleared

clear_part-written : (object entries w : ℕ) (word : Bool) → footprint (clear_part object entries word) w ≡ true → IsCleared object entries word w
unfolding clear_part
clear_part-written object entries w word hit = ⊎_elim
    (λ entry. let range = clears-written object 0 entries w entry in inl (range.0, omega (arith, range.1)))
    (λ commit. inr (commit-written object w word commit))
    (or_cases (footprint (clears_from object 0 entries) w) (footprint (commit_clear object word) w) (sym (footprint-append_lists (clears_from object 0 entries) (commit_clear object word) w) ∙ hit))

clear_part-kept : (object entries w : ℕ) (word : Bool) → ¬ IsCleared object entries word w → footprint (clear_part object entries word) w ≡ false
clear_part-kept object entries w word isnt = ⊎_elim (λ hit. absurd (isnt (clear_part-written object entries w word hit))) (λ miss. miss) (cases_Bool (footprint (clear_part object entries word) w))

footprint-unless_empty : (part : Part) (w : ℕ) → footprint (plan_of (unless_empty part)) w ≡ footprint part w
footprint-unless_empty [] w = refl
footprint-unless_empty (action ∷ part) w = ap (λ (l : List Action). footprint l w) (append-nil (part_actions (action ∷ part))) ∙ footprint-part (action ∷ part) w

pub retire_writes : (object entries w : ℕ) (word : Bool) → IsTrue (footprint (plan_of (retire_parts object entries word)) w) ↔ ((w ≡ state_at object) ⊎ IsCleared object entries word w)
retire_writes object entries w word =
    let rest = footprint-unless_empty (clear_part object entries word) w in (
      λ hit. ⊎_elim (λ first. inl (eqb-true w (state_at object) first)) (λ later. inr (clear_part-written object entries w word (sym rest ∙ later)))
          (or_cases (eqb w (state_at object)) (footprint (plan_of (unless_empty (clear_part object entries word))) w) hit),
      λ is. ⊎_elim (λ first. or_left (eqb w (state_at object)) (footprint (plan_of (unless_empty (clear_part object entries word))) w) (eq-eqb w (state_at object) first))
          (λ cleared. or_right (eqb w (state_at object)) (footprint (plan_of (unless_empty (clear_part object entries word))) w) (rest ∙ clear_part-writes object entries w word cleared))
          is,
    )

-- ── it is a plan ──

clears_part : (size object nth entries : ℕ) (word : Bool) → object < 16 → nth + entries ≤ 60 → 2048 ≤ size → IsPart size (clears_from object nth entries ++ commit_clear object word)
clears_part size object nth zero true number room big = (tt, omega (arith, number, big), λ w hit. refl, tt)
clears_part size object nth zero false number room big = tt
clears_part size object nth (suc entries) word number room big = (
  tt,
  omega (arith, number, room, big),
  λ w hit. let same = eqb-true w (entry_at object nth) hit in
      footprint-append_lists (clears_from object (nth + 1) entries) (commit_clear object word) w ∙ or_from (footprint (clears_from object (nth + 1) entries) w) (footprint (commit_clear object word) w)
      (⊎_elim (λ more. let range = clears-written object (nth + 1) entries w more in absurd (omega (arith, same, range.0))) (λ none. none) (cases_Bool (footprint (clears_from object (nth + 1) entries) w)))
      (⊎_elim (λ more. let commit = commit-written object w word more in absurd (omega (arith, same, commit.1))) (λ none. none) (cases_Bool (footprint (commit_clear object word) w))),
  clears_part size object (nth + 1) entries word number (omega (arith, room)) big,
)

clear_part-part : (words : List ℕ) (object entries : ℕ) (word : Bool) → HasObject words object → entries ≤ 60 → IsPart (length words) (clear_part object entries word)
unfolding clear_part
clear_part-part words object entries word has le = clears_part (length words) object 0 entries word has.number (omega (arith, le)) has.size

pub retire_plan : (words : List ℕ) (object entries : ℕ) (word : Bool) → HasObject words object → entries ≤ 60 → IsPlan (length words) (retire_parts object entries word)
retire_plan words object entries word has le = (
  (tt, omega (arith, has.number, has.size), λ w hit. refl, tt),
  go (clear_part object entries word) (clear_part-part words object entries word has le),
)
  where
    go : (part : Part) → IsPart (length words) part → IsPlan (length words) (unless_empty part)
    go [] is = tt
    go (action ∷ part) is = (is, tt)

-- ── what it leaves ──

-- a word that stores of 0 write is 0
clears-zero : (object nth entries : ℕ) (words : List ℕ) (w : ℕ) → w < length words → footprint (clears_from object nth entries) w ≡ true → get_or (words_after (clears_from object nth entries) words) w 0 ≡ 0
clears-zero object nth zero words w lt hit = absurd (both_ways false refl hit)
clears-zero object nth (suc entries) words w lt hit = ⊎_elim
    (λ more. clears-zero object (nth + 1) entries (set words (entry_at object nth) 0) w (omega (arith, lt, length-set words (entry_at object nth) 0)) more)
    (λ none. let here = ⊎_elim (λ e. e) (λ later. absurd (both_ways (footprint (clears_from object (nth + 1) entries) w) none later)) (or_cases (eqb w (entry_at object nth)) (footprint (clears_from object (nth + 1) entries) w) hit) in
    words_after-kept (clears_from object (nth + 1) entries) (set words (entry_at object nth) 0) w none
    ∙ let same = eqb-true w (entry_at object nth) here in
    ap (λ (k : ℕ). get_or (set words (entry_at object nth) 0) k 0) same ∙ get_or-set_same words (entry_at object nth) 0 0 (omega (arith, lt, same)))
    (cases_Bool (footprint (clears_from object (nth + 1) entries) w))

commit-zero : (object : ℕ) (word : Bool) (words : List ℕ) (w : ℕ) → w < length words → footprint (commit_clear object word) w ≡ true → get_or (words_after (commit_clear object word) words) w 0 ≡ 0
commit-zero object true words w lt hit =
    let same = (commit-written object w true hit).1 in
    ap (λ (k : ℕ). get_or (set words (commit_word_at object) 0) k 0) same ∙ get_or-set_same words (commit_word_at object) 0 0 (omega (arith, lt, same))
commit-zero object false words w lt hit = absurd (both_ways false refl hit)

clear_part-zero : (object entries : ℕ) (word : Bool) (words : List ℕ) (w : ℕ) → w < length words → IsCleared object entries word w → get_or (words_after (clear_part object entries word) words) w 0 ≡ 0
unfolding clear_part
clear_part-zero object entries word words w lt cleared =
    ap (λ (l : List ℕ). get_or l w 0) (words_after-append (clears_from object 0 entries) (commit_clear object word) words) ∙ ⊎_elim
    (λ commit. commit-zero object word (words_after (clears_from object 0 entries) words) w (omega (arith, lt, length-words_after (clears_from object 0 entries) words)) commit)
    (λ none. words_after-kept (commit_clear object word) (words_after (clears_from object 0 entries) words) w none ∙ clears-zero object 0 entries words w lt (⊎_elim
    (λ entry. clears-write object 0 entries w entry.0 (omega (arith, entry.1)))
    (λ commit. absurd (both_ways (footprint (commit_clear object word) w) none (commit-write object w word commit.0 commit.1)))
    cleared))
    (cases_Bool (footprint (commit_clear object word) w))

-- the words that are cleared stand in the object, and its state isn't one of them
cleared-in_object : (base : List ℕ) (object entries w : ℕ) (word : Bool) → HasObject base object → entries ≤ 60 → IsCleared object entries word w → (w < length base) × (w ≡ state_at object → ⊥)
cleared-in_object base object entries w word has le cleared = ⊎_elim
    (λ entry. (omega (arith, entry.1, has.number, has.size, le), λ e. omega (arith, entry.0, e)))
    (λ commit. (omega (arith, commit.1, has.number, has.size), λ e. omega (arith, commit.1, e)))
    cleared

module _ (object entries : ℕ) (word : Bool) (base : List ℕ) (has : HasObject base object) (le : entries ≤ 60) where
  -- what stays through the second part: its words aside, all is as after the first
  retiring : (image : List ℕ) → IsBetween (set base (state_at object) 0) (words_after (clear_part object entries word) (set base (state_at object) 0)) image → IsRetiring base object entries word image
  retiring image between = record {
    size = between.size ∙ length-set base (state_at object) 0;
    state = kept (state_at object) (λ cleared. (cleared-in_object base object entries (state_at object) word has le cleared).1 refl) ∙ get_or-set_same base (state_at object) 0 0 (omega (arith, has.number, has.size));
    cleared = λ w cleared. ⊎_elim
        (λ old. inl (old ∙ get_or-set_other base (state_at object) w 0 0 (cleared-in_object base object entries w word has le cleared).1))
        (λ new. inr (new ∙ clear_part-zero object entries word (set base (state_at object) 0) w (let lt = (cleared-in_object base object entries w word has le cleared).0 in omega (arith, lt, length-set base (state_at object) 0)) cleared))
        (between.each w);
    others = λ w apart isnt. kept w isnt ∙ get_or-set_other base (state_at object) w 0 0 apart;
  }
    where
      kept : (w : ℕ) → ¬ IsCleared object entries word w → get_or image w 0 ≡ get_or (set base (state_at object) 0) w 0
      kept w isnt = ⊎_elim (λ old. old) (λ new. new ∙ words_after-kept (clear_part object entries word) (set base (state_at object) 0) w (clear_part-kept object entries w word isnt)) (between.each w)

  -- the words after the second part, whether there is one or not
  cleared_words : finished (unless_empty (clear_part object entries word)) (set base (state_at object) 0) ≡ words_after (clear_part object entries word) (set base (state_at object) 0)
  cleared_words = go (clear_part object entries word)
    where
      go : (part : Part) → finished (unless_empty part) (set base (state_at object) 0) ≡ words_after part (set base (state_at object) 0)
      go [] = refl
      go (action ∷ part) = refl

  pub retire_idle : EachCut (IsRetiring base object entries word) (unless_empty (clear_part object entries word)) (set base (state_at object) 0)
  retire_idle = go (clear_part object entries word) retiring
    where
      go : (part : Part) → ((image : List ℕ) → IsBetween (set base (state_at object) 0) (words_after part (set base (state_at object) 0)) image → IsRetiring base object entries word image)
          → EachCut (IsRetiring base object entries word) (unless_empty part) (set base (state_at object) 0)
      go [] each = each (set base (state_at object) 0) (record { size = refl; each = λ w. inl refl })
      go (action ∷ part) each = (each, each (words_after (action ∷ part) (set base (state_at object) 0)) (record { size = length-words_after (action ∷ part) (set base (state_at object) 0); each = λ w. inr refl }))

  pub retire_each : EachCut (λ image. (image ≡ base) ⊎ IsRetiring base object entries word image) (retire_parts object entries word) base
  retire_each = (
    λ image between. ⊎_elim (λ old. inl old)
        (λ (new : image ≡ set base (state_at object) 0). inr (subst (λ (l : List ℕ). IsRetiring base object entries word l) (sym new) (retiring (set base (state_at object) 0) (record { size = refl; each = λ w. inl refl }))))
        (one_store-cut (state_at object) 0 base image between),
    either (clear_part object entries word) retiring,
  )
    where
      either : (part : Part) → ((image : List ℕ) → IsBetween (set base (state_at object) 0) (words_after part (set base (state_at object) 0)) image → IsRetiring base object entries word image)
          → EachCut (λ image. (image ≡ base) ⊎ IsRetiring base object entries word image) (unless_empty part) (set base (state_at object) 0)
      either [] each = inr (each (set base (state_at object) 0) (record { size = refl; each = λ w. inl refl }))
      either (action ∷ part) each = (
        λ image between. inr (each image between),
        inr (each (words_after (action ∷ part) (set base (state_at object) 0)) (record { size = length-words_after (action ∷ part) (set base (state_at object) 0); each = λ w. inr refl })),
      )

  pub retire_ends : IsRetired base object entries word (finished (retire_parts object entries word) base)
  retire_ends = subst (λ (l : List ℕ). IsRetired base object entries word l) (sym cleared_words) ended
    where
      ended : IsRetired base object entries word (words_after (clear_part object entries word) (set base (state_at object) 0))
      ended =
          let last = retiring (words_after (clear_part object entries word) (set base (state_at object) 0)) (record { size = length-words_after (clear_part object entries word) (set base (state_at object) 0); each = λ w. inr refl }) in
          record {
            size = last.size;
            state = last.state;
            cleared = λ w cleared. clear_part-zero object entries word (set base (state_at object) 0) w (let lt = (cleared-in_object base object entries w word has le cleared).0 in omega (arith, lt, length-set base (state_at object) 0)) cleared;
            others = last.others;
          }

-- ── what it shows ──

module _ (object entries : ℕ) (word : Bool) (old words : List ℕ) (retired : IsRetired old object entries word words) (most : length (entries_in old object) ≤ entries) where
  -- an entry word is cleared, or it is the old one
  entry_word-retired : (nth : ℕ) → ((nth < entries) × (word_at words object nth ≡ 0)) ⊎ ((entries ≤ nth) × (word_at words object nth ≡ word_at old object nth))
  entry_word-retired nth = ⊎_elim
      (λ lt. inl (lt, retired.cleared (entry_at object nth) (inl (omega arith, omega (arith, lt)))))
      (λ ge. inr (ge, retired.others (entry_at object nth) (λ e. omega (arith, e)) (λ cleared. ⊎_elim (λ entry. omega (arith, ge, entry.1)) (λ commit. omega (arith, commit.1)) cleared)))
      (cases_lt nth entries)
    where
      cases_lt : (a b : ℕ) → (a < b) ⊎ (b ≤ a)
      cases_lt a b = grind arith

  pub retire_empty : (nth : ℕ) → NoEntryFollowsZero old object → nth < 60 → word_at words object nth ≡ 0
  retire_empty nth packed lt = ⊎_elim (λ cleared. cleared.1) (λ kept. kept.1 ∙ entries_in-rest old object nth packed (omega (arith, most, kept.0)) lt) (entry_word-retired nth)

  pub retire_shows : (word ≡ true) ⊎ (get_or old (commit_word_at object) 0 ≡ 0) → Shows words object (record { state = 0; commit_word = 0; entries = [] })
  retire_shows commit = record {
    state = retired.state;
    commit_word = ⊎_elim
        (λ is. retired.cleared (commit_word_at object) (inr (is, refl)))
        (λ unset. by_word word refl unset)
        commit;
    entries = entries_in-none words object (⊎_elim (λ cleared. cleared.1)
        (λ kept. let none : length (entries_in old object) ≡ 0 = omega (arith, most, kept.0) in
        kept.1 ∙ ap (λ (n : ℕ). word_at old object n) (sym none) ∙ entries_in-zero old object (omega (arith, none)))
        (entry_word-retired 0));
  }
    where
      by_word : (b : Bool) → word ≡ b → get_or old (commit_word_at object) 0 ≡ 0 → get_or words (commit_word_at object) 0 ≡ 0
      by_word true is unset = retired.cleared (commit_word_at object) (inr (is, refl))
      by_word false is unset = retired.others (commit_word_at object) (λ e. omega (arith, e)) (λ cleared. ⊎_elim (λ entry. omega (arith, entry.0)) (λ commit. both_ways word is commit.0) cleared) ∙ unset
