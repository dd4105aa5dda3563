-- Changes that are parts of their own: which of them are needed, what they leave, and what each cut of them has.
use Rattle.std.proofs.Common.{◌≡◌, ◌≢◌, ℕ, suc, ◌+◌, ◌<◌, Bool, true, false, cond, eqb, List, [], ◌∷◌, ◌++◌, length, get_or, set, take, refl, sym, ◌∙◌, ap, subst, append_assoc, arith}
use Rattle.std.proofs.lemmas.List.{get_or-set_same, get_or-set_other, set-get_or, append-nil}
use Rattle.std.proofs.Math.Seq.{take-suc}
use Rattle.std.proofs.lemmas.Bool.{eqb-true, eq-eqb, ne_eqb}
use Rattle.std.proofs.lemmas.Grind.{flat_map-append}
use Rattle.pm_model.specs.declared.action.Action.{Action}
use Rattle.pm_model.specs.Plans.{Part, one_store, unless_empty, words_after, part_actions, plan_of, finished}
use Rattle.pm_model.specs.Needed.{needed_parts, Stores}
use Rattle.pm_model.proofs.Cuts.{length-finished}
use Rattle.pmem_recover.specs.declared.change.WordChange.{WordChange}
use Rattle.pmem_recover.specs.Changes.{change_part, change_parts}

-- one change, where it is needed
abbrev pub if_needed : List ℕ → WordChange → List Part
if_needed words c = cond (eqb (get_or words c.place.0 0) c.value) [] (one_store c.place.0 c.value ∷ [])

-- a word that has the value already
pub set-there : (words : List ℕ) (place value : ℕ) → eqb (get_or words place 0) value ≡ true → set words place value ≡ words
set-there words place value there = ap (set words place) (sym (eqb-true (get_or words place 0) value there)) ∙ set-get_or words place 0

pub needed-one : (words : List ℕ) (c : WordChange) (parts : List Part) → needed_parts words (one_store c.place.0 c.value ∷ parts) ≡ if_needed words c ++ needed_parts (set words c.place.0 c.value) parts
needed-one words c parts = by_test (eqb (get_or words c.place.0 0) c.value) (set-there words c.place.0 c.value)
  where
    by_test : (there : Bool) → (there ≡ true → set words c.place.0 c.value ≡ words)
        → unless_empty (cond there [] (one_store c.place.0 c.value)) ++ needed_parts (words_after (cond there [] (one_store c.place.0 c.value)) words) parts
        ≡ cond there [] (one_store c.place.0 c.value ∷ []) ++ needed_parts (set words c.place.0 c.value) parts
    by_test true same = ap (λ (ws : List ℕ). needed_parts ws parts) (sym (same refl))
    by_test false same = refl

-- changes are stores
abbrev pub AnyStore : ℕ → ℕ → Type 0
AnyStore place value = Unit {0}

pub change-stores : (part : List WordChange) → Stores AnyStore (change_part part)
change-stores [] = tt
change-stores (c ∷ part) = (tt, change-stores part)

-- one change more at the end
pub needed-more : (changes : List WordChange) (c : WordChange) (words : List ℕ)
    → needed_parts words (change_parts (changes ++ c ∷ [])) ≡ needed_parts words (change_parts changes) ++ if_needed (finished (change_parts changes) words) c
needed-more [] c words = needed-one words c [] ∙ append-nil (if_needed words c)
needed-more (first ∷ changes) c words =
    needed-one words first (change_parts (changes ++ c ∷ []))
    ∙ ap (λ (parts : List Part). if_needed words first ++ parts) (needed-more changes c (set words first.place.0 first.value))
    ∙ sym (append_assoc (if_needed words first) (needed_parts (set words first.place.0 first.value) (change_parts changes)) (if_needed (finished (change_parts (first ∷ changes)) words) c))
    ∙ ap (λ (parts : List Part). parts ++ if_needed (finished (change_parts (first ∷ changes)) words) c) (sym (needed-one words first (change_parts changes)))

pub finished-more : (changes : List WordChange) (c : WordChange) (words : List ℕ) → finished (change_parts (changes ++ c ∷ [])) words ≡ set (finished (change_parts changes) words) c.place.0 c.value
finished-more [] c words = refl
finished-more (first ∷ changes) c words = finished-more changes c (set words first.place.0 first.value)

pub word_after-hit : (changes : List WordChange) (c : WordChange) (words : List ℕ) (at : ℕ) → c.place.0 ≡ at → at < length words → get_or (finished (change_parts (changes ++ c ∷ [])) words) at 0 ≡ c.value
word_after-hit changes c words at is lt =
    ap (λ (ws : List ℕ). get_or ws at 0) (finished-more changes c words) ∙ ap (λ (p : ℕ). get_or (set (finished (change_parts changes) words) p c.value) at 0) is
    ∙ get_or-set_same (finished (change_parts changes) words) at c.value 0 (subst (λ (n : ℕ). at < n) (sym (length-finished (change_parts changes) words)) lt)

pub word_after-miss : (changes : List WordChange) (c : WordChange) (words : List ℕ) (at : ℕ) → at ≢ c.place.0 → get_or (finished (change_parts (changes ++ c ∷ [])) words) at 0 ≡ get_or (finished (change_parts changes) words) at 0
word_after-miss changes c words at apart =
    ap (λ (ws : List ℕ). get_or ws at 0) (finished-more changes c words) ∙ get_or-set_other (finished (change_parts changes) words) c.place.0 at c.value 0 apart

-- a plan with one more change
pub plan-more : (old left : List Action) (changes : List WordChange) (c : WordChange) (words : List ℕ) → left ≡ old ++ plan_of (needed_parts words (change_parts changes))
    → left ++ plan_of (if_needed (finished (change_parts changes) words) c) ≡ old ++ plan_of (needed_parts words (change_parts (changes ++ c ∷ [])))
plan-more old left changes c words is =
    joined (needed_parts words (change_parts changes)) (if_needed (finished (change_parts changes) words) c) is ∙ ap (λ (parts : List Part). old ++ plan_of parts) (sym (needed-more changes c words))
  where
    joined : (before more : List Part) → left ≡ old ++ plan_of before → left ++ plan_of more ≡ old ++ plan_of (before ++ more)
    joined before more is =
        ap (λ (xs : List Action). xs ++ plan_of more) is ∙ append_assoc old (plan_of before) (plan_of more) ∙ ap (λ (xs : List Action). old ++ xs) (sym (flat_map-append part_actions before more))

-- ── one more of the first changes ──

take-more : (changes : List WordChange) (n : ℕ) (d : WordChange) → n < length changes → take (n + 1) changes ≡ take n changes ++ get_or changes n d ∷ []
take-more changes n d lt = let next : n + 1 ≡ suc n = omega arith in ap (λ (k : ℕ). take k changes) next ∙ take-suc changes n d lt

module _ (changes : List WordChange) (n : ℕ) (d : WordChange) (lt : n < length changes) (words : List ℕ) where
  pub word-hit : (at : ℕ) → (get_or changes n d).place.0 ≡ at → at < length words → (get_or changes n d).value ≡ get_or (finished (change_parts (take (n + 1) changes)) words) at 0
  word-hit at is within = sym (ap (λ (cs : List WordChange). get_or (finished (change_parts cs) words) at 0) (take-more changes n d lt) ∙ word_after-hit (take n changes) (get_or changes n d) words at is within)

  pub word-miss : (at : ℕ) → at ≢ (get_or changes n d).place.0 → get_or (finished (change_parts (take n changes)) words) at 0 ≡ get_or (finished (change_parts (take (n + 1) changes)) words) at 0
  word-miss at apart = sym (ap (λ (cs : List WordChange). get_or (finished (change_parts cs) words) at 0) (take-more changes n d lt) ∙ word_after-miss (take n changes) (get_or changes n d) words at apart)

  longer : (old left : List Action) → left ≡ old ++ plan_of (needed_parts words (change_parts (take n changes)))
      → left ++ plan_of (if_needed (finished (change_parts (take n changes)) words) (get_or changes n d)) ≡ old ++ plan_of (needed_parts words (change_parts (take (n + 1) changes)))
  longer old left is = plan-more old left (take n changes) (get_or changes n d) words is ∙ ap (λ (cs : List WordChange). old ++ plan_of (needed_parts words (change_parts cs))) (sym (take-more changes n d lt))

  -- a change that is needed is a part of the plan, and another isn't
  pub pushed : (old left new : List Action) → left ≡ old ++ plan_of (needed_parts words (change_parts (take n changes)))
      → get_or (finished (change_parts (take n changes)) words) (get_or changes n d).place.0 0 ≢ (get_or changes n d).value
      → new ≡ left ++ part_actions (one_store (get_or changes n d).place.0 (get_or changes n d).value)
      → new ≡ old ++ plan_of (needed_parts words (change_parts (take (n + 1) changes)))
  pushed old left new is apart pushed_is =
      pushed_is
      ∙ ap (λ (xs : List Action). left ++ xs) (sym (append-nil (part_actions (one_store (get_or changes n d).place.0 (get_or changes n d).value))))
      ∙ ap (λ (b : Bool). left ++ plan_of (cond b [] (one_store (get_or changes n d).place.0 (get_or changes n d).value ∷ []))) (sym (ne_eqb _ _ apart))
      ∙ longer old left is

  pub passed : (old left : List Action) → left ≡ old ++ plan_of (needed_parts words (change_parts (take n changes)))
      → get_or (finished (change_parts (take n changes)) words) (get_or changes n d).place.0 0 ≡ (get_or changes n d).value
      → left ≡ old ++ plan_of (needed_parts words (change_parts (take (n + 1) changes)))
  passed old left is same =
      sym (append-nil left)
      ∙ ap (λ (b : Bool). left ++ plan_of (cond b [] (one_store (get_or changes n d).place.0 (get_or changes n d).value ∷ []))) (sym (eq-eqb _ _ same))
      ∙ longer old left is
