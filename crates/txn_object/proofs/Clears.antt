-- The part that clears an object, and the end of a part.
use Rattle.std.proofs.Common.{◌≡◌, ◌⊎◌, ⊎_elim, ℕ, zero, suc, ◌+◌, ◌-◌, ◌<◌, ◌≤◌, Bool, true, false, cond, List, [], ◌∷◌, ◌++◌, length, take, drop, refl, sym, ◌∙◌, ap, append_assoc, append-nil, arith}
use Rattle.std.proofs.lemmas.Bool.{cond-true, both_ways}
use Rattle.std.proofs.lemmas.List.{length-append, length-map, length-take-le}
use mir.Val.{bool_byte}
use Rattle.pm_model.specs.declared.action.Action.{Action}
use Rattle.pm_model.specs.declared.action.Action.TheVariants.{Store}
use Rattle.image_layout.specs.declared.place.Place.{Place}
use Rattle.image_layout.specs.Fixed.{state_at, commit_word_at}
use Rattle.pm_model.specs.Plans.{Part, store, stores, one_store, unless_empty, lines_of, part_end, part_actions, plan_of}
use Rattle.image_layout.specs.Objects.{entry_places}
use Rattle.pm_model.proofs.Lines.{last_part, length-part_actions}
use Rattle.txn_object.specs.Object.{clear_part, retire_parts}

pub length-clear_part : (words : List ℕ) (object entries : ℕ) (word : Bool) → entries ≤ length (entry_places words object) → length (clear_part words object entries word) ≡ entries + cond word 1 0
unfolding clear_part
length-clear_part words object entries word le =
    let first : length (stores 0 (take entries (entry_places words object))) ≡ entries =
    length-map (take entries (entry_places words object)) (λ place. store place 0) ∙ length-take-le entries (entry_places words object) le in
    length-append (stores 0 (take entries (entry_places words object))) (cond word (one_store (commit_word_at object) 0) []) ∙ ap (λ (n : ℕ). n + length (cond word (one_store (commit_word_at object) 0) [])) first ∙ ap (λ (n : ℕ). entries + n) (last word)
  where
    last : (b : Bool) → length (cond b (one_store (commit_word_at object) 0) []) ≡ cond b 1 0
    last true = refl
    last false = refl

-- ── the end of a part ──

-- what ends a part that stands behind other actions
pub record Ends (old left part : List Action) (spare count : ℕ) : Type 0 where
  pub within : count ≤ length left
  pub room : length (lines_of (drop (length left - count) left)) < spare
  pub part_is : left ++ part_end (drop (length left - count) left) ≡ old ++ part_actions part
  pub size : length part + length (part_end (drop (length left - count) left)) ≡ length (part_actions part)

pub ends_part : (old left part : List Action) (spare all count : ℕ) → left ≡ old ++ part → count ≡ length part → spare + length part ≡ all → length (part_actions part) ≤ all → Ends old left part spare count
ends_part old left part spare all count is size used le =
    let whole : length left ≡ length old + length part = ap (λ (l : List Action). length l) is ∙ length-append old part in
    let last = last_part old part left count is size in
    let lines : length (lines_of (drop (length left - count) left)) ≡ length (lines_of part) = ap (λ (l : List Action). length (lines_of l)) last in
    let end : length (part_end (drop (length left - count) left)) ≡ length (part_end part) = ap (λ (l : List Action). length (part_end l)) last in
    let actions = length-part_actions part in
    record {
      within = omega (arith, whole, size);
      room = omega (arith, lines, actions, le, used);
      part_is = ap (λ (l : List Action). left ++ part_end l) last ∙ ap (λ (l : List Action). l ++ part_end part) is ∙ append_assoc old part (part_end part);
      size = ap (λ (n : ℕ). length part + n) end ∙ sym (length-append part (part_end part));
    }

-- u32::from of a bool
pub bit_is : (word : Bool) → ◌≡◌ {A = ℕ} (bool_byte word) (cond word 1 0)
bit_is true = refl
bit_is false = refl

pub bit_most : (word : Bool) → cond {A = ℕ} word 1 0 ≤ 1
bit_most true = omega arith
bit_most false = omega arith

-- ── what is pushed ──

pub cleared_word : (words : List ℕ) (object entries : ℕ) (old before left : List Action) (word : Bool) (place : Place) → word ≡ true → place.0 ≡ commit_word_at object
    → before ≡ old ++ stores 0 (take entries (entry_places words object)) → left ≡ before ++ Store place 0 ∷ [] → left ≡ old ++ clear_part words object entries word
unfolding clear_part
cleared_word words object entries old before left true place set at is pushed =
    pushed ∙ ap (λ (l : List Action). l ++ Store place 0 ∷ []) is ∙ append_assoc old (stores 0 (take entries (entry_places words object))) (Store place 0 ∷ [])
    ∙ ap (λ (n : ℕ). old ++ (stores 0 (take entries (entry_places words object)) ++ store n 0 ∷ [])) at
cleared_word words object entries old before left false place set at is pushed = absurd (both_ways false refl set)

pub cleared_entries : (words : List ℕ) (object entries : ℕ) (old left : List Action) (word : Bool) → word ≡ false → left ≡ old ++ stores 0 (take entries (entry_places words object)) → left ≡ old ++ clear_part words object entries word
unfolding clear_part
cleared_entries words object entries old left true unset is = absurd (both_ways true unset refl)
cleared_entries words object entries old left false unset is = is ∙ ap (λ (l : List Action). old ++ l) (sym (append-nil (stores 0 (take entries (entry_places words object)))))

-- a retire is its first part, and the second where there is something to clear
pub plan_of-retire : (words : List ℕ) (object entries : ℕ) (word : Bool) → entries ≤ length (entry_places words object) → 0 < entries + cond word 1 0
    → plan_of (retire_parts words object entries word) ≡ part_actions (one_store (state_at object) 0) ++ part_actions (clear_part words object entries word)
plan_of-retire words object entries word le some =
    ap (λ (l : List Action). part_actions (one_store (state_at object) 0) ++ l) (go (clear_part words object entries word) (λ e. let none = ap (λ (l : List Action). length l) e in let size = length-clear_part words object entries word le in omega (arith, some, none, size)))
  where
    go : (part : List Action) → (part ≡ [] → ⊥) → plan_of (unless_empty part) ≡ part_actions part
    go [] isnt = absurd (isnt refl)
    go (action ∷ part) isnt = append-nil (part_actions (action ∷ part))

pub plan_of-retire_nothing : (words : List ℕ) (object entries : ℕ) (word : Bool) → entries ≡ 0 → word ≡ false → plan_of (retire_parts words object entries word) ≡ part_actions (one_store (state_at object) 0)
unfolding clear_part
plan_of-retire_nothing words object entries word none unset =
    ap (λ (l : List Action). part_actions (one_store (state_at object) 0) ++ l) (ap (λ (part : Part). plan_of (unless_empty part)) (empty entries word none unset))
    ∙ append-nil (part_actions (one_store (state_at object) 0))
  where
    empty : (n : ℕ) (b : Bool) → n ≡ 0 → b ≡ false → clear_part words object n b ≡ []
    empty zero false none unset = refl
    empty (suc n) b none unset = absurd (omega (arith, none))
    empty zero true none unset = absurd (both_ways true unset refl)

pub some_to_clear : (entries : ℕ) (word : Bool) → (0 < entries) ⊎ ((entries ≤ 0) × (word ≡ true)) → 0 < entries + cond word 1 0
some_to_clear entries word some = ⊎_elim (λ lt. omega (arith, lt)) (λ set. let one : ◌≡◌ {A = ℕ} (cond word 1 0) 1 = cond-true word 1 0 set.1 in omega (arith, one)) some

pub retire_length_some : (words : List ℕ) (object entries : ℕ) (word : Bool) → entries ≤ length (entry_places words object) → (0 < entries) ⊎ ((entries ≤ 0) × (word ≡ true))
    → length (plan_of (retire_parts words object entries word)) ≡ 3 + length (part_actions (clear_part words object entries word))
retire_length_some words object entries word le some =
    let is = ap (λ (l : List Action). length l) (plan_of-retire words object entries word le (some_to_clear entries word some)) in
    let both = length-append (part_actions (one_store (state_at object) 0)) (part_actions (clear_part words object entries word)) in
    is ∙ both

pub retired : (words : List ℕ) (object entries : ℕ) (old stored left : List Action) (word : Bool) (place : ℕ) → entries ≤ length (entry_places words object) → place ≡ state_at object → (0 < entries) ⊎ ((entries ≤ 0) × (word ≡ true))
    → stored ≡ old ++ part_actions (one_store place 0) → left ≡ stored ++ part_actions (clear_part words object entries word) → left ≡ old ++ plan_of (retire_parts words object entries word)
retired words object entries old stored left word place le at some first second =
    second ∙ ap (λ (l : List Action). l ++ part_actions (clear_part words object entries word)) (first ∙ ap (λ (p : ℕ). old ++ part_actions (one_store p 0)) at)
    ∙ append_assoc old (part_actions (one_store (state_at object) 0)) (part_actions (clear_part words object entries word))
    ∙ ap (λ (l : List Action). old ++ l) (sym (plan_of-retire words object entries word le (some_to_clear entries word some)))

pub retired_nothing : (words : List ℕ) (object entries : ℕ) (old stored : List Action) (word : Bool) (place : ℕ) → place ≡ state_at object → entries ≤ 0 → word ≡ false
    → stored ≡ old ++ part_actions (one_store place 0) → stored ≡ old ++ plan_of (retire_parts words object entries word)
retired_nothing words object entries old stored word place at none unset first =
    first ∙ ap (λ (p : ℕ). old ++ part_actions (one_store p 0)) at ∙ ap (λ (l : List Action). old ++ l) (sym (plan_of-retire_nothing words object entries word (omega (arith, none)) unset))

pub retire_length_none : (words : List ℕ) (object entries : ℕ) (word : Bool) → entries ≤ 0 → word ≡ false → length (plan_of (retire_parts words object entries word)) ≡ 3
retire_length_none words object entries word none unset = ap (λ (l : List Action). length l) (plan_of-retire_nothing words object entries word (omega (arith, none)) unset)
