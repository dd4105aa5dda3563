-- The part over pages that were given back, page by page.
use Rattle.std.proofs.Common.{◌≡◌, ◌≢◌, ℕ, suc, ◌+◌, ◌-◌, ◌*◌, ◌<◌, ◌≤◌, Bool, true, false, cond, eqb, List, [], ◌∷◌, ◌++◌, length, drop, map, get_or, refl, sym, ◌∙◌, ap, arith, append_assoc, append-nil, length-append}
use Rattle.std.specs.List.{range_with_len, filter}
use Rattle.std.proofs.lemmas.Bool.{cond-true, cond-false, eq-eqb, ne_eqb}
use Rattle.std.proofs.lemmas.List.{map-append, length-map}
use Rattle.std.proofs.lemmas.List.Elements.{filter-append}
use Rattle.pm_model.specs.declared.action.Action.{Action}
use Rattle.image_layout.specs.Fixed.{descriptor_at}
use Rattle.pm_model.specs.declared.action.Action.TheVariants.{Flush, Fence}
use Rattle.pm_model.specs.Plans.{store, unless_empty, lines_of, part_end, part_actions, plan_of}
use Rattle.pm_model.proofs.Lines.{last_part, part_has_room}
use Rattle.image_layout.proofs.Ranges.{range_more}
use Rattle.heap_palloc.specs.Parts.{forget_given_back}

next : (n : ℕ) → n + 1 ≡ suc n
next n = omega arith

-- one page more
pub forget_more : (words : List ℕ) (a n : ℕ) → forget_given_back words (range_with_len a (suc n)) ≡ forget_given_back words (range_with_len a n) ++ cond (eqb (get_or words (descriptor_at (a + n)) 0) 1) (store (descriptor_at (a + n)) 0 ∷ []) []
forget_more words a n =
    ap (λ (k : ℕ). forget_given_back words (range_with_len a k)) (sym (next n)) ∙ ap (forget_given_back words) (range_more a n)
    ∙ ap (map (λ page. store (descriptor_at page) 0)) (filter-append (λ page. eqb (get_or words (descriptor_at page) 0) 1) (range_with_len a n) ((a + n) ∷ []))
    ∙ map-append (λ page. store (descriptor_at page) 0) (filter (λ page. eqb (get_or words (descriptor_at page) 0) 1) (range_with_len a n)) (filter (λ page. eqb (get_or words (descriptor_at page) 0) 1) ((a + n) ∷ []))
    ∙ ap (λ (xs : List Action). forget_given_back words (range_with_len a n) ++ xs) (one (eqb (get_or words (descriptor_at (a + n)) 0) 1))
  where
    one : (b : Bool) → map (λ page. store (descriptor_at page) 0) (cond b ((a + n) ∷ []) []) ≡ cond b (store (descriptor_at (a + n)) 0 ∷ []) []
    one true = refl
    one false = refl

-- one that was given back, and one that wasn't
pub forget_hit : (words : List ℕ) (a n : ℕ) → get_or words (descriptor_at (a + n)) 0 ≡ 1 → forget_given_back words (range_with_len a (n + 1)) ≡ forget_given_back words (range_with_len a n) ++ store (descriptor_at (a + n)) 0 ∷ []
forget_hit words a n is =
    ap (λ (k : ℕ). forget_given_back words (range_with_len a k)) (next n) ∙ forget_more words a n
    ∙ ap (λ (xs : List Action). forget_given_back words (range_with_len a n) ++ xs) (cond-true (eqb (get_or words (descriptor_at (a + n)) 0) 1) (store (descriptor_at (a + n)) 0 ∷ []) [] (eq-eqb (get_or words (descriptor_at (a + n)) 0) 1 is))

pub forget_miss : (words : List ℕ) (a n : ℕ) → get_or words (descriptor_at (a + n)) 0 ≢ 1 → forget_given_back words (range_with_len a (n + 1)) ≡ forget_given_back words (range_with_len a n)
forget_miss words a n apart =
    ap (λ (k : ℕ). forget_given_back words (range_with_len a k)) (next n) ∙ forget_more words a n
    ∙ ap (λ (xs : List Action). forget_given_back words (range_with_len a n) ++ xs) (cond-false (eqb (get_or words (descriptor_at (a + n)) 0) 1) (store (descriptor_at (a + n)) 0 ∷ []) [] (ne_eqb (get_or words (descriptor_at (a + n)) 0) 1 apart))
    ∙ append-nil (forget_given_back words (range_with_len a n))

-- what the plan has after one of each
pub pushed_hit : (words : List ℕ) (a n place count : ℕ) (old before after : List Action) → before ≡ old ++ forget_given_back words (range_with_len a n) → after ≡ before ++ store place 0 ∷ [] → place ≡ descriptor_at (a + n) → get_or words place 0 ≡ 1
    → count ≡ length (forget_given_back words (range_with_len a n)) → (after ≡ old ++ forget_given_back words (range_with_len a (n + 1))) × (count + 1 ≡ length (forget_given_back words (range_with_len a (n + 1))))
pushed_hit words a n place count old before after was is at one counted =
    let hit = forget_hit words a n (ap (λ (w : ℕ). get_or words w 0) (sym at) ∙ one) in
    let size = length-append (forget_given_back words (range_with_len a n)) (store (descriptor_at (a + n)) 0 ∷ []) in (
      is ∙ ap (λ (xs : List Action). xs ++ store place 0 ∷ []) was ∙ append_assoc old (forget_given_back words (range_with_len a n)) (store place 0 ∷ [])
          ∙ ap (λ (w : ℕ). old ++ (forget_given_back words (range_with_len a n) ++ store w 0 ∷ [])) at ∙ ap (λ (xs : List Action). old ++ xs) (sym hit),
      omega (arith, counted, size) ∙ ap (length {A = Action}) (sym hit),
    )

pub pushed_miss : (words : List ℕ) (a n place count : ℕ) (old before : List Action) → before ≡ old ++ forget_given_back words (range_with_len a n) → place ≡ descriptor_at (a + n) → get_or words place 0 ≢ 1
    → count ≡ length (forget_given_back words (range_with_len a n)) → (before ≡ old ++ forget_given_back words (range_with_len a (n + 1))) × (count ≡ length (forget_given_back words (range_with_len a (n + 1))))
pushed_miss words a n place count old before was at none counted =
    let miss = forget_miss words a n (λ e. none (ap (λ (w : ℕ). get_or words w 0) at ∙ e)) in
    (was ∙ ap (λ (xs : List Action). old ++ xs) (sym miss), counted ∙ ap (length {A = Action}) (sym miss))

-- ── the whole part ──

within_left : (old part left : List Action) (count : ℕ) → left ≡ old ++ part → count ≡ length part → count ≤ length left
within_left old part left count left_is counted = omega (arith, counted, ap (length {A = Action}) left_is, length-append old part)

one_part : (part : List Action) → 0 < length part → part ++ part_end part ≡ plan_of (unless_empty part)
one_part [] some = absurd (omega arith)
one_part (action ∷ part) some = sym (append-nil (part_actions (action ∷ part)))

module _ (old part left : List Action) (count spare : ℕ) (left_is : left ≡ old ++ part) (counted : count ≡ length part) where
  pub part_room : count < spare → length (lines_of (drop (length left - count) left)) < spare
  part_room room = part_has_room left count spare (within_left old part left count left_is counted) room

  pub part_ended : (new : List Action) → new ≡ left ++ part_end (drop (length left - count) left) → 0 < count → new ≡ old ++ plan_of (unless_empty part)
  part_ended new new_is some =
      new_is ∙ ap (λ (xs : List Action). left ++ part_end xs) (last_part old part left count left_is counted)
      ∙ ap (λ (xs : List Action). xs ++ part_end part) left_is ∙ append_assoc old part (part_end part)
      ∙ ap (λ (xs : List Action). old ++ xs) (one_part part (omega (arith, some, counted)))

  pub part_spare : (most new start : ℕ) → count ≤ most → new + length (part_end (drop (length left - count) left)) ≡ spare → spare + count ≡ start → start ≤ new + (2 * most + 1)
  part_spare most new start le new_is start_is =
      let lines : length (lines_of (drop (length left - count) left)) < count + 1 = part_has_room left count (count + 1) (within_left old part left count left_is counted) (omega arith) in
      let size : length (part_end (drop (length left - count) left)) ≡ length (lines_of (drop (length left - count) left)) + 1 = end_size (lines_of (drop (length left - count) left)) in
      omega (arith, le, new_is, start_is, lines, size)
    where
      end_size : (lines : List ℕ) → length (map (λ line. Flush line) lines ++ Fence ∷ []) ≡ length lines + 1
      end_size lines = length-append (map (λ line. Flush line) lines) (Fence ∷ []) ∙ ap (λ (n : ℕ). n + 1) (length-map lines (λ line. Flush line))
