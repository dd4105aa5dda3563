-- How many actions the plan of a growth has at most.
use Rattle.std.proofs.Common.{◌≡◌, ℕ, zero, suc, ◌+◌, ◌-◌, ◌≤◌, List, [], ◌∷◌, ◌++◌, length, map, drop, refl, sym, ◌∙◌, ap, arith, append_assoc, append-nil}
use Rattle.std.proofs.lemmas.List.{length-append}
use Rattle.pm_model.specs.declared.action.Action.{Action}
use Rattle.pm_model.specs.declared.action.Action.TheVariants.{Flush, Fence}
use Rattle.pm_model.specs.Plans.{plan_of, part_actions, part_end, lines_of, store, one_store}
use Rattle.pm_model.proofs.Lines.{last_part}
use Rattle.seg_array.specs.Growth.{punches, publishing_parts}
use Rattle.seg_array.proofs.Punches.{punch, punches-lines, length-punches}

-- ── the parts that publish ──

-- one punch more
pub punched_next : (first pages : ℕ) → punches first (pages + 1) ≡ punches first pages ++ punch (first + pages) ∷ []
punched_next first pages = ap (punches first) (plus_one pages) ∙ more first pages
  where
    plus_one : (n : ℕ) → n + 1 ≡ suc n
    plus_one n = omega arith

    more : (a n : ℕ) → punches a (suc n) ≡ punches a n ++ punch (a + n) ∷ []
    more a zero = ap (λ (p : ℕ). punch p ∷ []) (here a)
      where
        here : (m : ℕ) → m ≡ m + 0
        here m = omega arith
    more a (suc n) = ap (λ (xs : List Action). punch a ∷ xs) (more (a + 1) n ∙ ap (λ (p : ℕ). punches (a + 1) n ++ punch p ∷ []) (there a n))
      where
        there : (m k : ℕ) → m + 1 + k ≡ m + suc k
        there m k = omega arith

module _ (old left : List Action) (first pages : ℕ) (is : left ≡ old ++ punches first pages) where
  ended : drop (length left - pages) left ≡ punches first pages
  ended = last_part old (punches first pages) left pages is (sym (length-punches first pages))

  pub punched_within : pages ≤ length left
  punched_within = let all = ap (length {A = Action}) is in omega (arith, all, length-append old (punches first pages), length-punches first pages)

  pub punched_lines : length (lines_of (drop (length left - pages) left)) ≡ 0
  punched_lines = ap (λ (xs : List Action). length (lines_of xs)) ended ∙ ap (length {A = ℕ}) (punches-lines first pages)

  pub punched_end : part_end (drop (length left - pages) left) ≡ Fence ∷ []
  punched_end = ap part_end ended ∙ ap (λ (lines : List ℕ). map (λ line. Flush line) lines ++ Fence ∷ []) (punches-lines first pages)

  module _ (fenced : List Action) (fenced_is : fenced ≡ left ++ part_end (drop (length left - pages) left)) where
    pub published_left : (header count : ℕ) (stored whole : List Action) → stored ≡ fenced ++ store header (count + 1) ∷ [] → whole ≡ stored ++ part_end (drop (length stored - 1) stored) → whole ≡ old ++ plan_of (publishing_parts header count first pages)
    published_left header count stored whole stored_is whole_is =
        let last : drop (length stored - 1) stored ≡ one_store header (count + 1) = last_part fenced (one_store header (count + 1)) stored 1 stored_is refl in
        whole_is
        ∙ ap (λ (xs : List Action). stored ++ part_end xs) last
        ∙ ap (λ (xs : List Action). xs ++ part_end (one_store header (count + 1))) (stored_is ∙ ap (λ (xs : List Action). xs ++ one_store header (count + 1)) (fenced_is ∙ ap (λ (xs : List Action). xs ++ part_end (drop (length left - pages) left)) is ∙ ap (λ (xs : List Action). (old ++ punches first pages) ++ part_end xs) ended))
        ∙ joined (punches first pages)
      where
        joined : (xs : List Action) → (((old ++ xs) ++ part_end xs) ++ one_store header (count + 1)) ++ part_end (one_store header (count + 1)) ≡ old ++ plan_of (xs ∷ one_store header (count + 1) ∷ [])
        joined xs =
            let one = one_store header (count + 1) in
            append_assoc ((old ++ xs) ++ part_end xs) one (part_end one)
            ∙ ap (λ (ys : List Action). ys ++ part_actions one) (append_assoc old xs (part_end xs))
            ∙ append_assoc old (part_actions xs) (part_actions one)
            ∙ ap (λ (ys : List Action). old ++ (part_actions xs ++ ys)) (sym (append-nil (part_actions one)))
