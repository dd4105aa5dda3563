-- The stores of the part that stamps rows.
use Rattle.std.proofs.Common.{◌≡◌, ℕ, ◌+◌, ◌-◌, ◌*◌, ◌≤◌, ◌∙◌, List, [], ◌∷◌, ◌++◌, length, map, drop, refl, ap, sym, arith}
use Rattle.std.specs.List.{range_with_len}
use Rattle.std.proofs.lemmas.List.FromFn.{map-range_with_len_more}
use Rattle.pm_model.specs.declared.action.Action.{Action}
use Rattle.pm_model.specs.declared.action.Action.TheVariants.{Store}
use Rattle.image_layout.specs.declared.place.Place.{Place}
use Rattle.pm_model.specs.Plans.{store, stores, part_actions}
use Rattle.pm_model.proofs.Lines.{length-lines_of, length-part_actions}
use Rattle.engine_core.specs.Stage.{high_at, born_at}
use Rattle.engine_core.specs.StagePlans.{stamp_part}
use Rattle.engine_core.proofs.Stores.{stores-at, length-run}

stores-more : (number first nth : ℕ) → stores number (map born_at (range_with_len first (nth + 1))) ≡ stores number (map born_at (range_with_len first nth)) ++ store (born_at (first + nth)) number ∷ []
stores-more number first nth =
    sym (stores-at number born_at (range_with_len first (nth + 1)))
    ∙ map-range_with_len_more (λ k. store (born_at k) number) first nth (first + nth) refl
    ∙ ap (λ (part : List Action). part ++ store (born_at (first + nth)) number ∷ []) (stores-at number born_at (range_with_len first nth))

pub stamped-next : (number first nth : ℕ) (before after : List Action) (place : Place) → place.0 ≡ born_at (first + nth)
    → before ≡ stores number (map born_at (range_with_len first nth)) → after ≡ before ++ Store place number ∷ [] → after ≡ stores number (map born_at (range_with_len first (nth + 1)))
stamped-next number first nth before after place is_place is_before is_after =
    is_after ∙ ap (λ (part : List Action). part ++ Store place number ∷ []) is_before
    ∙ ap (λ (at : ℕ). stores number (map born_at (range_with_len first nth)) ++ store at number ∷ []) is_place
    ∙ sym (stores-more number first nth)

pub stamped-all : (number first count nth : ℕ) (before after : List Action) (place : Place) (end : ℕ) → place.0 ≡ high_at → end ≡ first + count → nth ≡ count
    → before ≡ stores number (map born_at (range_with_len first nth)) → after ≡ before ++ Store place end ∷ [] → after ≡ stamp_part first count number
stamped-all number first count nth before after place end is_place is_end is_all is_before is_after =
    is_after ∙ ap (λ (part : List Action). part ++ Store place end ∷ []) (is_before ∙ ap (λ (n : ℕ). stores number (map born_at (range_with_len first n))) is_all)
    ∙ ap (λ (word : ℕ). stores number (map born_at (range_with_len first count)) ++ Store place word ∷ []) is_end
    ∙ ap (λ (at : ℕ). stores number (map born_at (range_with_len first count)) ++ store at (first + count) ∷ []) is_place

pub length-stamp_part : (first count number : ℕ) → length (stamp_part first count number) ≡ count + 1
length-stamp_part first count number = length-run number born_at 2048 (λ k. refl) high_at (first + count) first count

-- the part is all of the plan
pub drop-all_of : (left : List Action) (count : ℕ) → length left ≡ count → drop (length left - count) left ≡ left
drop-all_of left count size = let none : length left - count ≡ 0 = omega arith in ap (λ (n : ℕ). drop n left) none

pub length-stamp_actions : (first count number : ℕ) → length (part_actions (stamp_part first count number)) ≤ 2 * count + 3
length-stamp_actions first count number =
    let all = length-part_actions (stamp_part first count number) in
    let size = length-stamp_part first count number in
    let lines = length-lines_of (stamp_part first count number) in
    omega (arith, all, size, lines)
