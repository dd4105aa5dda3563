-- How many actions the plan of an allocation has at most.
use Rattle.std.proofs.Common.{ℕ, suc, ◌+◌, ◌*◌, ◌≤◌, Bool, true, false, cond, eqb, List, [], ◌∷◌, length, get_or, ap, arith, append-nil}
use Rattle.std.specs.List.{range_with_len, filter}
use Rattle.std.proofs.lemmas.List.{length-append, length-map}
use Rattle.std.proofs.lemmas.List.FromFn.{length-range_with_len}
use Rattle.std.proofs.lemmas.Grind.{flat_map-append}
use Rattle.pm_model.specs.declared.action.Action.{Action}
use Rattle.image_layout.specs.Fixed.{descriptor_at, lane_op_at}
use Rattle.image_layout.specs.Pointer.{pointer_word}
use Rattle.image_layout.specs.Places.{page_of}
use Rattle.pm_model.specs.Plans.{Part, plan_of, part_actions, store, one_store, unless_empty}
use Rattle.pm_model.proofs.Lines.{part_length}
use Rattle.heap_palloc.specs.Lane.{mark_at}
use Rattle.heap_palloc.specs.Parts.{Allocation, lane_part, allocation_parts, forget_given_back, big_allocation_parts}

unless_length : (part : Part) → length (plan_of (unless_empty part)) ≤ 2 * length part + 1
unless_length [] = omega arith
unless_length (action ∷ part) = let most = part_length (action ∷ part) in let whole = ap (length {A = Action}) (append-nil (part_actions (action ∷ part))) in omega (arith, most, whole)

filter_length : (p : ℕ → Bool) (xs : List ℕ) → length (filter p xs) ≤ length xs
filter_length p [] = omega arith
filter_length p (x ∷ xs) = by (p x) (filter_length p xs)
  where
    by : (b : Bool) → length (filter p xs) ≤ length xs → length (cond b (x ∷ filter p xs) (filter p xs)) ≤ suc (length xs)
    by true le = omega (arith, le)
    by false le = omega (arith, le)

forget_length : (words : List ℕ) (a n : ℕ) → length (forget_given_back words (range_with_len a n)) ≤ n
forget_length words a n =
    let mapped = length-map (filter (λ page. eqb (get_or words (descriptor_at page) 0) 1) (range_with_len a n)) (λ page. store (descriptor_at page) 0) in
    let most = filter_length (λ page. eqb (get_or words (descriptor_at page) 0) 1) (range_with_len a n) in
    omega (arith, mapped, most, length-range_with_len a n)

-- the parts behind the lane's, each of one store
abbrev logged_parts : Allocation → List Part
logged_parts a = one_store (lane_op_at a.lane) 1 ∷ one_store (mark_at a.block) a.marked ∷ one_store a.owner (pointer_word a.block) ∷ one_store (lane_op_at a.lane) 0 ∷ []

pub allocation_length : (a : Allocation) → length (plan_of (allocation_parts a)) ≤ 17
allocation_length a =
    let lane = part_length (lane_part a) in
    let all = length-append (part_actions (lane_part a)) (plan_of (logged_parts a)) in
    omega (arith, lane, all)

-- pages that are taken, some of which were given back
pub taking_length : (words : List ℕ) (pages : ℕ) (a : Allocation) → length (plan_of (big_allocation_parts words pages a)) ≤ 2 * pages + 18
taking_length words pages a =
    let forget = forget_given_back words (range_with_len (page_of a.block) pages) in
    let both = ap (length {A = Action}) (flat_map-append part_actions (unless_empty forget) (allocation_parts a)) in
    let sum = length-append (plan_of (unless_empty forget)) (plan_of (allocation_parts a)) in
    let first = unless_length forget in
    let second = allocation_length a in
    let few = forget_length words (page_of a.block) pages in
    omega (arith, both, sum, first, second, few)
