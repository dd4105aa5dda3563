-- A part of several changes, and then parts of one change each.
use Rattle.std.proofs.Common.{◌≡◌, ◌≢◌, ℕ, suc, ◌+◌, ◌<◌, ◌≤◌, Bool, cond, List, [], ◌∷◌, ◌++◌, length, get_or, set, take, drop, sym, ◌∙◌, ap, append_assoc, arith}
use Rattle.std.proofs.lemmas.List.{append-nil, drop_more, drop_all}
use Rattle.std.proofs.lemmas.Bool.{eq-eqb, ne_eqb}
use Rattle.std.proofs.lemmas.Grind.{flat_map-append}
use Rattle.std.proofs.Math.Seq.{take-suc}
use Rattle.pm_model.specs.declared.action.Action.{Action}
use Rattle.pm_model.specs.Plans.{Part, one_store, unless_empty, part_actions, plan_of, finished}
use Rattle.pm_model.specs.Needed.{needed_stores, needed_parts}
use Rattle.pmem_recover.specs.declared.change.WordChange.{WordChange}
use Rattle.pmem_recover.specs.Changes.{change_part, change_parts}
use Rattle.pm_model.proofs.NeededStores.{needed-whole}
use Rattle.pmem_recover.proofs.Changes.{AnyStore, change-stores, if_needed, needed-one, finished-more}
use Rattle.pmem_recover.proofs.Parts.{parts-one}

-- the first of some parts
pub needed-first : (words : List ℕ) (part : List WordChange) (parts : List Part) → needed_parts words (change_part part ∷ parts) ≡ unless_empty (needed_stores words (change_part part)) ++ needed_parts (finished (change_parts part) words) parts
needed-first words part parts = ap (λ (ws : List ℕ). unless_empty (needed_stores words (change_part part)) ++ needed_parts ws parts) (needed-whole AnyStore words (change_part part) (change-stores part) ∙ sym (parts-one part words))

-- the actions of the changes from one on, each a part of its own
abbrev pub rest_of : List ℕ → List WordChange → ℕ → List Action
rest_of words changes done = plan_of (needed_parts (finished (change_parts (take done changes)) words) (change_parts (drop done changes)))

pub rest-none : (words : List ℕ) (changes : List WordChange) (done : ℕ) (left : List Action) → length changes ≤ done → left ≡ left ++ rest_of words changes done
rest-none words changes done left le = sym (append-nil left)
    ∙ ap (λ (cs : List WordChange). left ++ plan_of (needed_parts (finished (change_parts (take done changes)) words) (change_parts cs))) (sym (drop_all done changes le))

-- once the first part was added
pub rest-first : (words : List ℕ) (changes : List WordChange) (first : ℕ) (old left : List Action) → left ≡ old ++ plan_of (unless_empty (needed_stores words (change_part (take first changes))))
    → left ++ rest_of words changes first ≡ old ++ plan_of (needed_parts words (change_part (take first changes) ∷ change_parts (drop first changes)))
rest-first words changes first old left is =
    let one = unless_empty (needed_stores words (change_part (take first changes))) in
    let later = needed_parts (finished (change_parts (take first changes)) words) (change_parts (drop first changes)) in
    ap (λ (xs : List Action). xs ++ plan_of later) is ∙ append_assoc old (plan_of one) (plan_of later)
    ∙ ap (λ (xs : List Action). old ++ xs) (sym (flat_map-append part_actions one later) ∙ ap plan_of (sym (needed-first words (take first changes) (change_parts (drop first changes)))))

module _ (words : List ℕ) (changes : List WordChange) (done : ℕ) (d : WordChange) (lt : done < length changes) where
  taken : take (done + 1) changes ≡ take done changes ++ get_or changes done d ∷ []
  taken = let next : done + 1 ≡ suc done = omega arith in ap (λ (k : ℕ). take k changes) next ∙ take-suc changes done d lt

  -- one change more
  rest-next : rest_of words changes done ≡ plan_of (if_needed (finished (change_parts (take done changes)) words) (get_or changes done d)) ++ rest_of words changes (done + 1)
  rest-next =
      let made = finished (change_parts (take done changes)) words in
      let c = get_or changes done d in
      ap (λ (cs : List WordChange). plan_of (needed_parts made (change_parts cs))) (drop_more changes done d lt)
      ∙ ap plan_of (needed-one made c (change_parts (drop (done + 1) changes)))
      ∙ flat_map-append part_actions (if_needed made c) (needed_parts (set made c.place.0 c.value) (change_parts (drop (done + 1) changes)))
      ∙ ap (λ (ws : List ℕ). plan_of (if_needed made c) ++ plan_of (needed_parts ws (change_parts (drop (done + 1) changes))))
      (sym (ap (λ (cs : List WordChange). finished (change_parts cs) words) taken ∙ finished-more (take done changes) c words))

  pub rest-pushed : (left new total : List Action) → left ++ rest_of words changes done ≡ total
      → get_or (finished (change_parts (take done changes)) words) (get_or changes done d).place.0 0 ≢ (get_or changes done d).value
      → new ≡ left ++ part_actions (one_store (get_or changes done d).place.0 (get_or changes done d).value) → new ++ rest_of words changes (done + 1) ≡ total
  rest-pushed left new total is apart pushed_is =
      let c = get_or changes done d in
      ap (λ (xs : List Action). xs ++ rest_of words changes (done + 1)) pushed_is ∙ append_assoc left (part_actions (one_store c.place.0 c.value)) (rest_of words changes (done + 1))
      ∙ ap (λ (xs : List Action). left ++ (xs ++ rest_of words changes (done + 1)))
      (sym (append-nil (part_actions (one_store c.place.0 c.value))) ∙ ap (λ (b : Bool). plan_of (cond b [] (one_store c.place.0 c.value ∷ []))) (sym (ne_eqb _ _ apart)))
      ∙ ap (λ (xs : List Action). left ++ xs) (sym rest-next) ∙ is

  pub rest-passed : (left total : List Action) → left ++ rest_of words changes done ≡ total
      → get_or (finished (change_parts (take done changes)) words) (get_or changes done d).place.0 0 ≡ (get_or changes done d).value
      → left ++ rest_of words changes (done + 1) ≡ total
  rest-passed left total is there =
      let c = get_or changes done d in
      ap (λ (b : Bool). left ++ (plan_of (cond b [] (one_store c.place.0 c.value ∷ [])) ++ rest_of words changes (done + 1))) (sym (eq-eqb _ _ there))
      ∙ ap (λ (xs : List Action). left ++ xs) (sym rest-next) ∙ is
