-- A column's split log fits still where its own first words, and those of its leaves, are the same.
use Rattle.std.proofs.Common.{◌≡◌, ◌≢◌, ⊎_elim, ℕ, ◌+◌, ◌-◌, ◌^◌, ◌<◌, ◌≤◌, Bool, true, false, not, ◌&&◌, eqb, List, [], ◌∷◌, get_or, sym, ◌∙◌, ap, subst, arith}
use Rattle.std.specs.Prelude.{Contains}
use Rattle.std.proofs.lemmas.Bool.{and_parts, both_ways, cases_Bool, cond-true, eq-eqb, not-true}
use Rattle.std.proofs.lemmas.List.Elements.{All-contains}
use Rattle.image_layout.specs.Places.{place_in}
use Rattle.image_layout.specs.Records.{first_leaf_at, new_leaf_at, next_leaf_at, split_leaf_at}
use Rattle.image_layout.specs.Tables.{all_columns}
use Rattle.image_layout.specs.Trees.{is_about_to_link, leaf_list, put_behind, stored_leaves}
use Rattle.image_layout.proofs.Members.{Contains-cons, Contains-here, Contains-nil, Contains-there}
use Rattle.shown_state.specs.Fits.{Fits}
use Rattle.shown_state.specs.Logs.{SplitFits}
use Rattle.shown_state.proofs.SameLeaves.{split_stored, stored_listed}

behind_it : (leaf other : ℕ) (leaves : List ℕ) → Contains leaves leaf → Contains (put_behind leaf other leaves) other
behind_it leaf other [] is = absurd (Contains-nil leaf is)
behind_it leaf other (first ∷ leaves) is = ⊎_elim
    (λ (hit : eqb first leaf ≡ true). rw hit (Contains-there first other (other ∷ leaves) (Contains-here other leaves)))
    (λ (miss : eqb first leaf ≡ false). rw miss (Contains-there first other (put_behind leaf other leaves)
    (behind_it leaf other leaves (⊎_elim (λ (here : first ≡ leaf). absurd (both_ways (eqb first leaf) miss (eq-eqb first leaf here))) (λ there. there) (Contains-cons first leaf leaves is)))))
    (cases_Bool (eqb first leaf))

-- the new leaf of a split that is about to link is in the list
fresh_listed : (words : List ℕ) → Fits words → (column : ℕ) → Contains (all_columns words) column → is_about_to_link words column ≡ true → Contains (leaf_list words column) (place_in (get_or words (new_leaf_at column) 0))
unfolding leaf_list
fresh_listed words fits column is about =
    let leaf = place_in (get_or words (split_leaf_at column) 0) in
    let fresh = place_in (get_or words (new_leaf_at column) 0) in
    subst (λ (xs : List ℕ). Contains xs fresh) (sym (cond-true (is_about_to_link words column) (put_behind leaf fresh (stored_leaves words column)) (stored_leaves words column) about))
    (behind_it leaf fresh (stored_leaves words column) (split_stored words fits.entry.trees column is split))
  where
    split : get_or words (split_leaf_at column) 0 ≢ 0
    split none =
        let three = (and_parts _ _ about).0 in
        let two = (and_parts _ _ three).0 in
        let one = (and_parts _ _ two).0 in
        both_ways (eqb (get_or words (split_leaf_at column) 0) 0) (not-true (eqb (get_or words (split_leaf_at column) 0) 0) one) (eq-eqb (get_or words (split_leaf_at column) 0) 0 none)

module _ (old new : List ℕ) (fits : Fits old) (column : ℕ) (is : Contains (all_columns old) column) (own : (word : ℕ) → word < 8 → get_or new (column + word) 0 ≡ get_or old (column + word) 0)
    (leaves : (leaf w : ℕ) → Contains (leaf_list old column) leaf → leaf ≤ w → w < leaf + 8 → get_or new w 0 ≡ get_or old w 0) where
  pub split_fits : SplitFits new column
  split_fits = record {
    unlinked = λ split fresh full linked.
        let split_old : leaf ≢ 0 = λ none. split (leaf_kept ∙ none) in
        let bitmap = at_leaf split_old in
        was.unlinked split_old (λ none. fresh (new_kept ∙ none))
        (ap (λ (w : ℕ). eqb w (2 ^ 48 - 1)) (sym (ap (λ (l : ℕ). get_or new (place_in l) 0) leaf_kept ∙ bitmap)) ∙ full)
        (sym (ap (λ (l : ℕ). get_or new (next_leaf_at (place_in l)) 0) leaf_kept ∙ at_next split_old) ∙ linked ∙ new_kept);
    goes_on = λ about. let was_about = back about in
        ap (λ (l : ℕ). get_or new (next_leaf_at (place_in l)) 0) new_kept ∙ fresh_word was_about 1 (omega arith) ∙ was.goes_on was_about
        ∙ sym (ap (λ (l : ℕ). get_or new (next_leaf_at (place_in l)) 0) leaf_kept ∙ at_next (some_split was_about));
    bitmap = λ about.
        let was_about = back about in
        let low = was.bitmap was_about in
        let word = ap (λ (l : ℕ). get_or new (place_in l) 0) new_kept ∙ ap (λ (p : ℕ). get_or new p 0) (sym (add_zero (place_in fresh_leaf))) ∙ fresh_word was_about 0 (omega arith) ∙ ap (λ (p : ℕ). get_or old p 0) (add_zero (place_in fresh_leaf)) in
        omega (arith, low, word);
    first = λ none some first. first_kept ∙ was.first (sym leaf_kept ∙ none) (λ e. some (new_kept ∙ e)) (λ e. first (first_kept ∙ e)) ∙ sym new_kept;
    later = λ split some named. was.later (λ e. split (leaf_kept ∙ e)) (λ e. some (new_kept ∙ e)) (sym first_kept ∙ named ∙ new_kept);
  }
    where
      was : SplitFits old column
      was = All-contains (SplitFits old) (all_columns old) column fits.logs.splits is

      leaf : ℕ
      leaf = get_or old (split_leaf_at column) 0

      fresh_leaf : ℕ
      fresh_leaf = get_or old (new_leaf_at column) 0

      leaf_kept : get_or new (split_leaf_at column) 0 ≡ get_or old (split_leaf_at column) 0
      leaf_kept = own 5 (omega arith)

      new_kept : get_or new (new_leaf_at column) 0 ≡ get_or old (new_leaf_at column) 0
      new_kept = own 6 (omega arith)

      first_kept : get_or new (first_leaf_at column) 0 ≡ get_or old (first_leaf_at column) 0
      first_kept = own 4 (omega arith)

      listed : leaf ≢ 0 → Contains (leaf_list old column) (place_in leaf)
      listed some = stored_listed old column (place_in leaf) (split_stored old fits.entry.trees column is some)

      at_leaf : leaf ≢ 0 → get_or new (place_in leaf) 0 ≡ get_or old (place_in leaf) 0
      at_leaf some = leaves (place_in leaf) (place_in leaf) (listed some) (omega arith) (omega arith)

      at_next : leaf ≢ 0 → get_or new (next_leaf_at (place_in leaf)) 0 ≡ get_or old (next_leaf_at (place_in leaf)) 0
      at_next some = leaves (place_in leaf) (next_leaf_at (place_in leaf)) (listed some) (omega arith) (omega arith)

      add_zero : (n : ℕ) → n + 0 ≡ n
      add_zero n = omega arith

      some_split : is_about_to_link old column ≡ true → leaf ≢ 0
      some_split about none =
          let three = (and_parts _ _ about).0 in
          let two = (and_parts _ _ three).0 in
          let one = (and_parts _ _ two).0 in
          both_ways (eqb leaf 0) (not-true (eqb leaf 0) one) (eq-eqb leaf 0 none)

      new_split : is_about_to_link new column ≡ true → leaf ≢ 0
      new_split about none =
          let three = (and_parts _ _ about).0 in
          let two = (and_parts _ _ three).0 in
          let one = (and_parts _ _ two).0 in
          both_ways (eqb (get_or new (split_leaf_at column) 0) 0) (not-true (eqb (get_or new (split_leaf_at column) 0) 0) one) (eq-eqb (get_or new (split_leaf_at column) 0) 0 (leaf_kept ∙ none))

      -- it is about to link only if it was
      back : is_about_to_link new column ≡ true → is_about_to_link old column ≡ true
      back about =
          let says : ℕ → ℕ → ℕ → ℕ → Bool = λ split fresh bitmap next. not (eqb split 0) && not (eqb fresh 0) && not (eqb bitmap (2 ^ 48 - 1)) && not (eqb next fresh) in
          let bitmap : ℕ → ℕ = λ split. get_or new (place_in split) 0 in
          let next : ℕ → ℕ = λ split. get_or new (next_leaf_at (place_in split)) 0 in
          let some = new_split about in
          sym (ap (λ (l : ℕ). says l (get_or new (new_leaf_at column) 0) (bitmap l) (next l)) leaf_kept
          ∙ ap (λ (f : ℕ). says leaf f (bitmap leaf) (next leaf)) new_kept
          ∙ ap (λ (b : ℕ). says leaf fresh_leaf b (next leaf)) (at_leaf some)
          ∙ ap (says leaf fresh_leaf (get_or old (place_in leaf) 0)) (at_next some))
          ∙ about

      fresh_word : is_about_to_link old column ≡ true → (word : ℕ) → word < 8 → get_or new (place_in fresh_leaf + word) 0 ≡ get_or old (place_in fresh_leaf + word) 0
      fresh_word about word few = leaves (place_in fresh_leaf) (place_in fresh_leaf + word) (fresh_listed old fits column is about) (omega arith) (omega (arith, few))
