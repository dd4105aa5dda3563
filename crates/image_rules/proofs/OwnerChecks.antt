-- The checks of owner words, one after the other.
use Rattle.std.proofs.Common.{◌≡◌, ◌≢◌, ⊎_elim, ℕ, ◌+◌, ◌<◌, ◌≤◌, Bool, true, false, not, ◌&&◌, ◌||◌, eqb, List, [], ◌∷◌, ◌++◌, map, length, get_or, drop, refl, sym, ◌∙◌, ap, subst, arith}
use Rattle.std.specs.Prelude.{None, Some}
use Rattle.std.specs.Ordering.{nat_cmp}
use Rattle.std.specs.BTreeSet.{BTreeSet, IsEmpty, Updates, contains}
use Rattle.std.specs.BTreeMap.{is_at}
use Rattle.std.proofs.lemmas.Bool.{cases_eq, eq-eqb, ne_eqb}
use Rattle.std.proofs.lemmas.List.{drop_more, drop_all, get_or-map, length-map}
use Rattle.std.proofs.lemmas.List.Folds.{list_any-append}
use Rattle.std.proofs.lemmas.Grind.{common_steps}
use Rattle.image_layout.specs.Places.{is_pointer, place_in}
use Rattle.image_layout.specs.Blocks.{is_live}
use Rattle.image_layout.specs.Owners.{Owner, word_of, owns_block}
use Rattle.image_layout.specs.Checks.{Check, check, first_failing}
use Rattle.image_layout.specs.EntryRules.{is_among}
use Rattle.image_layout.specs.SoundRules.{distinct_checks}
use Rattle.image_layout.proofs.Faults.{passes, fails}
use Rattle.image_rules.specs.declared.owner_words.OwnerWord.{OwnerWord}
use Rattle.image_rules.specs.BuiltOwners.{as_read, built_owner_words, built_owner_rule, built_single_owner_rule, HasWords}

abbrev no_owner : Owner
no_owner = record { at = 0; block_words = 0 }

abbrev pub no_word : OwnerWord
no_word = record { place = 0; word = 0; block_words = 0 }

-- ── sets of words ──

module _ (held next : BTreeSet ℕ) (word : ℕ) (updates : Updates nat_cmp held next word true) where
  unequal : (q : ℕ) → word ≢ q → is_at (nat_cmp word) q ≡ false
  unequal q apart = grind (arith, common_steps)

  one_more : (q : ℕ) → contains nat_cmp next q ≡ (eqb word q || contains nat_cmp held q)
  one_more q = ⊎_elim
      (λ (here : word ≡ q). ap (contains nat_cmp next) (sym here) ∙ updates.1 ∙ sym (ap (λ (b : Bool). b || contains nat_cmp held q) (eq-eqb word q here)))
      (λ apart. updates.2 q (unequal q apart) ∙ sym (ap (λ (b : Bool). b || contains nat_cmp held q) (ne_eqb word q apart)))
      (cases_eq word q)

  pub held_front : (xs : List ℕ) → HasWords held xs → HasWords next (word ∷ xs)
  held_front xs has = record { each = λ q. one_more q ∙ ap (λ (b : Bool). eqb word q || b) (has.each q) }

  pub held_back : (xs : List ℕ) → HasWords held xs → HasWords next (xs ++ word ∷ [])
  held_back xs has = record { each = λ q. one_more q ∙ ap (λ (b : Bool). eqb word q || b) (has.each q) ∙ turned (eqb word q) (is_among xs q) ∙ sym (list_any-append (λ other. eqb other q) xs (word ∷ [])) }
    where
      turned : (a b : Bool) → (a || b) ≡ (b || (a || false))
      turned true true = refl
      turned true false = refl
      turned false true = refl
      turned false false = refl

pub held_none : (held : BTreeSet ℕ) → IsEmpty held → HasWords held []
held_none held empty = record { each = λ q. none q }
  where
    none : (q : ℕ) → contains nat_cmp held q ≡ false
    none q = grind (arith, common_steps)

module _ (words : List ℕ) where
  abbrev owners : List Owner
  owners = built_owner_words words

  abbrev pub Read : List OwnerWord → Type 0
  Read items = items ≡ map (as_read words) (built_owner_words words)

  -- the owner at an index, and those from an index on
  abbrev owner_at : ℕ → Owner
  owner_at i = get_or owners i no_owner

  within : (items : List OwnerWord) (i : ℕ) → Read items → i < length items → i < length owners
  within items i read lt = omega (arith, ap length read, length-map owners (as_read words))

  item_is : (items : List OwnerWord) (i : ℕ) (d : OwnerWord) → Read items → i < length items → get_or items i d ≡ as_read words (owner_at i)
  item_is items i d read lt = ap (λ (xs : List OwnerWord). get_or xs i d) read ∙ get_or-map (as_read words) owners i no_owner d (within items i read lt)

  from-is : (items : List OwnerWord) (i : ℕ) → Read items → i < length items → drop i owners ≡ owner_at i ∷ drop (i + 1) owners
  from-is items i read lt = drop_more owners i no_owner (within items i read lt)

  none_left : (items : List OwnerWord) (i : ℕ) → Read items → length items ≤ i → drop i owners ≡ []
  none_left items i read le = drop_all i owners (omega (arith, ap length read, length-map owners (as_read words)))

  -- ── each names a block that fits ──

  abbrev block_check : Owner → Check
  block_check owner = check owner.at (owns_block words owner)

  -- what is left of the rule from an index on
  abbrev pub blocks_from : ℕ → List Check
  blocks_from i = map block_check (drop i owners)

  pub blocks_all : first_failing (built_owner_rule words) ≡ first_failing (blocks_from 0)
  unfolding built_owner_rule
  blocks_all = refl

  abbrev pub names : OwnerWord → Bool
  names item = is_pointer words item.word && is_live words (place_in item.word) item.block_words

  pub block_passes : (items : List OwnerWord) (i : ℕ) (d : OwnerWord) → Read items → i < length items → names (get_or items i d) ≡ true → first_failing (blocks_from i) ≡ first_failing (blocks_from (i + 1))
  block_passes items i d read lt hit =
      ap (λ (os : List Owner). first_failing (map block_check os)) (from-is items i read lt)
      ∙ passes (block_check (owner_at i)) (blocks_from (i + 1)) (ap names (sym (item_is items i d read lt)) ∙ hit)

  pub block_fails : (items : List OwnerWord) (i : ℕ) (d : OwnerWord) → Read items → i < length items → names (get_or items i d) ≡ false → Some (get_or items i d).place ≡ first_failing (blocks_from i)
  block_fails items i d read lt miss =
      ap (λ (o : OwnerWord). Some o.place) (item_is items i d read lt)
      ∙ sym (ap (λ (os : List Owner). first_failing (map block_check os)) (from-is items i read lt)
      ∙ fails (block_check (owner_at i)) (blocks_from (i + 1)) (ap names (sym (item_is items i d read lt)) ∙ miss))

  pub blocks_end : (items : List OwnerWord) (i : ℕ) → Read items → length items ≤ i → first_failing (blocks_from i) ≡ None
  blocks_end items i read le = ap (λ (os : List Owner). first_failing (map block_check os)) (none_left items i read le)

  -- ── no block has two ──

  abbrev place_of : Owner → ℕ
  place_of owner = owner.at

  abbrev distinct_from : List ℕ → ℕ → List Check
  distinct_from before i = distinct_checks words before (map place_of (drop i owners))

  -- the words before an index are in the set, and what is left of the rule is told with them
  pub record IsSeen (seen : BTreeSet ℕ) (i : ℕ) : Type 0 where
    pub before : List ℕ
    pub held : HasWords seen before
    pub rest : first_failing (built_single_owner_rule words) ≡ first_failing (distinct_checks words before (map (λ (owner : Owner). owner.at) (drop i (built_owner_words words))))

  pub seen_none : (seen : BTreeSet ℕ) → IsEmpty seen → IsSeen seen 0
  unfolding built_single_owner_rule
  seen_none seen empty = record { before = []; held = held_none seen empty; rest = refl }

  distinct_check : List ℕ → ℕ → Check
  distinct_check before i = check (owner_at i).at (not (is_among before (word_of words (owner_at i))))

  module _ (items : List OwnerWord) (i : ℕ) (seen : BTreeSet ℕ) (is_first : Bool) (read : Read items) (lt : i < length items) (told : IsSeen seen i) (first_is : is_first ≡ not (contains nat_cmp seen (get_or items i no_word).word)) where
    abbrev before : List ℕ
    before = told.before

    abbrev here : ℕ
    here = word_of words (owner_at i)

    abbrev after : List Check
    after = distinct_from (here ∷ before) (i + 1)

    word_is : (get_or items i no_word).word ≡ here
    word_is = ap (λ (o : OwnerWord). o.word) (item_is items i no_word read lt)

    first_told : is_first ≡ not (is_among before here)
    first_told = first_is ∙ ap not (told.held.each (get_or items i no_word).word ∙ ap (is_among before) word_is)

    rest_is : first_failing (built_single_owner_rule words) ≡ first_failing (check (owner_at i).at (not (is_among before here)) ∷ after)
    rest_is = told.rest ∙ ap (λ (os : List Owner). first_failing (distinct_checks words before (map place_of os))) (from-is items i read lt)

    pub seen_again : is_first ≡ false → Some (get_or items i no_word).place ≡ first_failing (built_single_owner_rule words)
    seen_again again =
        ap (λ (o : OwnerWord). Some o.place) (item_is items i no_word read lt)
        ∙ sym (rest_is ∙ fails (check (owner_at i).at (not (is_among before here))) after (sym first_told ∙ again))

    pub seen_next : (next : BTreeSet ℕ) → Updates nat_cmp seen next (get_or items i no_word).word true → is_first ≡ true → IsSeen next (i + 1)
    seen_next next updates new = record {
      before = here ∷ before;
      held = subst (λ (w : ℕ). HasWords next (w ∷ before)) word_is (held_front seen next (get_or items i no_word).word updates before told.held);
      rest = rest_is ∙ passes (check (owner_at i).at (not (is_among before here))) after (sym first_told ∙ new);
    }

  pub seen_all : (items : List OwnerWord) (i : ℕ) (seen : BTreeSet ℕ) → Read items → length items ≤ i → IsSeen seen i → None ≡ first_failing (built_single_owner_rule words)
  seen_all items i seen read le told = sym (told.rest ∙ ap (λ (os : List Owner). first_failing (distinct_checks words told.before (map place_of os))) (none_left items i read le))
