-- Whether each live block has an owner, page by page.
use Rattle.std.proofs.Common.{◌≡◌, ℕ, ◌+◌, ◌<◌, ◌≤◌, Bool, true, false, not, cond, eqb, List, [], ◌∷◌, ◌++◌, map, length, get_or, take, refl, sym, ◌∙◌, ap, subst}
use Rattle.std.specs.Prelude.{Option, None, Some, filter}
use Rattle.std.specs.Option.{is_some}
use Rattle.std.specs.List.{flat_map}
use Rattle.std.specs.Int.{bit_at}
use Rattle.std.specs.Ordering.{nat_cmp}
use Rattle.std.specs.BTreeSet.{BTreeSet, Updates, contains}
use Rattle.std.proofs.lemmas.Bool.{and_from, and_left, and_right, not_from_false, not_from_true, cond-true, cond-false}
use Rattle.std.proofs.lemmas.List.{map-append, take_more, take_all}
use Rattle.std.proofs.lemmas.Simd.{map-map}
use Rattle.image_layout.specs.Pointer.{pointer_word}
use Rattle.image_layout.specs.Places.{below, page_count}
use Rattle.image_layout.specs.Blocks.{Block, slot_words, slots_of, slot_at, descriptor_of, says_small, says_big, is_inside, is_small_page, is_big_head, class_of, bitmap_of, big_block, blocks_of_page, live_blocks}
use Rattle.image_layout.specs.Owners.{word_of}
use Rattle.image_layout.specs.Checks.{Check, check, first_failing}
use Rattle.image_rules.specs.declared.owner_words.OwnerWord.{OwnerWord}
use Rattle.image_rules.specs.BuiltOwners.{as_read, built_owner_words, built_owned_rule, owned_check, kept_check, slot_blocks, HasWords}
use Rattle.image_rules.proofs.Firsts.{flat_none, flat_found, found_none}
use Rattle.image_rules.proofs.Faults.{first_none, first_some}
use Rattle.image_rules.proofs.OwnerChecks.{no_word, held_back}

-- ── the words that owner words hold ──

abbrev pub words_of : List OwnerWord → List ℕ
words_of owners = map (λ (owner : OwnerWord). owner.word) owners

pub held_next : (owners : List OwnerWord) (i : ℕ) (held next : BTreeSet ℕ) → i < length owners → HasWords held (words_of (take i owners)) → Updates nat_cmp held next (get_or owners i no_word).word true
    → HasWords next (words_of (take (i + 1) owners))
held_next owners i held next lt has updates =
    subst (HasWords next) (sym (ap words_of (take_more owners i no_word lt) ∙ map-append (λ (owner : OwnerWord). owner.word) (take i owners) (get_or owners i no_word ∷ [])))
    (held_back held next (get_or owners i no_word).word updates (words_of (take i owners)) has)

pub held_all : (owners : List OwnerWord) (i : ℕ) (held : BTreeSet ℕ) → length owners ≤ i → HasWords held (words_of (take i owners)) → HasWords held (words_of owners)
held_all owners i held le has = subst (λ (os : List OwnerWord). HasWords held (words_of os)) (take_all i owners le) has

pub held_of : (words : List ℕ) (items passed : List OwnerWord) (held : BTreeSet ℕ) → passed ≡ items → items ≡ map (as_read words) (built_owner_words words) → HasWords held (words_of passed)
    → HasWords held (map (word_of words) (built_owner_words words))
held_of words items passed held same read has =
    subst (HasWords held) (ap words_of (same ∙ read) ∙ map-map (λ (owner : OwnerWord). owner.word) (as_read words) (built_owner_words words)) has

-- ── a page ──

module _ (held : BTreeSet ℕ) (page class bitmap : ℕ) where
  abbrev pub has_slot : ℕ → Bool
  has_slot slot = contains nat_cmp held (pointer_word (slot_at page class slot))

  abbrev pub is_used : ℕ → Bool
  is_used slot = eqb (bit_at bitmap slot) 1

  abbrev pub SlotsBelow : ℕ → Type 0
  SlotsBelow k = (x : ℕ) → x < k → eqb (bit_at bitmap x) 1 ≡ true → contains nat_cmp held (pointer_word (slot_at page class x)) ≡ true

  abbrev slot_of : ℕ → Block
  slot_of slot = record { first = slot_at page class slot; words = slot_words class }

  by_slot : map (kept_check held) (slot_blocks page class bitmap) ≡ map (λ (slot : ℕ). check (slot_at page class slot) (has_slot slot)) (filter is_used (below (slots_of class)))
  by_slot = map-map (kept_check held) slot_of (filter is_used (below (slots_of class)))

  pub slots_none : SlotsBelow (slots_of class) → None ≡ first_failing (map (kept_check held) (slot_blocks page class bitmap))
  slots_none each = sym (ap first_failing by_slot ∙ first_none (slot_at page class) has_slot is_used (slots_of class) each)

  pub slots_some : (k place : ℕ) → place ≡ slot_at page class k → k < slots_of class → SlotsBelow k → is_used k ≡ true → contains nat_cmp held (pointer_word place) ≡ false
      → Some place ≡ first_failing (map (kept_check held) (slot_blocks page class bitmap))
  slots_some k place at lt each used miss =
      ap (λ (p : ℕ). Some p) at
      ∙ sym (ap first_failing by_slot ∙ first_some (slot_at page class) has_slot is_used (slots_of class) k lt each used (ap (λ (p : ℕ). contains nat_cmp held (pointer_word p)) (sym at) ∙ miss))

module _ (words : List ℕ) (page : ℕ) where
  pub blocks_inside : is_inside words page ≡ true → blocks_of_page words page ≡ []
  unfolding blocks_of_page
  blocks_inside inside =
      cond-false (is_small_page words page) _ _ (and_left (not (is_inside words page)) (says_small (descriptor_of words page)) (not_from_true (is_inside words page) inside))
      ∙ cond-false (is_big_head words page) _ _ (and_left (not (is_inside words page)) (says_big (descriptor_of words page)) (not_from_true (is_inside words page) inside))

  pub blocks_small : is_inside words page ≡ false → says_small (descriptor_of words page) ≡ true → blocks_of_page words page ≡ slot_blocks page (class_of words page) (bitmap_of words page)
  unfolding blocks_of_page
  blocks_small outside small =
      cond-true (is_small_page words page) _ _ (and_from (not (is_inside words page)) (says_small (descriptor_of words page)) (not_from_false (is_inside words page) outside) small)

  blocks_other : is_inside words page ≡ false → says_small (descriptor_of words page) ≡ false → blocks_of_page words page ≡ cond (is_big_head words page) (big_block words page ∷ []) []
  unfolding blocks_of_page
  blocks_other outside other = cond-false (is_small_page words page) _ _ (and_right (not (is_inside words page)) (says_small (descriptor_of words page)) other)

  pub blocks_free : is_inside words page ≡ false → says_small (descriptor_of words page) ≡ false → says_big (descriptor_of words page) ≡ false → blocks_of_page words page ≡ []
  blocks_free outside other none = blocks_other outside other ∙ cond-false (is_big_head words page) _ _ (and_right (not (is_inside words page)) (says_big (descriptor_of words page)) none)

  pub blocks_head : is_inside words page ≡ false → says_small (descriptor_of words page) ≡ false → says_big (descriptor_of words page) ≡ true → blocks_of_page words page ≡ big_block words page ∷ []
  blocks_head outside other big =
      blocks_other outside other ∙ cond-true (is_big_head words page) _ _ (and_from (not (is_inside words page)) (says_big (descriptor_of words page)) (not_from_false (is_inside words page) outside) big)

-- ── the whole image ──

map-flat_map : (f : Block → Check) (g : ℕ → List Block) (xs : List ℕ) → map f (flat_map g xs) ≡ flat_map (λ (x : ℕ). map f (g x)) xs
map-flat_map f g [] = refl
map-flat_map f g (x ∷ xs) = map-append f (g x) (flat_map g xs) ∙ ap (λ (ys : List Check). map f (g x) ++ ys) (map-flat_map f g xs)

module _ (words : List ℕ) (held : BTreeSet ℕ) where
  abbrev owned : List ℕ
  owned = map (word_of words) (built_owner_words words)

  same_checks : HasWords held owned → (blocks : List Block) → map (owned_check owned) blocks ≡ map (kept_check held) blocks
  same_checks has [] = refl
  same_checks has (block ∷ blocks) =
      ap (λ (b : Bool). check block.first b ∷ map (owned_check owned) blocks) (sym (has.each (pointer_word block.first)))
      ∙ ap (λ (cs : List Check). kept_check held block ∷ cs) (same_checks has blocks)

  abbrev page_checks : ℕ → List Check
  page_checks page = map (kept_check held) (blocks_of_page words page)

  abbrev pub PagesBelow : ℕ → Type 0
  PagesBelow k = (x : ℕ) → x < k → first_failing (map (kept_check held) (blocks_of_page words x)) ≡ None

  by_page : HasWords held (map (word_of words) (built_owner_words words)) → first_failing (built_owned_rule words) ≡ first_failing (flat_map page_checks (below (page_count words)))
  unfolding built_owned_rule
  by_page has = ap first_failing (same_checks has (live_blocks words) ∙ map-flat_map (kept_check held) (blocks_of_page words) (below (page_count words)))

  pub page_found : HasWords held (map (word_of words) (built_owner_words words)) → (k : ℕ) (found : Option ℕ) → k < page_count words → PagesBelow k → found ≡ first_failing (page_checks k) → is_some found ≡ true
      → found ≡ first_failing (built_owned_rule words)
  page_found has k found lt each here some = flat_found page_checks (page_count words) k found lt each here some ∙ sym (by_page has)

  pub page_none : (k : ℕ) (found : Option ℕ) → found ≡ first_failing (page_checks k) → is_some found ≡ false → first_failing (map (kept_check held) (blocks_of_page words k)) ≡ None
  page_none k found here none = found_none found (first_failing (page_checks k)) here none

  pub page_inside : (k : ℕ) → is_inside words k ≡ true → first_failing (map (kept_check held) (blocks_of_page words k)) ≡ None
  page_inside k inside = ap (λ (bs : List Block). first_failing (map (kept_check held) bs)) (blocks_inside words k inside)

  pub pages_none : HasWords held (map (word_of words) (built_owner_words words)) → PagesBelow (page_count words) → None ≡ first_failing (built_owned_rule words)
  pages_none has each = sym (by_page has ∙ flat_none page_checks (page_count words) each)
