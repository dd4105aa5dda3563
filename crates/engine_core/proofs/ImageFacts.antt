-- The rules of an image, word by word, and the numbers that an image shows where only object 0 may be open.
use Rattle.std.proofs.Common.{◌≡◌, ⊎_elim, ℕ, zero, suc, ◌+◌, ◌<◌, ◌≤◌, ◌∙◌, Bool, true, false, ◌&&◌, cond, eqb, leb, List, [], ◌∷◌, ◌++◌, map, filter, get_or, refl, ap, sym, subst, arith}
use Rattle.std.specs.Prelude.{All, IsTrue}
use Rattle.std.specs.List.{flat_map, range_with_len}
use Rattle.std.proofs.lemmas.Bool.{cases_eq, eq-eqb, eqb-true, and_from, and_parts, le-leb, leb-true}
use Rattle.std.proofs.lemmas.List.Elements.{All-nil, All-cons, All-head, All-tail, All-append}
use Rattle.mv_model.specs.declared.limits.TheConstants.{MAX_COMMITS}
use Rattle.image_layout.specs.Checks.{Check, check}
use Rattle.image_layout.specs.Fixed.{magic_at, version_at, last_at, descriptor_at, state_at, commit_word_at, ready_at, first_segment_at, entry_at}
use Rattle.image_layout.specs.Fresh.{magic_number}
use Rattle.image_layout.specs.Places.{page_count}
use Rattle.engine_core.specs.ImageRules.{KeepsEntryRules, object_rule, object_checks, entry_rule, entry_checks, reserved_rule, is_reserved_page, is_entry_word}

-- ── what holds of each element of a range ──

module _ {X : Type 0} (P : X → Type 0) where
  pub all-left : (xs ys : List X) → All P (xs ++ ys) → All P xs
  all-left [] ys all = All-nil P
  all-left (x ∷ xs) ys all = All-cons P x xs (All-head P x (xs ++ ys) all) (all-left xs ys (All-tail P x (xs ++ ys) all))

  pub all-right : (xs ys : List X) → All P (xs ++ ys) → All P ys
  all-right [] ys all = all
  all-right (x ∷ xs) ys all = all-right xs ys (All-tail P x (xs ++ ys) all)

  all-flat_at : (f : ℕ → List X) (first n k : ℕ) → All P (flat_map f (range_with_len first n)) → first ≤ k → k < first + n → All P (f k)
  all-flat_at f first zero k all low high = absurd (omega (arith, low, high))
  all-flat_at f first (suc n) k all low high = ⊎_elim
      (λ (here : k ≡ first). subst (λ (j : ℕ). All P (f j)) (sym here) (all-left (f first) (flat_map f (range_with_len (first + 1) n)) all))
      (λ later. all-flat_at f (first + 1) n k (all-right (f first) (flat_map f (range_with_len (first + 1) n)) all) (omega (arith, low, later)) (omega (arith, high)))
      (cases_eq k first)

  all-flat : (f : ℕ → List X) (first n : ℕ) → ((k : ℕ) → first ≤ k → k < first + n → All P (f k)) → All P (flat_map f (range_with_len first n))
  all-flat f first zero each = All-nil P
  all-flat f first (suc n) each = All-append P (f first) (flat_map f (range_with_len (first + 1) n)) (each first (omega arith) (omega arith))
      (all-flat f (first + 1) n (λ k low high. each k (omega (arith, low)) (omega (arith, high))))

  all-map_at : (f : ℕ → X) (first n k : ℕ) → All P (map f (range_with_len first n)) → first ≤ k → k < first + n → P (f k)
  all-map_at f first zero k all low high = absurd (omega (arith, low, high))
  all-map_at f first (suc n) k all low high = ⊎_elim
      (λ (here : k ≡ first). subst (λ (j : ℕ). P (f j)) (sym here) (All-head P (f first) (map f (range_with_len (first + 1) n)) all))
      (λ later. all-map_at f (first + 1) n k (All-tail P (f first) (map f (range_with_len (first + 1) n)) all) (omega (arith, low, later)) (omega (arith, high)))
      (cases_eq k first)

  all-map : (f : ℕ → X) (first n : ℕ) → ((k : ℕ) → first ≤ k → k < first + n → P (f k)) → All P (map f (range_with_len first n))
  all-map f first zero each = All-nil P
  all-map f first (suc n) each = All-cons P (f first) (map f (range_with_len (first + 1) n)) (each first (omega arith) (omega arith))
      (all-map f (first + 1) n (λ k low high. each k (omega (arith, low)) (omega (arith, high))))

  all-picked_at : (f : ℕ → X) (p : ℕ → Bool) (first n k : ℕ) → All P (map f (filter p (range_with_len first n))) → first ≤ k → k < first + n → p k ≡ true → P (f k)
  all-picked_at f p first zero k all low high hit = absurd (omega (arith, low, high))
  all-picked_at f p first (suc n) k all low high hit = ⊎_elim
      (λ (here : k ≡ first). subst (λ (j : ℕ). P (f j)) (sym here)
      (All-head P (f first) (map f (filter p (range_with_len (first + 1) n)))
      (subst (λ (b : Bool). All P (map f (cond b (first ∷ filter p (range_with_len (first + 1) n)) (filter p (range_with_len (first + 1) n))))) (ap p (sym here) ∙ hit) all)))
      (λ later. all-picked_at f p (first + 1) n k (rest (p first) all) (omega (arith, low, later)) (omega (arith, high)) hit)
      (cases_eq k first)
    where
      rest : (b : Bool) → All P (map f (cond b (first ∷ filter p (range_with_len (first + 1) n)) (filter p (range_with_len (first + 1) n)))) → All P (map f (filter p (range_with_len (first + 1) n)))
      rest true all = All-tail P (f first) (map f (filter p (range_with_len (first + 1) n))) all
      rest false all = all

  all-picked : (f : ℕ → X) (p : ℕ → Bool) (first n : ℕ) → ((k : ℕ) → first ≤ k → k < first + n → p k ≡ true → P (f k)) → All P (map f (filter p (range_with_len first n)))
  all-picked f p first zero each = All-nil P
  all-picked f p first (suc n) each = go (p first) (each first (omega arith) (omega arith)) (all-picked f p (first + 1) n (λ k low high. each k (omega (arith, low)) (omega (arith, high))))
    where
      go : (b : Bool) → (b ≡ true → P (f first)) → All P (map f (filter p (range_with_len (first + 1) n)))
          → All P (map f (cond b (first ∷ filter p (range_with_len (first + 1) n)) (filter p (range_with_len (first + 1) n))))
      go true here rest = All-cons P (f first) (map f (filter p (range_with_len (first + 1) n))) (here refl) rest
      go false here rest = rest

-- ── rules 1 to 15 ──

abbrev Holds : Check → Type 0
Holds c = IsTrue c.holds

-- what the rules say of each word
pub record IsByRules (words : List ℕ) : Type 0 where
  pub magic : eqb (get_or words magic_at 0) magic_number ≡ true
  pub version : eqb (get_or words version_at 0) 102 ≡ true
  pub last : get_or words last_at 0 ≤ MAX_COMMITS
  pub reserved : (page : ℕ) → page < page_count words → is_reserved_page page ≡ true → eqb (get_or words (descriptor_at page) 0) 8 ≡ true
  pub state : (object : ℕ) → object < 16 → get_or words (state_at object) 0 ≤ 1
  pub commit_word : (object : ℕ) → object < 16 → get_or words (commit_word_at object) 0 ≤ get_or words last_at 0 + 1
  pub most : (object : ℕ) → object < 16 → get_or words (commit_word_at object) 0 ≤ MAX_COMMITS
  pub ready : (object : ℕ) → object < 16 → get_or words (ready_at object) 0 ≡ 0
  pub segments : (object : ℕ) → object < 16 → get_or words (first_segment_at object) 0 ≡ 0
  pub entries : (object nth : ℕ) → object < 16 → nth < 60 → get_or words (state_at object) 0 ≡ 1 → is_entry_word words object nth ≡ true

object-checks : (words : List ℕ) (object : ℕ) → KeepsEntryRules words → object < 16 → All Holds (object_checks words object)
unfolding object_rule
object-checks words object keeps lt = all-flat_at Holds (object_checks words) 0 16 object keeps.objects.checks (omega arith) (omega (arith, lt))

entry-checks : (words : List ℕ) (object : ℕ) → KeepsEntryRules words → object < 16 → All Holds (entry_checks words object)
unfolding entry_rule
entry-checks words object keeps lt = all-flat_at Holds (entry_checks words) 0 16 object keeps.entries.checks (omega arith) (omega (arith, lt))

reserved-at : (words : List ℕ) (page : ℕ) → KeepsEntryRules words → page < page_count words → is_reserved_page page ≡ true → eqb (get_or words (descriptor_at page) 0) 8 ≡ true
unfolding reserved_rule
reserved-at words page keeps lt hit =
    all-picked_at Holds (λ page. check (descriptor_at page) (eqb (get_or words (descriptor_at page) 0) 8)) is_reserved_page 0 (page_count words) page keeps.reserved.checks (omega arith) (omega (arith, lt)) hit

reserved-from : (words : List ℕ) → ((page : ℕ) → page < page_count words → is_reserved_page page ≡ true → eqb (get_or words (descriptor_at page) 0) 8 ≡ true) → All Holds (reserved_rule words)
unfolding reserved_rule
reserved-from words each = all-picked Holds (λ page. check (descriptor_at page) (eqb (get_or words (descriptor_at page) 0) 8)) is_reserved_page 0 (page_count words) (λ k low high hit. each k (omega (arith, high)) hit)

objects-from : (words : List ℕ) → ((object : ℕ) → object < 16 → All Holds (object_checks words object)) → All Holds (object_rule words)
unfolding object_rule
objects-from words each = all-flat Holds (object_checks words) 0 16 (λ k low high. each k (omega (arith, high)))

entries-from : (words : List ℕ) → ((object : ℕ) → object < 16 → All Holds (entry_checks words object)) → All Holds (entry_rule words)
unfolding entry_rule
entries-from words each = all-flat Holds (entry_checks words) 0 16 (λ k low high. each k (omega (arith, high)))

one-check : (place : ℕ) (b : Bool) → All Holds (check place b ∷ []) → b ≡ true
one-check place b all = All-head Holds (check place b) [] all

four-checks : (p q r s : ℕ) (a b c d : Bool) → All Holds (check p a ∷ check q b ∷ check r c ∷ check s d ∷ []) → (a ≡ true) × (b ≡ true) × (c ≡ true) × (d ≡ true)
four-checks p q r s a b c d all =
    let rest = All-tail Holds (check p a) (check q b ∷ check r c ∷ check s d ∷ []) all in
    let last = All-tail Holds (check q b) (check r c ∷ check s d ∷ []) rest in (
      All-head Holds (check p a) (check q b ∷ check r c ∷ check s d ∷ []) all,
      All-head Holds (check q b) (check r c ∷ check s d ∷ []) rest,
      All-head Holds (check r c) (check s d ∷ []) last,
      one-check s d (All-tail Holds (check r c) (check s d ∷ []) last),
    )

-- what the checks of an object say
of-object : (words : List ℕ) (object : ℕ) → KeepsEntryRules words → object < 16
    → (leb (get_or words (state_at object) 0) 1 ≡ true)
    × ((leb (get_or words (commit_word_at object) 0) (get_or words last_at 0 + 1) && leb (get_or words (commit_word_at object) 0) MAX_COMMITS) ≡ true)
    × (eqb (get_or words (ready_at object) 0) 0 ≡ true) × (eqb (get_or words (first_segment_at object) 0) 0 ≡ true)
of-object words object keeps lt = four-checks (state_at object) (commit_word_at object) (ready_at object) (first_segment_at object)
    (leb (get_or words (state_at object) 0) 1)
    (leb (get_or words (commit_word_at object) 0) (get_or words last_at 0 + 1) && leb (get_or words (commit_word_at object) 0) MAX_COMMITS)
    (eqb (get_or words (ready_at object) 0) 0) (eqb (get_or words (first_segment_at object) 0) 0) (object-checks words object keeps lt)

pub by_rules : (words : List ℕ) → KeepsEntryRules words → IsByRules words
by_rules words keeps = record {
  magic = one-check magic_at (eqb (get_or words magic_at 0) magic_number) keeps.magic.checks;
  version = one-check version_at (eqb (get_or words version_at 0) 102) keeps.version.checks;
  last = leb-true (get_or words last_at 0) MAX_COMMITS (one-check last_at (leb (get_or words last_at 0) MAX_COMMITS) keeps.last.checks);
  reserved = λ page lt hit. reserved-at words page keeps lt hit;
  state = λ object lt. leb-true (get_or words (state_at object) 0) 1 (of-object words object keeps lt).0;
  commit_word = λ object lt. leb-true (get_or words (commit_word_at object) 0) (get_or words last_at 0 + 1)
      (and_parts (leb (get_or words (commit_word_at object) 0) (get_or words last_at 0 + 1)) (leb (get_or words (commit_word_at object) 0) MAX_COMMITS) (of-object words object keeps lt).1).0;
  most = λ object lt. leb-true (get_or words (commit_word_at object) 0) MAX_COMMITS
      (and_parts (leb (get_or words (commit_word_at object) 0) (get_or words last_at 0 + 1)) (leb (get_or words (commit_word_at object) 0) MAX_COMMITS) (of-object words object keeps lt).1).1;
  ready = λ object lt. eqb-true (get_or words (ready_at object) 0) 0 (of-object words object keeps lt).2;
  segments = λ object lt. eqb-true (get_or words (first_segment_at object) 0) 0 (of-object words object keeps lt).3;
  entries = λ object nth lt few open_now. all-map_at Holds (λ n. check (entry_at object n) (is_entry_word words object n)) 0 60 nth
      (subst (λ (b : Bool). All Holds (cond b (map (λ n. check (entry_at object n) (is_entry_word words object n)) (range_with_len 0 60)) []))
      (eq-eqb (get_or words (state_at object) 0) 1 open_now) (entry-checks words object keeps lt)) (omega arith) (omega (arith, few));
}

four : (p q r s : ℕ) (a b c d : Bool) → a ≡ true → b ≡ true → c ≡ true → d ≡ true → All Holds (check p a ∷ check q b ∷ check r c ∷ check s d ∷ [])
four p q r s a b c d is_a is_b is_c is_d =
    All-cons Holds (check p a) (check q b ∷ check r c ∷ check s d ∷ []) is_a
    (All-cons Holds (check q b) (check r c ∷ check s d ∷ []) is_b
    (All-cons Holds (check r c) (check s d ∷ []) is_c
    (All-cons Holds (check s d) [] is_d (All-nil Holds))))

pub from_rules : (words : List ℕ) → IsByRules words → KeepsEntryRules words
from_rules words is = record {
  magic = record { checks = All-cons Holds (check magic_at (eqb (get_or words magic_at 0) magic_number)) [] is.magic (All-nil Holds) };
  version = record { checks = All-cons Holds (check version_at (eqb (get_or words version_at 0) 102)) [] is.version (All-nil Holds) };
  last = record { checks = All-cons Holds (check last_at (leb (get_or words last_at 0) MAX_COMMITS)) [] (le-leb (get_or words last_at 0) MAX_COMMITS is.last) (All-nil Holds) };
  reserved = record { checks = reserved-from words is.reserved };
  objects = record {
    checks = objects-from words (λ object lt. four (state_at object) (commit_word_at object) (ready_at object) (first_segment_at object)
        (leb (get_or words (state_at object) 0) 1)
        (leb (get_or words (commit_word_at object) 0) (get_or words last_at 0 + 1) && leb (get_or words (commit_word_at object) 0) MAX_COMMITS)
        (eqb (get_or words (ready_at object) 0) 0) (eqb (get_or words (first_segment_at object) 0) 0)
        (le-leb (get_or words (state_at object) 0) 1 (is.state object lt))
        (and_from (leb (get_or words (commit_word_at object) 0) (get_or words last_at 0 + 1)) (leb (get_or words (commit_word_at object) 0) MAX_COMMITS)
        (le-leb (get_or words (commit_word_at object) 0) (get_or words last_at 0 + 1) (is.commit_word object lt)) (le-leb (get_or words (commit_word_at object) 0) MAX_COMMITS (is.most object lt)))
        (eq-eqb (get_or words (ready_at object) 0) 0 (is.ready object lt)) (eq-eqb (get_or words (first_segment_at object) 0) 0 (is.segments object lt)));
  };
  entries = record {
    checks = entries-from words (λ object lt. go object (eqb (get_or words (state_at object) 0) 1) (λ (hit : eqb (get_or words (state_at object) 0) 1 ≡ true). all-map Holds (λ n. check (entry_at object n) (is_entry_word words object n)) 0 60
        (λ k low high. is.entries object k lt (omega (arith, high)) (eqb-true (get_or words (state_at object) 0) 1 hit))));
  };
}
  where
    go : (object : ℕ) (b : Bool) → (b ≡ true → All Holds (map (λ n. check (entry_at object n) (is_entry_word words object n)) (range_with_len 0 60)))
        → All Holds (cond b (map (λ n. check (entry_at object n) (is_entry_word words object n)) (range_with_len 0 60)) [])
    go object true each = each refl
    go object false each = All-nil Holds
