-- The rules of each image, word by word.
use Rattle.std.proofs.Common.{◌≡◌, ◌⊎◌, inl, inr, ⊎_elim, ℕ, zero, suc, ◌+◌, ◌-◌, ◌/◌, ◌%◌, ◌^◌, ◌<◌, ◌≤◌, true, not, ◌&&◌, ◌||◌, eqb, leb, ltb, List, [], ◌∷◌, ◌++◌, length, get_or, map, refl, sym, ◌∙◌, ap, subst, arith}
use Rattle.std.specs.Prelude.{All, filter}
use Rattle.std.specs.List.{flat_map, range_with_len}
use Rattle.std.proofs.lemmas.Bool.{cases_eq, cond-true, cond_both, eq-eqb, eqb-true, eqb-false, leb-true, ltb-true, le-leb, and_parts, and_from, or_cases, not-true}
use Rattle.std.proofs.lemmas.List.Elements.{All-nil, All-cons, All-head, All-tail, All-append, recursion_from_All, All-from_recursion}
use Rattle.mv_model.specs.declared.limits.TheConstants.{MAX_COMMITS}
use Rattle.image_layout.specs.Fixed.{magic_at, version_at, last_at, descriptor_at, state_at, commit_word_at, ready_at, first_segment_at, entry_at}
use Rattle.image_layout.specs.Fresh.{magic_number}
use Rattle.image_layout.specs.Places.{below, page_count}
use Rattle.image_layout.specs.Checks.{Check, check, Keeps}
use Rattle.image_layout.proofs.Faults.{Holds}
use Rattle.txn_object.specs.Entries.{entry_of}
use Rattle.engine_core.specs.ImageRules.{reserved_rule, is_reserved_page, object_rule, object_checks, entry_rule, entry_checks, is_entry, is_entry_word, KeepsEntryRules}
use Rattle.engine_core.proofs.Greatest.{state, commit, entry}

-- ── checks of several numbers ──

all-left : (xs ys : List Check) → All Holds (xs ++ ys) → All Holds xs
all-left [] ys all = All-nil Holds
all-left (c ∷ xs) ys all = All-cons Holds c xs (All-head Holds c (xs ++ ys) all) (all-left xs ys (All-tail Holds c (xs ++ ys) all))

all-right : (xs ys : List Check) → All Holds (xs ++ ys) → All Holds ys
all-right [] ys all = all
all-right (c ∷ xs) ys all = all-right xs ys (All-tail Holds c (xs ++ ys) all)

pub each-flat : (f : ℕ → List Check) (first count : ℕ) → All Holds (flat_map f (range_with_len first count)) → (k : ℕ) → first ≤ k → k < first + count → All Holds (f k)
each-flat f first zero all k le lt = absurd (omega (arith, le, lt))
each-flat f first (suc count) all k le lt = ⊎_elim
    (λ (here : first ≡ k). subst (λ (n : ℕ). All Holds (f n)) here (all-left (f first) (flat_map f (range_with_len (first + 1) count)) all))
    (λ later. each-flat f (first + 1) count (all-right (f first) (flat_map f (range_with_len (first + 1) count)) all) k (omega (arith, le, later)) (omega (arith, lt)))
    (cases_eq first k)

pub all-flat : (f : ℕ → List Check) (first count : ℕ) → ((k : ℕ) → first ≤ k → k < first + count → All Holds (f k)) → All Holds (flat_map f (range_with_len first count))
all-flat f first zero each = All-nil Holds
all-flat f first (suc count) each = All-append Holds (f first) (flat_map f (range_with_len (first + 1) count)) (each first (omega arith) (omega arith))
    (all-flat f (first + 1) count (λ k le lt. each k (omega (arith, le)) (omega (arith, lt))))

pub each-check : (f : ℕ → Check) (first count : ℕ) → All Holds (map f (range_with_len first count)) → (k : ℕ) → first ≤ k → k < first + count → Holds (f k)
each-check f first zero all k le lt = absurd (omega (arith, le, lt))
each-check f first (suc count) all k le lt = ⊎_elim
    (λ (here : first ≡ k). subst (λ (n : ℕ). Holds (f n)) here (All-head Holds (f first) (map f (range_with_len (first + 1) count)) all))
    (λ later. each-check f (first + 1) count (All-tail Holds (f first) (map f (range_with_len (first + 1) count)) all) k (omega (arith, le, later)) (omega (arith, lt)))
    (cases_eq first k)

pub all-checks : (f : ℕ → Check) (first count : ℕ) → ((k : ℕ) → first ≤ k → k < first + count → Holds (f k)) → All Holds (map f (range_with_len first count))
all-checks f first zero each = All-nil Holds
all-checks f first (suc count) each = All-cons Holds (f first) (map f (range_with_len (first + 1) count)) (each first (omega arith) (omega arith))
    (all-checks f (first + 1) count (λ k le lt. each k (omega (arith, le)) (omega (arith, lt))))

-- ── the rules word by word ──

-- an object is in order
pub record IsObject (words : List ℕ) (object : ℕ) : Type 0 where
  pub state : get_or words (state_at object) 0 ≤ 1
  pub commit : get_or words (commit_word_at object) 0 ≤ get_or words last_at 0 + 1
  pub most : get_or words (commit_word_at object) 0 ≤ MAX_COMMITS
  pub ready : get_or words (ready_at object) 0 ≡ 0
  pub first : get_or words (first_segment_at object) 0 ≡ 0

pub record IsEntered (words : List ℕ) : Type 0 where
  pub size : 32768 ≤ length words
  pub rules : KeepsEntryRules words
  pub last : get_or words last_at 0 ≤ MAX_COMMITS
  pub object : (object : ℕ) → object < 16 → IsObject words object
  pub entry : (object nth : ℕ) → object < 16 → nth < 60 → state words object ≡ 1 → is_entry_word words object nth ≡ true

object_is : (words : List ℕ) (object : ℕ) → All Holds (object_checks words object) → IsObject words object
object_is words object all =
    let (a, (b, (c, (d, e)))) = recursion_from_All Holds (object_checks words object) all in
    let both = and_parts (leb (commit words object) (get_or words last_at 0 + 1)) (leb (commit words object) MAX_COMMITS) b in
    record {
      state = leb-true (state words object) 1 a;
      commit = leb-true (commit words object) (get_or words last_at 0 + 1) both.0;
      most = leb-true (commit words object) MAX_COMMITS both.1;
      ready = eqb-true (get_or words (ready_at object) 0) 0 c;
      first = eqb-true (get_or words (first_segment_at object) 0) 0 d;
    }

object_holds : (words : List ℕ) (object : ℕ) → IsObject words object → All Holds (object_checks words object)
object_holds words object is = All-from_recursion Holds (object_checks words object) (
  le-leb (state words object) 1 is.state,
  (
    and_from (leb (commit words object) (get_or words last_at 0 + 1)) (leb (commit words object) MAX_COMMITS)
        (le-leb (commit words object) (get_or words last_at 0 + 1) is.commit) (le-leb (commit words object) MAX_COMMITS is.most),
    (eq-eqb (get_or words (ready_at object) 0) 0 is.ready, (eq-eqb (get_or words (first_segment_at object) 0) 0 is.first, tt)),
  ),
)

each_object : (words : List ℕ) → Keeps words object_rule → (object : ℕ) → object < 16 → IsObject words object
unfolding object_rule
each_object words keeps object lt = object_is words object (each-flat (object_checks words) 0 16 keeps.checks object (omega arith) (omega (arith, lt)))

pub objects_kept : (words : List ℕ) → ((object : ℕ) → object < 16 → IsObject words object) → Keeps words object_rule
unfolding object_rule
objects_kept words each = record { checks = all-flat (object_checks words) 0 16 (λ object le lt. object_holds words object (each object (omega (arith, lt)))) }

each_entry : (words : List ℕ) → Keeps words entry_rule → (object nth : ℕ) → object < 16 → nth < 60 → state words object ≡ 1 → is_entry_word words object nth ≡ true
unfolding entry_rule
each_entry words keeps object nth lt within opened =
    let checks = map (λ k. check (entry_at object k) (is_entry_word words object k)) (below 60) in
    let all = each-flat (entry_checks words) 0 16 keeps.checks object (omega arith) (omega (arith, lt)) in
    each-check (λ k. check (entry_at object k) (is_entry_word words object k)) 0 60
    (subst (λ (cs : List Check). All Holds cs) (cond-true (eqb (state words object) 1) checks [] (eq-eqb (state words object) 1 opened)) all) nth (omega arith) (omega (arith, within))

pub entries_kept : (words : List ℕ) → ((object nth : ℕ) → object < 16 → nth < 60 → state words object ≡ 1 → is_entry_word words object nth ≡ true) → Keeps words entry_rule
unfolding entry_rule
entries_kept words each = record {
  checks = all-flat (entry_checks words) 0 16 (λ object le lt.
      cond_both (eqb (state words object) 1) (map (λ k. check (entry_at object k) (is_entry_word words object k)) (below 60)) [] (λ (cs : List Check). All Holds cs)
      (λ opened. all-checks (λ k. check (entry_at object k) (is_entry_word words object k)) 0 60 (λ nth from within. each object nth (omega (arith, lt)) (omega (arith, within)) (eqb-true (state words object) 1 opened)))
      (λ idle. All-nil Holds));
}

pub entered : (words : List ℕ) → 32768 ≤ length words → KeepsEntryRules words → IsEntered words
entered words size rules = record {
  size = size;
  rules = rules;
  last = leb-true (get_or words last_at 0) MAX_COMMITS (All-head Holds (check last_at (leb (get_or words last_at 0) MAX_COMMITS)) [] rules.last.checks);
  object = each_object words rules.objects;
  entry = each_entry words rules.entries;
}

-- ── images with the same words in most places ──

pub map-same : {X : Type 0} (f g : ℕ → X) (xs : List ℕ) → ((x : ℕ) → f x ≡ g x) → map f xs ≡ map g xs
map-same f g [] same = refl
map-same {X} f g (x ∷ xs) same = ap (λ (y : X). y ∷ map f xs) (same x) ∙ ap (λ (ys : List X). g x ∷ ys) (map-same f g xs same)

-- the words that hold no transaction's state, no stamp and no number of commits or rows
abbrev pub SameOutside : List ℕ → List ℕ → Type 0
SameOutside old new = (w : ℕ) → (w < 514) ⊎ (10240 ≤ w) → get_or new w 0 ≡ get_or old w 0

descriptor-outside : (page : ℕ) → (descriptor_at page < 514) ⊎ (10240 ≤ descriptor_at page)
descriptor-outside page = ⊎_elim
    (λ (first : page / 64 ≡ 0). inl (let small : page % 64 < 64 = omega arith in omega (arith, first, small)))
    (λ later. inr (let one : 1 ≤ page / 64 = omega (arith, later) in omega (arith, one)))
    (cases_eq (page / 64) 0)

reserved-same : (old new : List ℕ) → length new ≡ length old → SameOutside old new → reserved_rule new ≡ reserved_rule old
unfolding reserved_rule
reserved-same old new size same =
    let f : List ℕ → ℕ → Check = λ words page. check (descriptor_at page) (eqb (get_or words (descriptor_at page) 0) 8) in
    ap (λ (n : ℕ). map (f new) (filter is_reserved_page (below (n / 512)))) size
    ∙ map-same (f new) (f old) (filter is_reserved_page (below (page_count old)))
    (λ page. ap (λ (word : ℕ). check (descriptor_at page) (eqb word 8)) (same (descriptor_at page) (descriptor-outside page)))

pub rules-kept : (old new : List ℕ) → length new ≡ length old → SameOutside old new → KeepsEntryRules old → get_or new last_at 0 ≤ MAX_COMMITS
    → ((object : ℕ) → object < 16 → IsObject new object)
    → ((object nth : ℕ) → object < 16 → nth < 60 → state new object ≡ 1 → is_entry_word new object nth ≡ true) → KeepsEntryRules new
rules-kept old new size same rules last objects entries = record {
  magic = record { checks = subst (λ (word : ℕ). All Holds (check magic_at (eqb word magic_number) ∷ [])) (sym (same magic_at (inl (omega arith)))) rules.magic.checks };
  version = record { checks = subst (λ (word : ℕ). All Holds (check version_at (eqb word 102) ∷ [])) (sym (same version_at (inl (omega arith)))) rules.version.checks };
  last = record { checks = All-cons Holds (check last_at (leb (get_or new last_at 0) MAX_COMMITS)) [] (le-leb (get_or new last_at 0) MAX_COMMITS last) (All-nil Holds) };
  reserved = record { checks = subst (λ (cs : List Check). All Holds cs) (sym (reserved-same old new size same)) rules.reserved.checks };
  objects = objects_kept new objects;
  entries = entries_kept new entries;
}

-- ── an entry word ──

-- it spells a row of the table
pub entry-row : (words : List ℕ) (object nth : ℕ) → is_entry_word words object nth ≡ true → (entry words object nth ≡ 0 → ⊥) → (entry_of (entry words object nth)).row < 4096
entry-row words object nth is set =
    let word = entry words object nth in
    let some = is_some is in
    let both = and_parts (is_entry word) ((eqb nth 0) || not (eqb (entry words object (nth - 1)) 0)) some in
    let kinds = and_parts ((eqb (word / 2 ^ 56) 1 || eqb (word / 2 ^ 56) 2) && eqb (word / 2 ^ 32 % 2 ^ 24) 0) (ltb (word % 2 ^ 32) 4096) both.0 in
    ltb-true (word % 2 ^ 32) 4096 kinds.1
  where
    is_some : is_entry_word words object nth ≡ true → (is_entry (entry words object nth) && ((eqb nth 0) || not (eqb (entry words object (nth - 1)) 0))) ≡ true
    is_some is = ⊎_elim (λ none. absurd (set (eqb-true (entry words object nth) 0 none))) (λ e. e)
        (or_cases (eqb (entry words object nth) 0) (is_entry (entry words object nth) && ((eqb nth 0) || not (eqb (entry words object (nth - 1)) 0))) is)

-- and it follows no 0
pub entry-before : (words : List ℕ) (object nth : ℕ) → is_entry_word words object (nth + 1) ≡ true → (entry words object (nth + 1) ≡ 0 → ⊥) → entry words object nth ≡ 0 → ⊥
entry-before words object nth is set before =
    let some = ⊎_elim (λ none. absurd (set (eqb-true (entry words object (nth + 1)) 0 none))) (λ e. e)
    (or_cases (eqb (entry words object (nth + 1)) 0) (is_entry (entry words object (nth + 1)) && ((eqb (nth + 1) 0) || not (eqb (entry words object (nth + 1 - 1)) 0))) is) in
    let both = and_parts (is_entry (entry words object (nth + 1))) ((eqb (nth + 1) 0) || not (eqb (entry words object (nth + 1 - 1)) 0)) some in
    ⊎_elim (λ none. let bad = eqb-true (nth + 1) 0 none in omega (arith, bad))
    (λ follows. let same : nth + 1 - 1 ≡ nth = omega arith in
    eqb-false (entry words object (nth + 1 - 1)) 0 (not-true (eqb (entry words object (nth + 1 - 1)) 0) follows) (ap (λ (k : ℕ). entry words object k) same ∙ before))
    (or_cases (eqb (nth + 1) 0) (not (eqb (entry words object (nth + 1 - 1)) 0)) both.1)
