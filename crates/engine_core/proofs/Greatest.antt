-- The greatest of several numbers, and the numbers that an image has by it.
use Rattle.std.proofs.Common.{◌≡◌, ⊎_elim, ℕ, zero, suc, ◌+◌, ◌/◌, ◌%◌, ◌^◌, ◌<◌, ◌≤◌, true, ◌&&◌, cond, eqb, List, get_or, refl, ◌∙◌, ap, arith}
use Rattle.std.proofs.lemmas.Bool.{cases_Bool, cases_eq, cond-true, cond-false, eq-eqb, ne_eqb, and_from}
use Rattle.image_layout.specs.Fixed.{last_at, state_at, commit_word_at, entry_at}
use Rattle.txn_object.specs.Entries.{entry_of}
use Rattle.txn_object.specs.declared.entry.EntryKind.TheVariants.{Created, Ended}
use Rattle.engine_core.specs.Stage.{high_at}
use Rattle.engine_core.specs.LogicalState.{greatest, of_open, past_entry, commit_count, next_row}
use Rattle.engine_core.specs.Opening.{past_created}
use Rattle.engine_core.specs.Recoverable.{IsUndecided, used_up}

pub le-greatest : (value : ℕ → ℕ) (n k : ℕ) → k < n → value k ≤ greatest value n
unfolding greatest
le-greatest value zero k lt = absurd (omega (arith, lt))
le-greatest value (suc n) k lt = ⊎_elim
    (λ (here : k ≡ n). let same : value k ≡ value n = ap value here in omega (arith, same))
    (λ apart. let rest = le-greatest value n k (omega (arith, lt, apart)) in omega (arith, rest))
    (cases_eq k n)

pub greatest-le : (value : ℕ → ℕ) (n bound : ℕ) → ((k : ℕ) → k < n → value k ≤ bound) → greatest value n ≤ bound
unfolding greatest
greatest-le value zero bound each = omega arith
greatest-le value (suc n) bound each =
    let here = each n (omega arith) in let rest = greatest-le value n bound (λ k lt. each k (omega (arith, lt))) in omega (arith, here, rest)

pub greatest-same : (f g : ℕ → ℕ) (n : ℕ) → ((k : ℕ) → k < n → f k ≡ g k) → greatest f n ≡ greatest g n
unfolding greatest
greatest-same f g zero each = refl
greatest-same f g (suc n) each =
    let here = each n (omega arith) in let rest = greatest-same f g n (λ k lt. each k (omega (arith, lt))) in omega (arith, here, rest)

-- ── the words of an object ──

abbrev pub state : List ℕ → ℕ → ℕ
state words object = get_or words (state_at object) 0

abbrev pub commit : List ℕ → ℕ → ℕ
commit words object = get_or words (commit_word_at object) 0

abbrev pub entry : List ℕ → ℕ → ℕ → ℕ
entry words object nth = get_or words (entry_at object nth) 0

-- the commit word of an open object
abbrev pub open_commit : List ℕ → ℕ → ℕ
open_commit words object = cond (eqb (state words object) 1) (commit words object) 0

-- one more than the rows that an open object created
abbrev pub open_past : List ℕ → ℕ → ℕ
open_past words object = cond (eqb (state words object) 1) (past_created words object) 0

-- the same of an open object without commit word
abbrev pub undecided_past : List ℕ → ℕ → ℕ
undecided_past words object = cond (eqb (state words object) 1 && eqb (commit words object) 0) (past_created words object) 0

pub open_is : (words : List ℕ) (object x : ℕ) → state words object ≡ 1 → cond (eqb (state words object) 1) x 0 ≡ x
open_is words object x is = cond-true (eqb (state words object) 1) x 0 (eq-eqb (state words object) 1 is)

pub idle_is : (words : List ℕ) (object x : ℕ) → state words object ≡ 0 → cond (eqb (state words object) 1) x 0 ≡ 0
idle_is words object x is = cond-false (eqb (state words object) 1) x 0 (ne_eqb (state words object) 1 (λ e. omega (arith, is, e)))

pub same_cond : (s t x y : ℕ) → s ≡ t → x ≡ y → cond (eqb s 1) x 0 ≡ cond (eqb t 1) y 0
same_cond s t x y a b = ap (λ (k : ℕ). cond (eqb k 1) x 0) a ∙ ap (λ (k : ℕ). cond (eqb t 1) k 0) b

pub undecided_is : (words : List ℕ) (object : ℕ) → state words object ≡ 1 → commit words object ≡ 0 → undecided_past words object ≡ past_created words object
undecided_is words object a b = cond-true (eqb (state words object) 1 && eqb (commit words object) 0) (past_created words object) 0
    (and_from (eqb (state words object) 1) (eqb (commit words object) 0) (eq-eqb (state words object) 1 a) (eq-eqb (commit words object) 0 b))

-- ── the numbers of an image ──

module _ (words : List ℕ) where
  pub last-count : get_or words last_at 0 ≤ commit_count words
  last-count = omega arith

  pub open-count : (object : ℕ) → object < 16 → open_commit words object ≤ commit_count words
  open-count object lt = let le = le-greatest (of_open words (λ k. commit words k)) 16 object lt in omega (arith, le)

  pub count-le : (bound : ℕ) → get_or words last_at 0 ≤ bound → ((object : ℕ) → object < 16 → open_commit words object ≤ bound) → commit_count words ≤ bound
  count-le bound last each = let le = greatest-le (of_open words (λ k. commit words k)) 16 bound each in omega (arith, le, last)

  pub high-next : get_or words high_at 0 ≤ next_row words
  high-next = omega arith

  pub open-next : (object : ℕ) → object < 16 → open_past words object ≤ next_row words
  open-next object lt = let le = le-greatest (of_open words (past_created words)) 16 object lt in omega (arith, le)

  pub next-le : (bound : ℕ) → get_or words high_at 0 ≤ bound → ((object : ℕ) → object < 16 → open_past words object ≤ bound) → next_row words ≤ bound
  next-le bound high each = let le = greatest-le (of_open words (past_created words)) 16 bound each in omega (arith, le, high)

  pub high-used : get_or words high_at 0 ≤ used_up words
  high-used = omega arith

  pub undecided-used : (object : ℕ) → object < 16 → undecided_past words object ≤ used_up words
  undecided-used object lt = let le = le-greatest (undecided_past words) 16 object lt in omega (arith, le)

  pub used-le : (bound : ℕ) → get_or words high_at 0 ≤ bound → ((object : ℕ) → object < 16 → undecided_past words object ≤ bound) → used_up words ≤ bound
  used-le bound high each = let le = greatest-le (undecided_past words) 16 bound each in omega (arith, le, high)

  -- an object that isn't open without commit word has used up nothing more
  pub undecided-le : (object bound : ℕ) → (state words object ≡ 1 → commit words object ≡ 0 → past_created words object ≤ bound) → undecided_past words object ≤ bound
  undecided-le object bound le = ⊎_elim
      (λ opened. ⊎_elim
      (λ none. let is = undecided_is words object opened none in let h = le opened none in omega (arith, is, h))
      (λ some. let is : undecided_past words object ≡ 0 = rw (eq-eqb (state words object) 1 opened, ne_eqb (commit words object) 0 some) refl in omega (arith, is))
      (cases_eq (commit words object) 0))
      (λ idle. let is : undecided_past words object ≡ 0 = rw (ne_eqb (state words object) 1 idle) refl in omega (arith, is))
      (cases_eq (state words object) 1)

  pub used-next : used_up words ≤ next_row words
  used-next = used-le (next_row words) high-next (λ object lt. undecided-le object (next_row words)
      (λ opened none. let le = open-next object lt in let is = open_is words object (past_created words object) opened in omega (arith, le, is)))

-- ── the rows of entries ──

pub kind-created : (word : ℕ) → (entry_of word).kind ≡ Created → eqb (word / 2 ^ 56) 1 ≡ true
kind-created word is = ⊎_elim (λ hit. hit) (λ miss. let other : (entry_of word).kind ≡ Ended = cond-false (eqb (word / 2 ^ 56) 1) Created Ended miss in absurd (cc)) (cases_Bool (eqb (word / 2 ^ 56) 1))

pub past-entry : (words : List ℕ) (object nth : ℕ) → nth < 60 → (entry_of (entry words object nth)).kind ≡ Created → (entry_of (entry words object nth)).row + 1 ≤ past_created words object
past-entry words object nth lt is =
    let le = le-greatest (λ k. past_entry (entry words object k)) 60 nth lt in
    let here : past_entry (entry words object nth) ≡ entry words object nth % 2 ^ 32 + 1 = cond-true (eqb (entry words object nth / 2 ^ 56) 1) (entry words object nth % 2 ^ 32 + 1) 0 (kind-created (entry words object nth) is) in
    omega (arith, le, here)

-- a row that an undecided transaction created is given out, and will be used up
pub undecided-given : (words : List ℕ) (row : ℕ) → IsUndecided words Created row → row < used_up words
undecided-given words row is =
    let past = past-entry words is.object is.nth is.nth_is is.kind_is in
    let used = undecided-used words is.object is.object_is in
    let here = undecided_is words is.object is.is_open is.no_commit in
    let row_is = is.row_is in
    omega (arith, past, used, here, row_is)
