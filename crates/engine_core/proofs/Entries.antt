-- The entry words of a transaction that created rows in a row.
use Rattle.std.proofs.Common.{◌≡◌, ◌≢◌, ⊎_elim, ℕ, ◌+◌, ◌-◌, ◌*◌, ◌/◌, ◌%◌, ◌^◌, ◌<◌, ◌≤◌, ◌∙◌, true, ◌&&◌, ◌||◌, not, cond, eqb, ltb, List, get_or, refl, ap, sym, arith}
use Rattle.std.proofs.lemmas.Bool.{cases_eq, cases_lt, cond-true, cond-false, eq-eqb, ne_eqb, and_from, or_left, or_right, not_from_false, lt-ltb}
use Rattle.image_layout.specs.Fixed.{entry_at}
use Rattle.txn_object.specs.Entries.{entry_word}
use Rattle.stage_view.specs.StageView.{past_ending}
use Rattle.engine_core.specs.StagePlans.{created_entry}
use Rattle.engine_core.specs.LogicalState.{past_entry}
use Rattle.engine_core.specs.ImageRules.{is_entry, is_entry_word}

-- the entry words of so many rows from the first on, and then 0
pub record HasEntries (words : List ℕ) (first count : ℕ) : Type 0 where
  pub few : count ≤ 60
  pub room : first + count ≤ 4096
  pub entries : (nth : ℕ) → nth < count → get_or words (entry_at 0 nth) 0 ≡ entry_word (created_entry (first + nth))
  pub free : (nth : ℕ) → count ≤ nth → nth < 60 → get_or words (entry_at 0 nth) 0 ≡ 0

pub past-created : (row : ℕ) → row < 4096 → past_entry (entry_word (created_entry row)) ≡ row + 1
past-created row lt =
    let kind : (1 * 2 ^ 56 + 0 * 2 ^ 32 + row) / 2 ^ 56 ≡ 1 = omega (arith, lt) in
    let low : (1 * 2 ^ 56 + 0 * 2 ^ 32 + row) % 2 ^ 32 ≡ row = omega (arith, lt) in
    cond-true (eqb ((1 * 2 ^ 56 + 0 * 2 ^ 32 + row) / 2 ^ 56) 1) ((1 * 2 ^ 56 + 0 * 2 ^ 32 + row) % 2 ^ 32 + 1) 0 (eq-eqb ((1 * 2 ^ 56 + 0 * 2 ^ 32 + row) / 2 ^ 56) 1 kind) ∙ ap (λ (n : ℕ). n + 1) low

-- it ends no row
pub ending-created : (row : ℕ) → row < 4096 → past_ending (entry_word (created_entry row)) ≡ 0
ending-created row lt =
    let word = 1 * 2 ^ 56 + 0 * 2 ^ 32 + row in
    let kind : (1 * 2 ^ 56 + 0 * 2 ^ 32 + row) / 2 ^ 56 ≡ 1 = omega (arith, lt) in
    cond-false (eqb word 0) 0 (cond (eqb (word / 2 ^ 56) 1) 0 (word % 2 ^ 32 + 1)) (ne_eqb word 0 (λ e. omega (arith, e)))
    ∙ cond-true (eqb (word / 2 ^ 56) 1) 0 (word % 2 ^ 32 + 1) (eq-eqb (word / 2 ^ 56) 1 kind)

created-set : (row : ℕ) → entry_word (created_entry row) ≡ 0 → ⊥
created-set row is = omega (arith, is)

created-is_entry : (row : ℕ) → row < 4096 → is_entry (entry_word (created_entry row)) ≡ true
created-is_entry row lt =
    let kind : (1 * 2 ^ 56 + 0 * 2 ^ 32 + row) / 2 ^ 56 ≡ 1 = omega (arith, lt) in
    let low : (1 * 2 ^ 56 + 0 * 2 ^ 32 + row) % 2 ^ 32 ≡ row = omega (arith, lt) in
    let middle : (1 * 2 ^ 56 + 0 * 2 ^ 32 + row) / 2 ^ 32 % 2 ^ 24 ≡ 0 = omega (arith, lt) in
    let below : ltb row 4096 ≡ true = lt-ltb row 4096 lt in
    rw (kind, middle, low, below) refl

-- they are entries, and none follows a 0
pub entries-kept : (words : List ℕ) (first count : ℕ) → HasEntries words first count → (nth : ℕ) → nth < 60 → is_entry_word words 0 nth ≡ true
entries-kept words first count has nth lt = ⊎_elim
    (λ (own : nth < count).
    let room = has.room in
    let here = has.entries nth own in
    let spelt : is_entry (get_or words (entry_at 0 nth) 0) ≡ true = ap is_entry here ∙ created-is_entry (first + nth) (omega (arith, room, own)) in
    or_right (eqb (get_or words (entry_at 0 nth) 0) 0) (is_entry (get_or words (entry_at 0 nth) 0) && ((eqb nth 0) || not (eqb (get_or words (entry_at 0 (nth - 1)) 0) 0)))
    (and_from (is_entry (get_or words (entry_at 0 nth) 0)) ((eqb nth 0) || not (eqb (get_or words (entry_at 0 (nth - 1)) 0) 0)) spelt (⊎_elim
    (λ (start : nth ≡ 0). or_left (eqb nth 0) (not (eqb (get_or words (entry_at 0 (nth - 1)) 0) 0)) (eq-eqb nth 0 start))
    (λ later. or_right (eqb nth 0) (not (eqb (get_or words (entry_at 0 (nth - 1)) 0) 0)) (not_from_false (eqb (get_or words (entry_at 0 (nth - 1)) 0) 0)
    (ne_eqb (get_or words (entry_at 0 (nth - 1)) 0) 0 (λ e. created-set (first + (nth - 1)) (sym (has.entries (nth - 1) (omega (arith, own))) ∙ e)))))
    (cases_eq nth 0))))
    (λ (free : count ≤ nth).
    or_left (eqb (get_or words (entry_at 0 nth) 0) 0) (is_entry (get_or words (entry_at 0 nth) 0) && ((eqb nth 0) || not (eqb (get_or words (entry_at 0 (nth - 1)) 0) 0)))
    (eq-eqb (get_or words (entry_at 0 nth) 0) 0 (has.free nth free lt)))
    (cases_lt nth count)

-- other words have them where their entry words are the same
pub has-same : (words image : List ℕ) (first count : ℕ) → HasEntries words first count → ((nth : ℕ) → nth < 60 → get_or image (entry_at 0 nth) 0 ≡ get_or words (entry_at 0 nth) 0) → HasEntries image first count
has-same words image first count has same = record {
  few = has.few;
  room = has.room;
  entries = λ nth lt. let few = has.few in same nth (omega (arith, lt, few)) ∙ has.entries nth lt;
  free = λ nth low lt. same nth lt ∙ has.free nth low lt;
}

-- one more entry
pub has-more : (words : List ℕ) (first count : ℕ) → HasEntries words first count → count < 60 → first + count < 4096 → (image : List ℕ)
    → get_or image (entry_at 0 count) 0 ≡ entry_word (created_entry (first + count)) → ((w : ℕ) → w ≢ entry_at 0 count → get_or image w 0 ≡ get_or words w 0) → HasEntries image first (count + 1)
has-more words first count has few room image here kept = record {
  few = omega (arith, few);
  room = omega (arith, room);
  entries = λ nth lt. ⊎_elim
      (λ (is : nth ≡ count). ap (λ (n : ℕ). get_or image (entry_at 0 n) 0) is ∙ here ∙ ap (λ (n : ℕ). entry_word (created_entry (first + n))) (sym is))
      (λ apart. kept (entry_at 0 nth) (λ e. apart (omega (arith, e))) ∙ has.entries nth (omega (arith, lt, apart)))
      (cases_eq nth count);
  free = λ nth low lt. kept (entry_at 0 nth) (λ e. omega (arith, e, low)) ∙ has.free nth (omega (arith, low)) lt;
}
