-- A begin and an entry: what the object shows after the one store that each of them is.
use Rattle.std.proofs.Common.{◌≡◌, ⊎_elim, ℕ, ◌+◌, List, [], ◌∷◌, ◌++◌, set, sym, ◌∙◌, ap, arith}
use Rattle.std.proofs.lemmas.List.{get_or-set_same, get_or-set_other}
use Rattle.std.proofs.lemmas.Bool.{cases_eq}
use Rattle.image_layout.specs.Fixed.{state_at, commit_word_at, entry_at}
use Rattle.txn_object.specs.declared.entry.Entry.{Entry}
use Rattle.txn_object.specs.Entries.{entry_word, entry_of}
use Rattle.txn_object.proofs.Entering.{entry_word-set, entry_of-entry_word}
use Rattle.stage_object.specs.Shown.{Transaction, Shows, HasObject, NoEntryFollowsZero, MayAddEntry}
use Rattle.stage_object.proofs.EntryWords.{word_at, entries_in-same, entries_in-set, entries_in-append, entries_in-rest}

-- ── a begin ──

pub begin_after : (object : ℕ) (transaction : Transaction) (base : List ℕ) → HasObject base object → Shows base object transaction → Shows (set base (state_at object) 1) object (record transaction { state = 1 })
begin_after object transaction base is shows = record {
  state = get_or-set_same base (state_at object) 1 0 (omega (arith, is.number, is.size));
  commit_word = get_or-set_other base (state_at object) (commit_word_at object) 1 0 (λ e. omega (arith, e)) ∙ shows.commit_word;
  entries = entries_in-same base (set base (state_at object) 1) object (λ nth lt. get_or-set_other base (state_at object) (entry_at object nth) 1 0 (λ e. omega (arith, e))) ∙ shows.entries;
}

-- ── an entry ──

pub entry_after : (object nth : ℕ) (entry : Entry) (transaction : Transaction) (base : List ℕ) → MayAddEntry base object nth entry → Shows base object transaction
    → Shows (set base (entry_at object nth) (entry_word entry)) object (record transaction { entries = transaction.entries ++ entry ∷ [] })
entry_after object nth entry transaction base may shows =
    let new = set base (entry_at object nth) (entry_word entry) in record {
      state = get_or-set_other base (entry_at object nth) (state_at object) (entry_word entry) 0 (λ e. omega (arith, e)) ∙ shows.state;
      commit_word = get_or-set_other base (entry_at object nth) (commit_word_at object) (entry_word entry) 0 (λ e. omega (arith, e)) ∙ shows.commit_word;
      entries = entries_in-append base new object nth (entry_word entry) may.count may.room (λ k apart. get_or-set_other base (entry_at object nth) (entry_at object k) (entry_word entry) 0 (λ e. apart (omega (arith, e))))
          (get_or-set_same base (entry_at object nth) (entry_word entry) 0 (omega (arith, may.is_object.number, may.is_object.size, may.room)))
          (entry_word-set entry) (λ lt. entries_in-rest base object (nth + 1) may.packed (omega (arith, may.count)) lt)
          ∙ ap (λ (l : List Entry). l ++ entry_of (entry_word entry) ∷ []) shows.entries
          ∙ ap (λ (e : Entry). transaction.entries ++ e ∷ []) (entry_of-entry_word entry may.table may.row);
    }

pub entry_packed : (object nth : ℕ) (entry : Entry) (base : List ℕ) → MayAddEntry base object nth entry → NoEntryFollowsZero (set base (entry_at object nth) (entry_word entry)) object
entry_packed object nth entry base may k lt is = ⊎_elim
    (λ (here : k ≡ nth). absurd (entry_word-set entry (sym put ∙ ap (λ (n : ℕ). word_at (set base (entry_at object nth) (entry_word entry)) object n) (sym here) ∙ is)))
    (λ apart. ⊎_elim
    (λ (next : k + 1 ≡ nth). let zero : word_at base object k ≡ 0 = sym (kept k apart) ∙ is in
    absurd (entries_in-set base object k (omega (arith, next, may.count)) zero))
    (λ other. kept (k + 1) other ∙ may.packed k lt (sym (kept k apart) ∙ is))
    (cases_eq (k + 1) nth))
    (cases_eq k nth)
  where
    put : word_at (set base (entry_at object nth) (entry_word entry)) object nth ≡ entry_word entry
    put = get_or-set_same base (entry_at object nth) (entry_word entry) 0 (omega (arith, may.is_object.number, may.is_object.size, may.room))

    kept : (j : ℕ) → (j ≡ nth → ⊥) → word_at (set base (entry_at object nth) (entry_word entry)) object j ≡ word_at base object j
    kept j apart = get_or-set_other base (entry_at object nth) (entry_at object j) (entry_word entry) 0 (λ e. apart (omega (arith, e)))
