-- Where an image fits, so does what opening reaches from it, and both show the same.
use Rattle.std.proofs.Common.{◌≡◌, ◌⊎◌, inl, inr, ⊎_elim, ℕ, zero, suc, ◌+◌, ◌/◌, ◌%◌, ◌^◌, ◌<◌, ◌≤◌, Bool, true, false, cond, eqb, List, [], ◌∷◌, get_or, map, refl, sym, ◌∙◌, ap, arith}
use Rattle.std.specs.Prelude.{filter}
use Rattle.std.specs.List.{range_with_len}
use Rattle.std.proofs.lemmas.Bool.{cases_eq, ne_eqb}
use Rattle.mv_model.specs.declared.limits.TheConstants.{MAX_COMMITS}
use Rattle.mv_model.specs.declared.value.Value.TheVariants.{Int}
use Rattle.mv_model.specs.State.{CreatedRow, WriteSet, all_idle}
use Rattle.image_layout.specs.Fixed.{last_at}
use Rattle.image_layout.proofs.Ranges.{map_same}
use Rattle.txn_object.specs.declared.entry.EntryKind.{EntryKind}
use Rattle.txn_object.specs.declared.entry.EntryKind.TheVariants.{Created, Ended}
use Rattle.txn_object.specs.Entries.{entry_of}
use Rattle.engine_core.specs.Stage.{value_at}
use Rattle.engine_core.specs.LogicalState.{created_row, key_of, integer_of, rows_where, commit_of, commits_in, commit_count, past_entry, next_row, logical_state, table_of}
use Rattle.engine_core.specs.ImageRules.{KeepsEntryRules}
use Rattle.engine_core.specs.Opening.{past_created}
use Rattle.engine_core.specs.Recoverable.{IsUndecided, IsBornBy, IsEndedBy, used_up, Fits}
use Rattle.engine_core.proofs.Greatest.{greatest-le, greatest-same, state, commit, entry, open_commit, open_past, open_is, idle_is, same_cond, undecided_is, last-count, open-count, count-le, high-next, open-next, next-le, high-used, undecided-used, used-le, undecided-le, used-next, undecided-given}
use Rattle.engine_core.proofs.ImageRules.{IsEntered, IsObject, rules-kept, entry-row}
use Rattle.engine_core.proofs.OpeningTrace.{born, ended, IsReached, IsAsBefore, IsIdleNow, IsDeadNow, IsFreeNow}
use Rattle.engine_core.proofs.UndoParts.{entry_word-same}

-- ── images that show the same ──

filter-same : (p q : ℕ → Bool) (first count : ℕ) → ((k : ℕ) → first ≤ k → k < first + count → p k ≡ q k) → filter p (range_with_len first count) ≡ filter q (range_with_len first count)
filter-same p q first zero same = refl
filter-same p q first (suc count) same =
    let rest = filter-same p q (first + 1) count (λ k le lt. same k (omega (arith, le)) (omega (arith, lt))) in
    ap (λ (b : Bool). cond b (first ∷ filter p (range_with_len (first + 1) count)) (filter p (range_with_len (first + 1) count))) (same first (omega arith) (omega arith))
    ∙ ap (λ (xs : List ℕ). cond (q first) (first ∷ xs) xs) rest

rows-same : (p q : ℕ → Bool) → ((row : ℕ) → row < 4096 → p row ≡ q row) → rows_where p ≡ rows_where q
unfolding rows_where
rows-same p q same = filter-same p q 0 4096 (λ row le lt. same row (omega (arith, lt)))

-- every row of the table has its value
map-rows : (old new : List ℕ) (p : ℕ → Bool) (first count : ℕ) → ((k : ℕ) → first ≤ k → k < first + count → get_or new (value_at k) 0 ≡ get_or old (value_at k) 0)
    → map (created_row new) (filter p (range_with_len first count)) ≡ map (created_row old) (filter p (range_with_len first count))
map-rows old new p first zero same = refl
map-rows old new p first (suc count) same =
    let rest = map-rows old new p (first + 1) count (λ k le lt. same k (omega (arith, le)) (omega (arith, lt))) in
    let here : created_row new first ≡ created_row old first = ap (λ (word : ℕ). record { key = key_of first; values = Int (integer_of word) ∷ [] }) (same first (omega arith) (omega arith)) in
    go (p first) rest here
  where
    go : (b : Bool) → map (created_row new) (filter p (range_with_len (first + 1) count)) ≡ map (created_row old) (filter p (range_with_len (first + 1) count)) → created_row new first ≡ created_row old first
        → map (created_row new) (cond b (first ∷ filter p (range_with_len (first + 1) count)) (filter p (range_with_len (first + 1) count)))
        ≡ map (created_row old) (cond b (first ∷ filter p (range_with_len (first + 1) count)) (filter p (range_with_len (first + 1) count)))
    go true rest here = ap (λ (r : CreatedRow). r ∷ map (created_row new) (filter p (range_with_len (first + 1) count))) here ∙ ap (λ (rs : List CreatedRow). created_row old first ∷ rs) rest
    go false rest here = rest

rows-values : (old new : List ℕ) (p : ℕ → Bool) → ((row : ℕ) → row < 4096 → get_or new (value_at row) 0 ≡ get_or old (value_at row) 0) → map (created_row new) (rows_where p) ≡ map (created_row old) (rows_where p)
unfolding rows_where
rows-values old new p same = map-rows old new p 0 4096 (λ row le lt. same row (omega (arith, lt)))

commit-same : (old new : List ℕ) (number : ℕ)
    → ((row : ℕ) → row < 4096 → get_or new (value_at row) 0 ≡ get_or old (value_at row) 0)
    → ((row : ℕ) → row < 4096 → eqb (born new row) number ≡ eqb (born old row) number)
    → ((row : ℕ) → row < 4096 → eqb (ended new row) number ≡ eqb (ended old row) number) → commit_of new number ≡ commit_of old number
commit-same old new number values borns ends =
    ap (λ (rows : List ℕ). record { created = map (created_row new) rows; ended = map key_of (rows_where (λ row. eqb (ended new row) number)) }) (rows-same (λ row. eqb (born new row) number) (λ row. eqb (born old row) number) borns)
    ∙ ap (λ (rows : List CreatedRow). record { created = rows; ended = map key_of (rows_where (λ row. eqb (ended new row) number)) }) (rows-values old new (λ row. eqb (born old row) number) values)
    ∙ ap (λ (rows : List ℕ). record { created = map (created_row old) (rows_where (λ row. eqb (born old row) number)); ended = map key_of rows }) (rows-same (λ row. eqb (ended new row) number) (λ row. eqb (ended old row) number) ends)

pub logical-same : (old new : List ℕ) → next_row new ≡ next_row old → commit_count new ≡ commit_count old
    → ((row : ℕ) → row < 4096 → get_or new (value_at row) 0 ≡ get_or old (value_at row) 0)
    → ((row number : ℕ) → row < 4096 → 1 ≤ number → number ≤ commit_count old → eqb (born new row) number ≡ eqb (born old row) number)
    → ((row number : ℕ) → row < 4096 → 1 ≤ number → number ≤ commit_count old → eqb (ended new row) number ≡ eqb (ended old row) number) → logical_state new ≡ logical_state old
logical-same old new next count values borns ends =
    ap (λ (n : ℕ). record { tables = table_of n ∷ []; commits = commits_in new (commit_count new); begun = 0; running = all_idle }) next
    ∙ ap (λ (n : ℕ). record { tables = table_of (next_row old) ∷ []; commits = commits_in new n; begun = 0; running = all_idle }) count
    ∙ ap (λ (commits : List WriteSet). record { tables = table_of (next_row old) ∷ []; commits = commits; begun = 0; running = all_idle })
    (map_same (commit_of new) (commit_of old) 1 (commit_count old) (λ number le lt. commit-same old new number values (λ row within. borns row number within le (omega (arith, lt))) (λ row within. ends row number within le (omega (arith, lt)))))

-- ── what opening reaches keeps the rules of each image ──

module _ (old : List ℕ) (entered : IsEntered old) (new : List ℕ) (reached : IsReached old new) where
  pub last-le : get_or old last_at 0 ≤ get_or new last_at 0
  last-le = ⊎_elim (λ e. omega (arith, e)) (λ e. let le = last-count old in omega (arith, e, le)) reached.last

  pub last-most : get_or new last_at 0 ≤ commit_count old
  last-most = ⊎_elim (λ e. let le = last-count old in omega (arith, e, le)) (λ e. omega (arith, e)) reached.last

  pub count-few : commit_count old ≤ MAX_COMMITS
  count-few = count-le old MAX_COMMITS entered.last (λ object lt. let is = entered.object object lt in ⊎_elim
      (λ (opened : state old object ≡ 1). let e = open_is old object (commit old object) opened in let most = is.most in omega (arith, e, most))
      (λ isnt. let e : open_commit old object ≡ 0 = ap (λ (b : Bool). cond b (commit old object) 0) (ne_eqb (state old object) 1 isnt) in omega (arith, e))
      (cases_eq (state old object) 1))

  object-now : (object : ℕ) → object < 16 → IsObject new object
  object-now object lt =
      let is = entered.object object lt in
      let word_le = is.commit in
      let most = is.most in
      let last = last-le in
      let state_le = is.state in
      record {
        state = ⊎_elim (λ (before : IsAsBefore old new object). let e = before.state in omega (arith, e, state_le)) (λ (idle : IsIdleNow old new object). let e = idle.idle in omega (arith, e)) (reached.object object lt);
        commit = ⊎_elim (λ e. omega (arith, e, word_le, last)) (λ e. omega (arith, e)) (word-now object lt);
        most = ⊎_elim (λ e. omega (arith, e, most)) (λ e. omega (arith, e)) (word-now object lt);
        ready = reached.ready object lt ∙ is.ready;
        first = reached.first object lt ∙ is.first;
      }
    where
      word-now : (object : ℕ) → object < 16 → (commit new object ≡ commit old object) ⊎ (commit new object ≡ 0)
      word-now object lt = ⊎_elim (λ (before : IsAsBefore old new object). inl before.commit) (λ (idle : IsIdleNow old new object). idle.word) (reached.object object lt)

  pub rules-now : KeepsEntryRules new
  rules-now = rules-kept old new reached.size reached.outside entered.rules (let most = last-most in let few = count-few in omega (arith, most, few)) object-now
      (λ object nth lt within opened. ⊎_elim
      (λ (before : IsAsBefore old new object). entry_word-same old new object nth within before.entry ∙ entered.entry object nth lt within (sym before.state ∙ opened))
      (λ (idle : IsIdleNow old new object). let e = idle.idle in absurd (omega (arith, e, opened)))
      (reached.object object lt))

-- ── what opening reaches from an image that fits ──

module _ (old : List ℕ) (entered : IsEntered old) (fits : Fits old) (new : List ℕ) (reached : IsReached old new) where
  past-same : (object : ℕ) → IsAsBefore old new object → past_created new object ≡ past_created old object
  past-same object before = greatest-same (λ nth. past_entry (entry new object nth)) (λ nth. past_entry (entry old object nth)) 60 (λ nth lt. ap past_entry (before.entry nth lt))

  -- ── the commits are counted the same ──

  open-same : (object : ℕ) → IsAsBefore old new object → open_commit new object ≡ open_commit old object
  open-same object before = same_cond (state new object) (state old object) (commit new object) (commit old object) before.state before.commit

  count-most : commit_count new ≤ commit_count old
  count-most = count-le new (commit_count old) (last-most old entered new reached) (λ object lt. ⊎_elim
      (λ (before : IsAsBefore old new object). let e = open-same object before in let le = open-count old object lt in omega (arith, e, le))
      (λ (idle : IsIdleNow old new object). let e = idle_is new object (commit new object) idle.idle in omega (arith, e))
      (reached.object object lt))

  -- an object that is idle now had no commit word, or it is counted
  open-counted : (object : ℕ) → object < 16 → open_commit old object ≤ commit_count new
  open-counted object lt = ⊎_elim
      (λ (before : IsAsBefore old new object). let e = open-same object before in let le = open-count new object lt in omega (arith, e, le))
      (λ (idle : IsIdleNow old new object). ⊎_elim
      (λ (opened : state old object ≡ 1). ⊎_elim
      (λ (none : commit old object ≡ 0). let e = open_is old object (commit old object) opened in omega (arith, e, none))
      (λ some. let settled = idle.settled opened some in let last = settled.last in let le = last-count new in let most = open-count old object lt in omega (arith, last, le, most))
      (cases_eq (commit old object) 0))
      (λ isnt. let e : open_commit old object ≡ 0 = ap (λ (b : Bool). cond b (commit old object) 0) (ne_eqb (state old object) 1 isnt) in omega (arith, e))
      (cases_eq (state old object) 1))
      (reached.object object lt)

  pub count-same : commit_count new ≡ commit_count old
  count-same =
      let most = count-most in
      let last = last-le old entered new reached in
      let counted = last-count new in
      let least = count-le old (commit_count new) (omega (arith, last, counted)) open-counted in
      omega (arith, most, least)

  -- ── and so are the rows that are given out ──

  past-open : (object : ℕ) → IsAsBefore old new object → open_past new object ≡ open_past old object
  past-open object before = same_cond (state new object) (state old object) (past_created new object) (past_created old object) before.state (past-same object before)

  next-most : next_row new ≤ next_row old
  next-most = next-le new (next_row old) (let most = reached.high_most in let used = used-next old in omega (arith, most, used)) (λ object lt. ⊎_elim
      (λ (before : IsAsBefore old new object). let e = past-open object before in let le = open-next old object lt in omega (arith, e, le))
      (λ (idle : IsIdleNow old new object). let e = idle_is new object (past_created new object) idle.idle in omega (arith, e))
      (reached.object object lt))

  next-given : (object : ℕ) → object < 16 → open_past old object ≤ next_row new
  next-given object lt = ⊎_elim
      (λ (before : IsAsBefore old new object). let e = past-open object before in let le = open-next new object lt in omega (arith, e, le))
      (λ (idle : IsIdleNow old new object). ⊎_elim
      (λ (opened : state old object ≡ 1). let is = open_is old object (past_created old object) opened in let high = high-next new in ⊎_elim
      (λ (none : commit old object ≡ 0). let undone = idle.undone opened none in let le = undone.high in omega (arith, is, le, high))
      (λ some. let settled = idle.settled opened some in let le = settled.high in let rows = fits.rows in let given = open-next old object lt in omega (arith, le, rows, given, high))
      (cases_eq (commit old object) 0))
      (λ isnt. let e : open_past old object ≡ 0 = ap (λ (b : Bool). cond b (past_created old object) 0) (ne_eqb (state old object) 1 isnt) in omega (arith, e))
      (cases_eq (state old object) 1))
      (reached.object object lt)

  pub next-same : next_row new ≡ next_row old
  next-same =
      let most = next-most in
      let low = reached.high_low in
      let high = high-next new in
      let least = next-le old (next_row new) (omega (arith, low, high)) next-given in
      omega (arith, most, least)

  used-least : used_up old ≤ used_up new
  used-least = used-le old (used_up new) (let low = reached.high_low in let high = high-used new in omega (arith, low, high)) (λ object lt. undecided-le old object (used_up new) (λ opened none. ⊎_elim
      (λ (before : IsAsBefore old new object).
      let le = undecided-used new object lt in let is = undecided_is new object (before.state ∙ opened) (before.commit ∙ none) in let same = past-same object before in omega (arith, le, is, same))
      (λ (idle : IsIdleNow old new object). let undone = idle.undone opened none in let le = undone.high in let high = high-used new in omega (arith, le, high))
      (reached.object object lt)))

  -- the rows that are used up are rows of the table
  used-few : used_up old ≤ 4096
  used-few = used-le old 4096 fits.high (λ object lt. undecided-le old object 4096 (λ opened none. greatest-le (λ nth. past_entry (entry old object nth)) 60 4096 (λ nth within. past-le object nth lt within opened)))
    where
      past-le : (object nth : ℕ) → object < 16 → nth < 60 → state old object ≡ 1 → past_entry (entry old object nth) ≤ 4096
      past-le object nth lt within opened = ⊎_elim
          (λ (none : entry old object nth ≡ 0). let e : past_entry (entry old object nth) ≡ 0 = ap past_entry none in omega (arith, e))
          (λ some. let row = entry-row old object nth (entered.entry object nth lt within opened) some in
          go (eqb (entry old object nth / 2 ^ 56) 1) row)
          (cases_eq (entry old object nth) 0)
        where
          go : (b : Bool) → entry old object nth % 2 ^ 32 < 4096 → cond b (entry old object nth % 2 ^ 32 + 1) 0 ≤ 4096
          go true row = omega (arith, row)
          go false row = omega arith

  -- ── the stamps ──

  undecided-now : (kind : EntryKind) (row : ℕ) (is : IsUndecided old kind row) → IsAsBefore old new is.object → IsUndecided new kind row
  undecided-now kind row is before =
      let same = before.entry is.nth is.nth_is in
      record {
        object = is.object;
        nth = is.nth;
        object_is = is.object_is;
        nth_is = is.nth_is;
        is_open = before.state ∙ is.is_open;
        no_commit = before.commit ∙ is.no_commit;
        entry = λ e. is.entry (sym same ∙ e);
        kind_is = ap (λ (word : ℕ). (entry_of word).kind) same ∙ is.kind_is;
        row_is = ap (λ (word : ℕ). (entry_of word).row) same ∙ is.row_is;
      }

  given-now : (row : ℕ) → IsUndecided old Created row → row < next_row new
  given-now row is = let used = undecided-given old row is in let le = used-next old in let same = next-same in omega (arith, used, le, same)

  born-now : (row : ℕ) → row < 4096 → IsBornBy new row ⊎ IsUndecided new Created row
  born-now row lt = ⊎_elim
      (λ (same : born new row ≡ born old row). ⊎_elim
      (λ (by : IsBornBy old row). inl (record {
        stamp = ⊎_elim (λ le. let count = count-same in inl (omega (arith, same, le, count))) (λ e. inr (same ∙ e)) by.stamp;
        given = λ some. let less = by.given (λ e. some (same ∙ e)) in let next = next-same in omega (arith, less, next);
      }))
      (λ (is : IsUndecided old Created row). ⊎_elim
      (λ (before : IsAsBefore old new is.object). inr (undecided-now Created row is before))
      (λ (idle : IsIdleNow old new is.object).
      let undone = idle.undone is.is_open is.no_commit in
      let stamps = undone.created is.nth is.nth_is is.entry is.kind_is in
      let at : (entry_of (entry old is.object is.nth)).row ≡ row = is.row_is in
      inl (record {
        stamp = ⊎_elim (λ le. let count = count-same in let e = ap (born new) at in inl (omega (arith, le, count, e))) (λ e. inr (ap (born new) (sym at) ∙ e)) stamps.1;
        given = λ some. given-now row is;
      }))
      (reached.object is.object is.object_is))
      (fits.born row lt))
      (λ (gone : IsDeadNow old new row). inl (record { stamp = inr gone.now; given = λ some. given-now row gone.undecided }))
      (reached.born row lt)

  -- a stamp of a commit stays
  stamp-stays : (row : ℕ) → row < 4096 → 1 ≤ born old row → born old row ≤ commit_count old → born new row ≡ born old row
  stamp-stays row lt some few = ⊎_elim (λ e. e)
      (λ (gone : IsDeadNow old new row). absurd (⊎_elim (λ (none : born old row ≡ 0). omega (arith, none, some)) (λ (above : commit_count old < born old row). omega (arith, above, few)) gone.was)) (reached.born row lt)

  ended-now : (row : ℕ) → row < 4096 → (ended new row ≡ 0) ⊎ (IsEndedBy new row ⊎ (IsUndecided new Ended row × (commit_count new < ended new row)))
  ended-now row lt = ⊎_elim
      (λ (same : ended new row ≡ ended old row). ⊎_elim
      (λ (none : ended old row ≡ 0). inl (same ∙ none))
      (λ more. ⊎_elim
      (λ (by : IsEndedBy old row).
      let first = by.first in let later = by.later in let last = by.last in let given = by.given in
      let stays = stamp-stays row lt first (omega (arith, later, last)) in
      let count = count-same in let next = next-same in
      inr (inl (record { given = omega (arith, given, next); first = omega (arith, first, stays); later = omega (arith, later, stays, same); last = omega (arith, last, same, count) })))
      (λ (is : IsUndecided old Ended row × (commit_count old < ended old row)).
      let above = is.1 in let count = count-same in ⊎_elim
      (λ (before : IsAsBefore old new is.0.object). inr (inr (undecided-now Ended row is.0 before, omega (arith, above, count, same))))
      (λ (idle : IsIdleNow old new is.0.object).
      let undone = idle.undone is.0.is_open is.0.no_commit in
      let le = undone.ended is.0.nth is.0.nth_is is.0.entry is.0.kind_is in
      let at : (entry_of (entry old is.0.object is.0.nth)).row ≡ row = is.0.row_is in
      let e = ap (ended new) at in
      absurd (omega (arith, le, e, same, above)))
      (reached.object is.0.object is.0.object_is))
      more)
      (fits.ended row lt))
      (λ (gone : IsFreeNow old new row). inl gone.now)
      (reached.ended row lt)

  pub fits-now : Fits new
  fits-now = record {
    entry = rules-now old entered new reached;
    high = let most = reached.high_most in let few = used-few in omega (arith, most, few);
    rows = let next = next-same in let rows = fits.rows in let least = used-least in omega (arith, next, rows, least);
    born = born-now;
    ended = ended-now;
  }

  pub shows-same : logical_state new ≡ logical_state old
  shows-same = logical-same old new next-same count-same
      (λ row lt. reached.outside (value_at row) (inr (omega arith)))
      (λ row number lt some few. ⊎_elim (λ e. ap (λ (x : ℕ). eqb x number) e)
      (λ (gone : IsDeadNow old new row). let is = gone.now in let most = count-few old entered new reached in
      ne_eqb (born new row) number (λ e. omega (arith, e, is, few, most))
      ∙ sym (ne_eqb (born old row) number (λ e. ⊎_elim (λ (none : born old row ≡ 0). omega (arith, none, e, some)) (λ (above : commit_count old < born old row). omega (arith, above, e, few)) gone.was)))
      (reached.born row lt))
      (λ row number lt some few. ⊎_elim (λ e. ap (λ (x : ℕ). eqb x number) e)
      (λ (gone : IsFreeNow old new row). let is = gone.now in let above = gone.was in
      ne_eqb (ended new row) number (λ e. omega (arith, e, is, some)) ∙ sym (ne_eqb (ended old row) number (λ e. omega (arith, e, above, few))))
      (reached.ended row lt))
