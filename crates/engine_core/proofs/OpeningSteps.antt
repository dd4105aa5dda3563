-- Each mending keeps to what opening may have done, at each cut; and what it leaves.
use Rattle.std.proofs.Common.{◌≡◌, ◌≢◌, ◌⊎◌, inl, inr, ⊎_elim, ℕ, ◌+◌, ◌*◌, ◌<◌, ◌≤◌, max, true, false, ◌&&◌, not, eqb, List, [], ◌∷◌, length, get_or, set, refl, sym, ◌∙◌, ap, subst, arith}
use Rattle.std.specs.List.{flat_map}
use Rattle.std.proofs.lemmas.Bool.{cases_eq, cases_lt, cond_both, and_parts, and_from, eqb-true, eqb-false, eq-eqb, ne_eqb, not-true, or_left, both_ways}
use Rattle.std.proofs.lemmas.List.{get_or-set_same, get_or-set_other, get_or_past, length-set}
use Rattle.image_layout.specs.Fixed.{last_at, state_at, commit_word_at, ready_at, first_segment_at, entry_at}
use Rattle.pm_model.specs.Device.{IsBetween}
use Rattle.pm_model.specs.Plans.{Part, one_store, words_after, footprint}
use Rattle.pm_model.proofs.Cuts.{cut-one_store, between-end}
use Rattle.txn_object.specs.declared.entry.EntryKind.{EntryKind}
use Rattle.txn_object.specs.declared.entry.EntryKind.TheVariants.{Created, Ended}
use Rattle.txn_object.specs.Entries.{entry_of}
use Rattle.stage_object.specs.Object.{entries_in}
use Rattle.engine_core.specs.Stage.{high_at, born_at, ended_at}
use Rattle.engine_core.specs.LogicalState.{commit_count, past_entry}
use Rattle.engine_core.specs.ImageRules.{dead}
use Rattle.engine_core.specs.Opening.{past_created, is_open, undo_entry, undo_part, last_mending, undo_mending, close_mending}
use Rattle.engine_core.specs.Recoverable.{IsUndecided, used_up}
use Rattle.engine_core.proofs.Greatest.{state, commit, entry, undecided-le, undecided-used, undecided_is, used-le, greatest-same}
use Rattle.engine_core.proofs.ImageRules.{IsEntered, entry-row}
use Rattle.pm_model.specs.Needed.{Stores}
use Rattle.pm_model.proofs.NeededStores.{stores-append, stores-map, after-written, cut-written}
use Rattle.engine_core.proofs.OpeningStores.{IsStep}
use Rattle.engine_core.proofs.OpeningTrace.{born, ended, IsReached, IsAsBefore, IsIdleNow, IsUndone, IsSettled, SameObject, SameBut, reach-objects, reach-last, reach-stamps, stays-beside, undone-beside, settled-beside}
use Rattle.engine_core.proofs.UndoParts.{undo_entry-stores, undo_created-hit, undo_ended-hit, entries-stores, entries-hit, footprint-left, footprint-right, set-before, entry_word-same}

-- ── steps on one object ──

-- the words of an object that a step on it leaves alone, and all others
abbrev pub Beside : ℕ → ℕ → Type 0
Beside object w = ((w < 1024 + 64 * object) ⊎ (1088 + 64 * object ≤ w)) ⊎ ((w ≡ ready_at object) ⊎ (w ≡ first_segment_at object))

module _ (mid new : List ℕ) (object : ℕ) (number : object < 16) (size : length new ≡ length mid) (kept : (w : ℕ) → Beside object w → get_or new w 0 ≡ get_or mid w 0) where
  apart : (other word : ℕ) → other ≢ object → word < 64 → Beside object (1024 + 64 * other + word)
  apart other word differs lt = ⊎_elim (λ less. inl (inl (omega (arith, less, lt)))) (λ more. inl (inr (omega (arith, more, differs, lt)))) (cases_lt other object)

  pub object-only : SameBut false false false mid new
  object-only = record {
    size = size;
    outside = λ w at. kept w (⊎_elim (λ low. inl (inl (omega (arith, low)))) (λ high. inl (inr (omega (arith, high, number)))) at);
    last = λ e. kept last_at (inl (inl (omega arith)));
    high = λ e. kept high_at (inl (inl (omega arith)));
    born = λ e row lt. kept (born_at row) (inl (inr (omega (arith, number))));
    ended = λ e row lt. kept (ended_at row) (inl (inr (omega (arith, number))));
    ready = λ other lt. kept (ready_at other) (⊎_elim (λ (here : other ≡ object). inr (inl (ap ready_at here))) (λ differs. apart other 2 differs (omega arith)) (cases_eq other object));
    first = λ other lt. kept (first_segment_at other) (⊎_elim (λ (here : other ≡ object). inr (inr (ap first_segment_at here))) (λ differs. apart other 3 differs (omega arith)) (cases_eq other object));
  }

  pub object-others : (other : ℕ) → other ≢ object → SameObject mid new other
  object-others other differs = record {
    state = kept (state_at other) (apart other 0 differs (omega arith));
    commit = kept (commit_word_at other) (apart other 1 differs (omega arith));
    entry = λ nth lt. let here : entry_at other nth ≡ 1024 + 64 * other + (4 + nth) = refl in kept (entry_at other nth) (apart other (4 + nth) differs (omega (arith, lt)));
  }

-- ── what the mendings leave ──

-- the last commit number is counted, and the objects below this one are undone
pub record IsUndoing (old : List ℕ) (objects : ℕ) (words : List ℕ) : Type 0 where
  pub reached : IsReached old words
  pub last : get_or words last_at 0 ≡ commit_count old
  pub undone : (object : ℕ) → object < objects → object < 16 → state words object ≡ 1 → commit words object ≡ 0 → ⊥

-- all are undone, and the objects below this one are idle
pub record IsClosing (old : List ℕ) (objects : ℕ) (words : List ℕ) : Type 0 where
  pub reached : IsReached old words
  pub last : get_or words last_at 0 ≡ commit_count old
  pub undone : (object : ℕ) → object < 16 → state words object ≡ 1 → commit words object ≡ 0 → ⊥
  pub idle : (object : ℕ) → object < objects → object < 16 → state words object ≡ 0

-- all are idle, and the objects below this one are cleared
pub record IsClearing (old : List ℕ) (objects : ℕ) (words : List ℕ) : Type 0 where
  pub reached : IsReached old words
  pub settled : IsSettled old words
  pub idle : (object : ℕ) → object < 16 → state words object ≡ 0
  pub commit : (object : ℕ) → object < objects → object < 16 → get_or words (commit_word_at object) 0 ≡ 0
  pub entry : (object nth : ℕ) → object < objects → object < 16 → nth < 60 → get_or words (entry_at object nth) 0 ≡ 0

module _ (old : List ℕ) (entered : IsEntered old) where
  pub rows-of : (object : ℕ) → object < 16 → state old object ≡ 1 → (nth : ℕ) → nth < 60 → entry old object nth ≢ 0 → (entry_of (entry old object nth)).row < 4096
  rows-of object number opened nth lt set = entry-row old object nth (entered.entry object nth number lt opened) set

  pub length-old : (mid : List ℕ) → IsReached old mid → 32768 ≤ length mid
  length-old mid reached = let size = entered.size in let same = reached.size in omega (arith, size, same)

  -- ── the last commit number ──

  last-reached : IsReached old old → IsReached old (set old last_at (commit_count old))
  last-reached reached = reach-last old old (set old last_at (commit_count old)) reached
      (record {
        size = length-set old last_at (commit_count old);
        outside = λ w at. beside w (⊎_elim (λ low. λ e. omega (arith, e, low)) (λ high. λ e. omega (arith, e, high)) at);
        last = λ e. absurd (cc);
        high = λ e. beside high_at (λ e. omega (arith, e));
        born = λ e row lt. beside (born_at row) (λ e. omega (arith, e));
        ended = λ e row lt. beside (ended_at row) (λ e. omega (arith, e));
        ready = λ object lt. beside (ready_at object) (λ e. omega (arith, e));
        first = λ object lt. beside (first_segment_at object) (λ e. omega (arith, e));
      })
      (get_or-set_same old last_at (commit_count old) 0 (let size = entered.size in omega (arith, size)))
      (λ object lt. record {
        state = beside (state_at object) (λ e. omega (arith, e));
        commit = beside (commit_word_at object) (λ e. omega (arith, e));
        entry = λ nth within. beside (entry_at object nth) (λ e. omega (arith, e));
      })
      (λ object lt. record { state = refl; commit = refl; entry = λ nth within. refl })
    where
      beside : (w : ℕ) → (w ≡ last_at → ⊥) → get_or (set old last_at (commit_count old)) w 0 ≡ get_or old w 0
      beside w differs = get_or-set_other old last_at w (commit_count old) 0 differs

  pub last-step : IsReached old old → IsStep (IsReached old) (IsUndoing old 0) (last_mending old) old
  last-step reached = record {
    stores = ((let size = entered.size in omega (arith, size), tt), tt);
    cuts = (cut-one_store (IsReached old) last_at (commit_count old) old reached (last-reached reached), last-reached reached);
    end = record {
      reached = last-reached reached;
      last = get_or-set_same old last_at (commit_count old) 0 (let size = entered.size in omega (arith, size));
      undone = λ object none. absurd (omega (arith, none));
    };
  }

  -- ── an object becomes idle ──

  module _ (mid : List ℕ) (reached : IsReached old mid) (object : ℕ) (number : object < 16) (opened : state mid object ≡ 1) where
    beside-state : (w : ℕ) → Beside object w → get_or (set mid (state_at object) 0) w 0 ≡ get_or mid w 0
    beside-state w beside = get_or-set_other mid (state_at object) w 0 0 (λ e. ⊎_elim
        (λ (out : (w < 1024 + 64 * object) ⊎ (1088 + 64 * object ≤ w)). ⊎_elim (λ low. omega (arith, low, e)) (λ high. omega (arith, high, e)) out)
        (λ (word : (w ≡ ready_at object) ⊎ (w ≡ first_segment_at object)). ⊎_elim (λ two. omega (arith, two, e)) (λ three. omega (arith, three, e)) word) beside)

    idle-same : SameBut false false false mid (set mid (state_at object) 0)
    idle-same = object-only mid (set mid (state_at object) 0) object number (length-set mid (state_at object) 0) beside-state

    pub state-now : state (set mid (state_at object) 0) object ≡ 0
    state-now = get_or-set_same mid (state_at object) 0 0 (let size = length-old mid reached in omega (arith, size, number))

    pub idle-others : (other : ℕ) → other ≢ object → SameObject mid (set mid (state_at object) 0) other
    idle-others other differs = object-others mid (set mid (state_at object) 0) object number (length-set mid (state_at object) 0) beside-state other differs

    pub as-before : IsAsBefore old mid object
    as-before = ⊎_elim (λ before. before) (λ (idle : IsIdleNow old mid object). let none = idle.idle in absurd (omega (arith, none, opened))) (reached.object object number)

    pub idle-reached : (state old object ≡ 1 → commit old object ≡ 0 → IsUndone old mid object) → (state old object ≡ 1 → commit old object ≢ 0 → IsSettled old mid) → IsReached old (set mid (state_at object) 0)
    idle-reached undone settled = reach-objects old mid (set mid (state_at object) 0) reached idle-same (λ other lt. ⊎_elim
        (λ (here : object ≡ other). subst (λ (k : ℕ). IsAsBefore old (set mid (state_at object) 0) k ⊎ IsIdleNow old (set mid (state_at object) 0) k) here (inr now))
        (λ differs. stays-beside old mid (set mid (state_at object) 0) reached idle-same rows-of other lt (idle-others other (λ e. differs (sym e))))
        (cases_eq object other))
      where
        now : IsIdleNow old (set mid (state_at object) 0) object
        now = record {
          idle = state-now;
          word = inl (get_or-set_other mid (state_at object) (commit_word_at object) 0 0 (λ e. omega (arith, e)) ∙ as-before.commit);
          cleared = λ nth lt. inl (get_or-set_other mid (state_at object) (entry_at object nth) 0 0 (λ e. omega (arith, e)) ∙ as-before.entry nth lt);
          undone = λ was none. undone-beside old mid (set mid (state_at object) 0) reached idle-same rows-of object number was (undone was none);
          settled = λ was some. settled-beside old mid (set mid (state_at object) 0) reached idle-same (settled was some);
        }

  -- ── a transaction is undone ──

  module _ (mid : List ℕ) (reached : IsReached old mid) (counted : get_or mid last_at 0 ≡ commit_count old) (object : ℕ) (number : object < 16) (opened : state mid object ≡ 1) (none : commit mid object ≡ 0) where
    before : IsAsBefore old mid object
    before = as-before mid reached object number opened

    was-open : state old object ≡ 1
    was-open = let is = before in sym is.state ∙ opened

    was-none : commit old object ≡ 0
    was-none = let is = before in sym is.commit ∙ none

    entry-is : (nth : ℕ) → nth < 60 → entry mid object nth ≡ entry old object nth
    entry-is nth lt = let is = before in is.entry nth lt

    undecided : (nth : ℕ) (kind : EntryKind) (row : ℕ) → nth < 60 → entry old object nth ≢ 0 → (entry_of (entry old object nth)).kind ≡ kind → (entry_of (entry old object nth)).row ≡ row → IsUndecided old kind row
    undecided nth kind row lt set kind_is row_is = record {
      object = object;
      nth = nth;
      object_is = number;
      nth_is = lt;
      is_open = was-open;
      no_commit = was-none;
      entry = set;
      kind_is = kind_is;
      row_is = row_is;
    }

    -- a stamp of a created row
    record DeadStore (w value : ℕ) : Type 0 where
      row : ℕ
      in_table : row < 4096
      at : w ≡ born_at row
      is : value ≡ dead
      was : (born mid row ≡ 0) ⊎ (commit_count old < born mid row)
      whose : IsUndecided old Created row

    -- a stamp of an ended row
    record FreeStore (w value : ℕ) : Type 0 where
      row : ℕ
      in_table : row < 4096
      at : w ≡ ended_at row
      is : value ≡ 0
      was : commit_count old < ended mid row
      whose : IsUndecided old Ended row

    high-now : ℕ
    high-now = max (get_or mid high_at 0) (past_created mid object)

    -- how many rows are used up
    record HighStore (w value : ℕ) : Type 0 where
      at : w ≡ high_at
      is : value ≡ max (get_or mid high_at 0) (past_created mid object)

    Undoes : ℕ → ℕ → Type 0
    Undoes w value = DeadStore w value ⊎ (FreeStore w value ⊎ HighStore w value)

    entry_undoes : (nth : ℕ) → nth < 60 → entry old object nth ≢ 0 → Stores Undoes (undo_entry mid (entry_of (entry old object nth)))
    unfolding Undoes
    entry_undoes nth lt set =
        let e = entry_of (entry old object nth) in
        let row_lt = rows-of object number was-open nth lt set in
        undo_entry-stores (λ w value. DeadStore w value ⊎ (FreeStore w value ⊎ HighStore w value)) mid (entry_of (entry old object nth))
        (λ kind was. inl (record {
          row = (entry_of (entry old object nth)).row;
          in_table = row_lt;
          at = refl;
          is = refl;
          was = ⊎_elim (λ z. inl z) (λ above. inr (omega (arith, above, counted))) was;
          whose = undecided nth Created (entry_of (entry old object nth)).row lt set kind refl;
        }))
        (λ kind was. inr (inl (record {
          row = (entry_of (entry old object nth)).row;
          in_table = row_lt;
          at = refl;
          is = refl;
          was = omega (arith, was, counted);
          whose = undecided nth Ended (entry_of (entry old object nth)).row lt set kind refl;
        })))

    part-undoes : Stores Undoes (undo_part mid object)
    unfolding Undoes entries_in
    part-undoes = stores-append (λ w value. DeadStore w value ⊎ (FreeStore w value ⊎ HighStore w value)) (flat_map (undo_entry mid) (entries_in mid object)) (one_store high_at (max (get_or mid high_at 0) (past_created mid object)))
        (entries-stores (λ w value. DeadStore w value ⊎ (FreeStore w value ⊎ HighStore w value)) mid object 0 60 (λ k le lt set. let within : k < 60 = omega (arith, lt) in
        subst (λ (word : ℕ). Stores (λ w value. DeadStore w value ⊎ (FreeStore w value ⊎ HighStore w value)) (undo_entry mid (entry_of word))) (sym (entry-is k within)) (entry_undoes k within (λ e. set (entry-is k within ∙ e)))))
        (inr (inr (record { at = refl; is = refl })), tt)

    undoes-where : (w value : ℕ) → Undoes w value → (w ≡ 517) ⊎ ((2048 ≤ w) × (w < 10240))
    unfolding Undoes
    undoes-where w value is = ⊎_elim
        (λ d. inr (let at = d.at in let lt = d.in_table in (omega (arith, at), omega (arith, at, lt))))
        (λ more. ⊎_elim (λ f. inr (let at = f.at in let lt = f.in_table in (omega (arith, at), omega (arith, at, lt)))) (λ h. inl h.at) more) is

    undoes-born : (row value : ℕ) → row < 4096 → Undoes (born_at row) value → (value ≡ dead) × ((born mid row ≡ 0) ⊎ (commit_count old < born mid row)) × IsUndecided old Created row
    unfolding Undoes
    undoes-born row value lt is = ⊎_elim
        (λ d. let same : d.row ≡ row = let at = d.at in omega (arith, at) in
        (d.is, subst (λ (k : ℕ). (born mid k ≡ 0) ⊎ (commit_count old < born mid k)) same d.was, subst (λ (k : ℕ). IsUndecided old Created k) same d.whose))
        (λ more. ⊎_elim (λ f. let at = f.at in absurd (omega (arith, at, lt))) (λ h. let at = h.at in absurd (omega (arith, at))) more) is

    undoes-ended : (row value : ℕ) → row < 4096 → Undoes (ended_at row) value → (value ≡ 0) × (commit_count old < ended mid row) × IsUndecided old Ended row
    unfolding Undoes
    undoes-ended row value lt is = ⊎_elim
        (λ d. let at = d.at in let small = d.in_table in absurd (omega (arith, at, small)))
        (λ more. ⊎_elim (λ f. let same : f.row ≡ row = let at = f.at in omega (arith, at) in
        (f.is, subst (λ (k : ℕ). commit_count old < ended mid k) same f.was, subst (λ (k : ℕ). IsUndecided old Ended k) same f.whose))
        (λ h. let at = h.at in absurd (omega (arith, at))) more) is

    undoes-high : (value : ℕ) → Undoes high_at value → value ≡ max (get_or mid high_at 0) (past_created mid object)
    unfolding Undoes
    undoes-high value is = ⊎_elim
        (λ d. let at = d.at in absurd (omega (arith, at)))
        (λ more. ⊎_elim (λ f. let at = f.at in absurd (omega (arith, at))) (λ h. h.is) more) is

    past-same : past_created mid object ≡ past_created old object
    past-same = greatest-same (λ nth. past_entry (entry mid object nth)) (λ nth. past_entry (entry old object nth)) 60 (λ nth lt. ap past_entry (entry-is nth lt))

    past-used : past_created mid object ≤ used_up old
    past-used =
        let le = undecided-used old object number in
        let is = undecided_is old object was-open was-none in
        let same = past-same in
        omega (arith, le, is, same)

    -- each cut of the part
    module _ (image : List ℕ) (between : IsBetween mid (words_after (undo_part mid object) mid) image) where
      cut-word : (w : ℕ) → (get_or image w 0 ≡ get_or mid w 0) ⊎ Undoes w (get_or image w 0)
      cut-word w = ⊎_elim
          (λ lt. cut-written Undoes (undo_part mid object) mid image w part-undoes lt between)
          (λ le. let same = between.size in inl (get_or_past image w 0 (omega (arith, le, same)) ∙ sym (get_or_past mid w 0 le)))
          (cases_lt w (length mid))

      cut-beside : (w : ℕ) → (w ≡ 517 → ⊥) → (2048 ≤ w → w < 10240 → ⊥) → get_or image w 0 ≡ get_or mid w 0
      cut-beside w high stamps = ⊎_elim (λ e. e) (λ is. absurd (⊎_elim high (λ (both : (2048 ≤ w) × (w < 10240)). stamps both.0 both.1) (undoes-where w (get_or image w 0) is))) (cut-word w)

      pub undo-objects : (other : ℕ) → other < 16 → SameObject mid image other
      undo-objects other lt = record {
        state = cut-beside (state_at other) (λ e. omega (arith, e)) (λ low high. omega (arith, low, lt));
        commit = cut-beside (commit_word_at other) (λ e. omega (arith, e)) (λ low high. omega (arith, low, lt));
        entry = λ nth within. cut-beside (entry_at other nth) (λ e. omega (arith, e)) (λ low high. omega (arith, low, lt, within));
      }

      undo-same : SameBut false true true mid image
      undo-same = record {
        size = between.size;
        outside = λ w at. cut-beside w (λ e. ⊎_elim (λ low. omega (arith, low, e)) (λ high. omega (arith, high, e)) at)
            (λ from below_end. ⊎_elim (λ low. omega (arith, low, from)) (λ high. omega (arith, high, below_end)) at);
        last = λ e. cut-beside last_at (λ e. omega (arith, e)) (λ low high. omega (arith, low));
        high = λ e. absurd (cc);
        born = λ e. absurd (cc);
        ended = λ e. absurd (cc);
        ready = λ other lt. cut-beside (ready_at other) (λ e. omega (arith, e)) (λ low high. omega (arith, low, lt));
        first = λ other lt. cut-beside (first_segment_at other) (λ e. omega (arith, e)) (λ low high. omega (arith, low, lt));
      }

      pub undo-last : get_or image last_at 0 ≡ get_or mid last_at 0
      undo-last = let same = undo-same in same.last refl

      pub undo-cut : IsReached old image
      undo-cut = reach-stamps old mid image reached undo-same rows-of counted
          (λ row lt. ⊎_elim (λ e. inl e) (λ is. inr (undoes-born row (born image row) lt is)) (cut-word (born_at row)))
          (λ row lt. ⊎_elim (λ e. inl e) (λ is. inr (undoes-ended row (ended image row) lt is)) (cut-word (ended_at row)))
          (⊎_elim (λ e. omega (arith, e)) (λ is. let v = undoes-high (get_or image high_at 0) is in omega (arith, v)) (cut-word high_at))
          (⊎_elim (λ e. let most = reached.high_most in omega (arith, e, most))
          (λ is. let v = undoes-high (get_or image high_at 0) is in let most = reached.high_most in let past = past-used in omega (arith, v, most, past)) (cut-word high_at))
          undo-objects

    -- ── what the part leaves ──

    after-undo : List ℕ
    after-undo = words_after (undo_part mid object) mid

    all-set : (nth : ℕ) → nth < 60 → entry old object nth ≢ 0 → (j : ℕ) → 0 ≤ j → j ≤ nth → entry mid object j ≢ 0
    all-set nth lt set j from le = set-before mid object nth j
        (λ k within. entry_word-same old mid object k within entry-is ∙ entered.entry object k number within was-open) lt le (λ e. set (sym (entry-is nth lt) ∙ e))

    entry-hit : (nth w : ℕ) → nth < 60 → entry old object nth ≢ 0 → footprint (undo_entry mid (entry_of (entry old object nth))) w ≡ true → footprint (undo_part mid object) w ≡ true
    unfolding entries_in
    entry-hit nth w lt set hit = footprint-left (flat_map (undo_entry mid) (entries_in mid object)) (one_store high_at (max (get_or mid high_at 0) (past_created mid object))) w
        (entries-hit mid object 0 60 nth w (omega arith) (omega (arith, lt)) (all-set nth lt set)
        (subst (λ (word : ℕ). footprint (undo_entry mid (entry_of word)) w ≡ true) (sym (entry-is nth lt)) hit))

    pub now-undone : IsUndone old (words_after (undo_part mid object) mid) object
    now-undone = record {
      created = created;
      ended = λ nth lt set kind. ends nth lt set kind;
      high = let v = undoes-high (get_or (words_after (undo_part mid object) mid) high_at 0) (after-written Undoes (undo_part mid object) mid high_at part-undoes (omega (arith, size))
          (footprint-right (flat_map (undo_entry mid) (entries_in mid object)) (one_store high_at (max (get_or mid high_at 0) (past_created mid object))) high_at (or_left (eqb high_at high_at) false (eq-eqb high_at high_at refl)))) in
          let past = past-same in omega (arith, v, past);
    }
      where
        size : 32768 ≤ length mid
        size = length-old mid reached

        created : (nth : ℕ) → nth < 60 → entry old object nth ≢ 0 → (entry_of (entry old object nth)).kind ≡ Created
            → (born (words_after (undo_part mid object) mid) (entry_of (entry old object nth)).row ≢ 0)
            × ((born (words_after (undo_part mid object) mid) (entry_of (entry old object nth)).row ≤ commit_count old) ⊎ (born (words_after (undo_part mid object) mid) (entry_of (entry old object nth)).row ≡ dead))
        created nth lt set kind =
            ⊎_elim
            (λ (was : (born mid (entry_of (entry old object nth)).row ≡ 0) ⊎ (get_or mid last_at 0 < born mid (entry_of (entry old object nth)).row)).
            let stored = after-written Undoes (undo_part mid object) mid (born_at (entry_of (entry old object nth)).row) part-undoes (omega (arith, size, row_lt)) (entry-hit nth (born_at (entry_of (entry old object nth)).row) lt set (undo_created-hit mid (entry_of (entry old object nth)) kind was)) in
            is_dead (born (words_after (undo_part mid object) mid) (entry_of (entry old object nth)).row) (undoes-born (entry_of (entry old object nth)).row (born (words_after (undo_part mid object) mid) (entry_of (entry old object nth)).row) row_lt stored).0)
            (λ (was : (born mid (entry_of (entry old object nth)).row ≢ 0) × (born mid (entry_of (entry old object nth)).row ≤ get_or mid last_at 0)).
            ⊎_elim
            (λ same. ((λ e. was.0 (sym same ∙ e)), inl (let le = was.1 in omega (arith, le, same, counted))))
            (λ is. is_dead (born (words_after (undo_part mid object) mid) (entry_of (entry old object nth)).row) (undoes-born (entry_of (entry old object nth)).row (born (words_after (undo_part mid object) mid) (entry_of (entry old object nth)).row) row_lt is).0)
            (cut-written Undoes (undo_part mid object) mid (words_after (undo_part mid object) mid) (born_at (entry_of (entry old object nth)).row) part-undoes (omega (arith, size, row_lt)) (between-end (undo_part mid object) mid)))
            (cases (born mid (entry_of (entry old object nth)).row) (get_or mid last_at 0))
          where
            row_lt : (entry_of (entry old object nth)).row < 4096
            row_lt = rows-of object number was-open nth lt set

            is_dead : (x : ℕ) → x ≡ dead → (x ≢ 0) × ((x ≤ commit_count old) ⊎ (x ≡ dead))
            is_dead x is = ((λ e. omega (arith, is, e)), inr is)

            cases : (x last : ℕ) → ((x ≡ 0) ⊎ (last < x)) ⊎ ((x ≢ 0) × (x ≤ last))
            cases x last = ⊎_elim (λ none. inl (inl none)) (λ some. ⊎_elim (λ above. inl (inr above)) (λ le. inr (some, le)) (cases_lt last x)) (cases_eq x 0)

        ends : (nth : ℕ) → nth < 60 → entry old object nth ≢ 0 → (entry_of (entry old object nth)).kind ≡ Ended → ended (words_after (undo_part mid object) mid) (entry_of (entry old object nth)).row ≤ commit_count old
        ends nth lt set kind =
            let row_lt = rows-of object number was-open nth lt set in
            ⊎_elim
            (λ (above : get_or mid last_at 0 < ended mid (entry_of (entry old object nth)).row).
            let stored = after-written Undoes (undo_part mid object) mid (ended_at (entry_of (entry old object nth)).row) part-undoes (omega (arith, size, row_lt)) (entry-hit nth (ended_at (entry_of (entry old object nth)).row) lt set (undo_ended-hit mid (entry_of (entry old object nth)) kind above)) in
            let is = (undoes-ended (entry_of (entry old object nth)).row (ended (words_after (undo_part mid object) mid) (entry_of (entry old object nth)).row) row_lt stored).0 in omega (arith, is))
            (λ (le : ended mid (entry_of (entry old object nth)).row ≤ get_or mid last_at 0).
            ⊎_elim (λ same. omega (arith, same, le, counted)) (λ is. let zero_now = (undoes-ended (entry_of (entry old object nth)).row (ended (words_after (undo_part mid object) mid) (entry_of (entry old object nth)).row) row_lt is).0 in omega (arith, zero_now))
            (cut-written Undoes (undo_part mid object) mid (words_after (undo_part mid object) mid) (ended_at (entry_of (entry old object nth)).row) part-undoes (omega (arith, size, row_lt)) (between-end (undo_part mid object) mid)))
            (cases_lt (get_or mid last_at 0) (ended mid (entry_of (entry old object nth)).row))

  -- ── the mendings ──

  pub undo-step : (mid : List ℕ) (object : ℕ) → object < 16 → IsUndoing old object mid → IsStep (IsReached old) (IsUndoing old (object + 1)) (undo_mending object mid) mid
  undo-step mid object number is =
      cond_both (is_open mid object && eqb (commit mid object) 0) (undo_part mid object ∷ one_store (state_at object) 0 ∷ []) [] (λ (parts : List Part). IsStep (IsReached old) (IsUndoing old (object + 1)) parts mid)
      (λ hit. let both = and_parts (is_open mid object) (eqb (commit mid object) 0) hit in undoes (eqb-true (state mid object) 1 both.0) (eqb-true (commit mid object) 0 both.1))
      (λ miss. record {
        stores = tt;
        cuts = is.reached;
        end = record {
          reached = is.reached;
          last = is.last;
          undone = λ other lt within opened none. ⊎_elim
              (λ (here : other ≡ object). both_ways (is_open mid object && eqb (commit mid object) 0) miss
              (and_from (is_open mid object) (eqb (commit mid object) 0) (eq-eqb (state mid object) 1 (ap (state mid) (sym here) ∙ opened)) (eq-eqb (commit mid object) 0 (ap (commit mid) (sym here) ∙ none))))
              (λ differs. is.undone other (omega (arith, lt, differs)) within opened none)
              (cases_eq other object);
        };
      })
    where
      undoes : state mid object ≡ 1 → commit mid object ≡ 0 → IsStep (IsReached old) (IsUndoing old (object + 1)) (undo_part mid object ∷ one_store (state_at object) 0 ∷ []) mid
      undoes opened none =
          let next = words_after (undo_part mid object) mid in
          let whole = between-end (undo_part mid object) mid in
          let reached = undo-cut mid is.reached is.last object number opened none next whole in
          let objects = λ (other : ℕ) (lt : other < 16). undo-objects mid is.reached is.last object number opened none next whole other lt in
          let here = objects object number in
          let open_still = here.state ∙ opened in
          let undone = now-undone mid is.reached is.last object number opened none in
          let was = as-before mid is.reached object number opened in
          let no_commit : commit old object ≡ 0 = sym was.commit ∙ none in
          let final = idle-reached next reached object number open_still (λ _ _. undone) (λ _ some. absurd (some no_commit)) in
          let size = length-old mid is.reached in
          record {
            stores = (
              stores-map (Undoes mid is.reached is.last object number opened none) (λ place value. place < length mid) (undo_part mid object)
                  (λ place value where_is. ⊎_elim (λ high. omega (arith, high, size)) (λ (both : (2048 ≤ place) × (place < 10240)). let top = both.1 in omega (arith, top, size)) (undoes-where mid is.reached is.last object number opened none place value where_is))
                  (part-undoes mid is.reached is.last object number opened none),
              ((omega (arith, size, number), tt), tt),
            );
            cuts = (
              λ image between. undo-cut mid is.reached is.last object number opened none image between,
              (cut-one_store (IsReached old) (state_at object) 0 next reached final, final),
            );
            end = record {
              reached = final;
              last = get_or-set_other next (state_at object) last_at 0 0 (λ e. omega (arith, e)) ∙ undo-last mid is.reached is.last object number opened none next whole ∙ is.last;
              undone = λ other lt within opened_now none_now. ⊎_elim
                  (λ (same : other ≡ object). let idle = state-now next reached object number open_still in let open_here : state (set next (state_at object) 0) object ≡ 1 = ap (state (set next (state_at object) 0)) (sym same) ∙ opened_now in omega (arith, idle, open_here))
                  (λ differs. let later = idle-others next reached object number open_still other differs in let before = objects other within in
                  is.undone other (omega (arith, lt, differs)) within (sym before.state ∙ sym later.state ∙ opened_now) (sym before.commit ∙ sym later.commit ∙ none_now))
                  (cases_eq other object);
            };
          }

  -- no row is undecided once all objects are undone
  pub settled-now : (mid : List ℕ) → IsReached old mid → get_or mid last_at 0 ≡ commit_count old → ((object : ℕ) → object < 16 → state mid object ≡ 1 → commit mid object ≡ 0 → ⊥) → IsSettled old mid
  settled-now mid reached last undone = record {
    last = last;
    high = used-le old (get_or mid high_at 0) reached.high_low (λ object lt. undecided-le old object (get_or mid high_at 0) (λ opened none. ⊎_elim
        (λ (before : IsAsBefore old mid object). absurd (undone object lt (before.state ∙ opened) (before.commit ∙ none)))
        (λ (idle : IsIdleNow old mid object). let is = idle.undone opened none in is.high)
        (reached.object object lt)));
  }

  pub close-step : (mid : List ℕ) (object : ℕ) → object < 16 → IsClosing old object mid → IsStep (IsReached old) (IsClosing old (object + 1)) (close_mending object mid) mid
  close-step mid object number is =
      cond_both (is_open mid object && not (eqb (commit mid object) 0)) (one_store (state_at object) 0 ∷ []) [] (λ (parts : List Part). IsStep (IsReached old) (IsClosing old (object + 1)) parts mid)
      (λ hit. let both = and_parts (is_open mid object) (not (eqb (commit mid object) 0)) hit in closes (eqb-true (state mid object) 1 both.0) (eqb-false (commit mid object) 0 (not-true (eqb (commit mid object) 0) both.1)))
      (λ miss. record {
        stores = tt;
        cuts = is.reached;
        end = record {
          reached = is.reached;
          last = is.last;
          undone = is.undone;
          idle = λ other lt within. ⊎_elim
              (λ (here : object ≡ other). subst (λ (k : ℕ). state mid k ≡ 0) here (stays miss))
              (λ differs. is.idle other (omega (arith, lt, differs)) within)
              (cases_eq object other);
        };
      })
    where
      stays : (is_open mid object && not (eqb (commit mid object) 0)) ≡ false → state mid object ≡ 0
      stays miss = ⊎_elim
          (λ opened. absurd (⊎_elim (λ none. is.undone object number opened none)
          (λ some. both_ways (is_open mid object && not (eqb (commit mid object) 0)) miss (rw (eq-eqb (state mid object) 1 opened, ne_eqb (commit mid object) 0 some) refl)) (cases_eq (commit mid object) 0)))
          (λ isnt. let few : state mid object ≤ 1 = state-le in omega (arith, isnt, few))
          (cases_eq (state mid object) 1)
        where
          state-le : state mid object ≤ 1
          state-le = ⊎_elim (λ (before : IsAsBefore old mid object). let e = before.state in let o = entered.object object number in let le = o.state in omega (arith, e, le))
              (λ (idle : IsIdleNow old mid object). let e = idle.idle in omega (arith, e)) (is.reached.object object number)

      closes : state mid object ≡ 1 → (commit mid object ≡ 0 → ⊥) → IsStep (IsReached old) (IsClosing old (object + 1)) (one_store (state_at object) 0 ∷ []) mid
      closes opened some =
          let size = length-old mid is.reached in
          let was = as-before mid is.reached object number opened in
          let final = idle-reached mid is.reached object number opened (λ _ none. absurd (some (was.commit ∙ none))) (λ _ _. settled-now mid is.reached is.last is.undone) in
          record {
            stores = ((omega (arith, size, number), tt), tt);
            cuts = (cut-one_store (IsReached old) (state_at object) 0 mid is.reached final, final);
            end = record {
              reached = final;
              last = get_or-set_other mid (state_at object) last_at 0 0 (λ e. omega (arith, e)) ∙ is.last;
              undone = λ other within opened_now none_now. ⊎_elim
                  (λ (same : other ≡ object). let idle = state-now mid is.reached object number opened in let open_here : state (set mid (state_at object) 0) object ≡ 1 = ap (state (set mid (state_at object) 0)) (sym same) ∙ opened_now in omega (arith, idle, open_here))
                  (λ differs. let later = idle-others mid is.reached object number opened other differs in is.undone other within (sym later.state ∙ opened_now) (sym later.commit ∙ none_now))
                  (cases_eq other object);
              idle = λ other lt within. ⊎_elim
                  (λ (same : object ≡ other). subst (λ (k : ℕ). state (set mid (state_at object) 0) k ≡ 0) same (state-now mid is.reached object number opened))
                  (λ differs. let later = idle-others mid is.reached object number opened other (λ e. differs (sym e)) in later.state ∙ is.idle other (omega (arith, lt, differs)) within)
                  (cases_eq object other);
            };
          }
