-- What opening may have done to the words of an image so far, and that each of its mendings keeps to that.
use Rattle.std.proofs.Common.{◌≡◌, ◌≢◌, ◌⊎◌, inl, inr, ⊎_elim, ℕ, ◌<◌, ◌≤◌, Bool, true, false, List, length, get_or, refl, sym, ◌∙◌, arith}
use Rattle.image_layout.specs.Fixed.{last_at, ready_at, first_segment_at}
use Rattle.txn_object.specs.declared.entry.EntryKind.TheVariants.{Created, Ended}
use Rattle.txn_object.specs.Entries.{entry_of}
use Rattle.engine_core.specs.Stage.{high_at, born_at, ended_at}
use Rattle.engine_core.specs.LogicalState.{commit_count}
use Rattle.engine_core.specs.ImageRules.{dead}
use Rattle.engine_core.specs.Opening.{past_created}
use Rattle.engine_core.specs.Recoverable.{IsUndecided, used_up}
use Rattle.engine_core.proofs.Greatest.{state, commit, entry}
use Rattle.engine_core.proofs.ImageRules.{SameOutside}

abbrev pub born : List ℕ → ℕ → ℕ
born words row = get_or words (born_at row) 0

abbrev pub ended : List ℕ → ℕ → ℕ
ended words row = get_or words (ended_at row) 0

-- ── what may have been done ──

-- the row of a transaction without commit word is dead
pub record IsDeadNow (old new : List ℕ) (row : ℕ) : Type 0 where
  pub now : born new row ≡ dead
  pub was : (born old row ≡ 0) ⊎ (commit_count old < born old row)
  pub undecided : IsUndecided old Created row

-- a row that such a transaction ended isn't ended
pub record IsFreeNow (old new : List ℕ) (row : ℕ) : Type 0 where
  pub now : ended new row ≡ 0
  pub was : commit_count old < ended old row
  pub undecided : IsUndecided old Ended row

-- the stamps of an object's rows are taken back, and its rows are used up
pub record IsUndone (old new : List ℕ) (object : ℕ) : Type 0 where
  pub created : (nth : ℕ) → nth < 60 → entry old object nth ≢ 0 → (entry_of (entry old object nth)).kind ≡ Created
      → (born new (entry_of (entry old object nth)).row ≢ 0) × ((born new (entry_of (entry old object nth)).row ≤ commit_count old) ⊎ (born new (entry_of (entry old object nth)).row ≡ dead))
  pub ended : (nth : ℕ) → nth < 60 → entry old object nth ≢ 0 → (entry_of (entry old object nth)).kind ≡ Ended → ended new (entry_of (entry old object nth)).row ≤ commit_count old
  pub high : past_created old object ≤ get_or new high_at 0

-- the commits are counted, and no row is undecided
pub record IsSettled (old new : List ℕ) : Type 0 where
  pub last : get_or new last_at 0 ≡ commit_count old
  pub high : used_up old ≤ get_or new high_at 0

-- an object as it was
pub record IsAsBefore (old new : List ℕ) (object : ℕ) : Type 0 where
  pub state : state new object ≡ state old object
  pub commit : commit new object ≡ commit old object
  pub entry : (nth : ℕ) → nth < 60 → entry new object nth ≡ entry old object nth

-- an object that is idle now, for its transaction was undone or is that of a commit
pub record IsIdleNow (old new : List ℕ) (object : ℕ) : Type 0 where
  pub idle : state new object ≡ 0
  pub word : (commit new object ≡ commit old object) ⊎ (commit new object ≡ 0)
  pub cleared : (nth : ℕ) → nth < 60 → (entry new object nth ≡ entry old object nth) ⊎ (entry new object nth ≡ 0)
  pub undone : state old object ≡ 1 → commit old object ≡ 0 → IsUndone old new object
  pub settled : state old object ≡ 1 → commit old object ≢ 0 → IsSettled old new

-- these words may be reached while those are opened
pub record IsReached (old new : List ℕ) : Type 0 where
  pub size : length new ≡ length old
  pub outside : SameOutside old new
  pub last : (get_or new last_at 0 ≡ get_or old last_at 0) ⊎ (get_or new last_at 0 ≡ commit_count old)
  pub high_low : get_or old high_at 0 ≤ get_or new high_at 0
  pub high_most : get_or new high_at 0 ≤ used_up old
  pub born : (row : ℕ) → row < 4096 → (born new row ≡ born old row) ⊎ IsDeadNow old new row
  pub ended : (row : ℕ) → row < 4096 → (ended new row ≡ ended old row) ⊎ IsFreeNow old new row
  pub ready : (object : ℕ) → object < 16 → get_or new (ready_at object) 0 ≡ get_or old (ready_at object) 0
  pub first : (object : ℕ) → object < 16 → get_or new (first_segment_at object) 0 ≡ get_or old (first_segment_at object) 0
  pub object : (object : ℕ) → object < 16 → IsAsBefore old new object ⊎ IsIdleNow old new object

-- ── steps ──

-- the row's stamps stay, or are taken back
pub record StampsGo (mid new : List ℕ) : Type 0 where
  pub born : (row : ℕ) → row < 4096 → (born new row ≡ born mid row) ⊎ (born new row ≡ dead)
  pub ended : (row : ℕ) → row < 4096 → (ended new row ≡ ended mid row) ⊎ (ended new row ≡ 0)
  pub high : get_or mid high_at 0 ≤ get_or new high_at 0

-- an entry's row is one of the table
abbrev pub AreRows : List ℕ → ℕ → Type 0
AreRows old object = state old object ≡ 1 → (nth : ℕ) → nth < 60 → entry old object nth ≢ 0 → (entry_of (entry old object nth)).row < 4096

undone-stays : (old mid new : List ℕ) (object : ℕ) → ((nth : ℕ) → nth < 60 → entry old object nth ≢ 0 → (entry_of (entry old object nth)).row < 4096) → StampsGo mid new → IsUndone old mid object → IsUndone old new object
undone-stays old mid new object rows go is = record {
  created = λ nth lt set kind. let before = is.created nth lt set kind in
      ⊎_elim
      (λ same. ((λ e. before.0 (sym same ∙ e)), ⊎_elim (λ le. inl (omega (arith, le, same))) (λ e. inr (same ∙ e)) before.1))
      (λ gone. ((λ e. let bad : dead ≡ 0 = sym gone ∙ e in omega (arith, bad)), inr gone))
      (go.born (entry_of (entry old object nth)).row (rows nth lt set));
  ended = λ nth lt set kind. let before = is.ended nth lt set kind in
      ⊎_elim (λ same. omega (arith, before, same)) (λ gone. omega (arith, gone))
      (go.ended (entry_of (entry old object nth)).row (rows nth lt set));
  high = let before = is.high in let more = go.high in omega (arith, before, more);
}

settled-stays : (old mid new : List ℕ) → get_or new last_at 0 ≡ get_or mid last_at 0 → get_or mid high_at 0 ≤ get_or new high_at 0 → IsSettled old mid → IsSettled old new
settled-stays old mid new last high is = record { last = last ∙ is.last; high = let before = is.high in omega (arith, before, high) }

-- an object whose words stay
pub record SameObject (mid new : List ℕ) (object : ℕ) : Type 0 where
  pub state : state new object ≡ state mid object
  pub commit : commit new object ≡ commit mid object
  pub entry : (nth : ℕ) → nth < 60 → entry new object nth ≡ entry mid object nth

pub object-stays : (old mid new : List ℕ) (object : ℕ) → AreRows old object → SameObject mid new object → StampsGo mid new → get_or new last_at 0 ≡ get_or mid last_at 0
    → IsAsBefore old mid object ⊎ IsIdleNow old mid object → IsAsBefore old new object ⊎ IsIdleNow old new object
object-stays old mid new object rows same go last is = ⊎_elim
    (λ before. inl (record { state = same.state ∙ before.state; commit = same.commit ∙ before.commit; entry = λ nth lt. same.entry nth lt ∙ before.entry nth lt }))
    (λ idle. inr (record {
      idle = same.state ∙ idle.idle;
      word = ⊎_elim (λ e. inl (same.commit ∙ e)) (λ e. inr (same.commit ∙ e)) idle.word;
      cleared = λ nth lt. ⊎_elim (λ e. inl (same.entry nth lt ∙ e)) (λ e. inr (same.entry nth lt ∙ e)) (idle.cleared nth lt);
      undone = λ was none. undone-stays old mid new object (rows was) go (idle.undone was none);
      settled = λ was some. settled-stays old mid new last go.high (idle.settled was some);
    }))
    is

-- the words of which the rules speak stay, but for those that the step is about
pub record SameBut (in_last in_high in_stamps : Bool) (mid new : List ℕ) : Type 0 where
  pub size : length new ≡ length mid
  pub outside : SameOutside mid new
  pub last : in_last ≡ false → get_or new last_at 0 ≡ get_or mid last_at 0
  pub high : in_high ≡ false → get_or new high_at 0 ≡ get_or mid high_at 0
  pub born : in_stamps ≡ false → (row : ℕ) → row < 4096 → born new row ≡ born mid row
  pub ended : in_stamps ≡ false → (row : ℕ) → row < 4096 → ended new row ≡ ended mid row
  pub ready : (object : ℕ) → object < 16 → get_or new (ready_at object) 0 ≡ get_or mid (ready_at object) 0
  pub first : (object : ℕ) → object < 16 → get_or new (first_segment_at object) 0 ≡ get_or mid (first_segment_at object) 0

-- where the stamps stay
stamps-stay : (mid new : List ℕ) (last : Bool) → SameBut last false false mid new → StampsGo mid new
stamps-stay mid new last same = record {
  born = λ row lt. inl (same.born refl row lt);
  ended = λ row lt. inl (same.ended refl row lt);
  high = let e = same.high refl in omega (arith, e);
}

module _ (old mid new : List ℕ) (reached : IsReached old mid) where
  abbrev AllRows : Type 0
  AllRows = (object : ℕ) → object < 16 → AreRows old object

  born-kept : (row : ℕ) → born new row ≡ born mid row → (born mid row ≡ born old row) ⊎ IsDeadNow old mid row → (born new row ≡ born old row) ⊎ IsDeadNow old new row
  born-kept row same is = ⊎_elim (λ e. inl (same ∙ e)) (λ d. inr (record { now = same ∙ d.now; was = d.was; undecided = d.undecided })) is

  ended-kept : (row : ℕ) → ended new row ≡ ended mid row → (ended mid row ≡ ended old row) ⊎ IsFreeNow old mid row → (ended new row ≡ ended old row) ⊎ IsFreeNow old new row
  ended-kept row same is = ⊎_elim (λ e. inl (same ∙ e)) (λ d. inr (record { now = same ∙ d.now; was = d.was; undecided = d.undecided })) is

  -- a step that changes words of objects alone
  pub reach-objects : SameBut false false false mid new → ((object : ℕ) → object < 16 → IsAsBefore old new object ⊎ IsIdleNow old new object) → IsReached old new
  reach-objects same objects = record {
    size = same.size ∙ reached.size;
    outside = λ w at. same.outside w at ∙ reached.outside w at;
    last = ⊎_elim (λ e. inl (same.last refl ∙ e)) (λ e. inr (same.last refl ∙ e)) reached.last;
    high_low = let e = same.high refl in let le = reached.high_low in omega (arith, e, le);
    high_most = let e = same.high refl in let le = reached.high_most in omega (arith, e, le);
    born = λ row lt. born-kept row (same.born refl row lt) (reached.born row lt);
    ended = λ row lt. ended-kept row (same.ended refl row lt) (reached.ended row lt);
    ready = λ object lt. same.ready object lt ∙ reached.ready object lt;
    first = λ object lt. same.first object lt ∙ reached.first object lt;
    object = objects;
  }

  -- the last commit number is raised to that of the commits, or stays
  pub reach-last : SameBut true false false mid new → (get_or new last_at 0 ≡ commit_count old) → ((object : ℕ) → object < 16 → SameObject mid new object) → ((object : ℕ) → object < 16 → IsAsBefore old mid object) → IsReached old new
  reach-last same last objects before = record {
    size = same.size ∙ reached.size;
    outside = λ w at. same.outside w at ∙ reached.outside w at;
    last = inr last;
    high_low = let e = same.high refl in let le = reached.high_low in omega (arith, e, le);
    high_most = let e = same.high refl in let le = reached.high_most in omega (arith, e, le);
    born = λ row lt. born-kept row (same.born refl row lt) (reached.born row lt);
    ended = λ row lt. ended-kept row (same.ended refl row lt) (reached.ended row lt);
    ready = λ object lt. same.ready object lt ∙ reached.ready object lt;
    first = λ object lt. same.first object lt ∙ reached.first object lt;
    object = λ object lt. let s = objects object lt in let b = before object lt in
        inl (record { state = s.state ∙ b.state; commit = s.commit ∙ b.commit; entry = λ nth within. s.entry nth within ∙ b.entry nth within });
  }

  -- stamps of undecided rows are taken back, and rows are used up
  pub reach-stamps : SameBut false true true mid new → AllRows → get_or mid last_at 0 ≡ commit_count old
      → ((row : ℕ) → row < 4096 → (born new row ≡ born mid row) ⊎ ((born new row ≡ dead) × ((born mid row ≡ 0) ⊎ (commit_count old < born mid row)) × IsUndecided old Created row))
      → ((row : ℕ) → row < 4096 → (ended new row ≡ ended mid row) ⊎ ((ended new row ≡ 0) × (commit_count old < ended mid row) × IsUndecided old Ended row))
      → get_or mid high_at 0 ≤ get_or new high_at 0 → get_or new high_at 0 ≤ used_up old → ((object : ℕ) → object < 16 → SameObject mid new object) → IsReached old new
  reach-stamps same rows counted borns endeds higher most objects = record {
    size = same.size ∙ reached.size;
    outside = λ w at. same.outside w at ∙ reached.outside w at;
    last = inr (same.last refl ∙ counted);
    high_low = let le = reached.high_low in omega (arith, higher, le);
    high_most = most;
    born = λ row lt. ⊎_elim
        (λ e. born-kept row e (reached.born row lt))
        (λ d. inr (⊎_elim
        (λ e. record { now = d.0; was = ⊎_elim (λ none. inl (sym e ∙ none)) (λ above. inr (omega (arith, above, e))) d.1; undecided = d.2 })
        (λ before. record { now = d.0; was = before.was; undecided = before.undecided })
        (reached.born row lt)))
        (borns row lt);
    ended = λ row lt. ⊎_elim
        (λ e. ended-kept row e (reached.ended row lt))
        (λ d. inr (⊎_elim
        (λ e. record { now = d.0; was = let above = d.1 in omega (arith, above, e); undecided = d.2 })
        (λ before. record { now = d.0; was = before.was; undecided = before.undecided })
        (reached.ended row lt)))
        (endeds row lt);
    ready = λ object lt. same.ready object lt ∙ reached.ready object lt;
    first = λ object lt. same.first object lt ∙ reached.first object lt;
    object = λ object lt. object-stays old mid new object (rows object lt) (objects object lt) go (same.last refl) (reached.object object lt);
  }
    where
      go : StampsGo mid new
      go = record {
        born = λ row lt. ⊎_elim (λ e. inl e) (λ d. inr d.0) (borns row lt);
        ended = λ row lt. ⊎_elim (λ e. inl e) (λ d. inr d.0) (endeds row lt);
        high = higher;
      }

  -- objects whose words stay, in a step that changes words of other objects alone
  pub stays-beside : SameBut false false false mid new → AllRows → (object : ℕ) → object < 16 → SameObject mid new object → IsAsBefore old new object ⊎ IsIdleNow old new object
  stays-beside same rows object lt here = object-stays old mid new object (rows object lt) here (stamps-stay mid new false same) (same.last refl) (reached.object object lt)

  -- what a step on objects keeps of an object that was undone, or of settled words
  pub undone-beside : SameBut false false false mid new → AllRows → (object : ℕ) → object < 16 → state old object ≡ 1 → IsUndone old mid object → IsUndone old new object
  undone-beside same rows object lt was undone = undone-stays old mid new object (rows object lt was) (stamps-stay mid new false same) undone

  pub settled-beside : SameBut false false false mid new → IsSettled old mid → IsSettled old new
  settled-beside same is = settled-stays old mid new (same.last refl) (let e = same.high refl in omega (arith, e)) is

pub reach-none : (words : List ℕ) → IsReached words words
reach-none words = record {
  size = refl;
  outside = λ w at. refl;
  last = inl refl;
  high_low = omega arith;
  high_most = omega arith;
  born = λ row lt. inl refl;
  ended = λ row lt. inl refl;
  ready = λ object lt. refl;
  first = λ object lt. refl;
  object = λ object lt. inl (record { state = refl; commit = refl; entry = λ nth within. refl });
}
