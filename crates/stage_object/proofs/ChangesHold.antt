-- A begin, an entry and a retire hold what their changes say.
use Rattle.std.proofs.Common.{◌≡◌, ◌⊎◌, inl, inr, ⊎_elim, ℕ, ◌+◌, ◌<◌, List, [], ◌∷◌, length, get_or, set, refl, sym, ◌∙◌, ap, subst, arith}
use Rattle.std.proofs.lemmas.List.{get_or-set_same, get_or-set_other, length-set, length-append}
use Rattle.image_layout.specs.Fixed.{state_at, commit_word_at, entry_at}
use Rattle.pm_model.specs.Changes.{HoldsOnWords}
use Rattle.pm_model.specs.Plans.{EachCut, one_store}
use Rattle.pm_model.proofs.Cuts.{store_part, one_store-cut}
use Rattle.txn_object.specs.declared.entry.Entry.{Entry}
use Rattle.txn_object.specs.Changes.{NewEntry, Retirement}
use Rattle.txn_object.specs.Entries.{entry_word}
use Rattle.stage_object.specs.Changes.{SameObjectRead, IsBegun, beginning, IsEntered, entering, retiring}
use Rattle.stage_object.specs.Object.{entries_in}
use Rattle.stage_object.specs.Shown.{HasObject, MayAddEntry}
use Rattle.stage_object.proofs.EntryWords.{entries_in-same}
use Rattle.stage_object.proofs.OneStore.{begin_after, entry_after, entry_packed}
use Rattle.stage_object.proofs.Retire.{retire_plan, retire_each, retire_ends}

-- a plan of one store leaves the words as they were, or with the store
one_store_cuts : (P : List ℕ → Type 0) (place value : ℕ) (base : List ℕ) → P (set base place value) → EachCut (λ image. (image ≡ base) ⊎ P image) (one_store place value ∷ []) base
one_store_cuts P place value base after = (
  λ image between. ⊎_elim (λ old. inl old) (λ (new : image ≡ set base place value). inr (subst P (sym new) after)) (one_store-cut place value base image between),
  inr after,
)

-- where the object's entry words stay, an entry that might be entered may be so still
still_enters : (old new : List ℕ) (object nth : ℕ) (entry : Entry) → length new ≡ length old → ((k : ℕ) → k < 60 → get_or new (entry_at object k) 0 ≡ get_or old (entry_at object k) 0)
    → MayAddEntry old object nth entry → MayAddEntry new object nth entry
still_enters old new object nth entry size same may = record {
  is_object = record { number = may.is_object.number; size = omega (arith, size, may.is_object.size) };
  count = ap (λ (l : List Entry). length l) (entries_in-same old new object same) ∙ may.count;
  room = may.room;
  packed = λ k lt none. same (k + 1) lt ∙ may.packed k lt (sym (same k (omega (arith, lt))) ∙ none);
  table = may.table;
  row = may.row;
}

-- ── a begin ──

begin_is : (object : ℕ) (base : List ℕ) → HasObject base object → IsBegun object base (set base (state_at object) 1)
begin_is object base has = record {
  size = length-set base (state_at object) 1;
  state = get_or-set_same base (state_at object) 1 0 (omega (arith, has.number, has.size));
  others = λ w apart. get_or-set_other base (state_at object) w 1 0 apart;
  shows = λ transaction shows. begin_after object transaction base has shows;
  next = λ nth entry may. still_enters base (set base (state_at object) 1) object nth entry (length-set base (state_at object) 1)
      (λ k lt. get_or-set_other base (state_at object) (entry_at object k) 1 0 (λ e. omega (arith, e))) may;
}

has_still : (object : ℕ) (old new : List ℕ) → SameObjectRead object old new → HasObject old object → HasObject new object
has_still object old new same has = record { number = has.number; size = let size = same.size in omega (arith, size, has.size) }

pub begin_holds : (object : ℕ) → HoldsOnWords (beginning object)
begin_holds object = record {
  plan = λ base has. (store_part (length base) (state_at object) 1 (omega (arith, has.number, has.size)), tt);
  cuts = λ base has. one_store_cuts (IsBegun object base) (state_at object) 1 base (begin_is object base has);
  end = λ base has. begin_is object base has;
  stable = λ old new same has. (has_still object old new same has, refl);
}

-- ── an entry ──

entry_is : (object nth : ℕ) (entry : Entry) (base : List ℕ) → MayAddEntry base object nth entry → IsEntered (record { object = object; nth = nth; entry = entry }) base (set base (entry_at object nth) (entry_word entry))
entry_is object nth entry base may = record {
  size = length-set base (entry_at object nth) (entry_word entry);
  word = get_or-set_same base (entry_at object nth) (entry_word entry) 0 (omega (arith, may.is_object.number, may.is_object.size, may.room));
  others = λ w apart. get_or-set_other base (entry_at object nth) w (entry_word entry) 0 apart;
  shows = λ transaction shows. entry_after object nth entry transaction base may shows;
  packed = entry_packed object nth entry base may;
  next = λ other lt spelt. record {
    is_object = record { number = may.is_object.number; size = let size = length-set base (entry_at object nth) (entry_word entry) in omega (arith, size, may.is_object.size) };
    count =
        let one = ap (λ (l : List Entry). length l) (entry_after object nth entry (record { state = get_or base (state_at object) 0; commit_word = get_or base (commit_word_at object) 0; entries = entries_in base object }) base may (record { state = refl; commit_word = refl; entries = refl })).entries in
        let sum = length-append (entries_in base object) (entry ∷ []) in
        let count = may.count in
        omega (arith, one, sum, count);
    room = lt;
    packed = entry_packed object nth entry base may;
    table = spelt.table;
    row = spelt.row;
  };
}

pub entry_holds : (n : NewEntry) → HoldsOnWords (entering n)
entry_holds n = record {
  plan = λ base may. (store_part (length base) (entry_at n.object n.nth) (entry_word n.entry) (omega (arith, may.is_object.number, may.is_object.size, may.room)), tt);
  cuts = λ base may. one_store_cuts (IsEntered n base) (entry_at n.object n.nth) (entry_word n.entry) base (entry_is n.object n.nth n.entry base may);
  end = λ base may. entry_is n.object n.nth n.entry base may;
  stable = λ old new same may. (still_enters old new n.object n.nth n.entry same.size same.entries may, refl);
}

-- ── a retire ──

pub retire_holds : (r : Retirement) → HoldsOnWords (retiring r)
retire_holds r = record {
  plan = λ base may. retire_plan base r.object r.entries r.word may.is_object may.most;
  cuts = λ base may. retire_each r.object r.entries r.word base may.is_object may.most;
  end = λ base may. retire_ends r.object r.entries r.word base may.is_object may.most;
  stable = λ old new same may. (record { is_object = has_still r.object old new same may.is_object; most = may.most }, refl);
}
