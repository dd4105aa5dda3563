-- A retire of a transaction of which nothing needs to be undone keeps what fits together, and shows the same.
use Rattle.std.proofs.Common.{◌≡◌, inl, inr, ⊎_elim, ℕ, ◌%◌, ◌<◌, Bool, cond, List, [], ◌++◌, get_or, set, take, ◌∙◌, ap, subst, arith}
use Rattle.std.proofs.lemmas.Bool.{cases_eq}
use Rattle.std.proofs.lemmas.List.{length-set}
use Rattle.pm_model.specs.Plans.{EachCut, one_store, Part, stores, unless_empty}
use Rattle.pm_model.proofs.Cuts.{cut-one_store, each_cut-map}
use Rattle.image_layout.specs.Fixed.{commit_word_at, state_at}
use Rattle.image_layout.specs.Records.{created_header, ended_header, high_at}
use Rattle.image_layout.specs.Arrays.{capacity}
use Rattle.image_layout.specs.Tables.{table_block, table_count}
use Rattle.shown_state.specs.OpeningParts.{FitsStill}
use Rattle.opening_steps.proofs.Beside.{places}
use Rattle.opening_steps.proofs.Objects.{entry_places_same}
use Rattle.opening_steps.proofs.StampWords.{a_state, bound_behind, creators, enders, IsUndoWord, stamp_behind, undo_may_change, undo_only}
use Rattle.opening_steps.proofs.Undone.{birth_at, end_at, IsAllTaken, IsTaken, taken_still}
use Rattle.txn_object.specs.Object.{clear_part, retire_parts}
use Rattle.fitting_plans.specs.Transactions.{IsObjectOf, MayClear, MayClose}
use Rattle.fitting_plans.proofs.Storing.{as_it_is, here, other, state_other, then}
use Rattle.fitting_plans.proofs.Clear.{clear_keeps}

module _ (words : List ℕ) (object : ℕ) (may : MayClose words object) where
  abbrev its : IsObjectOf words object
  its = may.its

  abbrev closed : List ℕ
  closed = set words (state_at object) 0

  birth_other : (table row : ℕ) → table < table_count words → row < capacity words (created_header (table_block words table)) → get_or closed (birth_at words table row) 0 ≡ get_or words (birth_at words table row) 0
  birth_other table row lt published = other words object 0 its (birth_at words table row) (λ e.
      let behind = stamp_behind words its.fits table 8 (created_header (table_block words table)) row (creators words its.fits table lt) published in let number = its.number in omega (arith, behind, e, number))

  end_other : (table row : ℕ) → table < table_count words → row < capacity words (ended_header (table_block words table)) → get_or closed (end_at words table row) 0 ≡ get_or words (end_at words table row) 0
  end_other table row lt published = other words object 0 its (end_at words table row) (λ e.
      let behind = stamp_behind words its.fits table 24 (ended_header (table_block words table)) row (enders words its.fits table lt) published in let number = its.number in omega (arith, behind, e, number))

  bound_other : (table : ℕ) → table < table_count words → get_or closed (high_at (table_block words table)) 0 ≡ get_or words (high_at (table_block words table)) 0
  bound_other table lt = other words object 0 its (high_at (table_block words table)) (λ e. let behind = bound_behind words its.fits table lt in let number = its.number in omega (arith, behind, e, number))

  all_taken : IsAllTaken words closed object
  all_taken = record {
    creators = λ table row lt published entry.
        let same = birth_other table row lt published in
        ⊎_elim (λ dead. inl (same ∙ dead)) (λ low. inr (omega (arith, same, low))) (may.created table row lt published entry);
    enders = λ table row lt published entry. let same = end_other table row lt published in let low = may.ended table row lt published entry in omega (arith, same, low);
    bounds = λ table lt. let same = bound_other table lt in let low = may.used_up table lt in omega (arith, same, low);
  }

  closes : IsTaken words closed object
  closes = record {
    only = undo_only words its.fits closed (λ w. ⊎_elim (λ here. inr (a_state object its.number here)) (λ apart. inl (other words object 0 its w apart)) (cases_eq w (state_at object))) (length-set words (state_at object) 0);
    creators = λ table row lt published. inl (birth_other table row lt published);
    enders = λ table row lt published. inl (end_other table row lt published);
    rises = λ table lt. let same = bound_other table lt in omega (arith, same);
    most = λ table lt. let same = bound_other table lt in omega (arith, same);
    states = λ one lt. ⊎_elim
        (λ (e : one ≡ object). inr (e, ap (λ (o : ℕ). get_or closed (state_at o) 0) e ∙ here words object 0 its, all_taken))
        (λ apart. inl (state_other words object 0 its one apart)) (cases_eq one object);
  }

  pub closed_still : FitsStill words closed
  closed_still = taken_still words closed object its.image its.number its.fits may.undecided closes

  closed_may_clear : MayClear closed object
  closed_may_clear =
      let still = closed_still in
      let whole = its.image in
      let size = length-set words (state_at object) 0 in
      record {
        its = record {
          image = record { segments = ap (λ (n : ℕ). n % 32768) size ∙ whole.segments; one_or_more = let most = whole.one_or_more in omega (arith, size, most) };
          fits = still.fits;
          number = its.number;
        };
        closed = here words object 0 its;
      }

  -- its entries stand where they stood
  clear_same : (count : ℕ) (word : Bool) → clear_part closed object count word ≡ clear_part words object count word
  unfolding clear_part
  clear_same count word = ap (λ (spots : List ℕ). stores 0 (take count spots) ++ cond word (one_store (commit_word_at object) 0) [])
      (entry_places_same words closed (places words closed (IsUndoWord words) its.image its.fits (undo_may_change words its.fits) closes.only) object its.number)

pub retire_keeps : (words : List ℕ) (object count : ℕ) (word : Bool) → MayClose words object → EachCut (FitsStill words) (retire_parts words object count word) words
retire_keeps words object count word may =
    let its = may.its in
    let closed = set words (state_at object) 0 in
    let still = closed_still words object may in (
      cut-one_store (FitsStill words) (state_at object) 0 words (as_it_is words its.fits) still,
      subst (λ (part : Part). EachCut (FitsStill words) (unless_empty part) closed) (clear_same words object may count word)
          (each_cut-map (FitsStill closed) (FitsStill words) (unless_empty (clear_part closed object count word)) closed (λ image after. then words closed image still after)
          (clear_keeps closed object count word (closed_may_clear words object may))),
    )
