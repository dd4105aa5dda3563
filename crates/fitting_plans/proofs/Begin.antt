-- A begin keeps what fits together, and shows the same.
use Rattle.std.proofs.Common.{◌≡◌, inl, inr, ⊎_elim, ℕ, eqb, List, get_or, set, sym, ◌∙◌, ap, subst, arith}
use Rattle.std.proofs.lemmas.Bool.{cases_eq}
use Rattle.std.proofs.lemmas.List.{length-set}
use Rattle.std.proofs.lemmas.List.Elements.{All-contains}
use Rattle.pm_model.specs.Plans.{EachCut}
use Rattle.pm_model.proofs.Cuts.{cut-one_store}
use Rattle.image_layout.specs.Fixed.{last_at, state_at}
use Rattle.image_layout.specs.Objects.{entry_places}
use Rattle.shown_state.specs.OpeningParts.{FitsStill}
use Rattle.opening_steps.proofs.Closer.{state_low}
use Rattle.opening_steps.proofs.ObjectWords.{objects_only, of_own}
use Rattle.opening_steps.proofs.Silent.{GoesOn, IsSilent, silent, silent_still, stays}
use Rattle.txn_object.specs.Object.{begin_parts}
use Rattle.fitting_plans.specs.Transactions.{IsObjectOf, MayBegin}
use Rattle.fitting_plans.proofs.Storing.{as_it_is, commit_other, entry_other, here, other, state_other}

module _ (words : List ℕ) (object : ℕ) (may : MayBegin words object) where
  abbrev its : IsObjectOf words object
  its = may.its

  opened : IsSilent words (set words (state_at object) 1)
  opened = record {
    only = objects_only words its.fits (set words (state_at object) 1) (length-set words (state_at object) 1)
        (λ w. ⊎_elim (λ e. inr (of_own object 0 its.number (omega arith) (λ two. omega (arith, two)) (λ three. omega (arith, three)) e)) (λ apart. inl (other words object 1 its w apart)) (cases_eq w (state_at object)));
    last = other words object 1 its last_at (λ e. omega (arith, e));
    states = λ one lt. ⊎_elim
        (λ (e : one ≡ object). let at = here words object 1 its in let state = ap (λ (o : ℕ). get_or (set words (state_at object) 1) (state_at o) 0) e in omega (arith, at, state))
        (λ apart. let same = state_other words object 1 its one apart in let low = state_low words its.fits one lt in omega (arith, same, low)) (cases_eq one object);
    commits = λ one lt. inl (commit_other words object 1 its one);
    each = λ one lt. ⊎_elim
        (λ (e : one ≡ object). subst (GoesOn words (set words (state_at object) 1)) (sym e) (silent
        (λ opens. record { commit = may.unset; none = λ at is. All-contains (λ a. get_or words a 0 ≡ 0) (entry_places words object) at may.none is })
        (λ opens. record { commit = commit_other words object 1 its object ∙ may.unset; none = λ at is. entry_other words object 1 its object at its.number is ∙ All-contains (λ a. get_or words a 0 ≡ 0) (entry_places words object) at may.none is })))
        (λ apart. stays (ap (λ (state : ℕ). eqb state 1) (state_other words object 1 its one apart)) (λ opens. (commit_other words object 1 its one, λ at is. entry_other words object 1 its one at lt is)))
        (cases_eq one object);
  }

pub begin_keeps : (words : List ℕ) (object : ℕ) → MayBegin words object → EachCut (FitsStill words) (begin_parts object) words
begin_keeps words object may =
    let its = may.its in
    let still = silent_still words (set words (state_at object) 1) its.image its.fits (opened words object may) in
    (cut-one_store (FitsStill words) (state_at object) 1 words (as_it_is words its.fits) still, still)
