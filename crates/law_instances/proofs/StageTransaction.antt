-- One transaction with one entry in an object of a stage image, over formatted words.
use Rattle.std.proofs.Common.{◌≡◌, inr, ℕ, ◌+◌, ◌<◌, ◌≤◌, List, [], length, get_or, ap, arith, false}
use Rattle.image_layout.specs.Fixed.{state_at, commit_word_at, entry_at}
use Rattle.image_layout.specs.Fresh.{fresh_words}
use Rattle.image_layout.proofs.FreshImage.{length-fresh_words}
use Rattle.txn_object.specs.declared.entry.Entry.{Entry}
use Rattle.txn_object.specs.Changes.{IsSpelt}
use Rattle.stage_object.specs.Changes.{begun, with_entry, no_transaction, ClearsAll, ClearsCommit, IsBegun, IsEntered, IsRetiredBy, MayBeRetired}
use Rattle.stage_object.specs.Object.{entries_in}
use Rattle.stage_object.specs.Shown.{HasObject, MayAddEntry, NoEntryFollowsZero, Shows}
use Rattle.stage_object.proofs.ChangesHold.{begin_holds, entry_holds, retire_holds}
use Rattle.stage_object.proofs.EntryWords.{entries_in-none}
use Rattle.stage_object.proofs.Retire.{retire_empty, retire_shows}
use Rattle.law_instances.specs.OneTransaction.{IsFresh, begun_words, first_entry, one_retired}
use Rattle.law_instances.specs.StageTransaction.{staged_words, unstaged_words}
use Rattle.law_instances.proofs.FreshWords.{fresh_zero}

module _ (segments object : ℕ) (is : IsFresh segments object) where
  number : object < 16
  number = let n = is.number in omega (arith, n)

  zero_at : (w : ℕ) → 514 ≤ w → w < 2048 → get_or (fresh_words segments) w 0 ≡ 0
  zero_at = fresh_zero segments is.some

  entry_zero : (nth : ℕ) → nth < 60 → get_or (fresh_words segments) (entry_at object nth) 0 ≡ 0
  entry_zero nth lt = zero_at (entry_at object nth) (omega arith) (omega (arith, number, lt))

  no_entries : entries_in (fresh_words segments) object ≡ []
  no_entries = entries_in-none (fresh_words segments) object (entry_zero 0 (omega arith))

  pub has_object : HasObject (fresh_words segments) object
  has_object = record { number = number; size = let some = is.some in omega (arith, some, length-fresh_words segments) }

  pub none_shown : Shows (fresh_words segments) object no_transaction
  none_shown = record {
    state = zero_at (state_at object) (omega arith) (omega (arith, number));
    commit_word = zero_at (commit_word_at object) (omega arith) (omega (arith, number));
    entries = no_entries;
  }

  is_begun : IsBegun object (fresh_words segments) (begun_words segments object)
  is_begun = (begin_holds object).end (fresh_words segments) has_object

  pub begun_shown : Shows (begun_words segments object) object (begun no_transaction)
  begun_shown = is_begun.shows no_transaction none_shown

  module _ (entry : Entry) (spelt : IsSpelt entry) where
    pub enters : MayAddEntry (begun_words segments object) object 0 entry
    enters = is_begun.next 0 entry (record {
      is_object = has_object;
      count = ap (λ (l : List Entry). length l) no_entries;
      room = omega arith;
      packed = λ nth lt none. entry_zero (nth + 1) lt;
      table = spelt.table;
      row = spelt.row;
    })

    is_entered : IsEntered (first_entry object entry) (begun_words segments object) (staged_words segments object entry)
    is_entered = (entry_holds (first_entry object entry)).end (begun_words segments object) enters

    pub entered_shown : Shows (staged_words segments object entry) object (with_entry (begun no_transaction) entry)
    entered_shown = is_entered.shows (begun no_transaction) begun_shown

    pub packed : NoEntryFollowsZero (staged_words segments object entry) object
    packed = is_entered.packed

    pub retires : MayBeRetired (staged_words segments object entry) (one_retired object)
    retires = record {
      is_object = record {
        number = number;
        size = let had = enters.is_object.size in let kept = is_entered.size in omega (arith, had, kept);
      };
      most = omega arith;
    }

    pub clears : ClearsAll (staged_words segments object entry) (one_retired object)
    clears = let count = ap (λ (l : List Entry). length l) entered_shown.entries in omega (arith, count)

    pub commit : ClearsCommit (staged_words segments object entry) (one_retired object)
    commit = inr entered_shown.commit_word

    is_retired : IsRetiredBy (one_retired object) (staged_words segments object entry) (unstaged_words segments object entry)
    is_retired = (retire_holds (one_retired object)).end (staged_words segments object entry) retires

    pub over : Shows (unstaged_words segments object entry) object no_transaction
    over = retire_shows object 1 false (staged_words segments object entry) (unstaged_words segments object entry) is_retired clears commit

    pub again : (other : Entry) → IsSpelt other → MayAddEntry (unstaged_words segments object entry) object 0 other
    again other says = record {
      is_object = record {
        number = number;
        size = let had = retires.is_object.size in let kept = is_retired.size in omega (arith, had, kept);
      };
      count = ap (λ (l : List Entry). length l) over.entries;
      room = omega arith;
      packed = λ nth lt none. retire_empty object 1 false (staged_words segments object entry) (unstaged_words segments object entry) is_retired clears (nth + 1) packed lt;
      table = says.table;
      row = says.row;
    }
