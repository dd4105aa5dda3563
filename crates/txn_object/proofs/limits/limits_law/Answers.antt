use Rattle.std.proofs.Common.{◌≡◌, ℕ, ◌≤◌, not, eqb, List, length, get_or, refl, arith}
use Rattle.std.proofs.lemmas.List.{length-map}
use Rattle.std.proofs.lemmas.List.Filters.{length-filter_both}
use Rattle.image_layout.specs.Objects.{entry_places, entries}
use Rattle.txn_object.specs.Entries.{entry_of}
use Rattle.txn_object.specs.Object.{entries_in}
use Rattle.txn_object.specs.Shown.{HasObject}
use Rattle.txn_object.proofs.Rule.{at_most_32}
use Rattle.txn_object.proofs.Walk.{words_at}
use Rattle.txn_object.proofs.Places.{length-entry_places}
use Rattle.txn_object.proofs.limits.limits_law.Goals as goal

-- no more entries than places
few : (words : List ℕ) (object : ℕ) → length (entries words object) ≤ length (entry_places words object)
few words object =
    let both = length-filter_both (λ (word : ℕ). not (eqb word 0)) (λ (word : ℕ). not (not (eqb word 0))) (λ x. refl) (words_at words (entry_places words object)) in
    let all = length-map (entry_places words object) (λ w. get_or words w 0) in
    omega (arith, both, all)

writes : (words : List ℕ) (object : ℕ) → HasObject words object → length (entries_in words object) ≤ 8220
writes words object has =
    let size : length (entries_in words object) ≡ length (entries words object) = length-map (entries words object) entry_of in
    omega (arith, size, few words object, length-entry_places words object, at_most_32 words object has.rule)

pub returns : goal.returns
returns c = record {
  places = length-entry_places;
  segments = λ words object has. at_most_32 words object has.rule;
  writes = writes;
  all = λ words object ready. let all = length-entry_places words object in omega (arith, all, ready);
}
