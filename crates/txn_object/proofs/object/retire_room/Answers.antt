use Rattle.std.proofs.Common.{◌≡◌, ◌⊎◌, inl, inr, ⊎_elim, ◌<◌, ◌≤◌, ◌+◌, ◌*◌, ℕ, Bool, true, false, List, length, cond, refl, arith}
use Rattle.std.proofs.lemmas.Bool.{cases_lt}
use Rattle.pm_model.specs.Plans.{plan_of}
use Rattle.image_layout.specs.Objects.{entry_places}
use Rattle.pm_model.proofs.Lines.{part_length}
use Rattle.txn_object.specs.Object.{clear_part, retire_parts}
use Rattle.txn_object.proofs.Clears.{length-clear_part, retire_length_some, retire_length_none, bit_is}
use Rattle.txn_object.proofs.object.retire_room.Goals as goal

some_room : (words : List ℕ) (object entries : ℕ) (word : Bool) → entries ≤ length (entry_places words object) → (0 < entries) ⊎ ((entries ≤ 0) × (word ≡ true))
    → length (plan_of (retire_parts words object entries word)) ≤ 3 + 2 * (entries + cond word 1 0) + 1
some_room words object entries word le some =
    let all = retire_length_some words object entries word le some in
    let most = part_length (clear_part words object entries word) in
    let size = length-clear_part words object entries word le in
    omega (arith, all, most, size)

room : (words : List ℕ) (object entries : ℕ) (word : Bool) (bit : ℕ) → entries ≤ length (entry_places words object) → bit ≡ cond word 1 0 → length (plan_of (retire_parts words object entries word)) ≤ 3 + 2 * (entries + bit) + 1
room words object entries word bit le is = ⊎_elim
    (λ some. let most = some_room words object entries word le (inl some) in omega (arith, most, is))
    (λ none. by_word word refl none)
    (cases_lt 0 entries)
  where
    by_word : (b : Bool) → word ≡ b → entries ≤ 0 → length (plan_of (retire_parts words object entries word)) ≤ 3 + 2 * (entries + bit) + 1
    by_word true set none = let most = some_room words object entries word le (inr (none, set)) in omega (arith, most, is)
    by_word false unset none = let all = retire_length_none words object entries word none unset in omega (arith, all)

pub returns-clause-enough : goal.returns-clause-enough
returns-clause-enough c = λ words object le. room words object c.args.entries c.args.word c.from.result le (let one = bit_is c.args.word in omega (arith, c.from.ensures, one))

pub returns-clause-exact : goal.returns-clause-exact
returns-clause-exact c = let one = bit_is c.args.word in omega (arith, c.from.ensures, one)
