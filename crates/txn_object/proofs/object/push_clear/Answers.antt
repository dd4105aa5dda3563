use Rattle.std.proofs.Common.{◌≡◌, ⊎_elim, ◌<◌, ◌≤◌, ◌+◌, ◌++◌, ◌∙◌, ℕ, Bool, List, length, cond, ap, sym, arith}
use Rattle.pm_model.specs.declared.action.Action.{Action}
use Rattle.image_layout.specs.Objects.{entry_places}
use Rattle.pm_model.specs.Plans.{part_actions}
use mir.Val.{bool_byte}
use Rattle.image_layout.specs.Checks.{Keeps}
use Rattle.image_layout.specs.EntryRules.{object_rule}
use Rattle.pm_model.proofs.Lines.{length-part_actions}
use Rattle.std.proofs.lemmas.Bool.{cases_lt}
use Rattle.txn_object.specs.Object.{clear_part}
use Rattle.txn_object.proofs.Rule.{at_most_32}
use Rattle.txn_object.proofs.Places.{length-entry_places}
use Rattle.txn_object.proofs.Clears.{Ends, ends_part, length-clear_part, bit_is, bit_most}
use Rattle.txn_object.proofs.object.push_clear.Goals as goal

-- the stores that it ends
ends_here : (words : List ℕ) (object entries : ℕ) (word : Bool) (old left : List Action) (spare all bit : ℕ) → entries ≤ length (entry_places words object) → left ≡ old ++ clear_part words object entries word
    → spare + (entries + cond word 1 0) ≡ all → length (part_actions (clear_part words object entries word)) ≤ all → bit ≡ bool_byte word → Ends old left (clear_part words object entries word) spare (entries + bit)
ends_here words object entries word old left spare all bit le is used room of =
    let size = length-clear_part words object entries word le in
    let one = of ∙ bit_is word in
    ends_part old left (clear_part words object entries word) spare all (entries + bit) is (ap (λ (n : ℕ). entries + n) one ∙ sym size) (ap (λ (n : ℕ). spare + n) size ∙ used) room

stores_fit : (words : List ℕ) (object entries : ℕ) (word : Bool) (all : ℕ) → entries ≤ length (entry_places words object) → length (part_actions (clear_part words object entries word)) ≤ all → entries + cond word 1 0 ≤ all
stores_fit words object entries word all le room =
    let size = length-clear_part words object entries word le in let actions = length-part_actions (clear_part words object entries word) in omega (arith, size, actions, room)

few : (words : List ℕ) (object entries : ℕ) → entries ≤ length (entry_places words object) → (60 < entries → Keeps words (object_rule object)) → entries ≤ 8220
few words object entries le rule = ⊎_elim
    (λ lt. let most = at_most_32 words object (rule lt) in let size = length-entry_places words object in omega (arith, le, most, size))
    (λ small. omega (arith, small))
    (cases_lt 60 entries)

pub overflow_add-entries : goal.overflow_add-entries
overflow_add-entries g c =
    let most = few (g.M.Memory.device c.args.mem.now).cached c.args.object c.args.entries c.requires.there c.requires.rule in
    let one = c.from.ensures ∙ bit_is c.args.word in
    let bit = bit_most c.args.word in
    omega (arith, most, one, bit)

pub push_clear_stores-requires-clause-room : goal.push_clear_stores-requires-clause-room
push_clear_stores-requires-clause-room g c = stores_fit (g.M.Memory.device c.args.mem.now).cached c.args.object c.args.entries c.args.word c.args.plan.now.spare c.requires.there c.requires.room

pub end_part-requires-clause-count : goal.end_part-requires-clause-count
end_part-requires-clause-count g c =
    (ends_here (g.M.Memory.device c.args.mem.now).cached c.args.object c.args.entries c.args.word c.args.plan.now.left c.push_clear_stores.new.plan.left c.push_clear_stores.new.plan.spare c.args.plan.now.spare c.from.result
    c.requires.there c.push_clear_stores.ensures.left c.push_clear_stores.ensures.spare c.requires.room c.from.ensures).within

pub end_part-requires-clause-room : goal.end_part-requires-clause-room
end_part-requires-clause-room g c =
    (ends_here (g.M.Memory.device c.args.mem.now).cached c.args.object c.args.entries c.args.word c.args.plan.now.left c.push_clear_stores.new.plan.left c.push_clear_stores.new.plan.spare c.args.plan.now.spare c.from.result
    c.requires.there c.push_clear_stores.ensures.left c.push_clear_stores.ensures.spare c.requires.room c.from.ensures).room

pub returns-clause-left : goal.returns-clause-left
returns-clause-left g c =
    c.end_part.ensures.left
    ∙ (ends_here (g.M.Memory.device c.args.mem.now).cached c.args.object c.args.entries c.args.word c.args.plan.now.left c.push_clear_stores.new.plan.left c.push_clear_stores.new.plan.spare c.args.plan.now.spare c.from.result
    c.requires.there c.push_clear_stores.ensures.left c.push_clear_stores.ensures.spare c.requires.room c.from.ensures).part_is

pub returns-clause-spare : goal.returns-clause-spare
returns-clause-spare g c =
    let size = (ends_here (g.M.Memory.device c.args.mem.now).cached c.args.object c.args.entries c.args.word c.args.plan.now.left c.push_clear_stores.new.plan.left c.push_clear_stores.new.plan.spare c.args.plan.now.spare c.from.result
    c.requires.there c.push_clear_stores.ensures.left c.push_clear_stores.ensures.spare c.requires.room c.from.ensures).size in
    let stores = length-clear_part (g.M.Memory.device c.args.mem.now).cached c.args.object c.args.entries c.args.word c.requires.there in
    omega (arith, size, stores, c.end_part.ensures.spare, c.push_clear_stores.ensures.spare)
