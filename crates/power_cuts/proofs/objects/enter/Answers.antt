use Rattle.std.proofs.Common.{ℕ, ◌+◌, arith}
use Rattle.txn_object.specs.declared.entry.Entry.{Entry}
use Rattle.txn_object.specs.declared.entry.EntryKind.TheVariants.{Created}
use Rattle.txn_object.proofs.TestEntries.{places_are, enter_plan, enter_played}
use Rattle.power_cuts.proofs.objects.enter.Goals as goal

abbrev entry_of_row : ℕ → Entry
entry_of_row row = record { kind = Created; table = 0; row = row }

pub push_entry-requires-clause-there : goal.push_entry-requires-clause-there
push_entry-requires-clause-there g c =
    let all = places_are (g.M.Memory.device c.args.memory.now) 1 c.args.row c.requires.entries in let lt = c.requires.there in omega (arith, all, lt)

pub play_whole-requires-clause-planned : goal.play_whole-requires-clause-planned
play_whole-requires-clause-planned g c =
    let lt = c.requires.there in
    enter_plan (g.M.Memory.device c.args.memory.now) 1 c.args.row (entry_of_row c.args.row) c.requires.entries (omega (arith, lt)) (omega arith) (omega (arith, lt))
    c.in_ok-plan.plan.left c.push_entry.new.plan.left c.in_ok-plan.ensures.empty c.push_entry.ensures.left

pub returns : goal.returns
returns g c =
    let lt = c.requires.there in
    enter_played (g.M.Memory.device c.args.memory.now) 1 c.args.row (entry_of_row c.args.row) c.requires.entries (omega (arith, lt)) (omega arith) (omega (arith, lt))
    c.in_ok-plan.plan.left c.push_entry.new.plan.left c.in_ok-plan.ensures.empty c.push_entry.ensures.left
    (g.M.Memory.device c.play_whole.new.memory) c.play_whole.ensures.words c.play_whole.ensures.clean
