use Rattle.std.proofs.Common.{◌+◌, ◌∙◌, ℕ, List, ap, arith}
use Rattle.std.specs.Prelude.{None}
use Rattle.heap_small.specs.Bitmap.{with_bit}
use Rattle.pm_model.proofs.Lines.{part_has_room}
use Rattle.tree_cuts.specs.Insertion.{Insertion}
use Rattle.fp_tree.proofs.PutIn.{inserted_left, part_spare, pushed_size}
use Rattle.fp_tree.proofs.inserting.push_insertion.Goals as goal

pub end_part-requires-clause-count : goal.end_part-requires-clause-count
end_part-requires-clause-count g c =
    let words : List ℕ = (g.M.Memory.device c.args.mem.now).cached in
    let pair : Insertion = record { leaf = c.args.pair.leaf.0; slot = c.args.pair.slot; key = c.args.pair.key; code = c.args.pair.code; lead = None } in
    let size = pushed_size words pair c.args.pair.print c.args.plan.now.left c.push_pair.new.plan.left c.push_pair.ensures.left in
    omega (arith, size, c.requires.count)

pub end_part-requires-clause-room : goal.end_part-requires-clause-room
end_part-requires-clause-room g c =
    part_has_room c.push_pair.new.plan.left (c.args.led + 3) c.push_pair.new.plan.spare (end_part-requires-clause-count g c) (omega (arith, c.push_pair.ensures.spare, c.requires.room))

pub push_store-requires : goal.push_store-requires
push_store-requires g c =
    let words : List ℕ = (g.M.Memory.device c.args.mem.now).cached in
    let pair : Insertion = record { leaf = c.args.pair.leaf.0; slot = c.args.pair.slot; key = c.args.pair.key; code = c.args.pair.code; lead = None } in
    let size = pushed_size words pair c.args.pair.print c.args.plan.now.left c.push_pair.new.plan.left c.push_pair.ensures.left in
    let rest = part_spare c.push_pair.new.plan.left (c.args.led + 3) c.push_pair.new.plan.spare c.end_part.new.self.spare (omega (arith, size, c.requires.count)) c.end_part.ensures.spare in
    omega (arith, rest, c.push_pair.ensures.spare, c.requires.room)

pub returns : goal.returns
returns g c = λ old lead plan_is counted.
    inserted_left (g.M.Memory.device c.args.mem.now).cached (record { leaf = c.args.pair.leaf.0; slot = c.args.pair.slot; key = c.args.pair.key; code = c.args.pair.code; lead = lead }) c.args.pair.print c.requires.print
    old c.args.plan.now.left c.push_pair.new.plan.left c.end_part.new.self.left c.push_store.new.self.left c.args.led c.with.result
    plan_is counted c.push_pair.ensures.left c.end_part.ensures.left c.push_store.ensures.left (c.with.ensures.value ∙ ap (λ (n : ℕ). with_bit n c.args.pair.slot) c.load.ensures)
