use Rattle.std.proofs.Common.{◌≡◌, ◌≤◌, ◌+◌, ◌%◌, ◌++◌, ◌∙◌, ℕ, List, ap, sym, arith}
use Rattle.std.specs.List.{range_with_len}
use Rattle.pm_model.specs.declared.action.Action.{Action}
use Rattle.pm_model.specs.Plans.{stores}
use Rattle.txn_object.specs.Extension.{zero_part}
use Rattle.txn_object.proofs.Clears.{Ends, ends_part}
use Rattle.txn_object.proofs.Lines.{length-zero_part, zero_part-actions, zeros_are, readied}
use Rattle.txn_object.proofs.extend.push_readying.Goals as goal

ends_here : (segment : ℕ) (old left : List Action) (spare all : ℕ) → segment % 8 ≡ 0 → left ≡ old ++ stores 0 (range_with_len segment 256) → spare + 256 ≡ all → 292 ≤ all → Ends old left (zero_part segment) spare 256
ends_here segment old left spare all line is used room =
    let size = length-zero_part segment in let actions = zero_part-actions segment line in
    ends_part old left (zero_part segment) spare all 256 (zeros_are segment old left is) (sym size) (ap (λ (n : ℕ). spare + n) size ∙ used) (omega (arith, actions, room))

pub end_part-requires-clause-count : goal.end_part-requires-clause-count
end_part-requires-clause-count c =
    (ends_here c.args.segment.0 c.args.plan.now.left c.push_zeros.new.plan.left c.push_zeros.new.plan.spare c.args.plan.now.spare c.requires.line c.push_zeros.ensures.left c.push_zeros.ensures.spare c.requires.room).within

pub end_part-requires-clause-room : goal.end_part-requires-clause-room
end_part-requires-clause-room c =
    (ends_here c.args.segment.0 c.args.plan.now.left c.push_zeros.new.plan.left c.push_zeros.new.plan.spare c.args.plan.now.spare c.requires.line c.push_zeros.ensures.left c.push_zeros.ensures.spare c.requires.room).room

pub push_store-requires : goal.push_store-requires
push_store-requires c =
    let ends = ends_here c.args.segment.0 c.args.plan.now.left c.push_zeros.new.plan.left c.push_zeros.new.plan.spare c.args.plan.now.spare c.requires.line c.push_zeros.ensures.left c.push_zeros.ensures.spare c.requires.room in
    let actions = zero_part-actions c.args.segment.0 c.requires.line in
    let size = length-zero_part c.args.segment.0 in
    omega (arith, ends.size, actions, size, c.end_part.ensures.spare, c.push_zeros.ensures.spare, c.requires.room)

pub returns : goal.returns
returns c =
    readied c.args.object c.args.count c.args.segment.0 c.ready_segments.result.0 c.from.result c.args.plan.now.left c.end_part.new.self.left c.push_store.new.self.left c.ready_segments.ensures c.from.ensures
    (c.end_part.ensures.left ∙ (ends_here c.args.segment.0 c.args.plan.now.left c.push_zeros.new.plan.left c.push_zeros.new.plan.spare c.args.plan.now.spare c.requires.line c.push_zeros.ensures.left c.push_zeros.ensures.spare c.requires.room).part_is)
    c.push_store.ensures.left
