use Rattle.std.proofs.Common.{ℕ, List, arith, subst, sym}
use Rattle.heap_palloc.specs.Calls.{IsAllocated, MayCall}
use Rattle.fp_tree.proofs.Granted.{few_actions, may_call, record_within}
use Rattle.fp_tree.proofs.new_leaf.push_leaf.Goals as goal

pub new_leaf-requires : goal.new_leaf-requires
new_leaf-requires g c =
    let whole = g.met.M.Memory.whole c.args.mem.now in
    let within = record_within (g.M.Memory.device c.args.mem.now).cached whole.segments whole.one_or_more c.args.column.0 c.args.heap.now c.args.lane c.requires.may in
    omega (arith, within, whole.most)

pub plan_allocate-requires-clause-may : goal.plan_allocate-requires-clause-may
plan_allocate-requires-clause-may g c =
    let words : List ℕ = (g.M.Memory.device c.args.mem.now).cached in
    let whole = g.met.M.Memory.whole c.args.mem.now in
    subst (λ (at : ℕ). MayCall words c.args.heap.now c.args.lane at) (sym c.new_leaf.ensures)
    (may_call words whole.segments whole.one_or_more c.args.column.0 c.args.heap.now c.args.lane c.requires.may)

pub append-requires : goal.append-requires
append-requires g c =
    let words : List ℕ = (g.M.Memory.device c.args.mem.now).cached in
    let whole = g.met.M.Memory.whole c.args.mem.now in
    let made = subst (λ (at : ℕ). IsAllocated words c.args.heap.now c.plan_allocate.new.heap c.args.lane at 104 c.in_ok-allocation.allocation.left c.in_ok-allocation.block.first.0 c.in_ok-allocation.block.words) c.new_leaf.ensures c.in_ok-allocation.ensures.allocated in
    let few = few_actions words whole.segments whole.one_or_more c.args.column.0 c.args.heap.now c.args.lane c.requires.may c.plan_allocate.new.heap c.in_ok-allocation.allocation.left c.in_ok-allocation.block.first.0 c.in_ok-allocation.block.words made in
    omega (arith, few, c.requires.room)

pub returns-clause-allocated : goal.returns-clause-allocated
returns-clause-allocated g c =
    let words : List ℕ = (g.M.Memory.device c.args.mem.now).cached in
    record {
      left = c.in_ok-allocation.allocation.left;
      size = c.in_ok-allocation.block.words;
      allocated = subst (λ (at : ℕ). IsAllocated words c.args.heap.now c.plan_allocate.new.heap c.args.lane at 104 c.in_ok-allocation.allocation.left c.in_ok-allocation.block.first.0 c.in_ok-allocation.block.words) c.new_leaf.ensures c.in_ok-allocation.ensures.allocated;
      plan_is = c.append.ensures.left;
    }

pub returns-clause-spare : goal.returns-clause-spare
returns-clause-spare g c =
    let words : List ℕ = (g.M.Memory.device c.args.mem.now).cached in
    let whole = g.met.M.Memory.whole c.args.mem.now in
    let made = subst (λ (at : ℕ). IsAllocated words c.args.heap.now c.plan_allocate.new.heap c.args.lane at 104 c.in_ok-allocation.allocation.left c.in_ok-allocation.block.first.0 c.in_ok-allocation.block.words) c.new_leaf.ensures c.in_ok-allocation.ensures.allocated in
    let few = few_actions words whole.segments whole.one_or_more c.args.column.0 c.args.heap.now c.args.lane c.requires.may c.plan_allocate.new.heap c.in_ok-allocation.allocation.left c.in_ok-allocation.block.first.0 c.in_ok-allocation.block.words made in
    omega (arith, few, c.append.ensures.spare)
