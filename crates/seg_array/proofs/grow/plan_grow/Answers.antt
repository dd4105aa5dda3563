use Rattle.std.proofs.Common.{◌∙◌, ℕ, ◌++◌, ap, arith}
use Rattle.pm_model.specs.Plans.{plan_of}
use Rattle.image_layout.specs.Arrays.{chunk_pages}
use Rattle.seg_array.specs.Growth.{publishing_parts}
use Rattle.seg_array.proofs.Planning.{header_in_image, most_chunks, planned_page, grown_planned}
use Rattle.seg_array.proofs.grow.plan_grow.Goals as goal

pub load-count-requires : goal.load-count-requires
load-count-requires g c = let there = header_in_image (g.M.Memory.device c.args.mem.now) (g.met.M.Memory.whole c.args.mem.now) c.args.heap.now c.args.lane c.args.header.0 c.requires in omega (arith, there)

pub overflow_cast-count : goal.overflow_cast-count
overflow_cast-count g c = let most = most_chunks (g.M.Memory.device c.args.mem.now) (g.met.M.Memory.whole c.args.mem.now) c.args.heap.now c.args.lane c.args.header.0 c.requires in omega (arith, most, c.load-count.ensures)

pub push_chunk-requires-clause-not_full : goal.push_chunk-requires-clause-not_full
push_chunk-requires-clause-not_full g c = let most = most_chunks (g.M.Memory.device c.args.mem.now) (g.met.M.Memory.whole c.args.mem.now) c.args.heap.now c.args.lane c.args.header.0 c.requires in omega (arith, most, c.load-count.ensures, c.if-count-eq-MAX_CHUNKS.false)

pub push_publishing-requires-clause-pages : goal.push_publishing-requires-clause-pages
push_publishing-requires-clause-pages g c =
    let same = ap chunk_pages c.load-count.ensures in
    let within = planned_page (g.M.Memory.device c.args.mem.now) (g.met.M.Memory.whole c.args.mem.now) c.args.heap.now c.args.lane c.args.header.0 c.requires c.args.heap.now c.push_chunk.new.heap c.in_ok-first.first c.in_ok-plan.plan.left c.push_chunk.new.plan.left c.in_ok-first.ensures.planned in
    omega (arith, same, within)

pub returns-clause-planned : goal.returns-clause-planned
returns-clause-planned g c =
    grown_planned (g.M.Memory.device c.args.mem.now).cached c.args.heap.now c.push_chunk.new.heap c.args.lane c.args.header.0 c.in_ok-first.first c.in_ok-plan.plan.left c.push_chunk.new.plan.left c.in_ok-plan.ensures.empty c.in_ok-first.ensures.planned c.push_publishing.new.plan.left
    (c.push_publishing.ensures ∙ ap (λ (n : ℕ). c.push_chunk.new.plan.left ++ plan_of (publishing_parts c.args.header.0 n c.in_ok-first.first (chunk_pages n))) c.load-count.ensures)
