use Rattle.std.proofs.Common.{arith}
use Rattle.heap_palloc.proofs.Scans.{small_segment, values_segment}
use Rattle.heap_palloc.proofs.reading.scan_pages.Goals as goal

pub loop-segment-preserved : goal.loop-segment-preserved
loop-segment-preserved g c =
    let inv = c.loop-segment.invariant in
    let made = c.scan_segment.ensures in
    let values = values_segment (g.M.Memory.device c.args.mem.now).cached c.loop-segment.segment 64 c.loop-segment.scan.descriptors.items c.scan_segment.new.scan.descriptors.items inv.descriptors made.descriptors in
    record {
      descriptors = values;
      small = small_segment (g.M.Memory.device c.args.mem.now).cached c.loop-segment.segment 64 c.loop-segment.scan.small.items c.scan_segment.new.scan.small.items inv.small made.small;
      length = omega (arith, inv.length, made.length);
      more = omega (arith, inv.more, made.more);
      capacity = omega (arith, inv.capacity, made.capacity);
      small_capacity = omega (arith, inv.small_capacity, made.small_capacity);
    }
