use Rattle.std.proofs.Common.{◌≡◌, ℕ, ◌++◌, map, ◌∙◌, ap, arith}
use Rattle.std.specs.Prelude.{filter}
use Rattle.image_layout.specs.Records.{segment_entry_at}
use Rattle.image_layout.specs.Places.{below}
use Rattle.pmem_recover.specs.Filled.{is_filled, places_of}
use Rattle.pmem_recover.proofs.Gathered.{gather-next, gather-none}
use Rattle.pmem_recover.proofs.entries.push_segment.Goals as goal

pub loop-entry-init : goal.loop-entry-init
loop-entry-init g c = record { places = gather-none (is_filled (g.M.Memory.device c.args.mem.now).cached) (places_of c.args.filled.now.items); few = omega arith }

pub loop-entry-preserved : goal.loop-entry-preserved
loop-entry-preserved g c = record {
  places = gather-next (is_filled (g.M.Memory.device c.args.mem.now).cached) (segment_entry_at c.args.segment.0) c.loop-entry.entry c.segment_entry.result.0 (places_of c.args.filled.now.items) (places_of c.loop-entry.filled.items) (places_of c.push_filled.new.filled.items)
      c.segment_entry.ensures c.loop-entry.invariant.places c.in_ok-push_filled.ensures.places;
  few = omega (arith, c.in_ok-push_filled.ensures.few, c.loop-entry.invariant.few);
}

pub returns-clause-places : goal.returns-clause-places
returns-clause-places g c =
    let end : c.loop-entry.entry ≡ 255 = omega arith in
    c.loop-entry.invariant.places ∙ ap (λ (n : ℕ). places_of c.args.filled.now.items ++ filter (is_filled (g.M.Memory.device c.args.mem.now).cached) (map (segment_entry_at c.args.segment.0) (below n))) end
