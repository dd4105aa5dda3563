use Rattle.std.proofs.Common.{◌≡◌, ℕ, ◌++◌, map, ◌∙◌, ap, arith}
use Rattle.std.specs.Prelude.{filter}
use Rattle.image_layout.specs.Fixed.{entry_at}
use Rattle.image_layout.specs.Places.{below}
use Rattle.pmem_recover.specs.Filled.{is_filled, places_of}
use Rattle.pmem_recover.proofs.Gathered.{gather-next, gather-none}
use Rattle.pmem_recover.proofs.entries.push_own.Goals as goal

pub loop-entry-init : goal.loop-entry-init
loop-entry-init g c = record { places = gather-none (is_filled (g.M.Memory.device c.args.mem.now).cached) (places_of c.args.filled.now.items); few = omega arith }

pub loop-entry-preserved : goal.loop-entry-preserved
loop-entry-preserved g c = record {
  places = gather-next (is_filled (g.M.Memory.device c.args.mem.now).cached) (entry_at c.args.object) c.loop-entry.entry c.entry_word.result.0 (places_of c.args.filled.now.items) (places_of c.loop-entry.filled.items) (places_of c.push_filled.new.filled.items)
      c.entry_word.ensures c.loop-entry.invariant.places c.in_ok-push_filled.ensures.places;
  few = omega (arith, c.in_ok-push_filled.ensures.few, c.loop-entry.invariant.few);
}

pub returns-clause-places : goal.returns-clause-places
returns-clause-places g c =
    let end : c.loop-entry.entry ≡ 60 = omega arith in
    c.loop-entry.invariant.places ∙ ap (λ (n : ℕ). places_of c.args.filled.now.items ++ filter (is_filled (g.M.Memory.device c.args.mem.now).cached) (map (entry_at c.args.object) (below n))) end
