use Rattle.std.proofs.Common.{◌∙◌, arith}
use Rattle.shown_state.specs.Mending.{undo_entry}
use Rattle.pmem_recover.specs.Changes.{change_part}
use Rattle.pmem_recover.proofs.Undoing.{stamps-next}
use Rattle.pmem_recover.proofs.undo.push_stamps.Goals as goal

pub loop-at-preserved : goal.loop-at-preserved
loop-at-preserved g c =
    let words = (g.M.Memory.device c.args.mem.now).cached in
    record {
      part = stamps-next words (undo_entry words) c.args.entries.now c.loop-at.at-index _ c.load.result (change_part c.loop-at.changes.items) (change_part c.push_stamp.new.changes.items) c.loop-at-test.true c.load.ensures
          c.loop-at.invariant.part c.push_stamp.ensures.part;
      within = c.push_stamp.ensures.within c.loop-at.invariant.within;
      len = omega (arith, c.push_stamp.ensures.len, c.loop-at.invariant.len);
      capacity = c.push_stamp.ensures.capacity ∙ c.loop-at.invariant.capacity;
    }
