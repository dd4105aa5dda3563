use Rattle.std.proofs.Common.{◌++◌, List, ap, arith}
use Rattle.txn_object.specs.declared.entry.Entry.{Entry}
use Rattle.stage_object.specs.Object.{entries_from, entries_in}
use Rattle.stage_object.proofs.EntryWords.{entries_from-more}
use Rattle.stage_object.proofs.object.entries.Goals as goal

pub loop-nth-init : goal.loop-nth-init
unfolding entries_in
loop-nth-init g c = record {
  within = omega arith;
  room = omega (arith, c.in_ok-list.ensures.spare);
  joined = ap (λ (l : List Entry). l ++ entries_from (g.M.Memory.device c.args.mem.now).cached c.object_of-object.result 0 60) c.in_ok-list.ensures.entries;
}

pub loop-nth-preserved : goal.loop-nth-preserved
loop-nth-preserved g c = record {
  within = omega arith;
  room = omega (arith, c.push.ensures.spare);
  joined = entries_from-more (g.M.Memory.device c.args.mem.now).cached c.object_of-object.result c.loop-nth.nth c.entry_word.result.0 c.load-word.result
      c.loop-nth.list.entries c.push.new.self.entries _ c.of_word.result
      c.loop-nth-test.true c.entry_word.ensures c.load-word.ensures c.if-word-eq0.false c.of_word.ensures c.push.ensures.entries c.loop-nth.invariant.joined;
}
