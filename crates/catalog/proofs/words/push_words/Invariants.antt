use Rattle.std.proofs.Common.{◌≡◌, ◌+◌, ◌++◌, take}
use Rattle.shown_state.specs.Mending.{fill_from}
use Rattle.catalog.proofs.words.push_words.Given as goal

abbrev pub invariant-loop-index : goal.invariant-loop-index
invariant-loop-index l = record {
  left : l.plan.left ≡ l.fn.plan.left ++ fill_from l.first.0 (take l.index l.values);
  spare : l.plan.spare + l.index ≡ l.fn.plan.spare;
}
