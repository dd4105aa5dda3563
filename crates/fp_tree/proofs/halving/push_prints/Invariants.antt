use Rattle.std.proofs.Common.{◌≡◌, ◌+◌, ◌++◌, drop, map}
use Rattle.std.specs.List.{range_with_len}
use Rattle.shown_state.specs.Mending.{fill_from}
use Rattle.shown_state.specs.Packed.{packed_word}
use Rattle.fp_tree.specs.Halving.{key_prints}
use Rattle.fp_tree.proofs.halving.push_prints.Given as goal

abbrev pub invariant-loop-word : goal.invariant-loop-word
invariant-loop-word l = record {
  left : l.plan.left ≡ l.fn.plan.left ++ fill_from (l.new.0 + 2) (map (packed_word (key_prints (drop 24 l.sorted.pairs))) (range_with_len 0 l.word));
  spare : l.plan.spare + l.word ≡ l.fn.plan.spare;
}
