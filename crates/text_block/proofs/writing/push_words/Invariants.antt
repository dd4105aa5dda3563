use Rattle.std.proofs.Common.{◌≡◌, ◌+◌, ◌++◌, ◌∷◌, length, map}
use Rattle.std.specs.List.{range_with_len}
use Rattle.shown_state.specs.Mending.{fill_from}
use Rattle.shown_state.specs.Packed.{packed_word}
use Rattle.text_block.proofs.writing.push_words.Given as goal

abbrev pub invariant-loop-word : goal.invariant-loop-word
invariant-loop-word l = record {
  left : l.plan.left ≡ l.fn.plan.left ++ fill_from l.at.0 (length l.bytes ∷ map (packed_word l.bytes) (range_with_len 0 l.word));
  spare : l.plan.spare + 1 + l.word ≡ l.fn.plan.spare;
}
