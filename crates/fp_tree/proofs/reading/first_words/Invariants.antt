use Rattle.std.proofs.Common.{◌≡◌, ℕ, ◌+◌, ◌<◌, length, get_or}
use Rattle.fp_tree.proofs.reading.first_words.Given as goal

abbrev pub invariant-loop-word : goal.invariant-loop-word
invariant-loop-word g l = record { size : length l.words ≡ 104; done : (k : ℕ) → k < l.word → get_or l.words k 0 ≡ get_or (g.M.Memory.device l.mem).cached (l.leaf.0 + k) 0 }
