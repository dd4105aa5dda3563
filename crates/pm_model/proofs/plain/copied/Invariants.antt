use Rattle.std.proofs.Common.{◌≡◌, take, vec_capacity}
use Rattle.pm_model.proofs.plain.copied.Given as goal

abbrev pub invariant-loop-word : goal.invariant-loop-word
invariant-loop-word l = (l.copy.items ≡ take l.word-index l.fn.words) × (vec_capacity l.copy ≡ vec_capacity l.initial.copy)
