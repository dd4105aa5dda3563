use Rattle.std.proofs.Common.{◌≡◌, ℕ, ◌*◌, ◌%◌, ◌&&◌, cond, eqb, ltb, get_or}
use Rattle.image_layout.proofs.formatted.reserve_first_pages.Given as goal

abbrev pub invariant-loop-segment : goal.invariant-loop-segment
invariant-loop-segment l = (w : ℕ) → get_or l.words w 0 ≡ cond (eqb (w % 32768) 0 && ltb w (32768 * l.segment)) 8 (get_or l.fn.words w 0)
