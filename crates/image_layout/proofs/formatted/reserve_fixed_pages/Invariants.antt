use Rattle.std.proofs.Common.{◌≡◌, ℕ, cond, ltb, get_or}
use Rattle.image_layout.proofs.formatted.reserve_fixed_pages.Given as goal

abbrev pub invariant-loop-page : goal.invariant-loop-page
invariant-loop-page l = (w : ℕ) → get_or l.words w 0 ≡ cond (ltb w l.page) 8 (get_or l.fn.words w 0)
