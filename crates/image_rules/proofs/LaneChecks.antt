-- The first lane that isn't sound.
use Rattle.std.proofs.Common.{◌≡◌, ℕ, ◌+◌, ◌<◌, true, false, List, map, refl, sym, ◌∙◌, ap}
use Rattle.std.specs.Prelude.{None, Some, filter}
use Rattle.image_layout.specs.Fixed.{lane_op_at}
use Rattle.image_layout.specs.Places.{below}
use Rattle.image_layout.specs.Checks.{check, first_failing}
use Rattle.image_layout.specs.HeapRules.{lane_rule, is_lane}
use Rattle.image_rules.proofs.Faults.{first_none, first_some, each_more, filter-all}

module _ (words : List ℕ) where
  abbrev pub LanesBelow : ℕ → Type 0
  LanesBelow lane = (x : ℕ) → x < lane → is_lane words x ≡ true

  all_lanes : first_failing (lane_rule words) ≡ first_failing (map (λ x. check (lane_op_at x) (is_lane words x)) (filter (λ x. true) (below 16)))
  unfolding lane_rule
  all_lanes = ap (λ (xs : List ℕ). first_failing (map (λ x. check (lane_op_at x) (is_lane words x)) xs)) (sym (filter-all (below 16)))

  pub lanes_none : LanesBelow 16 → first_failing (lane_rule words) ≡ None
  lanes_none each = all_lanes ∙ first_none lane_op_at (is_lane words) (λ x. true) 16 (λ x lt spoken. each x lt)

  pub lanes_some : (lane place : ℕ) → place ≡ lane_op_at lane → lane < 16 → LanesBelow lane → is_lane words lane ≡ false → first_failing (lane_rule words) ≡ Some place
  lanes_some lane place at lt each fails =
      all_lanes ∙ first_some lane_op_at (is_lane words) (λ x. true) 16 lane lt (λ x low spoken. each x low) refl fails ∙ ap (λ (p : ℕ). Some p) (sym at)

  pub lanes_more : (lane : ℕ) → LanesBelow lane → is_lane words lane ≡ true → LanesBelow (lane + 1)
  lanes_more lane each here x lt = each_more lane_op_at (is_lane words) (λ y. true) lane (λ y low spoken. each y low) (λ spoken. here) x lt refl
