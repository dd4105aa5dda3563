-- A rule is kept where the function that tries it finds nothing.
use Rattle.std.proofs.Common.{◌≡◌, ℕ, false, List}
use Rattle.std.specs.Prelude.{Option}
use Rattle.std.specs.Option.{is_some}
use Rattle.image_layout.specs.Checks.{Rule, Keeps, first_failing}
use Rattle.image_layout.proofs.Faults.{all_hold}
use Rattle.image_rules.proofs.Firsts.{found_none}

pub kept : (words : List ℕ) (rule : Rule) (found : Option ℕ) → found ≡ first_failing (rule words) → is_some found ≡ false → Keeps words rule
kept words rule found here none = record { checks = all_hold (rule words) (found_none found (first_failing (rule words)) here none) }
