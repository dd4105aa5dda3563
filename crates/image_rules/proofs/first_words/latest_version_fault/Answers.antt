use Rattle.std.proofs.Common.{ℕ, eqb, not, get_or, ◌∙◌, ap}
use Rattle.std.specs.Bool.{then_some}
use Rattle.image_layout.specs.SoundRules.{latest_version_rule}
use Rattle.image_rules.proofs.Firsts.{lone}
use Rattle.image_rules.proofs.first_words.latest_version_fault.Goals as goal

pub returns : goal.returns
unfolding latest_version_rule
returns c =
    c.then_some.ensures ∙ ap (λ (p : ℕ). then_some (not (eqb (get_or c.args.words.now p 0) 2)) p) c.version-place.ensures
    ∙ lone 513 (eqb (get_or c.args.words.now 513 0) 2)
