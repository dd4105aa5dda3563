use Rattle.std.proofs.Common.{List, ℕ, ap, sym, subst}
use Rattle.pm_model.specs.Device.{Device}
use Rattle.catalog.specs.Entries.{KeepsTableRules}
use Rattle.tree_ground.proofs.Created.{fresh_keeps}
use Rattle.tree_ground.proofs.column.empty_column.Goals as goal

pub rebuild-requires : goal.rebuild-requires
rebuild-requires c = subst (λ (words : List ℕ). KeepsTableRules words) (sym (ap (λ (d : Device). d.cached) c.in_ok-memory.ensures.words)) (fresh_keeps c.args.segments c.requires.some)
