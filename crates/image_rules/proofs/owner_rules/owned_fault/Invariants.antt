use Rattle.std.proofs.Common.{◌≡◌, ◌/◌, ◌%◌}
use Rattle.image_layout.specs.Blocks.{inside_at}
use Rattle.image_rules.proofs.OwnedChecks.{PagesBelow}
use Rattle.image_rules.proofs.owner_rules.owned_fault.Given as goal

abbrev pub invariant-loop-page : goal.invariant-loop-page
invariant-loop-page l = record {
  inside : l.inside ≡ inside_at l.words (l.page / 64) (l.page % 64);
  each : PagesBelow l.words l.owned l.page;
}
