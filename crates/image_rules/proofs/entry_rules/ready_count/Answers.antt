use Rattle.std.proofs.Common.{◌≡◌, ℕ, ◌<◌, ◌≤◌, List, get_or, sym, subst, arith}
use Rattle.image_layout.specs.Fixed.{ready_at}
use Rattle.image_layout.specs.Checks.{Keeps}
use Rattle.image_layout.specs.EntryRules.{objects_rule}
use Rattle.image_rules.proofs.EntryChecks.{ready_most}
use Rattle.image_rules.proofs.entry_rules.ready_count.Goals as goal

few : (words : List ℕ) (object at : ℕ) → at ≡ ready_at object → Keeps words objects_rule → object < 16 → get_or words at 0 ≤ 32
few words object at is keeps lt = subst (λ (p : ℕ). get_or words p 0 ≤ 32) (sym is) (ready_most words keeps object lt)

pub overflow_cast-result-2 : goal.overflow_cast-result-2
overflow_cast-result-2 c = let most = few c.args.words.now c.args.object c.ready_segments.result.0 c.ready_segments.ensures c.requires.rule c.requires.object in omega arith

pub returns-clause-most : goal.returns-clause-most
returns-clause-most c = few c.args.words.now c.args.object c.ready_segments.result.0 c.ready_segments.ensures c.requires.rule c.requires.object
