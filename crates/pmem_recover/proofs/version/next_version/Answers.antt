use Rattle.std.proofs.Common.{◌≤◌, ℕ, false, List, length, refl, sym, arith}
use Rattle.std.proofs.lemmas.Bool.{both_ways}
use Rattle.pmem_recover.proofs.VersionChanges.{first_read, later_read, no_parts, some_parts}
use Rattle.pmem_recover.proofs.version.next_version.Goals as goal

pub returns-then-load-ne-FIRST_VERSION-clause-none : goal.returns-then-load-ne-FIRST_VERSION-clause-none
returns-then-load-ne-FIRST_VERSION-clause-none g c =
    let words : List ℕ = (g.M.Memory.device c.args.mem.now).cached in (
      λ e number from lt. no_parts words (later_read words c.version.result.0 c.load.result c.version.ensures c.load.ensures c.if-load-ne-FIRST_VERSION.true) number,
      λ none. refl,
    )

pub plan_version-requires-clause-first : goal.plan_version-requires-clause-first
plan_version-requires-clause-first g c =
    first_read (g.M.Memory.device c.args.mem.now).cached c.version.result.0 c.load.result c.version.ensures c.load.ensures c.if-load-ne-FIRST_VERSION.false

pub returns-clause-next : goal.returns-clause-next
returns-clause-next g c =
    let words : List ℕ = (g.M.Memory.device c.args.mem.now).cached in
    let some : 32768 ≤ length words = (g.met.M.Memory.whole c.args.mem.now).one_or_more in
    record {
      is_from = omega (arith, c.if-from-gt0.false);
      number_is = omega arith;
      some = some_parts words some (first_read words c.version.result.0 c.load.result c.version.ensures c.load.ensures c.if-load-ne-FIRST_VERSION.false);
      plan_is = c.in_ok-plan.ensures;
      passed = λ other from lt. absurd (omega (arith, lt));
    }

pub returns-clause-none : goal.returns-clause-none
returns-clause-none g c =
    let words : List ℕ = (g.M.Memory.device c.args.mem.now).cached in
    let some : 32768 ≤ length words = (g.met.M.Memory.whole c.args.mem.now).one_or_more in (
      λ e. absurd (both_ways false refl (sym e)),
      λ none. absurd (some_parts words some (first_read words c.version.result.0 c.load.result c.version.ensures c.load.ensures c.if-load-ne-FIRST_VERSION.false) (none 0 (omega (arith, c.if-from-gt0.false)) (omega arith))),
    )
