use Rattle.std.proofs.Common.{◌≡◌, ◌+◌, ◌-◌, subst, arith}
use Rattle.seg_array.specs.Calls.{IsHeader}
use Rattle.object_tests.proofs.growths.check_growth.Goals as goal

pub grow-requires-clause-header : goal.grow-requires-clause-header
grow-requires-clause-header g c =
    let at : c.in_ok-block.block.0 + (c.args.header - 2056) ≡ c.args.header = omega arith in
    subst (IsHeader c.create.new.memory.cached.items) at (c.in_ok-block.ensures.headers (c.args.header - 2056) (omega arith))
