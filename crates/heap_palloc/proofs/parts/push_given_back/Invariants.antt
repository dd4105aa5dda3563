use Rattle.std.proofs.Common.{◌≡◌, ◌+◌, ◌≤◌, ◌++◌, length}
use Rattle.std.specs.List.{range_with_len}
use Rattle.heap_palloc.specs.Parts.{forget_given_back}
use Rattle.heap_palloc.proofs.parts.push_given_back.Given as goal

abbrev pub invariant-loop-page : goal.invariant-loop-page
invariant-loop-page g l =
    record {
      left : l.plan.left ≡ l.fn.plan.left ++ forget_given_back (g.M.Memory.device l.mem).cached (range_with_len l.run.first l.page);
      count : l.count ≡ length (forget_given_back (g.M.Memory.device l.mem).cached (range_with_len l.run.first l.page));
      most : l.count ≤ l.page;
      spare : l.plan.spare + l.count ≡ l.fn.plan.spare;
      room : l.run.pages ≤ l.fn.plan.spare;
    }
