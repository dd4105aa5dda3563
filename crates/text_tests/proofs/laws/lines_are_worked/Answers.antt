use Rattle.std.proofs.Common.{refl}
use Rattle.text_tests.proofs.laws.lines_are_worked.Goals as goal

pub returns-clause-statements : goal.returns-clause-statements
returns-clause-statements c = record {
  create = refl;
  begin = refl;
  insert = refl;
  get = refl;
  update = refl;
  delete = refl;
  commit = refl;
  abort = refl;
  await_later = refl;
  await_earlier = refl;
}

pub returns-clause-comparisons : goal.returns-clause-comparisons
returns-clause-comparisons c = record {
  scan = refl;
  count = refl;
  sum = refl;
  equal = refl;
  below = refl;
  at_most = refl;
  above = refl;
  at_least = refl;
  between = refl;
  counted = refl;
  summed = refl;
}
