-- The records of a table's columns lie in the image.
use Rattle.std.proofs.Common.{⊎_elim, ℕ, ◌+◌, ◌-◌, ◌<◌, ◌≤◌, List, length, arith}
use Rattle.std.proofs.lemmas.Bool.{cases_lt}
use Rattle.image_layout.specs.Tables.{HasRecords, column_count, column_record, inner_columns}
use Rattle.image_layout.proofs.TableParts.{inner_record, outer_record}

pub record_within : (words : List ℕ) (block number : ℕ) → HasRecords words block → number < column_count words block → column_record words block number + 40 ≤ length words
record_within words block number has within =
    let inner = inner_columns words block in
    ⊎_elim
    (λ lt. let is = inner_record words block number lt in let all = has.within in omega (arith, lt, is, all))
    (λ le. let is = outer_record words block number le in let extension = (has.extensions (number - inner) (omega (arith, le, within))).within in omega (arith, is, extension))
    (cases_lt number inner)
