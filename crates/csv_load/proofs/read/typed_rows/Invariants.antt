use Rattle.std.proofs.Common.{◌≡◌, ◌+◌, ◌-◌, ℕ, List, Some, length, true}
use Rattle.csv.specs.Reading.{Ready, default_config, source_of, strip_bom}
use Rattle.csv.specs.declared.reader.Trim.TheVariants as trim
use Rattle.csv_load.proofs.Table.{SoFar}
use Rattle.csv_load.proofs.read.typed_rows.Given as goal

abbrev pub invariant-records : goal.invariant-records
invariant-records l = (l.reader.trim ≡ trim.None) × Ready l.reader × (l.reader.flexible ≡ true) × (l.reader.config ≡ default_config)
    × (rest : List ℕ) × (source_of (λ s. Some s.now) l.reader ≡ Some rest)
    × SoFar (strip_bom l.fn.bytes) l.shape l.reader.state rest l.rows.items

-- each record but the last takes a byte
abbrev pub decreases-records : goal.decreases-records
decreases-records l = length (strip_bom l.fn.bytes) + 2 - length l.rows.items
