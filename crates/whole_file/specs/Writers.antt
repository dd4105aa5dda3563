-- What a writer stands over, and whether it has failed.
use Rattle.std.specs.Prelude.{Bool}
use Rattle.whole_file.specs.declared.writer.WholeFile.{WholeFile}

abbrev pub place_of : {P : Type 0} → WholeFile P → P
place_of file = file.place

abbrev pub has_failed : {P : Type 0} → WholeFile P → Bool
has_failed file = file.failed
