-- What a file in its folder is at, and whether all that was written is on the disk.
use Rattle.std.specs.Prelude.{Bool}
use Rattle.whole_file.specs.declared.folder.FolderFile.{FolderFile}
use Rattle.whole_file.specs.declared.place.Stage.{Stage}

abbrev pub stage_in : {R : Type 0} → FolderFile R → Stage
stage_in file = file.stage

abbrev pub is_synced : {R : Type 0} → FolderFile R → Bool
is_synced file = file.synced
