use Rattle.std.proofs.Common.{◌≡◌, ◌<◌, length}
use Rattle.image_layout.specs.Tables.{extension_pointer_at}
use Rattle.catalog.proofs.reading.extension.Given as goal

abbrev pub invariant-loop-extension : goal.invariant-loop-extension
invariant-loop-extension g l = record {
  pointer : l.pointer.0 ≡ extension_pointer_at (g.M.Memory.device l.mem).cached l.block.0 l.extension;
  within : l.pointer.0 < length (g.M.Memory.device l.mem).cached;
}
