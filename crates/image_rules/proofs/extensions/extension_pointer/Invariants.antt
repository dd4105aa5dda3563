use Rattle.std.proofs.Common.{◌≡◌, ◌<◌, length}
use Rattle.image_layout.specs.Tables.{extension_pointer_at}
use Rattle.image_rules.proofs.extensions.extension_pointer.Given as goal

abbrev pub invariant-loop-extension : goal.invariant-loop-extension
invariant-loop-extension l = record {
  pointer : l.pointer.0 ≡ extension_pointer_at l.words l.block.0 l.extension;
  within : l.pointer.0 < length l.words;
}
