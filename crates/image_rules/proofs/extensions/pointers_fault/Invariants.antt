use Rattle.std.proofs.Common.{◌≡◌, ℕ, ◌<◌, true, length, take, map}
use Rattle.image_layout.specs.Places.{below}
use Rattle.image_layout.specs.Tables.{extension_of, extension_pointer_at}
use Rattle.image_layout.specs.EntryRules.{is_extension_pointer}
use Rattle.image_rules.proofs.extensions.pointers_fault.Given as goal

abbrev pub invariant-loop-extension : goal.invariant-loop-extension
invariant-loop-extension l = record {
  pointer : l.pointer ≡ extension_pointer_at l.words l.fn.block.0 l.extension;
  within : l.pointer < length l.words;
  reached : take l.extension l.reached ≡ map (extension_of l.words l.fn.block.0) (below l.extension);
  holds : (x : ℕ) → x < l.extension → is_extension_pointer l.words l.fn.block.0 x ≡ true;
}
