-- Which path a file of a command has.
use Rattle.std.specs.Prelude.{ℕ, List, Option}
use Rattle.command_line.specs.declared.words.Paths.{Paths}
use Rattle.sofort_main.specs.declared.paths.Role.{Role}
use Rattle.sofort_main.specs.declared.paths.Role.TheVariants as role

abbrev pub path_in : Role → Paths → Option (List ℕ)
path_in role.Image paths = paths.image
path_in role.Input paths = paths.input
path_in role.ImageOut paths = paths.image_out
