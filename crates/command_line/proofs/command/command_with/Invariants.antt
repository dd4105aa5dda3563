use Rattle.std.proofs.Common.{◌≡◌, map, drop}
use Rattle.clap.specs.Words.{app_of}
use Rattle.command_line.specs.Command.{app_for}
use Rattle.command_line.proofs.Building.{added}
use Rattle.command_line.proofs.command.command_with.Given as goal

abbrev pub invariant-loop-name : goal.invariant-loop-name
invariant-loop-name l =
    added (app_of l.command) (map (λ name. name.now) (drop l.name-index l.options)) ≡ app_for (map (λ name. name.now) l.options)
