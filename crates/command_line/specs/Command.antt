-- The command that `clap` is given, as a parse reads it.
use Rattle.std.specs.Prelude.{true, List, ◌∷◌, map, Some, codes}
use Rattle.clap.specs.Words.{App, Rule, Text, new_app, new_rule}
use Rattle.clap.specs.declared.builder.action.ArgAction.TheVariants.{Append}
use Rattle.command_line.specs.Parts.{path}

-- the argument that takes the paths
abbrev pub path_rule : Rule
path_rule = record (new_rule path) { action = Some Append }

-- the option with this name
abbrev pub option_rule : Text → Rule
option_rule name = record (new_rule name) { long = Some name; action = Some Append }

-- the command with paths and options of these names
abbrev pub app_for : List Text → App
app_for known = record (new_app (codes "sofort")) {
  top = record (new_app (codes "sofort")).top {
    rules = path_rule ∷ map option_rule known;
    no_binary_name = true;
    disable_help_flag = true;
    disable_version_flag = true;
  };
}
