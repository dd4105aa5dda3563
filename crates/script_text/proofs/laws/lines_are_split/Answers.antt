use Rattle.script_text.proofs.Split.{splits-lines}
use Rattle.script_text.proofs.laws.lines_are_split.Goals as goal

pub returns : goal.returns
returns c = splits-lines
