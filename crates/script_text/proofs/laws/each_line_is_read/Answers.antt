use Rattle.script_text.proofs.EachLine.{reads-each-line}
use Rattle.script_text.proofs.laws.each_line_is_read.Goals as goal

pub returns : goal.returns
returns c = reads-each-line
