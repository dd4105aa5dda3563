use Rattle.command_line.proofs.EachPart.{reads-each-part}
use Rattle.command_line.proofs.laws.each_part_is_read.Goals as goal

pub returns : goal.returns
returns c = reads-each-part
