use Rattle.std.proofs.Common.{map, string_bytes}
use Rattle.command_line.proofs.Commands.{read-sizes}
use Rattle.command_line.proofs.words.read_words.Goals as goal

pub returns-clause-segments : goal.returns-clause-segments
returns-clause-segments c = read-sizes (map string_bytes c.args.words.now) c.read_command.result c.read_command.ensures.read
