use Rattle.seg_array.proofs.ChangesHold.{header_rule, header_places}
use Rattle.seg_array.proofs.laws.array_law.Goals as goal

pub returns : goal.returns
returns c = record { rule = header_rule; places = header_places }
