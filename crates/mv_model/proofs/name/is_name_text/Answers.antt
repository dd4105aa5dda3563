use Rattle.std.proofs.Common.{rules}
use Rattle.mv_model.proofs.name.is_name_text.Goals as goal

pub returns-then-has_name_bytes : goal.returns-then-has_name_bytes
returns-then-has_name_bytes c = search rules
