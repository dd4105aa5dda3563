use Rattle.row_stamps.proofs.Left.{visible_left, left_visible}
use Rattle.row_stamps.proofs.laws.stamps_law.Goals as goal

pub returns-clause-visible : goal.returns-clause-visible
returns-clause-visible c = λ commits row b e snapshot stamps within. (visible_left commits row b e snapshot stamps within, left_visible commits row b e snapshot stamps within)
