use Rattle.shown_state.proofs.Leaves.{stored_leaves_are_whole}
use Rattle.shown_state.proofs.Walks.{pointers_name_their_place, walks_are_whole}
use Rattle.shown_state.proofs.laws.walk_law.Goals as goal

pub returns : goal.returns
returns c = record { pointers = pointers_name_their_place; walks = walks_are_whole; leaves = stored_leaves_are_whole }
