use Rattle.shown_state.proofs.CommitsWorked.{one_table_is_shown, two_commits_are_shown}
use Rattle.shown_state.proofs.commit_laws.worked_images_law.Goals as goal

pub returns : goal.returns
returns c = record { one_table = one_table_is_shown; two_commits = two_commits_are_shown }
