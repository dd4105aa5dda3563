use Rattle.shown_state.proofs.Commits.{commits_are_counted, created_are_stamped, ended_are_stamped, created_have_their_values, commits_ascend}
use Rattle.shown_state.proofs.commit_laws.commits_law.Goals as goal

pub returns : goal.returns
returns c = record { counted = commits_are_counted; created = created_are_stamped; ended = ended_are_stamped; values = created_have_their_values; ascend = commits_ascend }
