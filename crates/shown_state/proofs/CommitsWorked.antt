-- The worked images show their states.
use Rattle.std.proofs.Common.{refl}
use Rattle.image_layout.specs.Arrays.{chunk_of}
use Rattle.image_layout.specs.Tables.{column_record, inner_columns}
use Rattle.image_layout.specs.Objects.{entry_places}
use Rattle.shown_state.specs.LogicalState.{name_at, logical_state}
use Rattle.shown_state.specs.CommitLaws.{one_table_image, OneTableIsShown, two_commit_image, TwoCommitsAreShown}

pub one_table_is_shown : OneTableIsShown
unfolding one_table_image logical_state name_at entry_places inner_columns column_record
one_table_is_shown = (refl, refl)

pub two_commits_are_shown : TwoCommitsAreShown
unfolding two_commit_image logical_state name_at entry_places chunk_of inner_columns column_record
two_commits_are_shown = (refl, refl)
