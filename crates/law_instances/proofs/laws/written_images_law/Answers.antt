use Rattle.shown_state.specs.CommitLaws.{two_commit_image}
use Rattle.txn_object.proofs.ChangesHold.{intact_extension}
use Rattle.image_rules.proofs.BuiltOwners.{owners_same}
use Rattle.law_instances.proofs.WorkedImages.{first_version_begins, first_version_is_image, first_version_is_intact, first_version_is_old, first_version_is_quiet, first_version_is_shown, next_extension_is_target, two_commits_are_quiet, two_commits_are_sound, two_commits_create, two_commits_have_arrays, two_commits_have_no_texts, two_commits_may_grow}
use Rattle.law_instances.proofs.laws.written_images_law.Goals as goal

pub returns : goal.returns
returns c = record {
  sound = two_commits_are_sound;
  shown = first_version_is_shown;
  first = first_version_is_old;
  intact = (first_version_is_image, first_version_is_intact, first_version_begins);
  next = next_extension_is_target;
  arrays = λ header one_of. two_commits_have_arrays header one_of;
  extends = λ index object lt index_of. intact_extension two_commit_image index object lt two_commits_are_sound.intact index_of;
  creates = two_commits_create;
  quiet = (two_commits_are_quiet, first_version_is_quiet);
  no_texts = two_commits_have_no_texts;
  owners = owners_same two_commit_image two_commits_have_no_texts;
  grows = λ index index_of. two_commits_may_grow index index_of;
}
