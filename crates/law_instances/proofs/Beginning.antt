-- A transaction may begin in any object of the image with two commits.
use Rattle.std.proofs.Common.{◌≡◌, ℕ, ◌<◌, ◌∷◌, length, get_or, refl, arith}
use Rattle.std.specs.Prelude.{Contains}
use Rattle.image_layout.specs.Fixed.{commit_word_at, state_at}
use Rattle.image_layout.specs.Objects.{entry_places}
use Rattle.image_layout.proofs.Members.{Contains-here, Contains-there}
use Rattle.image_layout.proofs.OwnersApart.{all_from}
use Rattle.fitting_plans.specs.Transactions.{IsObjectOf, MayBegin, MayClear}
use Rattle.shown_state.specs.CommitLaws.{two_commit_image}
use Rattle.shown_state.specs.OpeningParts.{IsImage}
use Rattle.shown_state.proofs.Opening.{object_is_closed}
use Rattle.shown_state.proofs.Sounds.{sound_fits}
use Rattle.law_instances.proofs.WorkedImages.{two_commits_are_sound}

is_image : IsImage two_commit_image
unfolding two_commit_image
is_image = record { segments = refl; one_or_more = omega (arith, size) }
  where
    size : length two_commit_image ≡ 32768
    size = refl

module _ (object : ℕ) (lt : object < 16) where
  its : IsObjectOf two_commit_image object
  its = record { image = is_image; fits = sound_fits two_commit_image is_image two_commits_are_sound; number = lt }

  closed : (at : ℕ) → Contains (state_at object ∷ commit_word_at object ∷ entry_places two_commit_image object) at → get_or two_commit_image at 0 ≡ 0
  closed at = object_is_closed two_commit_image two_commits_are_sound.intact object at lt

  pub may_begin : MayBegin two_commit_image object
  may_begin = record {
    its = its;
    unset = closed (commit_word_at object) (Contains-there (state_at object) (commit_word_at object) (commit_word_at object ∷ entry_places two_commit_image object) (Contains-here (commit_word_at object) (entry_places two_commit_image object)));
    none = all_from (λ (at : ℕ). get_or two_commit_image at 0 ≡ 0) (entry_places two_commit_image object) (λ at is. closed at
        (Contains-there (state_at object) at (commit_word_at object ∷ entry_places two_commit_image object) (Contains-there (commit_word_at object) at (entry_places two_commit_image object) is)));
  }

  pub may_clear : MayClear two_commit_image object
  may_clear = record { its = its; closed = closed (state_at object) (Contains-here (state_at object) (commit_word_at object ∷ entry_places two_commit_image object)) }
