use Rattle.stage_view.proofs.Commits.{commit-beside, decided-may_end}
use Rattle.stage_view.proofs.laws.commit_law.Goals as goal

pub returns : goal.returns
returns g c = record {
  decided = λ here commit m.
      commit-beside here.session here.object commit.number commit.created commit.ended commit.bound here.reads here.base g.P.Claim.holds g.Q.Claim.holds m.reads m.below m.follows m.plan m.may;
  between = λ words object commit places m. decided-may_end words object commit.number commit.created commit.ended commit.bound m.may m.size places m.behind;
}
