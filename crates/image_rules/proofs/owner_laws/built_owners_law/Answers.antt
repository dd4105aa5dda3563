use Rattle.image_rules.proofs.BuiltOwners.{owners_same, owner_rule_same, single_owner_rule_same, owned_rule_same}
use Rattle.image_rules.proofs.LeafLinks.{links_listed}
use Rattle.image_rules.proofs.owner_laws.built_owners_law.Goals as goal

pub returns : goal.returns
returns c = record {
  links = λ words column trees is. links_listed words trees column is;
  owners = owners_same;
  named = owner_rule_same;
  single = single_owner_rule_same;
  owned = owned_rule_same;
}
