use Rattle.law_instances.proofs.HeldPage.{is_image, is_lost, is_target, it_fits, may_make}
use Rattle.law_instances.proofs.holds.held_page_law.Goals as goal

pub returns : goal.returns
returns c = record { fits = (is_image, it_fits); may = may_make; target = is_target; lost = is_lost }
