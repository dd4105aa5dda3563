use Rattle.std.proofs.Common.{◌∙◌, sym, ap, subst, Option}
use Rattle.pm_image.specs.declared.error.ImageError.{ImageError}
use Rattle.pm_image.specs.Fault.{Answers, first_fault}
use Rattle.pm_image.proofs.Again.{no_fault, cut, reads_spelled}
use Rattle.pm_image.proofs.decoding.decode.Goals as goal

pub returns-clause-reads_back : goal.returns-clause-reads_back
returns-clause-reads_back c = λ words image e. reads_spelled c.read_image.result c.args.bytes.now words c.read_image.ensures.exact c.read_image.ensures.found image e

pub returns-clause-prefix : goal.returns-clause-prefix
returns-clause-prefix c = λ words more image some e.
    subst (λ (fault : Option ImageError). Answers c.read_image.result fault) (cut c.args.bytes.now more some (ap first_fault (sym e) ∙ no_fault words image)) c.read_image.ensures.exact
