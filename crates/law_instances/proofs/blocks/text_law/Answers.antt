use Rattle.law_instances.proofs.FirstText.{is_written, may_write, reads_back, stands}
use Rattle.law_instances.proofs.blocks.text_law.Goals as goal

pub returns : goal.returns
returns c = record {
  may = λ segments text some short. may_write segments text some short;
  written = λ segments text some short. is_written segments text some short;
  back = λ segments text some short utf8. reads_back segments text some short utf8;
  sound = λ segments text some short utf8. stands segments text some short utf8;
}
