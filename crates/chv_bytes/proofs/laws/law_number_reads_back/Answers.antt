use Rattle.byteorder.specs.Numbers.{little_number-reads_back}
use Rattle.chv_bytes.proofs.laws.law_number_reads_back.Goals as goal

pub returns : goal.returns
returns c = little_number-reads_back
