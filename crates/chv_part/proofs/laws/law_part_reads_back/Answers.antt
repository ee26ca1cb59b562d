use Rattle.chv_part.proofs.PartLemmas.{IsPartFile-unique}
use Rattle.chv_part.proofs.laws.law_part_reads_back.Goals as goal

pub returns : goal.returns
returns c = IsPartFile-unique
