use Rattle.chv_agg.proofs.JoinFits.{join_bytes-fits}
use Rattle.chv_agg.proofs.StateFrontLemmas.{join_bytes-assoc, join_bytes-comm, join_bytes-joined}
use Rattle.chv_agg.proofs.byte_laws.law_join_bytes.Goals as goal

pub returns : goal.returns
returns c = record { fits = join_bytes-fits; joined = join_bytes-joined; commutative = join_bytes-comm; associative = join_bytes-assoc }
