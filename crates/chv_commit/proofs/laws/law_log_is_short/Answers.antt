use Rattle.chv_commit.proofs.ShortLemmas.{taken-short}
use Rattle.chv_commit.proofs.laws.law_log_is_short.Goals as goal

pub returns : goal.returns
returns c = λ window old new commit of. taken-short window old new commit
