use Rattle.chv_commit.proofs.CommitLemmas.{commit_spelling-injective}
use Rattle.chv_commit.proofs.laws.law_commit_reads_back.Goals as goal

pub returns : goal.returns
returns c = commit_spelling-injective
