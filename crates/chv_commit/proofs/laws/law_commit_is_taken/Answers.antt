use Rattle.chv_commit.proofs.TakenLemmas.{taken-Takes, taken-from_Takes}
use Rattle.chv_commit.proofs.laws.law_commit_is_taken.Goals as goal

pub returns : goal.returns
returns c = record { fits = taken-Takes; taken = taken-from_Takes }
