use Rattle.chv_sip.proofs.LastIds.{last_ids-last_ids}
use Rattle.chv_sip.proofs.laws.law_last_ids.Goals as goal

-- src/laws.rt:7:1
pub returns : goal.returns
returns c = last_ids-last_ids
