use Rattle.chv_bytes.proofs.NumberLemmas.{bytes_of_number}
use Rattle.chv_bytes.proofs.laws.law_bytes_of_number.Goals as goal

pub returns : goal.returns
returns c = bytes_of_number
